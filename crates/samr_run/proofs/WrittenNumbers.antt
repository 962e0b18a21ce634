-- Numbers in a range that a text writes.
use Rattle.std.proofs.Common.{◌≡◌, ℕ, zero, suc, ◌+◌, ◌-◌, ◌<◌, ◌≤◌, ◌^◌, List, Bool, true, false, Some, None, Result, Ok, refl, ap, arith, sym, ◌∙◌, inl, inr}
use Rattle.std.specs.Fmt.{decimal}
use Rattle.std.specs.List.{find, range_with_len}
use Rattle.std.specs.Str.{bytes_eq}
use Rattle.std.specs.Str.Parse.{ParsesUnsigned}
use Rattle.std.proofs.lemmas.Fmt.{parse-decimal}
use Rattle.std.proofs.lemmas.Slice.Eq.{bytes_eq-Decides}
use Rattle.std.proofs.Math.Nat.{eq-or-lt_of_le}
use Rattle.samr_run.specs.Words.{number_between}

fails_unless : (b : Bool) → (b ≡ true → ⊥) → b ≡ false
fails_unless true h = absurd (h refl)
fails_unless false h = refl

-- no number of the range passes
find_none : (p : ℕ → Bool) (a n : ℕ) → ((k : ℕ) → a ≤ k → k < a + n → p k ≡ false) → find p (range_with_len a n) ≡ None
find_none p a zero none = refl
find_none p a (suc n) none =
    rw (none a (omega arith) (omega arith)) (find_none p (a + 1) n (λ k low high. none k (omega arith) (omega arith)))

-- one does, and none before it
find_some : (p : ℕ → Bool) (a n v : ℕ) → a ≤ v → v < a + n → p v ≡ true → ((k : ℕ) → a ≤ k → k < v → p k ≡ false)
    → find p (range_with_len a n) ≡ Some v
find_some p a zero v low high passes before = absurd (omega arith)
find_some p a (suc n) v low high passes before = elim (eq-or-lt_of_le low) [
  | inl same ↦ let here : p a ≡ true = ap p same ∙ passes in rw here (ap (λ (k : ℕ). Some k) same)
  | inr later ↦ rw (before a (omega arith) later)
      (find_some p (a + 1) n v (omega (arith, later)) (omega arith) passes (λ k from to. before k (omega arith) to))
]

-- where `parse` gives no number of the range that the text writes, there is none
pub number-none : {E : Type 0} (low high : ℕ) (word : List ℕ) (r : Result ℕ E) → high < 2 ^ 64 → ParsesUnsigned 64 10 word r
    → ((n : ℕ) → r ≡ Ok n → low ≤ n → n ≤ high → decimal n ≡ word → ⊥) → number_between low high word ≡ None
unfolding number_between
number-none low high word r small parses none =
    find_none (λ n. bytes_eq (decimal n) word) low (suc high - low) (λ k from to.
    fails_unless (bytes_eq (decimal k) word) (λ t.
    let same : decimal k ≡ word = (bytes_eq-Decides (decimal k) word).0 t in
    none k (parse-decimal 64 k word r (omega arith) (omega arith) (sym same) parses) from (omega arith) same))

pub same_number : {E : Type 0} (r : Result ℕ E) (m n : ℕ) → r ≡ Ok m → r ≡ Ok n → m ≡ n
same_number r m n p q = cc

-- where it gives one, that is the number
pub number-some : {E : Type 0} (low high : ℕ) (word : List ℕ) (r : Result ℕ E) (v : ℕ) → high < 2 ^ 64 → ParsesUnsigned 64 10 word r
    → r ≡ Ok v → low ≤ v → v ≤ high → decimal v ≡ word → number_between low high word ≡ Some v
unfolding number_between
number-some low high word r v small parses is from to writes =
    find_some (λ n. bytes_eq (decimal n) word) low (suc high - low) v from (omega arith)
    ((bytes_eq-Decides (decimal v) word).1 writes)
    (λ k a b. fails_unless (bytes_eq (decimal k) word) (λ t.
    let same : decimal k ≡ word = (bytes_eq-Decides (decimal k) word).0 t in
    let again : k ≡ v = same_number r k v (parse-decimal 64 k word r (omega arith) (omega arith) (sym same) parses) is in
    absurd (omega arith)))
