-- Numbers for which a test holds, where it holds for all that are less than one for which it does: how many there are, and which.
use Rattle.std.specs.Prelude.{◌≡◌, ℕ, zero, suc, ◌+◌, ◌<◌, ◌≤◌, Bool, true, false, cond, List, [], ◌∷◌, length, filter, refl}
use Rattle.std.specs.List.{range_with_len}
use Rattle.std.proofs.Common.{arith, ap, sym, ◌∙◌, subst, inl, inr, add-one}
use Rattle.std.proofs.lemmas.Bool.{cases_lt, false≢true}
use Rattle.std.proofs.lemmas.List.{length-append}
use Rattle.std.proofs.lemmas.List.Elements.{filter-append}
use Rattle.samr_cluster.proofs.ClusterOnAllLaws.{range_more}

-- of the numbers below n the test holds for those below c
pub record IsFront (p : ℕ → Bool) (n c : ℕ) : Type 0 where
  pub within : c ≤ n
  pub front : (q : ℕ) → q < c → p q ≡ true
  pub back : (q : ℕ) → c ≤ q → q < n → p q ≡ false

module _ (p : ℕ → Bool) (closed : (q : ℕ) → p (suc q) ≡ true → p q ≡ true) where
  abbrev pub counted : ℕ → ℕ
  counted n = length (filter p (range_with_len 0 n))

  earlier : (n q : ℕ) → q ≤ n → p n ≡ true → p q ≡ true
  earlier zero q less h = let e : zero ≡ q = omega (arith, less) in subst (λ (k : ℕ). p k ≡ true) e h
  earlier (suc n) q less h = elim (cases_lt q (suc n)) [
    | inl below ↦ earlier n q (omega (arith, below)) (closed n h)
    | inr above ↦ let e : suc n ≡ q = omega (arith, less, above) in subst (λ (k : ℕ). p k ≡ true) e h
  ]

  one_true : (n : ℕ) → p n ≡ true → length (filter p (n ∷ [])) ≡ 1
  one_true n e = ap (λ (t : Bool). length (cond t (n ∷ []) [])) e

  one_false : (n : ℕ) → p n ≡ false → length (filter p (n ∷ [])) ≡ 0
  one_false n e = ap (λ (t : Bool). length (cond t (n ∷ []) [])) e

  counted_more : (n : ℕ) → counted (suc n) ≡ counted n + length (filter p (n ∷ []))
  counted_more n =
      ap counted (sym (add-one n))
      ∙ ap (λ (l : List ℕ). length (filter p l)) (range_more n)
      ∙ ap length (filter-append p (range_with_len 0 n) (n ∷ []))
      ∙ length-append (filter p (range_with_len 0 n)) (filter p (n ∷ []))

  full : (n : ℕ) → p n ≡ true → IsFront p n (counted n) → counted n ≡ n
  full n e f = elim (cases_lt (counted n) n) [
    | inl less ↦ absurd (false≢true (sym (f.back (counted n) (omega arith) less) ∙ earlier n (counted n) (omega (arith, less)) e))
    | inr above ↦ omega (arith, above, f.within)
  ]

  step : (n : ℕ) (v : Bool) → p n ≡ v → IsFront p n (counted n) → IsFront p (suc n) (counted (suc n))
  step n true e f =
      let more = counted_more n in
      let one = one_true n e in
      let all = full n e f in
      record {
        within = omega (arith, more, one, f.within);
        front = λ q less. earlier n q (omega (arith, less, more, one, all)) e;
        back = λ q above less. absurd (omega (arith, more, one, all, above, less));
      }
  step n false e f =
      let more = counted_more n in
      let none = one_false n e in
      record {
        within = omega (arith, more, none, f.within);
        front = λ q less. f.front q (omega (arith, less, more, none));
        back = λ q above less. elim (cases_lt q n) [
          | inl below ↦ f.back q (omega (arith, above, more, none)) below
          | inr there ↦ let same : n ≡ q = omega (arith, there, less) in subst (λ (k : ℕ). p k ≡ false) same e
        ];
      }

  pub is_front : (n : ℕ) → IsFront p n (counted n)
  is_front zero = record {
    within = omega arith;
    front = λ q less. absurd (omega (arith, less));
    back = λ q above less. absurd (omega (arith, less));
  }
  is_front (suc n) = step n (p n) refl (is_front n)
