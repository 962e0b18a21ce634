-- Sums along the lines of a row, and over the numbers below a bound but one.
use Rattle.std.proofs.Common.{◌≡◌, ◌≢◌, ℕ, zero, suc, ◌+◌, ◌<◌, refl, ap, subst, ◌∙◌, inl, inr, arith, add-one, nat_eq}
use Rattle.std.proofs.lemmas.Bool.{cases_eq, eq-eqb, ne_eqb}
use Rattle.std.proofs.lemmas.List.Sums.{sum_by-cons, sum_by-append}
use Rattle.std.specs.Prelude.{cond, [], sum_by, Option}
use Rattle.std.specs.List.{range_with_len, cons_option}
use Rattle.std.specs.Option.{option_map}
use Rattle.samr_bits.specs.Sums.{sum_below}
use Rattle.samr_bits.proofs.Sums.{sum_ext, sum_append, sum_one}
use Rattle.samr_stage.specs.Row.{along}
use Rattle.samr_stage.proofs.Rows.{along_none, along_more}

pub sum_along : {B X : Type 0} (f : X → ℕ) (make : ℕ → B → X) (line : ℕ → Option B) (n : ℕ)
    → sum_by f (along make line n) ≡ sum_below (λ k. sum_by f (cons_option (option_map (make k) (line k)) [])) n
sum_along f make line zero = ap (sum_by f) (along_none make line)
sum_along f make line (suc n) =
    let Family : ℕ → Type 0 = λ m. sum_by f (along make line m) ≡ sum_below (λ k. sum_by f (cons_option (option_map (make k) (line k)) [])) n + sum_by f (cons_option (option_map (make n) (line n)) []) in
    subst Family (add-one n)
    (ap (sum_by f) (along_more make line n) ∙ sum_by-append f (along make line n) (cons_option (option_map (make n) (line n)) [])
    ∙ ap (λ s. s + sum_by f (cons_option (option_map (make n) (line n)) [])) (sum_along f make line n))

pub sum_range : (f : ℕ → ℕ) (a n : ℕ) → sum_by f (range_with_len a n) ≡ sum_below (λ k. f (a + k)) n
sum_range f a zero = refl
sum_range f a (suc n) =
    let rest = sum_range f (a + 1) n in
    let g : ℕ → ℕ = λ k. f (a + k) in
    let order : suc n ≡ 1 + n = omega arith in
    let split = ap (sum_below g) order ∙ sum_append g 1 n in
    let first : g 0 ≡ f a = ap f (omega arith) in
    let later = sum_ext (λ k. f ((a + 1) + k)) (λ k. g (1 + k)) n (λ k p. ap f (omega arith)) in
    omega (arith, sum_by-cons f a (range_with_len (a + 1) n), rest, split, sum_one g, first, later)

-- all but one
abbrev pub but : ℕ → (ℕ → ℕ) → ℕ → ℕ
but rank f k = cond (nat_eq k rank) 0 (f k)

but_other : (rank : ℕ) (f : ℕ → ℕ) (k : ℕ) → k ≢ rank → but rank f k ≡ f k
but_other rank f k other = ap (λ t. cond {A = ℕ} t 0 (f k)) (ne_eqb k rank other)

but_same : (rank : ℕ) (f : ℕ → ℕ) (k : ℕ) → k ≡ rank → but rank f k ≡ 0
but_same rank f k same = ap (λ t. cond {A = ℕ} t 0 (f k)) (eq-eqb k rank same)

pub sum_but : (rank : ℕ) (f : ℕ → ℕ) (n : ℕ) → rank < n → sum_below (but rank f) n + f rank ≡ sum_below f n
sum_but rank f zero inside = absurd (omega (arith, inside))
sum_but rank f (suc n) inside = elim (cases_eq n rank) [
  | inl last ↦
      let before = sum_ext (but rank f) f n (λ k below. but_other rank f k (λ e. omega (arith, e, below, last))) in
      let here = but_same rank f n last in
      let same = ap f last in
      omega (arith, before, here, same)
  | inr other ↦
      let before = sum_but rank f n (omega (arith, inside, other)) in
      let here = but_other rank f n other in
      omega (arith, before, here)
]
