-- The planes that are kept of an axis: each plane with a tag lies among them.
use Rattle.std.proofs.Common.{◌≡◌, ℕ, zero, suc, ◌+◌, ◌-◌, ◌<◌, ◌≤◌, Bool, false, List, [], ◌∷◌, length, get_or, drop, ap, sym, ◌∙◌, inl, inr, arith, length-drop}
use Rattle.std.specs.Prelude.{nat_eq, sum, reverse}
use Rattle.std.proofs.lemmas.Bool.{cases_lt, false≢true, ne_eqb}
use Rattle.std.proofs.lemmas.List.{length-take-le, length-reverse, get_or-reverse}
use Rattle.std.proofs.lemmas.List.Sums.{prefix_len_passes, sum_by-cons}
use Rattle.samr_sign.specs.Line.{leading, trailing, kept}

abbrev none : ℕ → Bool
none n = nat_eq n 0

-- a list with a sum has a plane with a tag
pub some_place : (s : List ℕ) → 0 < sum s → (k : ℕ) × (k < length s) × (nat_eq (get_or s k 0) 0 ≡ false)
some_place [] h = absurd (omega arith)
some_place (zero ∷ s) h =
    let rest : 0 < sum s = omega (arith, sum_by-cons (λ n. n) 0 s) in
    let found = some_place s rest in
    (suc found.0, omega (arith, found.1), found.2)
some_place (suc n ∷ s) h = (0, omega arith, ne_eqb (suc n) 0 (λ e. omega (arith, e)))

-- a plane with a tag comes behind the first planes and before the last
pub behind_leading : (s : List ℕ) (k : ℕ) → nat_eq (get_or s k 0) 0 ≡ false → leading s ≤ k
behind_leading s k h =
    elim (cases_lt k (leading s)) [
      | inl less ↦ absurd (false≢true (sym h ∙ prefix_len_passes none s k 0 less))
      | inr more ↦ more
    ]

pub before_trailing : (s : List ℕ) (k : ℕ) → k < length s → nat_eq (get_or s k 0) 0 ≡ false → k + trailing s < length s
before_trailing s k p h =
    let m = length s - 1 - k in
    let back : length s - 1 - m ≡ k = omega arith in
    let long : length (reverse s) ≡ length s = length-reverse s in
    let here : get_or (reverse s) m 0 ≡ get_or s k 0 = get_or-reverse s m 0 (omega arith) ∙ ap (λ (v : ℕ). get_or s v 0) back in
    elim (cases_lt m (trailing s)) [
      | inl less ↦ absurd (false≢true (sym h ∙ ap none (sym here) ∙ prefix_len_passes none (reverse s) m 0 less))
      | inr more ↦ omega arith
    ]

pub length_kept : (s : List ℕ) → length (kept s) ≡ (length s - trailing s) - leading s
length_kept s = length-take-le ((length s - trailing s) - leading s) (drop (leading s) s) (omega (arith, length-drop (leading s) s))

-- where there is a tag, something is kept
pub kept_some : (s : List ℕ) → 0 < sum s → leading s + trailing s < length s
kept_some s h =
    let found = some_place s h in
    omega (arith, behind_leading s found.0 found.2, before_trailing s found.0 found.1 found.2)
