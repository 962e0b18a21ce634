-- The operators give values below the modulus.
use Rattle.std.proofs.Common.{ℕ, ◌+◌, ◌*◌, ◌<◌, List, [], ◌∷◌, ◌≡◌, ◌≤◌, refl, inl, inr, ◌⊎◌, arith}
use Rattle.std.proofs.lemmas.Nat.{mod_below}
use Rattle.std.specs.Prelude.{max, fold, sum, unsigned_abs, slice_index}
use Rattle.std.specs.List.{AllByRecursion}
use Rattle.std.proofs.lemmas.List.Elements.{recursion_from_All}
use Rattle.std.proofs.lemmas.Bool.{cases_lt}
use Rattle.samr_box.specs.declared.vector.IVec.{IVec}
use Rattle.samr_box.specs.Lists.{Member}
use Rattle.samr_ops.specs.declared.rules.RefineRule.{RefineRule}
use Rattle.samr_ops.specs.declared.rules.RefineRule.TheVariants.{Same, Ramp}
use Rattle.samr_ops.specs.declared.rules.CoarsenRule.TheVariants.{First, Max, Sum}
use Rattle.samr_ops.specs.Rules.{refined_by}
use Rattle.samr_ops.specs.Laws.{RefinedValuesFit, UpdatedValuesFit, CoarsenedValuesFit, MaxIsTheGreatest}

refined_fits : (rule : RefineRule) (modulus v : ℕ) (o : IVec) → 0 < modulus → v < modulus → refined_by rule modulus v o < modulus
refined_fits Same modulus v o some h = h
refined_fits Ramp modulus v o some h = mod_below (v + unsigned_abs o.i + unsigned_abs o.j + unsigned_abs o.k) modulus some

pub refined_values_fit : RefinedValuesFit
refined_values_fit r v o rules h = refined_fits r.refine r.modulus v o (omega (arith, rules.some)) h

pub updated_values_fit : UpdatedValuesFit
updated_values_fit r v neighbours rules = mod_below (r.centre * v + r.face * neighbours) r.modulus (omega (arith, rules.some))

first_fits : (m : ℕ) (xs : List ℕ) → 0 < m → AllByRecursion (λ v. v < m) xs → slice_index xs 0 < m
first_fits m [] some a = some
first_fits m (x ∷ xs) some a = a.0

greatest_fits : (m start : ℕ) (xs : List ℕ) → start < m → AllByRecursion (λ v. v < m) xs → fold max start xs < m
greatest_fits m start [] h a = h
greatest_fits m start (x ∷ xs) h a = let first = a.0 in greatest_fits m (max start x) xs (omega (arith, h, first)) a.1

pub coarsened_values_fit : CoarsenedValuesFit
coarsened_values_fit First modulus children some all = first_fits modulus children some (recursion_from_All (λ v. v < modulus) children all)
coarsened_values_fit Max modulus children some all = greatest_fits modulus 0 children some (recursion_from_All (λ v. v < modulus) children all)
coarsened_values_fit Sum modulus children some all = mod_below (sum children) modulus some

-- the greatest of some values
start_below : (start : ℕ) (xs : List ℕ) → start ≤ fold max start xs
start_below start [] = omega arith
start_below start (x ∷ xs) = let rest = start_below (max start x) xs in omega (arith, rest)

member_below : (start : ℕ) (xs : List ℕ) (v : ℕ) → Member v xs → v ≤ fold max start xs
member_below start [] v m = absurd m
member_below start (x ∷ xs) v (inl here) = let rest = start_below (max start x) xs in omega (arith, rest, here)
member_below start (x ∷ xs) v (inr later) = member_below (max start x) xs v later

reached : (start : ℕ) (xs : List ℕ) → (fold max start xs ≡ start) ⊎ Member (fold max start xs) xs
reached start [] = inl refl
reached start (x ∷ xs) = elim (reached (max start x) xs) [
  | inl here ↦ elim (cases_lt start x) [
    | inl less ↦ inr (inl (omega (arith, here, less)))
    | inr most ↦ inl (omega (arith, here, most))
  ]
  | inr later ↦ inr (inr later)
]

pub max_is_the_greatest : MaxIsTheGreatest
max_is_the_greatest modulus first rest = record {
  most = member_below 0 (first ∷ rest);
  reached = elim (reached (max 0 first) rest) [
    | inl here ↦ inl (omega (arith, here))
    | inr later ↦ inr later
  ];
}
