-- Values stay below the moduli, and cells that are not under a finer level keep theirs.
use Rattle.std.proofs.Common.{◌≡◌, ℕ, zero, suc, ◌+◌, ◌<◌, refl, ap, ◌∙◌, inl, inr}
use Rattle.std.proofs.lemmas.Bool.{cond-false}
use Rattle.std.specs.Prelude.{Bool, true, false, cond, ◌&&◌, List, [], ◌∷◌, map, zip, Some, slice_get}
use Rattle.std.specs.List.{enumerate_from}
use Rattle.samr_box.specs.declared.vector.IVec.{IVec}
use Rattle.samr_box.specs.Corners.{holds}
use Rattle.samr_box.specs.Ratios.{coarse}
use Rattle.samr_box.specs.Lists.{Member}
use Rattle.samr_box.proofs.CellSets.{Holds-test}
use Rattle.samr_box.proofs.Members.{member_of_All}
use Rattle.samr_level.specs.Refs.{Owned}
use Rattle.samr_data.specs.Grids.{over, value_at}
use Rattle.samr_data.proofs.Lists.{value_in-listed}
use Rattle.samr_ops.specs.declared.rules.CoarsenRule.{CoarsenRule}
use Rattle.samr_ops.specs.declared.rules.Rules.{Rules}
use Rattle.samr_ops.specs.Rules.{IsRules, refined_value}
use Rattle.samr_ops.proofs.Fitting.{refined_values_fit, coarsened_values_fit}
use Rattle.samr_values.specs.Patches.{has, child}
use Rattle.samr_values.specs.Values.{new_value}
use Rattle.samr_values.specs.Coarsen.{children, is_under, merged}
use Rattle.samr_values.specs.Laws.{NewValuesFit, MergedValuesFit, OthersKeepTheirs}
use Rattle.samr_values.proofs.Under.{any_from}

item_in : (xs : List Rules) (f : ℕ) (r : Rules) → slice_get xs f ≡ Some r → Member r xs
item_in [] f r e = cc
item_in (x ∷ xs) zero r e = inl cc
item_in (x ∷ xs) (suc f) r e = inr (item_in xs f r e)

pub new_values_fit : NewValuesFit
unfolding new_value
new_values_fit w f r x is here new old_fits = by (has w.olds x) refl
  where
    m : Member r w.rules
    m = item_in w.rules f r here

    cell : IVec
    cell = coarse x w.step

    under : w.coarse_values f cell < r.modulus
    under = is.coarse_fits f r cell here (is.over x new)

    by : (t : Bool) → has w.olds x ≡ t → cond t (w.values f x) (refined_value r (w.coarse_values f cell) (child x w.step)) < r.modulus
    by true e = let b = any_from (λ (b : Owned). holds b.bx x) w.olds e in old_fits (b.0, b.1, Holds-test {b = b.0.bx} {x = x} b.2)
    by false e = refined_values_fit r (w.coarse_values f cell) (child x w.step) (member_of_All IsRules r w.rules is.rules m) under

-- the modulus of a field is one of the moduli
modulus_in : (k : ℕ) (rules : List CoarsenRule) (moduli : List ℕ) (f : ℕ × (CoarsenRule × ℕ)) → Member f (enumerate_from k (zip rules moduli)) → Member f.1.1 moduli
modulus_in k [] moduli f m = absurd m
modulus_in k (x ∷ rules) [] f m = absurd m
modulus_in k (x ∷ rules) (n ∷ moduli) f (inl same) = inl (ap (λ (g : ℕ × (CoarsenRule × ℕ)). g.1.1) same)
modulus_in k (x ∷ rules) (n ∷ moduli) f (inr m) = inr (modulus_in (k + 1) rules moduli f m)

pub merged_values_fit : MergedValuesFit
merged_values_fit w f x is m fit =
    coarsened_values_fit f.1.0 f.1.1 (map (w.fine_values f.0) (children w x))
    (member_of_All (λ (n : ℕ). 0 < n) f.1.1 w.moduli is.some (modulus_in 0 w.rules w.moduli f m)) fit

pub others_keep_theirs : OthersKeepTheirs
others_keep_theirs w f p x h off =
    value_in-listed (over p) (λ y. cond (holds p.bx y && is_under w y) (merged w f y) (value_at p y)) x h
    ∙ cond-false (holds p.bx x && is_under w x) (merged w f x) (value_at p x) off
