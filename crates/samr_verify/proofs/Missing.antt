-- The edges to a level that is not there.
use Rattle.std.proofs.Common.{◌≡◌, ℕ, zero, suc, ◌≤◌, refl, ap, ◌∙◌, length, arith, map}
use Rattle.std.specs.Prelude.{List, [], ◌∷◌, None, slice_get, filter}
use Rattle.std.specs.List.{flat_map}
use Rattle.samr_level.specs.Refs.{Owned, Link}
use Rattle.samr_level.specs.RefOrders.{ref_cmp, in_order}
use Rattle.samr_level.specs.Overlaps.{Scale, scale, true_overlaps, is_true}
use Rattle.samr_problem.specs.Fields.{Fields}
use Rattle.samr_mesh.specs.Domains.{area_of, ratio_to}
use Rattle.samr_verify.specs.declared.printed.PrintedLevel.{PrintedLevel}
use Rattle.samr_verify.specs.Printed.{of_level, settled_at}
use Rattle.samr_verify.specs.MeshFaults.{edges_to, due_to}

nothing : {X Y : Type 0} (xs : List X) → flat_map (λ (x : X). let none : List Y = [] in none) xs ≡ []
nothing [] = refl
nothing (x ∷ xs) = nothing xs

no_heads : (n : Scale) (bases : List Owned) → true_overlaps n bases [] ≡ []
unfolding true_overlaps
no_heads n bases = ap (λ (l : List Link). filter (λ e. is_true n e) l) (nothing bases)

none_there : {X : Type 0} (xs : List X) (n : ℕ) → length xs ≤ n → slice_get xs n ≡ None
none_there [] n h = refl
none_there (x ∷ xs) zero h = absurd (omega (arith, h))
none_there (x ∷ xs) (suc n) h = none_there xs n (omega (arith, h))

no_boxes : (levels : List PrintedLevel) (m : ℕ) → length levels ≤ m → settled_at levels m ≡ []
unfolding in_order
no_boxes levels m h = ap (λ o. in_order ref_cmp (of_level o)) (none_there levels m h)

pub none_above : (p : Fields) (levels : List PrintedLevel) (l m : ℕ) → length levels ≤ m → edges_to p levels l m ≡ []
none_above p levels l m h =
    let n : Scale = scale (area_of p).frame p.width (ratio_to p l) (ratio_to p m) in
    ap (λ (heads : List Owned). map (due_to m) (true_overlaps n (settled_at levels l) heads)) (no_boxes levels m h) ∙ ap (map (due_to m)) (no_heads n (settled_at levels l))
