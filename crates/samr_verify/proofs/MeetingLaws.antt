-- Of some boxes those that meet a box: a look-up finds them, and they cover of the box what all cover.
use Rattle.std.proofs.Common.{◌≡◌, refl, sym, ap, ◌∙◌, subst, inl, inr, arith, length}
use Rattle.std.proofs.lemmas.Int.{ints}
use Rattle.std.specs.Prelude.{Bool, true, false, cond, Some, None, List, [], ◌∷◌, ◌++◌, ◌==◌, All, map, if◌then◌else◌}
use Rattle.std.specs.List.{flat_map, filter_map, cons_option}
use Rattle.samr_box.specs.Corners.{Corners, IsBox, meets, met, common}
use Rattle.samr_box.specs.Lists.{Member}
use Rattle.samr_box.proofs.Members.{Member-from_flat_map, member_of_All}
use Rattle.samr_boxlist.specs.Slabs.{all_subtracted}
use Rattle.samr_find.specs.Places.{meeting}
use Rattle.samr_nest.proofs.NearParts.{IsWithin, AllWithin, AllFull, parts_enough}
use Rattle.samr_verify.specs.MeshFaults.{covered}
use Rattle.samr_verify.specs.Nearby.{at_place, if_meets}
use Rattle.samr_verify.proofs.NearbyLaws.{looked_up}

same_members : (xs : List Corners) → map (λ x. x) xs ≡ xs
same_members [] = refl
same_members (x ∷ xs) = ap (λ l. x ∷ l) (same_members xs)

pub met_is : (boxes : List Corners) (b : Corners) → flat_map (λ place. at_place (λ a. if_meets b a) boxes place) (meeting boxes b) ≡ flat_map (λ a. if_meets b a) boxes
unfolding meeting
met_is boxes b =
    ap (λ (l : List Corners). flat_map (λ place. at_place (λ a. if_meets b a) boxes place) (meeting l b)) (sym (same_members boxes))
    ∙ looked_up (λ (a : Corners). a) (λ a. if_meets b a) (λ a. meets a b) boxes (λ a m apart. rw apart refl)

-- their common parts with the box are those of all
same_parts : (b : Corners) (boxes : List Corners) → filter_map (λ a. met a b) (flat_map (λ a. if_meets b a) boxes) ≡ filter_map (λ a. met a b) boxes
same_parts b [] = refl
same_parts b (a ∷ boxes) = by (meets a b) refl (same_parts b boxes)
  where
    by : (t : Bool) → meets a b ≡ t → filter_map (λ a. met a b) (flat_map (λ a. if_meets b a) boxes) ≡ filter_map (λ a. met a b) boxes
        → filter_map (λ a. met a b) ((if t then a ∷ [] else []) ++ flat_map (λ a. if_meets b a) boxes) ≡ cons_option (met a b) (filter_map (λ a. met a b) boxes)
    by true e rest = ap (λ (l : List Corners). cons_option (met a b) l) rest
    by false e rest = rest ∙ ap (λ (t : Bool). cons_option (cond t (Some (common a b)) None) (filter_map (λ a. met a b) boxes)) (sym e)

one_of : (b : Corners) (boxes : List Corners) (a : Corners) → Member a (flat_map (λ a. if_meets b a) boxes) → Member a boxes
one_of b boxes a m =
    let r = Member-from_flat_map (λ a. if_meets b a) a boxes m in
    by r.0 (meets r.0 b) r.1 r.2
  where
    by : (x : Corners) (t : Bool) → Member x boxes → Member a (if t then x ∷ [] else []) → Member a boxes
    by x true within (inl e) = subst (λ (v : Corners). Member v boxes) (sym e) within
    by x true within (inr none) = absurd none
    by x false within m = absurd m

itself : (b : Corners) → IsBox b → AllWithin b (b ∷ [])
itself b is a (inl e) = subst (λ (v : Corners). IsWithin b v) (sym e) (record {
  box = is;
  low = record { k = omega (arith, ints); j = omega (arith, ints); i = omega (arith, ints) };
  high = record { k = omega (arith, ints); j = omega (arith, ints); i = omega (arith, ints) };
})
itself b is a (inr none) = absurd none

full : (boxes : List Corners) → All IsBox boxes → AllFull boxes
full boxes all a m = (member_of_All IsBox a boxes all m).order

pub covered_near : (boxes : List Corners) (b : Corners) → IsBox b → All IsBox boxes → covered (flat_map (λ a. if_meets b a) boxes) b ≡ covered boxes b
covered_near boxes b is all =
    let near = flat_map (λ a. if_meets b a) boxes in
    ap (λ (l : List Corners). length l == 0)
    (sym (parts_enough b near (b ∷ []) is (itself b is) (λ a m. full boxes all a (one_of b boxes a m)))
    ∙ ap (all_subtracted (b ∷ [])) (same_parts b boxes)
    ∙ parts_enough b boxes (b ∷ []) is (itself b is) (full boxes all))
