use Rattle.std.proofs.Common.{◌≡◌, ◌∙◌, sym, ap, refl, subst, arith}
use Rattle.std.proofs.lemmas.Bool.{and_parts, and_from}
use Rattle.std.proofs.lemmas.Int.{ints, clamps}
use Rattle.std.specs.Prelude.{Bool, true, false, ◌&&◌, ◌||◌, cond, Some, None, IsTrue}
use Rattle.samr_box.specs.declared.vector.IVec.{IVec}
use Rattle.samr_box.specs.Vector.{AtMost, at_most, greatest, least}
use Rattle.samr_box.specs.Corners.{Corners, holds, holds_box, common, met, meets}
use Rattle.samr_box.proofs.CellSets.{holds-from, Holds-test, Holds-common, Meet-cell, meets-from, at_most-from}
use Rattle.samr_sign.specs.Fields.{tagged}
use Rattle.samr_trials_stages.proofs.clusters.mark_part.Goals as goal

same_test : (s t : Bool) → (s ≡ true → t ≡ true) → (t ≡ true → s ≡ true) → s ≡ t
same_test true true f g = refl
same_test true false f g = sym (f refl)
same_test false true f g = g refl
same_test false false f g = refl

-- the common part of two boxes
common_cells : (b r : Corners) (x : IVec) → holds (common b r) x ≡ (holds b x && holds r x)
common_cells b r x =
    same_test (holds (common b r) x) (holds b x && holds r x)
    (λ t. let h = (Holds-common b r x).0 (Holds-test t) in and_from (holds b x) (holds r x) (holds-from h.0) (holds-from h.1))
    (λ t. let p = and_parts (holds b x) (holds r x) t in holds-from ((Holds-common b r x).1 (Holds-test p.0, Holds-test p.1)))

by_met : (t : Bool) (c v : Corners) → cond t (Some c) None ≡ Some v → v ≡ c
by_met true c v e = cc
by_met false c v e = absurd cc

met_is : (b r v : Corners) → met b r ≡ Some v → v ≡ common b r
met_is b r v e = by_met (meets b r) (common b r) v e

met_cells : (b r v : Corners) → met b r ≡ Some v → (x : IVec) → holds v x ≡ (holds b x && holds r x)
met_cells b r v e x = ap (λ (c : Corners). holds c x) (met_is b r v e) ∙ common_cells b r x

met_inside : (b r v : Corners) → met b r ≡ Some v → IsTrue (holds_box b v)
met_inside b r v e =
    let lo : AtMost b.lo (greatest b.lo r.lo) = record { k = omega (arith, ints, clamps); j = omega (arith, ints, clamps); i = omega (arith, ints, clamps) } in
    let hi : AtMost (least b.hi r.hi) b.hi = record { k = omega (arith, ints, clamps); j = omega (arith, ints, clamps); i = omega (arith, ints, clamps) } in
    let Inside : Corners → Type 0 = λ c. IsTrue (holds_box b c) in
    subst Inside (sym (met_is b r v e)) (and_from (at_most b.lo (greatest b.lo r.lo)) (at_most (least b.hi r.hi) b.hi) (at_most-from lo) (at_most-from hi))

not_met : (t : Bool) (c : Corners) → cond t (Some c) None ≡ None → t ≡ false
not_met true c e = absurd cc
not_met false c e = refl

met_none : (b r : Corners) → met b r ≡ None → (x : IVec) → (holds b x && holds r x) ≡ false
met_none b r e x =
    same_test (holds b x && holds r x) false
    (λ t. let p = and_parts (holds b x) (holds r x) t in sym (not_met (meets b r) (common b r) e) ∙ meets-from (Meet-cell {a = b} {b = r} {x = x} (Holds-test p.0) (Holds-test p.1)))
    (λ t. absurd cc)

pub mark-requires : goal.mark-requires
mark-requires c =
    met_inside c.args.field.now.bx c.args.spot c.in-Some.part (ap (λ (b : Corners). met b c.args.spot) (sym c.bx.ensures.value) ∙ sym c.meet.ensures.value ∙ c.in-Some.is)

pub returns-in-Some-clause-cells : goal.returns-in-Some-clause-cells
returns-in-Some-clause-cells c = λ x.
    let is = ap (λ (b : Corners). met b c.args.spot) (sym c.bx.ensures.value) ∙ sym c.meet.ensures.value ∙ c.in-Some.is in
    c.mark.ensures.cells x ∙ ap (λ (v : Bool). v || tagged c.args.field.now x) (met_cells c.args.field.now.bx c.args.spot c.in-Some.part is x)

pub returns-in_default-clause-cells : goal.returns-in_default-clause-cells
returns-in_default-clause-cells c = λ x.
    let is = ap (λ (b : Corners). met b c.args.spot) (sym c.bx.ensures.value) ∙ sym c.meet.ensures.value ∙ c.in_default.is in
    sym (ap (λ (v : Bool). v || tagged c.args.field.now x) (met_none c.args.field.now.bx c.args.spot is x))
