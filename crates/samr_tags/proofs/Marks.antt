-- Marking what several lists of cells have for a box, one after another.
use Rattle.std.proofs.Common.{◌≡◌, ◌∙◌, sym, ap, refl, subst}
use Rattle.std.specs.Prelude.{Bool, true, false, ◌&&◌, ◌||◌, cond, Some, None, IsTrue}
use Rattle.std.proofs.lemmas.Bool.{and_parts, and_from}
use Rattle.samr_box.specs.declared.vector.IVec.{IVec}
use Rattle.samr_box.specs.Vector.{AtMost, at_most, greatest, least}
use Rattle.samr_box.specs.Corners.{Corners, Holds, holds, holds_box, common, met, meets}
use Rattle.samr_box.proofs.CellSets.{holds-from, Holds-test, Holds-common, Meet-cell, meets-from, at_most-from}
use Rattle.std.proofs.Common.{arith}
use Rattle.std.proofs.lemmas.Int.{ints, clamps}

-- two tests that hold of the same things
pub same_test : (s t : Bool) → (s ≡ true → t ≡ true) → (t ≡ true → s ≡ true) → s ≡ t
same_test true true f g = refl
same_test true false f g = sym (f refl)
same_test false true f g = g refl
same_test false false f g = refl

-- the common part of two boxes
pub common_cells : (b r : Corners) (x : IVec) → holds (common b r) x ≡ (holds b x && holds r x)
common_cells b r x =
    same_test (holds (common b r) x) (holds b x && holds r x)
    (λ t. let h = (Holds-common b r x).0 (Holds-test t) in and_from (holds b x) (holds r x) (holds-from h.0) (holds-from h.1))
    (λ t. let p = and_parts (holds b x) (holds r x) t in holds-from ((Holds-common b r x).1 (Holds-test p.0, Holds-test p.1)))

by_met : (t : Bool) (c v : Corners) → cond t (Some c) None ≡ Some v → v ≡ c
by_met true c v e = cc
by_met false c v e = absurd cc

pub met_is : (b r v : Corners) → met b r ≡ Some v → v ≡ common b r
met_is b r v e = by_met (meets b r) (common b r) v e

pub met_cells : (b r v : Corners) → met b r ≡ Some v → (x : IVec) → holds v x ≡ (holds b x && holds r x)
met_cells b r v e x = ap (λ (c : Corners). holds c x) (met_is b r v e) ∙ common_cells b r x

pub met_inside : (b r v : Corners) → met b r ≡ Some v → IsTrue (holds_box b v)
met_inside b r v e =
    let lo : AtMost b.lo (greatest b.lo r.lo) = record { k = omega (arith, ints, clamps); j = omega (arith, ints, clamps); i = omega (arith, ints, clamps) } in
    let hi : AtMost (least b.hi r.hi) b.hi = record { k = omega (arith, ints, clamps); j = omega (arith, ints, clamps); i = omega (arith, ints, clamps) } in
    let Inside : Corners → Type 0 = λ c. IsTrue (holds_box b c) in
    subst Inside (sym (met_is b r v e)) (and_from (at_most b.lo (greatest b.lo r.lo)) (at_most (least b.hi r.hi) b.hi) (at_most-from lo) (at_most-from hi))

not_met : (t : Bool) (c : Corners) → cond t (Some c) None ≡ None → t ≡ false
not_met true c e = absurd cc
not_met false c e = refl

pub met_none : (b r : Corners) → met b r ≡ None → (x : IVec) → (holds b x && holds r x) ≡ false
met_none b r e x =
    same_test (holds b x && holds r x) false
    (λ t. let p = and_parts (holds b x) (holds r x) t in sym (not_met (meets b r) (common b r) e) ∙ meets-from (Meet-cell {a = b} {b = r} {x = x} (Holds-test p.0) (Holds-test p.1)))
    (λ t. absurd cc)

-- a loop that marks: before it, and after one more
pub starts : (h old : Bool) → old ≡ ((h && false) || old)
starts true old = refl
starts false old = refl

one_more : (h p any old : Bool) → ((h && p) || ((h && any) || old)) ≡ ((h && (any || p)) || old)
one_more false p any old = refl
one_more true true true old = refl
one_more true true false old = refl
one_more true false true old = refl
one_more true false false old = refl

pub goes_on : (h p any more old mid new : Bool) → mid ≡ ((h && any) || old) → new ≡ ((h && p) || mid) → more ≡ (any || p) → new ≡ ((h && more) || old)
goes_on h p any more old mid new before now sum =
    now ∙ ap (λ (v : Bool). (h && p) || v) before ∙ one_more h p any old ∙ ap (λ (v : Bool). (h && v) || old) (sym sum)

-- what is not for the box changes nothing
pub passes : (h p : Bool) (test : Bool) (mid : Bool) → test ≡ false → mid ≡ ((h && (test && p)) || mid)
passes true p true mid e = absurd cc
passes false p true mid e = absurd cc
passes true p false mid e = refl
passes false p false mid e = refl

two_marks : (h p q : Bool) → ((h && q) || ((h && p) || false)) ≡ (h && (p || q))
two_marks false p q = refl
two_marks true true true = refl
two_marks true true false = refl
two_marks true false true = refl
two_marks true false false = refl

-- a new field that is marked twice
pub both : (holds : Corners → Bool) (a new mid : Corners) (p q old first last : Bool) → new ≡ a → mid ≡ new → old ≡ false
    → first ≡ ((holds new && p) || old) → last ≡ ((holds mid && q) || first) → last ≡ (holds a && (p || q))
both holds a new mid p q old first last same kept none one two =
    two
    ∙ ap (λ (b : Corners). (holds b && q) || first) (kept ∙ same)
    ∙ ap (λ (v : Bool). (holds a && q) || v) (one ∙ ap (λ (b : Corners). (holds b && p) || old) same ∙ ap (λ (v : Bool). (holds a && p) || v) none)
    ∙ two_marks (holds a) p q

-- a cell of the common part lies in the box
pub met_part : (b r v : Corners) → met b r ≡ Some v → (x : IVec) → Holds v x → Holds b x
met_part b r v e x h = ((Holds-common b r x).0 (subst (λ (c : Corners). Holds c x) (met_is b r v e) h)).0

-- a field that is marked twice
two_more : (h p q old : Bool) → ((h && q) || ((h && p) || old)) ≡ ((h && (p || q)) || old)
two_more false p q old = refl
two_more true true true old = refl
two_more true true false old = refl
two_more true false true old = refl
two_more true false false old = refl

pub twice : (holds : Corners → Bool) (a mid : Corners) (p q old first last : Bool) → mid ≡ a → first ≡ ((holds a && p) || old) → last ≡ ((holds mid && q) || first)
    → last ≡ ((holds a && (p || q)) || old)
twice holds a mid p q old first last kept one two =
    two
    ∙ ap (λ (b : Corners). (holds b && q) || first) kept
    ∙ ap (λ (v : Bool). (holds a && q) || v) one
    ∙ two_more (holds a) p q old
