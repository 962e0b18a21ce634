-- The tags of a level, cell by cell.
use Rattle.std.proofs.Common.{◌≡◌, ℕ, suc, ◌+◌, ◌≤◌, add-one, sym, ap, subst, ◌∙◌, inl, inr, arith}
use Rattle.std.proofs.lemmas.Int.{ints}
use Rattle.std.specs.Prelude.{Bool, true, false, ◌&&◌, ◌||◌, List, [], ◌∷◌}
use Rattle.std.proofs.lemmas.Bool.{and_from, and_parts}
use Rattle.std.specs.List.{list_any}
use Rattle.samr_box.specs.declared.vector.IVec.{IVec}
use Rattle.samr_box.specs.Vector.{Within}
use Rattle.samr_box.specs.Corners.{Corners, IsBox, Holds, holds, grown}
use Rattle.samr_box.specs.Ratios.{coarse, coarsened}
use Rattle.samr_box.specs.Space.{Space, image, whole}
use Rattle.samr_box.specs.Lists.{Member}
use Rattle.samr_box.proofs.CellSets.{Holds-lo, Holds-hi, holds-from, holds_box-means, Holds-grown, Holds-coarsened, IsBox-coarsened}
use Rattle.samr_box.proofs.Vectors.{AtMost-refl}
use Rattle.samr_box.proofs.Ranges.{IsBox-whole}
use Rattle.samr_boxlist.proofs.Covering.{same_test}
use Rattle.samr_level.specs.Refs.{Owned}
use Rattle.samr_level.specs.Neighbours.{IsWidth}
use Rattle.samr_level.specs.Overlaps.{shifts}
use Rattle.samr_nest.proofs.Callers.{room}
use Rattle.samr_nest.proofs.StayLaws.{cell_of_frame}
use Rattle.samr_problem.specs.Fields.{Fields}
use Rattle.samr_problem.specs.Problems.{IsProblem}
use Rattle.samr_sign.specs.Counts.{tally}
use Rattle.samr_tags.specs.Buffer.{in_level, is_shaped, some_near, tags_of}
use Rattle.samr_tags.specs.Cover.{covering, covered}
use Rattle.samr_tags.proofs.Buffering.{in_level_from}
use Rattle.samr_mesh.specs.Domains.{step_of, area_at, frame_at}
use Rattle.samr_mesh.specs.Grounds.{HasDomain}
use Rattle.samr_mesh.specs.Passes as passes
use Rattle.samr_mesh.specs.Passes.{Pass, tagging, tags_in}
use Rattle.samr_mesh.specs.Soundness.{CanRun}
use Rattle.samr_mesh.specs.Stages.{IsAbove}
use Rattle.samr_mesh.proofs.Covers.{cell_above, frame_above}
use Rattle.samr_mesh.proofs.Grounding.{can_pass}
use Rattle.samr_mesh.proofs.Passing.{in_frame, frame_cell, level_cell}
use Rattle.samr_mesh.proofs.Scaling.{nest_above, width_at, space_of}
use Rattle.samr_mesh.proofs.TagTests.{tags_are}
use Rattle.samr_mesh_plain.specs.Making.{one_cell, CanMake, covers}
use Rattle.samr_mesh_plain.proofs.CellFields.{same_tally, same_place}
use Rattle.samr_mesh_plain.proofs.LevelFacts.{can_run, cell_is_box}

-- a box in a frame, grown by a width of it
room_about : (p : Fields) (l : ℕ) (width : IVec) (b : Corners) → HasDomain p l → IsWidth (frame_at p l) width → IsBox b → ((x : IVec) → Holds b x → Holds (whole (frame_at p l)) x) → IsBox (grown b width)
room_about p l width b has w box home =
    let s = has.small in
    room (frame_at p l) width b (record { k = omega (arith, ints, s.k); j = omega (arith, ints, s.j); i = omega (arith, ints, s.i) }) w box
    ((holds_box-means (whole (frame_at p l)) b box.order).1 home)

pub cell_home : (p : Fields) (w : Pass) (x : IVec) → IsProblem p → CanMake p w → in_level w.level x ≡ true → Holds (whole (frame_at p w.number)) x
cell_home p w x is can t = let run = can_run p w is can in frame_cell p w run x (level_cell p w run x (in_level_from w.level x t))

pub cell_box : (p : Fields) (w : Pass) (x : IVec) → IsProblem p → CanMake p w → in_level w.level x ≡ true → IsBox (one_cell x)
cell_box p w x is can t = cell_is_box p w.number x is (let b = can.below in omega (arith, b)) (cell_home p w x is can t)

buffer_at : (p : Fields) (w : Pass) → IsProblem p → CanMake p w → IsWidth (frame_at p w.number) p.tag_buffer
buffer_at p w is can = let run = can_run p w is can in width_at p w.number p.tag_buffer run.can.here run.can.buffer run.can.buffer_width run.can.width

pub about_box : (p : Fields) (w : Pass) (x : IVec) → IsProblem p → CanMake p w → in_level w.level x ≡ true → IsBox (grown (one_cell x) p.tag_buffer)
about_box p w x is can t =
    let run = can_run p w is can in
    room_about p w.number p.tag_buffer (one_cell x) run.can.here (buffer_at p w is can) (cell_box p w x is can t)
    (λ y h. subst (λ (v : IVec). Holds (whole (frame_at p w.number)) v) (same_place x y h) (cell_home p w x is can t))

-- the frame of a level, grown by the tag buffer
pub around_box : (p : Fields) (l : ℕ) → IsProblem p → suc (suc l) ≤ p.levels → IsBox (grown (whole (frame_at p l)) p.tag_buffer)
around_box p l is below =
    let can = can_pass p is l below in
    room_about p l p.tag_buffer (whole (frame_at p l)) can.here (width_at p l p.tag_buffer can.here can.buffer can.buffer_width can.width) (IsBox-whole (frame_at p l) can.here.is_area.frame) (λ x h. h)

-- the cells near a cell, counted in a field of all that a shape tags
pub near_is : (p : Fields) (w : Pass) (x : IVec) (f : IVec → Bool) → IsProblem p → CanMake p w → in_level w.level x ≡ true
    → ((y : IVec) → f y ≡ (holds (grown (whole (frame_at p w.number)) p.tag_buffer) y && is_shaped (tagging p w) y))
    → tally f (grown (one_cell x) p.tag_buffer) ≡ tally (is_shaped (tagging p w)) (grown (one_cell x) p.tag_buffer)
near_is p w x f is can t e =
    let about = about_box p w x is can t in
    let run = can_run p w is can in
    let home = cell_home p w x is can t in
    let frame = (IsBox-whole (frame_at p w.number) run.can.here.is_area.frame).order in
    same_tally (grown (one_cell x) p.tag_buffer) f (is_shaped (tagging p w)) about.order
    (λ y h.
    let n = (Holds-grown (one_cell x) p.tag_buffer (AtMost-refl x) run.can.buffer y).0 h in
    let near = subst (λ (v : IVec). Within p.tag_buffer v y) (sym (same_place x n.0 n.1)) n.2 in
    let inside = (Holds-grown (whole (frame_at p w.number)) p.tag_buffer frame run.can.buffer y).1 (x, home, near) in
    e y ∙ ap (λ v. v && is_shaped (tagging p w) y) (holds-from inside))

-- the tests one after another
pub no_cell : (p : Fields) (w : Pass) (x : IVec) → in_level w.level x ≡ false → false ≡ tags_in p w x
no_cell p w x e = sym (tags_are p w x ∙ ap (λ v. v && (tags_of (tagging p w) x || covered (passes.covering p w) x)) e)

pub near_tag : (p : Fields) (w : Pass) (x : IVec) → in_level w.level x ≡ true → some_near (is_shaped (tagging p w)) p.tag_buffer x ≡ true → true ≡ tags_in p w x
unfolding tags_of
near_tag p w x e f = sym (tags_are p w x ∙ ap (λ v. v && ((v && some_near (is_shaped (tagging p w)) p.tag_buffer x) || covered (passes.covering p w) x)) e ∙ ap (λ v. v || covered (passes.covering p w) x) f)

pub cover_tag : (p : Fields) (w : Pass) (x : IVec) (c : Bool) → in_level w.level x ≡ true → some_near (is_shaped (tagging p w)) p.tag_buffer x ≡ false → c ≡ covered (passes.covering p w) x → c ≡ tags_in p w x
unfolding tags_of
cover_tag p w x c e f g = g ∙ sym (tags_are p w x ∙ ap (λ v. v && ((v && some_near (is_shaped (tagging p w)) p.tag_buffer x) || covered (passes.covering p w) x)) e ∙ ap (λ v. v || covered (passes.covering p w) x) f)

-- what a box of the new level two above needs is a box on the way
needed_box : (p : Fields) (w : Pass) (b : Owned) → IsProblem p → CanMake p w → Member b w.above → IsBox (grown (coarsened b.bx (step_of p (suc w.number))) p.nest)
needed_box p w b is can m = by can.above
  where
    run : CanRun p w
    run = can_run p w is can

    no_member : (xs : List Owned) → xs ≡ [] → Member b xs → ⊥
    no_member [] e m = absurd m
    no_member (c ∷ cs) e m = absurd cc

    by : IsAbove p w → IsBox (grown (coarsened b.bx (step_of p (suc w.number))) p.nest)
    by (inl none) = absurd (no_member w.above none m)
    by (inr (upper, top)) =
        let order = top.not_empty b m in
        let home : (x : IVec) → Holds b.bx x → Holds (whole (frame_at p (suc (suc w.number)))) x = λ x h. cell_of_frame (area_at p (suc (suc w.number))) x upper.next.is_area (top.inside b x m h) in
        let box = in_frame (frame_at p (suc (suc w.number))) b.bx (space_of p (suc (suc w.number)) upper.next) order (home b.bx.lo (Holds-lo {b = b.bx} order)) (home b.bx.hi (Holds-hi {b = b.bx} order)) in
        room_about p (suc w.number) p.nest (coarsened b.bx (step_of p (suc w.number))) upper.here (nest_above p w.number run.can) (IsBox-coarsened upper.step box)
        (λ x h.
        let y = (Holds-coarsened b.bx (step_of p (suc w.number)) order upper.step x).0 h in
        subst (λ (v : IVec). Holds (whole (frame_at p (suc w.number))) v) y.2 (frame_above p w run.can upper top (coarse y.0 (step_of p (suc w.number))) (cell_above p w run.can upper top y.0 (b, m, y.1))))

next_step : (p : Fields) (n l : ℕ) (u : IVec) → n ≡ l → u ≡ step_of p (n + 1) → u ≡ step_of p (suc l)
next_step p n l u e f = f ∙ ap (step_of p) (add-one n ∙ ap (λ (m : ℕ). suc m) e)

pub needed_fits : (p : Fields) (w : Pass) (b : Owned) (bx : Corners) (n : ℕ) (upper nest : IVec) → IsProblem p → CanMake p w → Member b w.above
    → bx ≡ b.bx → n ≡ w.number → upper ≡ step_of p (n + 1) → nest ≡ p.nest → IsBox (grown (coarsened bx upper) nest)
needed_fits p w b bx n upper nest is can m e f g h =
    subst (λ (c : Corners). IsBox (grown (coarsened c upper) nest)) (sym e)
    (subst (λ (v : IVec). IsBox (grown (coarsened b.bx v) nest)) (sym (next_step p n w.number upper f g))
    (subst (λ (v : IVec). IsBox (grown (coarsened b.bx (step_of p (suc w.number))) v)) (sym h) (needed_box p w b is can m)))

pub covers_is : (p : Fields) (w : Pass) (b : Owned) (x : IVec) (bx : Corners) (n : ℕ) (upper nest lower : IVec) (below : Corners) (frame : Space) (ss : List IVec) (result : Bool)
    → bx ≡ b.bx → n ≡ w.number → upper ≡ step_of p (n + 1) → nest ≡ p.nest → lower ≡ step_of p n → below ≡ covering upper nest lower bx → frame ≡ frame_at p n
    → ss ≡ shifts p.periodic → result ≡ list_any (λ s. holds (image frame below s) x) ss → result ≡ covers p w x b
covers_is p w b x bx n upper nest lower below frame ss result e f g h i j k l m =
    let need : below ≡ covering (step_of p (suc w.number)) p.nest (step_of p w.number) b.bx =
    j ∙ ap (λ (v : IVec). covering v nest lower bx) (next_step p n w.number upper f g) ∙ ap (λ (v : IVec). covering (step_of p (suc w.number)) v lower bx) h
    ∙ ap (λ (v : IVec). covering (step_of p (suc w.number)) p.nest v bx) (i ∙ ap (step_of p) f) ∙ ap (λ (c : Corners). covering (step_of p (suc w.number)) p.nest (step_of p w.number) c) e in
    m
    ∙ ap (λ (d : Space). list_any (λ s. holds (image d below s) x) ss) (k ∙ ap (frame_at p) f)
    ∙ ap (λ (c : Corners). list_any (λ s. holds (image (frame_at p w.number) c s) x) ss) need
    ∙ ap (λ (v : List IVec). list_any (λ s. holds (image (frame_at p w.number) (covering (step_of p (suc w.number)) p.nest (step_of p w.number) b.bx) s) x) v) l

pub covered_is : (p : Fields) (w : Pass) (x : IVec) (fine : List Owned) (result : Bool) → fine ≡ w.above → result ≡ list_any (covers p w x) fine → result ≡ covered (passes.covering p w) x
unfolding covered
covered_is p w x fine result e f = f ∙ ap (λ (l : List Owned). list_any (covers p w x) l) e

-- all tags lie in the frame
pub framed : (p : Fields) (w : Pass) (x : IVec) (frame : Corners) → IsProblem p → CanMake p w → frame ≡ whole (frame_at p w.number) → (holds frame x && tags_in p w x) ≡ tags_in p w x
framed p w x frame is can e =
    same_test (holds frame x && tags_in p w x) (tags_in p w x) (λ h. (and_parts (holds frame x) (tags_in p w x) h).1)
    (λ h.
    let home = cell_home p w x is can (and_parts (in_level w.level x) _ (sym (tags_are p w x) ∙ h)).0 in
    and_from (holds frame x) (tags_in p w x) (holds-from (subst (λ (b : Corners). Holds b x) (sym e) home)) h)
