use Rattle.std.proofs.Common.{sym, subst, ◌∙◌}
use Rattle.samr_box.specs.Corners.{Corners}
use Rattle.samr_box.specs.Vector.{AtMost}
use Rattle.samr_sign.specs.Fields.{Field}
use Rattle.samr_sign.proofs.Rows.{part_few, part_holds_box, tally_part, tally_apart}
use Rattle.samr_sign.proofs.field.TagField.count.Goals as goal

pub count_part-requires-clause-inside : goal.count_part-requires-clause-inside
count_part-requires-clause-inside c =
    rw (← c.self.view_is) (part_holds_box c.self.inside.bx c.in-Some.part c.in-Some.ensures.boxes.order (λ x s. ((c.in-Some.ensures.cells x).0 s).0))

pub count_part-requires-clause-few : goal.count_part-requires-clause-few
count_part-requires-clause-few c =
    let f : Field = record { bx = c.self.inside.bx; words = c.self.inside.words.items } in
    rw (← c.self.view_is)
    (part_few f c.in-Some.part c.self.invariant c.in-Some.ensures.boxes.order (part_holds_box f.bx c.in-Some.part c.in-Some.ensures.boxes.order (λ x s. ((c.in-Some.ensures.cells x).0 s).0)))

pub returns-in-Some : goal.returns-in-Some
returns-in-Some c =
    let f : Field = record { bx = c.self.inside.bx; words = c.self.inside.words.items } in
    let order : AtMost c.args.region.lo c.args.region.hi = subst (λ (r : Corners). AtMost r.lo r.hi) c.region.view_is c.region.invariant.order in
    c.count_part.ensures ∙ rw (← c.self.view_is) (sym (tally_part f c.args.region c.in-Some.part order c.in-Some.ensures.boxes.order c.in-Some.ensures.cells))

pub returns-in-None : goal.returns-in-None
returns-in-None c =
    let f : Field = record { bx = c.self.inside.bx; words = c.self.inside.words.items } in
    let order : AtMost c.args.region.lo c.args.region.hi = subst (λ (r : Corners). AtMost r.lo r.hi) c.region.view_is c.region.invariant.order in
    rw (← c.self.view_is) (sym (tally_apart f c.args.region order (λ x s. (c.in-None.ensures.cells x).1 s)))
