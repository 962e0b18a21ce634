use Rattle.std.proofs.Common.{sym, ap, ◌∙◌}
use Rattle.std.specs.Prelude.{◌++◌}
use Rattle.samr_box.proofs.CellSets.{Meet-test}
use Rattle.samr_boxlist.proofs.Cutting.{without-apart, without-from_cuts}
use Rattle.samr_boxlist.proofs.cuts.push_without.Goals as goal

pub returns-then-not-boxes_meet-clause-ok : goal.returns-then-not-boxes_meet-clause-ok
returns-then-not-boxes_meet-clause-ok c =
    c.in_ok-push.ensures.items
    ∙ ap (λ l. c.args.left.now.items ++ l)
    (sym (without-apart c.args.a c.args.b (sym c.boxes_meet.ensures.value ∙ c.if-not-boxes_meet.true)))

pub cut-requires : goal.cut-requires
cut-requires c = Meet-test (sym c.boxes_meet.ensures.value ∙ c.if-not-boxes_meet.false)

pub returns-clause-ok : goal.returns-clause-ok
returns-clause-ok c =
    without-from_cuts c.args.a c.args.b c.in_ok-rest.rest c.in_ok-rest-2.rest _ _ _ _
    (sym c.boxes_meet.ensures.value ∙ c.if-not-boxes_meet.false)
    c.in_ok-rest.ensures.rest c.in_ok-rest-2.ensures.rest
    c.in_ok-rest.ensures.slabs c.in_ok-rest-2.ensures.slabs c.in_ok-cut.ensures.slabs
