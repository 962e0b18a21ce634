use Rattle.std.proofs.Common.{◌∙◌, ap, sym, refl, ◌++◌}
use Rattle.std.proofs.lemmas.List.{drop_all}
use Rattle.std.specs.Prelude.{◌/◌, ◌%◌, nat_eq, List}
use Rattle.samr_level.specs.Refs.{Owned}
use Rattle.samr_trials_levels.specs.Kept.{kept}
use Rattle.samr_trials_levels.proofs.KeptLaws.{keeps_on, append_nothing}
use Rattle.samr_trials_levels.proofs.blocks.kept_boxes.Goals as goal

pub loop-b-preserved : goal.loop-b-preserved
loop-b-preserved c =
    let b = c.b-item.result in
    let rest = c.loop-b.rest in
    keeps_on c.args.mask rest c.args.level.now c.loop-b.b-index b b c.loop-b.boxes.items c.push_where.new.list.items (nat_eq (rest % 2) 1) (rest / 2) c.loop-b-test.true
    c.b-item.is refl refl refl c.in_ok-push_where.ensures c.loop-b.invariant

pub returns : goal.returns
returns c =
    sym (append_nothing c.loop-b.boxes.items)
    ∙ ap (λ (l : List Owned). c.loop-b.boxes.items ++ kept c.loop-b.rest l) (sym (drop_all c.loop-b.b-index c.args.level.now c.loop-b-test.false))
    ∙ c.loop-b.invariant
