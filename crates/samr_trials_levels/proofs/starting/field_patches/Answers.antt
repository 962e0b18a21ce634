use Rattle.std.proofs.Common.{◌∙◌, ap, sym, subst}
use Rattle.std.proofs.lemmas.List.{take_all}
use Rattle.std.proofs.lemmas.List.Elements.{All-get_or}
use Rattle.std.specs.Prelude.{List}
use Rattle.samr_level.specs.Refs.{Owned}
use Rattle.samr_trials_levels.specs.First.{first_patch, first_field, HasRoom}
use Rattle.samr_trials_levels.proofs.Steps.{one_made}
use Rattle.samr_trials_levels.proofs.starting.field_patches.Goals as goal

pub owned_patch-requires-clause-positive : goal.owned_patch-requires-clause-positive
owned_patch-requires-clause-positive c = c.requires.rooms.positive

pub owned_patch-requires-clause-room : goal.owned_patch-requires-clause-room
owned_patch-requires-clause-room c =
    subst (HasRoom c.args.width) (sym c.b-item.is)
    (All-get_or (HasRoom c.args.width) c.args.boxes.now c.loop-b.b-index c.b-item.result c.loop-b-test.true c.requires.rooms.rooms)

pub loop-b-preserved : goal.loop-b-preserved
loop-b-preserved c =
    one_made (λ (b : Owned). first_patch c.args.bound c.args.start c.args.field c.args.width b.bx) c.args.boxes.now c.loop-b.b-index c.b-item.result c.in_ok-patch.patch
    c.loop-b.patches.items c.push.new.self.items c.loop-b-test.true c.b-item.is c.in_ok-patch.ensures c.loop-b.invariant c.in_ok-push.ensures.items

pub returns : goal.returns
returns c =
    c.loop-b.invariant
    ∙ ap (λ (l : List Owned). first_field c.args.bound c.args.start l (c.args.field, c.args.width)) (take_all c.loop-b.b-index c.args.boxes.now c.loop-b-test.false)
