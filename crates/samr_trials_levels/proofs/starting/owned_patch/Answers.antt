use Rattle.std.proofs.Common.{◌∙◌, ap, sym, subst}
use Rattle.samr_box.specs.Corners.{IsBox, grown}
use Rattle.samr_level.specs.Refs.{Owned}
use Rattle.samr_trials_levels.specs.First.{first_patch}
use Rattle.samr_trials_levels.proofs.starting.owned_patch.Goals as goal

pub box_patch-requires-clause-whole : goal.box_patch-requires-clause-whole
box_patch-requires-clause-whole c = subst (λ (b : Owned). IsBox (grown b.bx c.args.width)) (sym c.b.view_is) c.requires.room.0

pub returns : goal.returns
returns c = c.in_ok-patch.ensures ∙ ap (λ (b : Owned). first_patch c.args.bound c.args.start c.args.field c.args.width b.bx) c.b.view_is
