use Rattle.std.proofs.Common.{◌≡◌, ◌∙◌, ap, subst, sym}
use Rattle.std.specs.Prelude.{List}
use Rattle.std.specs.List.{All}
use Rattle.samr_level.specs.Refs.{Owned}
use Rattle.samr_level.specs.Levels.{own}
use Rattle.samr_trials_levels.specs.First.{first_fields, HasRooms}
use Rattle.samr_trials_levels.proofs.FirstPatches.{all_own_rooms}
use Rattle.samr_trials_levels.proofs.starting.own_patches.Goals as goal

pub box_patches-requires-clause-rooms : goal.box_patches-requires-clause-rooms
box_patches-requires-clause-rooms c =
    let boxes : c.as_slice.result.now ≡ own c.args.rank c.args.level.now = c.as_slice.ensures.value ∙ c.in_ok-boxes.ensures in
    subst (λ (l : List Owned). All (HasRooms l) c.args.widths.now) (sym boxes) (all_own_rooms c.args.level.now c.args.rank c.args.widths.now c.requires.rooms)

pub returns : goal.returns
returns c =
    c.in_ok-fields.ensures ∙ ap (λ (l : List Owned). first_fields c.args.bound c.args.start c.args.widths.now l) (c.as_slice.ensures.value ∙ c.in_ok-boxes.ensures)
