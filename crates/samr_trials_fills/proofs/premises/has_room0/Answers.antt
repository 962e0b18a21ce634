use Rattle.std.proofs.Common.{◌∙◌, subst, map}
use Rattle.std.specs.Prelude.{List}
use Rattle.std.specs.List.{All}
use Rattle.samr_box.specs.declared.vector.IVec.{IVec}
use Rattle.samr_level.specs.Refs.{Owned}
use Rattle.samr_ops.specs.declared.rules.Rules.{Rules}
use Rattle.samr_trials_levels.specs.First.{HasRooms}
use Rattle.samr_trials_fills.proofs.premises.has_room0.Goals as goal

pub returns : goal.returns
returns c = λ t.
    subst (λ (l : List Owned). All (HasRooms l) (map (λ (r : Rules). r.width) c.args.rules.now)) (c.as_slice.ensures.value ∙ c.in_ok-level.ensures.value)
    (subst (λ (l : List IVec). All (HasRooms c.as_slice.result.now) l) (c.as_slice-2.ensures.value ∙ c.in_ok-widths.ensures) (c.have_rooms-room.ensures t))
