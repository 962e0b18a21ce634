use Rattle.std.proofs.Common.{◌≡◌, ◌-◌, is_some, Some, sym, ap, ◌∙◌}
use Rattle.samr_level.specs.declared.parts.Pair.{Pair}
use Rattle.samr_mesh.specs.Passes.{new_level}
use Rattle.samr_msg.specs.Places.{old_below}
use Rattle.samr_wholes.specs.Bridges.{to_below}
use Rattle.samr_connecting.proofs.OldLevels.{below_down}
use Rattle.samr_connecting.proofs.Sides.{below_sides, below_space}
use Rattle.samr_connecting.proofs.to_below.to_below.Goals as goal

some_same : {x y : Pair} → Some x ≡ Some y → x ≡ y
some_same e = cc

pub down_of-west-requires : goal.down_of-west-requires
down_of-west-requires g c =
    let w = c.requires.0 in
    let r = c.requires.1 in
    let b = c.requires.2.0 in
    ap is_some (below_down w r b.0.problem b.1 c.requires.3 c.old-level.result.now (c.old-level.ensures w r b))

pub bridge-requires : goal.bridge-requires
bridge-requires g c =
    let w = c.requires.0 in
    let r = c.requires.1 in
    let h = c.requires.2 in
    let b = h.0 in
    let down = some_same (sym c.down_of-west.ensures ∙ below_down w r b.0.problem b.1 c.requires.3 c.old-level.result.now (c.old-level.ensures w r b)) in (
      w,
      r,
      b,
      below_space w r b.0.problem b.1 c.requires.3 c.args.joined.now.under c.down_of-west.result.now
          (below_sides w r b.0.problem b.1 c.requires.3 c.args.joined.now.under c.down_of-west.result.now h.2 down),
    )

pub returns : goal.returns
returns g c = λ w r h visits.
    let b = h.0 in
    let down = some_same (sym c.down_of-west.ensures ∙ below_down w r b.0.problem b.1 visits c.old-level.result.now (c.old-level.ensures w r b)) in
    c.in_ok-stage.ensures w r (to_below w.at.setting.problem w.pass.ranks (w.pass.number - 1) (new_level w.at.setting.problem w.pass) w.pass.level (old_below w)) b
    (below_sides w r b.0.problem b.1 visits c.args.joined.now.under c.down_of-west.result.now h.2 down)
