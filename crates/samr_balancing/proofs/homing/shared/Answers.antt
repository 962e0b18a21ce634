use Rattle.std.proofs.Common.{◌∙◌}
use Rattle.samr_balancing.proofs.ShareLaws.{moves_are, pieces_are}
use Rattle.samr_balancing.proofs.HandLaws.{inside}
use Rattle.samr_balancing.proofs.homing.shared.Goals as goal

pub returns : goal.returns
returns g c = λ w r k is.
    let p = w.at.setting.problem in (
      k.0,
      k.1,
      moves_are p w.pass k.0.1.can r c.args.homed.now c.as_slice-2.result.now c.as_slice.result.now c.from_vec.result is c.as_slice-2.ensures (c.as_slice.ensures ∙ k.2)
          (c.from_vec.ensures ∙ c.in_ok-moves.ensures),
      pieces_are p w.pass k.0.1.can r (inside w r _ _ _ k.0.0 k.0.1) c.args.homed.now c.as_slice-3.result.now c.from_vec-2.result is c.as_slice-3.ensures
          (c.from_vec-2.ensures ∙ c.in_ok-pieces.ensures),
    )
