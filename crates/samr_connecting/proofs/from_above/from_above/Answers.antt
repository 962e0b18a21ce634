use Rattle.std.proofs.Common.{◌≡◌, is_some, Some, sym, ap, ◌∙◌, refl}
use Rattle.samr_level.specs.declared.parts.Pair.{Pair}
use Rattle.samr_msg.specs.Places.{old_above}
use Rattle.samr_wholes.specs.Bridges.{from_above}
use Rattle.samr_connecting.proofs.Sides.{made, some_old, above_sides, above_space}
use Rattle.samr_connecting.proofs.from_above.from_above.Goals as goal

some_same : {x y : Pair} → Some x ≡ Some y → x ≡ y
some_same e = cc

pub same_of-same-requires : goal.same_of-same-requires
same_of-same-requires g c =
    let w = c.requires.0 in
    let r = c.requires.1 in
    let h = c.requires.2 in
    let b = h.0.0 in
    ap is_some (h.1 ∙ sym (made _ _ _ (some_old w r b.0.problem b.1 c.requires.3) refl))

pub bridge-requires : goal.bridge-requires
bridge-requires g c =
    let w = c.requires.0 in
    let r = c.requires.1 in
    let h = c.requires.2 in
    let top = c.requires.3 in
    let b = h.0.0 in
    let same = some_same (sym c.same_of-same.ensures ∙ h.1 ∙ sym (made _ _ _ (some_old w r b.0.problem b.1 top) refl)) in (
      w,
      r,
      b,
      above_space w r b.0.problem b.1 top c.above_under-east.result.now c.in_ok-west.west
          (above_sides w r b.0.problem b.1 top c.above_under-east.result.now c.in_ok-west.west c.same_of-same.result.now (c.above_under-east.ensures w r b top) c.in_ok-west.ensures same),
    )

pub returns : goal.returns
returns g c = λ w r h top.
    let b = h.0.0 in
    let same = some_same (sym c.same_of-same.ensures ∙ h.1 ∙ sym (made _ _ _ (some_old w r b.0.problem b.1 top) refl)) in
    c.in_ok-stage.ensures w r (from_above w.at.setting.problem w.pass (old_above w)) b
    (above_sides w r b.0.problem b.1 top c.above_under-east.result.now c.in_ok-west.west c.same_of-same.result.now (c.above_under-east.ensures w r b top) c.in_ok-west.ensures same)
