use Rattle.std.proofs.Common.{◌≤◌, ◌-◌, suc, arith}
use Rattle.samr_mesh.proofs.Grounding.{can_pass}
use Rattle.samr_mesh.proofs.Regions.{has_level0}
use Rattle.samr_box.proofs.Vectors.{AtMost-trans}
use Rattle.samr_verify.proofs.nesting.is_nested.Goals as goal

pub nests-requires-clause-low : goal.nests-requires-clause-low
nests-requires-clause-low c =
    let p = c.args.problem.now in
    let few : suc (suc (c.args.l - 1)) ≤ p.levels = omega arith in
    rw c.nest_of.ensures (can_pass p c.requires.is (c.args.l - 1) few).nest

pub nests-requires-clause-high : goal.nests-requires-clause-high
nests-requires-clause-high c =
    let p = c.args.problem.now in
    let few : suc (suc (c.args.l - 1)) ≤ p.levels = omega arith in
    let can = can_pass p c.requires.is (c.args.l - 1) few in
    let base = has_level0 p c.requires.is in
    rw c.nest_of.ensures (AtMost-trans can.nest_width (AtMost-trans can.width base.area.frame.high))
