use Rattle.std.proofs.Common.{◌≡◌, ap, sym, ◌∙◌, arith}
use Rattle.std.proofs.lemmas.Int.{ints}
use Rattle.std.specs.Prelude.{pos, ◌+ℤ◌, ◌-ℤ◌, ◌≤ℤ◌}
use Rattle.samr_box.specs.Vector.{at}
use Rattle.samr_box.specs.Space.{Space}
use Rattle.samr_ops.proofs.WalkLaws.{read_depth, read_over}
use Rattle.samr_ops.proofs.walk.depth.Goals as goal

pub returns-clause-value : goal.returns-clause-value
returns-clause-value c =
    let size : c.at.result ≡ at c.args.axis c.args.d.now.size = c.at.ensures ∙ ap (λ (s : Space). at c.args.axis s.size) c.d.view_is in
    let positive : pos 0 ≤ℤ c.at-place.result = omega (arith, ints, c.if-place-lt0.false) in
    let is = read_depth c.args.axis c.args.d.now c.args.x c.at-place.result c.at.result c.at-place.ensures size positive in
    let over = read_over c.args.axis c.args.d.now c.args.x c.at-place.result c.at.result c.at-place.ensures size positive c.requires.out in
    let near : ((c.at-place.result -ℤ c.at.result) +ℤ pos 1) ≤ℤ pos 1073741824 = omega (arith, ints, is, c.requires.near) in
    ◌∙◌ {b = (c.at-place.result -ℤ c.at.result) +ℤ pos 1} (omega (arith, ints, over, near)) (sym is)

pub returns-clause-positive : goal.returns-clause-positive
returns-clause-positive c =
    let size : c.at.result ≡ at c.args.axis c.args.d.now.size = c.at.ensures ∙ ap (λ (s : Space). at c.args.axis s.size) c.d.view_is in
    let positive : pos 0 ≤ℤ c.at-place.result = omega (arith, ints, c.if-place-lt0.false) in
    let is = read_depth c.args.axis c.args.d.now c.args.x c.at-place.result c.at.result c.at-place.ensures size positive in
    let over = read_over c.args.axis c.args.d.now c.args.x c.at-place.result c.at.result c.at-place.ensures size positive c.requires.out in
    let near : ((c.at-place.result -ℤ c.at.result) +ℤ pos 1) ≤ℤ pos 1073741824 = omega (arith, ints, is, c.requires.near) in
    omega (arith, ints, over, near)
