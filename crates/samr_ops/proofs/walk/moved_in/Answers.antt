use Rattle.std.proofs.Common.{◌≡◌, ap, ◌∙◌, arith}
use Rattle.std.proofs.lemmas.Int.{ints}
use Rattle.std.specs.Prelude.{pos, ◌-ℤ◌, ◌≤ℤ◌}
use Rattle.samr_box.specs.Vector.{at, put}
use Rattle.samr_box.specs.Space.{Space}
use Rattle.samr_ops.proofs.WalkLaws.{size_on, size_most, read_moved}
use Rattle.samr_ops.proofs.walk.moved_in.Goals as goal

pub returns : goal.returns
returns c =
    let d : Space = record { size = c.d.inside.size; periodic = c.d.inside.periodic } in
    let size : c.at-2.result ≡ at c.args.axis c.args.d.now.size = c.at-2.ensures ∙ ap (λ (s : Space). at c.args.axis s.size) c.d.view_is in
    let least = size_on c.args.axis d c.d.invariant in
    let most = size_most c.args.axis d c.d.invariant in
    let positive : pos 0 ≤ℤ c.at.result = omega (arith, ints, c.if-at-lt0.false) in
    ◌∙◌ {b = put c.args.axis c.args.x (c.at-2.result -ℤ c.args.inside)}
    (c.put-2.ensures ∙ ap (put c.args.axis c.args.x) (omega (arith, ints, least, most, c.at-2.ensures, c.requires.low, c.requires.high)))
    (read_moved c.args.axis c.args.d.now c.args.x c.at.result c.at-2.result c.args.inside c.at.ensures size positive)
