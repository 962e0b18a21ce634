use Rattle.std.proofs.Common.{◌<◌, ◌*◌, sym, ◌∙◌, arith}
use Rattle.std.proofs.lemmas.Int.{ints}
use Rattle.std.proofs.lemmas.Bool.{ltb-false}
use Rattle.samr_box.specs.Corners.{span}
use Rattle.samr_sign.specs.Decide.{ranked}
use Rattle.samr_sign.proofs.CutLaws.{cut_parts}
use Rattle.samr_sign.proofs.choice.decide.Goals as goal

pub split_by-requires-clause-some : goal.split_by-requires-clause-some
split_by-requires-clause-some c =
    let positive : 0 < c.unsigned_abs-least.result = omega (arith, ints, c.unsigned_abs-least.ensures.value, c.args.rule.now.positive) in
    let long = ltb-false (span (ranked c.shrunk-b.result).first c.shrunk-b.result) (2 * c.unsigned_abs-least.result) (sym c.is_short.ensures ∙ c.if-is_short.false) in
    (cut_parts c.args.s.now c.unsigned_abs-least.result c.shrunk-b.result c.cut_of.result c.shrunk-b.ensures.lengths long positive c.cut_of.ensures).0

pub split_by-requires-clause-rest : goal.split_by-requires-clause-rest
split_by-requires-clause-rest c =
    let positive : 0 < c.unsigned_abs-least.result = omega (arith, ints, c.unsigned_abs-least.ensures.value, c.args.rule.now.positive) in
    let long = ltb-false (span (ranked c.shrunk-b.result).first c.shrunk-b.result) (2 * c.unsigned_abs-least.result) (sym c.is_short.ensures ∙ c.if-is_short.false) in
    (cut_parts c.args.s.now c.unsigned_abs-least.result c.shrunk-b.result c.cut_of.result c.shrunk-b.ensures.lengths long positive c.cut_of.ensures).1
