use Rattle.std.proofs.Common.{◌∙◌, refl, arith}
use Rattle.samr_values.specs.Merging.{merges}
use Rattle.samr_values.proofs.Merges.{one_more_merge, length_merges, all_taken}
use Rattle.samr_values.proofs.merging.merges_of.Goals as goal

pub loop-field-preserved : goal.loop-field-preserved
loop-field-preserved c =
    one_more_merge c.args.step c.args.rules.now c.args.moduli.now c.loop-field.field _ c.loop-field.merges.items c.push.new.self.items c.requires.same
    c.loop-field-test.true refl c.loop-field.invariant c.in_ok-push.ensures.items

pub returns : goal.returns
returns c =
    let count = length_merges c.args.step c.args.rules.now c.args.moduli.now c.requires.same in
    c.loop-field.invariant ∙ all_taken (merges c.args.step c.args.rules.now c.args.moduli.now) c.loop-field.field (omega (arith, count, c.loop-field-test.false))
