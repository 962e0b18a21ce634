use Rattle.std.proofs.Common.{arith}
use Rattle.samr_sign.specs.Counts.{tally}
use Rattle.samr_sign.specs.Fields.{tagged}
use Rattle.samr_sign.proofs.Sums.{next_fits, fields_sum, all_fields}
use Rattle.samr_sign.proofs.signature.count_all.Goals as goal

pub overflow_add-count : goal.overflow_add-count
overflow_add-count c =
    omega (
      arith,
      next_fits (λ f. tally (tagged f) c.args.region) c.args.fields.now c.loop-field.field-index c.field-item.result c.loop-field.count c.count-count.result c.loop-field-test.true c.field-item.is c.loop-field.invariant c.count-count.ensures,
      fields_sum c.args.fields.now c.args.region c.requires.apart,
      c.requires.few,
    )

pub returns : goal.returns
returns c = all_fields c.args.fields.now c.args.region c.loop-field.field-index c.loop-field.count c.requires.apart c.loop-field-test.false c.loop-field.invariant
