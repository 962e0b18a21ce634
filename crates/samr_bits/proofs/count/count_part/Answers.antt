use Rattle.std.proofs.Common.{◌^◌, ◌-◌, ◌/◌, ap, ◌∙◌}
use Rattle.std.specs.Prelude.{count_ones}
use Rattle.std.specs.Int.RustNames.{bit_and}
use Rattle.std.proofs.lemmas.Nat.{one_shl}
use Rattle.samr_bits.proofs.Bits.{ones_part}
use Rattle.samr_bits.proofs.count.count_part.Goals as goal

pub returns-clause-value : goal.returns-clause-value
returns-clause-value c =
    c.from.ensures
    ∙ ap (λ m. count_ones (bit_and (c.args.word / 2 ^ c.args.from) (m - 1))) (one_shl c.args.n 64 c.requires.short)
    ∙ ones_part c.args.word c.args.from c.args.n
