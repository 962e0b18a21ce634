use Rattle.samr_bits.proofs.Bits.{set_one}
use Rattle.samr_bits.proofs.edit.set_bit.Goals as goal

pub returns : goal.returns
returns c = set_one c.args.words.now c.args.p c.requires
