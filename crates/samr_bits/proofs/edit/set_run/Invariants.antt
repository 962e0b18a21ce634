use Rattle.std.proofs.Common.{◌≡◌, ℕ, ◌||◌}
use Rattle.std.specs.Prelude.{◌&&◌, nat_le, nat_lt}
use Rattle.samr_bits.specs.Bits.{is_set}
use Rattle.samr_bits.proofs.edit.set_run.Given as goal

abbrev pub invariant-loop-p : goal.invariant-loop-p
invariant-loop-p l = (q : ℕ) → is_set l.words q ≡ ((nat_le l.from q && nat_lt q l.p) || is_set l.fn.words q)
