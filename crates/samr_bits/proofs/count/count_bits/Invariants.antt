use Rattle.std.proofs.Common.{◌≡◌, ◌*◌, ◌≤◌, take}
use Rattle.samr_bits.specs.Bits.{ones_of}
use Rattle.samr_bits.proofs.count.count_bits.Given as goal

abbrev pub invariant-loop-i : goal.invariant-loop-i
invariant-loop-i l = record {
  value : l.count ≡ ones_of (take (4 * l.i) l.words);
  small : l.count ≤ 64 * (4 * l.i);
}

abbrev pub invariant-loop-i-2 : goal.invariant-loop-i-2
invariant-loop-i-2 l = record {
  value : l.count ≡ ones_of (take l.i l.words);
  small : l.count ≤ 64 * l.i;
}
