use Rattle.std.proofs.Common.{◌≡◌, ◌<◌, ◌^◌, length, take}
use Rattle.samr_level.specs.Blocks.{blocks_in}
use Rattle.samr_level.proofs.blocks.are_few.Given as goal

abbrev pub invariant-loop-bx : goal.invariant-loop-bx
invariant-loop-bx l = record {
  count : l.count ≡ length (blocks_in l.block (take l.bx-index l.boxes));
  few : l.count < 2 ^ 48;
}
