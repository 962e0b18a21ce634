use Rattle.std.proofs.Common.{◌≡◌, length, take, filter}
use Rattle.samr_box.specs.Corners.{meets}
use Rattle.samr_level.specs.Blocks.{blocks_in}
use Rattle.samr_level.proofs.BlockNumbers.{numbered}
use Rattle.samr_level.proofs.blocks.members_in.Given as goal

abbrev pub invariant-loop-bx : goal.invariant-loop-bx
invariant-loop-bx l = record {
  out : l.out.items ≡ filter (λ b. meets l.fn.window b.bx) (numbered l.count l.ranks 0 (blocks_in l.fn.block (take l.bx-index l.boxes)));
  first : l.first ≡ length (blocks_in l.fn.block (take l.bx-index l.boxes));
}
