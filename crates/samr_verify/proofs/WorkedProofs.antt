-- The first faults of the worked meshes, by computing.
use Rattle.std.proofs.Common.{refl}
use Rattle.samr_boxlist.specs.Slabs.{without}
use Rattle.samr_level.specs.Blocks.{level0, with_owners, blocks_of, block_at}
use Rattle.samr_level.specs.Overlaps.{shifts, true_overlaps}
use Rattle.samr_level.specs.RefOrders.{inserted, in_order}
use Rattle.samr_verify.specs.MeshFaults.{edges_due, mesh_fault}
use Rattle.samr_verify.specs.Worked.{WorkedFaults}

pub worked_faults : WorkedFaults
unfolding level0 with_owners blocks_of block_at inserted in_order shifts true_overlaps without edges_due mesh_fault
worked_faults = record { sound = refl; no_edge = refl; longer = refl; two_sound = refl; turned = refl; at_border = refl }
