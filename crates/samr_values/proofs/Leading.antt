-- Edges that a test picks have patches at their bases where all have.
use Rattle.std.proofs.Common.{filter}
use Rattle.std.specs.Prelude.{Bool, List}
use Rattle.samr_box.proofs.Members.{Member-from_filter}
use Rattle.samr_level.specs.Refs.{Link}
use Rattle.samr_data.specs.Grids.{Grid}
use Rattle.samr_values.specs.Patches.{IsBased}

pub based_some : (test : Link → Bool) (edges : List Link) (field : List Grid) → IsBased edges field → IsBased (filter test edges) field
based_some test edges field h = record {
  order = h.order;
  there = λ e m. h.there e (Member-from_filter test e edges m).0;
}
