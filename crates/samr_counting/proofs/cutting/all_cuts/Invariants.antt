use Rattle.std.proofs.Common.{◌≡◌, ℕ, take, map, unsigned_abs}
use Rattle.samr_level.specs.Levels.{own}
use Rattle.samr_nest.specs.Nested.{cut_of}
use Rattle.samr_problem.specs.Fields.{Fields}
use Rattle.samr_mesh.specs.Passes.{Pass, clusters_of}
use Rattle.samr_counting.specs.Cutting.{IsCutting}
use Rattle.samr_counting.proofs.cutting.all_cuts.Given as goal

abbrev pub invariant-loop-cluster : goal.invariant-loop-cluster
invariant-loop-cluster l =
    (p : Fields) (w : Pass) (r : ℕ) → IsCutting l.edges l.fn.knife.region l.fn.knife.nest l.fn.knife.largest p w r → l.clusters ≡ own r (clusters_of p w)
    → l.cuts.items ≡ map (cut_of l.fn.knife.region w.level l.fn.knife.nest (unsigned_abs l.fn.knife.largest)) (take l.cluster-index l.clusters)
