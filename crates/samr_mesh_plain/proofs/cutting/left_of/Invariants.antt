use Rattle.std.proofs.Common.{◌≡◌, take}
use Rattle.std.specs.Prelude.{unsigned_abs}
use Rattle.std.specs.List.{flat_map}
use Rattle.samr_nest.specs.Nested.{cut_of}
use Rattle.samr_mesh.specs.Domains.{area_at}
use Rattle.samr_mesh_plain.proofs.cutting.left_of.Given as goal

abbrev pub invariant-loop-cluster : goal.invariant-loop-cluster
invariant-loop-cluster l =
    l.left.items ≡ flat_map (λ c. (cut_of (area_at l.fn.problem l.fn.w.number) l.fn.w.level l.fn.problem.nest (unsigned_abs l.fn.problem.largest) c).news) (take l.cluster-index l.clusters)
