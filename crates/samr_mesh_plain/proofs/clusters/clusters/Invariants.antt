use Rattle.std.proofs.Common.{◌≡◌, take}
use Rattle.std.specs.List.{flat_map}
use Rattle.samr_rounds.specs.Clusters.{clusters_in}
use Rattle.samr_sign.specs.Fields.{tagged}
use Rattle.samr_mesh_plain.proofs.clusters.clusters.Given as goal

abbrev pub invariant-loop-root : goal.invariant-loop-root
invariant-loop-root l = l.all.items ≡ flat_map (λ b. clusters_in (tagged l.fn.tags) l.fn.rule b) (take l.root-index l.roots)
