use Rattle.std.proofs.Common.{◌≡◌, take, map}
use Rattle.samr_level.specs.Refs.{Owned}
use Rattle.samr_rounds.specs.Owners.{owner_of}
use Rattle.samr_sign.specs.Fields.{tagged}
use Rattle.samr_mesh_plain.proofs.clusters.with_owners.Given as goal

abbrev pub invariant-loop-bx : goal.invariant-loop-bx
invariant-loop-bx l = l.owned.items ≡ map (λ b. let o : Owned = record { owner = owner_of (tagged l.fn.tags) l.fn.level l.fn.ranks b; bx = b } in o) (take l.bx-index l.clusters)
