use Rattle.std.proofs.Common.{◌≡◌, take}
use Rattle.std.specs.List.{flat_map}
use Rattle.samr_cluster.specs.ReportRow.{sign_for}
use Rattle.samr_cluster.proofs.signing.signatures_for.Given as goal

abbrev pub invariant-loop-t : goal.invariant-loop-t
invariant-loop-t l = l.signs.items ≡ flat_map (λ t. sign_for l.director l.fields t) (take l.t-index l.near)
