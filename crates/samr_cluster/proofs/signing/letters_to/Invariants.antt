use Rattle.std.proofs.Common.{◌≡◌, take, map}
use Rattle.samr_cluster.specs.ReportRow.{signs_for}
use Rattle.samr_cluster.proofs.signing.letters_to.Given as goal

abbrev pub invariant-loop-to : goal.invariant-loop-to
invariant-loop-to l = l.letters.items ≡ map (λ to. (to, signs_for to l.fields l.near)) (take l.to-index l.directors)
