use Rattle.std.proofs.Common.{ap, ◌∙◌, length, arith}
use Rattle.samr_level.specs.Overlaps.{of_rank}
use Rattle.samr_peers.proofs.PeerRows.{count_is}
use Rattle.samr_cluster.specs.Accepting.{to_owners, to_near}
use Rattle.samr_cluster.specs.EdgesRow.{with_boxes_of, edges_row}
use Rattle.samr_cluster.proofs.JoinLaws.{joined}
use Rattle.samr_cluster.proofs.edges.EdgesStage.goal.Goals as goal

pub returns : goal.returns
unfolding edges_row
returns c = λ w rank h.
    let e = ap length h.same_senders ∙ count_is w.ranks (to_owners w) (to_near w) (λ from to. of_rank to (with_boxes_of w from)) (joined w h.is) rank h.within in
    omega (arith, c.len.ensures, c.args.self.now.senders.ok.0, e)
