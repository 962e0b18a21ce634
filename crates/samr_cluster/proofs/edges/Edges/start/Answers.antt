use Rattle.samr_cluster.proofs.EdgesStage.{begins}
use Rattle.samr_cluster.proofs.edges.Edges.start.Goals as goal

pub returns : goal.returns
returns c = λ w r h.
    begins c.args.rank c.args.d.now c.args.boxes.now c.args.accepted.now c.args.width c.args.to_level w r h _ _ _ _ c.finer-frame.ensures c.in_ok-compared.ensures c.in_ok-owners_of.ensures c.in_ok-near_of.ensures
