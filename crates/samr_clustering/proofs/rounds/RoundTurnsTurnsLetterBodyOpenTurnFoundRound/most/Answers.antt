use Rattle.std.proofs.Common.{arith}
use Rattle.samr_clustering.proofs.Begun.{few_open}
use Rattle.samr_clustering.proofs.rounds.RoundTurnsTurnsLetterBodyOpenTurnFoundRound.most.Goals as goal

pub returns : goal.returns
returns c = λ d w r h. let few = few_open w.at h.0.0.1.can in omega (arith, few)
