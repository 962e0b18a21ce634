use Rattle.std.proofs.Common.{arith, ◌<◌}
use Rattle.samr_wholes.proofs.PassStages.{is_clustering}
use Rattle.samr_clustering.proofs.Turning.{goes_on, rests}
use Rattle.samr_clustering.proofs.rounds.RoundTurnsTurnsLetterBodyOpenTurnFoundRound.turn.Goals as goal

pub returns-then-goes_on-clause-chosen : goal.returns-then-goes_on-clause-chosen
returns-then-goes_on-clause-chosen g c = λ w r h.
    let is = is_clustering w.at.at.setting.problem w.at.pass h.0.0.1.can in
    let within : r < w.at.pass.ranks = omega (arith, h.0.0.0.within, h.0.0.1.same_ranks) in
    let less = goes_on w r is within _ _ h.1 _ _ _ c.goes_on.ensures c.as_slice.ensures c.as_slice-2.ensures c.if-goes_on.true in
    (omega (arith, less), (h.0, h.1, less))

pub returns-clause-chosen : goal.returns-clause-chosen
returns-clause-chosen g c = λ w r h.
    let is = is_clustering w.at.at.setting.problem w.at.pass h.0.0.1.can in
    let within : r < w.at.pass.ranks = omega (arith, h.0.0.0.within, h.0.0.1.same_ranks) in
    (rests w r is within _ _ h.1 _ _ _ c.goes_on.ensures c.as_slice.ensures c.as_slice-2.ensures c.if-goes_on.false, (h.0.0, h.0.1.same_accepted))
