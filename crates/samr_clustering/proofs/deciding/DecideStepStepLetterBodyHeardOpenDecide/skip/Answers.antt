use Rattle.std.proofs.Common.{arith, ap, ◌+◌, ◌<◌}
use Rattle.samr_wholes.proofs.PassStages.{is_clustering}
use Rattle.samr_clustering.proofs.Begun.{few_open, decide_skipped, accepted_skipped}
use Rattle.samr_clustering.proofs.deciding.DecideStepStepLetterBodyHeardOpenDecide.skip.Goals as goal

pub overflow_add-result : goal.overflow_add-result
overflow_add-result c = λ d.
    let few = few_open d.requires.0.at d.requires.2.0.0.1.can in
    let same = d.requires.2.0.1.same_round in
    let less = d.requires.2.2 in
    omega (arith, few, same, less)

pub returns-clause-after : goal.returns-clause-after
returns-clause-after c = λ d w r h silent.
    let is = is_clustering w.at.at.setting.problem w.at.pass h.0.0.1.can in
    let within : r < w.at.pass.ranks = omega (arith, h.0.0.0.within, h.0.0.1.same_ranks) in
    let less = h.2 in (
      (
        h.0.0,
        record {
          same_tags = h.0.1.same_tags;
          same_accepted = accepted_skipped w r _ is within silent h.0.1.same_accepted;
          same_rule = h.0.1.same_rule;
          same_round = ap (λ n. n + 1) h.0.1.same_round;
        },
      ),
      decide_skipped w r _ _ is within silent d.new.ensures d.new-2.ensures,
      omega (arith, less),
    )
