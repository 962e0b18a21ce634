use Rattle.std.proofs.Common.{arith, ap, ◌+◌, ◌∙◌, ◌++◌, add-one, sym, List}
use Rattle.samr_cluster.specs.declared.accepted.Accepted.{Accepted}
use Rattle.samr_cluster.specs.declared.nodes.Decided.{Decided}
use Rattle.samr_cluster.specs.Rounds.{told_state, directed_after}
use Rattle.samr_wholes.proofs.PassStages.{is_clustering}
use Rattle.samr_clustering.specs.Rounds.{whole_of}
use Rattle.samr_clustering.specs.RoundLaws.{kept_accepted}
use Rattle.samr_clustering.specs.NodeLaws.{at}
use Rattle.samr_clustering.proofs.Begun.{few_open}
use Rattle.samr_clustering.proofs.deciding.DecideStepStepLetterBodyHeardOpenDecide.end.Goals as goal

pub overflow_add-result : goal.overflow_add-result
overflow_add-result c = λ d.
    let few = few_open d.requires.0.at d.requires.2.0.0.1.can in
    let same = d.requires.2.0.1.same_round in
    let less = d.requires.2.1 in
    omega (arith, few, same, less)

pub returns : goal.returns
returns c = λ d w r h gives.
    let is = is_clustering w.at.at.setting.problem w.at.pass h.0.0.1.can in
    let less = h.1 in (
      (
        h.0.0,
        record {
          same_tags = h.0.1.same_tags;
          same_accepted = kept_accepted w r d.args.self.kept.accepted d.args.given.accepted d.from_vec.result h.0.1.same_accepted (ap (λ (o : Decided). o.accepted) gives)
              (d.from_vec.ensures
              ∙ d.in_ok-append.ensures.items
              ∙ ap (λ (l : List Accepted). l ++ d.into_vec-more.result.items) d.into_vec-all.ensures
              ∙ ap (λ (l : List Accepted). d.args.self.kept.accepted ++ l) d.into_vec-more.ensures);
          same_rule = h.0.1.same_rule;
          same_round = ap (λ n. n + 1) h.0.1.same_round;
        },
      ),
      record {
        same_told = ap (λ (o : Decided). o.told) gives ∙ ap (λ n. told_state (at (whole_of w.at) is n) r) (sym (add-one w.round));
        same_directed = ap (λ (o : Decided). o.directed) gives ∙ ap (λ n. directed_after (whole_of w.at) r n) (sym (add-one w.round));
      },
      omega (arith, less),
    )
