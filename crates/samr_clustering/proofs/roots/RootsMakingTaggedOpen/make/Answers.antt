use Rattle.std.proofs.Common.{arith, refl, ap, ◌∙◌}
use Rattle.samr_problem.specs.Fields.{Fields}
use Rattle.samr_mesh.specs.Domains.{roots_at}
use Rattle.samr_mesh.specs.Passes.{rule_of}
use Rattle.samr_clustering.proofs.First.{begins}
use Rattle.samr_clustering.proofs.roots.RootsMakingTaggedOpen.make.Goals as goal

pub returns-clause-after : goal.returns-clause-after
returns-clause-after g c = λ w r h.
    let base = h.0 in
    let are =
    c.in_ok-roots.ensures ∙ ap (λ (p : Fields). roots_at p c.level.result) (c.problem-2.ensures w r base)
    ∙ ap (roots_at w.at.setting.problem) (c.level.ensures w r base) in (
      (
        base,
        record {
          same_tags = h.1;
          same_accepted = c.new.ensures;
          same_rule = c.rule_of-rule.ensures ∙ ap rule_of (c.problem.ensures w r base);
          same_round = refl;
        },
      ),
      begins w r _ _ _ _ _ _ _ _ (c.ranks.ensures w r base) (c.rank.ensures w r base) (c.ranks-2.ensures w r base) (c.rank-2.ensures w r base)
          (c.as_slice.ensures.value ∙ are) (c.as_slice-2.ensures.value ∙ are) (c.from_vec.ensures ∙ c.in_ok-told.ensures) (c.from_vec-2.ensures ∙ c.in_ok-directed.ensures),
      omega arith,
    )
