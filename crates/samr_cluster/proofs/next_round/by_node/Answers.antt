use Rattle.std.proofs.Common.{◌≡◌, rules}
use Rattle.std.specs.Ordering.{is_lt}
use Rattle.std.proofs.lemmas.Fn.{always_returns_same}
use Rattle.samr_rounds.proofs.Sorting.{stable_is, corner_ranks}
use Rattle.samr_cluster.specs.declared.nodes.Directed.{Directed}
use Rattle.samr_cluster.specs.Rounds.{directed_less}
use Rattle.samr_cluster.proofs.next_round.by_node.Goals as goal

pub returns : goal.returns
returns c =
    let ranks = corner_ranks (λ (p : Directed). p.node) in
    let answers = always_returns_same _ (λ a r. is_lt r ≡ directed_less a.0.now a.1.0.now) _ (λ a r f' k. (search rules, search rules)) in
    stable_is directed_less ranks _ _ (c.in_ok-sort_by.ensures.sorted directed_less ranks answers) (c.in_ok-sort_by.ensures.stable directed_less ranks answers)
