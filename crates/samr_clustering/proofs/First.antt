-- What a rank has before the first round: the roots.
use Rattle.std.proofs.Common.{◌≡◌, ℕ, refl, ap, ◌∙◌, List}
use Rattle.std.specs.List.{range_with_len}
use Rattle.samr_box.specs.Corners.{Corners}
use Rattle.samr_rounds.specs.Rounds.{told, directed}
use Rattle.samr_cluster.specs.declared.nodes.Told.{Told}
use Rattle.samr_cluster.specs.declared.nodes.Directed.{Directed}
use Rattle.samr_cluster.specs.ClusterOnAll.{first_told}
use Rattle.samr_cluster.specs.Rounds.{asked_of, told_state, directed_after}
use Rattle.samr_mesh.specs.Domains.{roots_at}
use Rattle.samr_msg.specs.Places.{AtPass, first_round}
use Rattle.samr_msg.specs.PassStops.{clusters_at}
use Rattle.samr_clustering.specs.Rounds.{whole_of, HasOpen}

first_is : (w : AtPass) (r : ℕ) → first_told w.pass.ranks (roots_at w.at.setting.problem w.pass.number) r ≡ told_state (clusters_at (first_round w)) r
unfolding first_told told_state told
first_is w r = refl

directs : (w : AtPass) (r : ℕ) → asked_of (range_with_len 0 w.pass.ranks) (directed w.pass.ranks r (roots_at w.at.setting.problem w.pass.number)) ≡ directed_after (whole_of w) r 0
unfolding directed_after
directs w r = refl

pub begins : (w : AtPass) (r ranks rank ranks' rank' : ℕ) (roots roots' : List Corners) (nodes : List Told) (own : List Directed) → ranks ≡ w.pass.ranks → rank ≡ r → ranks' ≡ w.pass.ranks → rank' ≡ r
    → roots ≡ roots_at w.at.setting.problem w.pass.number → roots' ≡ roots_at w.at.setting.problem w.pass.number → nodes ≡ first_told ranks roots rank → own ≡ asked_of (range_with_len 0 ranks') (directed ranks' rank' roots')
    → HasOpen nodes own (first_round w) r
begins w r ranks rank ranks' rank' roots roots' nodes own many here many' here' are are' first second = record {
  same_told =
      first ∙ ap (λ n. first_told n roots rank) many ∙ ap (λ n. first_told w.pass.ranks roots n) here ∙ ap (λ (l : List Corners). first_told w.pass.ranks l r) are
      ∙ first_is w r;
  same_directed =
      second ∙ ap (λ n. asked_of (range_with_len 0 n) (directed n rank' roots')) many' ∙ ap (λ n. asked_of (range_with_len 0 w.pass.ranks) (directed w.pass.ranks n roots')) here'
      ∙ ap (λ (l : List Corners). asked_of (range_with_len 0 w.pass.ranks) (directed w.pass.ranks r l)) are'
      ∙ directs w r;
}
