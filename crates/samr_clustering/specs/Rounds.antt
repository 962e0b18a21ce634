-- What a rank has in the rounds of the clustering of a pass.
use Rattle.std.specs.Prelude.{◌≡◌, ◌↔◌, ℕ, ◌<◌, List, []}
use Rattle.std.specs.List.{flat_map, range_with_len}
use Rattle.samr_box.specs.Lists.{Member}
use Rattle.samr_level.specs.Levels.{own_boxes}
use Rattle.samr_sign.specs.declared.rule.CutRule.{CutRule}
use Rattle.samr_sign.specs.Fields.{Field, AreTags}
use Rattle.samr_cluster.specs.declared.accepted.Accepted.{Accepted}
use Rattle.samr_cluster.specs.declared.nodes.Told.{Told}
use Rattle.samr_cluster.specs.declared.nodes.Directed.{Directed}
use Rattle.samr_cluster.specs.Cluster.{Clustering, IsClustering}
use Rattle.samr_cluster.specs.Accepting.{near_accepted}
use Rattle.samr_cluster.specs.Rounds.{told_state, directed_after, accepted_state}
use Rattle.samr_mesh.specs.Passes.{tags_in, rule_of}
use Rattle.samr_wholes.specs.Wholes.{clustering}
use Rattle.samr_msg.specs.Places.{AtPass, AtRound}
use Rattle.samr_msg.specs.PassStops.{clusters_at}

-- the clustering of a pass
abbrev pub whole_of : AtPass → Clustering
whole_of w = clustering w.at.setting.problem w.pass

-- the boxes accepted in the first rounds whose nodes a rank is near, round by round
abbrev pub accepted_in : Clustering → ℕ → ℕ → List Accepted
accepted_in c n r = flat_map (λ q. accepted_state (record { whole = c; number = q }) r) (range_with_len 0 n)

-- what a rank keeps through a round: its tags, what was accepted in the rounds before, how nodes are cut, and the number of the round
pub record IsKept (fields : List Field) (accepted : List Accepted) (rule : CutRule) (round : ℕ) (w : AtRound) (r : ℕ) : Type 0 where
  pub same_tags : AreTags (own_boxes r w.at.pass.level) (tags_in w.at.at.setting.problem w.at.pass) fields
  pub same_accepted : accepted ≡ accepted_in (whole_of w.at) w.round r
  pub same_rule : rule ≡ rule_of w.at.at.setting.problem
  pub same_round : round ≡ w.round

-- the open nodes that it was told, and those that it directs
pub record HasOpen (told : List Told) (directed : List Directed) (w : AtRound) (r : ℕ) : Type 0 where
  pub same_told : told ≡ told_state (clusters_at w) r
  pub same_directed : directed ≡ directed_after (whole_of w.at) r w.round

-- the accepted boxes of all rounds whose nodes it is near
abbrev pub HasAllAccepted : List Accepted → AtPass → ℕ → Type 0
HasAllAccepted accepted w r = (a : Accepted) → Member a accepted ↔ Member a (near_accepted (whole_of w) r)

-- a rank that was told nothing and directs nothing
pub record IsIdle (w : AtRound) (r : ℕ) : Type 0 where
  pub is : IsClustering (whole_of w.at)
  pub within : r < w.at.pass.ranks
  pub nodes : HasOpen [] [] w r
