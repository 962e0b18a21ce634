-- Whether a rank goes through one more round.
use Rattle.std.proofs.Common.{◌≡◌, ℕ, ◌<◌, refl, sym, ap, ◌∙◌, arith}
use Rattle.std.specs.Prelude.{Bool, true, false, ◌||◌, List}
use Rattle.std.proofs.lemmas.Bool.{false≢true}
use Rattle.samr_cluster.specs.declared.nodes.Told.{Told}
use Rattle.samr_cluster.specs.declared.nodes.Directed.{Directed}
use Rattle.samr_cluster.specs.Cluster.{IsClustering}
use Rattle.samr_msg.specs.Places.{AtRound}
use Rattle.samr_msg.specs.PassStops.{open_rounds}
use Rattle.samr_clustering.specs.Rounds.{whole_of, HasOpen, IsIdle}
use Rattle.samr_clustering.specs.NodeLaws.{some, no_items, any_told, any_directed, told_early, directed_early}
use Rattle.samr_clustering.specs.RoundLaws.{many_open}

module _ (w : AtRound) (r : ℕ) (is : IsClustering (whole_of w.at)) (within : r < w.at.pass.ranks) (told : List Told) (directed : List Directed) (has : HasOpen told directed w r) where
  -- who was told a node or directs one is in a round that there is
  pub told_more : some told ≡ true → w.round < open_rounds w.at
  told_more h =
      let c = whole_of w.at in
      let early = told_early c is r within w.round (sym (any_told c is r within w.round) ∙ ap some (sym has.same_told) ∙ h) in
      let many = many_open w.at is in
      omega (arith, early, many)

  pub directed_more : some directed ≡ true → w.round < open_rounds w.at
  directed_more h =
      let c = whole_of w.at in
      let early = directed_early c is r within w.round (sym (any_directed c is r within w.round) ∙ ap some (sym has.same_directed) ∙ h) in
      let many = many_open w.at is in
      omega (arith, early, many)

  -- who has neither is idle
  pub is_idle : some told ≡ false → some directed ≡ false → IsIdle w r
  is_idle t d = record {
    is = is;
    within = within;
    nodes = record {
      same_told = sym (no_items told t) ∙ has.same_told;
      same_directed = sym (no_items directed d) ∙ has.same_directed;
    };
  }

  -- by the test of both
  pub goes_on : (t : Bool) (a : List Told) (b : List Directed) → t ≡ (some a || some b) → a ≡ told → b ≡ directed → t ≡ true → w.round < open_rounds w.at
  goes_on t a b test same also holds = by (some told) (some directed) refl refl (sym (ap (λ (l : List Told). some l || some b) same ∙ ap (λ (l : List Directed). some told || some l) also) ∙ sym test ∙ holds)
    where
      by : (u v : Bool) → some told ≡ u → some directed ≡ v → (some told || some directed) ≡ true → w.round < open_rounds w.at
      by true v e f h = told_more e
      by false true e f h = directed_more f
      by false false e f h = absurd (false≢true (sym (ap (λ (x : Bool). x || some directed) e ∙ f) ∙ h))

  pub rests : (t : Bool) (a : List Told) (b : List Directed) → t ≡ (some a || some b) → a ≡ told → b ≡ directed → t ≡ false → IsIdle w r
  rests t a b test same also fails = by (some told) (some directed) refl refl (sym (ap (λ (l : List Told). some l || some b) same ∙ ap (λ (l : List Directed). some told || some l) also) ∙ sym test ∙ fails)
    where
      by : (u v : Bool) → some told ≡ u → some directed ≡ v → (some told || some directed) ≡ false → IsIdle w r
      by false false e f h = is_idle e f
      by true v e f h = absurd (false≢true (sym h ∙ ap (λ (x : Bool). x || some directed) e))
      by false true e f h = absurd (false≢true (sym h ∙ ap (λ (x : Bool). x || some directed) e ∙ f))
