-- The rounds of the clustering of a pass: how many are left, and what an idle rank has of them.
use Rattle.std.specs.Prelude.{◌≡◌, ◌↔◌, ℕ, zero, suc, ◌+◌, ◌<◌, Bool, true, false, nat_eq, ◌||◌, List, [], ◌∷◌, ◌++◌, refl}
use Rattle.std.specs.List.{list_any}
use Rattle.std.proofs.Common.{arith, ap, sym, ◌∙◌, subst, add-one}
use Rattle.std.proofs.lemmas.Bool.{false≢true}
use Rattle.std.proofs.lemmas.Bool.Decides.{nat_tests}
use Rattle.std.proofs.lemmas.List.Elements.{All-cons, All-nil}
use Rattle.samr_stage.specs.Fragments.{Fragment}
use Rattle.samr_box.specs.Lists.{Member}
use Rattle.samr_cluster.specs.declared.accepted.Accepted.{Accepted}
use Rattle.samr_cluster.specs.Cluster.{Clustering, IsClustering}
use Rattle.samr_cluster.specs.Accepting.{near_accepted}
use Rattle.samr_cluster.specs.Rounds.{open_of, told_state, directed_after, accepted_state}
use Rattle.samr_cluster.specs.ReportRow.{was_told}
use Rattle.samr_cluster.proofs.ClusterOnAllLaws.{one_given}
use Rattle.samr_phase.specs.AtOne.{fragment}
use Rattle.samr_phase.specs.Going.{AreSkipped}
use Rattle.samr_phase.specs.Stretch.{Stretch, at_one, followed}
use Rattle.samr_phase.specs.Turning.{last_ranks}
use Rattle.samr_msg.specs.declared.body.Body.{Body}
use Rattle.samr_msg.specs.declared.body.Body.TheVariants.{Report, Decide}
use Rattle.samr_msg.specs.Places.{AtPass, AtRound, first_round, next_round}
use Rattle.samr_msg.specs.WholeRun.{clustered}
use Rattle.samr_msg.specs.PassStops.{clusters_at, directs_open, is_near_one, all_ranks, open_rounds, rounds_open, reports_told, decisions_told}
use Rattle.samr_clustering.specs.Rounds.{whole_of, accepted_in, HasAllAccepted, IsIdle}
use Rattle.samr_clustering.specs.NodeLaws.{some, no_items, at, open_many, any_told, any_directed, far, untold, undirected, unaccepted, told_first, first_open, all_found}

pub many_open : (w : AtPass) (is : IsClustering (whole_of w)) → open_rounds w ≡ open_many (whole_of w) is
unfolding open_rounds
many_open w is = refl

pub fewer : (w : AtRound) → 0 < rounds_open w → rounds_open w ≡ rounds_open (next_round w) + 1
fewer w left = omega (arith, left)

two_false : (a b : Bool) → a ≡ false → b ≡ false → (a || b) ≡ false
two_false false false p q = refl
two_false true b p q = absurd (false≢true (sym p))
two_false false true p q = absurd (false≢true (sym q))

module _ (w : AtRound) (r : ℕ) (idle : IsIdle w r) where
  abbrev c : Clustering
  c = whole_of w.at

  untold_any : list_any (λ d. was_told (clusters_at w) r d) (all_ranks w) ≡ false
  untold_any = sym (any_told c idle.is r idle.within w.round) ∙ ap some (sym idle.nodes.same_told)

  far_any : is_near_one w r ≡ false
  far_any = far c idle.is r idle.within w.round untold_any

  directs_none : directs_open w r ≡ false
  directs_none = sym (any_directed c idle.is r idle.within w.round) ∙ ap some (sym idle.nodes.same_directed)

  not_first : 0 < rounds_open w → nat_eq w.round 0 ≡ false
  not_first left = by w.round refl
    where
      by : (n : ℕ) → w.round ≡ n → nat_eq w.round 0 ≡ false
      by zero e =
          let many = many_open w.at idle.is in
          let told = told_first c idle.is r idle.within (first_open c idle.is r idle.within (omega (arith, left, e, many))) in
          absurd (false≢true (sym (subst (λ (n : ℕ). list_any (λ d. was_told (at c idle.is n) r d) (all_ranks w) ≡ false) e untold_any) ∙ told))
      by (suc n) e = grind (arith, nat_tests, e)

  skips : 0 < rounds_open w → AreSkipped r (fragment (reports_told.label w) (reports_told.visits w) Report (reports_told.says w) ∷ fragment (decisions_told.label w) (decisions_told.visits w) Decide (decisions_told.says w) ∷ [])
  skips left =
      let no : Fragment Body → Type 0 = λ f. f.visits r ≡ false in
      let first = fragment (reports_told.label w) (reports_told.visits w) Report (reports_told.says w) in
      let second = fragment (decisions_told.label w) (decisions_told.visits w) Decide (decisions_told.says w) in
      All-cons no first (second ∷ []) (two_false _ _ (two_false _ _ (not_first left) directs_none) untold_any)
      (All-cons no second [] (two_false _ _ directs_none far_any) (All-nil no))

  next_idle : IsIdle (next_round w) r
  next_idle = record {
    is = idle.is;
    within = idle.within;
    nodes = record {
      same_told = sym (untold c idle.is r idle.within w.round far_any) ∙ ap (λ (n : ℕ). told_state (at c idle.is n) r) (sym (add-one w.round));
      same_directed = sym (undirected c idle.is r idle.within w.round (no_items (open_of (clusters_at w) r) directs_none)) ∙ ap (λ (n : ℕ). directed_after c r n) (sym (add-one w.round));
    };
  }

  pub rests : 0 < rounds_open w
      → AreSkipped r (fragment (reports_told.label w) (reports_told.visits w) Report (reports_told.says w) ∷ fragment (decisions_told.label w) (decisions_told.visits w) Decide (decisions_told.says w) ∷ []) × IsIdle (next_round w) r
  rests left = (skips left, next_idle)

  none_accepted : accepted_state (clusters_at w) r ≡ []
  none_accepted = unaccepted c idle.is r idle.within w.round far_any

accepted_more : (c : Clustering) (n r : ℕ) (list more all : List Accepted) → list ≡ accepted_in c n r → more ≡ accepted_state (record { whole = c; number = n }) r → all ≡ list ++ more → all ≡ accepted_in c (n + 1) r
accepted_more c n r list more all before now is =
    one_given (λ q. accepted_state (record { whole = c; number = q }) r) n [] list all (is ∙ ap (λ (l : List Accepted). list ++ l) now) before

append_none : {X : Type 0} (xs : List X) → xs ≡ xs ++ []
append_none [] = refl
append_none (x ∷ xs) = ap (λ l. x ∷ l) (append_none xs)

pub kept_accepted : (w : AtRound) (r : ℕ) (list more all : List Accepted) → list ≡ accepted_in (whole_of w.at) w.round r → more ≡ accepted_state (clusters_at w) r → all ≡ list ++ more
    → all ≡ accepted_in (whole_of w.at) (w.round + 1) r
kept_accepted w r list more all before now is = accepted_more (whole_of w.at) w.round r list more all before now is

pub stays : (w : AtRound) (r : ℕ) (list : List Accepted) → list ≡ accepted_in (whole_of w.at) w.round r → IsIdle w r → list ≡ accepted_in (whole_of w.at) (w.round + 1) r
stays w r list same idle = accepted_more (whole_of w.at) w.round r list [] list same (sym (none_accepted w r idle)) (append_none list)

pub ends : (w : AtRound) (r : ℕ) (list : List Accepted) → list ≡ accepted_in (whole_of w.at) w.round r → IsIdle w r → rounds_open w ≡ 0 → HasAllAccepted list w.at r
ends w r list same idle none a =
    let many = many_open w.at idle.is in
    subst (λ (l : List Accepted). Member a l ↔ Member a (near_accepted (whole_of w.at) r)) (sym same) (all_found (whole_of w.at) idle.is r idle.within w.round a (omega (arith, none, many)))

-- all ranks go on after the clustering
pub clustered_ranks : (w : AtPass) → (clustered.after w).pass.ranks ≡ w.pass.ranks
clustered_ranks w =
    let turn : Stretch AtRound AtRound Body = followed (at_one Report reports_told) (at_one Decide decisions_told) in
    last_ranks turn.fragments next_round (λ v. v.at.pass.ranks) (λ v. refl) rounds_open (first_round w)
