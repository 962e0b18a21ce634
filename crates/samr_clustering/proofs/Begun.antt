-- What the stages of the clustering of a pass start with.
use Rattle.std.proofs.Common.{◌≡◌, ℕ, suc, ◌+◌, ◌<◌, ◌≤◌, refl, sym, ap, ◌∙◌, arith, add-one}
use Rattle.std.proofs.lemmas.Int.{ints}
use Rattle.std.proofs.lemmas.Bool.{false≢true}
use Rattle.std.proofs.lemmas.Bool.Decides.{nat_tests}
use Rattle.std.specs.Prelude.{ℤ, pos, ◌≤ℤ◌, ◌+ℤ◌, ◌-ℤ◌, unsigned_abs, Bool, true, false, not, ◌||◌, ◌==◌, nat_eq, List, [], ◌∷◌, ◌++◌, map, length}
use Rattle.std.specs.List.{list_any}
use Rattle.samr_box.specs.Vector.{InRange}
use Rattle.samr_box.specs.Corners.{Corners, Holds, holds}
use Rattle.samr_box.specs.Space.{IsSpace, finer, whole}
use Rattle.samr_box.specs.Lists.{Member}
use Rattle.samr_box.proofs.CellSets.{Holds-lo, Holds-hi, holds-from}
use Rattle.samr_sign.specs.Laws.{depth}
use Rattle.samr_cluster.specs.declared.accepted.Accepted.{Accepted}
use Rattle.samr_cluster.specs.declared.nodes.Told.{Told}
use Rattle.samr_cluster.specs.declared.nodes.Directed.{Directed}
use Rattle.samr_cluster.specs.declared.nodes.Counted.{Counted}
use Rattle.samr_cluster.specs.declared.nodes.Reported.{Reported}
use Rattle.samr_cluster.specs.Cluster.{IsClustering}
use Rattle.samr_cluster.specs.Rounds.{near_state, told_state, directed_after, open_of, counted_as}
use Rattle.samr_cluster.specs.DecideParts.{reported_state}
use Rattle.samr_rounds.proofs.Lists.{any_member, any_map}
use Rattle.samr_problem.specs.Fields.{Fields}
use Rattle.samr_mesh.specs.Domains.{area_of, ratio_to, roots_at, frame_at}
use Rattle.samr_mesh.specs.Passes.{Pass}
use Rattle.samr_mesh.specs.Soundness.{CanRun}
use Rattle.samr_mesh.proofs.Scaling.{space_of}
use Rattle.samr_wholes.proofs.PassStages.{is_clustering, width_low}
use Rattle.samr_msg.specs.Places.{AtPass, AtRound, next_round}
use Rattle.samr_msg.specs.PassStops.{clusters_at, open_rounds, reports_told, decisions_told}
use Rattle.samr_clustering.specs.Rounds.{whole_of, accepted_in, HasOpen}
use Rattle.samr_clustering.specs.NodeLaws.{some, no_items, at, any_told, any_near, any_directed, few_rounds, far, untold, undirected, unaccepted}
use Rattle.samr_clustering.specs.RoundLaws.{many_open, kept_accepted}

any_by : (n : ℕ) (t : Bool) → (suc n == 0) ≡ t → not t ≡ true
any_by n false e = refl
any_by n true e = grind (arith, nat_tests, e)

pub has_any_is : {X : Type 0} (xs : List X) → not (length xs == 0) ≡ list_any (λ x. true) xs
has_any_is [] = refl
has_any_is (x ∷ xs) = any_by (length xs) (length (x ∷ xs) == 0) refl

pub wide : (p : Fields) (w : Pass) → CanRun p w → InRange p.width
wide p w run =
    let low = width_low p w run in
    let a = run.can.width in
    let b = run.can.here.wide in
    let s = run.can.here.small in
    record {
      low = record { k = omega (arith, ints, low.k); j = omega (arith, ints, low.j); i = omega (arith, ints, low.i) };
      high = record { k = omega (arith, ints, a.k, b.k, s.k); j = omega (arith, ints, a.j, b.j, s.j); i = omega (arith, ints, a.i, b.i, s.i) };
    }

pub space : (p : Fields) (w : Pass) → CanRun p w → IsSpace (finer (area_of p).frame (ratio_to p w.number))
space p w run = space_of p w.number run.can.here

-- a round is gone through by those that have something to do
pub reports_visited : (w : AtRound) (r round : ℕ) (directed : List Directed) (told : List Told) → IsClustering (whole_of w.at) → r < w.at.pass.ranks → round ≡ w.round → HasOpen told directed w r
    → (nat_eq round 0 || some directed || some told) ≡ reports_told.visits w r
reports_visited w r round directed told is within same has =
    let c = whole_of w.at in
    ap (λ (n : ℕ). nat_eq n 0 || some directed || some told) same
    ∙ ap (λ (t : Bool). nat_eq w.round 0 || t || some told) (ap some has.same_directed ∙ any_directed c is r within w.round)
    ∙ ap (λ (t : Bool). nat_eq w.round 0 || some (open_of (clusters_at w) r) || t) (ap some has.same_told ∙ any_told c is r within w.round)

pub decisions_visited : (w : AtRound) (r : ℕ) (counted : List Counted) (near : List Told) → IsClustering (whole_of w.at) → r < w.at.pass.ranks
    → counted ≡ map (λ b. counted_as (whole_of w.at) b) (open_of (clusters_at w) r) → near ≡ near_state (clusters_at w) r → (some counted || some near) ≡ decisions_told.visits w r
decisions_visited w r counted near is within e f =
    let c = whole_of w.at in
    ap (λ (t : Bool). t || some near) (ap some e ∙ any_map (λ x. true) (λ b. counted_as c b) (open_of (clusters_at w) r))
    ∙ ap (λ (t : Bool). some (open_of (clusters_at w) r) || t) (ap some f ∙ any_near c is r within w.round)

-- the rounds can be counted
span_few : (size l h : ℤ) → pos 0 ≤ℤ l → l ≤ℤ h → h ≤ℤ (size -ℤ pos 1) → size ≤ℤ pos 4194304 → unsigned_abs ((h -ℤ l) +ℤ pos 1) ≤ 4194304
span_few size l h p q r s = omega (arith, ints)

root_depth : (p : Fields) (w : Pass) → CanRun p w → (b : Corners) → Member b (roots_at p w.number) → depth b ≤ 12582912
root_depth p w run b m =
    let is = run.can.roots in
    let order = (is.nodes b m).whole.order in
    let inside : (x : _) → Holds b x → Holds (whole (frame_at p w.number)) x = λ x h. (is.cells x).0 (any_member (λ (v : Corners). holds v x) b (roots_at p w.number) m (holds-from h)) in
    let low = (inside b.lo (Holds-lo {b = b} order)).low in
    let high = (inside b.hi (Holds-hi {b = b} order)).high in
    let s = run.can.here.small in
    let size = (frame_at p w.number).size in
    let i = span_few size.i b.lo.i b.hi.i low.i order.i high.i s.i in
    let j = span_few size.j b.lo.j b.hi.j low.j order.j high.j s.j in
    let k = span_few size.k b.lo.k b.hi.k low.k order.k high.k s.k in
    omega (arith, i, j, k)

pub few_open : (w : AtPass) → CanRun w.at.setting.problem w.pass → open_rounds w ≤ 12582912
few_open w run =
    let is = is_clustering w.at.setting.problem w.pass run in
    let many = many_open w is in
    let few = few_rounds (whole_of w) is 12582912 (root_depth w.at.setting.problem w.pass run) in
    omega (arith, many, few)

or_second : (a b : Bool) → (a || b) ≡ false → b ≡ false
or_second true b e = absurd (false≢true (sym e))
or_second false b e = e

or_first : (a b : Bool) → (a || b) ≡ false → a ≡ false
or_first true b e = absurd (false≢true (sym e))
or_first false b e = refl

-- who does not visit a stage of a round has after it what he had
pub report_skipped : (w : AtRound) (r : ℕ) (near : List Told) (counted : List Counted) → IsClustering (whole_of w.at) → r < w.at.pass.ranks → reports_told.visits w r ≡ false → near ≡ [] → counted ≡ []
    → (let o : Reported = record { near = near; counted = counted } in o) ≡ reported_state (clusters_at w) r
report_skipped w r near counted is within silent e f =
    let c = whole_of w.at in
    let none = no_items (open_of (clusters_at w) r) (or_second _ _ (or_first _ _ silent)) in
    let far_too = no_items (near_state (clusters_at w) r) (any_near c is r within w.round ∙ far c is r within w.round (or_second _ _ silent)) in
    ap (λ (l : List Told). let o : Reported = record { near = l; counted = counted } in o) (e ∙ sym far_too)
    ∙ ap (λ (l : List Counted). let o : Reported = record { near = near_state (clusters_at w) r; counted = l } in o) (f ∙ sym (ap (map (λ b. counted_as c b)) none))

pub decide_skipped : (w : AtRound) (r : ℕ) (told : List Told) (directed : List Directed) → IsClustering (whole_of w.at) → r < w.at.pass.ranks → decisions_told.visits w r ≡ false → told ≡ [] → directed ≡ []
    → HasOpen told directed (next_round w) r
decide_skipped w r told directed is within silent e f =
    let c = whole_of w.at in
    record {
      same_told = e ∙ sym (untold c is r within w.round (or_second _ _ silent)) ∙ ap (λ (n : ℕ). told_state (at c is n) r) (sym (add-one w.round));
      same_directed = f ∙ sym (undirected c is r within w.round (no_items (open_of (clusters_at w) r) (or_first _ _ silent))) ∙ ap (λ (n : ℕ). directed_after c r n) (sym (add-one w.round));
    }

append_none : {X : Type 0} (xs : List X) → xs ≡ xs ++ []
append_none [] = refl
append_none (x ∷ xs) = ap (λ l. x ∷ l) (append_none xs)

pub accepted_skipped : (w : AtRound) (r : ℕ) (list : List Accepted) → IsClustering (whole_of w.at) → r < w.at.pass.ranks → decisions_told.visits w r ≡ false → list ≡ accepted_in (whole_of w.at) w.round r
    → list ≡ accepted_in (whole_of w.at) (w.round + 1) r
accepted_skipped w r list is within silent same =
    kept_accepted w r list [] list same (sym (unaccepted (whole_of w.at) is r within w.round (or_second _ _ silent))) (append_none list)
