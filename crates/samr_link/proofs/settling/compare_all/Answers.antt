use Rattle.std.proofs.Common.{◌≡◌, ◌<◌, ℕ, List, length, map, get_or, sym, ap, ◌∙◌, subst, ⊎_elim, arith}
use Rattle.std.proofs.lemmas.Bool.{cases_lt}
use Rattle.std.proofs.lemmas.List.{length-map, get_or-map, get_or_default}
use Rattle.crossbeam_queue.specs.Passes.{view}
use Rattle.samr_link.specs.declared.inbox.View.{View}
use Rattle.samr_link.specs.Inbox.{KeepsAll, IsCompared}
use Rattle.samr_link.specs.Queue.{inbox_id}
use Rattle.samr_link.specs.Settled.{IsBack, view_at}
use Rattle.samr_link.specs.Views.{spent_view}
use Rattle.samr_link.proofs.EndLemmas.{views_same}
use Rattle.samr_link.proofs.Returning.{zip_here, back_set, read_view}
use Rattle.samr_link.proofs.Zips.{zip_length}
use Rattle.samr_link.proofs.settling.compare_all.Goals as goal
use Rattle.samr_link.proofs.settling.compare_all.Goals.{After-index_mut}

pub index_mut-requires : goal.index_mut-requires
index_mut-requires g c =
    omega (arith, zip_length (IsBack (length c.args.inboxes.now.items)) (map inbox_id c.args.inboxes.now.items) c.inboxes.keepers.items c.inboxes.invariant.back, length-map c.args.inboxes.now.items inbox_id, c.inboxes.keepers.ok.0, c.args.inboxes.now.ok.0)

here : (g : _) (c : After-index_mut g) → (c.inboxes.place < length c.inboxes.keepers.items) × IsBack (length c.args.inboxes.now.items) (inbox_id c.index.result.now) c.index_mut.result.now
here g c =
    let below : c.inboxes.place < length c.args.inboxes.now.items = omega (arith, c.args.inboxes.now.ok.0) in (
      omega (arith, below, zip_length (IsBack (length c.args.inboxes.now.items)) (map inbox_id c.args.inboxes.now.items) c.inboxes.keepers.items c.inboxes.invariant.back, length-map c.args.inboxes.now.items inbox_id),
      zip_here (IsBack (length c.args.inboxes.now.items)) c.args.inboxes.now.items c.inboxes.keepers.items c.inboxes.place c.index.result.now c.index_mut.result.now c.inboxes.invariant.back below c.index.ensures c.index_mut.ensures.value,
    )

pub compare-requires-clause-inbox : goal.compare-requires-clause-inbox
compare-requires-clause-inbox g c = (here g c).1.0

pub compare-requires-clause-keeps : goal.compare-requires-clause-keeps
compare-requires-clause-keeps g c =
    let at = here g c in
    let now = c.inboxes.keepers.items in
    let old = c.args.keepers.now.items in
    let inside : c.inboxes.place < length old = omega (arith, at.0, ap length c.inboxes.invariant.same, length-map now view, length-map old view) in
    let All : View _ → Type 0 = λ v. KeepsAll v in
    let was : view c.index_mut.result.now ≡ view (get_or old c.inboxes.place c.index_mut.result.now) = read_view now c.inboxes.place c.index_mut.result.now at.0 c.index_mut.ensures.value ∙ (ap (λ vs. view_at vs c.inboxes.place) c.inboxes.invariant.same ∙ get_or-map view old c.inboxes.place c.index_mut.result.now spent_view inside) in
    subst All (sym was) (c.requires.all c.inboxes.place c.index_mut.result.now inside)

pub inboxes-preserved : goal.inboxes-preserved
inboxes-preserved g c =
    let d = (goal.at.inboxes-preserved g c).After-index_mut in
    let at = here g d in
    let now = c.inboxes.keepers.items in
    let same = c.compare.ensures.same in
    let views = views_same now c.inboxes.place c.index_mut.result.now c.compare.new.keeper at.0 c.index_mut.ensures.value same.1 in
    let view_here = read_view now c.inboxes.place c.index_mut.result.now at.0 c.index_mut.ensures.value in
    record {
      same = views ∙ c.inboxes.invariant.same;
      back = back_set (length c.args.inboxes.now.items) (map inbox_id c.args.inboxes.now.items) now c.inboxes.place c.index_mut.result.now c.compare.new.keeper c.inboxes.invariant.back c.index_mut.ensures.value same.0 (ap (λ v. v.keeps) same.1) (ap (λ v. v.posts) same.1) (ap (λ v. v.given) same.1);
      compared = λ k lt.
          let Compared : View _ → Type 0 = λ v. IsCompared (λ x. (g.M.Mail.name x).sender) v in
          let K : List (View _) → Type 0 = λ vs. Compared (view_at vs k) in
          subst K (sym views) (⊎_elim (λ earlier. c.inboxes.invariant.compared k earlier)
          (λ later.
          let e : c.inboxes.place ≡ k = omega (arith, lt, later) in
          let At : ℕ → Type 0 = λ j. Compared (view_at (map view now) j) in
          subst At e (subst Compared view_here c.compare.ensures.compared)) (cases_lt k c.inboxes.place));
    }

pub returns-clause-compared : goal.returns-clause-compared
returns-clause-compared g c = λ k d below.
    let vs = map view c.inboxes.keepers.items in
    let inside : k < c.inboxes.place = omega (arith, below, length-map c.inboxes.keepers.items view, zip_length (IsBack (length c.args.inboxes.now.items)) (map inbox_id c.args.inboxes.now.items) c.inboxes.keepers.items c.inboxes.invariant.back, length-map c.args.inboxes.now.items inbox_id, c.args.inboxes.now.ok.0) in
    let Compared : View _ → Type 0 = λ v. IsCompared (λ x. (g.M.Mail.name x).sender) v in
    subst Compared (get_or_default vs k spent_view d below) (c.inboxes.invariant.compared k inside)
