use Rattle.std.proofs.Common.{◌≡◌, ◌+◌, ℕ, List, [], length, map, sym, ap, ◌∙◌, subst, arith}
use Rattle.std.proofs.lemmas.Iterator.Adapters.{YieldsList-from_vec}
use Rattle.std.proofs.lemmas.Iterator.Consumers.{YieldsList-turn, YieldsList-end}
use Rattle.std.proofs.lemmas.List.{length-map, map-id}
use Rattle.std.specs.Arc.{arc_value}
use Rattle.std.specs.List.{AllZip}
use Rattle.crossbeam_queue.specs.Passes.{view}
use Rattle.samr_link.specs.Queue.{End, inbox_id, IsKeeper}
use Rattle.samr_link.specs.Ends.{IsEnd}
use Rattle.samr_link.specs.Settled.{IsBack, AreBack}
use Rattle.samr_link.specs.Views.{spent_view}
use Rattle.samr_link.proofs.Returning.{back_none, back_more, knows_of, has_all, end_at}
use Rattle.samr_link.proofs.Zips.{zip_length}
use Rattle.samr_link.proofs.settling.close.Goals as goal
use Rattle.samr_link.proofs.settling.close.Goals.{In-Some, In-None}

-- the end at hand is that of the next rank
turn : (g : _) (c : In-Some g) → (c.in-Some.end.rank ≡ length c.ends.yielded) × (c.in-Some.end.making ≡ map inbox_id (arc_value c.desk.inside.inboxes).items)
turn g c =
    let at = YieldsList-turn (YieldsList-from_vec c.args.ends.items (cc) (cc)) c.ends.yielded c.ends.end-iterator c.ends.yielded_by c.next.result c.next.new.self c.in-Some.end c.in-Some.is c.next.ensures.steps in
    let end = end_at (λ (e : End _). e.rank) (λ (e : End _). length e.making) (λ (e : End _). e.making) c.args.desk 0 c.args.ends.items (length c.ends.yielded) c.in-Some.end c.requires.each at.0 in
    let IsNext : End _ → Type 0 = λ e. IsEnd (λ (x : End _). x.rank) (λ (x : End _). length x.making) (λ (x : End _). x.making) c.args.desk (0 + length c.ends.yielded) e in
    let is = subst IsNext (sym at.1) end in
    (omega (arith, is.is_rank), is.is_making ∙ sym c.desk.view_is)

-- all ends have gone back
ended : (g : _) (c : In-None g) → (c.ends.yielded ≡ c.args.ends.items) × (length c.args.ends.items ≡ length (arc_value c.desk.inside.inboxes).items)
ended g c =
    let end = YieldsList-end (YieldsList-from_vec c.args.ends.items (cc) (cc)) c.ends.yielded c.ends.end-iterator c.ends.yielded_by c.next.result c.next.new.self c.in-None.is c.next.ensures.steps in
    (sym (map-id c.ends.yielded) ∙ end.0, omega (arith, c.requires.count, ap length c.desk.view_is, length-map (arc_value c.desk.inside.inboxes).items inbox_id))

pub ends-init : goal.ends-init
ends-init g c =
    let qs = (arc_value c.desk.inside.inboxes).items in
    let K : ℕ → Type 0 = λ n. AllZip (IsKeeper n) (map inbox_id qs) c.desk.inside.keepers.items in
    let none = back_none (length qs) (map inbox_id qs) c.desk.inside.keepers.items (subst K (length-map qs inbox_id) c.desk.invariant) in
    record { back = none.0; ended = none.2 }

pub take_back-requires-clause-making : goal.take_back-requires-clause-making
take_back-requires-clause-making g c =
    let at = turn g (goal.at.take_back-requires-clause-making g c).In-Some in
    rw c.deref.ensures at.1

pub take_back-requires-clause-next : goal.take_back-requires-clause-next
take_back-requires-clause-next g c =
    let at = turn g (goal.at.take_back-requires-clause-next g c).In-Some in
    rw at.0 (knows_of c.ends.yielded c.ends.keepers.items c.ends.invariant.ended)

pub ends-preserved : goal.ends-preserved
ends-preserved g c =
    let at = turn g (goal.at.ends-preserved g c).In-Some in
    record {
      back = rw c.deref.ensures at c.take_back.ensures.keepers;
      ended = back_more c.ends.yielded c.in-Some.end (map view c.ends.keepers.items) (map view c.take_back.new.keepers.items) c.ends.invariant.ended c.take_back.ensures.back at.0;
    }

pub compare_all-requires-clause-all : goal.compare_all-requires-clause-all
compare_all-requires-clause-all g c =
    let end = ended g (goal.at.compare_all-requires-clause-all g c).In-None in
    let qs = (arc_value c.desk.inside.inboxes).items in
    let ids = map inbox_id qs in
    let now = c.ends.keepers.items in
    let Back : ℕ → Type 0 = λ n. AllZip (IsBack n) ids now in
    let Ended : List (End _) → Type 0 = λ es. AreBack es (map view now) in
    let some_end : End _ = record { rank = 0; making = []; posts = []; takes = spent_view } in
    let count = zip_length (IsBack (length qs)) ids now c.ends.invariant.back in
    has_all c.args.ends.items ids now some_end (subst Back (sym end.1) c.ends.invariant.back) (subst Ended end.0 c.ends.invariant.ended) (omega (arith, count, end.1, length-map qs inbox_id))

pub returns-clause-count : goal.returns-clause-count
returns-clause-count g c =
    let end = ended g (goal.at.returns-clause-count g c).In-None in
    let qs = (arc_value c.desk.inside.inboxes).items in
    omega (arith, zip_length (IsBack (length qs)) (map inbox_id qs) c.ends.keepers.items c.ends.invariant.back, end.1, length-map qs inbox_id, ap length c.compare_all.ensures.same, length-map c.compare_all.new.keepers.items view, length-map c.ends.keepers.items view)

pub returns-clause-back : goal.returns-clause-back
returns-clause-back g c =
    let end = ended g (goal.at.returns-clause-back g c).In-None in
    rw (c.compare_all.ensures.same, sym end.0) c.ends.invariant.ended
