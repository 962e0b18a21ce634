use Rattle.std.proofs.Common.{◌≡◌, ◌<◌, ◌+◌, ℕ, [], ◌∷◌, ◌++◌, length, map, get_or, sym, ap, subst, arith, true}
use Rattle.std.proofs.lemmas.Iterator.Adapters.{YieldsList-from_vec}
use Rattle.std.proofs.lemmas.Iterator.Consumers.{YieldsList-turn, YieldsList-end}
use Rattle.std.proofs.lemmas.List.{length-map, length_push}
use Rattle.std.proofs.lemmas.List.Elements.{All-push, All-same}
use Rattle.std.specs.Arc.{arc_value}
use Rattle.std.specs.List.{AllZip}
use Rattle.atomic_table.specs.Seated.{TableId}
use Rattle.samr_link.specs.Ends.{IsFresh}
use Rattle.samr_link.specs.Queue.{End, inbox_id, IsKeeper, IsNewTake, names_posted, names_taken}
use Rattle.samr_link.proofs.Lending.{ends_push}
use Rattle.samr_link.proofs.Zips.{zip_length, zip_at}
use Rattle.samr_link.proofs.making.make_all.Goals as goal
use Rattle.samr_link.proofs.making.make_all.Goals.{In-Some, In-None}

-- the inboxes, and the passes that take from them
at_hand : (g : _) (c : In-Some g) → (c.ranks.rank < length (map inbox_id (arc_value c.in_ok-inboxes-2.inboxes).items)) × ((t : TableId) → IsNewTake (get_or (map inbox_id (arc_value c.in_ok-inboxes-2.inboxes).items) c.ranks.rank t) c.in-Some.takes)
at_hand g c =
    let ids = map inbox_id (arc_value c.in_ok-inboxes-2.inboxes).items in
    let takers : AllZip IsNewTake ids c.in_ok-inboxes.takers.items = rw (c.in_ok-inboxes-2.ensures.ok, ← c.in_ok-inboxes.takers-is) c.in_ok-inboxes.ensures.takers in
    let turn = YieldsList-turn (YieldsList-from_vec c.in_ok-inboxes.takers.items (cc) (cc)) c.ranks.yielded c.ranks.takes-iterator c.ranks.yielded_by c.next.result c.next.new.self c.in-Some.takes c.in-Some.is c.next.ensures.steps in
    let below : c.ranks.rank < length ids = omega (arith, turn.0, c.ranks.invariant.rank, zip_length IsNewTake ids c.in_ok-inboxes.takers.items takers) in
    (below, λ t. rw (turn.1, sym c.ranks.invariant.rank) (zip_at IsNewTake ids c.in_ok-inboxes.takers.items c.ranks.rank t c.in-Some.takes takers below))

-- all ranks have had their turn
ended : (g : _) (c : In-None g) → (length c.ranks.yielded ≡ length (map inbox_id (arc_value c.in_ok-inboxes-2.inboxes).items)) × (length (map inbox_id (arc_value c.in_ok-inboxes-2.inboxes).items) ≡ c.args.ranks)
ended g c =
    let ids = map inbox_id (arc_value c.in_ok-inboxes-2.inboxes).items in
    let takers : AllZip IsNewTake ids c.in_ok-inboxes.takers.items = rw (c.in_ok-inboxes-2.ensures.ok, ← c.in_ok-inboxes.takers-is) c.in_ok-inboxes.ensures.takers in
    let end = YieldsList-end (YieldsList-from_vec c.in_ok-inboxes.takers.items (cc) (cc)) c.ranks.yielded c.ranks.takes-iterator c.ranks.yielded_by c.next.result c.next.new.self c.in-None.is c.next.ensures.steps in
    let count : length (arc_value c.in_ok-inboxes-2.inboxes).items ≡ c.args.ranks = rw c.in_ok-inboxes-2.ensures.ok c.in_ok-inboxes.ensures.count in
    (omega (arith, end.1, zip_length IsNewTake ids c.in_ok-inboxes.takers.items takers), omega (arith, count, length-map (arc_value c.in_ok-inboxes-2.inboxes).items inbox_id))

pub make_end-requires-clause-within : goal.make_end-requires-clause-within
make_end-requires-clause-within g c =
    omega (arith, (at_hand g (goal.at.make_end-requires-clause-within g c).In-Some).0, length-map (arc_value c.in_ok-inboxes-2.inboxes).items inbox_id)

pub make_end-requires-clause-takes : goal.make_end-requires-clause-takes
make_end-requires-clause-takes g c = (at_hand g (goal.at.make_end-requires-clause-takes g c).In-Some).1

pub ranks-preserved : goal.ranks-preserved
ranks-preserved g c =
    let before = c.ranks.invariant in
    let end = c.in_ok-make_end.field-0 in
    let made = c.in_ok-make_end.ensures in
    let ids = map inbox_id (arc_value c.in_ok-inboxes-2.inboxes).items in
    let all = c.ranks.ends.items in
    let here : end.rank ≡ 0 + length all = omega (arith, made.rank, before.rank, before.count) in
    record {
      rank = omega (arith, before.rank, length_push c.ranks.yielded c.in-Some.takes);
      count = omega (arith, ap length c.in_ok-push.ensures.items, length_push all end, length_push c.ranks.yielded c.in-Some.takes, before.count);
      keepers = made.keepers;
      ends = rw c.in_ok-push.ensures.items (ends_push (λ (e : End _). e.rank) (λ (e : End _). length e.making) (λ (e : End _). e.making) ids 0 all end before.ends (record { is_rank = here; is_ends = ap length made.making; is_making = made.making }));
      fresh = All-same (IsFresh (λ e. true) (λ e. true) (names_posted g.M.Mail.name) (names_taken g.M.Mail.name)) c.push.new.self.items (all ++ end ∷ []) c.in_ok-push.ensures.items (All-push (IsFresh (λ e. true) (λ e. true) (names_posted g.M.Mail.name) (names_taken g.M.Mail.name)) all end before.fresh made.fresh);
    }

pub invariant_of-result : goal.invariant_of-result
invariant_of-result g c =
    let end = ended g (goal.at.invariant_of-result g c).In-None in
    let ids = map inbox_id (arc_value c.in_ok-inboxes-2.inboxes).items in
    let all : c.ranks.rank ≡ length ids = omega (arith, c.ranks.invariant.rank, end.0) in
    let K : ℕ → Type 0 = λ n. AllZip (IsKeeper n) ids c.ranks.keepers.items in
    subst K all c.ranks.invariant.keepers

pub returns-clause-count : goal.returns-clause-count
returns-clause-count g c =
    let end = ended g (goal.at.returns-clause-count g c).In-None in
    omega (arith, c.ranks.invariant.count, end.0, end.1)

pub returns-clause-ends : goal.returns-clause-ends
returns-clause-ends g c =
    let end = ended g (goal.at.returns-clause-ends g c).In-None in
    record { count = omega (arith, c.ranks.invariant.count, end.0); each = c.ranks.invariant.ends }
