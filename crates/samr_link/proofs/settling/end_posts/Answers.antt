use Rattle.std.proofs.Common.{◌≡◌, ◌<◌, ◌≤◌, length, map, get_or, sym, ap, ◌∙◌, subst, arith}
use Rattle.std.proofs.lemmas.Iterator.Adapters.{YieldsList-from_vec}
use Rattle.std.proofs.lemmas.Iterator.Consumers.{YieldsList-turn, YieldsList-end}
use Rattle.std.proofs.lemmas.List.{length-map, length_push}
use Rattle.crossbeam_queue.specs.Passes.{Pass, view}
use Rattle.samr_link.specs.declared.inbox.View.{View}
use Rattle.samr_link.specs.Queue.{inbox_id}
use Rattle.samr_link.specs.Settled.{IsBack, IsPosting, IsNext}
use Rattle.samr_link.proofs.Returning.{ending_more, ending_all, zip_here}
use Rattle.samr_link.proofs.Zips.{zip_length, zip_at}
use Rattle.samr_link.proofs.settling.end_posts.Goals as goal
use Rattle.samr_link.proofs.settling.end_posts.Goals.{In-Some, After-index_mut}

-- the pass at hand is that of the inbox at the place
turn : (g : _) (c : In-Some g) → (c.posts.place < length c.args.posts.items) × (c.in-Some.post ≡ get_or c.args.posts.items c.posts.place c.in-Some.post) × (c.posts.place < length c.args.inboxes.now.items)
turn g c =
    let at = YieldsList-turn (YieldsList-from_vec c.args.posts.items (cc) (cc)) c.posts.yielded c.posts.post-iterator c.posts.yielded_by c.next.result c.next.new.self c.in-Some.post c.in-Some.is c.next.ensures.steps in
    let within : c.posts.place < length c.args.posts.items = omega (arith, at.0, c.posts.invariant.place) in
    let same = zip_length IsPosting (map inbox_id c.args.inboxes.now.items) c.args.posts.items c.requires.posts in
    (within, at.1 ∙ ap (λ k. get_or c.args.posts.items k c.in-Some.post) (sym c.posts.invariant.place), omega (arith, within, same, length-map c.args.inboxes.now.items inbox_id))

pub index-requires : goal.index-requires
index-requires g c = omega (arith, (turn g c).2, c.args.inboxes.now.ok.0)

pub index_mut-requires : goal.index_mut-requires
index_mut-requires g c =
    let at = turn g (goal.at.index_mut-requires g c).In-Some in
    let same = zip_length (IsBack (length c.args.inboxes.now.items)) (map inbox_id c.args.inboxes.now.items) c.posts.keepers.items c.posts.invariant.ending.back in
    omega (arith, at.2, same, length-map c.args.inboxes.now.items inbox_id, c.posts.keepers.ok.0)

keeper_here : (g : _) (c : After-index_mut g) (at : In-Some g) → c.posts.place < length c.args.inboxes.now.items → IsBack (length c.args.inboxes.now.items) (inbox_id c.index.result.now) c.index_mut.result.now
keeper_here g c at below = zip_here (IsBack (length c.args.inboxes.now.items)) c.args.inboxes.now.items c.posts.keepers.items c.posts.place c.index.result.now c.index_mut.result.now c.posts.invariant.ending.back below c.index.ensures c.index_mut.ensures.value

post_here : (g : _) (c : After-index_mut g) → c.posts.place < length c.args.inboxes.now.items → c.in-Some.post ≡ get_or c.args.posts.items c.posts.place c.in-Some.post → IsPosting (inbox_id c.index.result.now) c.in-Some.post
post_here g c below here = zip_here IsPosting c.args.inboxes.now.items c.args.posts.items c.posts.place c.index.result.now c.in-Some.post c.requires.posts below c.index.ensures here

pub end_poster-requires-clause-inbox : goal.end_poster-requires-clause-inbox
end_poster-requires-clause-inbox g c =
    let d = (goal.at.end_poster-requires-clause-inbox g c).In-Some in
    let at = turn g d in
    ((keeper_here g c d at.2).0, (post_here g c at.2 at.1).0)

pub end_poster-requires-clause-keeps : goal.end_poster-requires-clause-keeps
end_poster-requires-clause-keeps g c =
    let d = (goal.at.end_poster-requires-clause-keeps g c).In-Some in
    (keeper_here g c d (turn g d).2).1

pub end_poster-requires-clause-posts : goal.end_poster-requires-clause-posts
end_poster-requires-clause-posts g c =
    let d = (goal.at.end_poster-requires-clause-posts g c).In-Some in
    (keeper_here g c d (turn g d).2).2

pub end_poster-requires-clause-poster : goal.end_poster-requires-clause-poster
end_poster-requires-clause-poster g c =
    let at = turn g (goal.at.end_poster-requires-clause-poster g c).In-Some in
    (post_here g c at.2 at.1).1

old_below : (g : _) (c : In-Some g) → c.posts.place < length c.args.keepers.now.items
old_below g c =
    omega (arith, (turn g c).2, zip_length (IsBack (length c.args.inboxes.now.items)) (map inbox_id c.args.inboxes.now.items) c.args.keepers.now.items c.requires.keepers, length-map c.args.inboxes.now.items inbox_id)

pub end_poster-requires-clause-next : goal.end_poster-requires-clause-next
end_poster-requires-clause-next g c =
    let d = (goal.at.end_poster-requires-clause-next g c).In-Some in
    let at = turn g d in
    let upto : c.posts.place ≤ c.posts.place = omega arith in
    let old : c.index_mut.result.now ≡ get_or c.args.keepers.now.items c.posts.place c.index_mut.result.now = c.index_mut.ensures.value ∙ c.posts.invariant.ending.left c.posts.place c.index_mut.result.now upto in
    let next = zip_at IsNext c.args.keepers.now.items c.args.posts.items c.posts.place c.index_mut.result.now c.in-Some.post c.requires.next (old_below g d) in
    let K : Pass _ (View _) → Type 0 = λ k. (view c.in-Some.post).from ≡ length (view k).known in
    let P : Pass _ (View _) → Type 0 = λ p. (view p).from ≡ length (view (get_or c.args.keepers.now.items c.posts.place c.index_mut.result.now)).known in
    subst K (sym old) (subst P (sym at.1) next)

pub posts-preserved : goal.posts-preserved
posts-preserved g c =
    let d = (goal.at.posts-preserved g c).In-Some in
    let at = turn g d in
    let ids = map inbox_id c.args.inboxes.now.items in
    record {
      place = omega (arith, c.posts.invariant.place, length_push c.posts.yielded c.in-Some.post);
      ending = ending_more (length c.args.inboxes.now.items) ids c.args.keepers.now.items c.args.posts.items c.posts.place c.posts.keepers.items c.index_mut.result.now c.end_poster.new.keeper c.in-Some.post c.posts.invariant.ending (old_below g d) at.0 c.index_mut.ensures.value at.1 c.end_poster.ensures.same c.end_poster.ensures.keeper;
    }

pub returns-clause-over : goal.returns-clause-over
returns-clause-over g c =
    let ids = map inbox_id c.args.inboxes.now.items in
    let end = YieldsList-end (YieldsList-from_vec c.args.posts.items (cc) (cc)) c.posts.yielded c.posts.post-iterator c.posts.yielded_by c.next.result c.next.new.self c.in-None.is c.next.ensures.steps in
    let all : length c.args.keepers.now.items ≤ c.posts.place = omega (arith, end.1, c.posts.invariant.place, zip_length IsPosting ids c.args.posts.items c.requires.posts, zip_length (IsBack (length c.args.inboxes.now.items)) ids c.args.keepers.now.items c.requires.keepers) in
    ending_all (length c.args.inboxes.now.items) ids c.args.keepers.now.items c.args.posts.items c.posts.place c.posts.keepers.items c.posts.invariant.ending all
