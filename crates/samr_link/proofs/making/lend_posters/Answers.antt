use Rattle.std.proofs.Common.{◌≡◌, ◌<◌, length, map, get_or, sym, ap, subst, arith, List, ◌+◌, ◌≤◌, set}
use Rattle.std.proofs.lemmas.List.{length-map}
use Rattle.crossbeam_queue.specs.Passes.{Pass}
use Rattle.samr_link.specs.declared.inbox.View.{View}
use Rattle.samr_link.specs.Queue.{inbox_id, IsKeeper}
use Rattle.samr_link.proofs.Lending.{IsLending, lending_none, lending_more, lending_all, lend_step, keeper_here}
use Rattle.samr_link.proofs.making.lend_posters.Goals as goal
use Rattle.samr_link.proofs.making.lend_posters.Goals.{After-index_mut}

pub inboxes-init : goal.inboxes-init
inboxes-init g c = lending_none c.args.rank (map inbox_id c.args.inboxes.now.items) c.args.keepers.now.items c.new-posts.result.items c.requires c.new-posts.ensures.items

here : (g : _) (c : After-index_mut g) → (inbox_id c.index.result.now ≡ get_or (map inbox_id c.args.inboxes.now.items) c.inboxes.place (inbox_id c.index.result.now)) × IsKeeper c.args.rank (inbox_id c.index.result.now) c.index_mut.result.now
here g c =
    let below : c.inboxes.place < length c.args.inboxes.now.items = omega (arith, c.args.inboxes.now.ok.0) in
    keeper_here c.args.rank c.inboxes.place c.args.inboxes.now.items c.inboxes.keepers.items c.inboxes.posts.items c.index.result.now c.index_mut.result.now c.inboxes.invariant below c.index.ensures c.index_mut.ensures.value

pub lend_poster-post-requires-clause-inbox : goal.lend_poster-post-requires-clause-inbox
lend_poster-post-requires-clause-inbox g c = (here g c).1.0

pub lend_poster-post-requires-clause-keeps : goal.lend_poster-post-requires-clause-keeps
lend_poster-post-requires-clause-keeps g c = ap (λ v. v.keeps) (here g c).1.1

pub lend_poster-post-requires-clause-posts : goal.lend_poster-post-requires-clause-posts
lend_poster-post-requires-clause-posts g c = ap (λ v. v.posts) (here g c).1.1

pub inboxes-preserved : goal.inboxes-preserved
inboxes-preserved g c =
    let at = here g (goal.at.inboxes-preserved g c).After-index_mut in
    let ids = map inbox_id c.args.inboxes.now.items in
    let lent = lend_step c.args.rank (inbox_id c.index.result.now) c.index_mut.result.now c.lend_poster-post.new.keeper c.lend_poster-post.result at.1 c.lend_poster-post.ensures.same.0 c.lend_poster-post.ensures.same.1 c.lend_poster-post.ensures.keeper c.lend_poster-post.ensures.poster in
    let below : c.inboxes.place < length ids = omega (arith, c.args.inboxes.now.ok.0, length-map c.args.inboxes.now.items inbox_id) in
    let K : List (Pass g.row.M.Denot (View g.row.M.Denot)) → Type 0 = λ ps. IsLending c.args.rank (c.inboxes.place + 1) ids (set c.inboxes.keepers.items c.inboxes.place c.lend_poster-post.new.keeper) ps in
    subst K (sym c.in_ok-push.ensures.items) (lending_more c.args.rank c.inboxes.place ids c.inboxes.keepers.items c.inboxes.posts.items (inbox_id c.index.result.now) c.lend_poster-post.new.keeper c.lend_poster-post.result c.inboxes.invariant below at.0 lent.0 lent.1)

pub returns-clause-keepers : goal.returns-clause-keepers
returns-clause-keepers g c =
    let end : length (map inbox_id c.args.inboxes.now.items) ≤ c.inboxes.place = omega (arith, c.args.inboxes.now.ok.0, length-map c.args.inboxes.now.items inbox_id) in
    (lending_all c.args.rank c.inboxes.place (map inbox_id c.args.inboxes.now.items) c.inboxes.keepers.items c.inboxes.posts.items c.inboxes.invariant end).0
