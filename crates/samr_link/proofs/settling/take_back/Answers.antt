use Rattle.std.proofs.Common.{◌≡◌, ◌<◌, length, map, get_or, sym, ap, ◌∙◌, arith, All}
use Rattle.std.proofs.lemmas.List.{length-map}
use Rattle.std.specs.Arc.{arc_value}
use Rattle.samr_link.specs.Queue.{inbox_id, IsPost, IsTake}
use Rattle.samr_link.specs.Settled.{IsBack, Knows}
use Rattle.samr_link.proofs.Returning.{posting_of, next_of, zip_here, back_set, took_back}
use Rattle.samr_link.proofs.EndLemmas.{take_at}
use Rattle.samr_link.proofs.Zips.{zip_length}
use Rattle.samr_link.proofs.settling.take_back.Goals as goal
use Rattle.samr_link.proofs.settling.take_back.Goals.{Start, After-index_mut}

-- the end is of these inboxes
same_ids : (g : _) (c : After-index_mut g) → map inbox_id (arc_value c.end.inside.inboxes).items ≡ map inbox_id c.args.inboxes.now.items
same_ids g c = ap (λ e. e.making) c.end.view_is ∙ c.requires.making

pub end_posts-requires-clause-posts : goal.end_posts-requires-clause-posts
end_posts-requires-clause-posts g c =
    posting_of c.end.inside.rank (map inbox_id (arc_value c.end.inside.inboxes).items) (map inbox_id c.args.inboxes.now.items) c.end.inside.posts.items (ap (λ e. e.making) c.end.view_is ∙ c.requires.making) c.end.invariant.1.posting

pub end_posts-requires-clause-next : goal.end_posts-requires-clause-next
end_posts-requires-clause-next g c =
    let knows : All (Knows c.end.inside.rank) c.args.keepers.now.items = rw (ap (λ e. e.rank) c.end.view_is) c.requires.next in
    next_of (length c.args.inboxes.now.items) c.end.inside.rank (map inbox_id (arc_value c.end.inside.inboxes).items) (map inbox_id c.args.inboxes.now.items) c.args.keepers.now.items c.end.inside.posts.items (ap (λ e. e.making) c.end.view_is ∙ c.requires.making) c.requires.keepers knows c.end.invariant.1.posting

pub index_mut-requires : goal.index_mut-requires
index_mut-requires g c =
    let ids = map inbox_id c.args.inboxes.now.items in
    let same = ap length (ap (λ e. e.making) c.end.view_is ∙ c.requires.making) in
    omega (arith, c.end.invariant.1.within, same, c.from-own.ensures, zip_length (IsBack (length c.args.inboxes.now.items)) ids c.end_posts.new.keepers.items c.end_posts.ensures.keepers, c.end_posts.new.keepers.ok.0)

-- the own inbox, and the fabric's pass of it
own : (g : _) (c : After-index_mut g) → (c.from-own.result < length c.args.inboxes.now.items) × IsBack (length c.args.inboxes.now.items) (inbox_id c.index.result.now) c.index_mut.result.now
own g c =
    let below : c.from-own.result < length c.args.inboxes.now.items = omega (arith, c.end.invariant.1.within, ap length (same_ids g c), c.from-own.ensures, length-map c.args.inboxes.now.items inbox_id) in
    (below, zip_here (IsBack (length c.args.inboxes.now.items)) c.args.inboxes.now.items c.end_posts.new.keepers.items c.from-own.result c.index.result.now c.index_mut.result.now c.end_posts.ensures.keepers below c.index.ensures c.index_mut.ensures.value)

takes_own : (g : _) (c : After-index_mut g) → IsTake (inbox_id c.index.result.now) c.end.inside.takes
takes_own g c =
    let below = (own g c).0 in
    let taking = c.end.invariant.1.taking in
    take_at c.args.inboxes.now.items c.from-own.result c.index.result.now c.end.inside.takes (λ t. rw (sym (same_ids g c), c.from-own.ensures) (taking t)) below c.index.ensures

pub end_taker-requires-clause-inbox : goal.end_taker-requires-clause-inbox
end_taker-requires-clause-inbox g c = ((own g c).1.0, (takes_own g c).0)

pub end_taker-requires-clause-keeps : goal.end_taker-requires-clause-keeps
end_taker-requires-clause-keeps g c = (own g c).1.1

pub end_taker-requires-clause-posts : goal.end_taker-requires-clause-posts
end_taker-requires-clause-posts g c = (own g c).1.2

pub end_taker-requires-clause-taker : goal.end_taker-requires-clause-taker
end_taker-requires-clause-taker g c = (takes_own g c).1

pub returns-clause-keepers : goal.returns-clause-keepers
returns-clause-keepers g c =
    let back = c.end_taker.ensures.keeper in
    back_set (length c.args.inboxes.now.items) (map inbox_id c.args.inboxes.now.items) c.end_posts.new.keepers.items c.from-own.result c.index_mut.result.now c.end_taker.new.keeper c.end_posts.ensures.keepers c.index_mut.ensures.value c.end_taker.ensures.same
    (ap (λ v. v.keeps) back) (ap (λ v. v.posts) back) (ap (λ v. v.given) back)

pub returns-clause-back : goal.returns-clause-back
returns-clause-back g c =
    let d = (goal.at.returns-clause-back g c).After-index_mut in
    let given = length c.args.inboxes.now.items in
    let ids = map inbox_id c.args.inboxes.now.items in
    let made = map inbox_id (arc_value c.end.inside.inboxes).items in
    let now = c.end_posts.new.keepers.items in
    let wide : length c.end.inside.posts.items ≡ length c.args.keepers.now.items = omega (arith, zip_length (IsPost c.end.inside.rank) made c.end.inside.posts.items c.end.invariant.1.posting, ap length (same_ids g d), zip_length (IsBack given) ids c.args.keepers.now.items c.requires.keepers) in
    let below : c.end.inside.rank < length now = omega (arith, (own g d).0, c.from-own.ensures, zip_length (IsBack given) ids now c.end_posts.ensures.keepers, length-map c.args.inboxes.now.items inbox_id) in
    let here : c.index_mut.result.now ≡ get_or now c.end.inside.rank c.index_mut.result.now = c.index_mut.ensures.value ∙ ap (λ k. get_or now k c.index_mut.result.now) c.from-own.ensures in
    rw (sym c.end.view_is, c.from-own.ensures) (took_back c.end.inside.rank made c.args.keepers.now.items c.end.inside.posts.items now c.end.inside.takes c.index_mut.result.now c.end_taker.new.keeper c.end_posts.ensures.over wide below here c.end_taker.ensures.keeper)
