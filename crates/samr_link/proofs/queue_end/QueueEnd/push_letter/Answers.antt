use Rattle.std.proofs.Common.{◌≡◌, ◌<◌, length, map, sym, ap, ◌∙◌, arith, get_or}
use Rattle.std.proofs.lemmas.List.{length-map}
use Rattle.std.proofs.lemmas.Result.{on_ok_weaker, on_err_weaker}
use Rattle.std.specs.Arc.{arc_value}
use Rattle.crossbeam_queue.specs.Passes.{view}
use Rattle.samr_link.specs.Queue.{inbox_id, IsPost}
use Rattle.samr_link.proofs.Zips.{zip_length}
use Rattle.samr_link.proofs.EndLemmas.{post_at, roomy_at, sound_post, names_more, views_same, view_at}
use Rattle.samr_link.proofs.queue_end.QueueEnd.push_letter.Goals as goal
use Rattle.samr_link.proofs.queue_end.QueueEnd.push_letter.Goals.{After-index_mut}

pub index_mut-requires : goal.index_mut-requires
index_mut-requires g c =
    let making = map inbox_id (arc_value c.self.inside.inboxes).items in
    let to : c.args.to < length making = rw (ap (λ e. length e.making) c.self.view_is) c.requires.to in
    let same = zip_length (IsPost c.self.inside.rank) making c.self.inside.posts.items c.self.invariant.1.posting in
    omega (arith, to, same, c.from-to.ensures, c.self.inside.posts.ok.0)

-- the inbox of the addressee
inbox_here : (g : _) (c : After-index_mut g) → (c.from-to.result < length (arc_value c.self.inside.inboxes).items)
    × (c.index.result.now ≡ get_or (arc_value c.self.inside.inboxes).items c.from-to.result c.index.result.now)
inbox_here g c =
    let qs = (arc_value c.self.inside.inboxes).items in
    let to : c.args.to < length (map inbox_id qs) = rw (ap (λ e. length e.making) c.self.view_is) c.requires.to in
    (omega (arith, to, length-map qs inbox_id, c.from-to.ensures), c.index.ensures ∙ ap (λ v. get_or v.items c.from-to.result c.index.result.now) c.deref-inboxes.ensures)

post_here : (g : _) (c : After-index_mut g) → IsPost c.self.inside.rank (inbox_id c.index.result.now) c.index_mut.result.now
post_here g c =
    let at = inbox_here g c in
    post_at c.self.inside.rank (arc_value c.self.inside.inboxes).items c.self.inside.posts.items c.from-to.result c.index.result.now c.index_mut.result.now c.self.invariant.1.posting at.0 at.1 c.index_mut.ensures.value

within_posts : (g : _) (c : After-index_mut g) → c.from-to.result < length c.self.inside.posts.items
within_posts g c =
    let qs = (arc_value c.self.inside.inboxes).items in
    omega (arith, (inbox_here g c).0, length-map qs inbox_id, zip_length (IsPost c.self.inside.rank) (map inbox_id qs) c.self.inside.posts.items c.self.invariant.1.posting)

pub push-requires-clause-inbox : goal.push-requires-clause-inbox
push-requires-clause-inbox g c =
    let at = inbox_here g c in
    ((post_here g c).0, roomy_at (arc_value c.self.inside.inboxes).items c.from-to.result c.index.result.now c.self.invariant.0 at.0 at.1)

pub push-requires-clause-posts : goal.push-requires-clause-posts
push-requires-clause-posts g c = (post_here g c).1

pub push-requires-clause-sender : goal.push-requires-clause-sender
push-requires-clause-sender g c = c.requires.sender ∙ (ap (λ e. e.rank) (sym c.self.view_is) ∙ sym (post_here g c).2)

pub invariant_of-self : goal.invariant_of-self
invariant_of-self g c =
    let making = map inbox_id (arc_value c.self.inside.inboxes).items in
    (c.self.invariant.0, sound_post c.self.inside.rank making c.self.inside.posts.items c.self.inside.takes c.from-to.result c.index_mut.result.now c.push.new.pass c.self.invariant.1 c.index_mut.ensures.value c.push.ensures.same c.push.ensures.role.0 c.push.ensures.role.1)

pub returns-clause-posted : goal.returns-clause-posted
returns-clause-posted g c =
    let d = (goal.at.returns-clause-posted g c).After-index_mut in
    let making = map inbox_id (arc_value c.self.inside.inboxes).items in
    on_ok_weaker c.push.result
    (λ more a.
    rw (sym c.self.view_is, sym c.from-to.ensures) (names_more g.M.Mail.name c.self.inside.rank making c.self.inside.posts.items c.self.inside.takes c.from-to.result c.index_mut.result.now c.push.new.pass c.args.letter a (within_posts g d) c.index_mut.ensures.value more)) c.push.ensures.posted

pub returns-clause-unposted : goal.returns-clause-unposted
returns-clause-unposted g c =
    let d = (goal.at.returns-clause-unposted g c).After-index_mut in
    on_err_weaker c.push.result
    (λ same.
    rw (sym c.self.view_is) (ap (λ vs. record { rank = c.self.inside.rank; making = map inbox_id (arc_value c.self.inside.inboxes).items; posts = vs; takes = view c.self.inside.takes }) (views_same c.self.inside.posts.items c.from-to.result c.index_mut.result.now c.push.new.pass (within_posts g d) c.index_mut.ensures.value same))) c.push.ensures.unposted

pub returns-clause-full : goal.returns-clause-full
returns-clause-full g c =
    let d = (goal.at.returns-clause-full g c).After-index_mut in
    let at = view_at c.self.inside.posts.items c.from-to.result c.index_mut.result.now (within_posts g d) c.index_mut.ensures.value in
    on_err_weaker c.push.result (λ held. rw (sym c.self.view_is, sym c.from-to.ensures, sym at) held) c.push.ensures.full
