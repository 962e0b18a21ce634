use Rattle.std.proofs.Common.{◌≡◌, ◌<◌, length, map, ap, ◌∙◌, arith, get_or}
use Rattle.std.proofs.lemmas.List.{length-map}
use Rattle.std.specs.Arc.{arc_value}
use Rattle.samr_link.specs.Queue.{inbox_id}
use Rattle.samr_link.proofs.EndLemmas.{take_at, sound_take}
use Rattle.samr_link.proofs.queue_end.QueueEnd.pop_letter.Goals as goal

pub pop-requires-clause-inbox : goal.pop-requires-clause-inbox
pop-requires-clause-inbox g c =
    let qs = (arc_value c.self.inside.inboxes).items in
    let below : c.self.inside.rank < length qs = omega (arith, c.self.invariant.1.within, length-map qs inbox_id) in
    let here : c.index.result.now ≡ get_or qs c.self.inside.rank c.index.result.now = c.index.ensures ∙ (ap (λ v. get_or v.items c.from.result c.index.result.now) c.deref-inboxes.ensures ∙ ap (λ i. get_or qs i c.index.result.now) c.from.ensures) in
    (take_at qs c.self.inside.rank c.index.result.now c.self.inside.takes c.self.invariant.1.taking below here).0

pub pop-requires-clause-takes : goal.pop-requires-clause-takes
pop-requires-clause-takes g c = (c.self.invariant.1.taking (inbox_id c.index.result.now)).1

pub invariant_of-self : goal.invariant_of-self
invariant_of-self g c =
    let making = map inbox_id (arc_value c.self.inside.inboxes).items in
    (c.self.invariant.0, sound_take c.self.inside.rank making c.self.inside.posts.items c.self.inside.takes c.pop.new.pass c.self.invariant.1 c.pop.ensures.same c.pop.ensures.role)
