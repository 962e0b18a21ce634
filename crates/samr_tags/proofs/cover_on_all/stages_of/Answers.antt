use Rattle.std.proofs.Common.{◌≡◌, ◌<◌, ◌∙◌, sym, ap, subst, arith, length, get_or, ℕ}
use Rattle.std.proofs.lemmas.Iterator.Adapters.{YieldsList-from_vec}
use Rattle.std.proofs.lemmas.Iterator.Consumers.{YieldsList-turn, YieldsList-end}
use Rattle.std.proofs.lemmas.List.{map-id, length_push}
use Rattle.std.specs.List.{All}
use Rattle.samr_box.specs.Space.{finer}
use Rattle.samr_level.specs.declared.parts.Pair.{Pair}
use Rattle.samr_tags.specs.CoverRow.{rule, HasRoom}
use Rattle.samr_tags.specs.CoverParts.{HasNeeds}
use Rattle.samr_tags.proofs.BufferOnAllLaws.{each_more}
use Rattle.samr_tags.proofs.CoverOnAllLaws.{ranks_covers, its_pair, its_frame, has_covers}
use Rattle.samr_tags.proofs.cover_on_all.stages_of.Goals as goal

pub bounds-covers-place : goal.bounds-covers-place
bounds-covers-place c =
    let w = c.requires.parts.0 in
    let h = c.requires.parts.1 in
    let at = YieldsList-turn (YieldsList-from_vec c.args.fields.items (cc) (cc)) c.each.yielded c.each.own-iterator c.each.yielded_by c.next.result c.next.new.self c.in-Some.own c.in-Some.is c.next.ensures.steps in
    let below = at.0 in
    let count = ranks_covers c.args.d.now c.args.fields.items c.args.covers.now c.args.nest c.args.upper c.args.lower w h in
    let all = h.same_ranks in
    let place : c.from-place.result ≡ c.each.rank = c.from-place.ensures in
    omega (arith, below, count, all, place, c.each.invariant.1)

pub start-requires-clause-frame : goal.start-requires-clause-frame
start-requires-clause-frame c =
    let w = c.requires.parts.0 in
    let h = c.requires.parts.1 in
    let at = YieldsList-turn (YieldsList-from_vec c.args.fields.items (cc) (cc)) c.each.yielded c.each.own-iterator c.each.yielded_by c.next.result c.next.new.self c.in-Some.own c.in-Some.is c.next.ensures.steps in
    let below = at.0 in
    let all = h.same_ranks in
    let within : c.each.rank < w.ranks = omega (arith, below, all, c.each.invariant.1) in
    its_frame c.args.d.now c.args.fields.items c.args.covers.now c.args.nest c.args.upper c.args.lower w h c.each.rank c.index-covers-place.result
    (its_pair c.args.d.now c.args.fields.items c.args.covers.now c.args.nest c.args.upper c.args.lower w h c.each.rank c.from-place.result c.index-covers-place.result within
    c.from-place.ensures c.index-covers-place.is)

pub start-requires-clause-room : goal.start-requires-clause-room
start-requires-clause-room c =
    let w = c.requires.parts.0 in
    let h = c.requires.parts.1 in
    let at = YieldsList-turn (YieldsList-from_vec c.args.fields.items (cc) (cc)) c.each.yielded c.each.own-iterator c.each.yielded_by c.next.result c.next.new.self c.in-Some.own c.in-Some.is c.next.ensures.steps in
    let below = at.0 in
    let count = ranks_covers c.args.d.now c.args.fields.items c.args.covers.now c.args.nest c.args.upper c.args.lower w h in
    let all = h.same_ranks in
    let place : c.from-place.result ≡ c.each.rank = c.from-place.ensures in
    let inside : c.from-place.result < length c.args.covers.now = omega (arith, below, count, all, place, c.each.invariant.1) in
    let Room : Pair → Type 0 = λ p. All (HasRoom (rule (finer c.args.d.now p.forth.head_ratio) c.args.upper c.args.nest c.args.lower)) p.forth.edges in
    subst Room (sym c.index-covers-place.is) (c.requires.room c.from-place.result c.index-covers-place.result inside)

pub each-preserved : goal.each-preserved
each-preserved c =
    let before = c.each.invariant in
    let at = YieldsList-turn (YieldsList-from_vec c.args.fields.items (cc) (cc)) c.each.yielded c.each.own-iterator c.each.yielded_by c.next.result c.next.new.self c.in-Some.own c.in-Some.is c.next.ensures.steps in
    let below = at.0 in
    let more = length_push c.each.yielded c.in-Some.own in (
      omega (arith, c.in_ok-push.ensures.len, before.0),
      omega (arith, more, before.1),
      λ w h.
          let d = c.args.d.now in
          let fields = c.args.fields.items in
          let covers = c.args.covers.now in
          let rank = c.each.rank in
          let all = h.same_ranks in
          let within : rank < w.ranks = omega (arith, below, all, before.1) in
          let pair = its_pair d fields covers c.args.nest c.args.upper c.args.lower w h rank c.from-place.result c.index-covers-place.result within c.from-place.ensures c.index-covers-place.is in
          let mine : c.in-Some.own ≡ get_or fields rank c.in-Some.own = at.1 ∙ ap (λ (k : ℕ). get_or fields k c.in-Some.own) before.1 in
          let ranks : c.len-ranks.result ≡ w.ranks = omega (arith, c.len-ranks.ensures, c.args.fields.ok.0, all) in
          let has = has_covers d fields covers c.args.nest c.args.upper c.args.lower w h rank c.len-ranks.result c.in-Some.own c.index-covers-place.result within ranks mine pair in
          each_more (λ k s. HasNeeds s.rank s.needs s.fields s.edges.items s.addressees.items s.senders.items w k)
          c.each.stages.items c.push.new.self.items rank c.in_ok-stage.stage before.0 (before.2 w h) (c.in_ok-stage.ensures w rank has) c.in_ok-push.ensures.items,
    )

pub returns : goal.returns
returns c = λ w h.
    let end = YieldsList-end (YieldsList-from_vec c.args.fields.items (cc) (cc)) c.each.yielded c.each.own-iterator c.each.yielded_by c.next.result c.next.new.self c.in-None.is c.next.ensures.steps in
    let whole = ap length (sym (map-id c.each.yielded) ∙ end.0) in
    let count = h.same_ranks in
    let done = c.each.invariant in
    record { count = omega (arith, whole, count, done.0, done.1); each = done.2 w h }
