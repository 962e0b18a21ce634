use Rattle.std.proofs.Common.{◌≡◌, ◌<◌, ◌∙◌, sym, ap, subst, arith, length, get_or, ℕ}
use Rattle.std.proofs.lemmas.Iterator.Adapters.{YieldsList-from_vec}
use Rattle.std.proofs.lemmas.Iterator.Consumers.{YieldsList-turn, YieldsList-end}
use Rattle.std.proofs.lemmas.List.{map-id, length_push}
use Rattle.samr_fill.specs.Staging.{HasLetters}
use Rattle.samr_fill.proofs.FillOnAllLaws.{each_more, its_patches, few_fields}
use Rattle.samr_fill.proofs.fill_on_all.stages_of.Goals as goal

pub start-requires : goal.start-requires
start-requires g c =
    let w = c.requires.parts.0 in
    let h = c.requires.parts.1 in
    let rank = c.each.rank in
    let at = YieldsList-turn (YieldsList-from_vec c.args.own.items (cc) (cc)) c.each.yielded c.each.patches-iterator c.each.yielded_by c.next.result c.next.new.self c.in-Some.patches c.in-Some.is c.next.ensures.steps in
    let below = at.0 in
    let mine = at.1 ∙ ap (λ (k : ℕ). get_or c.args.own.items k c.in-Some.patches) c.each.invariant.1 in
    let ranks : c.len-ranks.result ≡ length c.args.own.items = omega (arith, c.len-ranks.ensures, c.args.own.ok.0) in
    let has = its_patches c.args.plans.now c.args.own.items c.args.coarser.now c.args.strategies.now w h rank c.from-place.result c.len-ranks.result
    c.index-plans-place.result c.in-Some.patches c.index-coarser-place.result c.as_slice-below.result.now (omega (arith, below, c.each.invariant.1)) c.from-place.ensures ranks
    c.index-plans-place.is mine c.index-coarser-place.is c.as_slice-below.ensures in
    record { few = few_fields c.args.plans.now c.args.own.items c.args.coarser.now c.args.strategies.now w h rank c.len-ranks.result c.index-plans-place.result c.in-Some.patches c.as_slice-below.result.now has }

pub overflow_add-rank : goal.overflow_add-rank
overflow_add-rank g c =
    let at = YieldsList-turn (YieldsList-from_vec c.args.own.items (cc) (cc)) c.each.yielded c.each.patches-iterator c.each.yielded_by c.next.result c.next.new.self c.in-Some.patches c.in-Some.is c.next.ensures.steps in
    let below = at.0 in
    let few = c.requires.few in
    omega (arith, below, few, c.each.invariant.1)

pub each-preserved : goal.each-preserved
each-preserved g c =
    let before = c.each.invariant in
    let at = YieldsList-turn (YieldsList-from_vec c.args.own.items (cc) (cc)) c.each.yielded c.each.patches-iterator c.each.yielded_by c.next.result c.next.new.self c.in-Some.patches c.in-Some.is c.next.ensures.steps in
    let below = at.0 in
    let more = length_push c.each.yielded c.in-Some.patches in (
      omega (arith, c.in_ok-push.ensures.len, before.0),
      omega (arith, more, before.1),
      λ w h.
          let rank = c.each.rank in
          let mine = at.1 ∙ ap (λ (k : ℕ). get_or c.args.own.items k c.in-Some.patches) before.1 in
          let ranks : c.len-ranks.result ≡ length c.args.own.items = omega (arith, c.len-ranks.ensures, c.args.own.ok.0) in
          let has = its_patches c.args.plans.now c.args.own.items c.args.coarser.now c.args.strategies.now w h rank c.from-place.result c.len-ranks.result
          c.index-plans-place.result c.in-Some.patches c.index-coarser-place.result c.as_slice-below.result.now (omega (arith, below, before.1)) c.from-place.ensures ranks
          c.index-plans-place.is mine c.index-coarser-place.is c.as_slice-below.ensures in
          each_more (λ k s. HasLetters s.plan s.own s.strategies.now s.letters.items s.parcels.items s.senders.items w k)
          c.each.stages.items c.push.new.self.items rank c.in_ok-stage.stage before.0 (before.2 w h) (c.in_ok-stage.ensures w rank has) c.in_ok-push.ensures.items,
    )

pub returns : goal.returns
returns g c = λ w h.
    let end = YieldsList-end (YieldsList-from_vec c.args.own.items (cc) (cc)) c.each.yielded c.each.patches-iterator c.each.yielded_by c.next.result c.next.new.self c.in-None.is c.next.ensures.steps in
    let whole = ap length (sym (map-id c.each.yielded) ∙ end.0) in
    let count = h.same_ranks in
    let done = c.each.invariant in
    record { same_ranks = omega (arith, whole, count, done.0, done.1); part = done.2 w h }
