use Rattle.std.proofs.Common.{◌≡◌, ℕ, refl, arith, length, sym, ◌∙◌, subst}
use Rattle.std.proofs.lemmas.Iterator.Adapters.{YieldsList-from_vec}
use Rattle.std.proofs.lemmas.Iterator.Consumers.{YieldsList-turn, YieldsList-end}
use Rattle.std.proofs.lemmas.List.{length_push}
use Rattle.samr_cluster.specs.DecideParts.{HasReported, HasJudged}
use Rattle.samr_cluster.proofs.OnAllLaws.{each_more, at_rank}
use Rattle.samr_cluster.proofs.on_all.decide_all.Goals as goal

pub each-preserved : goal.each-preserved
each-preserved c =
    let before = c.each.invariant in
    let turn = YieldsList-turn (YieldsList-from_vec c.args.reported.items (cc) (cc)) c.each.yielded c.each.v-iterator c.each.yielded_by c.next.result c.next.new.self c.in-Some.v c.in-Some.is c.next.ensures.steps in
    let less = turn.0 in
    let more = length_push c.each.yielded c.in-Some.v in
    let rank : c.as_rank-rank.result ≡ length c.each.yielded = omega (arith, c.as_rank-rank.ensures, c.len.ensures, c.each.stages.ok.0, before.0) in (
      omega (arith, c.in_ok-push.ensures.len, before.0, more),
      λ x h.
          let n = length c.each.yielded in
          let here = at_rank c.args.reported.items n n c.in-Some.v c.in-Some.v refl less turn.1 refl in
          let part = subst (λ (k : ℕ). HasReported k c.in-Some.v c.args.rule x n) (sym rank) (h.part n c.in-Some.v here) in
          let made = c.in_ok-start.ensures x n part in
          each_more (λ k s. HasJudged s.rank s.judged.items s.addressees.items s.senders.items x k)
          c.each.stages.items c.push.new.self.items n c.in_ok-start.field-0 before.0 (before.1 x h) made c.in_ok-push.ensures.items,
    )

pub exchange-requires-clause-parts : goal.exchange-requires-clause-parts
exchange-requires-clause-parts c =
    let x = c.requires.parts.0 in
    let h = c.requires.parts.1 in
    let done = c.each.invariant in
    let end = YieldsList-end (YieldsList-from_vec c.args.reported.items (cc) (cc)) c.each.yielded c.each.v-iterator c.each.yielded_by c.next.result c.next.new.self c.in-None.is c.next.ensures.steps in
    let ranks = h.same_ranks in
    (x, record { same_ranks = sym ranks ∙ sym end.1 ∙ sym done.0; part = done.1 x h })

pub returns-clause-decided : goal.returns-clause-decided
returns-clause-decided c = λ x h.
    let done = c.each.invariant in
    let end = YieldsList-end (YieldsList-from_vec c.args.reported.items (cc) (cc)) c.each.yielded c.each.v-iterator c.each.yielded_by c.next.result c.next.new.self c.in-None.is c.next.ensures.steps in
    let ranks = h.same_ranks in
    c.in_ok-outs.ensures.outs x (record { same_ranks = sym ranks ∙ sym end.1 ∙ sym done.0; part = done.1 x h })

pub as_rank-rank-requires : goal.as_rank-rank-requires
as_rank-rank-requires c =
    let before = c.each.invariant in
    let turn = YieldsList-turn (YieldsList-from_vec c.args.reported.items (cc) (cc)) c.each.yielded c.each.v-iterator c.each.yielded_by c.next.result c.next.new.self c.in-Some.v c.in-Some.is c.next.ensures.steps in
    let less = turn.0 in
    omega (arith, c.len.ensures, c.each.stages.ok.0, before.0, less, c.requires.few)
