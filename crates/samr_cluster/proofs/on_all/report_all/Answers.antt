use Rattle.std.proofs.Common.{◌≡◌, ◌<◌, ℕ, refl, arith, length, sym, ◌∙◌, subst}
use Rattle.std.proofs.lemmas.Iterator.Adapters.{YieldsList-from_vec}
use Rattle.std.proofs.lemmas.Iterator.Consumers.{YieldsList-turn, YieldsList-end}
use Rattle.std.proofs.lemmas.List.{length_push}
use Rattle.samr_stage.specs.Row.{told}
use Rattle.samr_sign.specs.Fields.{AreApart}
use Rattle.samr_cluster.specs.ReportRow.{report_row}
use Rattle.samr_cluster.specs.ReportParts.{HasTold, HasSigned}
use Rattle.samr_cluster.proofs.OnAllLaws.{each_more, at_rank, all_at}
use Rattle.samr_cluster.proofs.ToldLaws.{has_few}
use Rattle.samr_cluster.proofs.on_all.report_all.Goals as goal

pub as_rank-rank-requires : goal.as_rank-rank-requires
as_rank-rank-requires c =
    let before = c.each.invariant in
    let turn = YieldsList-turn (YieldsList-from_vec c.args.nodes.items (cc) (cc)) c.each.yielded c.each.v-iterator c.each.yielded_by c.next.result c.next.new.self c.in-Some.v c.in-Some.is c.next.ensures.steps in
    let less = turn.0 in
    omega (arith, c.len.ensures, c.each.stages.ok.0, before.0, less, c.requires.few)

pub report_with-requires-clause-apart : goal.report_with-requires-clause-apart
report_with-requires-clause-apart c =
    let before = c.each.invariant in
    let turn = YieldsList-turn (YieldsList-from_vec c.args.nodes.items (cc) (cc)) c.each.yielded c.each.v-iterator c.each.yielded_by c.next.result c.next.new.self c.in-Some.v c.in-Some.is c.next.ensures.steps in
    let less : c.from.result < length c.args.fields.now = omega (arith, c.from.ensures, c.as_rank-rank.ensures, c.len.ensures, c.each.stages.ok.0, before.0, turn.0, c.requires.same) in
    all_at (λ f. AreApart f) c.args.fields.now c.from.result c.index-fields-from.result c.as_slice-own.result.now less c.index-fields-from.is c.as_slice-own.ensures c.requires.apart

pub report_with-requires-clause-few : goal.report_with-requires-clause-few
report_with-requires-clause-few c =
    let before = c.each.invariant in
    let turn = YieldsList-turn (YieldsList-from_vec c.args.nodes.items (cc) (cc)) c.each.yielded c.each.v-iterator c.each.yielded_by c.next.result c.next.new.self c.in-Some.v c.in-Some.is c.next.ensures.steps in
    let n = length c.each.yielded in
    let place : c.from.result ≡ n = omega (arith, c.from.ensures, c.as_rank-rank.ensures, c.len.ensures, c.each.stages.ok.0, before.0) in
    let less = turn.0 in
    let same : length c.args.fields.now ≡ length c.args.nodes.items = c.requires.same in
    let x = c.requires.parts.0 in
    let h = c.requires.parts.1 in
    let here = at_rank c.args.nodes.items n n c.in-Some.v c.in-Some.v refl less turn.1 refl in
    let fields = at_rank c.args.fields.now n c.from.result c.index-fields-from.result c.as_slice-own.result.now place (omega (arith, less, same)) c.index-fields-from.is c.as_slice-own.ensures in
    has_few n c.args.d.now c.as_slice-own.result.now c.in-Some.v.told c.in-Some.v.directed c.args.width c.args.to_level x n (h.part n c.as_slice-own.result.now c.in-Some.v fields here)

pub each-preserved : goal.each-preserved
each-preserved c =
    let before = c.each.invariant in
    let turn = YieldsList-turn (YieldsList-from_vec c.args.nodes.items (cc) (cc)) c.each.yielded c.each.v-iterator c.each.yielded_by c.next.result c.next.new.self c.in-Some.v c.in-Some.is c.next.ensures.steps in
    let less = turn.0 in
    let same : length c.args.fields.now ≡ length c.args.nodes.items = c.requires.same in
    let more = length_push c.each.yielded c.in-Some.v in
    let rank : c.as_rank-rank.result ≡ length c.each.yielded = omega (arith, c.as_rank-rank.ensures, c.len.ensures, c.each.stages.ok.0, before.0) in
    let place : c.from.result ≡ length c.each.yielded = omega (arith, c.from.ensures, rank) in (
      omega (arith, c.in_ok-push.ensures.len, before.0, more),
      λ x h.
          let n = length c.each.yielded in
          let a = c.args in
          let here = at_rank a.nodes.items n n c.in-Some.v c.in-Some.v refl less turn.1 refl in
          let fields = at_rank a.fields.now n c.from.result c.index-fields-from.result c.as_slice-own.result.now place (omega (arith, less, same)) c.index-fields-from.is c.as_slice-own.ensures in
          let part = h.part n c.as_slice-own.result.now c.in-Some.v fields here in
          let ranked = subst (λ (k : ℕ). HasTold k a.d.now c.as_slice-own.result.now c.in-Some.v.told c.in-Some.v.directed a.width a.to_level x n) (sym rank) part in
          let made = c.in_ok-report_with.ensures x n ranked in
          each_more (λ k s. HasSigned s.rank s.near.items s.own s.directed.items s.senders.items x k × (s.letters.items ≡ told (report_row x k) x.whole.ranks))
          c.each.stages.items c.push.new.self.items n c.in_ok-report_with.field-0 before.0 (before.1 x h) made c.in_ok-push.ensures.items,
    )

pub exchange-requires-clause-parts : goal.exchange-requires-clause-parts
exchange-requires-clause-parts c =
    let x = c.requires.parts.0 in
    let h = c.requires.parts.1 in
    let done = c.each.invariant in
    let end = YieldsList-end (YieldsList-from_vec c.args.nodes.items (cc) (cc)) c.each.yielded c.each.v-iterator c.each.yielded_by c.next.result c.next.new.self c.in-None.is c.next.ensures.steps in
    let ranks = h.same_ranks in
    (x, record { same_ranks = sym ranks ∙ sym end.1 ∙ sym done.0; part = done.1 x h })

pub returns-clause-reported : goal.returns-clause-reported
returns-clause-reported c = λ x h.
    let done = c.each.invariant in
    let end = YieldsList-end (YieldsList-from_vec c.args.nodes.items (cc) (cc)) c.each.yielded c.each.v-iterator c.each.yielded_by c.next.result c.next.new.self c.in-None.is c.next.ensures.steps in
    let ranks = h.same_ranks in
    c.in_ok-outs.ensures.outs x (record { same_ranks = sym ranks ∙ sym end.1 ∙ sym done.0; part = done.1 x h })
