use Rattle.std.proofs.Common.{ap, ◌∙◌}
use Rattle.std.specs.Prelude.{List}
use Rattle.samr_level.specs.Refs.{Link}
use Rattle.samr_level.specs.RefOrders.{edge_cmp, in_order}
use Rattle.samr_modify.specs.declared.entries.Replaced.{Replaced}
use Rattle.samr_modify.specs.Found.{all_led, all_taken}
use Rattle.samr_modify.proofs.ModifyStage.{ends}
use Rattle.samr_modify.proofs.modify.ModifyStage.finish.Goals as goal

pub returns : goal.returns
returns c = λ w rank h held modifying.
    let self = c.args.self in
    ends self.rank self.width self.anchor_ratio self.old_ratio self.forth self.back self.edges.items self.known.items self.addressees.items self.senders.items w rank h c.args.held.items held
    c.in_ok-known.known.items c.from_vec.result c.from_vec-2.result c.in_ok-known.ensures modifying
    (c.from_vec.ensures ∙ c.settled.ensures
    ∙ ap (in_order edge_cmp) c.in_ok-forth.ensures
    ∙ ap (λ (l : List Link). in_order edge_cmp (all_led self.forth l c.as_slice-2.result.now)) c.as_slice.ensures.value
    ∙ ap (λ (l : List Replaced). in_order edge_cmp (all_led self.forth self.edges.items l)) c.as_slice-2.ensures.value)
    (c.from_vec-2.ensures ∙ c.settled-2.ensures
    ∙ ap (in_order edge_cmp) c.in_ok-back.ensures
    ∙ ap (λ (l : List Replaced). in_order edge_cmp (all_taken self.back self.rank l)) c.as_slice-3.ensures.value)
