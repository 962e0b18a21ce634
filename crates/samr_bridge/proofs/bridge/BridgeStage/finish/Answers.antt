use Rattle.std.proofs.Common.{ap, ◌∙◌, ◌++◌, map}
use Rattle.std.specs.Prelude.{List}
use Rattle.std.specs.List.{flat_map}
use Rattle.samr_stage.specs.declared.stage.Held.{Held}
use Rattle.samr_level.specs.Refs.{Link, turned}
use Rattle.samr_level.specs.RefOrders.{edge_cmp, in_order}
use Rattle.samr_level.specs.Overlaps.{of_rank}
use Rattle.samr_bridge.proofs.BridgeStage.{ends}
use Rattle.samr_bridge.proofs.bridge.BridgeStage.finish.Goals as goal

pub returns : goal.returns
returns c = λ w rank h held bridge.
    let self = c.args.self in
    let gathered = c.in_ok-all.ensures
    ∙ ap (λ (l : List Link). l ++ flat_map (λ letter. letter.body) c.as_slice-2.result.now) c.as_slice.ensures.value
    ∙ ap (λ (l : List (Held (List Link))). self.found.items ++ flat_map (λ letter. letter.body) l) c.as_slice-2.ensures.value in
    ends self.rank self.width self.east_ratio self.west_ratio self.found.items self.addressees.items self.senders.items w rank h c.args.held.items held
    c.in_ok-all.all.items c.from_vec.result c.from_vec-2.result gathered bridge
    (c.from_vec.ensures ∙ c.settled.ensures
    ∙ ap (in_order edge_cmp) c.in_ok-forth.ensures
    ∙ ap (λ (l : List Link). in_order edge_cmp (of_rank self.rank l)) c.as_slice-3.ensures.value)
    (c.from_vec-2.ensures ∙ c.settled-2.ensures
    ∙ ap (in_order edge_cmp) c.in_ok-back.ensures
    ∙ ap (λ (l : List Link). in_order edge_cmp (of_rank self.rank (map (λ e. turned e) l))) c.as_slice-4.ensures.value)
