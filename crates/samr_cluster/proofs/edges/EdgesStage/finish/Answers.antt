use Rattle.std.proofs.Common.{ap, ◌∙◌, ◌++◌, map}
use Rattle.std.specs.Prelude.{List}
use Rattle.std.specs.List.{flat_map}
use Rattle.samr_stage.specs.declared.stage.Held.{Held}
use Rattle.samr_level.specs.Refs.{Link, turned}
use Rattle.samr_level.specs.RefOrders.{edge_cmp, in_order}
use Rattle.samr_level.specs.Overlaps.{of_rank}
use Rattle.samr_cluster.proofs.EdgesStage.{ends}
use Rattle.samr_cluster.proofs.edges.EdgesStage.finish.Goals as goal

pub returns : goal.returns
returns c = λ w rank h held.
    let self = c.args.self in
    let gathered = c.in_ok-all.ensures
    ∙ ap (λ (l : List Link). l ++ flat_map (λ letter. letter.body) c.as_slice-2.result.now) c.as_slice.ensures.value
    ∙ ap (λ (l : List (Held (List Link))). self.found.items ++ flat_map (λ letter. letter.body) l) c.as_slice-2.ensures.value in
    ends self.rank self.width self.ratio self.found.items self.addressees.items self.senders.items w rank h c.args.held.items held _ _
    (c.in_ok-forth.ensures ∙ ap (λ (l : List Link). in_order edge_cmp (map (λ e. turned e) l)) c.as_slice-3.ensures.value)
    (c.in_ok-back.ensures ∙ ap (λ (l : List Link). in_order edge_cmp (of_rank self.rank l)) (c.as_slice-4.ensures.value ∙ gathered))
