use Rattle.std.proofs.Common.{ap, ◌∙◌, map, subst, sym}
use Rattle.std.specs.List.{All}
use Rattle.std.specs.Prelude.{List}
use Rattle.samr_stage.specs.declared.stage.Held.{Held}
use Rattle.samr_sign.specs.Counts.{Sign}
use Rattle.samr_cluster.specs.declared.nodes.Directed.{Directed}
use Rattle.samr_cluster.specs.ReportRow.{count_in}
use Rattle.samr_cluster.specs.ReportParts.{CanCount}
use Rattle.samr_cluster.proofs.ReportStage.{can_all, ends}
use Rattle.samr_cluster.proofs.report.ReportStage.finish.Goals as goal

pub returns : goal.returns
returns c = λ x rank h held.
    let self = c.args.self in
    ends self.rank self.near.items self.own self.directed.items self.senders.items x rank h c.args.held.items held c.in_ok-reports.reports.items _ _
    c.in_ok-reports.ensures c.from_vec.ensures (c.from_vec-2.ensures ∙ c.in_ok-counted.ensures ∙ ap (λ (l : List (Held (List Sign))). map (λ p. count_in l p.node) c.as_slice.result.now) c.as_slice-2.ensures.value ∙ ap (λ (l : List Directed). map (λ p. count_in c.in_ok-reports.reports.items p.node) l) c.as_slice.ensures.value)

pub count_all-requires : goal.count_all-requires
count_all-requires c =
    let self = c.args.self in
    let h = c.requires.2 in
    subst (λ (l : List (Held (List Sign))). All (λ (p : Directed). CanCount l p.node) c.as_slice.result.now) (sym c.as_slice-2.ensures.value)
    (subst (λ (l : List Directed). All (λ (p : Directed). CanCount c.in_ok-reports.reports.items p.node) l) (sym c.as_slice.ensures.value)
    (can_all self.rank self.near.items self.own self.directed.items self.senders.items c.requires.0 c.requires.1 h c.args.held.items c.requires.3 c.in_ok-reports.reports.items c.in_ok-reports.ensures))
