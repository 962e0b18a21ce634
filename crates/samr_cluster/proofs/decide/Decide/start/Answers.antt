use Rattle.std.proofs.Common.{ap, ◌∙◌, map}
use Rattle.std.specs.Prelude.{List}
use Rattle.samr_cluster.specs.declared.nodes.Told.{Told}
use Rattle.samr_cluster.specs.declared.nodes.Counted.{Counted}
use Rattle.samr_cluster.specs.declared.verdict.Judged.{Judged}
use Rattle.samr_cluster.specs.DecideRow.{judge}
use Rattle.samr_cluster.specs.DecideParts.{other_directors, others_near}
use Rattle.samr_cluster.proofs.DecideStage.{begins}
use Rattle.samr_cluster.proofs.decide.Decide.start.Goals as goal

pub returns : goal.returns
returns c = λ x r h.
    begins c.args.rank c.args.reported c.args.rule x r h _ _ _
    (c.in_ok-judged.ensures ∙ ap (λ (l : List Counted). map (λ n. judge c.args.rule n) l) c.as_slice.ensures)
    (c.in_ok-addressees.ensures ∙ ap (λ (l : List Judged). others_near c.args.rank l) c.as_slice-2.ensures.value)
    (c.in_ok-senders.ensures ∙ ap (λ (l : List Told). other_directors c.args.rank l) c.as_slice-3.ensures)
