use Rattle.std.proofs.Common.{◌≡◌, ℕ, length, Some, slice_get}
use Rattle.samr_stage.specs.Row.{told}
use Rattle.samr_cluster.specs.declared.report.Report.{Report}
use Rattle.samr_cluster.specs.Rounds.{Round}
use Rattle.samr_cluster.specs.ReportRow.{report_row}
use Rattle.samr_cluster.specs.ReportParts.{HaveAllTold, HasSigned}
use Rattle.samr_cluster.proofs.on_all.report_all.Given as goal

abbrev pub invariant-each : goal.invariant-each
invariant-each l =
    (length l.stages.items ≡ length l.yielded)
    × ((x : Round) → HaveAllTold l.fn.d l.fields l.fn.nodes.items l.fn.width l.fn.to_level x → (k : ℕ) (s : Report) → slice_get l.stages.items k ≡ Some s
    → HasSigned s.rank s.near.items s.own s.directed.items s.senders.items x k × (s.letters.items ≡ told (report_row x k) x.whole.ranks))
