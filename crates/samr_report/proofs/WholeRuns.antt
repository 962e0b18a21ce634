-- The rows of a run of an accepted problem give its report.
use Rattle.std.proofs.Common.{◌≡◌, ◌∙◌, ℕ, ap, sym, subst, List}
use Rattle.samr_level.specs.Refs.{Owned}
use Rattle.samr_level.specs.Levels.{IsLevel}
use Rattle.samr_problem.specs.Fields.{Fields}
use Rattle.samr_problem.specs.Problems.{IsProblem}
use Rattle.samr_mesh.specs.Domains.{area_at}
use Rattle.samr_mesh.specs.Meshes.{level_at}
use Rattle.samr_hierarchy.proofs.Grounding.{problems_have_ground}
use Rattle.samr_mesh.proofs.MeshForms.{any_level}
use Rattle.samr_hierarchy.proofs.Fitting.{each_step_is_sound}
use Rattle.samr_report.specs.declared.rows.RankRows.{RankRows}
use Rattle.samr_report.specs.Report.{report}
use Rattle.samr_report.specs.RankRows.{report_by}
use Rattle.samr_report.specs.Bounds.{AreRowsOf}
use Rattle.samr_report.proofs.RowsByRank.{rows_give_the_report}

pub report_of_a_run : (p : Fields) (ranks : ℕ) (mesh : ℕ → List (List Owned)) (letters : ℕ → ℕ) (rows : List RankRows) → IsProblem p → AreRowsOf p ranks mesh letters rows
    → report_by p rows ≡ report p ranks mesh
report_of_a_run p ranks mesh letters rows is are =
    let ground = problems_have_ground p is in
    ap (λ (v : List RankRows). report_by p v) are.are
    ∙ rows_give_the_report p ranks mesh letters are.some
    (λ t l.
    subst (λ (v : List (List Owned)). IsLevel (area_at p l) ranks (level_at v l)) (sym (each_step_is_sound p ranks t mesh ground are.meshes).levels)
    (any_level p ranks l (mesh t) (are.meshes.each t)))
