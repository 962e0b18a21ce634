-- The levels of a step, as the code goes over the ranks' rows of them.
use Rattle.std.proofs.Common.{◌≡◌, ◌∙◌, ℕ, Bool, ap, sym, List, map, get_or}
use Rattle.std.proofs.lemmas.Simd.{map-map}
use Rattle.std.specs.List.{flat_map, range_with_len}
use Rattle.samr_box.specs.Space.{is_zero}
use Rattle.samr_problem.specs.Fields.{Fields}
use Rattle.samr_report.specs.declared.rows.LevelRows.{LevelRows}
use Rattle.samr_report.specs.declared.rows.StepRows.{StepRows}
use Rattle.samr_report.specs.declared.rows.RankRows.{RankRows}
use Rattle.samr_report.specs.RankRows.{no_level_rows, step_told, level_told, level_count, level_text_by, mesh_text_by}
use Rattle.samr_report.proofs.RowsByRank.{flat_map_same}

pub mesh_is : (p : Fields) (t : ℕ) (rows : List RankRows) (silent : Bool) (n : ℕ) → silent ≡ is_zero p.width → n ≡ level_count (map (λ q. step_told t q) rows)
    → flat_map (λ l. level_text_by silent l (map (λ q. level_told t l q) rows)) (range_with_len 0 n) ≡ mesh_text_by p (map (λ q. step_told t q) rows)
mesh_is p t rows silent n silent_is count =
    ap (λ (u : Bool). flat_map (λ l. level_text_by u l (map (λ q. level_told t l q) rows)) (range_with_len 0 n)) silent_is
    ∙ ap (λ (k : ℕ). flat_map (λ l. level_text_by (is_zero p.width) l (map (λ q. level_told t l q) rows)) (range_with_len 0 k)) count
    ∙ flat_map_same (λ l. level_text_by (is_zero p.width) l (map (λ q. level_told t l q) rows))
    (λ l. level_text_by (is_zero p.width) l (map (λ q. get_or q.mesh l no_level_rows) (map (λ q. step_told t q) rows)))
    (range_with_len 0 (level_count (map (λ q. step_told t q) rows)))
    (λ l m. ap (λ (parts : List LevelRows). level_text_by (is_zero p.width) l parts) (sym (map-map (λ (q : StepRows). get_or q.mesh l no_level_rows) (λ (q : RankRows). step_told t q) rows)))
