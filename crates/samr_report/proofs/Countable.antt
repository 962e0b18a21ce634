-- The boxes and cells of a run of an accepted problem can be counted: a level has no more boxes than cells, and few cells.
use Rattle.std.proofs.Common.{◌≡◌, ℕ, ◌+◌, ◌<◌, ◌≤◌, ◌^◌, Bool, true, false, refl, sym, ap, ◌∙◌, subst, inl, inr, arith, length, get_or, List, [], ◌∷◌, map, sum_by, if◌then◌else◌}
use Rattle.std.proofs.lemmas.Bool.{cases_lt}
use Rattle.std.proofs.lemmas.List.Sums.{sum_by-cons}
use Rattle.std.proofs.lemmas.List.Concat.{length-flat_map}
use Rattle.std.proofs.lemmas.List.FromFn.{length-map-range_with_len}
use Rattle.std.proofs.lemmas.List.{get_or_past}
use Rattle.std.specs.List.{flat_map, range_with_len}
use Rattle.samr_box.specs.Corners.{cells_of}
use Rattle.samr_box.specs.Lists.{Member}
use Rattle.samr_level.specs.Refs.{Owned}
use Rattle.samr_level.specs.Regions.{Area}
use Rattle.samr_level.specs.Levels.{IsLevel, own}
use Rattle.samr_load.specs.Balanced.{cells_in}
use Rattle.samr_load.proofs.Shapes.{some_cells}
use Rattle.samr_problem.specs.Fields.{Fields}
use Rattle.samr_problem.specs.Problems.{IsProblem}
use Rattle.samr_mesh.specs.Domains.{area_at}
use Rattle.samr_mesh.proofs.CellBounds.{few_cells}
use Rattle.samr_mesh.proofs.Grounding.{domain}
use Rattle.samr_mesh.specs.Meshes.{level_at}
use Rattle.samr_hierarchy.specs.Hierarchies.{Hierarchy}
use Rattle.samr_hierarchy.specs.Passes.{after}
use Rattle.samr_hierarchy.specs.Meshes.{AreMeshes}
use Rattle.samr_hierarchy.proofs.Grounding.{problems_have_ground}
use Rattle.samr_mesh.proofs.MeshForms.{any_level, no_level}
use Rattle.samr_hierarchy.proofs.Fitting.{each_step_is_sound}
use Rattle.samr_report.specs.declared.rows.LevelRows.{LevelRows}
use Rattle.samr_report.specs.declared.rows.StepRows.{StepRows}
use Rattle.samr_report.specs.declared.rows.RankRows.{RankRows}
use Rattle.samr_report.specs.Report.{is_told}
use Rattle.samr_report.specs.RankRows.{no_level_rows, no_step_rows, level_rows, step_rows, level_told, run_rows}
use Rattle.samr_report.specs.Bounds.{boxes_told, cells_told, AreCountable, RunsAreCountable}
use Rattle.samr_report.proofs.LinesByRank.{level_of_ranks}
use Rattle.samr_report.proofs.RowsByRank.{flat_map_same, sum_map, sum_flat, at_range}

-- a level has no more boxes than cells
pub more_cells : (bs : List Owned) → ((b : Owned) → Member b bs → 0 < cells_of b.bx) → length bs ≤ sum_by (λ b. cells_of b.bx) bs
more_cells [] some = omega arith
more_cells (b ∷ bs) some =
    let here = some b (inl refl) in
    let rest = more_cells bs (λ c m. some c (inr m)) in
    omega (arith, here, rest, sum_by-cons (λ (b : Owned). cells_of b.bx) b bs)

pub all_cells : (bs : List Owned) → cells_in bs ≡ sum_by (λ b. cells_of b.bx) bs
all_cells [] = refl
all_cells (b ∷ bs) = omega (arith, all_cells bs, sum_by-cons (λ (b : Owned). cells_of b.bx) b bs)

-- where the boxes that each rank tells are its own of a level of few cells
abbrev AreFew : ℕ → ℕ → List RankRows → Type 0
AreFew t l rows = (boxes_told t l rows < 2 ^ 63) × (cells_told t l rows < 2 ^ 63)

are_few : (area : Area) (ranks t l : ℕ) (level : List Owned) (rows : ℕ → RankRows) → IsLevel area ranks level → cells_in level ≤ 4194304
    → ((rank : ℕ) → (level_told t l (rows rank)).boxes ≡ own rank level) → AreFew t l (map rows (range_with_len 0 ranks))
are_few area ranks t l level rows is few own_boxes =
    let R = range_with_len 0 ranks in
    let all : flat_map (λ r. (level_told t l (rows r)).boxes) R ≡ level =
    flat_map_same (λ r. (level_told t l (rows r)).boxes) (λ r. own r level) R (λ r m. own_boxes r) ∙ level_of_ranks area ranks level is in
    let boxes : boxes_told t l (map rows R) ≡ length level =
    sum_map (λ (q : RankRows). length (level_told t l q).boxes) rows R ∙ sym (length-flat_map (λ r. (level_told t l (rows r)).boxes) R) ∙ ap length all in
    let cells : cells_told t l (map rows R) ≡ sum_by (λ b. cells_of b.bx) level =
    sum_map (λ (q : RankRows). sum_by (λ b. cells_of b.bx) (level_told t l q).boxes) rows R
    ∙ sum_flat (λ (b : Owned). cells_of b.bx) (λ r. (level_told t l (rows r)).boxes) R ∙ ap (sum_by (λ b. cells_of b.bx)) all in
    let more = more_cells level (λ b m. some_cells b.bx (is.not_empty b m)) in
    let same = all_cells level in
    (omega (arith, boxes, more, same, few), omega (arith, cells, same, few))

own_none : (rank : ℕ) → own rank [] ≡ []
unfolding own
own_none rank = refl

-- and where they tell of no level
none_told : (ranks t l : ℕ) (area : Area) (rows : ℕ → RankRows) → ((rank : ℕ) → level_told t l (rows rank) ≡ no_level_rows) → AreFew t l (map rows (range_with_len 0 ranks))
none_told ranks t l area rows none =
    are_few area ranks t l [] rows (no_level area ranks) (omega arith) (λ rank. ap (λ (v : LevelRows). v.boxes) (none rank) ∙ sym (own_none rank))

pub its_boxes : (p : Fields) (ranks l rank : ℕ) (levels : List (List Owned)) → (level_rows p ranks levels rank l).boxes ≡ own rank (level_at levels l)
unfolding level_rows
its_boxes p ranks l rank levels = refl

pub its_mesh : (p : Fields) (ranks t rank : ℕ) (h : Hierarchy)
    → (step_rows p ranks t h rank).mesh ≡ (if is_told p t then map (λ l. level_rows p ranks h.levels rank l) (range_with_len 0 (length h.levels)) else [])
unfolding step_rows
its_mesh p ranks t rank h = refl

module _ (p : Fields) (ranks : ℕ) (mesh : ℕ → List (List Owned)) (letters : ℕ → ℕ) (is : IsProblem p) (are : AreMeshes p ranks mesh) where
  -- the rows of a level at a step that there is
  told_at : (t l rank : ℕ) → t < p.steps + 1
      → level_told t l (run_rows p ranks mesh letters rank)
      ≡ get_or (if is_told p t then map (λ l. level_rows p ranks (after p ranks mesh t).levels rank l) (range_with_len 0 (length (after p ranks mesh t).levels)) else []) l no_level_rows
  told_at t l rank less =
      ap (λ (q : StepRows). get_or q.mesh l no_level_rows) (at_range (λ t. step_rows p ranks t (after p ranks mesh t) rank) (p.steps + 1) t no_step_rows less)
      ∙ ap (λ (v : List LevelRows). get_or v l no_level_rows) (its_mesh p ranks t rank (after p ranks mesh t))

  pub few_in : (t l : ℕ) → l < length (after p ranks mesh t).levels → IsLevel (area_at p l) ranks (level_at (after p ranks mesh t).levels l) × (cells_in (level_at (after p ranks mesh t).levels l) ≤ 4194304)
  few_in t l less =
      let sound = each_step_is_sound p ranks t mesh (problems_have_ground p is) are in
      let here : IsLevel (area_at p l) ranks (level_at (after p ranks mesh t).levels l) =
      subst (λ (v : List (List Owned)). IsLevel (area_at p l) ranks (level_at v l)) (sym sound.levels) (any_level p ranks l (mesh t) (are.each t)) in
      let count : length (after p ranks mesh t).levels ≤ p.levels = subst (λ (v : List (List Owned)). length v ≤ p.levels) (sym sound.levels) (are.each t).few in
      (here, few_cells p l ranks (level_at (after p ranks mesh t).levels l) (domain p is l (omega (arith, less, count))) here)

  no_step : (t l rank : ℕ) → p.steps + 1 ≤ t → level_told t l (run_rows p ranks mesh letters rank) ≡ no_level_rows
  no_step t l rank past =
      let count = length-map-range_with_len (λ t. step_rows p ranks t (after p ranks mesh t) rank) 0 (p.steps + 1) in
      ap (λ (q : StepRows). get_or q.mesh l no_level_rows)
      (get_or_past (map (λ t. step_rows p ranks t (after p ranks mesh t) rank) (range_with_len 0 (p.steps + 1))) t no_step_rows (omega (arith, count, past)))
      ∙ get_or_past [] l no_level_rows (omega arith)

  by_level : (t l : ℕ) → t < p.steps + 1 → is_told p t ≡ true → AreFew t l (map (λ rank. run_rows p ranks mesh letters rank) (range_with_len 0 ranks))
  by_level t l less told = elim (cases_lt l (length (after p ranks mesh t).levels)) [
    | inl there ↦
        let facts = few_in t l there in
        are_few (area_at p l) ranks t l (level_at (after p ranks mesh t).levels l) (λ rank. run_rows p ranks mesh letters rank) facts.0 facts.1
        (λ rank.
        ap (λ (v : LevelRows). v.boxes)
        (told_at t l rank less
        ∙ ap (λ (u : Bool). get_or (if u then map (λ l. level_rows p ranks (after p ranks mesh t).levels rank l) (range_with_len 0 (length (after p ranks mesh t).levels)) else []) l no_level_rows) told
        ∙ at_range (λ l. level_rows p ranks (after p ranks mesh t).levels rank l) (length (after p ranks mesh t).levels) l no_level_rows there)
        ∙ its_boxes p ranks l rank (after p ranks mesh t).levels)
    | inr beyond ↦
        none_told ranks t l (area_at p 0) (λ rank. run_rows p ranks mesh letters rank)
        (λ rank.
        let count = length-map-range_with_len (λ l. level_rows p ranks (after p ranks mesh t).levels rank l) 0 (length (after p ranks mesh t).levels) in
        told_at t l rank less
        ∙ ap (λ (u : Bool). get_or (if u then map (λ l. level_rows p ranks (after p ranks mesh t).levels rank l) (range_with_len 0 (length (after p ranks mesh t).levels)) else []) l no_level_rows) told
        ∙ get_or_past (map (λ l. level_rows p ranks (after p ranks mesh t).levels rank l) (range_with_len 0 (length (after p ranks mesh t).levels))) l no_level_rows (omega (arith, count, beyond)))
  ]

  by_told : (t l : ℕ) → t < p.steps + 1 → (u : Bool) → is_told p t ≡ u → AreFew t l (map (λ rank. run_rows p ranks mesh letters rank) (range_with_len 0 ranks))
  by_told t l less true told = by_level t l less told
  by_told t l less false told =
      none_told ranks t l (area_at p 0) (λ rank. run_rows p ranks mesh letters rank)
      (λ rank.
      told_at t l rank less
      ∙ ap (λ (u : Bool). get_or (if u then map (λ l. level_rows p ranks (after p ranks mesh t).levels rank l) (range_with_len 0 (length (after p ranks mesh t).levels)) else []) l no_level_rows) told
      ∙ get_or_past [] l no_level_rows (omega arith))

  few_at : (t l : ℕ) → AreFew t l (map (λ rank. run_rows p ranks mesh letters rank) (range_with_len 0 ranks))
  few_at t l = elim (cases_lt t (p.steps + 1)) [
    | inl less ↦ by_told t l less (is_told p t) refl
    | inr past ↦ none_told ranks t l (area_at p 0) (λ rank. run_rows p ranks mesh letters rank) (λ rank. no_step t l rank past)
  ]

pub runs_are_countable : RunsAreCountable
runs_are_countable p ranks mesh letters rows is are =
    subst (λ (v : List RankRows). AreCountable v) (sym are.are) (record {
      boxes = λ t l. (few_at p ranks mesh letters is are.meshes t l).0;
      cells = λ t l. (few_at p ranks mesh letters is are.meshes t l).1;
    })
