-- The rows of a run give the text of `load`.
use Rattle.std.proofs.Common.{◌≡◌, ◌∙◌, ℕ, zero, suc, ◌+◌, ◌%◌, ◌<◌, Bool, true, refl, ap, sym, subst, arith, List, [], map, length, get_or, sum_by, if◌then◌else◌}
use Rattle.std.specs.Prelude.{◌++◌}
use Rattle.std.specs.List.{range_with_len}
use Rattle.std.proofs.lemmas.List.Concat.{length-flat_map}
use Rattle.std.proofs.lemmas.List.FromFn.{length-map-range_with_len}
use Rattle.samr_box.specs.Corners.{cells_of}
use Rattle.samr_box.specs.Space.{is_zero}
use Rattle.samr_level.specs.Refs.{Owned}
use Rattle.samr_level.specs.Levels.{IsLevel, own}
use Rattle.samr_level.specs.Overlaps.{of_rank}
use Rattle.samr_problem.specs.Fields.{Fields}
use Rattle.samr_problem.specs.Problems.{IsProblem}
use Rattle.samr_mesh.specs.Domains.{area_at}
use Rattle.samr_mesh.specs.Meshes.{level_at}
use Rattle.samr_hierarchy.specs.Hierarchies.{Hierarchy}
use Rattle.samr_hierarchy.specs.Passes.{after}
use Rattle.samr_hierarchy.specs.Meshes.{AreMeshes}
use Rattle.samr_hierarchy.proofs.Grounding.{problems_have_ground}
use Rattle.samr_mesh.proofs.MeshForms.{any_level}
use Rattle.samr_hierarchy.proofs.Fitting.{each_step_is_sound}
use Rattle.samr_report.specs.declared.rows.BoxSum.{BoxSum}
use Rattle.samr_report.specs.declared.rows.LevelRows.{LevelRows}
use Rattle.samr_report.specs.declared.rows.StepRows.{StepRows}
use Rattle.samr_report.specs.declared.rows.RankRows.{RankRows}
use Rattle.samr_report.specs.Report.{edges_between, is_told}
use Rattle.samr_report.specs.ValueLines.{sum_at}
use Rattle.samr_report.specs.LoadText.{all_boxes, all_cells, edges_below, edges_of, all_edges, all_values, first_modulus, load_line, final_line, letters_line, load_text}
use Rattle.samr_report.specs.RankRows.{no_step_rows, downs_of, level_rows, sums_of, step_rows, step_told, level_count, run_rows}
use Rattle.samr_report.specs.Summaries.{last_told, cells_of_level, edges_of_level, boxes_at, cells_at, edges_at, sum_of, values_at, edges_told, summary_by, RowsGiveTheSummary}
use Rattle.samr_report.proofs.LinesByRank.{level_of_ranks, edges_of_ranks}
use Rattle.samr_report.proofs.RowsByRank.{at_range, sum_map, sum_flat, parts_at, count_is}
use Rattle.samr_report.proofs.Countable.{its_boxes, its_mesh}
use Rattle.samr_report.proofs.Sums.{sum_same, sum_plus, sum_none, sum_swap, told_then, last_within, kept_last}

mesh_told : (p : Fields) (ranks t rank : ℕ) (h : Hierarchy) → is_told p t ≡ true
    → (step_rows p ranks t h rank).mesh ≡ map (λ l. level_rows p ranks h.levels rank l) (range_with_len 0 (length h.levels))
mesh_told p ranks t rank h told =
    its_mesh p ranks t rank h ∙ ap (λ (u : Bool). if u then map (λ l. level_rows p ranks h.levels rank l) (range_with_len 0 (length h.levels)) else []) told

edges_in : (p : Fields) (ranks l rank : ℕ) (levels : List (List Owned)) → edges_of_level (level_rows p ranks levels rank l)
    ≡ length (of_rank rank (edges_between p levels l l)) + length (of_rank rank (downs_of p levels l)) + length (of_rank rank (edges_between p levels l (l + 1)))
unfolding level_rows
edges_in p ranks l rank levels = refl

-- of the levels of a mesh, by all ranks
module _ (p : Fields) (ranks : ℕ) (levels : List (List Owned)) (are : (l : ℕ) → IsLevel (area_at p l) ranks (level_at levels l)) where
  box_count : (l : ℕ) → sum_by (λ r. length (level_rows p ranks levels r l).boxes) (range_with_len 0 ranks) ≡ length (level_at levels l)
  box_count l =
      sum_same (λ r. length (level_rows p ranks levels r l).boxes) (λ r. length (own r (level_at levels l))) (range_with_len 0 ranks) (λ r m. ap length (its_boxes p ranks l r levels))
      ∙ sym (length-flat_map (λ r. own r (level_at levels l)) (range_with_len 0 ranks)) ∙ ap length (level_of_ranks (area_at p l) ranks (level_at levels l) (are l))

  cell_count : (l : ℕ) → sum_by (λ r. cells_of_level (level_rows p ranks levels r l)) (range_with_len 0 ranks) ≡ sum_by (λ b. cells_of b.bx) (level_at levels l)
  cell_count l =
      sum_same (λ r. cells_of_level (level_rows p ranks levels r l)) (λ r. sum_by (λ b. cells_of b.bx) (own r (level_at levels l))) (range_with_len 0 ranks)
      (λ r m. ap (λ (v : List Owned). sum_by (λ b. cells_of b.bx) v) (its_boxes p ranks l r levels))
      ∙ sum_flat (λ (b : Owned). cells_of b.bx) (λ r. own r (level_at levels l)) (range_with_len 0 ranks)
      ∙ ap (sum_by (λ b. cells_of b.bx)) (level_of_ranks (area_at p l) ranks (level_at levels l) (are l))

  edge_count : (l m : ℕ) → sum_by (λ r. length (of_rank r (edges_between p levels l m))) (range_with_len 0 ranks) ≡ length (edges_between p levels l m)
  edge_count l m =
      sym (length-flat_map (λ r. of_rank r (edges_between p levels l m)) (range_with_len 0 ranks))
      ∙ ap length (edges_of_ranks _ (area_at p l) (area_at p m) ranks (level_at levels l) (level_at levels m) (are l) (are m))

  none_of_rank : (r : ℕ) → length (of_rank r []) ≡ 0
  unfolding of_rank
  none_of_rank r = refl

  down_count : (l : ℕ) → sum_by (λ r. length (of_rank r (downs_of p levels l))) (range_with_len 0 ranks) ≡ edges_below p levels l
  down_count zero = sum_same (λ r. length (of_rank r [])) (λ r. 0) (range_with_len 0 ranks) (λ r m. none_of_rank r) ∙ sum_none (range_with_len 0 ranks)
  down_count (suc l) = edge_count (suc l) l

  level_edges : (l : ℕ) → sum_by (λ r. edges_of_level (level_rows p ranks levels r l)) (range_with_len 0 ranks) ≡ edges_of p levels l
  level_edges l =
      let selves = λ (r : ℕ). length (of_rank r (edges_between p levels l l)) in
      let downs = λ (r : ℕ). length (of_rank r (downs_of p levels l)) in
      let ups = λ (r : ℕ). length (of_rank r (edges_between p levels l (l + 1))) in
      let first = sum_plus (λ r. selves r + downs r) ups (range_with_len 0 ranks) in
      let second = sum_plus selves downs (range_with_len 0 ranks) in
      let a = edge_count l l in
      let b = down_count l in
      let c = edge_count l (l + 1) in
      sum_same (λ r. edges_of_level (level_rows p ranks levels r l)) (λ r. selves r + downs r + ups r) (range_with_len 0 ranks) (λ r m. edges_in p ranks l r levels)
      ∙ first ∙ ap (λ n. n + sum_by ups (range_with_len 0 ranks)) second
      ∙ ap (λ n. n + sum_by downs (range_with_len 0 ranks) + sum_by ups (range_with_len 0 ranks)) a
      ∙ ap (λ n. length (edges_between p levels l l) + n + sum_by ups (range_with_len 0 ranks)) b
      ∙ ap (λ n. length (edges_between p levels l l) + edges_below p levels l + n) c

-- what the ranks of a run tell of all levels at a step at which the mesh is told
module _ (p : Fields) (ranks t : ℕ) (mesh : ℕ → List (List Owned)) (letters : ℕ → ℕ) (less : t < p.steps + 1) where
  step_is : (r : ℕ) → step_told t (run_rows p ranks mesh letters r) ≡ step_rows p ranks t (after p ranks mesh t) r
  step_is r = at_range (λ t. step_rows p ranks t (after p ranks mesh t) r) (p.steps + 1) t no_step_rows less

  over_levels : (g : LevelRows → ℕ) (each : ℕ → ℕ) → is_told p t ≡ true
      → ((l : ℕ) → sum_by (λ r. g (level_rows p ranks (after p ranks mesh t).levels r l)) (range_with_len 0 ranks) ≡ each l)
      → sum_by (λ q. sum_by g (step_told t q).mesh) (map (λ r. run_rows p ranks mesh letters r) (range_with_len 0 ranks)) ≡ sum_by each (range_with_len 0 (length (after p ranks mesh t).levels))
  over_levels g each told is =
      let h = after p ranks mesh t in
      sum_map (λ (q : RankRows). sum_by g (step_told t q).mesh) (λ r. run_rows p ranks mesh letters r) (range_with_len 0 ranks)
      ∙ sum_same (λ r. sum_by g (step_told t (run_rows p ranks mesh letters r)).mesh) (λ r. sum_by (λ l. g (level_rows p ranks h.levels r l)) (range_with_len 0 (length h.levels))) (range_with_len 0 ranks)
      (λ r m.
      ap (λ (q : StepRows). sum_by g q.mesh) (step_is r) ∙ ap (sum_by g) (mesh_told p ranks t r h told)
      ∙ sum_map g (λ l. level_rows p ranks h.levels r l) (range_with_len 0 (length h.levels)))
      ∙ sum_swap (λ r l. g (level_rows p ranks h.levels r l)) (range_with_len 0 ranks) (range_with_len 0 (length h.levels))
      ∙ sum_same (λ l. sum_by (λ r. g (level_rows p ranks h.levels r l)) (range_with_len 0 ranks)) each (range_with_len 0 (length h.levels)) (λ l m. is l)

  -- and of the values of field 0
  sum_of_box : (h : Hierarchy) (r l : ℕ) → sum_of (sums_of h r 0 l) ≡ sum_by (λ b. sum_at h 0 l b) (own r (level_at h.levels l))
  sum_of_box h r l = sum_map (λ (s : BoxSum). s.sum) (λ (b : Owned). let s : BoxSum = record { base = b; sum = sum_at h 0 l b } in s) (own r (level_at h.levels l))

  first_sums : (r : ℕ) → 0 < length p.fields
      → get_or (step_rows p ranks t (after p ranks mesh t) r).sums 0 [] ≡ map (λ l. sums_of (after p ranks mesh t) r 0 l) (range_with_len 0 (length (after p ranks mesh t).levels))
  unfolding step_rows
  first_sums r some =
      at_range (λ f. map (λ l. sums_of (after p ranks mesh t) r f l) (range_with_len 0 (length (after p ranks mesh t).levels))) (length p.fields) 0 [] some

  values_merge : 0 < length p.fields → ((l : ℕ) → IsLevel (area_at p l) ranks (level_at (after p ranks mesh t).levels l))
      → sum_by (λ q. values_at t q) (map (λ r. run_rows p ranks mesh letters r) (range_with_len 0 ranks)) ≡ all_values (after p ranks mesh t)
  values_merge some are =
      let h = after p ranks mesh t in
      let n = range_with_len 0 (length h.levels) in
      sum_map (λ (q : RankRows). values_at t q) (λ r. run_rows p ranks mesh letters r) (range_with_len 0 ranks)
      ∙ sum_same (λ r. values_at t (run_rows p ranks mesh letters r)) (λ r. sum_by (λ l. sum_by (λ b. sum_at h 0 l b) (own r (level_at h.levels l))) n) (range_with_len 0 ranks)
      (λ r m.
      ap (λ (q : StepRows). sum_by (λ sums. sum_of sums) (get_or q.sums 0 [])) (step_is r)
      ∙ ap (λ (v : List (List BoxSum)). sum_by (λ sums. sum_of sums) v) (first_sums r some)
      ∙ sum_map (λ (sums : List BoxSum). sum_of sums) (λ l. sums_of h r 0 l) n
      ∙ sum_same (λ l. sum_of (sums_of h r 0 l)) (λ l. sum_by (λ b. sum_at h 0 l b) (own r (level_at h.levels l))) n (λ l m. sum_of_box h r l))
      ∙ sum_swap (λ r l. sum_by (λ b. sum_at h 0 l b) (own r (level_at h.levels l))) (range_with_len 0 ranks) n
      ∙ sum_same (λ l. sum_by (λ r. sum_by (λ b. sum_at h 0 l b) (own r (level_at h.levels l))) (range_with_len 0 ranks)) (λ l. sum_by (λ b. sum_at h 0 l b) (level_at h.levels l)) n
      (λ l m. sum_flat (λ (b : Owned). sum_at h 0 l b) (λ r. own r (level_at h.levels l)) (range_with_len 0 ranks) ∙ ap (sum_by (λ b. sum_at h 0 l b)) (level_of_ranks (area_at p l) ranks (level_at h.levels l) (are l)))

-- the levels after the last step are those at which the mesh was told last
module _ (p : Fields) (ranks : ℕ) (mesh : ℕ → List (List Owned)) (letters : ℕ → ℕ) (is : IsProblem p) (are : AreMeshes p ranks mesh) where
  pub levels_are : (t l : ℕ) → IsLevel (area_at p l) ranks (level_at (after p ranks mesh t).levels l)
  levels_are t l =
      let ground = problems_have_ground p is in
      subst (λ (v : List (List Owned)). IsLevel (area_at p l) ranks (level_at v l)) (sym (each_step_is_sound p ranks t mesh ground are).levels) (any_level p ranks l (mesh t) (are.each t))

  pub last_levels : (after p ranks mesh (last_told p)).levels ≡ (after p ranks mesh p.steps).levels
  last_levels =
      let ground = problems_have_ground p is in
      (each_step_is_sound p ranks (last_told p) mesh ground are).levels ∙ kept_last p ranks mesh is are ∙ sym (each_step_is_sound p ranks p.steps mesh ground are).levels

  told_less : last_told p < p.steps + 1
  told_less = let within = last_within p in omega (arith, within)

  pub boxes_merge : sum_by (λ q. boxes_at (last_told p) q) (map (λ r. run_rows p ranks mesh letters r) (range_with_len 0 ranks)) ≡ all_boxes (after p ranks mesh p.steps).levels
  boxes_merge =
      over_levels p ranks (last_told p) mesh letters told_less (λ (v : LevelRows). length v.boxes) (λ l. length (level_at (after p ranks mesh (last_told p)).levels l)) (told_then p is)
      (λ l. box_count p ranks (after p ranks mesh (last_told p)).levels (levels_are (last_told p)) l)
      ∙ ap (λ (v : List (List Owned)). all_boxes v) last_levels

  pub cells_merge : sum_by (λ q. cells_at (last_told p) q) (map (λ r. run_rows p ranks mesh letters r) (range_with_len 0 ranks)) ≡ all_cells (after p ranks mesh p.steps).levels
  cells_merge =
      over_levels p ranks (last_told p) mesh letters told_less (λ (v : LevelRows). cells_of_level v) (λ l. sum_by (λ b. cells_of b.bx) (level_at (after p ranks mesh (last_told p)).levels l)) (told_then p is)
      (λ l. cell_count p ranks (after p ranks mesh (last_told p)).levels (levels_are (last_told p)) l)
      ∙ ap (λ (v : List (List Owned)). all_cells v) last_levels

  pub edges_merge : sum_by (λ q. edges_at (last_told p) q) (map (λ r. run_rows p ranks mesh letters r) (range_with_len 0 ranks))
      ≡ sum_by (λ l. edges_of p (after p ranks mesh p.steps).levels l) (range_with_len 0 (length (after p ranks mesh p.steps).levels))
  edges_merge =
      over_levels p ranks (last_told p) mesh letters told_less (λ (v : LevelRows). edges_of_level v) (λ l. edges_of p (after p ranks mesh (last_told p)).levels l) (told_then p is)
      (λ l. level_edges p ranks (after p ranks mesh (last_told p)).levels (levels_are (last_told p)) l)
      ∙ ap (λ (v : List (List Owned)). sum_by (λ l. edges_of p v l) (range_with_len 0 (length v))) last_levels

pub rows_give_the_summary : RowsGiveTheSummary
unfolding summary_by load_text
rows_give_the_summary p seed size ranks mesh letters rows is are =
    let given = map (λ r. run_rows p ranks mesh letters r) (range_with_len 0 ranks) in
    let h = after p ranks mesh p.steps in
    let less : p.steps < p.steps + 1 = omega arith in
    let count = ap (λ (v : List StepRows). level_count v) (parts_at p ranks p.steps mesh letters less) ∙ count_is p ranks p.steps h are.some (levels_are p ranks mesh letters is are.meshes p.steps) in
    let some : 0 < length p.fields = omega (arith, is.some_field) in
    ap (λ (v : List RankRows). summary_by p seed size v) are.are
    ∙ ap (λ (n : ℕ). load_line n seed size
    ++ final_line (level_count (map (λ q. step_told p.steps q) given)) (sum_by (λ q. boxes_at (last_told p) q) given) (sum_by (λ q. cells_at (last_told p) q) given) (edges_told p given)
    ++ letters_line (sum_by (λ q. q.letters) given) (sum_by (λ q. values_at p.steps q) given % first_modulus p)) (length-map-range_with_len (λ r. run_rows p ranks mesh letters r) 0 ranks)
    ∙ ap (λ (n : ℕ). load_line ranks seed size
    ++ final_line n (sum_by (λ q. boxes_at (last_told p) q) given) (sum_by (λ q. cells_at (last_told p) q) given) (edges_told p given)
    ++ letters_line (sum_by (λ q. q.letters) given) (sum_by (λ q. values_at p.steps q) given % first_modulus p)) count
    ∙ ap (λ (n : ℕ). load_line ranks seed size
    ++ final_line (length h.levels) n (sum_by (λ q. cells_at (last_told p) q) given) (edges_told p given)
    ++ letters_line (sum_by (λ q. q.letters) given) (sum_by (λ q. values_at p.steps q) given % first_modulus p)) (boxes_merge p ranks mesh letters is are.meshes)
    ∙ ap (λ (n : ℕ). load_line ranks seed size
    ++ final_line (length h.levels) (all_boxes h.levels) n (edges_told p given)
    ++ letters_line (sum_by (λ q. q.letters) given) (sum_by (λ q. values_at p.steps q) given % first_modulus p)) (cells_merge p ranks mesh letters is are.meshes)
    ∙ ap (λ (n : ℕ). load_line ranks seed size
    ++ final_line (length h.levels) (all_boxes h.levels) (all_cells h.levels) (if is_zero p.width then 0 else n)
    ++ letters_line (sum_by (λ q. q.letters) given) (sum_by (λ q. values_at p.steps q) given % first_modulus p)) (edges_merge p ranks mesh letters is are.meshes)
    ∙ ap (λ (n : ℕ). load_line ranks seed size
    ++ final_line (length h.levels) (all_boxes h.levels) (all_cells h.levels) (all_edges p h.levels)
    ++ letters_line n (sum_by (λ q. values_at p.steps q) given % first_modulus p)) (sum_map (λ (q : RankRows). q.letters) (λ r. run_rows p ranks mesh letters r) (range_with_len 0 ranks))
    ∙ ap (λ (n : ℕ). load_line ranks seed size
    ++ final_line (length h.levels) (all_boxes h.levels) (all_cells h.levels) (all_edges p h.levels)
    ++ letters_line (sum_by letters (range_with_len 0 ranks)) (n % first_modulus p)) (values_merge p ranks p.steps mesh letters less some (levels_are p ranks mesh letters is are.meshes p.steps))
