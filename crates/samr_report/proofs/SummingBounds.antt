-- The boxes, cells and edges of all levels of a run of an accepted problem are few.
use Rattle.std.proofs.Common.{ℕ, zero, suc, ◌+◌, ◌*◌, ◌<◌, ◌≤◌, ◌^◌, Bool, true, false, ap, sym, subst, inl, inr, arith, List, map, length, sum_by}
use Rattle.std.proofs.Math.Nat.{mul-le-mul}
use Rattle.std.proofs.lemmas.Bool.{cases_lt}
use Rattle.std.proofs.lemmas.List.{length-map}
use Rattle.std.proofs.lemmas.List.Concat.{length-flat_map}
use Rattle.std.proofs.lemmas.List.FromFn.{length-range_with_len}
use Rattle.std.proofs.lemmas.List.Sums.{sum_by-le, length-filter, count_by-le-length}
use Rattle.std.specs.List.{flat_map, range_with_len}
use Rattle.samr_box.specs.declared.vector.IVec.{IVec}
use Rattle.samr_box.specs.declared.space.Flags.{Flags}
use Rattle.samr_box.specs.Corners.{cells_of}
use Rattle.samr_box.proofs.Members.{All-from_members}
use Rattle.samr_level.specs.Refs.{Owned, link}
use Rattle.samr_level.specs.Overlaps.{Scale, steps, shifts, is_true, all_links, true_overlaps}
use Rattle.samr_load.proofs.Shapes.{some_cells}
use Rattle.samr_problem.specs.Fields.{Fields}
use Rattle.samr_problem.specs.Problems.{IsProblem}
use Rattle.samr_mesh.specs.Meshes.{level_at}
use Rattle.samr_hierarchy.specs.Passes.{after}
use Rattle.samr_hierarchy.specs.Meshes.{AreMeshes}
use Rattle.samr_hierarchy.proofs.Grounding.{problems_have_ground}
use Rattle.samr_mesh.proofs.MeshForms.{beyond}
use Rattle.samr_hierarchy.proofs.Fitting.{each_step_is_sound}
use Rattle.samr_report.specs.declared.rows.RankRows.{RankRows}
use Rattle.samr_report.specs.Report.{edges_between}
use Rattle.samr_report.specs.LoadText.{edges_below, edges_of}
use Rattle.samr_report.specs.RankRows.{run_rows}
use Rattle.samr_report.specs.Summaries.{CanSum, RunsCanBeSummed}
use Rattle.samr_report.proofs.RowsByRank.{in_range, sum_map}
use Rattle.samr_report.proofs.Countable.{more_cells, all_cells, few_in}
use Rattle.samr_report.proofs.Summing.{boxes_merge, cells_merge, edges_merge}

-- there are at most 27 shifts
few_steps : (b : Bool) → length (steps b) ≤ 3
few_steps true = omega arith
few_steps false = omega arith

few_shifts : (f : Flags) → length (shifts f) ≤ 27
unfolding shifts
few_shifts f = by f.i f.j f.k
  where
    by : (a b c : Bool) → length (flat_map (λ k. flat_map (λ j. map (λ i. let v : IVec = record { k = k; j = j; i = i } in v) (steps a)) (steps b)) (steps c)) ≤ 27
    by true true true = omega arith
    by true true false = omega arith
    by true false true = omega arith
    by true false false = omega arith
    by false true true = omega arith
    by false true false = omega arith
    by false false true = omega arith
    by false false false = omega arith

few_links : (bases heads : List Owned) (ss : List IVec) → length ss ≤ 27 → length (all_links bases heads ss) ≤ length bases * (length heads * 27)
few_links bases heads ss few =
    let all = length-flat_map (λ a. flat_map (λ b. map (λ s. link a b s) ss) heads) bases in
    let most = sum_by-le (λ a. length (flat_map (λ b. map (λ s. link a b s) ss) heads)) (length heads * 27) bases
    (All-from_members (λ a. length (flat_map (λ b. map (λ s. link a b s) ss) heads) ≤ length heads * 27) bases (λ a m. row a)) in
    omega (arith, all, most)
  where
    row : (a : Owned) → length (flat_map (λ b. map (λ s. link a b s) ss) heads) ≤ length heads * 27
    row a =
        let all = length-flat_map (λ b. map (λ s. link a b s) ss) heads in
        let most = sum_by-le (λ b. length (map (λ s. link a b s) ss)) 27 heads
        (All-from_members (λ b. length (map (λ s. link a b s) ss) ≤ 27) heads (λ b m. let same = length-map ss (λ s. link a b s) in omega (arith, same, few))) in
        omega (arith, all, most)

few_overlaps : (n : Scale) (bases heads : List Owned) → length (true_overlaps n bases heads) ≤ length bases * (length heads * 27)
unfolding true_overlaps
few_overlaps n bases heads =
    let links = all_links bases heads (shifts n.domain.periodic) in
    let kept = length-filter (λ e. is_true n e) links in
    let fewer = count_by-le-length (λ e. is_true n e) links in
    let all = few_links bases heads (shifts n.domain.periodic) (few_shifts n.domain.periodic) in
    omega (arith, kept, fewer, all)

-- two levels of few boxes have few edges
few_edges : (n : Scale) (bases heads : List Owned) → length bases ≤ 4194304 → length heads ≤ 4194304 → length (true_overlaps n bases heads) ≤ 474989023199232
few_edges n bases heads b h =
    let wide : length heads * 27 ≤ 113246208 = omega (arith, h) in
    let product : length bases * (length heads * 27) ≤ 4194304 * 113246208 = mul-le-mul b wide in
    let all = few_overlaps n bases heads in
    omega (arith, product, all)

module _ (p : Fields) (ranks : ℕ) (mesh : ℕ → List (List Owned)) (letters : ℕ → ℕ) (is : IsProblem p) (are : AreMeshes p ranks mesh) where
  few_levels : length (after p ranks mesh p.steps).levels ≤ 5
  few_levels =
      let sound = each_step_is_sound p ranks p.steps mesh (problems_have_ground p is) are in
      let count : length (after p ranks mesh p.steps).levels ≤ p.levels = subst (λ (v : List (List Owned)). length v ≤ p.levels) (sym sound.levels) (are.each p.steps).few in
      let most = is.levels.below in
      omega (arith, count, most)

  few_cells_at : (l : ℕ) → l < length (after p ranks mesh p.steps).levels → sum_by (λ b. cells_of b.bx) (level_at (after p ranks mesh p.steps).levels l) ≤ 4194304
  few_cells_at l less =
      let facts = few_in p ranks mesh letters is are p.steps l less in
      let few = facts.1 in
      let same = all_cells (level_at (after p ranks mesh p.steps).levels l) in
      omega (arith, few, same)

  few_boxes_at : (l : ℕ) → length (level_at (after p ranks mesh p.steps).levels l) ≤ 4194304
  few_boxes_at l = elim (cases_lt l (length (after p ranks mesh p.steps).levels)) [
    | inl less ↦
        let facts = few_in p ranks mesh letters is are p.steps l less in
        let cells = few_cells_at l less in
        let more = more_cells (level_at (after p ranks mesh p.steps).levels l) (λ b m. some_cells b.bx (facts.0.not_empty b m)) in
        omega (arith, cells, more)
    | inr past ↦ let none = ap length (beyond (after p ranks mesh p.steps).levels l past) in omega (arith, none)
  ]

  few_below : (l : ℕ) → edges_below p (after p ranks mesh p.steps).levels l ≤ 474989023199232
  few_below zero = omega arith
  few_below (suc l) = few_edges _ (level_at (after p ranks mesh p.steps).levels (suc l)) (level_at (after p ranks mesh p.steps).levels l) (few_boxes_at (suc l)) (few_boxes_at l)

  few_edges_at : (l : ℕ) → edges_of p (after p ranks mesh p.steps).levels l ≤ 1424967069597696
  few_edges_at l =
      let selves : length (edges_between p (after p ranks mesh p.steps).levels l l) ≤ 474989023199232 =
      few_edges _ (level_at (after p ranks mesh p.steps).levels l) (level_at (after p ranks mesh p.steps).levels l) (few_boxes_at l) (few_boxes_at l) in
      let ups : length (edges_between p (after p ranks mesh p.steps).levels l (l + 1)) ≤ 474989023199232 =
      few_edges _ (level_at (after p ranks mesh p.steps).levels l) (level_at (after p ranks mesh p.steps).levels (l + 1)) (few_boxes_at l) (few_boxes_at (l + 1)) in
      let downs = few_below l in
      omega (arith, selves, ups, downs)

  -- at most five levels of at most so many
  five : (f : ℕ → ℕ) (m : ℕ) → m ≤ 1424967069597696 → ((l : ℕ) → l < length (after p ranks mesh p.steps).levels → f l ≤ m) → sum_by f (range_with_len 0 (length (after p ranks mesh p.steps).levels)) < 2 ^ 63
  five f m small each =
      let n = length (after p ranks mesh p.steps).levels in
      let all = sum_by-le f m (range_with_len 0 n) (All-from_members (λ l. f l ≤ m) (range_with_len 0 n) (λ l k. each l (in_range n l k))) in
      let count = length-range_with_len 0 n in
      let short : length (range_with_len 0 n) ≤ 5 = let few = few_levels in omega (arith, count, few) in
      let product : length (range_with_len 0 n) * m ≤ 5 * 1424967069597696 = mul-le-mul short small in
      omega (arith, all, product)

  can_sum : sum_by letters (range_with_len 0 ranks) < 2 ^ 63 → CanSum p (map (λ rank. run_rows p ranks mesh letters rank) (range_with_len 0 ranks))
  can_sum few =
      let boxes = boxes_merge p ranks mesh letters is are in
      let cells = cells_merge p ranks mesh letters is are in
      let edges = edges_merge p ranks mesh letters is are in
      let sent = sum_map (λ (q : RankRows). q.letters) (λ rank. run_rows p ranks mesh letters rank) (range_with_len 0 ranks) in
      let few_boxes = five (λ l. length (level_at (after p ranks mesh p.steps).levels l)) 4194304 (omega arith) (λ l less. few_boxes_at l) in
      let few_cells = five (λ l. sum_by (λ b. cells_of b.bx) (level_at (after p ranks mesh p.steps).levels l)) 4194304 (omega arith) (λ l less. few_cells_at l less) in
      let few_edges = five (λ l. edges_of p (after p ranks mesh p.steps).levels l) 1424967069597696 (omega arith) (λ l less. few_edges_at l) in
      record { boxes = omega (arith, boxes, few_boxes); cells = omega (arith, cells, few_cells); edges = omega (arith, edges, few_edges); letters = omega (arith, sent, few) }

pub runs_can_be_summed : RunsCanBeSummed
runs_can_be_summed p ranks mesh letters rows is are few = subst (λ (v : List RankRows). CanSum p v) (sym are.are) (can_sum p ranks mesh letters is are.meshes few)
