-- The rows of all ranks give the report.
use Rattle.std.proofs.Common.{◌≡◌, ℕ, zero, suc, ◌+◌, ◌-◌, ◌<◌, refl, sym, ap, ◌∙◌, subst, inl, inr, arith, length, get_or, Some, None, slice_get}
use Rattle.std.proofs.lemmas.List.FromFn.{get_or-map-range_with_len, length-map-range_with_len}
use Rattle.std.proofs.lemmas.List.Folds.{flat_map-map}
use Rattle.std.proofs.lemmas.List.Concat.{length-flat_map}
use Rattle.std.proofs.lemmas.List.Sums.{sum_by-append, sum_by-cons}
use Rattle.std.proofs.lemmas.Simd.{map-map}
use Rattle.std.specs.Prelude.{Bool, true, false, ◌||◌, nat_eq, if◌then◌else◌, pos, List, [], ◌∷◌, ◌++◌, map, sum_by, codes, Option}
use Rattle.std.specs.List.{flat_map, range_with_len, enumerate_from, list_any}
use Rattle.samr_box.specs.declared.vector.IVec.{IVec}
use Rattle.samr_box.specs.Corners.{cells_of, holds}
use Rattle.samr_box.specs.Space.{is_zero}
use Rattle.samr_box.specs.Lists.{Member}
use Rattle.samr_box.proofs.Members.{Member-filter, Member-from_filter}
use Rattle.std.proofs.lemmas.Bool.{eq-eqb}
use Rattle.samr_level.specs.Refs.{Owned}
use Rattle.samr_level.specs.Regions.{Area}
use Rattle.samr_level.specs.Levels.{IsLevel, own}
use Rattle.samr_level.specs.Overlaps.{of_rank}
use Rattle.samr_level.proofs.BlockCells.{Member-range, Member-from_range}
use Rattle.samr_data.proofs.PlaceLaws.{same_test}
use Rattle.samr_fill.proofs.Insides.{any_member, member_any}
use Rattle.samr_fill.proofs.Numbered.{numbered_at, none_some, some_same}
use Rattle.samr_values.specs.Patches.{has}
use Rattle.samr_problem.specs.declared.probe.Probe.{Probe}
use Rattle.samr_problem.specs.Fields.{Fields}
use Rattle.samr_mesh.specs.Domains.{area_at}
use Rattle.samr_mesh.specs.Meshes.{level_at}
use Rattle.samr_hierarchy.specs.Hierarchies.{Hierarchy, scheduling}
use Rattle.samr_hierarchy.specs.Passes.{after}
use Rattle.samr_report.specs.Lines.{part, line}
use Rattle.samr_report.specs.LevelLines.{level_line, box_line, edge_line, edge_lines}
use Rattle.samr_report.specs.ScheduleLines.{headed, row_line, row_lines}
use Rattle.samr_report.specs.ValueLines.{sum_at, sum_line, sum_lines, probe_line, probe_lines}
use Rattle.samr_report.specs.Report.{first_line, edges_between, told_edges, edges_below, level_text, mesh_text, is_told, step_text, report}
use Rattle.samr_report.specs.declared.rows.LevelRows.{LevelRows}
use Rattle.samr_report.specs.declared.rows.BoxSum.{BoxSum}
use Rattle.samr_report.specs.declared.rows.StepRows.{StepRows}
use Rattle.samr_report.specs.declared.rows.RankRows.{RankRows}
use Rattle.samr_report.specs.RankRows.{no_level_rows, no_step_rows, downs_of, level_rows, sums_of, probed, step_rows, level_text_by, sum_line_by, first_some, told_value, probe_line_by, level_count, step_text_by, step_told, report_by, run_rows, RowsGiveTheReport}
use Rattle.samr_report.proofs.LinesByRank.{box_lines_merge, edge_lines_merge, row_lines_merge, level_of_ranks}

pub flat_map_same : {X Y : Type 0} (f g : X → List Y) (xs : List X) → ((x : X) → Member x xs → f x ≡ g x) → flat_map f xs ≡ flat_map g xs
flat_map_same f g [] h = refl
flat_map_same f g (x ∷ xs) h = ap (λ t. t ++ flat_map f xs) (h x (inl refl)) ∙ ap (λ t. g x ++ t) (flat_map_same f g xs (λ y m. h y (inr m)))

pub map_same : {X Y : Type 0} (f g : X → Y) (xs : List X) → ((x : X) → Member x xs → f x ≡ g x) → map f xs ≡ map g xs
map_same f g [] h = refl
map_same f g (x ∷ xs) h = ap (λ y. y ∷ map f xs) (h x (inl refl)) ∙ ap (λ ys. g x ∷ ys) (map_same f g xs (λ y m. h y (inr m)))

pub sum_map : {X Y : Type 0} (g : Y → ℕ) (f : X → Y) (xs : List X) → sum_by g (map f xs) ≡ sum_by (λ x. g (f x)) xs
sum_map g f [] = refl
sum_map g f (x ∷ xs) = sum_by-cons g (f x) (map f xs) ∙ ap (λ n. g (f x) + n) (sum_map g f xs) ∙ sym (sum_by-cons (λ x. g (f x)) x xs)

pub sum_flat : {X Y : Type 0} (g : Y → ℕ) (f : X → List Y) (xs : List X) → sum_by (λ x. sum_by g (f x)) xs ≡ sum_by g (flat_map f xs)
sum_flat g f [] = refl
sum_flat g f (x ∷ xs) = sum_by-cons (λ x. sum_by g (f x)) x xs ∙ ap (λ n. sum_by g (f x) + n) (sum_flat g f xs) ∙ sym (sum_by-append g (f x) (flat_map f xs))

flat_nothing : {X Y : Type 0} (xs : List X) → flat_map (λ x. let none : List Y = [] in none) xs ≡ []
flat_nothing [] = refl
flat_nothing (x ∷ xs) = flat_nothing xs

-- a text of eight pieces
eight : (l : ℕ) (n n' c c' : ℕ) (a a' s s' d d' u u' r r' : List ℕ) → n ≡ n' → c ≡ c' → a ≡ a' → s ≡ s' → d ≡ d' → u ≡ u' → r ≡ r'
    → part (codes "level") (pos l ∷ []) ++ part (codes " boxes") (pos n ∷ []) ++ line (codes " cells") (pos c ∷ []) ++ a ++ s ++ d ++ u ++ r
    ≡ part (codes "level") (pos l ∷ []) ++ part (codes " boxes") (pos n' ∷ []) ++ line (codes " cells") (pos c' ∷ []) ++ a' ++ s' ++ d' ++ u' ++ r'
eight l n n' c c' a a' s s' d d' u u' r r' en ec ea es ed eu er =
    let head = part (codes "level") (pos l ∷ []) in
    ap (λ v. head ++ part (codes " boxes") (pos v ∷ []) ++ line (codes " cells") (pos c ∷ []) ++ a ++ s ++ d ++ u ++ r) en
    ∙ ap (λ v. head ++ part (codes " boxes") (pos n' ∷ []) ++ line (codes " cells") (pos v ∷ []) ++ a ++ s ++ d ++ u ++ r) ec
    ∙ ap (λ v. head ++ part (codes " boxes") (pos n' ∷ []) ++ line (codes " cells") (pos c' ∷ []) ++ v ++ s ++ d ++ u ++ r) ea
    ∙ ap (λ v. head ++ part (codes " boxes") (pos n' ∷ []) ++ line (codes " cells") (pos c' ∷ []) ++ a' ++ v ++ d ++ u ++ r) es
    ∙ ap (λ v. head ++ part (codes " boxes") (pos n' ∷ []) ++ line (codes " cells") (pos c' ∷ []) ++ a' ++ s' ++ v ++ u ++ r) ed
    ∙ ap (λ v. head ++ part (codes " boxes") (pos n' ∷ []) ++ line (codes " cells") (pos c' ∷ []) ++ a' ++ s' ++ d' ++ v ++ r) eu
    ∙ ap (λ v. head ++ part (codes " boxes") (pos n' ∷ []) ++ line (codes " cells") (pos c' ∷ []) ++ a' ++ s' ++ d' ++ u' ++ v) er

module _ (p : Fields) (ranks : ℕ) (levels : List (List Owned)) (are : (l : ℕ) → IsLevel (area_at p l) ranks (level_at levels l)) where
  -- edges of all ranks
  edges_merge : (l m : ℕ) → flat_map (λ r. edge_lines l m (of_rank r (edges_between p levels l m))) (range_with_len 0 ranks) ≡ edge_lines l m (edges_between p levels l m)
  unfolding edge_lines
  edges_merge l m = edge_lines_merge (edge_line l m) _ (area_at p l) (area_at p m) ranks (level_at levels l) (level_at levels m) (are l) (are m)

  no_edges : (l m r : ℕ) → edge_lines l m (of_rank r []) ≡ []
  unfolding edge_lines of_rank
  no_edges l m r = refl

  downs_merge : (l : ℕ) → (if is_zero p.width then [] else flat_map (λ r. edge_lines l (l - 1) (of_rank r (downs_of p levels l))) (range_with_len 0 ranks)) ≡ edges_below p levels l
  unfolding told_edges
  downs_merge zero = both (is_zero p.width)
    where
      none : flat_map (λ r. edge_lines 0 (0 - 1) (of_rank r [])) (range_with_len 0 ranks) ≡ []
      none = flat_map_same (λ r. edge_lines 0 (0 - 1) (of_rank r [])) (λ r. []) (range_with_len 0 ranks) (λ r m. no_edges 0 (0 - 1) r) ∙ flat_nothing (range_with_len 0 ranks)

      both : (t : Bool) → (if t then [] else flat_map (λ r. edge_lines 0 (0 - 1) (of_rank r [])) (range_with_len 0 ranks)) ≡ []
      both true = refl
      both false = none
  downs_merge (suc l) =
      let e : suc l - 1 ≡ l = omega arith in
      ap (λ (m : ℕ). if is_zero p.width then [] else flat_map (λ r. edge_lines (suc l) m (of_rank r (edges_between p levels (suc l) l))) (range_with_len 0 ranks)) e
      ∙ ap (λ (t : List ℕ). if is_zero p.width then [] else t) (edges_merge (suc l) l)

  level_merges : (l : ℕ) → level_text_by (is_zero p.width) l (map (λ r. level_rows p ranks levels r l) (range_with_len 0 ranks)) ≡ level_text p ranks levels l
  unfolding level_text_by level_rows level_text level_line told_edges
  level_merges l =
      let R = range_with_len 0 ranks in
      let rows = λ (r : ℕ). level_rows p ranks levels r l in
      let all = level_of_ranks (area_at p l) ranks (level_at levels l) (are l) in
      eight l
      (sum_by (λ (q : LevelRows). length q.boxes) (map rows R)) (length (level_at levels l))
      (sum_by (λ (q : LevelRows). sum_by (λ b. cells_of b.bx) q.boxes) (map rows R)) (sum_by (λ b. cells_of b.bx) (level_at levels l))
      (flat_map (λ (q : LevelRows). flat_map (λ b. box_line l b) q.boxes) (map rows R)) (flat_map (λ b. box_line l b) (level_at levels l))
      (if is_zero p.width then [] else flat_map (λ (q : LevelRows). edge_lines l l q.selves) (map rows R)) (if is_zero p.width then [] else edge_lines l l (edges_between p levels l l))
      (if is_zero p.width then [] else flat_map (λ (q : LevelRows). edge_lines l (l - 1) q.downs) (map rows R)) (edges_below p levels l)
      (if is_zero p.width then [] else flat_map (λ (q : LevelRows). edge_lines l (l + 1) q.ups) (map rows R)) (if is_zero p.width then [] else edge_lines l (l + 1) (edges_between p levels l (l + 1)))
      (flat_map (λ (q : LevelRows). flat_map (λ row. row_line l row) q.rows) (map rows R)) (row_lines l (scheduling p ranks levels l))
      (sum_map (λ (q : LevelRows). length q.boxes) rows R ∙ sym (length-flat_map (λ r. own r (level_at levels l)) R) ∙ ap length all)
      (sum_map (λ (q : LevelRows). sum_by (λ b. cells_of b.bx) q.boxes) rows R ∙ sum_flat (λ b. cells_of b.bx) (λ r. own r (level_at levels l)) R ∙ ap (sum_by (λ b. cells_of b.bx)) all)
      (flat_map-map (λ (q : LevelRows). flat_map (λ b. box_line l b) q.boxes) rows R ∙ box_lines_merge (λ b. box_line l b) (area_at p l) ranks (level_at levels l) (are l))
      (ap (λ (t : List ℕ). if is_zero p.width then [] else t) (flat_map-map (λ (q : LevelRows). edge_lines l l q.selves) rows R ∙ edges_merge l l))
      (ap (λ (t : List ℕ). if is_zero p.width then [] else t) (flat_map-map (λ (q : LevelRows). edge_lines l (l - 1) q.downs) rows R) ∙ downs_merge l)
      (ap (λ (t : List ℕ). if is_zero p.width then [] else t) (flat_map-map (λ (q : LevelRows). edge_lines l (l + 1) q.ups) rows R ∙ edges_merge l (l + 1)))
      (flat_map-map (λ (q : LevelRows). flat_map (λ row. row_line l row) q.rows) rows R ∙ row_lines_merge l ranks (area_at p l) (scheduling p ranks levels l) (are l))

-- what the ranks have at a probe
first_of : (test : ℕ → Bool) (v : ℕ) (rs : List ℕ) → first_some (map (λ r. if test r then Some v else None) rs) ≡ (if list_any test rs then Some v else None)
first_of test v [] = refl
first_of test v (r ∷ rs) = by (test r) (first_of test v rs)
  where
    by : (t : Bool) → first_some (map (λ r. if test r then Some v else None) rs) ≡ (if list_any test rs then Some v else None)
        → first_some ((if t then Some v else None) ∷ map (λ r. if test r then Some v else None) rs) ≡ (if t || list_any test rs then Some v else None)
    by true rest = refl
    by false rest = rest

one_has : (area : Area) (ranks : ℕ) (level : List Owned) (x : IVec) → IsLevel area ranks level → list_any (λ r. has (own r level) x) (range_with_len 0 ranks) ≡ has level x
unfolding own
one_has area ranks level x is =
    same_test (list_any (λ r. has (own r level) x) (range_with_len 0 ranks)) (has level x)
    (λ t.
    let r = member_any (λ r. has (own r level) x) (range_with_len 0 ranks) t in
    let b = member_any (λ (o : Owned). holds o.bx x) (own r.0 level) r.2 in
    any_member (λ (o : Owned). holds o.bx x) b.0 level (Member-from_filter _ b.0 level b.1).0 b.2)
    (λ t.
    let b = member_any (λ (o : Owned). holds o.bx x) level t in
    let below = is.owners b.0 b.1 in
    any_member (λ r. has (own r level) x) b.0.owner (range_with_len 0 ranks) (Member-range b.0.owner 0 ranks (omega arith) (omega (arith, below)))
    (any_member (λ (o : Owned). holds o.bx x) b.0 (own b.0.owner level) (Member-filter (λ o. nat_eq o.owner b.0.owner) b.0 level b.1 (eq-eqb b.0.owner b.0.owner refl)) b.2))

told_by : (t : Bool) (v : ℕ) → told_value (if t then Some v else None) ≡ (if t then line [] (pos v ∷ []) else line (codes " none") [])
told_by true v = refl
told_by false v = refl

mapped_item : {X Y : Type 0} (f : X → Y) (xs : List X) (n : ℕ) (x : X) (d : Y) → slice_get xs n ≡ Some x → get_or (map f xs) n d ≡ f x
mapped_item f [] n x d e = absurd (none_some e)
mapped_item f (y ∷ ys) zero x d e = ap f (some_same e)
mapped_item f (y ∷ ys) (suc n) x d e = mapped_item f ys n x d e

pub in_range : (n k : ℕ) → Member k (range_with_len 0 n) → k < n
in_range n k m = let b = (Member-from_range k 0 n m).1 in omega (arith, b)

pub at_range : {X : Type 0} (f : ℕ → X) (n k : ℕ) (d : X) → k < n → get_or (map f (range_with_len 0 n)) k d ≡ f k
at_range f n k d less = let e : 0 + k ≡ k = omega arith in get_or-map-range_with_len f 0 n k k d less e

module _ (p : Fields) (ranks t : ℕ) (h : Hierarchy) (some : 0 < ranks) (are : (l : ℕ) → IsLevel (area_at p l) ranks (level_at h.levels l)) where
  -- the sums
  sums_same : (r f l : ℕ) → f < length p.fields → l < length h.levels → get_or (get_or (step_rows p ranks t h r).sums f []) l [] ≡ sums_of h r f l
  unfolding step_rows
  sums_same r f l fields less =
      ap (λ (v : List (List BoxSum)). get_or v l []) (at_range (λ f. map (λ l. sums_of h r f l) (range_with_len 0 (length h.levels))) (length p.fields) f [] fields)
      ∙ at_range (λ l. sums_of h r f l) (length h.levels) l [] less

  sum_lines_of : (r f l : ℕ) → flat_map (λ s. sum_line_by f l s) (sums_of h r f l) ≡ flat_map (λ b. sum_line h f l b) (own r (level_at h.levels l))
  unfolding sum_line_by sum_line
  sum_lines_of r f l = flat_map-map (λ s. sum_line_by f l s) (λ (b : Owned). let s : BoxSum = record { base = b; sum = sum_at h f l b } in s) (own r (level_at h.levels l))

  sums_merge : (f l : ℕ) → f < length p.fields → l < length h.levels
      → flat_map (λ q. flat_map (λ s. sum_line_by f l s) (get_or (get_or q.sums f []) l [])) (map (λ r. step_rows p ranks t h r) (range_with_len 0 ranks))
      ≡ flat_map (λ b. sum_line h f l b) (level_at h.levels l)
  sums_merge f l fields less =
      flat_map-map (λ (q : StepRows). flat_map (λ s. sum_line_by f l s) (get_or (get_or q.sums f []) l [])) (λ r. step_rows p ranks t h r) (range_with_len 0 ranks)
      ∙ flat_map_same (λ r. flat_map (λ s. sum_line_by f l s) (get_or (get_or (step_rows p ranks t h r).sums f []) l [])) (λ r. flat_map (λ b. sum_line h f l b) (own r (level_at h.levels l))) (range_with_len 0 ranks)
      (λ r m. ap (λ (v : List BoxSum). flat_map (λ s. sum_line_by f l s) v) (sums_same r f l fields less) ∙ sum_lines_of r f l)
      ∙ box_lines_merge (λ b. sum_line h f l b) (area_at p l) ranks (level_at h.levels l) (are l)

  -- the probes
  probes_same : (r f : ℕ) (e : ℕ × Probe) → f < length p.fields → slice_get p.probes e.0 ≡ Some e.1
      → get_or (get_or (step_rows p ranks t h r).probes f []) e.0 None ≡ (if has (own r (level_at h.levels e.1.level)) e.1.cell then Some (h.values e.1.level f e.1.cell) else None)
  unfolding step_rows
  probes_same r f e fields there =
      ap (λ (v : List (Option ℕ)). get_or v e.0 None) (at_range (λ f. probed p h r f) (length p.fields) f [] fields)
      ∙ mapped_item (λ (q : Probe). if has (own r (level_at h.levels q.level)) q.cell then Some (h.values q.level f q.cell) else None) p.probes e.0 e.1 None there

  probe_merges : (f : ℕ) (e : ℕ × Probe) → f < length p.fields → slice_get p.probes e.0 ≡ Some e.1
      → probe_line_by f e.0 (first_some (map (λ q. get_or (get_or q.probes f []) e.0 None) (map (λ r. step_rows p ranks t h r) (range_with_len 0 ranks)))) ≡ probe_line h f e
  unfolding probe_line_by probe_line
  probe_merges f e fields there =
      let level = level_at h.levels e.1.level in
      let v = h.values e.1.level f e.1.cell in
      ap (λ (o : List (Option ℕ)). headed f (codes "probe") e.0 ++ told_value (first_some o))
      (map-map (λ (q : StepRows). get_or (get_or q.probes f []) e.0 None) (λ r. step_rows p ranks t h r) (range_with_len 0 ranks)
      ∙ map_same (λ r. get_or (get_or (step_rows p ranks t h r).probes f []) e.0 None) (λ r. if has (own r level) e.1.cell then Some v else None) (range_with_len 0 ranks)
      (λ r m. probes_same r f e fields there))
      ∙ ap (λ (o : Option ℕ). headed f (codes "probe") e.0 ++ told_value o) (first_of (λ r. has (own r level) e.1.cell) v (range_with_len 0 ranks))
      ∙ ap (λ (u : Bool). headed f (codes "probe") e.0 ++ told_value (if u then Some v else None)) (one_has (area_at p e.1.level) ranks level e.1.cell (are e.1.level))
      ∙ ap (λ (o : List ℕ). headed f (codes "probe") e.0 ++ o) (told_by (has level e.1.cell) v)

  -- the mesh
  pub count_is : level_count (map (λ r. step_rows p ranks t h r) (range_with_len 0 ranks)) ≡ length h.levels
  unfolding step_rows
  count_is = ap (λ (q : StepRows). q.levels) (at_range (λ r. step_rows p ranks t h r) ranks 0 no_step_rows some)

  mesh_at : (r l : ℕ) → is_told p t ≡ true → l < length h.levels → get_or (step_rows p ranks t h r).mesh l no_level_rows ≡ level_rows p ranks h.levels r l
  unfolding step_rows
  mesh_at r l told less =
      ap (λ (u : Bool). get_or (if u then map (λ l. level_rows p ranks h.levels r l) (range_with_len 0 (length h.levels)) else []) l no_level_rows) told
      ∙ at_range (λ l. level_rows p ranks h.levels r l) (length h.levels) l no_level_rows less

  mesh_merges : is_told p t ≡ true
      → flat_map (λ l. level_text_by (is_zero p.width) l (map (λ q. get_or q.mesh l no_level_rows) (map (λ r. step_rows p ranks t h r) (range_with_len 0 ranks)))) (range_with_len 0 (length h.levels)) ≡ mesh_text p ranks h.levels
  unfolding mesh_text
  mesh_merges told =
      flat_map_same (λ l. level_text_by (is_zero p.width) l (map (λ q. get_or q.mesh l no_level_rows) (map (λ r. step_rows p ranks t h r) (range_with_len 0 ranks)))) (λ l. level_text p ranks h.levels l) (range_with_len 0 (length h.levels))
      (λ l m.
      ap (λ (parts : List LevelRows). level_text_by (is_zero p.width) l parts)
      (map-map (λ (q : StepRows). get_or q.mesh l no_level_rows) (λ r. step_rows p ranks t h r) (range_with_len 0 ranks)
      ∙ map_same (λ r. get_or (step_rows p ranks t h r).mesh l no_level_rows) (λ r. level_rows p ranks h.levels r l) (range_with_len 0 ranks) (λ r k. mesh_at r l told (in_range (length h.levels) l m)))
      ∙ level_merges p ranks h.levels are l)

  told_merges : (u : Bool) → is_told p t ≡ u
      → (if u then flat_map (λ l. level_text_by (is_zero p.width) l (map (λ q. get_or q.mesh l no_level_rows) (map (λ r. step_rows p ranks t h r) (range_with_len 0 ranks)))) (range_with_len 0 (length h.levels)) else [])
      ≡ (if u then mesh_text p ranks h.levels else [])
  told_merges true told = mesh_merges told
  told_merges false told = refl

  all_sums : flat_map (λ f. flat_map (λ l. flat_map (λ q. flat_map (λ s. sum_line_by f l s) (get_or (get_or q.sums f []) l [])) (map (λ r. step_rows p ranks t h r) (range_with_len 0 ranks))) (range_with_len 0 (length h.levels)))
      (range_with_len 0 (length p.fields)) ≡ sum_lines p h
  unfolding sum_lines
  all_sums =
      flat_map_same _ _ (range_with_len 0 (length p.fields))
      (λ f m. flat_map_same _ _ (range_with_len 0 (length h.levels)) (λ l k. sums_merge f l (in_range (length p.fields) f m) (in_range (length h.levels) l k)))

  all_probes : flat_map (λ f. flat_map (λ e. probe_line_by f e.0 (first_some (map (λ q. get_or (get_or q.probes f []) e.0 None) (map (λ r. step_rows p ranks t h r) (range_with_len 0 ranks))))) (enumerate_from 0 p.probes))
      (range_with_len 0 (length p.fields)) ≡ probe_lines p h
  unfolding probe_lines
  all_probes =
      flat_map_same _ _ (range_with_len 0 (length p.fields))
      (λ f m.
      flat_map_same _ _ (enumerate_from 0 p.probes)
      (λ e k.
      let i = numbered_at 0 p.probes e k in
      let here = i.1 in
      let same : i.0 ≡ e.0 = omega (arith, here) in
      probe_merges f e (in_range (length p.fields) f m) (subst (λ (n : ℕ). slice_get p.probes n ≡ Some e.1) same i.2)))

  pub step_merges : step_text_by p t (map (λ r. step_rows p ranks t h r) (range_with_len 0 ranks)) ≡ step_text p ranks t h
  unfolding step_text_by step_text
  step_merges =
      let parts = map (λ r. step_rows p ranks t h r) (range_with_len 0 ranks) in
      let head = line (codes "step") (pos t ∷ []) in
      ap (λ (n : ℕ). head
      ++ (if is_told p t then flat_map (λ l. level_text_by (is_zero p.width) l (map (λ q. get_or q.mesh l no_level_rows) parts)) (range_with_len 0 n) else [])
      ++ flat_map (λ f. flat_map (λ l. flat_map (λ q. flat_map (λ s. sum_line_by f l s) (get_or (get_or q.sums f []) l [])) parts) (range_with_len 0 n)) (range_with_len 0 (length p.fields))
      ++ flat_map (λ f. flat_map (λ e. probe_line_by f e.0 (first_some (map (λ q. get_or (get_or q.probes f []) e.0 None) parts))) (enumerate_from 0 p.probes)) (range_with_len 0 (length p.fields))) count_is
      ∙ ap (λ (v : List ℕ). head ++ v
      ++ flat_map (λ f. flat_map (λ l. flat_map (λ q. flat_map (λ s. sum_line_by f l s) (get_or (get_or q.sums f []) l [])) parts) (range_with_len 0 (length h.levels))) (range_with_len 0 (length p.fields))
      ++ flat_map (λ f. flat_map (λ e. probe_line_by f e.0 (first_some (map (λ q. get_or (get_or q.probes f []) e.0 None) parts))) (enumerate_from 0 p.probes)) (range_with_len 0 (length p.fields))) (told_merges (is_told p t) refl)
      ∙ ap (λ (v : List ℕ). head ++ (if is_told p t then mesh_text p ranks h.levels else []) ++ v
      ++ flat_map (λ f. flat_map (λ e. probe_line_by f e.0 (first_some (map (λ q. get_or (get_or q.probes f []) e.0 None) parts))) (enumerate_from 0 p.probes)) (range_with_len 0 (length p.fields))) all_sums
      ∙ ap (λ (v : List ℕ). head ++ (if is_told p t then mesh_text p ranks h.levels else []) ++ sum_lines p h ++ v) all_probes

-- what all ranks of a run tell of a step
pub parts_at : (p : Fields) (ranks t : ℕ) (mesh : ℕ → List (List Owned)) (letters : ℕ → ℕ) → t < p.steps + 1
    → map (λ q. step_told t q) (map (λ rank. run_rows p ranks mesh letters rank) (range_with_len 0 ranks)) ≡ map (λ rank. step_rows p ranks t (after p ranks mesh t) rank) (range_with_len 0 ranks)
parts_at p ranks t mesh letters less =
    map-map (λ (q : RankRows). step_told t q) (λ rank. run_rows p ranks mesh letters rank) (range_with_len 0 ranks)
    ∙ map_same (λ rank. step_told t (run_rows p ranks mesh letters rank)) (λ rank. step_rows p ranks t (after p ranks mesh t) rank) (range_with_len 0 ranks)
    (λ rank k. at_range (λ t. step_rows p ranks t (after p ranks mesh t) rank) (p.steps + 1) t no_step_rows less)

pub rows_give_the_report : RowsGiveTheReport
unfolding report_by report
rows_give_the_report p ranks mesh letters some are =
    let rows = map (λ rank. run_rows p ranks mesh letters rank) (range_with_len 0 ranks) in
    let last = line (codes "end") [] in
    ap (λ (n : ℕ). first_line p n ++ flat_map (λ t. step_text_by p t (map (λ q. step_told t q) rows)) (range_with_len 0 (p.steps + 1)) ++ last)
    (length-map-range_with_len (λ rank. run_rows p ranks mesh letters rank) 0 ranks)
    ∙ ap (λ (v : List ℕ). first_line p ranks ++ v ++ last)
    (flat_map_same (λ t. step_text_by p t (map (λ q. step_told t q) rows)) (λ t. step_text p ranks t (after p ranks mesh t)) (range_with_len 0 (p.steps + 1))
    (λ t m.
    ap (λ (parts : List StepRows). step_text_by p t parts) (parts_at p ranks t mesh letters (in_range (p.steps + 1) t m))
    ∙ step_merges p ranks t (after p ranks mesh t) some (are t)))
