-- What the lines of a report of the grammar tell: its meshes, one after another.
use Rattle.std.proofs.Common.{◌≡◌, ℕ, suc, ◌+◌, ◌≤◌, List, [], ◌∷◌, ◌++◌, map, length, Bool, true, false, Option, Some, None, refl, sym, ap, subst, ◌∙◌, append_assoc, append-nil, length-append, inl, inr, arith}
use Rattle.std.specs.Prelude.{◌==◌, ◌⊎◌, sum_by, if◌then◌else◌, fold}
use Rattle.std.proofs.lemmas.Bool.{false≢true, eq-eqb, ne_eqb, le-leb}
use Rattle.std.proofs.lemmas.List.{length-map}
use Rattle.std.specs.List.{flat_map, enumerate_from}
use Rattle.samr_box.specs.Lists.{Member}
use Rattle.samr_level.specs.Refs.{Owned, Link}
use Rattle.samr_problem.specs.Fields.{Fields}
use Rattle.samr_verify.specs.declared.fault.Fault.{Fault}
use Rattle.samr_verify.specs.declared.gathering.Gathered.{Gathered}
use Rattle.samr_verify.specs.declared.line.Line.{Line}
use Rattle.samr_verify.specs.declared.line.Line.TheVariants.{First, Step, LevelOf, BoxOf, EdgeOf, RowOf, SumOf, ProbeOf, End}
use Rattle.samr_verify.specs.declared.line.PrintedRow.{PrintedRow}
use Rattle.samr_verify.specs.declared.printed.PrintedBox.{PrintedBox}
use Rattle.samr_verify.specs.declared.printed.PrintedEdge.{PrintedEdge}
use Rattle.samr_verify.specs.declared.printed.PrintedLevel.{PrintedLevel}
use Rattle.samr_verify.specs.Faults.{or_earlier, first_of}
use Rattle.samr_verify.specs.MeshFaults.{mesh_fault}
use Rattle.samr_verify.specs.Form.{LevelPart, StepPart, Report, level_lines, step_lines, report_lines, is_sum, is_probe, IsStepPart, IsReport}
use Rattle.samr_verify.specs.Gathering.{nothing, ranks_of, begun, with_box, with_edge, joined, checked, ended_by, ended, taken, gathered}
use Rattle.samr_verify.specs.declared.verdict.Verdict.TheVariants.{Sound}
use Rattle.samr_verify.specs.Standing.{told_by, told}
use Rattle.samr_verify.specs.Verdicts.{printed_level, printed_levels, mesh_at, meshes_from, meshes, is_headed, verdict_by, verdict}
use Rattle.std.proofs.lemmas.List.{map-append}
use Rattle.samr_verify.proofs.Steps.{fold-append}
use Rattle.std.proofs.lemmas.List.Sums.{sum_by-append}

-- lines that each have a meaning
abbrev pub meant : List Line → List (Option Line)
meant lines = map (λ (l : Line). Some l) lines

-- some lines, and then others
gathered-append : (p : Fields) (g : Gathered) (n : ℕ) (xs ys : List Line) → gathered p g n (meant (xs ++ ys)) ≡ gathered p (gathered p g n (meant xs)) (n + length xs) (meant ys)
unfolding gathered
gathered-append p g n [] ys = let here : n ≡ n + 0 = omega arith in ap (λ k. gathered p g k (meant ys)) here
gathered-append p g n (x ∷ xs) ys =
    let here : n + 1 + length xs ≡ n + length (x ∷ xs) = omega arith in
    gathered-append p (taken p g n x) (n + 1) xs ys ∙ ap (λ k. gathered p (gathered p (taken p g n x) (n + 1) (meant xs)) k (meant ys)) here

-- boxes, edges, and lines that tell nothing of the mesh
abbrev numbered_boxes : ℕ → List Owned → List PrintedBox
numbered_boxes n bs = map (λ b. record { line = b.0; at = b.1 }) (enumerate_from n bs)

abbrev numbered_edges : ℕ → List (ℕ × Link) → List PrintedEdge
numbered_edges n es = map (λ d. record { line = d.0; to_level = d.1.0; edge = d.1.1 }) (enumerate_from n es)

abbrev with_boxes : PrintedLevel → ℕ → List Owned → PrintedLevel
with_boxes v n bs = record {
  line = v.line;
  boxes_told = v.boxes_told;
  cells_told = v.cells_told;
  boxes = v.boxes ++ numbered_boxes n bs;
  edges = v.edges;
  after = n + length bs;
}

abbrev with_edges : PrintedLevel → ℕ → List (ℕ × Link) → PrintedLevel
with_edges v n es = record {
  line = v.line;
  boxes_told = v.boxes_told;
  cells_told = v.cells_told;
  boxes = v.boxes;
  edges = v.edges ++ numbered_edges n es;
  after = n + length es;
}

-- what is known where a level goes on
abbrev going : Gathered → ℕ → ℕ → List PrintedLevel → PrintedLevel → Gathered
going g boxes edges levels v = record { ranks = g.ranks; fault = g.fault; meshes = g.meshes; boxes = boxes; edges = edges; levels = levels; level = Some v }

level_same : (v w : PrintedLevel) → v.line ≡ w.line → v.boxes_told ≡ w.boxes_told → v.cells_told ≡ w.cells_told → v.boxes ≡ w.boxes → v.edges ≡ w.edges → v.after ≡ w.after → v ≡ w
level_same v w a b c d e f = rw (← a, ← b, ← c, ← d, ← e, ← f) refl

module _ (p : Fields) (g : Gathered) where
  boxes_gathered : (k n boxes edges : ℕ) (levels : List PrintedLevel) (v : PrintedLevel) (bs : List Owned) → v.after ≡ n
      → gathered p (going g boxes edges levels v) n (meant (map (BoxOf k) bs)) ≡ going g (boxes + length bs) edges levels (with_boxes v n bs)
  unfolding gathered taken
  boxes_gathered k n boxes edges levels v [] here =
      let same : v ≡ with_boxes v n [] = level_same v (with_boxes v n []) refl refl refl (sym (append-nil v.boxes)) refl (omega (arith, here)) in
      let more : boxes ≡ boxes + 0 = omega arith in
      ap (λ m. going g m edges levels v) more ∙ ap (λ w. going g (boxes + 0) edges levels w) same
  boxes_gathered k n boxes edges levels v (b ∷ bs) here =
      let more : boxes + 1 + length bs ≡ boxes + length (b ∷ bs) = omega arith in
      let same : with_boxes (with_box v n b) (n + 1) bs ≡ with_boxes v n (b ∷ bs) =
      level_same (with_boxes (with_box v n b) (n + 1) bs) (with_boxes v n (b ∷ bs)) refl refl refl
      (append_assoc v.boxes (record { line = n; at = b } ∷ []) (numbered_boxes (n + 1) bs)) refl (omega arith) in
      boxes_gathered k (n + 1) (boxes + 1) edges levels (with_box v n b) bs refl
      ∙ ap (λ m. going g m edges levels (with_boxes (with_box v n b) (n + 1) bs)) more ∙ ap (λ w. going g (boxes + length (b ∷ bs)) edges levels w) same

  edges_gathered : (k n boxes edges : ℕ) (levels : List PrintedLevel) (v : PrintedLevel) (es : List (ℕ × Link)) → v.after ≡ n
      → gathered p (going g boxes edges levels v) n (meant (map (λ d. EdgeOf k d.0 d.1) es)) ≡ going g boxes (edges + length es) levels (with_edges v n es)
  unfolding gathered taken
  edges_gathered k n boxes edges levels v [] here =
      let same : v ≡ with_edges v n [] = level_same v (with_edges v n []) refl refl refl refl (sym (append-nil v.edges)) (omega (arith, here)) in
      let more : edges ≡ edges + 0 = omega arith in
      ap (λ m. going g boxes m levels v) more ∙ ap (λ w. going g boxes (edges + 0) levels w) same
  edges_gathered k n boxes edges levels v (e ∷ es) here =
      let more : edges + 1 + length es ≡ edges + length (e ∷ es) = omega arith in
      let same : with_edges (with_edge v n e.0 e.1) (n + 1) es ≡ with_edges v n (e ∷ es) =
      level_same (with_edges (with_edge v n e.0 e.1) (n + 1) es) (with_edges v n (e ∷ es)) refl refl refl refl
      (append_assoc v.edges (record { line = n; to_level = e.0; edge = e.1 } ∷ []) (numbered_edges (n + 1) es)) (omega arith) in
      edges_gathered k (n + 1) boxes (edges + 1) levels (with_edge v n e.0 e.1) es refl
      ∙ ap (λ m. going g boxes m levels (with_edges (with_edge v n e.0 e.1) (n + 1) es)) more ∙ ap (λ w. going g boxes (edges + length (e ∷ es)) levels w) same

  rows_gathered : (k n : ℕ) (rows : List PrintedRow) → gathered p g n (meant (map (RowOf k) rows)) ≡ g
  unfolding gathered taken
  rows_gathered k n [] = refl
  rows_gathered k n (r ∷ rows) = rows_gathered k (n + 1) rows

silent_by : (p : Fields) (g : Gathered) (n : ℕ) (line : Line) → (is_sum line ≡ true) ⊎ (is_probe line ≡ true) → taken p g n line ≡ g
unfolding taken
silent_by p g n (SumOf f l b v) h = refl
silent_by p g n (ProbeOf f m v) h = refl
silent_by p g n (First r l w) (inl h) = absurd (false≢true h)
silent_by p g n (First r l w) (inr h) = absurd (false≢true h)
silent_by p g n (Step t) (inl h) = absurd (false≢true h)
silent_by p g n (Step t) (inr h) = absurd (false≢true h)
silent_by p g n (LevelOf l b c) (inl h) = absurd (false≢true h)
silent_by p g n (LevelOf l b c) (inr h) = absurd (false≢true h)
silent_by p g n (BoxOf l b) (inl h) = absurd (false≢true h)
silent_by p g n (BoxOf l b) (inr h) = absurd (false≢true h)
silent_by p g n (EdgeOf l m e) (inl h) = absurd (false≢true h)
silent_by p g n (EdgeOf l m e) (inr h) = absurd (false≢true h)
silent_by p g n (RowOf l r) h = refl
silent_by p g n End (inl h) = absurd (false≢true h)
silent_by p g n End (inr h) = absurd (false≢true h)

silent_gathered : (p : Fields) (g : Gathered) (n : ℕ) (lines : List Line) → ((line : Line) → Member line lines → (is_sum line ≡ true) ⊎ (is_probe line ≡ true))
    → gathered p g n (meant lines) ≡ g
unfolding gathered
silent_gathered p g n [] h = refl
silent_gathered p g n (line ∷ lines) h =
    ap (λ k. gathered p k (n + 1) (meant lines)) (silent_by p g n line (h line (inl refl))) ∙ silent_gathered p g (n + 1) lines (λ x m. h x (inr m))

-- a level
level_gathered : (p : Fields) (g : Gathered) (n : ℕ) (e : ℕ × LevelPart)
    → gathered p g n (meant (level_lines e)) ≡ going g (g.boxes + length e.1.boxes) (g.edges + length e.1.edges) (joined g.levels g.level) (printed_level n e)
unfolding gathered taken
level_gathered p g n e =
    let k = e.0 in
    let bs = e.1.boxes in
    let es = e.1.edges in
    let levels = joined g.levels g.level in
    let bl = map (BoxOf k) bs in
    let el = map (λ (d : ℕ × Link). EdgeOf k d.0 d.1) es in
    let rl = map (RowOf k) e.1.rows in
    let start = begun n e.1.boxes_told e.1.cells_told in
    let one = going g g.boxes g.edges levels start in
    let two = going g (g.boxes + length bs) g.edges levels (with_boxes start (n + 1) bs) in
    let long : n + 1 + length bl ≡ n + 1 + length bs = ap (λ m. n + 1 + m) (length-map bs (BoxOf k)) in
    gathered-append p one (n + 1) (bl ++ el) rl
    ∙ rows_gathered p (gathered p one (n + 1) (meant (bl ++ el))) k (n + 1 + length (bl ++ el)) e.1.rows
    ∙ gathered-append p one (n + 1) bl el
    ∙ ap (λ h. gathered p h (n + 1 + length bl) (meant el)) (boxes_gathered p g k (n + 1) g.boxes g.edges levels start bs refl)
    ∙ ap (λ m. gathered p two m (meant el)) long
    ∙ edges_gathered p g k (n + 1 + length bs) (g.boxes + length bs) g.edges levels (with_boxes start (n + 1) bs) es refl

-- what is known behind more levels of a mesh
abbrev box_count : List PrintedLevel → ℕ
box_count vs = sum_by (λ l. length l.boxes) vs

abbrev edge_count : List PrintedLevel → ℕ
edge_count vs = sum_by (λ l. length l.edges) vs

record Levels (g h : Gathered) (vs : List PrintedLevel) : Type 0 where
  ranks : h.ranks ≡ g.ranks
  fault : h.fault ≡ g.fault
  meshes : h.meshes ≡ g.meshes
  boxes : h.boxes ≡ g.boxes + box_count vs
  edges : h.edges ≡ g.edges + edge_count vs
  held : joined h.levels h.level ≡ joined g.levels g.level ++ vs

pub numbered-length : {X : Type 0} (n : ℕ) (xs : List X) → length (enumerate_from n xs) ≡ length xs
numbered-length n [] = refl
numbered-length n (x ∷ xs) = ap suc (numbered-length (n + 1) xs)

sum_more : {X : Type 0} (f : X → ℕ) (x : X) (xs : List X) → sum_by f (x ∷ xs) ≡ f x + sum_by f xs
sum_more f x xs = let none : 0 + f x ≡ f x = omega arith in sum_by-append f (x ∷ []) xs ∙ ap (λ n. n + sum_by f xs) none

counts : (a b c d all : ℕ) → c ≡ b → all ≡ c + d → a + b + d ≡ a + all
counts a b c d all e is = omega (arith, e, is)

no_levels : (p : Fields) (g : Gathered) (n : ℕ) → Levels g (gathered p g n []) []
unfolding gathered
no_levels p g n = record { ranks = refl; fault = refl; meshes = refl; boxes = omega arith; edges = omega arith; held = sym (append-nil (joined g.levels g.level)) }

levels_gathered : (p : Fields) (g : Gathered) (n : ℕ) (es : List (ℕ × LevelPart)) → Levels g (gathered p g n (meant (flat_map level_lines es))) (printed_levels n es)
levels_gathered p g n [] = no_levels p g n
levels_gathered p g n (e ∷ es) =
    let one = going g (g.boxes + length e.1.boxes) (g.edges + length e.1.edges) (joined g.levels g.level) (printed_level n e) in
    let rest = levels_gathered p one (n + length (level_lines e)) es in
    let last = gathered-append p g n (level_lines e) (flat_map level_lines es)
    ∙ ap (λ h. gathered p h (n + length (level_lines e)) (meant (flat_map level_lines es))) (level_gathered p g n e) in
    let bl : length (numbered_boxes (n + 1) e.1.boxes) ≡ length e.1.boxes =
    length-map (enumerate_from (n + 1) e.1.boxes) (λ b. let v : PrintedBox = record { line = b.0; at = b.1 } in v) ∙ numbered-length (n + 1) e.1.boxes in
    let el : length (numbered_edges (n + 1 + length e.1.boxes) e.1.edges) ≡ length e.1.edges =
    length-map (enumerate_from (n + 1 + length e.1.boxes) e.1.edges) (λ d. let v : PrintedEdge = record { line = d.0; to_level = d.1.0; edge = d.1.1 } in v)
    ∙ numbered-length (n + 1 + length e.1.boxes) e.1.edges in
    subst (λ h. Levels g h (printed_levels n (e ∷ es))) (sym last) (record {
      ranks = rest.ranks;
      fault = rest.fault;
      meshes = rest.meshes;
      boxes = rest.boxes ∙ counts g.boxes (length e.1.boxes) (length (numbered_boxes (n + 1) e.1.boxes)) (box_count (printed_levels (n + length (level_lines e)) es)) (box_count (printed_levels n (e ∷ es))) bl
          (sum_more (λ l. length l.boxes) (printed_level n e) (printed_levels (n + length (level_lines e)) es));
      edges = rest.edges ∙ counts g.edges (length e.1.edges) (length (numbered_edges (n + 1 + length e.1.boxes) e.1.edges)) (edge_count (printed_levels (n + length (level_lines e)) es)) (edge_count (printed_levels n (e ∷ es))) el
          (sum_more (λ l. length l.edges) (printed_level n e) (printed_levels (n + length (level_lines e)) es));
      held = rest.held ∙ append_assoc (joined g.levels g.level) (printed_level n e ∷ []) (printed_levels (n + length (level_lines e)) es);
    })

-- meshes, one after another
record Meshes (p : Fields) (g c : Gathered) (ms : List (List PrintedLevel)) : Type 0 where
  ranks : c.ranks ≡ g.ranks
  fault : c.fault ≡ fold or_earlier g.fault (map (checked p g.ranks) ms)
  meshes : c.meshes ≡ g.meshes + length ms
  boxes : c.boxes ≡ g.boxes + sum_by box_count ms
  edges : c.edges ≡ g.edges + sum_by edge_count ms

no_meshes : (p : Fields) (g : Gathered) → Meshes p g g []
no_meshes p g = record { ranks = refl; fault = refl; meshes = omega arith; boxes = omega arith; edges = omega arith }

both_meshes : (p : Fields) (a b c : Gathered) (ms ns : List (List PrintedLevel)) → Meshes p a b ms → Meshes p b c ns → Meshes p a c (ms ++ ns)
both_meshes p a b c ms ns first second =
    let long = length-append ms ns in
    let boxes_all = sum_by-append box_count ms ns in
    let edges_all = sum_by-append edge_count ms ns in
    record {
      ranks = second.ranks ∙ first.ranks;
      fault =
          second.fault ∙ ap (λ (r : Option ℕ). fold or_earlier b.fault (map (checked p r) ns)) first.ranks
          ∙ ap (λ (o : Option Fault). fold or_earlier o (map (checked p a.ranks) ns)) first.fault
          ∙ sym (fold-append or_earlier a.fault (map (checked p a.ranks) ms) (map (checked p a.ranks) ns))
          ∙ ap (fold or_earlier a.fault) (sym (map-append (checked p a.ranks) ms ns));
      meshes = second.meshes ∙ omega (arith, first.meshes, long);
      boxes = second.boxes ∙ omega (arith, first.boxes, boxes_all);
      edges = second.edges ∙ omega (arith, first.edges, edges_all);
    }

-- the end of a mesh
abbrev mesh_of : List PrintedLevel → List (List PrintedLevel)
mesh_of [] = []
mesh_of (v ∷ vs) = (v ∷ vs) ∷ []

none_held : (p : Fields) (g : Gathered) (vs : List PrintedLevel) → joined (ended_by p g vs).levels (ended_by p g vs).level ≡ []
none_held p g [] = refl
none_held p g (v ∷ vs) = refl

ended_held : (p : Fields) (g : Gathered) → joined (ended p g).levels (ended p g).level ≡ []
unfolding ended
ended_held p g = none_held p g (joined g.levels g.level)

mesh_ended : (p : Fields) (g h : Gathered) (vs : List PrintedLevel) → Levels g h vs → Meshes p g (ended_by p h vs) (mesh_of vs)
mesh_ended p g h [] l = record { ranks = l.ranks; fault = l.fault; meshes = l.meshes ∙ omega arith; boxes = l.boxes; edges = l.edges }
mesh_ended p g h (v ∷ vs) l = record {
  ranks = l.ranks;
  fault = ap (λ (o : Option Fault). or_earlier o (checked p h.ranks (v ∷ vs))) l.fault ∙ ap (λ (r : Option ℕ). or_earlier g.fault (checked p r (v ∷ vs))) l.ranks;
  meshes = ap (λ n. n + 1) l.meshes;
  boxes = l.boxes ∙ omega arith;
  edges = l.edges ∙ omega arith;
}

mesh_closed : (p : Fields) (g h : Gathered) (vs : List PrintedLevel) → joined g.levels g.level ≡ [] → Levels g h vs → Meshes p g (ended p h) (mesh_of vs)
unfolding ended
mesh_closed p g h vs empty l =
    subst (λ ws. Meshes p g (ended_by p h ws) (mesh_of vs)) (sym (l.held ∙ ap (λ ws. ws ++ vs) empty)) (mesh_ended p g h vs l)

mesh_at_is : (n : ℕ) (levels : List LevelPart) (part : StepPart) → part.levels ≡ levels → mesh_of (printed_levels (n + 1) (enumerate_from 0 part.levels)) ≡ mesh_at n part
mesh_at_is n [] part is =
    ap (λ (ls : List LevelPart). mesh_of (printed_levels (n + 1) (enumerate_from 0 ls))) is
    ∙ ap (λ b. if b then [] else printed_levels (n + 1) (enumerate_from 0 part.levels) ∷ []) (sym (eq-eqb (length part.levels) 0 (ap length is)))
mesh_at_is n (v ∷ vs) part is =
    let some : length part.levels ≡ 0 → ⊥ = λ none. omega (arith, none, ap length is) in
    let told : mesh_of (printed_levels (n + 1) (enumerate_from 0 part.levels)) ≡ printed_levels (n + 1) (enumerate_from 0 part.levels) ∷ [] =
    subst (λ (ls : List LevelPart). mesh_of (printed_levels (n + 1) (enumerate_from 0 ls)) ≡ printed_levels (n + 1) (enumerate_from 0 ls) ∷ []) (sym is) refl in
    told ∙ ap (λ b. if b then [] else printed_levels (n + 1) (enumerate_from 0 part.levels) ∷ []) (sym (ne_eqb (length part.levels) 0 some))

-- a step
step_gathered : (p : Fields) (g : Gathered) (n : ℕ) (e : ℕ × StepPart) → IsStepPart p e.0 e.1
    → gathered p g n (meant (step_lines e)) ≡ gathered p (ended p g) (n + 1) (meant (flat_map level_lines (enumerate_from 0 e.1.levels)))
unfolding gathered taken
step_gathered p g n e is =
    let ls = flat_map level_lines (enumerate_from 0 e.1.levels) in
    let c = ended p g in
    gathered-append p c (n + 1) (ls ++ e.1.sums) e.1.probes
    ∙ silent_gathered p (gathered p c (n + 1) (meant (ls ++ e.1.sums))) (n + 1 + length (ls ++ e.1.sums)) e.1.probes (λ line m. inr (is.probes line m))
    ∙ gathered-append p c (n + 1) ls e.1.sums
    ∙ silent_gathered p (gathered p c (n + 1) (meant ls)) (n + 1 + length ls) e.1.sums (λ line m. inl (is.sums line m))

step_closed : (p : Fields) (g : Gathered) (n : ℕ) (e : ℕ × StepPart) → IsStepPart p e.0 e.1
    → Meshes p (ended p g) (ended p (gathered p g n (meant (step_lines e)))) (mesh_at n e.1)
step_closed p g n e is =
    let vs = printed_levels (n + 1) (enumerate_from 0 e.1.levels) in
    let h = gathered p (ended p g) (n + 1) (meant (flat_map level_lines (enumerate_from 0 e.1.levels))) in
    subst (λ ms. Meshes p (ended p g) (ended p (gathered p g n (meant (step_lines e)))) ms) (mesh_at_is n e.1.levels e.1 refl)
    (subst (λ k. Meshes p (ended p g) (ended p k) (mesh_of vs)) (sym (step_gathered p g n e is))
    (mesh_closed p (ended p g) h vs (ended_held p g) (levels_gathered p (ended p g) (n + 1) (enumerate_from 0 e.1.levels))))

nothing_more : (p : Fields) (g : Gathered) (n : ℕ) → gathered p g n [] ≡ g
unfolding gathered
nothing_more p g n = refl

steps_gathered : (p : Fields) (g : Gathered) (n : ℕ) (es : List (ℕ × StepPart)) → ((e : ℕ × StepPart) → Member e es → IsStepPart p e.0 e.1)
    → Meshes p (ended p g) (ended p (gathered p g n (meant (flat_map step_lines es)))) (meshes_from n es)
steps_gathered p g n [] parts = subst (λ h. Meshes p (ended p g) (ended p h) []) (sym (nothing_more p g n)) (no_meshes p (ended p g))
steps_gathered p g n (e ∷ es) parts =
    let g1 = gathered p g n (meant (step_lines e)) in
    let m = n + length (step_lines e) in
    subst (λ h. Meshes p (ended p g) (ended p h) (mesh_at n e.1 ++ meshes_from m es)) (sym (gathered-append p g n (step_lines e) (flat_map step_lines es)))
    (both_meshes p (ended p g) (ended p g1) (ended p (gathered p g1 m (meant (flat_map step_lines es)))) (mesh_at n e.1) (meshes_from m es)
    (step_closed p g n e (parts e (inl refl))) (steps_gathered p g1 m es (λ x y. parts x (inr y))))

-- what is found in meshes of few levels
pub printed-length : (n : ℕ) (es : List (ℕ × LevelPart)) → length (printed_levels n es) ≡ length es
printed-length n [] = refl
printed-length n (e ∷ es) = ap suc (printed-length (n + length (level_lines e)) es)

checked_is : (p : Fields) (ranks n : ℕ) (part : StepPart) → length part.levels ≤ p.levels → map (checked p (Some ranks)) (mesh_at n part) ≡ map (mesh_fault p ranks) (mesh_at n part)
checked_is p ranks n part few = checked_by (length part.levels == 0)
  where
    vs : List PrintedLevel
    vs = printed_levels (n + 1) (enumerate_from 0 part.levels)

    low : length vs ≤ p.levels
    low = subst (λ k. k ≤ p.levels) (sym (printed-length (n + 1) (enumerate_from 0 part.levels) ∙ numbered-length 0 part.levels)) few

    checked_by : (b : Bool) → map (checked p (Some ranks)) (if b then [] else vs ∷ []) ≡ map (mesh_fault p ranks) (if b then [] else vs ∷ [])
    checked_by true = refl
    checked_by false = ap (λ b. (if b then mesh_fault p ranks vs else None) ∷ []) (le-leb (length vs) p.levels low)

all_checked : (p : Fields) (ranks n : ℕ) (es : List (ℕ × StepPart)) → ((e : ℕ × StepPart) → Member e es → IsStepPart p e.0 e.1)
    → map (checked p (Some ranks)) (meshes_from n es) ≡ map (mesh_fault p ranks) (meshes_from n es)
all_checked p ranks n [] parts = refl
all_checked p ranks n (e ∷ es) parts =
    let m = n + length (step_lines e) in
    map-append (checked p (Some ranks)) (mesh_at n e.1) (meshes_from m es)
    ∙ ap (λ xs. xs ++ map (checked p (Some ranks)) (meshes_from m es)) (checked_is p ranks n e.1 (parts e (inl refl)).few)
    ∙ ap (λ xs. map (mesh_fault p ranks) (mesh_at n e.1) ++ xs) (all_checked p ranks m es (λ x y. parts x (inr y)))
    ∙ sym (map-append (mesh_fault p ranks) (mesh_at n e.1) (meshes_from m es))

-- a whole report
abbrev headed_by : Report → Option ℕ → Gathered
headed_by r ranks = record { ranks = ranks; fault = None; meshes = 0; boxes = 0; edges = 0; levels = []; level = None }

report_gathered : (p : Fields) (r : Report)
    → gathered p nothing 1 (meant (report_lines r)) ≡ ended p (gathered p (headed_by r (ranks_of p r.ranks r.levels r.width)) 2 (meant (flat_map step_lines (enumerate_from 0 r.steps))))
unfolding gathered taken
report_gathered p r = gathered-append p (headed_by r (ranks_of p r.ranks r.levels r.width)) 2 (flat_map step_lines (enumerate_from 0 r.steps)) (End ∷ [])

headed_closed : (p : Fields) (r : Report) (ranks : Option ℕ) → ended p (headed_by r ranks) ≡ headed_by r ranks
unfolding ended
headed_closed p r ranks = refl

verdict_from : (o : Option Fault) (ranks : ℕ) (c : Gathered) (ms : List (List PrintedLevel)) → c.meshes ≡ length ms → c.boxes ≡ sum_by box_count ms → c.edges ≡ sum_by edge_count ms
    → told_by (Some ranks) o c ≡ verdict_by o ms
verdict_from None ranks c ms a b d = ap (λ x. Sound x c.boxes c.edges) a ∙ ap (λ x. Sound (length ms) x c.edges) b ∙ ap (λ x. Sound (length ms) (sum_by box_count ms) x) d
verdict_from (Some f) ranks c ms a b d = refl

verdict_is : (p : Fields) (r : Report) (c : Gathered) (test : Bool) → is_headed p r ≡ test → (let h = headed_by r (if test then Some r.ranks else None) in Meshes p h c (meshes r))
    → map (checked p (Some r.ranks)) (meshes r) ≡ map (mesh_fault p r.ranks) (meshes r)
    → told c ≡ verdict_by (if test then first_of (map (mesh_fault p r.ranks) (meshes r)) else Some (record { kind = 2; line = 1 })) (meshes r)
verdict_is p r c false is ms same = ap (λ o. told_by o c.fault c) ms.ranks
verdict_is p r c true is ms same =
    ap (λ o. told_by o c.fault c) ms.ranks
    ∙ ap (λ o. told_by (Some r.ranks) o c) (ms.fault ∙ ap (fold or_earlier None) same)
    ∙ verdict_from (first_of (map (mesh_fault p r.ranks) (meshes r))) r.ranks c (meshes r) (ms.meshes ∙ omega arith) (ms.boxes ∙ omega arith) (ms.edges ∙ omega arith)

pub report_told : (p : Fields) (r : Report) → IsReport p r → told (gathered p nothing 1 (meant (report_lines r))) ≡ verdict p r
report_told p r is =
    let ranks = ranks_of p r.ranks r.levels r.width in
    let g = headed_by r ranks in
    let steps = steps_gathered p g 2 (enumerate_from 0 r.steps) is.parts in
    let c = ended p (gathered p g 2 (meant (flat_map step_lines (enumerate_from 0 r.steps)))) in
    ap told (report_gathered p r)
    ∙ verdict_is p r c (is_headed p r) refl (subst (λ h. Meshes p h c (meshes r)) (headed_closed p r ranks) steps) (all_checked p r.ranks 2 (enumerate_from 0 r.steps) is.parts)
