-- What is accepted line by line is a report of the grammar.
use Rattle.std.proofs.Common.{◌≡◌, ℕ, ◌+◌, ◌<◌, ◌≤◌, refl, sym, ap, ◌∙◌, subst, inl, inr, arith, map, append_assoc}
use Rattle.std.proofs.lemmas.Bool.{false≢true, eqb-true, ltb-true, and_parts}
use Rattle.std.specs.Prelude.{Bool, true, false, ◌&&◌, ◌==◌, nat_lt, nat_le, Option, Some, None, List, [], ◌∷◌, ◌++◌, length, if◌then◌else◌}
use Rattle.std.specs.List.{flat_map, enumerate_from}
use Rattle.samr_box.specs.declared.vector.IVec.{IVec}
use Rattle.samr_box.specs.Lists.{Member}
use Rattle.samr_level.specs.Refs.{Owned, Link}
use Rattle.samr_problem.specs.Fields.{Fields}
use Rattle.samr_report.specs.Report.{is_told}
use Rattle.samr_verify.specs.declared.line.Line.{Line}
use Rattle.samr_verify.specs.declared.line.Line.TheVariants.{First, Step, LevelOf, BoxOf, EdgeOf, RowOf, SumOf, ProbeOf, End}
use Rattle.samr_verify.specs.declared.line.PrintedRow.{PrintedRow}
use Rattle.samr_verify.specs.declared.place.Place.{Place}
use Rattle.samr_verify.specs.declared.place.Place.TheVariants.{Begun, Headed, Stepped, Levelled, Boxed, Edged, Listed, Summed, Probed, Ended}
use Rattle.samr_verify.specs.Form.{LevelPart, StepPart, Report, level_lines, step_lines, report_lines, is_sum, is_probe, IsStepPart, IsReport, if_some, whole_mesh, whole_step, where_true, begins_step, begins_level, with_box, with_edge, with_row, if_begun, behind, placed}

-- what lines are, from their end up: steps from one on, and before them what is left of a step
pub record StepsFrom (p : Fields) (n : ℕ) (lines : List Line) : Type 0 where
  pub steps : List StepPart
  pub count : n + length steps ≡ p.steps + 1
  pub parts : (e : ℕ × StepPart) → Member e (enumerate_from n steps) → IsStepPart p e.0 e.1
  pub text : flat_map step_lines (enumerate_from n steps) ++ End ∷ [] ≡ lines

pub record ProbesLeft (p : Fields) (t : ℕ) (lines : List Line) : Type 0 where
  pub probes : List Line
  pub all : (line : Line) → Member line probes → is_probe line ≡ true
  pub rest : List Line
  pub steps : StepsFrom p (t + 1) rest
  pub text : probes ++ rest ≡ lines

pub record SumsLeft (p : Fields) (t : ℕ) (lines : List Line) : Type 0 where
  pub sums : List Line
  pub all : (line : Line) → Member line sums → is_sum line ≡ true
  pub rest : List Line
  pub probes : ProbesLeft p t rest
  pub text : sums ++ rest ≡ lines

pub record LevelsLeft (p : Fields) (t l : ℕ) (lines : List Line) : Type 0 where
  pub levels : List LevelPart
  pub few : l + length levels ≤ p.levels
  pub boxes : (part : LevelPart) → Member part levels → 0 < length part.boxes
  pub rest : List Line
  pub sums : SumsLeft p t rest
  pub text : flat_map level_lines (enumerate_from l levels) ++ rest ≡ lines

pub record RowsLeft (p : Fields) (t l : ℕ) (lines : List Line) : Type 0 where
  pub rows : List PrintedRow
  pub rest : List Line
  pub levels : LevelsLeft p t (l + 1) rest
  pub text : map (RowOf l) rows ++ rest ≡ lines

pub record EdgesLeft (p : Fields) (t l : ℕ) (lines : List Line) : Type 0 where
  pub edges : List (ℕ × Link)
  pub rest : List Line
  pub rows : RowsLeft p t l rest
  pub text : map (λ d. EdgeOf l d.0 d.1) edges ++ rest ≡ lines

pub record BoxesLeft (p : Fields) (t l : ℕ) (lines : List Line) : Type 0 where
  pub boxes : List Owned
  pub rest : List Line
  pub edges : EdgesLeft p t l rest
  pub text : map (BoxOf l) boxes ++ rest ≡ lines

pub record PartLeft (p : Fields) (t : ℕ) (lines : List Line) : Type 0 where
  pub part : StepPart
  pub is : IsStepPart p t part
  pub rest : List Line
  pub steps : StepsFrom p (t + 1) rest
  pub text : flat_map level_lines (enumerate_from 0 part.levels) ++ (part.sums ++ (part.probes ++ rest)) ≡ lines

abbrev SomeBoxes : Fields → ℕ → ℕ → List Line → Type 0
SomeBoxes p t l lines = (b : BoxesLeft p t l lines) × (0 < length b.boxes)

abbrev SomeLevels : Fields → ℕ → ℕ → List Line → Type 0
SomeLevels p t l lines = (v : LevelsLeft p t l lines) × (0 < length v.levels)

-- what the lines from a place to the end are
abbrev Left : Fields → Place → List Line → Type 0
Left p Begun lines = (r : Report) × IsReport p r × (report_lines r ≡ lines)
Left p Headed lines = StepsFrom p 0 lines
Left p (Stepped t) lines = PartLeft p t lines
Left p (Levelled t l) lines = l < p.levels → SomeBoxes p t l lines
Left p (Boxed t l) lines = l < p.levels → BoxesLeft p t l lines
Left p (Edged t l) lines = l < p.levels → EdgesLeft p t l lines
Left p (Listed t l) lines = l < p.levels → RowsLeft p t l lines
Left p (Summed t) lines = SumsLeft p t lines
Left p (Probed t) lines = ProbesLeft p t lines
Left p Ended lines = lines ≡ []

nothing : {X : Type 0} {x : X} → None ≡ Some x → ⊥
nothing e = cc

some_same : {X : Type 0} {x y : X} → Some x ≡ Some y → x ≡ y
some_same e = cc

some_of : {X Y : Type 0} (o : Option X) (f : X → Option Y) (y : Y) → if_some o f ≡ Some y → (x : X) × (o ≡ Some x) × (f x ≡ Some y)
some_of None f y e = absurd (nothing e)
some_of (Some x) f y e = (x, refl, e)

passes : (test : Bool) (place next : Place) → where_true test place ≡ Some next → (test ≡ true) × (place ≡ next)
passes true place next e = (refl, some_same e)
passes false place next e = absurd (nothing e)

-- nothing before what is left
no_probes : (p : Fields) (t : ℕ) (lines : List Line) → StepsFrom p (t + 1) lines → ProbesLeft p t lines
no_probes p t lines h = record { probes = []; all = λ line m. absurd m; rest = lines; steps = h; text = refl }

no_sums : (p : Fields) (t : ℕ) (lines : List Line) → ProbesLeft p t lines → SumsLeft p t lines
no_sums p t lines h = record { sums = []; all = λ line m. absurd m; rest = lines; probes = h; text = refl }

no_levels : (p : Fields) (t l : ℕ) (lines : List Line) → l < p.levels → SumsLeft p t lines → LevelsLeft p t (l + 1) lines
no_levels p t l lines few h = record { levels = []; few = omega (arith, few); boxes = λ part m. absurd m; rest = lines; sums = h; text = refl }

no_rows : (p : Fields) (t l : ℕ) (lines : List Line) → LevelsLeft p t (l + 1) lines → RowsLeft p t l lines
no_rows p t l lines h = record { rows = []; rest = lines; levels = h; text = refl }

no_edges : (p : Fields) (t l : ℕ) (lines : List Line) → RowsLeft p t l lines → EdgesLeft p t l lines
no_edges p t l lines h = record { edges = []; rest = lines; rows = h; text = refl }

no_boxes : (p : Fields) (t l : ℕ) (lines : List Line) → EdgesLeft p t l lines → BoxesLeft p t l lines
no_boxes p t l lines h = record { boxes = []; rest = lines; edges = h; text = refl }

-- a step of some levels
part_of : (p : Fields) (t : ℕ) (levels : List LevelPart) (lines rest : List Line)
    → (is_told p t ≡ true → 0 < length levels) → (is_told p t ≡ false → levels ≡ []) → length levels ≤ p.levels
    → ((part : LevelPart) → Member part levels → 0 < length part.boxes) → SumsLeft p t rest
    → flat_map level_lines (enumerate_from 0 levels) ++ rest ≡ lines → PartLeft p t lines
part_of p t levels lines rest told silent few boxes s e = record {
  part = record { levels = levels; sums = s.sums; probes = s.probes.probes };
  is = record { told = told; silent = silent; few = few; boxes = boxes; sums = s.all; probes = s.probes.all };
  rest = s.probes.rest;
  steps = s.probes.steps;
  text = ap (λ (r : List Line). flat_map level_lines (enumerate_from 0 levels) ++ r) (ap (λ (r : List Line). s.sums ++ r) s.probes.text ∙ s.text) ∙ e;
}

-- what is left where a mesh part is whole, and where a step is
abbrev unless_told : Bool → ℕ → Option ℕ
unless_told told t = if told then None else Some t

silent_part : (p : Fields) (s t : ℕ) (lines : List Line) (told : Bool) → is_told p s ≡ told → unless_told told s ≡ Some t → SumsLeft p t lines → PartLeft p s lines
silent_part p s t lines true is e h = absurd (nothing e)
silent_part p s t lines false is e h =
    part_of p s [] lines lines (λ yes. absurd (false≢true (sym is ∙ yes))) (λ _. refl) (omega arith) (λ part m. absurd m)
    (subst (λ n. SumsLeft p n lines) (sym (some_same e)) h) refl

lift_sums : (p : Fields) (place : Place) (t : ℕ) (lines : List Line) → whole_mesh p place ≡ Some t → SumsLeft p t lines → Left p place lines
lift_sums p (Stepped s) t lines e h = silent_part p s t lines (is_told p s) refl e h
lift_sums p (Boxed s l) t lines e h =
    λ few. no_boxes p s l lines (no_edges p s l lines (no_rows p s l lines (no_levels p s l lines few (subst (λ n. SumsLeft p n lines) (sym (some_same e)) h))))
lift_sums p (Edged s l) t lines e h =
    λ few. no_edges p s l lines (no_rows p s l lines (no_levels p s l lines few (subst (λ n. SumsLeft p n lines) (sym (some_same e)) h)))
lift_sums p (Listed s l) t lines e h = λ few. no_rows p s l lines (no_levels p s l lines few (subst (λ n. SumsLeft p n lines) (sym (some_same e)) h))
lift_sums p (Summed s) t lines e h = subst (λ n. SumsLeft p n lines) (sym (some_same e)) h
lift_sums p _ t lines e h = absurd (nothing e)

lift_probes : (p : Fields) (place : Place) (t : ℕ) (lines : List Line) → whole_step p place ≡ Some t → ProbesLeft p t lines → Left p place lines
lift_probes p (Probed s) t lines e h = subst (λ n. ProbesLeft p n lines) (sym (some_same e)) h
lift_probes p place t lines e h = lift_sums p place t lines e (no_sums p t lines h)

lift_steps : (p : Fields) (place : Place) (t : ℕ) (lines : List Line) → whole_step p place ≡ Some t → StepsFrom p (t + 1) lines → Left p place lines
lift_steps p place t lines e h = lift_probes p place t lines e (no_probes p t lines h)

-- one more in front
chain : {X : Type 0} (a b c d z v w x y : List X) → d ++ z ≡ v → c ++ v ≡ w → b ++ w ≡ x → a ++ x ≡ y → (((a ++ b) ++ c) ++ d) ++ z ≡ y
chain a b c d z v w x y e f g h =
    append_assoc ((a ++ b) ++ c) d z ∙ ap (λ s. ((a ++ b) ++ c) ++ s) e ∙ append_assoc (a ++ b) c v ∙ ap (λ s. (a ++ b) ++ s) f
    ∙ append_assoc a b w ∙ ap (λ s. a ++ s) g ∙ h

more_steps : (p : Fields) (n : ℕ) (lines : List Line) → PartLeft p n lines → StepsFrom p n (Step n ∷ lines)
more_steps p n lines h = record {
  steps = h.part ∷ h.steps.steps;
  count = omega (arith, h.steps.count);
  parts = λ e m. elim m [
    | inl same ↦ subst (λ (v : ℕ × StepPart). IsStepPart p v.0 v.1) (sym same) h.is
    | inr later ↦ h.steps.parts e later
  ];
  text = ap (λ (xs : List Line). Step n ∷ xs)
      (chain (flat_map level_lines (enumerate_from 0 h.part.levels)) h.part.sums h.part.probes (flat_map step_lines (enumerate_from (n + 1) h.steps.steps)) (End ∷ [])
      h.rest (h.part.probes ++ h.rest) (h.part.sums ++ (h.part.probes ++ h.rest)) lines h.steps.text refl refl h.text);
}

more_levels : (p : Fields) (t l told cells : ℕ) (lines : List Line) → SomeBoxes p t l lines → SomeLevels p t l (LevelOf l told cells ∷ lines)
more_levels p t l told cells lines (b, some) =
    let v = b.edges.rows.levels in
    let part : LevelPart = record { boxes_told = told; cells_told = cells; boxes = b.boxes; edges = b.edges.edges; rows = b.edges.rows.rows } in (
      record {
        levels = part ∷ v.levels;
        few = omega (arith, v.few);
        boxes = λ q m. elim m [
          | inl same ↦ subst (λ (k : LevelPart). 0 < length k.boxes) (sym same) some
          | inr later ↦ v.boxes q later
        ];
        rest = v.rest;
        sums = v.sums;
        text = ap (λ (xs : List Line). LevelOf l told cells ∷ xs)
            (chain (map (BoxOf l) b.boxes) (map (λ d. EdgeOf l d.0 d.1) b.edges.edges) (map (RowOf l) b.edges.rows.rows) (flat_map level_lines (enumerate_from (l + 1) v.levels)) v.rest
            b.edges.rows.rest b.edges.rest b.rest lines v.text b.edges.rows.text b.edges.text b.text);
      },
      omega arith,
    )

more_boxes : (p : Fields) (t l k : ℕ) (b : Owned) (lines : List Line) → l ≡ k → BoxesLeft p t k lines → SomeBoxes p t k (BoxOf l b ∷ lines)
more_boxes p t l k b lines same h =
    (record { boxes = b ∷ h.boxes; rest = h.rest; edges = h.edges; text = ap (λ (xs : List Line). BoxOf k b ∷ xs) h.text ∙ ap (λ n. BoxOf n b ∷ lines) (sym same) }, omega arith)

more_edges : (p : Fields) (t l k m : ℕ) (d : Link) (lines : List Line) → l ≡ k → EdgesLeft p t k lines → EdgesLeft p t k (EdgeOf l m d ∷ lines)
more_edges p t l k m d lines same h =
    record { edges = (m, d) ∷ h.edges; rest = h.rest; rows = h.rows; text = ap (λ (xs : List Line). EdgeOf k m d ∷ xs) h.text ∙ ap (λ n. EdgeOf n m d ∷ lines) (sym same) }

more_rows : (p : Fields) (t l k : ℕ) (r : PrintedRow) (lines : List Line) → l ≡ k → RowsLeft p t k lines → RowsLeft p t k (RowOf l r ∷ lines)
more_rows p t l k r lines same h =
    record { rows = r ∷ h.rows; rest = h.rest; levels = h.levels; text = ap (λ (xs : List Line). RowOf k r ∷ xs) h.text ∙ ap (λ n. RowOf n r ∷ lines) (sym same) }

more_sums : (p : Fields) (t : ℕ) (line : Line) (lines : List Line) → is_sum line ≡ true → SumsLeft p t lines → SumsLeft p t (line ∷ lines)
more_sums p t line lines e h = record {
  sums = line ∷ h.sums;
  all = λ q m. elim m [
    | inl same ↦ ap is_sum same ∙ e
    | inr later ↦ h.all q later
  ];
  rest = h.rest;
  probes = h.probes;
  text = ap (λ (xs : List Line). line ∷ xs) h.text;
}

more_probes : (p : Fields) (t : ℕ) (line : Line) (lines : List Line) → is_probe line ≡ true → ProbesLeft p t lines → ProbesLeft p t (line ∷ lines)
more_probes p t line lines e h = record {
  probes = line ∷ h.probes;
  all = λ q m. elim m [
    | inl same ↦ ap is_probe same ∙ e
    | inr later ↦ h.all q later
  ];
  rest = h.rest;
  steps = h.steps;
  text = ap (λ (xs : List Line). line ∷ xs) h.text;
}

-- a line before what is left behind it
first_before : (p : Fields) (place : Place) (a b : ℕ) (w : IVec) (next : Place) (lines : List Line) → if_begun place ≡ Some next → Left p next lines → Left p place (First a b w ∷ lines)
first_before p Begun a b w next lines e h =
    let s : StepsFrom p 0 lines = subst (λ (q : Place). Left p q lines) (sym (some_same e)) h in
    (record { ranks = a; levels = b; width = w; steps = s.steps }, record { steps = omega (arith, s.count); parts = s.parts }, ap (λ (xs : List Line). First a b w ∷ xs) s.text)
first_before p _ a b w next lines e h = absurd (nothing e)

step_before : (p : Fields) (place : Place) (n : ℕ) (next : Place) (lines : List Line) → begins_step p n place ≡ Some next → Left p next lines → Left p place (Step n ∷ lines)
step_before p Headed n next lines e h =
    let (test, same) = passes (n == 0) (Stepped n) next e in
    subst (λ k. StepsFrom p k (Step n ∷ lines)) (eqb-true n 0 test) (more_steps p n lines (subst (λ (q : Place). Left p q lines) (sym same) h))
step_before p place n next lines e h =
    let (t, at, f) = some_of (whole_step p place) (λ s. where_true ((n == s + 1) && nat_le n p.steps) (Stepped n)) next e in
    let (test, same) = passes ((n == t + 1) && nat_le n p.steps) (Stepped n) next f in
    lift_steps p place t (Step n ∷ lines) at
    (subst (λ k. StepsFrom p k (Step n ∷ lines)) (eqb-true n (t + 1) (and_parts (n == t + 1) (nat_le n p.steps) test).0)
    (more_steps p n lines (subst (λ (q : Place). Left p q lines) (sym same) h)))

levels_before : (p : Fields) (t l told cells : ℕ) (next : Place) (lines : List Line) → Levelled t l ≡ next → l < p.levels → Left p next lines → SomeLevels p t l (LevelOf l told cells ∷ lines)
levels_before p t l told cells next lines same few h = more_levels p t l told cells lines (subst (λ (q : Place). Left p q lines) (sym same) h few)

next_levels : (p : Fields) (t k l told cells : ℕ) (next : Place) (lines : List Line) → where_true ((l == k + 1) && nat_lt l p.levels) (Levelled t l) ≡ Some next
    → Left p next lines → LevelsLeft p t (k + 1) (LevelOf l told cells ∷ lines)
next_levels p t k l told cells next lines e h =
    let (test, same) = passes ((l == k + 1) && nat_lt l p.levels) (Levelled t l) next e in
    let both = and_parts (l == k + 1) (nat_lt l p.levels) test in
    subst (λ n. LevelsLeft p t n (LevelOf l told cells ∷ lines)) (eqb-true l (k + 1) both.0) (levels_before p t l told cells next lines same (ltb-true l p.levels both.1) h).0

level_before : (p : Fields) (place : Place) (l told cells : ℕ) (next : Place) (lines : List Line) → begins_level p l place ≡ Some next → Left p next lines
    → Left p place (LevelOf l told cells ∷ lines)
level_before p (Stepped t) l told cells next lines e h =
    let (test, same) = passes (is_told p t && ((l == 0) && nat_lt 0 p.levels)) (Levelled t l) next e in
    let both = and_parts (is_told p t) ((l == 0) && nat_lt 0 p.levels) test in
    let rest = and_parts (l == 0) (nat_lt 0 p.levels) both.1 in
    let zeroth : l ≡ 0 = eqb-true l 0 rest.0 in
    let few : l < p.levels = omega (arith, zeroth, ltb-true 0 p.levels rest.1) in
    let v = subst (λ n. SomeLevels p t n (LevelOf l told cells ∷ lines)) zeroth (levels_before p t l told cells next lines same few h) in
    part_of p t v.0.levels (LevelOf l told cells ∷ lines) v.0.rest (λ _. v.1) (λ no. absurd (false≢true (sym no ∙ both.0))) (omega (arith, v.0.few)) v.0.boxes v.0.sums v.0.text
level_before p (Boxed t k) l told cells next lines e h =
    λ few. no_boxes p t k _ (no_edges p t k _ (no_rows p t k (LevelOf l told cells ∷ lines) (next_levels p t k l told cells next lines e h)))
level_before p (Edged t k) l told cells next lines e h =
    λ few. no_edges p t k _ (no_rows p t k (LevelOf l told cells ∷ lines) (next_levels p t k l told cells next lines e h))
level_before p (Listed t k) l told cells next lines e h = λ few. no_rows p t k (LevelOf l told cells ∷ lines) (next_levels p t k l told cells next lines e h)
level_before p _ l told cells next lines e h = absurd (nothing e)

box_before : (p : Fields) (place : Place) (l : ℕ) (b : Owned) (next : Place) (lines : List Line) → with_box l place ≡ Some next → Left p next lines → Left p place (BoxOf l b ∷ lines)
box_before p (Levelled t k) l b next lines e h =
    let (test, same) = passes (l == k) (Boxed t k) next e in
    λ few. more_boxes p t l k b lines (eqb-true l k test) (subst (λ (q : Place). Left p q lines) (sym same) h few)
box_before p (Boxed t k) l b next lines e h =
    let (test, same) = passes (l == k) (Boxed t k) next e in
    λ few. (more_boxes p t l k b lines (eqb-true l k test) (subst (λ (q : Place). Left p q lines) (sym same) h few)).0
box_before p _ l b next lines e h = absurd (nothing e)

edge_before : (p : Fields) (place : Place) (l m : ℕ) (d : Link) (next : Place) (lines : List Line) → with_edge l place ≡ Some next → Left p next lines
    → Left p place (EdgeOf l m d ∷ lines)
edge_before p (Boxed t k) l m d next lines e h =
    let (test, same) = passes (l == k) (Edged t k) next e in
    λ few. no_boxes p t k (EdgeOf l m d ∷ lines) (more_edges p t l k m d lines (eqb-true l k test) (subst (λ (q : Place). Left p q lines) (sym same) h few))
edge_before p (Edged t k) l m d next lines e h =
    let (test, same) = passes (l == k) (Edged t k) next e in
    λ few. more_edges p t l k m d lines (eqb-true l k test) (subst (λ (q : Place). Left p q lines) (sym same) h few)
edge_before p _ l m d next lines e h = absurd (nothing e)

row_before : (p : Fields) (place : Place) (l : ℕ) (r : PrintedRow) (next : Place) (lines : List Line) → with_row l place ≡ Some next → Left p next lines → Left p place (RowOf l r ∷ lines)
row_before p (Boxed t k) l r next lines e h =
    let (test, same) = passes (l == k) (Listed t k) next e in
    λ few. no_boxes p t k (RowOf l r ∷ lines) (no_edges p t k (RowOf l r ∷ lines)
    (more_rows p t l k r lines (eqb-true l k test) (subst (λ (q : Place). Left p q lines) (sym same) h few)))
row_before p (Edged t k) l r next lines e h =
    let (test, same) = passes (l == k) (Listed t k) next e in
    λ few. no_edges p t k (RowOf l r ∷ lines) (more_rows p t l k r lines (eqb-true l k test) (subst (λ (q : Place). Left p q lines) (sym same) h few))
row_before p (Listed t k) l r next lines e h =
    let (test, same) = passes (l == k) (Listed t k) next e in
    λ few. more_rows p t l k r lines (eqb-true l k test) (subst (λ (q : Place). Left p q lines) (sym same) h few)
row_before p _ l r next lines e h = absurd (nothing e)

sum_before : (p : Fields) (place : Place) (line : Line) (next : Place) (lines : List Line) → is_sum line ≡ true → if_some (whole_mesh p place) (λ t. Some (Summed t)) ≡ Some next
    → Left p next lines → Left p place (line ∷ lines)
sum_before p place line next lines is e h =
    let (t, at, same) = some_of (whole_mesh p place) (λ t. Some (Summed t)) next e in
    lift_sums p place t (line ∷ lines) at (more_sums p t line lines is (subst (λ (q : Place). Left p q lines) (sym (some_same same)) h))

probe_before : (p : Fields) (place : Place) (line : Line) (next : Place) (lines : List Line) → is_probe line ≡ true
    → if_some (whole_step p place) (λ t. Some (Probed t)) ≡ Some next → Left p next lines → Left p place (line ∷ lines)
probe_before p place line next lines is e h =
    let (t, at, same) = some_of (whole_step p place) (λ t. Some (Probed t)) next e in
    lift_probes p place t (line ∷ lines) at (more_probes p t line lines is (subst (λ (q : Place). Left p q lines) (sym (some_same same)) h))

end_before : (p : Fields) (place : Place) (next : Place) (lines : List Line) → if_some (whole_step p place) (λ t. where_true (t == p.steps) Ended) ≡ Some next → Left p next lines
    → Left p place (End ∷ lines)
end_before p place next lines e h =
    let (t, at, f) = some_of (whole_step p place) (λ t. where_true (t == p.steps) Ended) next e in
    let (test, same) = passes (t == p.steps) Ended next f in
    let last : lines ≡ [] = subst (λ (q : Place). Left p q lines) (sym same) h in
    let count : t ≡ p.steps = eqb-true t p.steps test in
    lift_steps p place t (End ∷ lines) at (record { steps = []; count = omega (arith, count); parts = λ v m. absurd m; text = ap (λ (xs : List Line). End ∷ xs) (sym last) })

line_before : (p : Fields) (place : Place) (line : Line) (next : Place) (lines : List Line) → behind p place line ≡ Some next → Left p next lines → Left p place (line ∷ lines)
unfolding behind
line_before p place (First a b w) next lines e h = first_before p place a b w next lines e h
line_before p place (Step n) next lines e h = step_before p place n next lines e h
line_before p place (LevelOf l told cells) next lines e h = level_before p place l told cells next lines e h
line_before p place (BoxOf l b) next lines e h = box_before p place l b next lines e h
line_before p place (EdgeOf l m d) next lines e h = edge_before p place l m d next lines e h
line_before p place (RowOf l r) next lines e h = row_before p place l r next lines e h
line_before p place (SumOf f l b v) next lines e h = sum_before p place (SumOf f l b v) next lines refl e h
line_before p place (ProbeOf f n v) next lines e h = probe_before p place (ProbeOf f n v) next lines refl e h
line_before p place End next lines e h = end_before p place next lines e h

-- all lines
none_left : (p : Fields) (place : Place) → Some place ≡ Some Ended → Left p place []
none_left p Ended e = refl
none_left p _ e = absurd cc

left_from : (p : Fields) (place : Place) (lines : List Line) → placed p place lines ≡ Some Ended → Left p place lines
left_from p place [] e = none_left p place e
left_from p place (line ∷ lines) e =
    let (next, at, f) = some_of (behind p place line) (λ q. placed p q lines) Ended e in
    line_before p place line next lines at (left_from p next lines f)

pub accepted_is_report : (p : Fields) (lines : List Line) → placed p Begun lines ≡ Some Ended → (r : Report) × IsReport p r × (report_lines r ≡ lines)
accepted_is_report p lines e = left_from p Begun lines e
