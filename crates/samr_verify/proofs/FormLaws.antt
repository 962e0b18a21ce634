-- A report of the grammar is accepted line by line, and from each place that accepted lines lead to there are lines to the end.
use Rattle.std.proofs.Common.{◌≡◌, ℕ, zero, suc, ◌+◌, ◌<◌, ◌≤◌, refl, sym, ap, ◌∙◌, subst, inl, inr, arith, map, append_assoc, append-nil}
use Rattle.std.proofs.lemmas.Bool.{false≢true, eq-eqb, eqb-true, lt-ltb, ltb-true, le-leb, leb-true, and_from, and_parts}
use Rattle.std.specs.Prelude.{pos, ◌-◌, Bool, true, false, ◌&&◌, ◌==◌, nat_lt, nat_le, Option, Some, None, List, [], ◌∷◌, ◌++◌, length, if◌then◌else◌}
use Rattle.std.specs.List.{flat_map, enumerate_from}
use Rattle.samr_box.specs.Vector.{alike}
use Rattle.samr_box.specs.Lists.{Member}
use Rattle.samr_level.specs.Refs.{Owned, Link}
use Rattle.samr_problem.specs.Fields.{Fields}
use Rattle.samr_report.specs.Report.{is_told}
use Rattle.samr_verify.specs.declared.line.Line.{Line}
use Rattle.samr_verify.specs.declared.line.Line.TheVariants.{First, Step, LevelOf, BoxOf, EdgeOf, RowOf, SumOf, ProbeOf, End}
use Rattle.samr_verify.specs.declared.line.PrintedRow.{PrintedRow}
use Rattle.samr_verify.specs.declared.place.Place.{Place}
use Rattle.samr_verify.specs.declared.place.Place.TheVariants.{Begun, Headed, Stepped, Levelled, Boxed, Edged, Listed, Summed, Probed, Ended}
use Rattle.samr_verify.specs.Form.{LevelPart, StepPart, Report, level_lines, step_lines, report_lines, is_sum, is_probe, IsStepPart, IsReport, if_some, whole_mesh, whole_step, where_true, begins_step, begins_level, with_box, with_edge, with_row, if_begun, behind, placed, is_ended, next_fault, form_fault}

-- some lines, and then others
pub placed-append : (p : Fields) (place : Place) (xs ys : List Line) → placed p place (xs ++ ys) ≡ if_some (placed p place xs) (λ next. placed p next ys)
placed-append p place [] ys = refl
placed-append p place (x ∷ xs) ys = by_next (behind p place x) (λ next. placed-append p next xs ys)
  where
    by_next : (o : Option Place) → ((next : Place) → placed p next (xs ++ ys) ≡ if_some (placed p next xs) (λ v. placed p v ys))
        → if_some o (λ next. placed p next (xs ++ ys)) ≡ if_some (if_some o (λ next. placed p next xs)) (λ v. placed p v ys)
    by_next None f = refl
    by_next (Some next) f = f next

joined : (p : Fields) (from to end : Place) (xs ys : List Line) → placed p from xs ≡ Some to → placed p to ys ≡ Some end → placed p from (xs ++ ys) ≡ Some end
joined p from to end xs ys e f = placed-append p from xs ys ∙ ap (λ (o : Option Place). if_some o (λ next. placed p next ys)) e ∙ f

one : (p : Fields) (from to end : Place) (x : Line) (ys : List Line) → behind p from x ≡ Some to → placed p to ys ≡ Some end → placed p from (x ∷ ys) ≡ Some end
one p from to end x ys e f = ap (λ (o : Option Place). if_some o (λ next. placed p next ys)) e ∙ f

passed : (t : Bool) (place : Place) → t ≡ true → where_true t place ≡ Some place
passed true place e = refl
passed false place e = absurd (false≢true e)

same : (n : ℕ) → (n == n) ≡ true
same n = eq-eqb n n refl

-- boxes
boxes_on : (p : Fields) (t l : ℕ) (boxes : List Owned) → placed p (Boxed t l) (map (BoxOf l) boxes) ≡ Some (Boxed t l)
unfolding behind
boxes_on p t l [] = refl
boxes_on p t l (b ∷ bs) = one p (Boxed t l) (Boxed t l) (Boxed t l) (BoxOf l b) (map (BoxOf l) bs) (passed (l == l) (Boxed t l) (same l)) (boxes_on p t l bs)

boxes_from : (p : Fields) (t l : ℕ) (boxes : List Owned) → 0 < length boxes → placed p (Levelled t l) (map (BoxOf l) boxes) ≡ Some (Boxed t l)
unfolding behind
boxes_from p t l [] h = absurd (omega (arith, h))
boxes_from p t l (b ∷ bs) h = one p (Levelled t l) (Boxed t l) (Boxed t l) (BoxOf l b) (map (BoxOf l) bs) (passed (l == l) (Boxed t l) (same l)) (boxes_on p t l bs)

-- edges and schedule lines
edges_on : (p : Fields) (t l : ℕ) (edges : List (ℕ × Link)) → placed p (Edged t l) (map (λ d. EdgeOf l d.0 d.1) edges) ≡ Some (Edged t l)
unfolding behind
edges_on p t l [] = refl
edges_on p t l (e ∷ es) =
    one p (Edged t l) (Edged t l) (Edged t l) (EdgeOf l e.0 e.1) (map (λ d. EdgeOf l d.0 d.1) es) (passed (l == l) (Edged t l) (same l)) (edges_on p t l es)

rows_on : (p : Fields) (t l : ℕ) (rows : List PrintedRow) → placed p (Listed t l) (map (RowOf l) rows) ≡ Some (Listed t l)
unfolding behind
rows_on p t l [] = refl
rows_on p t l (r ∷ rs) = one p (Listed t l) (Listed t l) (Listed t l) (RowOf l r) (map (RowOf l) rs) (passed (l == l) (Listed t l) (same l)) (rows_on p t l rs)

-- a place behind a level: where its boxes, its edges or its rows end
pub record IsLevelEnd (p : Fields) (t l : ℕ) (place : Place) : Type 0 where
  pub sums : whole_mesh p place ≡ Some t
  pub step : whole_step p place ≡ Some t
  pub next : (boxes cells : ℕ) → suc l < p.levels → behind p place (LevelOf (l + 1) boxes cells) ≡ Some (Levelled t (l + 1))

up : (p : Fields) (t l : ℕ) → suc l < p.levels → where_true (((l + 1) == (l + 1)) && nat_lt (l + 1) p.levels) (Levelled t (l + 1)) ≡ Some (Levelled t (l + 1))
up p t l h =
    let less : l + 1 < p.levels = omega (arith, h) in
    passed (((l + 1) == (l + 1)) && nat_lt (l + 1) p.levels) (Levelled t (l + 1)) (and_from ((l + 1) == (l + 1)) (nat_lt (l + 1) p.levels) (same (l + 1)) (lt-ltb (l + 1) p.levels less))

boxes_end : (p : Fields) (t l : ℕ) → IsLevelEnd p t l (Boxed t l)
unfolding behind
boxes_end p t l = record { sums = refl; step = refl; next = λ b c h. up p t l h }

edges_end : (p : Fields) (t l : ℕ) → IsLevelEnd p t l (Edged t l)
unfolding behind
edges_end p t l = record { sums = refl; step = refl; next = λ b c h. up p t l h }

rows_end : (p : Fields) (t l : ℕ) → IsLevelEnd p t l (Listed t l)
unfolding behind
rows_end p t l = record { sums = refl; step = refl; next = λ b c h. up p t l h }

-- what some lines lead to
abbrev Leads : Fields → Place → List Line → (Place → Type 0) → Type 0
Leads p from lines Is = (place : Place) × (placed p from lines ≡ Some place) × Is place

leads_on : (p : Fields) (from middle : Place) (xs ys : List Line) (Is : Place → Type 0) → placed p from xs ≡ Some middle → Leads p middle ys Is → Leads p from (xs ++ ys) Is
leads_on p from middle xs ys Is e (place, f, is) = (place, joined p from middle place xs ys e f, is)

rows_after_boxes : (p : Fields) (t l : ℕ) (rows : List PrintedRow) → Leads p (Boxed t l) (map (RowOf l) rows) (IsLevelEnd p t l)
unfolding behind
rows_after_boxes p t l [] = (Boxed t l, refl, boxes_end p t l)
rows_after_boxes p t l (r ∷ rs) =
    (Listed t l, one p (Boxed t l) (Listed t l) (Listed t l) (RowOf l r) (map (RowOf l) rs) (passed (l == l) (Listed t l) (same l)) (rows_on p t l rs), rows_end p t l)

rows_after_edges : (p : Fields) (t l : ℕ) (rows : List PrintedRow) → Leads p (Edged t l) (map (RowOf l) rows) (IsLevelEnd p t l)
unfolding behind
rows_after_edges p t l [] = (Edged t l, refl, edges_end p t l)
rows_after_edges p t l (r ∷ rs) =
    (Listed t l, one p (Edged t l) (Listed t l) (Listed t l) (RowOf l r) (map (RowOf l) rs) (passed (l == l) (Listed t l) (same l)) (rows_on p t l rs), rows_end p t l)

after_boxes : (p : Fields) (t l : ℕ) (edges : List (ℕ × Link)) (rows : List PrintedRow)
    → Leads p (Boxed t l) (map (λ d. EdgeOf l d.0 d.1) edges ++ map (RowOf l) rows) (IsLevelEnd p t l)
unfolding behind
after_boxes p t l [] rows = rows_after_boxes p t l rows
after_boxes p t l (e ∷ es) rows =
    leads_on p (Boxed t l) (Edged t l) (map (λ d. EdgeOf l d.0 d.1) (e ∷ es)) (map (RowOf l) rows) (IsLevelEnd p t l)
    (one p (Boxed t l) (Edged t l) (Edged t l) (EdgeOf l e.0 e.1) (map (λ d. EdgeOf l d.0 d.1) es) (passed (l == l) (Edged t l) (same l)) (edges_on p t l es))
    (rows_after_edges p t l rows)

-- a level
level_from : (p : Fields) (t l : ℕ) (from : Place) (part : LevelPart) → 0 < length part.boxes
    → behind p from (LevelOf l part.boxes_told part.cells_told) ≡ Some (Levelled t l) → Leads p from (level_lines (l, part)) (IsLevelEnd p t l)
level_from p t l from part some e =
    let rest = after_boxes p t l part.edges part.rows in
    let boxes = leads_on p (Levelled t l) (Boxed t l) (map (BoxOf l) part.boxes) (map (λ d. EdgeOf l d.0 d.1) part.edges ++ map (RowOf l) part.rows) (IsLevelEnd p t l)
    (boxes_from p t l part.boxes some) rest in
    let grouped : placed p (Levelled t l) (map (BoxOf l) part.boxes ++ map (λ d. EdgeOf l d.0 d.1) part.edges ++ map (RowOf l) part.rows) ≡ Some boxes.0 =
    ap (placed p (Levelled t l)) (append_assoc (map (BoxOf l) part.boxes) (map (λ d. EdgeOf l d.0 d.1) part.edges) (map (RowOf l) part.rows)) ∙ boxes.1 in
    (boxes.0, cons_append p from (Levelled t l) boxes.0 l part e grouped, boxes.2)
  where
    cons_append : (p : Fields) (from middle end : Place) (l : ℕ) (part : LevelPart) → behind p from (LevelOf l part.boxes_told part.cells_told) ≡ Some middle
        → placed p middle (map (BoxOf l) part.boxes ++ map (λ d. EdgeOf l d.0 d.1) part.edges ++ map (RowOf l) part.rows) ≡ Some end
        → placed p from (level_lines (l, part)) ≡ Some end
    cons_append p from middle end l part e f = one p from middle end (LevelOf l part.boxes_told part.cells_told) (map (BoxOf l) part.boxes ++ map (λ d. EdgeOf l d.0 d.1) part.edges ++ map (RowOf l) part.rows) e f

-- the levels above a level
levels_from : (p : Fields) (t l : ℕ) (from : Place) (parts : List LevelPart) → l + length parts < p.levels → ((part : LevelPart) → Member part parts → 0 < length part.boxes)
    → IsLevelEnd p t l from → Leads p from (flat_map level_lines (enumerate_from (l + 1) parts)) (λ place. (k : ℕ) × IsLevelEnd p t k place)
levels_from p t l from [] few some here = (from, refl, (l, here))
levels_from p t l from (part ∷ parts) few some here =
    let first = level_from p t (l + 1) from part (some part (inl refl)) (here.next part.boxes_told part.cells_told (omega (arith, few))) in
    let rest = levels_from p t (l + 1) first.0 parts (omega (arith, few)) (λ q m. some q (inr m)) first.2 in
    leads_on p from first.0 (level_lines (l + 1, part)) (flat_map level_lines (enumerate_from (l + 1 + 1) parts)) (λ place. (k : ℕ) × IsLevelEnd p t k place) first.1 rest

nil_cons : {X : Type 0} {x : X} {xs : List X} → [] ≡ x ∷ xs → ⊥
nil_cons e = cc

none_some : {X : Type 0} {x : X} → None ≡ Some x → ⊥
none_some e = cc

-- behind the mesh part of a step
pub record IsMeshEnd (p : Fields) (t : ℕ) (place : Place) : Type 0 where
  pub sums : whole_mesh p place ≡ Some t
  pub step : whole_step p place ≡ Some t

mesh_from : (p : Fields) (t : ℕ) (part : StepPart) → IsStepPart p t part → 0 < p.levels → Leads p (Stepped t) (flat_map level_lines (enumerate_from 0 part.levels)) (IsMeshEnd p t)
unfolding behind
mesh_from p t part is some = by_told (is_told p t) refl part.levels refl
  where
    silent_end : is_told p t ≡ false → IsMeshEnd p t (Stepped t)
    silent_end e = record { sums = ap (λ (v : Bool). let o : Option ℕ = if v then None else Some t in o) e; step = ap (λ (v : Bool). let o : Option ℕ = if v then None else Some t in o) e }

    by_told : (v : Bool) → is_told p t ≡ v → (levels : List LevelPart) → part.levels ≡ levels → Leads p (Stepped t) (flat_map level_lines (enumerate_from 0 levels)) (IsMeshEnd p t)
    by_told false e [] f = (Stepped t, refl, silent_end e)
    by_told true e [] f = let h = is.told e in absurd (omega (arith, h, ap length f))
    by_told false e (level ∷ levels) f = absurd (nil_cons (sym (is.silent e) ∙ f))
    by_told true e (level ∷ levels) f =
        let few : length (level ∷ levels) ≤ p.levels = subst (λ (l : List LevelPart). length l ≤ p.levels) f is.few in
        let boxes : (q : LevelPart) → Member q (level ∷ levels) → 0 < length q.boxes = subst (λ (l : List LevelPart). (q : LevelPart) → Member q l → 0 < length q.boxes) f is.boxes in
        let begin : behind p (Stepped t) (LevelOf 0 level.boxes_told level.cells_told) ≡ Some (Levelled t 0) =
        passed (is_told p t && ((0 == 0) && nat_lt 0 p.levels)) (Levelled t 0) (and_from (is_told p t) ((0 == 0) && nat_lt 0 p.levels) e (and_from (0 == 0) (nat_lt 0 p.levels) (same 0) (lt-ltb 0 p.levels some))) in
        let first = level_from p t 0 (Stepped t) level (boxes level (inl refl)) begin in
        let rest = levels_from p t 0 first.0 levels (omega (arith, few)) (λ q m. boxes q (inr m)) first.2 in
        let all = leads_on p (Stepped t) first.0 (level_lines (0, level)) (flat_map level_lines (enumerate_from (0 + 1) levels)) (λ place. (k : ℕ) × IsLevelEnd p t k place) first.1 rest in
        (all.0, all.1, record { sums = all.2.1.sums; step = all.2.1.step })

-- sums and probes
sum_behind : (p : Fields) (t : ℕ) (place : Place) (line : Line) → whole_mesh p place ≡ Some t → is_sum line ≡ true → behind p place line ≡ Some (Summed t)
unfolding behind
sum_behind p t place (SumOf f l b v) e h = ap (λ (o : Option ℕ). if_some o (λ s. Some (Summed s))) e
sum_behind p t place _ e h = absurd (false≢true h)

probe_behind : (p : Fields) (t : ℕ) (place : Place) (line : Line) → whole_step p place ≡ Some t → is_probe line ≡ true → behind p place line ≡ Some (Probed t)
unfolding behind
probe_behind p t place (ProbeOf f n v) e h = ap (λ (o : Option ℕ). if_some o (λ s. Some (Probed s))) e
probe_behind p t place _ e h = absurd (false≢true h)

sums_from : (p : Fields) (t : ℕ) (from : Place) (lines : List Line) → ((line : Line) → Member line lines → is_sum line ≡ true) → IsMeshEnd p t from → Leads p from lines (IsMeshEnd p t)
sums_from p t from [] all here = (from, refl, here)
sums_from p t from (line ∷ lines) all here =
    let rest = sums_from p t (Summed t) lines (λ l m. all l (inr m)) (record { sums = refl; step = refl }) in
    (rest.0, one p from (Summed t) rest.0 line lines (sum_behind p t from line here.sums (all line (inl refl))) rest.1, rest.2)

probes_from : (p : Fields) (t : ℕ) (from : Place) (lines : List Line) → ((line : Line) → Member line lines → is_probe line ≡ true) → whole_step p from ≡ Some t
    → Leads p from lines (λ place. whole_step p place ≡ Some t)
probes_from p t from [] all here = (from, refl, here)
probes_from p t from (line ∷ lines) all here =
    let rest = probes_from p t (Probed t) lines (λ l m. all l (inr m)) refl in
    (rest.0, one p from (Probed t) rest.0 line lines (probe_behind p t from line here (all line (inl refl))) rest.1, rest.2)

-- a step, and all steps from one on
step_from : (p : Fields) (t : ℕ) (from : Place) (part : StepPart) → 0 < p.levels → IsStepPart p t part → begins_step p t from ≡ Some (Stepped t)
    → Leads p from (step_lines (t, part)) (λ place. whole_step p place ≡ Some t)
unfolding behind
step_from p t from part some is e =
    let mesh = mesh_from p t part is some in
    let sums = sums_from p t mesh.0 part.sums is.sums mesh.2 in
    let probes = probes_from p t sums.0 part.probes is.probes sums.2.step in
    let two = joined p (Stepped t) mesh.0 sums.0 (flat_map level_lines (enumerate_from 0 part.levels)) part.sums mesh.1 sums.1 in
    let three = joined p (Stepped t) sums.0 probes.0 (flat_map level_lines (enumerate_from 0 part.levels) ++ part.sums) part.probes two probes.1 in
    (probes.0, one p from (Stepped t) probes.0 (Step t) (flat_map level_lines (enumerate_from 0 part.levels) ++ part.sums ++ part.probes) e three, probes.2)

begins_later : (p : Fields) (t s : ℕ) (place : Place) → whole_step p place ≡ Some s → begins_step p t place ≡ where_true ((t == s + 1) && nat_le t p.steps) (Stepped t)
begins_later p t s Headed e = absurd (none_some e)
begins_later p t s place e = ap (λ (o : Option ℕ). if_some o (λ s. where_true ((t == s + 1) && nat_le t p.steps) (Stepped t))) e

steps_from : (p : Fields) (t : ℕ) (from : Place) (part : StepPart) (parts : List StepPart) → 0 < p.levels → t + length parts ≡ p.steps
    → ((e : ℕ × StepPart) → Member e (enumerate_from t (part ∷ parts)) → IsStepPart p e.0 e.1) → begins_step p t from ≡ Some (Stepped t)
    → Leads p from (flat_map step_lines (enumerate_from t (part ∷ parts))) (λ place. whole_step p place ≡ Some p.steps)
steps_from p t from part [] some count is e =
    let first = step_from p t from part some (is (t, part) (inl refl)) e in
    let last : t ≡ p.steps = omega (arith, count) in
    (first.0, ap (placed p from) (append-nil (step_lines (t, part))) ∙ first.1, subst (λ n. whole_step p first.0 ≡ Some n) last first.2)
steps_from p t from part (next ∷ parts) some count is e =
    let first = step_from p t from part some (is (t, part) (inl refl)) e in
    let more : t + 1 + length parts ≡ p.steps = omega (arith, count) in
    let below : t + 1 ≤ p.steps = omega (arith, count) in
    let begin : begins_step p (t + 1) first.0 ≡ Some (Stepped (t + 1)) =
    begins_later p (t + 1) t first.0 first.2
    ∙ passed (((t + 1) == (t + 1)) && nat_le (t + 1) p.steps) (Stepped (t + 1)) (and_from ((t + 1) == (t + 1)) (nat_le (t + 1) p.steps) (same (t + 1)) (le-leb (t + 1) p.steps below)) in
    let rest = steps_from p (t + 1) first.0 next parts some more (λ v m. is v (inr m)) begin in
    leads_on p from first.0 (step_lines (t, part)) (flat_map step_lines (enumerate_from (t + 1) (next ∷ parts))) (λ place. whole_step p place ≡ Some p.steps) first.1 rest

all_steps : (p : Fields) (ranks levels : ℕ) (steps : List StepPart) → 0 < p.levels → length steps ≡ p.steps + 1
    → ((e : ℕ × StepPart) → Member e (enumerate_from 0 steps) → IsStepPart p e.0 e.1)
    → Leads p Headed (flat_map step_lines (enumerate_from 0 steps)) (λ place. whole_step p place ≡ Some p.steps)
all_steps p ranks levels [] some count is = absurd (omega (arith, count))
all_steps p ranks levels (part ∷ parts) some count is = steps_from p 0 Headed part parts some (omega (arith, count)) is refl

pub reports_accepted : (p : Fields) (r : Report) → 0 < p.levels → IsReport p r → placed p Begun (report_lines r) ≡ Some Ended
unfolding behind
reports_accepted p r some is =
    let steps = all_steps p r.ranks r.levels r.steps some is.steps is.parts in
    let last : behind p steps.0 End ≡ Some Ended = ap (λ (o : Option ℕ). if_some o (λ t. where_true (t == p.steps) Ended)) steps.2 ∙ passed (p.steps == p.steps) Ended (same p.steps) in
    one p Begun Headed Ended (First r.ranks r.levels r.width) (flat_map step_lines (enumerate_from 0 r.steps) ++ End ∷ []) refl
    (joined p Headed steps.0 Ended (flat_map step_lines (enumerate_from 0 r.steps)) (End ∷ []) steps.1 (one p steps.0 Ended Ended End [] last refl))

-- Where a text can stand, and that it can go on from there.
abbrev IsAt : Fields → Place → Type 0
IsAt p Begun = Unit {0}
IsAt p Headed = Unit {0}
IsAt p (Stepped t) = t ≤ p.steps
IsAt p (Levelled t l) = (t ≤ p.steps) × (l < p.levels)
IsAt p (Boxed t l) = (t ≤ p.steps) × (l < p.levels)
IsAt p (Edged t l) = (t ≤ p.steps) × (l < p.levels)
IsAt p (Listed t l) = (t ≤ p.steps) × (l < p.levels)
IsAt p (Summed t) = t ≤ p.steps
IsAt p (Probed t) = t ≤ p.steps
IsAt p Ended = Unit {0}

some_same : {X : Type 0} {x y : X} → Some x ≡ Some y → x ≡ y
some_same e = cc

true_of : (t : Bool) (place next : Place) → where_true t place ≡ Some next → (t ≡ true) × (place ≡ next)
true_of true place next e = (refl, some_same e)
true_of false place next e = absurd (none_some e)

some_of : (o : Option ℕ) (f : ℕ → Option Place) (next : Place) → if_some o f ≡ Some next → (n : ℕ) × (o ≡ Some n) × (f n ≡ Some next)
some_of None f next e = absurd (none_some e)
some_of (Some n) f next e = (n, refl, e)

-- the step that ends at a place is one of the problem's
told_step : (v : Bool) (t s n : ℕ) → (if v then None else Some t) ≡ Some s → t ≤ n → s ≤ n
told_step true t s n e h = absurd (none_some e)
told_step false t s n e h = subst (λ k. k ≤ n) (some_same e) h

mesh_step : (p : Fields) (place : Place) (s : ℕ) → IsAt p place → whole_mesh p place ≡ Some s → s ≤ p.steps
mesh_step p (Stepped t) s h e = told_step (is_told p t) t s p.steps e h
mesh_step p (Boxed t l) s h e = subst (λ k. k ≤ p.steps) (some_same e) h.0
mesh_step p (Edged t l) s h e = subst (λ k. k ≤ p.steps) (some_same e) h.0
mesh_step p (Listed t l) s h e = subst (λ k. k ≤ p.steps) (some_same e) h.0
mesh_step p (Summed t) s h e = subst (λ k. k ≤ p.steps) (some_same e) h
mesh_step p _ s h e = absurd (none_some e)

step_step : (p : Fields) (place : Place) (s : ℕ) → IsAt p place → whole_step p place ≡ Some s → s ≤ p.steps
step_step p (Probed t) s h e = subst (λ k. k ≤ p.steps) (some_same e) h
step_step p place s h e = mesh_step p place s h e

later_step : (p : Fields) (t : ℕ) (o : Option ℕ) (next : Place) → if_some o (λ s. where_true ((t == s + 1) && nat_le t p.steps) (Stepped t)) ≡ Some next → IsAt p next
later_step p t o next e =
    let s = some_of o (λ s. where_true ((t == s + 1) && nat_le t p.steps) (Stepped t)) next e in
    let r = true_of ((t == s.0 + 1) && nat_le t p.steps) (Stepped t) next s.2 in
    let b = and_parts (t == s.0 + 1) (nat_le t p.steps) r.0 in
    subst (IsAt p) r.1 (leb-true t p.steps b.1)

step_kept : (p : Fields) (t : ℕ) (place next : Place) → IsAt p place → begins_step p t place ≡ Some next → IsAt p next
step_kept p t Headed next h e =
    let r = true_of (t == 0) (Stepped t) next e in
    let z = eqb-true t 0 r.0 in
    let low : t ≤ p.steps = omega (arith, z) in
    subst (IsAt p) r.1 low
step_kept p t place next h e = later_step p t (whole_step p place) next e

up_kept : (p : Fields) (t k l : ℕ) (next : Place) → t ≤ p.steps → where_true ((l == k + 1) && nat_lt l p.levels) (Levelled t l) ≡ Some next → IsAt p next
up_kept p t k l next h e =
    let r = true_of ((l == k + 1) && nat_lt l p.levels) (Levelled t l) next e in
    let b = and_parts (l == k + 1) (nat_lt l p.levels) r.0 in
    subst (IsAt p) r.1 (h, ltb-true l p.levels b.1)

level_kept : (p : Fields) (l : ℕ) (place next : Place) → IsAt p place → begins_level p l place ≡ Some next → IsAt p next
level_kept p l (Stepped t) next h e =
    let r = true_of (is_told p t && ((l == 0) && nat_lt 0 p.levels)) (Levelled t l) next e in
    let b = and_parts (is_told p t) ((l == 0) && nat_lt 0 p.levels) r.0 in
    let d = and_parts (l == 0) (nat_lt 0 p.levels) b.1 in
    let z = eqb-true l 0 d.0 in
    let some = ltb-true 0 p.levels d.1 in
    let low : l < p.levels = omega (arith, z, some) in
    subst (IsAt p) r.1 (h, low)
level_kept p l (Boxed t k) next h e = up_kept p t k l next h.0 e
level_kept p l (Edged t k) next h e = up_kept p t k l next h.0 e
level_kept p l (Listed t k) next h e = up_kept p t k l next h.0 e
level_kept p l _ next h e = absurd (none_some e)

box_kept : (p : Fields) (l : ℕ) (place next : Place) → IsAt p place → with_box l place ≡ Some next → IsAt p next
box_kept p l (Levelled t k) next h e = let r = true_of (l == k) (Boxed t k) next e in subst (IsAt p) r.1 h
box_kept p l (Boxed t k) next h e = let r = true_of (l == k) (Boxed t k) next e in subst (IsAt p) r.1 h
box_kept p l _ next h e = absurd (none_some e)

edge_kept : (p : Fields) (l : ℕ) (place next : Place) → IsAt p place → with_edge l place ≡ Some next → IsAt p next
edge_kept p l (Boxed t k) next h e = let r = true_of (l == k) (Edged t k) next e in subst (IsAt p) r.1 h
edge_kept p l (Edged t k) next h e = let r = true_of (l == k) (Edged t k) next e in subst (IsAt p) r.1 h
edge_kept p l _ next h e = absurd (none_some e)

row_kept : (p : Fields) (l : ℕ) (place next : Place) → IsAt p place → with_row l place ≡ Some next → IsAt p next
row_kept p l (Boxed t k) next h e = let r = true_of (l == k) (Listed t k) next e in subst (IsAt p) r.1 h
row_kept p l (Edged t k) next h e = let r = true_of (l == k) (Listed t k) next e in subst (IsAt p) r.1 h
row_kept p l (Listed t k) next h e = let r = true_of (l == k) (Listed t k) next e in subst (IsAt p) r.1 h
row_kept p l _ next h e = absurd (none_some e)

begun_kept : (p : Fields) (place next : Place) → if_begun place ≡ Some next → IsAt p next
begun_kept p Begun next e = subst (IsAt p) (some_same e) tt
begun_kept p _ next e = absurd (none_some e)

kept : (p : Fields) (place next : Place) (line : Line) → IsAt p place → behind p place line ≡ Some next → IsAt p next
unfolding behind
kept p place next (First ranks levels width) h e = begun_kept p place next e
kept p place next (Step t) h e = step_kept p t place next h e
kept p place next (LevelOf l boxes cells) h e = level_kept p l place next h e
kept p place next (BoxOf l b) h e = box_kept p l place next h e
kept p place next (EdgeOf l m d) h e = edge_kept p l place next h e
kept p place next (RowOf l row) h e = row_kept p l place next h e
kept p place next (SumOf f l b v) h e =
    let s = some_of (whole_mesh p place) (λ t. Some (Summed t)) next e in
    subst (IsAt p) (some_same s.2) (mesh_step p place s.0 h s.1)
kept p place next (ProbeOf f n v) h e =
    let s = some_of (whole_step p place) (λ t. Some (Probed t)) next e in
    subst (IsAt p) (some_same s.2) (step_step p place s.0 h s.1)
kept p place next End h e =
    let s = some_of (whole_step p place) (λ t. where_true (t == p.steps) Ended) next e in
    let r = true_of (s.0 == p.steps) Ended next s.2 in
    subst (IsAt p) r.1 tt

all_kept : (p : Fields) (place to : Place) (lines : List Line) → IsAt p place → placed p place lines ≡ Some to → IsAt p to
all_kept p place to [] h e = subst (IsAt p) (some_same e) h
all_kept p place to (line ∷ lines) h e = by_next (behind p place line) refl e (λ next at f. all_kept p next to lines at f)
  where
    by_next : (o : Option Place) → behind p place line ≡ o → if_some o (λ next. placed p next lines) ≡ Some to
        → ((next : Place) → IsAt p next → placed p next lines ≡ Some to → IsAt p to) → IsAt p to
    by_next None b e rest = absurd (none_some e)
    by_next (Some next) b e rest = rest next (kept p place next line h b) e

-- simple parts for the steps that are left
no_box : Owned
no_box = record { owner = 0; bx = record { lo = alike (pos 0); hi = alike (pos 0) } }

one_level : LevelPart
one_level = record { boxes_told = 0; cells_told = 0; boxes = no_box ∷ []; edges = []; rows = [] }

abbrev simple : Fields → ℕ → StepPart
simple p t = record { levels = if is_told p t then one_level ∷ [] else []; sums = []; probes = [] }

abbrev simple_from : Fields → ℕ → ℕ → List StepPart
simple_from p t zero = []
simple_from p t (suc n) = simple p t ∷ simple_from p (t + 1) n

only : (level : LevelPart) → Member level (one_level ∷ []) → 0 < length level.boxes
unfolding one_level
only level (inl e) = subst (λ (q : LevelPart). 0 < length q.boxes) (sym e) (omega arith)
only level (inr m) = absurd m

simple_is : (p : Fields) (t : ℕ) → 0 < p.levels → IsStepPart p t (simple p t)
unfolding one_level
simple_is p t some = by_told (is_told p t) refl
  where
    by_told : (v : Bool) → is_told p t ≡ v → IsStepPart p t (record { levels = if v then one_level ∷ [] else []; sums = []; probes = [] })
    by_told true e = record {
      told = λ h. omega arith;
      silent = λ h. absurd (false≢true (sym h ∙ e));
      few = omega (arith, some);
      boxes = λ level m. only level m;
      sums = λ line m. absurd m;
      probes = λ line m. absurd m;
    }
    by_told false e = record {
      told = λ h. absurd (false≢true (sym e ∙ h));
      silent = λ h. refl;
      few = omega arith;
      boxes = λ level m. absurd m;
      sums = λ line m. absurd m;
      probes = λ line m. absurd m;
    }

simple_each : (p : Fields) (t n : ℕ) → 0 < p.levels → (e : ℕ × StepPart) → Member e (enumerate_from t (simple_from p t n)) → IsStepPart p e.0 e.1
simple_each p t zero some e m = absurd m
simple_each p t (suc n) some e (inl q) = subst (λ (v : ℕ × StepPart). IsStepPart p v.0 v.1) (sym q) (simple_is p t some)
simple_each p t (suc n) some e (inr m) = simple_each p (t + 1) n some e m

simple_count : (p : Fields) (t n : ℕ) → length (simple_from p t n) ≡ n
simple_count p t zero = refl
simple_count p t (suc n) = ap suc (simple_count p (t + 1) n)

abbrev GoesOn : Fields → Place → Type 0
GoesOn p place = (more : List Line) × (placed p place more ≡ Some Ended)

ends : (p : Fields) (place : Place) → whole_step p place ≡ Some p.steps → placed p place (End ∷ []) ≡ Some Ended
unfolding behind
ends p place e =
    let last : behind p place End ≡ Some Ended = ap (λ (o : Option ℕ). if_some o (λ t. where_true (t == p.steps) Ended)) e ∙ passed (p.steps == p.steps) Ended (same p.steps) in
    one p place Ended Ended End [] last refl

-- from the place behind a step
steps_left : (p : Fields) (t n : ℕ) (place : Place) → 0 < p.levels → t + n ≡ p.steps → whole_step p place ≡ Some t → GoesOn p place
steps_left p t zero place some count e =
    let last : t ≡ p.steps = omega (arith, count) in
    (End ∷ [], ends p place (subst (λ k. whole_step p place ≡ Some k) last e))
steps_left p t (suc n) place some count e =
    let below : t + 1 ≤ p.steps = omega (arith, count) in
    let begin : begins_step p (t + 1) place ≡ Some (Stepped (t + 1)) =
    begins_later p (t + 1) t place e
    ∙ passed (((t + 1) == (t + 1)) && nat_le (t + 1) p.steps) (Stepped (t + 1)) (and_from ((t + 1) == (t + 1)) (nat_le (t + 1) p.steps) (same (t + 1)) (le-leb (t + 1) p.steps below)) in
    let parts = simple_from p (t + 1 + 1) n in
    let long = simple_count p (t + 1 + 1) n in
    let rest = steps_from p (t + 1) place (simple p (t + 1)) parts some (omega (arith, count, long)) (simple_each p (t + 1) (suc n) some) begin in (
      flat_map step_lines (enumerate_from (t + 1) (simple_from p (t + 1) (suc n))) ++ End ∷ [],
      joined p place rest.0 Ended (flat_map step_lines (enumerate_from (t + 1) (simple_from p (t + 1) (suc n)))) (End ∷ []) rest.1 (ends p rest.0 rest.2),
    )

from_step : (p : Fields) (t : ℕ) (place : Place) → 0 < p.levels → t ≤ p.steps → whole_step p place ≡ Some t → GoesOn p place
from_step p t place some h e = let count : t + (p.steps - t) ≡ p.steps = omega (arith, h) in steps_left p t (p.steps - t) place some count e

from_level : (p : Fields) (t l : ℕ) → 0 < p.levels → t ≤ p.steps → GoesOn p (Levelled t l)
unfolding behind
from_level p t l some h =
    let rest = from_step p t (Boxed t l) some h refl in
    (BoxOf l no_box ∷ rest.0, one p (Levelled t l) (Boxed t l) Ended (BoxOf l no_box) rest.0 (passed (l == l) (Boxed t l) (same l)) rest.1)

from_stepped : (p : Fields) (t : ℕ) → 0 < p.levels → t ≤ p.steps → GoesOn p (Stepped t)
unfolding behind
from_stepped p t some h = by_told (is_told p t) refl
  where
    by_told : (v : Bool) → is_told p t ≡ v → GoesOn p (Stepped t)
    by_told true e =
        let rest = from_level p t 0 some h in
        let begin : behind p (Stepped t) (LevelOf 0 0 0) ≡ Some (Levelled t 0) =
        passed (is_told p t && ((0 == 0) && nat_lt 0 p.levels)) (Levelled t 0) (and_from (is_told p t) ((0 == 0) && nat_lt 0 p.levels) e (and_from (0 == 0) (nat_lt 0 p.levels) (same 0) (lt-ltb 0 p.levels some))) in
        (LevelOf 0 0 0 ∷ rest.0, one p (Stepped t) (Levelled t 0) Ended (LevelOf 0 0 0) rest.0 begin rest.1)
    by_told false e = from_step p t (Stepped t) some h (ap (λ (v : Bool). let o : Option ℕ = if v then None else Some t in o) e)

from_headed : (p : Fields) → 0 < p.levels → GoesOn p Headed
unfolding behind
from_headed p some =
    let rest = from_stepped p 0 some (omega arith) in
    (Step 0 ∷ rest.0, one p Headed (Stepped 0) Ended (Step 0) rest.0 refl rest.1)

go_on : (p : Fields) (place : Place) → 0 < p.levels → IsAt p place → GoesOn p place
unfolding behind
go_on p Begun some h = let rest = from_headed p some in (First 1 1 (alike (pos 0)) ∷ rest.0, one p Begun Headed Ended (First 1 1 (alike (pos 0))) rest.0 refl rest.1)
go_on p Headed some h = from_headed p some
go_on p (Stepped t) some h = from_stepped p t some h
go_on p (Levelled t l) some h = from_level p t l some h.0
go_on p (Boxed t l) some h = from_step p t (Boxed t l) some h.0 refl
go_on p (Edged t l) some h = from_step p t (Edged t l) some h.0 refl
go_on p (Listed t l) some h = from_step p t (Listed t l) some h.0 refl
go_on p (Summed t) some h = from_step p t (Summed t) some h refl
go_on p (Probed t) some h = from_step p t (Probed t) some h refl
go_on p Ended some h = ([], refl)

pub lines_go_on : (p : Fields) (lines : List Line) (place : Place) → 0 < p.levels → placed p Begun lines ≡ Some place → (more : List Line) × (placed p place more ≡ Some Ended)
lines_go_on p lines place some e = go_on p place some (all_kept p Begun place lines tt e)

ended : (p : Fields) (place : Place) (n : ℕ) → place ≡ Ended → (if is_ended place then None else Some n) ≡ None
ended p place n e = subst (λ v. (if is_ended v then None else Some n) ≡ None) (sym e) refl

formed : (p : Fields) (place : Place) (n : ℕ) (lines : List Line) → placed p place lines ≡ Some Ended → form_fault p place n (map (λ l. Some l) lines) ≡ None
unfolding form_fault
formed p place n [] e = ended p place n (some_same e)
formed p place n (line ∷ lines) e = by_next (behind p place line) e (λ next f. formed p next (n + 1) lines f)
  where
    by_next : (o : Option Place) → if_some o (λ next. placed p next lines) ≡ Some Ended
        → ((next : Place) → placed p next lines ≡ Some Ended → form_fault p next (n + 1) (map (λ l. Some l) lines) ≡ None)
        → next_fault o n (λ next. form_fault p next (n + 1) (map (λ l. Some l) lines)) ≡ None
    by_next None e rest = absurd (none_some e)
    by_next (Some next) e rest = rest next e

pub reports_formed : (p : Fields) (r : Report) → 0 < p.levels → IsReport p r → form_fault p Begun 1 (map (λ l. Some l) (report_lines r)) ≡ None
reports_formed p r some is = formed p Begun 1 (report_lines r) (reports_accepted p r some is)
