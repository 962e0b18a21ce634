-- A text without fault is the text of a report whose meshes are sound.
use Rattle.std.proofs.Common.{◌≡◌, ℕ, ◌+◌, ◌<◌, ◌≤◌, List, [], ◌∷◌, ◌++◌, map, length, Bool, true, false, Option, Some, None, refl, sym, ap, subst, ◌∙◌, inl, inr, arith}
use Rattle.std.specs.Prelude.{◌==◌, nat_lt, if◌then◌else◌}
use Rattle.std.specs.List.{flat_map, enumerate_from}
use Rattle.std.proofs.lemmas.Bool.{and_parts, ltb-true}
use Rattle.std.proofs.lemmas.List.{length-map}
use Rattle.std.proofs.lemmas.Int.{ints}
use Rattle.samr_box.specs.Lists.{Member}
use Rattle.samr_box.specs.Corners.{IsBox}
use Rattle.samr_box.proofs.Members.{Member-map, Member-append_left, Member-append_right, Member-from_append}
use Rattle.samr_level.specs.Refs.{Owned, Link}
use Rattle.samr_problem.specs.Fields.{Fields}
use Rattle.samr_problem.specs.Problems.{IsProblem}
use Rattle.samr_verify.specs.declared.fault.Fault.{Fault}
use Rattle.samr_verify.specs.declared.line.Line.{Line}
use Rattle.samr_verify.specs.declared.line.Line.TheVariants.{BoxOf, EdgeOf, RowOf, End}
use Rattle.samr_verify.specs.declared.place.Place.TheVariants.{Begun}
use Rattle.samr_verify.specs.declared.printed.PrintedBox.{PrintedBox}
use Rattle.samr_verify.specs.declared.printed.PrintedLevel.{PrintedLevel}
use Rattle.samr_verify.specs.declared.verdict.Verdict.TheVariants.{Sound, Fault as Unsound}
use Rattle.samr_verify.specs.Faults.{first_of}
use Rattle.samr_verify.specs.MeshFaults.{mesh_fault}
use Rattle.samr_verify.specs.ReportLines.{IsLine, IsMeaning, IsPrinted, line_text}
use Rattle.samr_verify.specs.Cutting.{lines_of, AreMeanings, none, more}
use Rattle.samr_verify.specs.Form.{LevelPart, StepPart, level_lines, step_lines, report_lines, IsStepPart, form_fault}
use Rattle.samr_verify.specs.Printed.{boxes_in}
use Rattle.samr_verify.specs.Soundness.{ArePrinted}
use Rattle.samr_verify.specs.Verdicts.{printed_level, printed_levels, mesh_at, meshes_from, meshes, is_headed, verdict_by, IsVerdict, IsSoundText}
use Rattle.samr_verify.proofs.Accepting.{accepted_is_report}
use Rattle.samr_verify.proofs.GatheringLaws.{numbered-length, printed-length}
use Rattle.samr_verify.proofs.MeshLaws.{sound_is}
use Rattle.samr_verify.proofs.NoFaults.{all_none}
use Rattle.samr_verify.proofs.OneVerdict.{Accepted, accepted, by_fault}

abbrev AreRight : Fields → List Line → Type 0
AreRight p lines = (line : Line) → Member line lines → IsLine p.levels line

is_box : (b : Owned) → IsPrinted b → IsBox b.bx
is_box b h = record {
  low = record { k = omega (arith, ints, h.low.k); j = omega (arith, ints, h.low.j); i = omega (arith, ints, h.low.i) };
  order = h.order;
  high = record { k = omega (arith, ints, h.high.k); j = omega (arith, ints, h.high.j); i = omega (arith, ints, h.high.i) };
}

-- the boxes of a level
abbrev boxes_at : ℕ → List Owned → List Owned
boxes_at n bs = map (λ (v : PrintedBox). v.at) (map (λ b. let v : PrintedBox = record { line = b.0; at = b.1 } in v) (enumerate_from n bs))

printed_box : (p : Fields) (k n : ℕ) (bs : List Owned) (b : Owned) → AreRight p (map (BoxOf k) bs) → Member b (boxes_at n bs) → IsPrinted b
printed_box p k n [] b right m = absurd m
printed_box p k n (x ∷ xs) b right (inl is) = subst IsPrinted (sym is) (right (BoxOf k x) (inl refl)).1
printed_box p k n (x ∷ xs) b right (inr m) = printed_box p k (n + 1) xs b (λ line l. right line (inr l)) m

record IsFilled (v : PrintedLevel) : Type 0 where
  some : 0 < length v.boxes
  boxes : (b : Owned) → Member b (boxes_in v) → IsBox b.bx

level_filled : (p : Fields) (n : ℕ) (e : ℕ × LevelPart) → 0 < length e.1.boxes → AreRight p (level_lines e) → IsFilled (printed_level n e)
level_filled p n e some right =
    let bs = e.1.boxes in
    let numbered = length-map (enumerate_from (n + 1) bs) (λ b. let v : PrintedBox = record { line = b.0; at = b.1 } in v) ∙ numbered-length (n + 1) bs in
    record {
      some = omega (arith, some, numbered);
      boxes = λ b m. is_box b (printed_box p e.0 (n + 1) bs b
          (λ line l. right line (inr (Member-append_left line (map (BoxOf e.0) bs ++ map (λ (d : ℕ × Link). EdgeOf e.0 d.0 d.1) e.1.edges) (map (RowOf e.0) e.1.rows)
          (Member-append_left line (map (BoxOf e.0) bs) (map (λ (d : ℕ × Link). EdgeOf e.0 d.0 d.1) e.1.edges) l)))) m);
    }

levels_filled : (p : Fields) (n : ℕ) (es : List (ℕ × LevelPart)) → ((e : ℕ × LevelPart) → Member e es → 0 < length e.1.boxes) → AreRight p (flat_map level_lines es)
    → (v : PrintedLevel) → Member v (printed_levels n es) → IsFilled v
levels_filled p n [] some right v m = absurd m
levels_filled p n (e ∷ es) some right v (inl is) =
    subst IsFilled (sym is) (level_filled p n e (some e (inl refl)) (λ line l. right line (Member-append_left line (level_lines e) (flat_map level_lines es) l)))
levels_filled p n (e ∷ es) some right v (inr m) =
    levels_filled p (n + length (level_lines e)) es (λ x y. some x (inr y)) (λ line l. right line (Member-append_right line (level_lines e) (flat_map level_lines es) l)) v m

numbered_some : (n : ℕ) (levels : List LevelPart) → ((level : LevelPart) → Member level levels → 0 < length level.boxes) → (e : ℕ × LevelPart) → Member e (enumerate_from n levels) → 0 < length e.1.boxes
numbered_some n [] some e m = absurd m
numbered_some n (l ∷ ls) some e (inl is) = subst (λ (x : ℕ × LevelPart). 0 < length x.1.boxes) (sym is) (some l (inl refl))
numbered_some n (l ∷ ls) some e (inr m) = numbered_some (n + 1) ls (λ x y. some x (inr y)) e m

not_none : (n : ℕ) → (n == 0) ≡ false → 0 < n
not_none n is = grind (arith, is)

at_least : (n m : ℕ) → m ≡ n → 0 < n → 0 < m
at_least n m e some = omega (arith, e, some)

-- the mesh of a step
step_printed : (p : Fields) (n : ℕ) (e : ℕ × StepPart) → IsStepPart p e.0 e.1 → AreRight p (step_lines e) → (mesh : List PrintedLevel) → Member mesh (mesh_at n e.1) → ArePrinted p mesh
step_printed p n e is right mesh m = by_test (length e.1.levels == 0) refl m
  where
    es : List (ℕ × LevelPart)
    es = enumerate_from 0 e.1.levels

    vs : List PrintedLevel
    vs = printed_levels (n + 1) es

    long : length vs ≡ length e.1.levels
    long = printed-length (n + 1) es ∙ numbered-length 0 e.1.levels

    right_levels : AreRight p (flat_map level_lines es)
    right_levels line l =
        right line (inr (Member-append_left line (flat_map level_lines es ++ e.1.sums) e.1.probes (Member-append_left line (flat_map level_lines es) e.1.sums l)))

    filled : (v : PrintedLevel) → Member v vs → IsFilled v
    filled v l = levels_filled p (n + 1) es (numbered_some 0 e.1.levels is.boxes) right_levels v l

    printed : (length e.1.levels == 0) ≡ false → ArePrinted p vs
    printed other = record {
      some = at_least (length e.1.levels) (length vs) long (not_none (length e.1.levels) other);
      few = subst (λ k. k ≤ p.levels) (sym long) is.few;
      some_boxes = λ v l. (filled v l).some;
      boxes = λ v b l x. (filled v l).boxes b x;
    }

    by_test : (t : Bool) → (length e.1.levels == 0) ≡ t → Member mesh (if t then [] else vs ∷ []) → ArePrinted p mesh
    by_test true other m = absurd m
    by_test false other (inl is_mesh) = subst (ArePrinted p) (sym is_mesh) (printed other)
    by_test false other (inr none_else) = absurd none_else

meshes_printed : (p : Fields) (n : ℕ) (es : List (ℕ × StepPart)) → ((e : ℕ × StepPart) → Member e es → IsStepPart p e.0 e.1) → AreRight p (flat_map step_lines es)
    → (mesh : List PrintedLevel) → Member mesh (meshes_from n es) → ArePrinted p mesh
meshes_printed p n [] parts right mesh m = absurd m
meshes_printed p n (e ∷ es) parts right mesh m =
    elim (Member-from_append mesh (mesh_at n e.1) (meshes_from (n + length (step_lines e)) es) m) [
      | inl first ↦ step_printed p n e (parts e (inl refl)) (λ line l. right line (Member-append_left line (step_lines e) (flat_map step_lines es) l)) mesh first
      | inr later ↦ meshes_printed p (n + length (step_lines e)) es (λ x y. parts x (inr y)) (λ line l. right line (Member-append_right line (step_lines e) (flat_map step_lines es) l)) mesh later
    ]

-- what the meanings of lines tell of them
meant_lines : (p : Fields) (texts : List (List ℕ)) (lines : List Line) (os : List (Option Line)) → map (λ (l : Line). Some l) lines ≡ os → AreMeanings p.levels texts os
    → (texts ≡ map line_text lines) × AreRight p lines
meant_lines p _ [] _ same none = (refl, λ line m. absurd m)
meant_lines p _ [] _ same (more text o texts os a later) = absurd (cc same)
meant_lines p _ (l ∷ ls) _ same none = absurd (cc same)
meant_lines p _ (l ∷ ls) _ same (more text o texts os a later) =
    let head : Some l ≡ o = cc same in
    let tail : map (λ (x : Line). Some x) ls ≡ os = cc same in
    let rest = meant_lines p texts ls os tail later in
    let here : IsMeaning p.levels text (Some l) = subst (IsMeaning p.levels text) (sym head) a in
    (ap (λ t. t ∷ texts) here.1 ∙ ap (λ ts. line_text l ∷ ts) rest.0, λ line m. right_one line m here.0 rest.1)
  where
    right_one : (line : Line) → Member line (l ∷ ls) → IsLine p.levels l → AreRight p ls → IsLine p.levels line
    right_one line (inl is) one others = subst (IsLine p.levels) (sym is) one
    right_one line (inr m) one others = others line m

not_sound : (m b e k n : ℕ) → Sound m b e ≡ Unsound k n → ⊥
not_sound m b e k n is = cc is

no_fault : (o : Option Fault) (ms : List (List PrintedLevel)) (m b e : ℕ) → Sound m b e ≡ verdict_by o ms → o ≡ None
no_fault None ms m b e is = refl
no_fault (Some f) ms m b e is = absurd (not_sound m b e f.kind f.line is)

headed : (t : Bool) (o : Option Fault) (f : Fault) → (if t then o else Some f) ≡ None → (t ≡ true) × (o ≡ None)
headed true o f is = (refl, is)
headed false o f is = absurd (cc is)

pub sound_text : (p : Fields) (text : List ℕ) (m b e : ℕ) → IsProblem p → IsVerdict p text (Sound m b e) → IsSoundText p text
sound_text p text m b e problem v =
    by_fault (form_fault p Begun 1 v.lines)
    (λ n is. absurd (not_sound m b e 1 n (v.ill_formed n is)))
    (λ is. sound_by (accepted p Begun 1 v.lines is) is)
  where
    sound_by : Accepted p Begun v.lines → form_fault p Begun 1 v.lines ≡ None → IsSoundText p text
    sound_by a is =
        let r = accepted_is_report p a.lines a.placed_at in
        let told = ap (map (λ (l : Line). Some l)) r.2 ∙ a.same in
        let meant = meant_lines p (lines_of text) a.lines v.lines a.same v.meant in
        let right : AreRight p (report_lines r.0) = subst (AreRight p) (sym r.2) meant.1 in
        let clean = no_fault _ (meshes r.0) m b e (v.formed r.0 is r.1 told) in
        let parts = headed (is_headed p r.0) (first_of (map (mesh_fault p r.0.ranks) (meshes r.0))) (record { kind = 2; line = 1 }) clean in
        let ranks : 0 < r.0.ranks = ltb-true 0 r.0.ranks (and_parts (nat_lt 0 r.0.ranks) _ parts.0).0 in
        record {
          report = r.0;
          form = r.1;
          lines = meant.0 ∙ ap (map line_text) (sym r.2);
          meshes_sound = λ mesh member.
              sound_is p r.0.ranks mesh problem ranks
              (meshes_printed p 2 (enumerate_from 0 r.0.steps) r.1.parts
              (λ line l. right line (inr (Member-append_left line (flat_map step_lines (enumerate_from 0 r.0.steps)) (End ∷ []) l))) mesh member)
              (all_none (map (mesh_fault p r.0.ranks) (meshes r.0)) parts.1 (mesh_fault p r.0.ranks mesh) (Member-map (mesh_fault p r.0.ranks) mesh (meshes r.0) member));
        }
