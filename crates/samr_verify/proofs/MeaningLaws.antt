-- What a line means, by what is told in it.
use Rattle.std.proofs.Common.{◌≡◌, ℕ, pos, List, [], ◌∷◌, ◌++◌, Option, Some, None, refl, sym, ap, subst, ◌∙◌, append_assoc}
use Rattle.std.specs.Prelude.{codes}
use Rattle.samr_box.specs.declared.vector.IVec.{IVec}
use Rattle.samr_level.specs.Refs.{Owned, link}
use Rattle.samr_report.specs.Lines.{blank_numbers, part, line}
use Rattle.samr_report.specs.LevelLines.{box_line, edge_line, link_line}
use Rattle.samr_report.specs.ScheduleLines.{shift_numbers, row_line}
use Rattle.samr_verify.specs.Words.{Part}
use Rattle.samr_verify.specs.declared.line.Line.{Line}
use Rattle.samr_verify.specs.declared.line.Line.TheVariants.{First, Step, LevelOf, BoxOf, EdgeOf, RowOf, SumOf, ProbeOf, End}
use Rattle.samr_verify.specs.declared.line.PrintedRow.TheVariants.{FromLevel, FromBelow, FromOutside}
use Rattle.samr_verify.specs.ReportLines.{IsLine, IsMeaning, line_text}
use Rattle.samr_verify.specs.Reading.{Tells, first_part, step_part, level_part, box_part, edge_part, joined_part, counted_part, probe_part, silent_part, end_part}
use Rattle.samr_verify.proofs.PartLaws.{numbers_append}

three : (a b c d : List ℕ) → (a ++ (b ++ c)) ++ d ≡ a ++ b ++ (c ++ d)
three a b c d = simp append_assoc

-- each line is printed part by part
pub first_text : (n l : ℕ) (w : IVec) → first_part.print (n, (l, w)) ++ 10 ∷ [] ≡ line_text (First n l w)
unfolding line_text line part
first_text n l w = three (codes "samr ranks" ++ blank_numbers (pos n ∷ [])) (codes " levels" ++ blank_numbers (pos l ∷ [])) (codes " width" ++ blank_numbers (w.i ∷ w.j ∷ w.k ∷ [])) (10 ∷ [])

pub step_text : (t : ℕ) → step_part.print t ++ 10 ∷ [] ≡ line_text (Step t)
unfolding line_text line part
step_text t = refl

pub level_text : (l b c : ℕ) → level_part.print (l, (b, c)) ++ 10 ∷ [] ≡ line_text (LevelOf l b c)
unfolding line_text line part
level_text l b c = three (codes "level" ++ blank_numbers (pos l ∷ [])) (codes " boxes" ++ blank_numbers (pos b ∷ [])) (codes " cells" ++ blank_numbers (pos c ∷ [])) (10 ∷ [])

pub box_text : (l : ℕ) (b : Owned) → box_part.print (l, b) ++ 10 ∷ [] ≡ line_text (BoxOf l b)
unfolding line_text box_line line part
box_text l b = simp append_assoc

pub edge_text : (most l m : ℕ) (b h : Owned) (s : IVec) → (edge_part most).print (l, (m, (b, (h, s)))) ++ 10 ∷ [] ≡ line_text (EdgeOf l m (link b h s))
unfolding line_text edge_line link_line shift_numbers line part
edge_text most l m b h s =
    let apart : (edge_part most).print (l, (m, (b, (h, s)))) ++ 10 ∷ []
    ≡ (codes "edge" ++ (blank_numbers (pos l ∷ []) ++ blank_numbers (pos m ∷ []))) ++ link_line (link b h s) = simp append_assoc in
    apart ∙ ap (λ t. (codes "edge" ++ t) ++ link_line (link b h s)) (numbers_append (pos l ∷ []) (pos m ∷ []))

pub copy_text : (f l : ℕ) (b h : Owned) (s : IVec) (n : ℕ) → (joined_part (codes "copy")).print ((f, l), ((b, (h, s)), n)) ++ 10 ∷ [] ≡ line_text (RowOf l (FromLevel f b h s n))
unfolding line_text row_line line part
copy_text f l b h s n = simp append_assoc

pub coarse_text : (f l : ℕ) (b h : Owned) (s : IVec) (n : ℕ) → (joined_part (codes "coarse")).print ((f, l), ((b, (h, s)), n)) ++ 10 ∷ [] ≡ line_text (RowOf l (FromBelow f b h s n))
unfolding line_text row_line line part
coarse_text f l b h s n = simp append_assoc

pub outside_text : (f l : ℕ) (b : Owned) (n : ℕ) → (counted_part (codes "outside")).print ((f, l), (b, n)) ++ 10 ∷ [] ≡ line_text (RowOf l (FromOutside f b n))
unfolding line_text row_line line part
outside_text f l b n = simp append_assoc

pub sum_text : (f l : ℕ) (b : Owned) (v : ℕ) → (counted_part (codes "sum")).print ((f, l), (b, v)) ++ 10 ∷ [] ≡ line_text (SumOf f l b v)
unfolding line_text line part
sum_text f l b v = simp append_assoc

pub probe_text : (f n v : ℕ) → probe_part.print ((f, n), v) ++ 10 ∷ [] ≡ line_text (ProbeOf f n (Some v))
unfolding line_text line part
probe_text f n v = simp append_assoc

pub silent_text : (f n : ℕ) (u : Unit {0}) → silent_part.print ((f, n), u) ++ 10 ∷ [] ≡ line_text (ProbeOf f n None)
unfolding line_text line part blank_numbers
silent_text f n u = simp append_assoc

pub end_text : (u : Unit {0}) → end_part.print u ++ 10 ∷ [] ≡ line_text End
unfolding line_text line part blank_numbers
end_text u = refl

means_by : (most : ℕ) (p : Part) (line : p.Told → Line) (text : List ℕ) → ((x : p.Told) → p.IsRight x → IsLine most (line x)) → ((x : p.Told) → p.print x ++ 10 ∷ [] ≡ line_text (line x))
    → (l : Line) → Tells p line text (Some l) → IsLine most l × (text ≡ line_text l)
means_by most p line text right printed l tells =
    let told = tells.some l refl in
    (subst (IsLine most) told.3 (right told.0 told.1), sym told.2 ∙ printed told.0 ∙ ap line_text told.3)

pub means_box : (most : ℕ) (text : List ℕ) (l : Line) → Tells (box_part) (λ x. BoxOf x.0 x.1) text (Some l) → IsMeaning most text (Some l)
means_box most text l tells = means_by most (box_part) (λ x. BoxOf x.0 x.1) text (λ x r. r) (λ x. box_text x.0 x.1) l tells

pub means_edge : (most : ℕ) (text : List ℕ) (l : Line) → Tells (edge_part most) (λ x. EdgeOf x.0 x.1.0 (link x.1.1.0 x.1.1.1.0 x.1.1.1.1)) text (Some l) → IsMeaning most text (Some l)
means_edge most text l tells = means_by most (edge_part most) (λ x. EdgeOf x.0 x.1.0 (link x.1.1.0 x.1.1.1.0 x.1.1.1.1)) text (λ x r. (r.0, r.1.0, r.1.1.0, r.1.1.1.0, r.1.1.1.1)) (λ x. edge_text most x.0 x.1.0 x.1.1.0 x.1.1.1.0 x.1.1.1.1) l tells

pub means_level : (most : ℕ) (text : List ℕ) (l : Line) → Tells (level_part) (λ x. LevelOf x.0 x.1.0 x.1.1) text (Some l) → IsMeaning most text (Some l)
means_level most text l tells = means_by most (level_part) (λ x. LevelOf x.0 x.1.0 x.1.1) text (λ x r. (r.0, r.1.0, r.1.1)) (λ x. level_text x.0 x.1.0 x.1.1) l tells

pub means_step : (most : ℕ) (text : List ℕ) (l : Line) → Tells (step_part) (λ x. Step x) text (Some l) → IsMeaning most text (Some l)
means_step most text l tells = means_by most (step_part) (λ x. Step x) text (λ x r. r) (λ x. step_text x) l tells

pub means_first : (most : ℕ) (text : List ℕ) (l : Line) → Tells (first_part) (λ x. First x.0 x.1.0 x.1.1) text (Some l) → IsMeaning most text (Some l)
means_first most text l tells = means_by most (first_part) (λ x. First x.0 x.1.0 x.1.1) text (λ x r. (r.0, r.1.0, r.1.1)) (λ x. first_text x.0 x.1.0 x.1.1) l tells

pub means_copy : (most : ℕ) (text : List ℕ) (l : Line) → Tells (joined_part (codes "copy")) (λ x. RowOf x.0.1 (FromLevel x.0.0 x.1.0.0 x.1.0.1.0 x.1.0.1.1 x.1.1)) text (Some l) → IsMeaning most text (Some l)
means_copy most text l tells = means_by most (joined_part (codes "copy")) (λ x. RowOf x.0.1 (FromLevel x.0.0 x.1.0.0 x.1.0.1.0 x.1.0.1.1 x.1.1)) text (λ x r. (r.0.1, (r.0.0, r.1.0.0, r.1.0.1.0, r.1.0.1.1, r.1.1))) (λ x. copy_text x.0.0 x.0.1 x.1.0.0 x.1.0.1.0 x.1.0.1.1 x.1.1) l tells

pub means_coarse : (most : ℕ) (text : List ℕ) (l : Line) → Tells (joined_part (codes "coarse")) (λ x. RowOf x.0.1 (FromBelow x.0.0 x.1.0.0 x.1.0.1.0 x.1.0.1.1 x.1.1)) text (Some l) → IsMeaning most text (Some l)
means_coarse most text l tells = means_by most (joined_part (codes "coarse")) (λ x. RowOf x.0.1 (FromBelow x.0.0 x.1.0.0 x.1.0.1.0 x.1.0.1.1 x.1.1)) text (λ x r. (r.0.1, (r.0.0, r.1.0.0, r.1.0.1.0, r.1.0.1.1, r.1.1))) (λ x. coarse_text x.0.0 x.0.1 x.1.0.0 x.1.0.1.0 x.1.0.1.1 x.1.1) l tells

pub means_outside : (most : ℕ) (text : List ℕ) (l : Line) → Tells (counted_part (codes "outside")) (λ x. RowOf x.0.1 (FromOutside x.0.0 x.1.0 x.1.1)) text (Some l) → IsMeaning most text (Some l)
means_outside most text l tells = means_by most (counted_part (codes "outside")) (λ x. RowOf x.0.1 (FromOutside x.0.0 x.1.0 x.1.1)) text (λ x r. (r.0.1, (r.0.0, r.1.0, r.1.1))) (λ x. outside_text x.0.0 x.0.1 x.1.0 x.1.1) l tells

pub means_sum : (most : ℕ) (text : List ℕ) (l : Line) → Tells (counted_part (codes "sum")) (λ x. SumOf x.0.0 x.0.1 x.1.0 x.1.1) text (Some l) → IsMeaning most text (Some l)
means_sum most text l tells = means_by most (counted_part (codes "sum")) (λ x. SumOf x.0.0 x.0.1 x.1.0 x.1.1) text (λ x r. (r.0.0, r.0.1, r.1.0, r.1.1)) (λ x. sum_text x.0.0 x.0.1 x.1.0 x.1.1) l tells

pub means_probe : (most : ℕ) (text : List ℕ) (l : Line) → Tells (probe_part) (λ x. ProbeOf x.0.0 x.0.1 (Some x.1)) text (Some l) → IsMeaning most text (Some l)
means_probe most text l tells = means_by most (probe_part) (λ x. ProbeOf x.0.0 x.0.1 (Some x.1)) text (λ x r. (r.0.0, r.0.1, r.1)) (λ x. probe_text x.0.0 x.0.1 x.1) l tells

pub means_silent : (most : ℕ) (text : List ℕ) (l : Line) → Tells (silent_part) (λ x. ProbeOf x.0.0 x.0.1 None) text (Some l) → IsMeaning most text (Some l)
means_silent most text l tells = means_by most (silent_part) (λ x. ProbeOf x.0.0 x.0.1 None) text (λ x r. (r.0.0, r.0.1, tt)) (λ x. silent_text x.0.0 x.0.1 x.1) l tells

pub means_end : (most : ℕ) (text : List ℕ) (l : Line) → Tells (end_part) (λ x. End) text (Some l) → IsMeaning most text (Some l)
means_end most text l tells = means_by most (end_part) (λ x. End) text (λ x r. tt) (λ x. end_text x) l tells

-- a line of none of the kinds
pub record NoKind (most : ℕ) (text : List ℕ) : Type 0 where
  pub box_none : Tells (box_part) (λ x. BoxOf x.0 x.1) text None
  pub edge_none : Tells (edge_part most) (λ x. EdgeOf x.0 x.1.0 (link x.1.1.0 x.1.1.1.0 x.1.1.1.1)) text None
  pub level_none : Tells (level_part) (λ x. LevelOf x.0 x.1.0 x.1.1) text None
  pub step_none : Tells (step_part) (λ x. Step x) text None
  pub first_none : Tells (first_part) (λ x. First x.0 x.1.0 x.1.1) text None
  pub copy_none : Tells (joined_part (codes "copy")) (λ x. RowOf x.0.1 (FromLevel x.0.0 x.1.0.0 x.1.0.1.0 x.1.0.1.1 x.1.1)) text None
  pub coarse_none : Tells (joined_part (codes "coarse")) (λ x. RowOf x.0.1 (FromBelow x.0.0 x.1.0.0 x.1.0.1.0 x.1.0.1.1 x.1.1)) text None
  pub outside_none : Tells (counted_part (codes "outside")) (λ x. RowOf x.0.1 (FromOutside x.0.0 x.1.0 x.1.1)) text None
  pub sum_none : Tells (counted_part (codes "sum")) (λ x. SumOf x.0.0 x.0.1 x.1.0 x.1.1) text None
  pub probe_none : Tells (probe_part) (λ x. ProbeOf x.0.0 x.0.1 (Some x.1)) text None
  pub silent_none : Tells (silent_part) (λ x. ProbeOf x.0.0 x.0.1 None) text None

no_line : (p : Part) (line : p.Told → Line) (text : List ℕ) → Tells p line text None → (x : p.Told) → p.IsRight x → p.print x ++ 10 ∷ [] ≡ line_text (line x) → text ≡ line_text (line x) → ⊥
no_line p line text tells x right printed is = tells.none refl x right (printed ∙ sym is)

none_means : (most : ℕ) (text : List ℕ) → NoKind most text → Tells (end_part) (λ x. End) text None → (l : Line) → IsLine most l → text ≡ line_text l → ⊥
none_means most text none last (First n k w) h is = no_line (first_part) (λ x. First x.0 x.1.0 x.1.1) text none.first_none (n, (k, w)) (h.0, (h.1, h.2)) (first_text n k w) is
none_means most text none last (Step t) h is = no_line (step_part) (λ x. Step x) text none.step_none t h (step_text t) is
none_means most text none last (LevelOf k b c) h is = no_line (level_part) (λ x. LevelOf x.0 x.1.0 x.1.1) text none.level_none (k, (b, c)) (h.0, (h.1, h.2)) (level_text k b c) is
none_means most text none last (BoxOf k b) h is = no_line (box_part) (λ x. BoxOf x.0 x.1) text none.box_none (k, b) h (box_text k b) is
none_means most text none last (EdgeOf k m e) h is = no_line (edge_part most) (λ x. EdgeOf x.0 x.1.0 (link x.1.1.0 x.1.1.1.0 x.1.1.1.1)) text none.edge_none (k, (m, (e.base, (e.head, e.shift)))) (h.0, (h.1, (h.2, (h.3, h.4)))) (edge_text most k m e.base e.head e.shift) is
none_means most text none last (RowOf k (FromLevel f b g s n)) h is = no_line (joined_part (codes "copy")) (λ x. RowOf x.0.1 (FromLevel x.0.0 x.1.0.0 x.1.0.1.0 x.1.0.1.1 x.1.1)) text none.copy_none ((f, k), ((b, (g, s)), n)) ((h.1.0, h.0), ((h.1.1, (h.1.2, h.1.3)), h.1.4)) (copy_text f k b g s n) is
none_means most text none last (RowOf k (FromBelow f b g s n)) h is = no_line (joined_part (codes "coarse")) (λ x. RowOf x.0.1 (FromBelow x.0.0 x.1.0.0 x.1.0.1.0 x.1.0.1.1 x.1.1)) text none.coarse_none ((f, k), ((b, (g, s)), n)) ((h.1.0, h.0), ((h.1.1, (h.1.2, h.1.3)), h.1.4)) (coarse_text f k b g s n) is
none_means most text none last (RowOf k (FromOutside f b n)) h is = no_line (counted_part (codes "outside")) (λ x. RowOf x.0.1 (FromOutside x.0.0 x.1.0 x.1.1)) text none.outside_none ((f, k), (b, n)) ((h.1.0, h.0), (h.1.1, h.1.2)) (outside_text f k b n) is
none_means most text none last (SumOf f k b v) h is = no_line (counted_part (codes "sum")) (λ x. SumOf x.0.0 x.0.1 x.1.0 x.1.1) text none.sum_none ((f, k), (b, v)) ((h.0, h.1), (h.2, h.3)) (sum_text f k b v) is
none_means most text none last (ProbeOf f n (Some v)) h is = no_line (probe_part) (λ x. ProbeOf x.0.0 x.0.1 (Some x.1)) text none.probe_none ((f, n), v) ((h.0, h.1), h.2) (probe_text f n v) is
none_means most text none last (ProbeOf f n None) h is = no_line (silent_part) (λ x. ProbeOf x.0.0 x.0.1 None) text none.silent_none ((f, n), tt) ((h.0, h.1), tt) (silent_text f n tt) is
none_means most text none last (End) h is = no_line (end_part) (λ x. End) text last tt tt (end_text tt) is

pub means : (most : ℕ) (text : List ℕ) → NoKind most text → (o : Option Line) → Tells (end_part) (λ x. End) text o → IsMeaning most text o
means most text none None last = none_means most text none last
means most text none (Some l) last = means_end most text l last
