-- A text has one verdict.
use Rattle.std.proofs.Common.{◌≡◌, ℕ, ◌+◌, ◌≤◌, List, [], ◌∷◌, map, Option, Some, None, refl, sym, ap, ◌∙◌}
use Rattle.std.specs.Prelude.{◌^◌, if◌then◌else◌}
use Rattle.samr_problem.specs.Fields.{Fields}
use Rattle.samr_verify.specs.declared.line.Line.{Line}
use Rattle.samr_verify.specs.declared.place.Place.{Place}
use Rattle.samr_verify.specs.declared.place.Place.TheVariants.{Begun, Headed, Stepped, Levelled, Boxed, Edged, Listed, Summed, Probed, Ended}
use Rattle.samr_verify.specs.declared.verdict.Verdict.{Verdict}
use Rattle.samr_verify.specs.ReportLines.{IsMeaning}
use Rattle.samr_verify.specs.Cutting.{lines_of, AreMeanings, none, more}
use Rattle.samr_verify.specs.Form.{behind, placed, if_some, is_ended, next_fault, form_fault}
use Rattle.samr_verify.specs.Verdicts.{IsVerdict}
use Rattle.samr_verify.proofs.Accepting.{accepted_is_report}
use Rattle.samr_verify.proofs.OneMeaning.{one_meaning}
use Rattle.samr_verify.proofs.ReadLaws.{none_is}

-- the lines of a text have one meaning each
one_option : (most : ℕ) (text : List ℕ) (o q : Option Line) → most ≤ 2 ^ 63 → IsMeaning most text o → IsMeaning most text q → o ≡ q
one_option most text None None small a b = refl
one_option most text None (Some l) small a b = absurd (a l b.0 b.1)
one_option most text (Some k) None small a b = absurd (b k a.0 a.1)
one_option most text (Some k) (Some l) small a b = ap (λ (x : Line). Some x) (one_meaning most text k l small a b)

both_same : {X : Type 0} (x y : X) (xs ys : List X) → x ≡ y → xs ≡ ys → x ∷ xs ≡ y ∷ ys
both_same x y xs ys e f = ap (λ z. z ∷ xs) e ∙ ap (λ zs. y ∷ zs) f

one_list : (most : ℕ) (texts : List (List ℕ)) (os qs : List (Option Line)) → most ≤ 2 ^ 63 → AreMeanings most texts os → AreMeanings most texts qs → os ≡ qs
one_list most _ _ _ small none none = refl
one_list most _ _ _ small (more text o texts os a later) (more _ q _ qs b others) =
    both_same o q os qs (one_option most text o q small a b) (one_list most texts os qs small later others)

-- lines without a fault of form are accepted
some_not : {X : Type 0} (x : X) → Some x ≡ None → ⊥
some_not x e = none_is x (sym e)

pub record Accepted (p : Fields) (place : Place) (os : List (Option Line)) : Type 0 where
  pub lines : List Line
  pub same : map (λ (l : Line). Some l) lines ≡ os
  pub placed_at : placed p place lines ≡ Some Ended

at_end : (p : Fields) (place : Place) (n : ℕ) → (let o : Option ℕ = if is_ended place then None else Some n in o ≡ None) → Accepted p place []
at_end p Ended n e = record { lines = []; same = refl; placed_at = refl }
at_end p Begun n e = absurd (some_not n e)
at_end p Headed n e = absurd (some_not n e)
at_end p (Stepped t) n e = absurd (some_not n e)
at_end p (Levelled t l) n e = absurd (some_not n e)
at_end p (Boxed t l) n e = absurd (some_not n e)
at_end p (Edged t l) n e = absurd (some_not n e)
at_end p (Listed t l) n e = absurd (some_not n e)
at_end p (Summed t) n e = absurd (some_not n e)
at_end p (Probed t) n e = absurd (some_not n e)

accepted_by : (p : Fields) (place : Place) (n : ℕ) (line : Line) (os : List (Option Line)) (m : Option Place) → behind p place line ≡ m
    → next_fault m n (λ next. form_fault p next (n + 1) os) ≡ None → ((next : Place) → form_fault p next (n + 1) os ≡ None → Accepted p next os) → Accepted p place (Some line ∷ os)
accepted_by p place n line os None is e later = absurd (some_not n e)
accepted_by p place n line os (Some next) is e later =
    let rest = later next e in
    record {
      lines = line ∷ rest.lines;
      same = ap (λ (xs : List (Option Line)). Some line ∷ xs) rest.same;
      placed_at = ap (λ (m : Option Place). if_some m (λ q. placed p q rest.lines)) is ∙ rest.placed_at;
    }

pub accepted : (p : Fields) (place : Place) (n : ℕ) (os : List (Option Line)) → form_fault p place n os ≡ None → Accepted p place os
unfolding form_fault
accepted p place n [] e = at_end p place n e
accepted p place n (None ∷ os) e = absurd (some_not n e)
accepted p place n (Some line ∷ os) e = accepted_by p place n line os (behind p place line) refl e (λ next later. accepted p next (n + 1) os later)

pub by_fault : {P : Type 0} (o : Option ℕ) → ((n : ℕ) → o ≡ Some n → P) → (o ≡ None → P) → P
by_fault None some none_too = none_too refl
by_fault (Some n) some none_too = some n refl

pub one_verdict : (p : Fields) (text : List ℕ) (v w : Verdict) → p.levels ≤ 2 ^ 63 → IsVerdict p text v → IsVerdict p text w → v ≡ w
one_verdict p text v w small one other =
    let same = one_list p.levels (lines_of text) one.lines other.lines small one.meant other.meant in
    by_fault (form_fault p Begun 1 one.lines)
    (λ n is. one.ill_formed n is ∙ sym (other.ill_formed n (ap (form_fault p Begun 1) (sym same) ∙ is)))
    (λ is.
    let lines = accepted p Begun 1 one.lines is in
    let report = accepted_is_report p lines.lines lines.placed_at in
    let told = ap (map (λ (l : Line). Some l)) report.2 ∙ lines.same in
    one.formed report.0 is report.1 told ∙ sym (other.formed report.0 (ap (form_fault p Begun 1) (sym same) ∙ is) report.1 (told ∙ same)))
