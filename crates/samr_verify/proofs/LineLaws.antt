-- What is told in a whole line, and what the line means.
use Rattle.std.proofs.Common.{◌≡◌, ℕ, List, [], ◌∷◌, ◌++◌, Option, Some, None, option_map, sym, ap, subst, ◌∙◌, arith}
use Rattle.std.specs.Prelude.{IfSome, codes}
use Rattle.samr_verify.specs.Words.{IsParted, Part, Reads}
use Rattle.samr_verify.specs.Reading.{Tells, silent}
use Rattle.samr_verify.specs.declared.line.Line.{Line}
use Rattle.samr_verify.proofs.ReadLaws.{Lacks, none_is, some_is, right_is, never}

ended_parted : IsParted (10 ∷ [])
ended_parted = omega arith

not_both : {X : Type 0} (x : X) (o : Option X) → o ≡ None → o ≡ Some x → ⊥
not_both x o e f = none_is x (sym e ∙ f)

pub tells_lacks : {p : Part} {line : p.Told → Line} {text : List ℕ} (o : Option Line) → o ≡ None → Lacks p text → Tells p line text o
tells_lacks o e l = record { some = λ q is. absurd (not_both q o e is); none = λ now x right is. l.none x (10 ∷ []) right ended_parted is }

told_by : (o : Option Line) (l line : Line) (rest : List ℕ) → IfSome o (λ q. (rest ≡ 10 ∷ []) × (q ≡ line)) → o ≡ Some l → (rest ≡ 10 ∷ []) × (line ≡ l)
told_by None l line rest some is = absurd (none_is l is)
told_by (Some q) l line rest some is = (some.0, sym some.1 ∙ some_is is)

pub tells_ended : {p : Part} {line : p.Told → Line} {text : List ℕ} (x : p.Told) (rest : List ℕ) (o : Option Line) → Reads p text (Some (x, rest))
    → IfSome o (λ l. (rest ≡ 10 ∷ []) × (l ≡ line x)) → (rest ≡ 10 ∷ [] → o ≡ Some (line x)) → Tells p line text o
tells_ended {p = p} {line = line} {text = text} x rest o reads some each = record {
  some = λ l is.
      let told = told_by o l (line x) rest some is in
      (x, reads.some.0, ap (λ t. p.print x ++ t) (sym told.0) ∙ reads.some.1, told.1);
  none = λ none y right is.
      let one = some_is (reads.each y (10 ∷ []) right ended_parted is) in
      not_both (line x) o none (each (right_is one));
}

pub tells_made : {p : Part} {line : p.Told → Line} {text : List ℕ} (x : p.Told) (rest : List ℕ) (o : Option Line) (made : Line) → made ≡ line x → Reads p text (Some (x, rest))
    → IfSome o (λ l. (rest ≡ 10 ∷ []) × (l ≡ made)) → (rest ≡ 10 ∷ [] → o ≡ Some made) → Tells p line text o
tells_made {p = p} {line = line} {text = text} x rest o made same reads some each =
    tells_ended x rest o reads (subst (λ (m : Line). IfSome o (λ l. (rest ≡ 10 ∷ []) × (l ≡ m))) same some) (λ e. each e ∙ ap (λ (m : Line). Some m) same)

-- a word that stands for no value
pub silent_lacks : (text : List ℕ) {Z : Type 0} (f : Z → List ℕ) (o : Option Z) → ((rest : List ℕ) → codes " none" ++ rest ≡ text → option_map f o ≡ Some rest) → o ≡ None → Lacks silent text
silent_lacks text f o each e = record { none = λ u rest right parted is. never f o rest e (each rest is) }

pub silent_reads : (text others : List ℕ) → codes " none" ++ others ≡ text → ((rest : List ℕ) → codes " none" ++ rest ≡ text → ◌≡◌ {A = Option (List ℕ)} (Some others) (Some rest)) → Reads silent text (Some (tt, others))
silent_reads text others first each = record {
  some = (tt, first);
  each = λ u rest right parted is. ap (λ (t : List ℕ). Some (tt {0}, t)) (some_is (each rest is));
}
