-- A word with a field and a number behind it.
use Rattle.std.proofs.Common.{◌≡◌, ℕ, zero, suc, pos, List, [], ◌∷◌, ◌++◌, Option, Some, None, get_or, cond, refl, sym, ap, ◌∙◌, append_assoc, arith}
use Rattle.std.proofs.lemmas.Bool.{ne_eqb, eq-eqb}
use Rattle.samr_report.specs.Lines.{blank_numbers, part}
use Rattle.samr_report.specs.ScheduleLines.{headed}
use Rattle.samr_verify.specs.Words.{IsParted, Part, Reads}
use Rattle.samr_verify.specs.Reading.{and_then, behind_word, count, heading}
use Rattle.samr_verify.proofs.PartLaws.{numbers_append, count_parts}
use Rattle.samr_verify.proofs.ReadLaws.{Lacks, some_is, none_is, left_is, right_is, both_are, both_are_pair}

abbrev pub further : List ℕ → Part
further word = behind_word (102 ∷ []) (and_then (behind_word word count) count)

pub plain_text : (word : List ℕ) (f n : ℕ) → f ≡ 0 → headed f word n ≡ word ++ blank_numbers (pos n ∷ [])
unfolding headed part
plain_text word f n zero_is =
    ap (λ b. cond b (word ++ blank_numbers (pos n ∷ [])) ((102 ∷ word) ++ blank_numbers (pos f ∷ pos n ∷ []))) (eq-eqb f 0 zero_is)

pub further_text : (word : List ℕ) (f n : ℕ) → (f ≡ 0 → ⊥) → headed f word n ≡ (further word).print (f, n)
unfolding headed part
further_text word f n other =
    ap (λ b. cond b (word ++ blank_numbers (pos n ∷ [])) ((102 ∷ word) ++ blank_numbers (pos f ∷ pos n ∷ []))) (ne_eqb f 0 other)
    ∙ ap (λ t. 102 ∷ (word ++ t)) (sym (numbers_append (pos f ∷ []) (pos n ∷ [])))
    ∙ ap (λ t. 102 ∷ t) (sym (append_assoc word (blank_numbers (pos f ∷ [])) (blank_numbers (pos n ∷ []))))

pub by_zero : {P : Type 0} (f : ℕ) → (f ≡ 0 → P) → ((f ≡ 0 → ⊥) → P) → P
by_zero zero yes_zero not_zero = yes_zero refl
by_zero (suc f) yes_zero not_zero = not_zero (λ e. omega (arith, e))

pub head_is : {X : Type 0} {x y : X} {xs ys : List X} → x ∷ xs ≡ y ∷ ys → x ≡ y
head_is e = cc

pub tail_is : {X : Type 0} {x y : X} {xs ys : List X} → x ∷ xs ≡ y ∷ ys → xs ≡ ys
tail_is e = cc

-- a word that does not begin so
pub no_word : (word rest others : List ℕ) → (get_or word 0 102 ≡ 102 → ⊥) → word ++ rest ≡ 102 ∷ others → ⊥
no_word [] rest others other is = other refl
no_word (c ∷ cs) rest others other is = other (head_is is)

pub not_begun : (text : List ℕ) → ((rest : List ℕ) → 102 ∷ rest ≡ text → ◌≡◌ {A = Option (List ℕ)} None (Some rest)) → (rest : List ℕ) → 102 ∷ rest ≡ text → ⊥
not_begun text each rest is = none_is rest (each rest is)

number_parted : (n : ℕ) (rest : List ℕ) → IsParted (blank_numbers (pos n ∷ []) ++ rest)
number_parted n rest = count_parts.parts n rest

module _ (word text : List ℕ) where
  module _ (begun : (rest : List ℕ) → 102 ∷ rest ≡ text → ⊥) where
    is_plain : (f n : ℕ) (rest : List ℕ) → headed f word n ++ rest ≡ text → (f ≡ 0) × ((word ++ blank_numbers (pos n ∷ [])) ++ rest ≡ text)
    is_plain f n rest is =
        by_zero f (λ e. (e, ap (λ t. t ++ rest) (sym (plain_text word f n e)) ∙ is))
        (λ other. absurd (begun (((word ++ blank_numbers (pos f ∷ [])) ++ blank_numbers (pos n ∷ [])) ++ rest) (ap (λ t. t ++ rest) (sym (further_text word f n other)) ∙ is)))

    pub plain_lacks : Lacks (behind_word word count) text → Lacks (heading word) text
    plain_lacks l = record { none = λ x rest right parted is. l.none x.1 rest right.1 parted (is_plain x.0 x.1 rest is).1 }

    pub plain_reads : (n : ℕ) (rest : List ℕ) → Reads (behind_word word count) text (Some (n, rest)) → Reads (heading word) text (Some ((0, n), rest))
    plain_reads n rest reads = record {
      some = ((omega arith, reads.some.0), ap (λ t. t ++ rest) (plain_text word 0 n refl) ∙ reads.some.1);
      each = λ x more right parted is.
          let told = is_plain x.0 x.1 more is in
          let one = some_is (reads.each x.1 more right.1 parted told.1) in
          both_are (both_are_pair (sym told.0) (left_is one)) (right_is one);
    }

  module _ (other : get_or word 0 102 ≡ 102 → ⊥) (others : List ℕ) (starts : 102 ∷ others ≡ text) where
    is_further : (f n : ℕ) (rest : List ℕ) → headed f word n ++ rest ≡ text → (f ≡ 0 → ⊥) × ((further word).print (f, n) ++ rest ≡ text)
    is_further f n rest is =
        by_zero f
        (λ e. absurd (no_word word (blank_numbers (pos n ∷ []) ++ rest) others other
        (sym (append_assoc word (blank_numbers (pos n ∷ [])) rest) ∙ ap (λ t. t ++ rest) (sym (plain_text word f n e)) ∙ is ∙ sym starts)))
        (λ more. (more, ap (λ t. t ++ rest) (sym (further_text word f n more)) ∙ is))

    pub further_lacks : Lacks (further word) text → Lacks (heading word) text
    further_lacks l = record { none = λ x rest right parted is. l.none x rest right parted (is_further x.0 x.1 rest is).1 }

    pub zero_lacks : ((rest : List ℕ) → 102 ∷ rest ≡ text → ◌≡◌ {A = Option (List ℕ)} (Some others) (Some rest)) → (f : ℕ) (more : List ℕ)
        → Reads (behind_word word count) others (Some (f, more)) → f ≡ 0 → Lacks (heading word) text
    zero_lacks each f more reads zero_is = record {
      none = λ x rest right parted is.
          let told = is_further x.0 x.1 rest is in
          let behind = some_is (each (((word ++ blank_numbers (pos x.0 ∷ [])) ++ blank_numbers (pos x.1 ∷ [])) ++ rest) told.1) in
          let one = some_is (reads.each x.0 (blank_numbers (pos x.1 ∷ []) ++ rest) right.0 (number_parted x.1 rest)
          (sym (append_assoc (word ++ blank_numbers (pos x.0 ∷ [])) (blank_numbers (pos x.1 ∷ [])) rest) ∙ sym behind)) in
          told.0 (sym (left_is one) ∙ zero_is);
    }

    pub further_reads : (f n : ℕ) (rest : List ℕ) → (f ≡ 0 → ⊥) → Reads (further word) text (Some ((f, n), rest)) → Reads (heading word) text (Some ((f, n), rest))
    further_reads f n rest some reads = record {
      some = (reads.some.0, ap (λ t. t ++ rest) (further_text word f n some) ∙ reads.some.1);
      each = λ x more right parted is. reads.each x more right parted (is_further x.0 x.1 more is).1;
    }
