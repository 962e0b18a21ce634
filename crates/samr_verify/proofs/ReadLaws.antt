-- Parts of a line one after another: what is read of each, and what is read of both.
use Rattle.std.proofs.Common.{◌≡◌, ℕ, List, ◌++◌, Option, Some, None, option_map, sym, ap, subst, ◌∙◌, append_assoc}
use Rattle.std.specs.Prelude.{IfSome}
use Rattle.samr_verify.specs.Words.{IsParted, Part, Reads}
use Rattle.samr_verify.specs.Reading.{and_then, behind_word}

-- nothing in range is printed at the front of a text
pub record Lacks (p : Part) (text : List ℕ) : Type 0 where
  pub none : (x : p.Told) (rest : List ℕ) → p.IsRight x → IsParted rest → p.print x ++ rest ≡ text → ⊥

-- what is printed begins so that a word before it has ended
pub record Parts (p : Part) : Type 0 where
  pub parts : (x : p.Told) (rest : List ℕ) → IsParted (p.print x ++ rest)

pub never : {Z X : Type 0} (f : Z → X) (o : Option Z) (x : X) → o ≡ None → option_map f o ≡ Some x → ⊥
never f None x e h = cc
never f (Some z) x e h = cc

pub none_is : {X : Type 0} (x : X) → None ≡ Some x → ⊥
none_is x e = cc

pub some_is : {X : Type 0} {x y : X} → ◌≡◌ {A = Option X} (Some x) (Some y) → x ≡ y
some_is e = cc

pub left_is : {X Y : Type 0} {x w : X} {y z : Y} → ◌≡◌ {A = X × Y} (x, y) (w, z) → x ≡ w
left_is e = ap (λ p. p.0) e

pub right_is : {X Y : Type 0} {x w : X} {y z : Y} → ◌≡◌ {A = X × Y} (x, y) (w, z) → y ≡ z
right_is e = ap (λ p. p.1) e

pub both_are : {X Y : Type 0} {x w : X} {y z : Y} → x ≡ w → y ≡ z → ◌≡◌ {A = Option (X × Y)} (Some (x, y)) (Some (w, z))
both_are {X = X} {Y = Y} {x = x} {w = w} {y = y} {z = z} e f = ap (λ (v : X). Some (v, y)) e ∙ ap (λ (v : Y). Some (w, v)) f

pub both_are_pair : {X Y : Type 0} {x w : X} {y z : Y} → x ≡ w → y ≡ z → ◌≡◌ {A = X × Y} (x, y) (w, z)
both_are_pair {X = X} {Y = Y} {x = x} {w = w} {y = y} {z = z} e f = ap (λ (v : X). (v, y)) e ∙ ap (λ (v : Y). (w, v)) f

-- from a call that answered nothing, and to one
pub lacks : {p : Part} {text : List ℕ} {Z : Type 0} (f : Z → p.Told × List ℕ) (o : Option Z) → Reads p text (option_map f o) → o ≡ None → Lacks p text
lacks f o reads e = record { none = λ x rest right parted is. never f o (x, rest) e (reads.each x rest right parted is) }

pub lacks_none : {p : Part} {text : List ℕ} → Reads p text None → Lacks p text
lacks_none reads = record { none = λ x rest right parted is. none_is (x, rest) (reads.each x rest right parted is) }

pub reads_none : {p : Part} {text : List ℕ} → Lacks p text → Reads p text None
reads_none l = record { some = tt; each = λ x rest right parted is. absurd (l.none x rest right parted is) }

pub reads_of : {p : Part} {text : List ℕ} {Z : Type 0} (f : Z → p.Told × List ℕ) (o : Option Z) → o ≡ None → Lacks p text → Reads p text (option_map f o)
reads_of {p = p} {text = text} f o e l = subst (λ q. Reads p text (option_map f q)) (sym e) (reads_none l)

-- behind a word
module _ (p : Part) (word text : List ℕ) where
  apart : (x : p.Told) (rest : List ℕ) → (word ++ p.print x) ++ rest ≡ text → word ++ (p.print x ++ rest) ≡ text
  apart x rest is = sym (append_assoc word (p.print x) rest) ∙ is

  pub word_lacks : {Z : Type 0} (f : Z → List ℕ) (o : Option Z) → ((rest : List ℕ) → word ++ rest ≡ text → option_map f o ≡ Some rest) → o ≡ None → Lacks (behind_word word p) text
  word_lacks f o each e = record { none = λ x rest right parted is. never f o (p.print x ++ rest) e (each (p.print x ++ rest) (apart x rest is)) }

  module _ (others : List ℕ) (each : (rest : List ℕ) → word ++ rest ≡ text → ◌≡◌ {A = Option (List ℕ)} (Some others) (Some rest)) where
    behind_is : (x : p.Told) (rest : List ℕ) → (word ++ p.print x) ++ rest ≡ text → p.print x ++ rest ≡ others
    behind_is x rest is = sym (some_is (each (p.print x ++ rest) (apart x rest is)))

    pub behind_lacks : Lacks p others → Lacks (behind_word word p) text
    behind_lacks l = record { none = λ x rest right parted is. l.none x rest right parted (behind_is x rest is) }

    begun : (found : Option (p.Told × List ℕ)) → word ++ others ≡ text → IfSome found (λ r. p.IsRight r.0 × (p.print r.0 ++ r.1 ≡ others)) → IfSome found (λ r. p.IsRight r.0 × ((word ++ p.print r.0) ++ r.1 ≡ text))
    begun None first some = tt
    begun (Some r) first some = (some.0, append_assoc word (p.print r.0) r.1 ∙ ap (λ t. word ++ t) some.1 ∙ first)

    pub behind_reads : (found : Option (p.Told × List ℕ)) → word ++ others ≡ text → Reads p others found → Reads (behind_word word p) text found
    behind_reads found first reads = record {
      some = begun found first reads.some;
      each = λ x rest right parted is. reads.each x rest right parted (behind_is x rest is);
    }

-- one part behind another
module _ (p q : Part) (text : List ℕ) (parts : Parts q) where
  split : (x : p.Told) (y : q.Told) (rest : List ℕ) → (p.print x ++ q.print y) ++ rest ≡ text → p.print x ++ (q.print y ++ rest) ≡ text
  split x y rest is = sym (append_assoc (p.print x) (q.print y) rest) ∙ is

  pub first_lacks : Lacks p text → Lacks (and_then p q) text
  first_lacks l = record { none = λ x rest right parted is. l.none x.0 (q.print x.1 ++ rest) right.0 (parts.parts x.1 rest) (split x.0 x.1 rest is) }

  module _ (v : p.Told) (others : List ℕ) (first : Reads p text (Some (v, others))) where
    first_is : (x : p.Told × q.Told) (rest : List ℕ) → p.IsRight x.0 → (p.print x.0 ++ q.print x.1) ++ rest ≡ text → ◌≡◌ {A = p.Told × List ℕ} (v, others) (x.0, q.print x.1 ++ rest)
    first_is x rest right is = some_is (first.each x.0 (q.print x.1 ++ rest) right (parts.parts x.1 rest) (split x.0 x.1 rest is))

    pub second_lacks : Lacks q others → Lacks (and_then p q) text
    second_lacks l = record { none = λ x rest right parted is. l.none x.1 rest right.1 parted (sym (right_is (first_is x rest right.0 is))) }

    pub both_read : (w : q.Told) (rest : List ℕ) → Reads q others (Some (w, rest)) → Reads (and_then p q) text (Some ((v, w), rest))
    both_read w rest second = record {
      some =
          ((first.some.0, second.some.0), append_assoc (p.print v) (q.print w) rest ∙ ap (λ t. p.print v ++ t) second.some.1 ∙ first.some.1);
      each = λ x more right parted is.
          let one = first_is x more right.0 is in
          let two = some_is (second.each x.1 more right.1 parted (sym (right_is one))) in
          both_are (both_are_pair (left_is one) (left_is two)) (right_is two);
    }

-- the same told by other values
module _ (p q : Part) (text : List ℕ) (from : q.Told → p.Told) (right : (y : q.Told) → q.IsRight y → p.IsRight (from y)) (same : (y : q.Told) → p.print (from y) ≡ q.print y) where
  as_p : (y : q.Told) (rest : List ℕ) → q.print y ++ rest ≡ text → p.print (from y) ++ rest ≡ text
  as_p y rest is = ap (λ t. t ++ rest) (same y) ∙ is

  pub as_lacks : Lacks p text → Lacks q text
  as_lacks l = record { none = λ y rest is_right parted is. l.none (from y) rest (right y is_right) parted (as_p y rest is) }

  module _ (v : p.Told) (rest : List ℕ) (reads : Reads p text (Some (v, rest))) where
    one_is : (y : q.Told) (more : List ℕ) → q.IsRight y → IsParted more → q.print y ++ more ≡ text → ◌≡◌ {A = p.Told × List ℕ} (v, rest) (from y, more)
    one_is y more is_right parted is = some_is (reads.each (from y) more (right y is_right) parted (as_p y more is))

    pub wrong_lacks : ((y : q.Told) → q.IsRight y → from y ≡ v → ⊥) → Lacks q text
    wrong_lacks wrong = record { none = λ y more is_right parted is. wrong y is_right (sym (left_is (one_is y more is_right parted is))) }

    pub as_reads : (y : q.Told) → q.IsRight y → from y ≡ v → ((z : q.Told) → from z ≡ v → y ≡ z) → Reads q text (Some (y, rest))
    as_reads y is_right told only = record {
      some = (is_right, ap (λ t. t ++ rest) (sym (same y) ∙ ap p.print told) ∙ reads.some.1);
      each = λ z more right_z parted is.
          let one = one_is z more right_z parted is in
          both_are (only z (sym (left_is one))) (right_is one);
    }

-- the same printed in another way
module _ (T : Type 0) (IsRight : T → Type 0) (print show : T → List ℕ) (text : List ℕ) (same : (x : T) → print x ≡ show x) where
  shown : (found : Option (T × List ℕ)) → IfSome found (λ r. IsRight r.0 × (print r.0 ++ r.1 ≡ text)) → IfSome found (λ r. IsRight r.0 × (show r.0 ++ r.1 ≡ text))
  shown None some = tt
  shown (Some r) some = (some.0, ap (λ t. t ++ r.1) (sym (same r.0)) ∙ some.1)

  pub show_reads : (found : Option (T × List ℕ)) → Reads (record { Told = T; IsRight = IsRight; print = print }) text found → Reads (record { Told = T; IsRight = IsRight; print = show }) text found
  show_reads found reads = record { some = shown found reads.some; each = λ x rest right parted is. reads.each x rest right parted (ap (λ t. t ++ rest) (same x) ∙ is) }
