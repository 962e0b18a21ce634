-- A text has at most one meaning: what is told at its front is told by the text.
use Rattle.std.proofs.Common.{◌≡◌, ℕ, ℤ, pos, ◌≤◌, List, [], ◌∷◌, ◌++◌, Option, Some, None, refl, sym, ap, subst, ◌∙◌, append_assoc, get_or, arith}
use Rattle.std.specs.Prelude.{codes, ◌^◌, ◌==◌, if◌then◌else◌}
use Rattle.std.specs.Fmt.{signed_decimal}
use Rattle.std.proofs.lemmas.List.{append_cancel_left}
use Rattle.std.proofs.lemmas.Int.{ints}
use Rattle.std.specs.Prelude.{negsuc, ◌≤ℤ◌}
use Rattle.samr_verify.specs.declared.line.Line.{Line}
use Rattle.samr_verify.specs.ReportLines.{IsMeaning}
use Rattle.samr_verify.proofs.HeadingLaws.{further, plain_text, further_text, by_zero, no_word, head_is, tail_is}
use Rattle.samr_verify.proofs.MeaningLaws.{first_text, step_text, level_text, box_text, edge_text, copy_text, coarse_text, outside_text, sum_text, probe_text, silent_text, end_text}
use Rattle.std.specs.Fmt.{decimal}
use Rattle.std.specs.Str.Parse.{AllDigits}
use Rattle.std.proofs.lemmas.Fmt.{decimal_is_IsNumeral}
use Rattle.std.proofs.lemmas.Str.Parse.{digit_from_value}
use Rattle.samr_verify.specs.declared.line.Line.TheVariants.{First, Step, LevelOf, BoxOf, EdgeOf, RowOf, SumOf, ProbeOf, End}
use Rattle.samr_verify.specs.declared.line.PrintedRow.TheVariants.{FromLevel, FromBelow, FromOutside}
use Rattle.samr_verify.specs.ReportLines.{IsCount, IsValue, IsLine, line_text}
use Rattle.samr_box.specs.declared.vector.IVec.{IVec}
use Rattle.samr_level.specs.Refs.{link}
use Rattle.samr_report.specs.Lines.{blank_numbers}
use Rattle.samr_report.specs.ScheduleLines.{headed}
use Rattle.samr_verify.specs.Words.{IsNumber, IsParted, Part}
use Rattle.samr_verify.specs.Reading.{and_then, behind_word, bare, number, count, level, triple, wide, boxed, shift, joined, heading, first_part, step_part, level_part, box_part, edge_part, joined_part, counted_part, end_part}
use Rattle.samr_verify.proofs.ReadLaws.{Parts, both_are_pair}
use Rattle.samr_verify.proofs.WordLaws.{one_first, one_number}
use Rattle.samr_verify.proofs.PartLaws.{three, triple_from, triple_right, triple_same, only_triple, box_parts, box_from, box_right, box_same, only_box, shift_right, shift_same, number_parts, pair_parts, triple_parts, corner_parts, boxed_parts, shift_parts, end_parts, count_parts, joined_parts, joined_tail, boxed_tail, edge_tail, width_tail, first_tail, cells_tail, boxes_tail}

-- of what two tell in front of two texts, if both are one text
pub record Unique (p : Part) : Type 0 where
  pub one : (x y : p.Told) (r s : List ℕ) → p.IsRight x → p.IsRight y → IsParted r → IsParted s → p.print x ++ r ≡ p.print y ++ s → (x ≡ y) × (r ≡ s)

bare_one : (m n : ℤ) (r s : List ℕ) → IsNumber m → IsNumber n → IsParted r → IsParted s → signed_decimal m ++ r ≡ signed_decimal n ++ s → (m ≡ n) × (r ≡ s)
bare_one m n [] s p q a b e = absurd a
bare_one m n (x ∷ xs) [] p q a b e = absurd b
bare_one m n (x ∷ xs) (y ∷ ys) p q a b e = one_first m n x y xs ys p q a b e

unique_bare : Unique bare
unique_bare = record { one = λ m n r s p q a b e. bare_one m n r s p q a b e }

unique_word : (word : List ℕ) (p : Part) → Unique p → Unique (behind_word word p)
unique_word word p u = record {
  one = λ x y r s a b c d e.
      u.one x y r s a b c d (append_cancel_left word (p.print x ++ r) (p.print y ++ s) (sym (append_assoc word (p.print x) r) ∙ e ∙ append_assoc word (p.print y) s));
}

unique_both : (p q : Part) → Parts q → Unique p → Unique q → Unique (and_then p q)
unique_both p q parts u v = record {
  one = λ x y r s a b c d e.
      let one = u.one x.0 y.0 (q.print x.1 ++ r) (q.print y.1 ++ s) a.0 b.0 (parts.parts x.1 r) (parts.parts y.1 s)
      (sym (append_assoc (p.print x.0) (q.print x.1) r) ∙ e ∙ append_assoc (p.print y.0) (q.print y.1) s) in
      let two = v.one x.1 y.1 r s a.1 b.1 c d one.1 in
      (both_are_pair one.0 two.0, two.1);
}

unique_as : (p q : Part) (from : q.Told → p.Told) → ((y : q.Told) → q.IsRight y → p.IsRight (from y)) → ((y : q.Told) → p.print (from y) ≡ q.print y)
    → ((x y : q.Told) → from x ≡ from y → x ≡ y) → Unique p → Unique q
unique_as p q from right same only u = record {
  one = λ x y r s a b c d e.
      let one = u.one (from x) (from y) r s (right x a) (right y b) c d (ap (λ t. t ++ r) (same x) ∙ e ∙ ap (λ t. t ++ s) (sym (same y))) in
      (only x y one.0, one.1);
}

unique_number : Unique number
unique_number = unique_as (behind_word (32 ∷ []) bare) number (λ n. n) (λ n right. right) one_number (λ x y e. e) (unique_word (32 ∷ []) bare unique_bare)

pos_one : (m n : ℕ) → pos m ≡ pos n → m ≡ n
pos_one m n e = cc

unique_count : Unique count
unique_count = unique_as number count (λ n. pos n) (λ n right. right) (λ n. refl) pos_one unique_number

unique_level : (most : ℕ) → most ≤ 2 ^ 63 → Unique (level most)
unique_level most small = unique_as count (level most) (λ n. n) (λ n right. omega (arith, right, small)) (λ n. refl) (λ x y e. e) unique_count

unique_triple : Unique triple
unique_triple =
    unique_as three triple triple_from triple_right triple_same (λ x y e. only_triple x y (sym e))
    (unique_both number (and_then number number) pair_parts unique_number (unique_both number number number_parts unique_number unique_number))

numbers_of : (v : IVec) → wide.IsRight v → triple.IsRight v
numbers_of v h = record { i = small v.i h.low.i h.high.i; j = small v.j h.low.j h.high.j; k = small v.k h.low.k h.high.k }
  where
    small : (n : ℤ) → pos 0 ≤ℤ n → n ≤ℤ pos 9223372036854775807 → IsNumber n
    small (pos n) low high = omega (arith, ints, high)
    small (negsuc n) low high = omega (arith, ints, low)

unique_wide : Unique wide
unique_wide = unique_as triple wide (λ v. v) numbers_of (λ v. refl) (λ x y e. e) unique_triple

unique_boxed : Unique boxed
unique_boxed =
    unique_as box_parts boxed box_from box_right box_same (λ x y e. only_box x y (sym e))
    (unique_both count (and_then triple triple) corner_parts unique_count (unique_both triple triple triple_parts unique_triple unique_triple))

unique_shift : Unique shift
unique_shift = unique_as triple shift (λ s. s) shift_right shift_same (λ x y e. e) unique_triple

unique_joined : Unique joined
unique_joined = unique_both boxed (and_then boxed shift) end_parts unique_boxed (unique_both boxed shift shift_parts unique_boxed unique_shift)

-- a field and a number behind a word that does not begin as the further fields do
unique_further : (word : List ℕ) → Unique (further word)
unique_further word =
    unique_word (102 ∷ []) (and_then (behind_word word count) count)
    (unique_both (behind_word word count) count count_parts (unique_word word count unique_count) unique_count)

mixed : (word others : List ℕ) (m : ℕ) (r : List ℕ) → (get_or word 0 102 ≡ 102 → ⊥) → (word ++ blank_numbers (pos m ∷ [])) ++ r ≡ 102 ∷ others → ⊥
mixed word others m r other e = no_word word (blank_numbers (pos m ∷ []) ++ r) others other (sym (append_assoc word (blank_numbers (pos m ∷ [])) r) ∙ e)

unique_heading : (word : List ℕ) → (get_or word 0 102 ≡ 102 → ⊥) → Unique (heading word)
unique_heading word other = record {
  one = λ x y r s a b c d e.
      by_zero x.0
      (λ p. by_zero y.0
      (λ q.
      let one = (unique_word word count unique_count).one x.1 y.1 r s a.1 b.1 c d
      (ap (λ t. t ++ r) (sym (plain_text word x.0 x.1 p)) ∙ e ∙ ap (λ t. t ++ s) (plain_text word y.0 y.1 q)) in
      (both_are_pair (p ∙ sym q) one.0, one.1))
      (λ q. absurd (mixed word _ x.1 r other (ap (λ t. t ++ r) (sym (plain_text word x.0 x.1 p)) ∙ e ∙ ap (λ t. t ++ s) (further_text word y.0 y.1 q)))))
      (λ p. by_zero y.0
      (λ q. absurd (mixed word _ y.1 s other (ap (λ t. t ++ s) (sym (plain_text word y.0 y.1 q)) ∙ sym e ∙ ap (λ t. t ++ r) (further_text word x.0 x.1 p))))
      (λ q. (unique_further word).one (x.0, x.1) (y.0, y.1) r s a b c d
      (ap (λ t. t ++ r) (sym (further_text word x.0 x.1 p)) ∙ e ∙ ap (λ t. t ++ s) (further_text word y.0 y.1 q))));
}

-- the value at a probe, or that there is none
abbrev value_text : Option ℕ → List ℕ
value_text None = codes " none"
value_text (Some v) = blank_numbers (pos v ∷ [])

abbrev valued : Part
valued = record { Told = Option ℕ; IsRight = IsValue; print = value_text }

valued_parts : Parts valued
unfolding blank_numbers
valued_parts = record { parts = λ x rest. by_value x rest }
  where
    by_value : (x : Option ℕ) (rest : List ℕ) → IsParted (value_text x ++ rest)
    by_value None rest = omega arith
    by_value (Some v) rest = omega arith

no_digit : (ds s t : List ℕ) → AllDigits 10 ds → IsParted s → ds ++ s ≡ 110 ∷ t → ⊥
no_digit [] [] t d parted e = absurd parted
no_digit [] (c ∷ cs) t d parted e = omega (arith, parted, head_is e)
no_digit (c ∷ cs) s t d parted e = omega (arith, digit_from_value c d.0, head_is e)

no_word_told : (v : ℕ) (r s : List ℕ) → IsCount v → IsParted s → codes " none" ++ r ≡ blank_numbers (pos v ∷ []) ++ s → ⊥
no_word_told v r s small parted e =
    no_digit (decimal v) s (111 ∷ 110 ∷ 101 ∷ r) (decimal_is_IsNumeral v (omega (arith, small))).0.1 parted
    (sym (tail_is (e ∙ ap (λ t. t ++ s) (sym (one_number (pos v))))))

unique_valued : Unique valued
unique_valued = record { one = λ x y r s a b c d e. by_values x y r s a b c d e }
  where
    by_values : (x y : Option ℕ) (r s : List ℕ) → IsValue x → IsValue y → IsParted r → IsParted s → value_text x ++ r ≡ value_text y ++ s → (x ≡ y) × (r ≡ s)
    by_values None None r s a b c d e = (refl, append_cancel_left (codes " none") r s e)
    by_values None (Some w) r s a b c d e = absurd (no_word_told w r s b d e)
    by_values (Some v) None r s a b c d e = absurd (no_word_told v s r a c (sym e))
    by_values (Some v) (Some w) r s a b c d e = let one = unique_count.one v w r s a b c d e in (ap (λ (n : ℕ). Some n) one.0, one.1)

-- the kinds of lines
data Kind : Type 0 where
  Firsts : Kind
  Steps : Kind
  Levels : Kind
  Boxes : Kind
  Edges : Kind
  Copies : Kind
  Coarses : Kind
  Outsides : Kind
  Sums : Kind
  Probes : Kind
  Ends : Kind

abbrev part_of : ℕ → Kind → Part
part_of most Firsts = first_part
part_of most Steps = step_part
part_of most Levels = level_part
part_of most Boxes = box_part
part_of most Edges = edge_part most
part_of most Copies = joined_part (codes "copy")
part_of most Coarses = joined_part (codes "coarse")
part_of most Outsides = counted_part (codes "outside")
part_of most Sums = counted_part (codes "sum")
part_of most Probes = and_then (heading (codes "probe")) valued
part_of most Ends = end_part

abbrev line_of : (most : ℕ) (kind : Kind) → (part_of most kind).Told → Line
line_of most Firsts x = First x.0 x.1.0 x.1.1
line_of most Steps x = Step x
line_of most Levels x = LevelOf x.0 x.1.0 x.1.1
line_of most Boxes x = BoxOf x.0 x.1
line_of most Edges x = EdgeOf x.0 x.1.0 (link x.1.1.0 x.1.1.1.0 x.1.1.1.1)
line_of most Copies x = RowOf x.0.1 (FromLevel x.0.0 x.1.0.0 x.1.0.1.0 x.1.0.1.1 x.1.1)
line_of most Coarses x = RowOf x.0.1 (FromBelow x.0.0 x.1.0.0 x.1.0.1.0 x.1.0.1.1 x.1.1)
line_of most Outsides x = RowOf x.0.1 (FromOutside x.0.0 x.1.0 x.1.1)
line_of most Sums x = SumOf x.0.0 x.0.1 x.1.0 x.1.1
line_of most Probes x = ProbeOf x.0.0 x.0.1 x.1
line_of most Ends x = End

unique_of : (most : ℕ) → most ≤ 2 ^ 63 → (kind : Kind) → Unique (part_of most kind)
unique_of most small Firsts = unique_both (behind_word (codes "samr ranks") count) (and_then (behind_word (codes " levels") count) (behind_word (codes " width") wide)) first_tail (unique_word (codes "samr ranks") count unique_count)
    (unique_both (behind_word (codes " levels") count) (behind_word (codes " width") wide) width_tail (unique_word (codes " levels") count unique_count) (unique_word (codes " width") wide unique_wide))
unique_of most small Steps = unique_word (codes "step") count unique_count
unique_of most small Levels = unique_both (behind_word (codes "level") count) (and_then (behind_word (codes " boxes") count) (behind_word (codes " cells") count)) boxes_tail (unique_word (codes "level") count unique_count)
    (unique_both (behind_word (codes " boxes") count) (behind_word (codes " cells") count) cells_tail (unique_word (codes " boxes") count unique_count) (unique_word (codes " cells") count unique_count))
unique_of most small Boxes = unique_both (behind_word (codes "box") count) boxed boxed_parts (unique_word (codes "box") count unique_count) unique_boxed
unique_of most small Edges = unique_both (behind_word (codes "edge") (level most)) (and_then (level most) joined) (edge_tail most) (unique_word (codes "edge") (level most) (unique_level most small))
    (unique_both (level most) joined joined_parts (unique_level most small) unique_joined)
unique_of most small Copies = unique_both (heading (codes "copy")) (and_then joined count) joined_tail (unique_heading (codes "copy") (λ e. omega (arith, e))) (unique_both joined count count_parts unique_joined unique_count)
unique_of most small Coarses = unique_both (heading (codes "coarse")) (and_then joined count) joined_tail (unique_heading (codes "coarse") (λ e. omega (arith, e))) (unique_both joined count count_parts unique_joined unique_count)
unique_of most small Outsides = unique_both (heading (codes "outside")) (and_then boxed count) boxed_tail (unique_heading (codes "outside") (λ e. omega (arith, e))) (unique_both boxed count count_parts unique_boxed unique_count)
unique_of most small Sums = unique_both (heading (codes "sum")) (and_then boxed count) boxed_tail (unique_heading (codes "sum") (λ e. omega (arith, e))) (unique_both boxed count count_parts unique_boxed unique_count)
unique_of most small Probes = unique_both (heading (codes "probe")) valued valued_parts (unique_heading (codes "probe") (λ e. omega (arith, e))) unique_valued
unique_of most small Ends = record { one = λ x y r s a b c d e. (refl, append_cancel_left (codes "end") r s e) }

-- the kind that a text begins as: by its first letters, without the one of a further field
abbrev kind_by : ℕ → ℕ → ℕ → Kind
kind_by a b c =
    if a == 108 then Levels else if a == 98 then Boxes else if a == 111 then Outsides else if a == 112 then Probes
    else if a == 99 then (if c == 112 then Copies else Coarses) else if a == 101 then (if b == 100 then Edges else Ends)
    else if b == 97 then Firsts else if b == 116 then Steps else Sums

abbrev kind_at : List ℕ → Kind
kind_at (a ∷ b ∷ c ∷ rest) = kind_by a b c
kind_at _ = Ends

abbrev begun_as : List ℕ → Kind
begun_as [] = Ends
begun_as (c ∷ cs) = if c == 102 then kind_at cs else kind_at (c ∷ cs)

-- a line as what is told in it
record Shown (most : ℕ) (l : Line) : Type 0 where
  kind : Kind
  told : (part_of most kind).Told
  right : (part_of most kind).IsRight told
  text : (part_of most kind).print told ++ 10 ∷ [] ≡ line_text l
  made : line_of most kind told ≡ l
  key : begun_as (line_text l) ≡ kind

copy_key : (f n : ℕ) (tail : List ℕ) → begun_as ((headed f (codes "copy") n ++ tail) ++ 10 ∷ []) ≡ Copies
copy_key f n tail =
    by_zero f (λ p. ap (λ t. begun_as ((t ++ tail) ++ 10 ∷ [])) (plain_text (codes "copy") f n p)) (λ p. ap (λ t. begun_as ((t ++ tail) ++ 10 ∷ [])) (further_text (codes "copy") f n p))

coarse_key : (f n : ℕ) (tail : List ℕ) → begun_as ((headed f (codes "coarse") n ++ tail) ++ 10 ∷ []) ≡ Coarses
coarse_key f n tail =
    by_zero f (λ p. ap (λ t. begun_as ((t ++ tail) ++ 10 ∷ [])) (plain_text (codes "coarse") f n p)) (λ p. ap (λ t. begun_as ((t ++ tail) ++ 10 ∷ [])) (further_text (codes "coarse") f n p))

outside_key : (f n : ℕ) (tail : List ℕ) → begun_as ((headed f (codes "outside") n ++ tail) ++ 10 ∷ []) ≡ Outsides
outside_key f n tail =
    by_zero f (λ p. ap (λ t. begun_as ((t ++ tail) ++ 10 ∷ [])) (plain_text (codes "outside") f n p)) (λ p. ap (λ t. begun_as ((t ++ tail) ++ 10 ∷ [])) (further_text (codes "outside") f n p))

sum_key : (f n : ℕ) (tail : List ℕ) → begun_as ((headed f (codes "sum") n ++ tail) ++ 10 ∷ []) ≡ Sums
sum_key f n tail =
    by_zero f (λ p. ap (λ t. begun_as ((t ++ tail) ++ 10 ∷ [])) (plain_text (codes "sum") f n p)) (λ p. ap (λ t. begun_as ((t ++ tail) ++ 10 ∷ [])) (further_text (codes "sum") f n p))

probe_key : (f n : ℕ) (tail : List ℕ) → begun_as ((headed f (codes "probe") n ++ tail) ++ 10 ∷ []) ≡ Probes
probe_key f n tail =
    by_zero f (λ p. ap (λ t. begun_as ((t ++ tail) ++ 10 ∷ [])) (plain_text (codes "probe") f n p)) (λ p. ap (λ t. begun_as ((t ++ tail) ++ 10 ∷ [])) (further_text (codes "probe") f n p))

shown : (most : ℕ) (l : Line) → IsLine most l → Shown most l
shown most (First n k w) h = record { kind = Firsts; told = (n, (k, w)); right = (h.0, (h.1, h.2)); text = first_text n k w; made = refl; key = ap begun_as (sym (first_text n k w)) }
shown most (Step t) h = record { kind = Steps; told = t; right = h; text = step_text t; made = refl; key = ap begun_as (sym (step_text t)) }
shown most (LevelOf k b c) h = record { kind = Levels; told = (k, (b, c)); right = (h.0, (h.1, h.2)); text = level_text k b c; made = refl; key = ap begun_as (sym (level_text k b c)) }
shown most (BoxOf k b) h = record { kind = Boxes; told = (k, b); right = h; text = box_text k b; made = refl; key = ap begun_as (sym (box_text k b)) }
shown most (EdgeOf k m e) h = record { kind = Edges; told = (k, (m, (e.base, (e.head, e.shift)))); right = (h.0, (h.1, (h.2, (h.3, h.4)))); text = edge_text most k m e.base e.head e.shift; made = refl; key = ap begun_as (sym (edge_text most k m e.base e.head e.shift)) }
shown most (RowOf k (FromLevel f b g s n)) h = record { kind = Copies; told = ((f, k), ((b, (g, s)), n)); right = ((h.1.0, h.0), ((h.1.1, (h.1.2, h.1.3)), h.1.4)); text = copy_text f k b g s n; made = refl; key = ap begun_as (sym (copy_text f k b g s n)) ∙ copy_key f k ((and_then joined count).print ((b, (g, s)), n)) }
shown most (RowOf k (FromBelow f b g s n)) h = record { kind = Coarses; told = ((f, k), ((b, (g, s)), n)); right = ((h.1.0, h.0), ((h.1.1, (h.1.2, h.1.3)), h.1.4)); text = coarse_text f k b g s n; made = refl; key = ap begun_as (sym (coarse_text f k b g s n)) ∙ coarse_key f k ((and_then joined count).print ((b, (g, s)), n)) }
shown most (RowOf k (FromOutside f b n)) h = record { kind = Outsides; told = ((f, k), (b, n)); right = ((h.1.0, h.0), (h.1.1, h.1.2)); text = outside_text f k b n; made = refl; key = ap begun_as (sym (outside_text f k b n)) ∙ outside_key f k ((and_then boxed count).print (b, n)) }
shown most (SumOf f k b v) h = record { kind = Sums; told = ((f, k), (b, v)); right = ((h.0, h.1), (h.2, h.3)); text = sum_text f k b v; made = refl; key = ap begun_as (sym (sum_text f k b v)) ∙ sum_key f k ((and_then boxed count).print (b, v)) }
shown most (ProbeOf f n (Some v)) h = record { kind = Probes; told = ((f, n), Some v); right = ((h.0, h.1), h.2); text = probe_text f n v; made = refl; key = ap begun_as (sym (probe_text f n v)) ∙ probe_key f n (value_text (Some v)) }
shown most (ProbeOf f n None) h = record { kind = Probes; told = ((f, n), None); right = ((h.0, h.1), tt); text = silent_text f n tt; made = refl; key = ap begun_as (sym (silent_text f n tt)) ∙ probe_key f n (value_text None) }
shown most (End) h = record { kind = Ends; told = tt; right = tt; text = end_text tt; made = refl; key = ap begun_as (sym (end_text tt)) }

same_kind : (most : ℕ) → most ≤ 2 ^ 63 → (k m : Kind) → k ≡ m → (x : (part_of most k).Told) (y : (part_of most m).Told) → (part_of most k).IsRight x → (part_of most m).IsRight y
    → (part_of most k).print x ++ 10 ∷ [] ≡ (part_of most m).print y ++ 10 ∷ [] → line_of most k x ≡ line_of most m y
same_kind most small k m e x =
    subst (λ j. (y : (part_of most j).Told) → (part_of most k).IsRight x → (part_of most j).IsRight y → (part_of most k).print x ++ 10 ∷ [] ≡ (part_of most j).print y ++ 10 ∷ []
    → line_of most k x ≡ line_of most j y) e
    (λ y p q same. ap (line_of most k) ((unique_of most small k).one x y (10 ∷ []) (10 ∷ []) p q (omega arith) (omega arith) same).0)

pub one_meaning : (most : ℕ) (text : List ℕ) (a b : Line) → most ≤ 2 ^ 63 → IsMeaning most text (Some a) → IsMeaning most text (Some b) → a ≡ b
one_meaning most text a b small p q =
    let one = shown most a p.0 in
    let other = shown most b q.0 in
    let same : line_text a ≡ line_text b = sym p.1 ∙ q.1 in
    sym one.made
    ∙ same_kind most small one.kind other.kind (sym one.key ∙ ap begun_as same ∙ other.key) one.told other.told one.right other.right (one.text ∙ same ∙ sym other.text)
    ∙ other.made
