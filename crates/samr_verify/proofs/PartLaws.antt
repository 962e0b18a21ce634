-- The parts of a line, each as parts of it one behind another.
use Rattle.std.proofs.Common.{◌≡◌, ℕ, ℤ, pos, negsuc, List, [], ◌∷◌, ◌++◌, refl, sym, ap, ◌∙◌, append_assoc, subst, arith, Option, Some, None, w8, w64, to_z, of_z}
use Rattle.std.specs.Fmt.{signed_decimal}
use Rattle.std.proofs.lemmas.Int.{ints, to_z-of_z}
use Rattle.std.proofs.lemmas.List.Concat.{flat_map-append}
use Rattle.std.specs.Prelude.{codes, ◌≤ℤ◌, ◌↔◌, IsSome, IfSome}
use Rattle.samr_box.specs.declared.vector.IVec.{IVec}
use Rattle.samr_box.specs.Vector.{IsShift, alike, AtMost}
use Rattle.samr_level.specs.Refs.{Owned}
use Rattle.samr_report.specs.Lines.{blank_numbers}
use Rattle.samr_report.specs.LevelLines.{box_numbers}
use Rattle.samr_report.specs.ScheduleLines.{shift_numbers}
use Rattle.samr_verify.specs.Words.{IsNumber, IsParted, Part, Reads}
use Rattle.samr_verify.specs.ReportLines.{IsCount, IsPrinted}
use Rattle.samr_verify.specs.Reading.{and_then, behind_word, number, count, level, AreNumbers, triple, boxed, shift, joined, wide, silent}
use Rattle.samr_verify.proofs.ReadLaws.{Parts, none_is, both_are_pair, as_reads}
use Rattle.samr_verify.proofs.NumberLaws.{same_held}

-- each begins with a blank
pub number_parts : Parts number
unfolding blank_numbers
number_parts = record { parts = λ n rest. omega arith }

pub count_parts : Parts count
unfolding blank_numbers
count_parts = record { parts = λ n rest. omega arith }

pub triple_parts : Parts triple
unfolding blank_numbers
triple_parts = record { parts = λ v rest. omega arith }

pub boxed_parts : Parts boxed
unfolding blank_numbers box_numbers
boxed_parts = record { parts = λ b rest. omega arith }

pub shift_parts : Parts shift
unfolding blank_numbers shift_numbers
shift_parts = record { parts = λ s rest. omega arith }

pub level_parts : (most : ℕ) → Parts (level most)
unfolding blank_numbers
level_parts most = record { parts = λ l rest. omega arith }

pub and_parts : (p q : Part) → Parts p → Parts (and_then p q)
and_parts p q h = record { parts = λ x rest. subst (λ t. IsParted t) (sym (append_assoc (p.print x.0) (q.print x.1) rest)) (h.parts x.0 (q.print x.1 ++ rest)) }

-- numbers, one list behind another
pub numbers_append : (ms ns : List ℤ) → blank_numbers ms ++ blank_numbers ns ≡ blank_numbers (ms ++ ns)
unfolding blank_numbers
numbers_append ms ns = sym (flat_map-append (λ n. 32 ∷ signed_decimal n) ms ns)

-- a count is a number
pub count_right : (n : ℕ) → IsCount n → IsNumber (pos n)
count_right n small = small

-- three numbers
abbrev pub three : Part
three = and_then number (and_then number number)

abbrev pub triple_from : IVec → ℤ × (ℤ × ℤ)
triple_from v = (v.i, (v.j, v.k))

pub triple_right : (v : IVec) → AreNumbers v → three.IsRight (triple_from v)
triple_right v a = (a.i, (a.j, a.k))

pub triple_same : (v : IVec) → three.print (triple_from v) ≡ triple.print v
triple_same v =
    ap (λ t. blank_numbers (v.i ∷ []) ++ t) (numbers_append (v.j ∷ []) (v.k ∷ [])) ∙ numbers_append (v.i ∷ []) (v.j ∷ v.k ∷ [])

pub pair_parts : Parts (and_then number number)
pair_parts = and_parts number number number_parts

pub only_triple : (v z : IVec) → triple_from z ≡ triple_from v → v ≡ z
only_triple v z e = ap (λ (p : ℤ × (ℤ × ℤ)). let w : IVec = record { k = p.1.1; j = p.1.0; i = p.0 } in w) (sym e)

held : (n : ℤ) → IsNumber n → n ≡ to_z w64 (of_z w64 n)
held n small = sym (same_held n n small refl)

pub triple_reads : (text : List ℕ) (i j k : ℤ) (rest : List ℕ) → Reads three text (Some ((i, (j, k)), rest))
    → Reads triple text (Some (record { k = to_z w64 (of_z w64 k); j = to_z w64 (of_z w64 j); i = to_z w64 (of_z w64 i) }, rest))
triple_reads text i j k rest reads =
    let v : IVec = record { k = k; j = j; i = i } in
    let numbers = reads.some.0 in
    let exact = as_reads three triple text triple_from triple_right triple_same (i, (j, k)) rest reads v (record { i = numbers.0; j = numbers.1.0; k = numbers.1.1 }) refl (λ z e. only_triple v z e) in
    subst (λ (c : ℤ). Reads triple text (Some (record { k = c; j = to_z w64 (of_z w64 j); i = to_z w64 (of_z w64 i) }, rest))) (held k numbers.1.1)
    (subst (λ (b : ℤ). Reads triple text (Some (record { k = k; j = b; i = to_z w64 (of_z w64 i) }, rest))) (held j numbers.1.0)
    (subst (λ (a : ℤ). Reads triple text (Some (record { k = k; j = j; i = a }, rest))) (held i numbers.0) exact))

-- a box
abbrev pub box_parts : Part
box_parts = and_then count (and_then triple triple)

abbrev pub box_from : Owned → ℕ × (IVec × IVec)
box_from b = (b.owner, (b.bx.lo, b.bx.hi))

between : (n : ℤ) → negsuc 1073741822 ≤ℤ n → n ≤ℤ pos 1073741823 → IsNumber n
between (pos n) low high = omega (arith, ints, high)
between (negsuc n) low high = omega (arith, ints, low)

numbers_between : (a b : IVec) → AtMost (alike (negsuc 1073741822)) a → AtMost a b → AtMost b (alike (pos 1073741823)) → AreNumbers a × AreNumbers b
numbers_between a b low order high = (
  record {
    i = between a.i (low.i) (omega (arith, ints, order.i, high.i));
    j = between a.j (low.j) (omega (arith, ints, order.j, high.j));
    k = between a.k (low.k) (omega (arith, ints, order.k, high.k));
  },
  record {
    i = between b.i (omega (arith, ints, low.i, order.i)) high.i;
    j = between b.j (omega (arith, ints, low.j, order.j)) high.j;
    k = between b.k (omega (arith, ints, low.k, order.k)) high.k;
  },
)

pub box_right : (b : Owned) → IsPrinted b → box_parts.IsRight (box_from b)
box_right b p =
    let n = numbers_between b.bx.lo b.bx.hi p.low p.order p.high in
    (omega (arith, p.owner), (n.0, n.1))

pub box_same : (b : Owned) → box_parts.print (box_from b) ≡ boxed.print b
unfolding box_numbers
box_same b =
    ap (λ t. blank_numbers (pos b.owner ∷ []) ++ t) (numbers_append (b.bx.lo.i ∷ b.bx.lo.j ∷ b.bx.lo.k ∷ []) (b.bx.hi.i ∷ b.bx.hi.j ∷ b.bx.hi.k ∷ []))
    ∙ numbers_append (pos b.owner ∷ []) (b.bx.lo.i ∷ b.bx.lo.j ∷ b.bx.lo.k ∷ b.bx.hi.i ∷ b.bx.hi.j ∷ b.bx.hi.k ∷ [])

pub corner_parts : Parts (and_then triple triple)
corner_parts = and_parts triple triple triple_parts

pub box_wrong : (owner : ℕ) (lo hi : IVec) (o : Option Owned) → o ≡ None → ((b : Owned) → IsPrinted b → b.owner ≡ owner → b.bx.lo ≡ lo → b.bx.hi ≡ hi → o ≡ Some b)
    → (b : Owned) → IsPrinted b → box_from b ≡ (owner, (lo, hi)) → ⊥
box_wrong owner lo hi o none each b p e = none_is b (sym none ∙ each b p (ap (λ x. x.0) e) (ap (λ x. x.1.0) e) (ap (λ x. x.1.1) e))

pub only_box : (b z : Owned) → box_from z ≡ box_from b → b ≡ z
only_box b z e = ap (λ (p : ℕ × (IVec × IVec)). let w : Owned = record { owner = p.0; bx = record { lo = p.1.0; hi = p.1.1 } } in w) (sym e)

pub box_reads : (text : List ℕ) (owner : ℕ) (lo hi : IVec) (rest : List ℕ) → Reads box_parts text (Some ((owner, (lo, hi)), rest)) → (b : Owned)
    → IsPrinted b × (b.owner ≡ owner) × (b.bx.lo ≡ lo) × (b.bx.hi ≡ hi) → Reads boxed text (Some (b, rest))
box_reads text owner lo hi rest reads b some =
    let told = both_are_pair some.1 (both_are_pair some.2 some.3) in
    as_reads box_parts boxed text box_from box_right box_same (owner, (lo, hi)) rest reads b some.0 told (λ z e. only_box b z (e ∙ sym told))

-- a shift and an edge
turn : (n : ℤ) → negsuc 0 ≤ℤ n → n ≤ℤ pos 1 → IsNumber n
turn n low high = between n (omega (arith, ints, low)) (omega (arith, ints, high))

pub shift_right : (s : IVec) → IsShift s → AreNumbers s
shift_right s h = record { i = turn s.i h.low.i h.high.i; j = turn s.j h.low.j h.high.j; k = turn s.k h.low.k h.high.k }

pub shift_same : (s : IVec) → triple.print s ≡ shift.print s
unfolding shift_numbers
shift_same s = refl

pub shift_wrong : (numbers : IVec) (o : Option IVec) → o ≡ None → (IsShift numbers → o ≡ Some numbers) → (s : IVec) → IsShift s → s ≡ numbers → ⊥
shift_wrong numbers o none each s h e = none_is numbers (sym none ∙ each (subst IsShift e h))

pub shift_reads : (text : List ℕ) (numbers : IVec) (rest : List ℕ) → Reads triple text (Some (numbers, rest)) → (s : IVec) → IsShift s × (s ≡ numbers) → Reads shift text (Some (s, rest))
shift_reads text numbers rest reads s some = as_reads triple shift text (λ x. x) shift_right shift_same numbers rest reads s some.0 some.1 (λ z e. some.1 ∙ sym e)

pub shift_made : (numbers s : IVec) (o : Option IVec) → (IsSome o ↔ IsShift s) → IfSome o (λ v. v ≡ s) → s ≡ numbers → IsShift numbers → o ≡ Some numbers
shift_made numbers s None iff value same right = absurd (cc (iff.1 (subst IsShift (sym same) right)))
shift_made numbers s (Some v) iff value same right = ap (λ (x : IVec). Some x) (value ∙ same)

pub same_shift : (s : IVec) (i j k : ℤ) → IsShift s → i ≡ to_z w64 (of_z w64 s.i) → j ≡ to_z w64 (of_z w64 s.j) → k ≡ to_z w64 (of_z w64 s.k) → ◌≡◌ {A = IVec} (record { k = k; j = j; i = i }) s
same_shift s i j k h p q r =
    let numbers = shift_right s h in
    only_triple (record { k = k; j = j; i = i }) s (both_are_pair (held s.i numbers.i ∙ sym p) (both_are_pair (held s.j numbers.j ∙ sym q) (held s.k numbers.k ∙ sym r)))

-- a box, or a box and a shift
pub end_parts : Parts (and_then boxed shift)
end_parts = and_parts boxed shift boxed_parts

pub turn_fits : (n : ℤ) → negsuc 0 ≤ℤ n → n ≤ℤ pos 1 → to_z w8 (of_z w8 n) ≡ n
turn_fits (pos n) low high = to_z-of_z w8 (pos n) (record { sfits = omega (arith, ints, low, high) })
turn_fits (negsuc n) low high = to_z-of_z w8 (negsuc n) (record { sfits = omega (arith, ints, low, high) })

pub joined_parts : Parts joined
joined_parts = and_parts boxed (and_then boxed shift) boxed_parts

pub joined_tail : Parts (and_then joined count)
joined_tail = and_parts joined count joined_parts

pub boxed_tail : Parts (and_then boxed count)
boxed_tail = and_parts boxed count boxed_parts

pub edge_tail : (most : ℕ) → Parts (and_then (level most) joined)
edge_tail most = and_parts (level most) joined (level_parts most)

-- words with a blank before them
pub width_tail : Parts (behind_word (codes " width") wide)
width_tail = record { parts = λ w rest. omega arith }

levels_parts : Parts (behind_word (codes " levels") count)
levels_parts = record { parts = λ n rest. omega arith }

pub first_tail : Parts (and_then (behind_word (codes " levels") count) (behind_word (codes " width") wide))
first_tail = and_parts (behind_word (codes " levels") count) (behind_word (codes " width") wide) levels_parts

pub cells_tail : Parts (behind_word (codes " cells") count)
cells_tail = record { parts = λ n rest. omega arith }

boxes_parts : Parts (behind_word (codes " boxes") count)
boxes_parts = record { parts = λ n rest. omega arith }

pub boxes_tail : Parts (and_then (behind_word (codes " boxes") count) (behind_word (codes " cells") count))
boxes_tail = and_parts (behind_word (codes " boxes") count) (behind_word (codes " cells") count) boxes_parts

pub silent_parts : Parts silent
silent_parts = record { parts = λ u rest. omega arith }
