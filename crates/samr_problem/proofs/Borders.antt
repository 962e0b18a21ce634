-- The first values and the borders of a field whose numbers are in range.
use Rattle.std.proofs.Common.{◌≡◌, ◌∙◌, ap, sym, refl, ℕ, ◌+◌, ◌<◌, ℤ, pos, negsuc, ◌<ℤ◌, Bool, true, false, ◌&&◌, ◌||◌, ◌==◌, Option, Some, None, arith}
use Rattle.std.proofs.lemmas.Bool.{and_parts, eq-eqb, false≢true, lt-ltb}
use Rattle.std.proofs.lemmas.Bool.Decides.{Decides-int_eq}
use Rattle.std.proofs.lemmas.Float.{T_from_true}
use Rattle.std.proofs.lemmas.Int.{ints}
use Rattle.std.specs.Int.Signed.{lt_z_yes}
use Rattle.std.specs.Ordering.{int_eq}
use Rattle.std.specs.Prelude.{int_le, int_lt, if◌then◌else◌, nat_lt}
use Rattle.samr_ops.specs.declared.rules.Rule.TheVariants.{Fixed, Clamp, Reflect}
use Rattle.toml.specs.Data.{Data, string, integer, float, boolean, datetime, array, table}
use Rattle.samr_problem.specs.Fields.{border_of, init_of, rule_of}
use Rattle.samr_problem.specs.Problems.{are_one_number, is_below, is_border, is_init, is_one_border}
use Rattle.samr_problem.specs.Ranges.{is_fit_rule, is_one_number, rule_fits, rule_number, rules_fit, values_fit}
use Rattle.samr_problem.specs.Values.{axes_within, entry_of, is_within, number_of, vector_from, word}
use Rattle.samr_problem.proofs.Bounds.{Between, word_within}

-- a number that is not negative is a rule of that number
rule_fixed : (value : Option Data) → int_le (pos 0) (number_of value (negsuc 0)) ≡ true → rule_of value ≡ Fixed (word (number_of value (negsuc 0)))
unfolding rule_of
rule_fixed None there = absurd (false≢true there)
rule_fixed (Some (string s)) there = absurd (false≢true there)
rule_fixed (Some (integer z)) there = refl
rule_fixed (Some (float x)) there = absurd (false≢true there)
rule_fixed (Some (boolean b)) there = absurd (false≢true there)
rule_fixed (Some (datetime t)) there = absurd (false≢true there)
rule_fixed (Some (array ds)) there = absurd (false≢true there)
rule_fixed (Some (table ms)) there = absurd (false≢true there)

one_true : (a b : Option Data) → int_le (pos 0) (number_of a (negsuc 0)) ≡ true → int_eq (number_of a (negsuc 0)) (number_of b (negsuc 0)) ≡ true
    → are_one_number (rule_of a) (rule_of b) ≡ true
one_true a b low same =
    let equal : number_of a (negsuc 0) ≡ number_of b (negsuc 0) = (Decides-int_eq (number_of a (negsuc 0)) (number_of b (negsuc 0))).0 same in
    let high : int_le (pos 0) (number_of b (negsuc 0)) ≡ true = ap (λ z. int_le (pos 0) z) (sym equal) ∙ low in
    rw (rule_fixed a low, rule_fixed b high) (eq-eqb (word (number_of a (negsuc 0))) (word (number_of b (negsuc 0))) (ap (λ z. word z) equal))

third_one : (flat : Bool) (a b : Option Data) → int_le (pos 0) (number_of a (negsuc 0)) ≡ true → (flat || int_eq (number_of a (negsuc 0)) (number_of b (negsuc 0))) ≡ true
    → (flat || are_one_number (rule_of a) (if flat then Clamp else rule_of b)) ≡ true
third_one true a b low same = refl
third_one false a b low same = one_true a b low same

-- rules of one number make one border
pub border_one : (dim : ℕ) (value : Option Data) → is_one_number dim value ≡ true → is_one_border dim (border_of dim value) ≡ true
unfolding is_one_number border_of is_one_border
border_one dim value passed =
    let (low, rest) = and_parts (int_le (pos 0) (rule_number 0 value)) (int_eq (rule_number 0 value) (rule_number 1 value) && (dim == 2 || int_eq (rule_number 0 value) (rule_number 2 value))) passed in
    let (second, third) = and_parts (int_eq (rule_number 0 value) (rule_number 1 value)) (dim == 2 || int_eq (rule_number 0 value) (rule_number 2 value)) rest in
    rw (one_true (entry_of 0 value) (entry_of 1 value) low second) (third_one (dim == 2) (entry_of 0 value) (entry_of 2 value) low third)

number_below : (z modulus : ℤ) → Between (pos 2) (pos 2147483647) modulus → (int_le (pos 0) z && int_lt z modulus) ≡ true → nat_lt (word z) (word modulus) ≡ true
number_below (pos n) (pos m) range passed =
    let under : pos n <ℤ pos m = lt_z_yes (T_from_true (int_lt (pos n) (pos m)) (and_parts (int_le (pos 0) (pos n)) (int_lt (pos n) (pos m)) passed).1) in
    let top = range.below in
    let low : word (pos n) < word (pos m) = omega (arith, ints) in
    lt-ltb (word (pos n)) (word (pos m)) low
number_below (pos n) (negsuc m) range passed = absurd (let low = range.above in omega (arith, ints))
number_below (negsuc n) modulus range passed = absurd (false≢true passed)

text_below : (modulus : ℕ) (mirrored : Bool) → is_below modulus (if mirrored then Reflect else Clamp) ≡ true
text_below modulus true = refl
text_below modulus false = refl

rule_below : (modulus : ℤ) (value : Option Data) → Between (pos 2) (pos 2147483647) modulus → rule_fits modulus value ≡ true → is_below (word modulus) (rule_of value) ≡ true
unfolding rule_of is_fit_rule
rule_below modulus None range passed = refl
rule_below modulus (Some (string s)) range passed = text_below (word modulus) _
rule_below modulus (Some (integer z)) range passed = number_below z modulus range passed
rule_below modulus (Some (float x)) range passed = refl
rule_below modulus (Some (boolean b)) range passed = refl
rule_below modulus (Some (datetime t)) range passed = refl
rule_below modulus (Some (array ds)) range passed = refl
rule_below modulus (Some (table ms)) range passed = refl

third_below : (flat : Bool) (modulus : ℤ) (value : Option Data) → Between (pos 2) (pos 2147483647) modulus → (flat || rule_fits modulus value) ≡ true
    → is_below (word modulus) (if flat then Clamp else rule_of value) ≡ true
third_below true modulus value range passed = refl
third_below false modulus value range passed = rule_below modulus value range passed

-- rules in range have numbers below the modulus
pub border_true : (dim : ℕ) (modulus : ℤ) (value : Option Data) → Between (pos 2) (pos 2147483647) modulus → rules_fit dim modulus value ≡ true
    → is_border (word modulus) (border_of dim value) ≡ true
unfolding rules_fit border_of is_border
border_true dim modulus value range passed =
    let (first, rest) = and_parts (rule_fits modulus (entry_of 0 value)) (rule_fits modulus (entry_of 1 value) && (dim == 2 || rule_fits modulus (entry_of 2 value))) passed in
    let (second, third) = and_parts (rule_fits modulus (entry_of 1 value)) (dim == 2 || rule_fits modulus (entry_of 2 value)) rest in
    rw (rule_below modulus (entry_of 0 value) range first, rule_below modulus (entry_of 1 value) range second) (third_below (dim == 2) modulus (entry_of 2 value) range third)

value_below : (z : ℤ) → is_within (pos 0) (pos 2147483646) z ≡ true → nat_lt (word z) 2147483647 ≡ true
value_below z passed =
    let found = word_within 0 2147483646 z (omega arith) passed in
    let high = found.below in
    let low : word z < 2147483647 = omega (arith, high) in lt-ltb (word z) 2147483647 low

third_value : (flat : Bool) (z : ℤ) → (flat || is_within (pos 0) (pos 2147483646) (if flat then pos 0 else z)) ≡ true → nat_lt (word (if flat then pos 0 else z)) 2147483647 ≡ true
third_value true z passed = refl
third_value false z passed = value_below z passed

-- first values in range are below their limit
pub init_true : (dim : ℕ) (value : Option Data) → values_fit dim value ≡ true → is_init (init_of dim value) ≡ true
unfolding values_fit init_of is_init axes_within vector_from
init_true dim value passed =
    let (at_first, slopes) = and_parts _ _ passed in
    let (at_i, rest) = and_parts _ _ slopes in
    let (at_j, at_k) = and_parts _ _ rest in
    rw (
      value_below (number_of (entry_of 0 value) (pos 0)) at_first,
      value_below (number_of (entry_of 1 value) (pos 0)) at_i,
      value_below (number_of (entry_of (1 + 1) value) (pos 0)) at_j,
    )
    (third_value (dim == 2) (number_of (entry_of (1 + 2) value) (pos 0)) at_k)
