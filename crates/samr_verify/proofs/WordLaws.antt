-- A number before a blank or a line feed is told by its text.
use Rattle.std.proofs.Common.{Bool, cond, Option, Some, None, option_map, length, take, drop, get_or, sym, subst, ◌+◌, ◌≡◌, ℕ, ℤ, pos, negsuc, suc, FitsSigned, ◌<◌, ◌≤◌, refl, ap, ◌∙◌, arith}
use Rattle.std.proofs.lemmas.Fmt.{decimal_is_IsNumeral, signed_decimal_injective}
use Rattle.std.proofs.lemmas.Str.Parse.{digit_from_value}
use Rattle.std.specs.Prelude.{List, [], ◌∷◌, ◌++◌}
use Rattle.samr_report.specs.Lines.{blank_numbers}
use Rattle.std.specs.Fmt.{decimal, signed_decimal}
use Rattle.std.specs.Str.Parse.{AllDigits}
use Rattle.samr_verify.specs.Words.{IsNumber, IsParted, Reads, word_len}
use Rattle.samr_verify.specs.Reading.{bare}
use Rattle.samr_verify.proofs.ReadLaws.{both_are}
use Rattle.std.proofs.Common.{w64, to_z, of_z, true, false}
use Rattle.std.specs.Int.Signed.{lt_z, lt_z_yes, lt_z_no}
use Rattle.std.proofs.lemmas.Int.{ints}
use Rattle.std.proofs.lemmas.Float.{T_from_true}
use Rattle.std.proofs.lemmas.List.{take-append-drop}
use Rattle.std.specs.Prelude.{◌≤ℤ◌, ◌<ℤ◌, not}
use Rattle.samr_verify.proofs.NumberLaws.{same_held}
use Rattle.std.proofs.lemmas.Bool.{lt-ltb, le-ltb}
use Rattle.std.proofs.lemmas.List.{take_at, drop_at, drop_more, drop_all, append-nil}

abbrev AreGlyphs : List ℕ → Type 0
AreGlyphs [] = Unit {0}
AreGlyphs (c ∷ cs) = (32 < c) × AreGlyphs cs

first_same : {X : Type 0} {x y : X} {xs ys : List X} → x ∷ xs ≡ y ∷ ys → x ≡ y
first_same e = cc

rest_same : {X : Type 0} {x y : X} {xs ys : List X} → x ∷ xs ≡ y ∷ ys → xs ≡ ys
rest_same e = cc

parted : (a b : List ℕ) (x y : ℕ) (xs ys : List ℕ) → AreGlyphs a → AreGlyphs b → x ≤ 32 → y ≤ 32 → a ++ x ∷ xs ≡ b ++ y ∷ ys → (a ≡ b) × (x ∷ xs ≡ y ∷ ys)
parted [] [] x y xs ys g h p q e = (refl, e)
parted [] (b ∷ bs) x y xs ys g h p q e = absurd (omega (arith, p, h.0, first_same e))
parted (a ∷ more) [] x y xs ys g h p q e = absurd (omega (arith, q, g.0, first_same e))
parted (a ∷ more) (b ∷ bs) x y xs ys g h p q e =
    let r = parted more bs x y xs ys g.1 h.1 p q (rest_same e) in
    (ap (λ (l : List ℕ). a ∷ l) r.0 ∙ ap (λ (c : ℕ). c ∷ bs) (first_same e), r.1)

digits_glyphs : (ds : List ℕ) → AllDigits 10 ds → AreGlyphs ds
digits_glyphs [] d = tt
digits_glyphs (c ∷ cs) d = (omega (arith, digit_from_value c d.0), digits_glyphs cs d.1)

glyphs : (n : ℤ) → IsNumber n → AreGlyphs (signed_decimal n)
glyphs (pos n) small = digits_glyphs (decimal n) (decimal_is_IsNumeral n (omega (arith, small))).0.1
glyphs (negsuc n) small = (omega arith, digits_glyphs (decimal (suc n)) (decimal_is_IsNumeral (suc n) (omega (arith, small))).0.1)

same_text : (m n : ℤ) → IsNumber m → IsNumber n → signed_decimal m ≡ signed_decimal n → m ≡ n
same_text (pos m) (pos n) p q e = signed_decimal_injective (pos m) (pos n) p q e
same_text (pos m) (negsuc n) p q e = signed_decimal_injective (pos m) (negsuc n) p (omega (arith, q)) e
same_text (negsuc m) (pos n) p q e = signed_decimal_injective (negsuc m) (pos n) (omega (arith, p)) q e
same_text (negsuc m) (negsuc n) p q e = signed_decimal_injective (negsuc m) (negsuc n) (omega (arith, p)) (omega (arith, q)) e

-- of two texts that are one and begin with a number and then a blank or a line feed, the numbers are one and the rests are
pub one_first : (m n : ℤ) (x y : ℕ) (xs ys : List ℕ) → IsNumber m → IsNumber n → x ≤ 32 → y ≤ 32
    → signed_decimal m ++ x ∷ xs ≡ signed_decimal n ++ y ∷ ys → (m ≡ n) × (x ∷ xs ≡ y ∷ ys)
one_first m n x y xs ys p q s t e =
    let r = parted (signed_decimal m) (signed_decimal n) x y xs ys (glyphs m p) (glyphs n q) s t e in
    (same_text m n p q r.0, r.1)

-- what a call that gives a part of a text or nothing has given
pub never : {X Y : Type 0} (f : X → Y) (o : Option X) (y : Y) → o ≡ None → option_map f o ≡ Some y → ⊥
never f None y e h = cc
never f (Some x) y e h = cc

pub found : {X Y : Type 0} (f : X → Y) (o : Option X) (x : X) (y : Y) → o ≡ Some x → option_map f o ≡ Some y → f x ≡ y
found f None x y e h = cc
found f (Some w) x y e h = cc

-- what stands behind a word
pub front_is : (word rest text : List ℕ) → word ++ rest ≡ text → take (length word) text ≡ word
front_is word rest text e = ap (take (length word)) (sym e) ∙ take_at word rest (length word) refl

pub back_is : (word rest text : List ℕ) → word ++ rest ≡ text → drop (length word) text ≡ rest
back_is word rest text e = ap (drop (length word)) (sym e) ∙ drop_at word rest (length word) refl

-- where a word ends
pub goes_on : (text : List ℕ) (i d : ℕ) → i < length text → 32 < get_or text i d → word_len text ≡ i + word_len (drop i text)
    → word_len text ≡ i + 1 + word_len (drop (i + 1) text)
unfolding word_len
goes_on text i d more glyph known =
    let later : i + (1 + word_len (drop (i + 1) text)) ≡ i + 1 + word_len (drop (i + 1) text) = omega arith in
    known ∙ ap (λ (t : List ℕ). i + word_len t) (drop_more text i d more)
    ∙ ap (λ (b : Bool). i + cond b (1 + word_len (drop (i + 1) text)) 0) (lt-ltb 32 (get_or text i d) glyph) ∙ later

pub stops : (text : List ℕ) (i d : ℕ) → i < length text → get_or text i d ≤ 32 → word_len text ≡ i + word_len (drop i text) → word_len text ≡ i
unfolding word_len
stops text i d more blank known =
    let here : i + 0 ≡ i = omega arith in
    known ∙ ap (λ (t : List ℕ). i + word_len t) (drop_more text i d more)
    ∙ ap (λ (b : Bool). i + cond b (1 + word_len (drop (i + 1) text)) 0) (le-ltb 32 (get_or text i d) blank) ∙ here

pub ends : (text : List ℕ) (i : ℕ) → length text ≤ i → word_len text ≡ i + word_len (drop i text) → word_len text ≡ i
unfolding word_len
ends text i all known =
    let here : i + 0 ≡ i = omega arith in
    known ∙ ap (λ (t : List ℕ). i + word_len t) (drop_all i text all) ∙ here

glyphs_long : (word : List ℕ) (x : ℕ) (xs : List ℕ) → AreGlyphs word → x ≤ 32 → word_len (word ++ x ∷ xs) ≡ length word
unfolding word_len
glyphs_long [] x xs g low = ap (λ (b : Bool). cond b (1 + word_len xs) 0) (le-ltb 32 x low)
glyphs_long (c ∷ cs) x xs g low =
    ap (λ (b : Bool). cond b (1 + word_len (cs ++ x ∷ xs)) 0) (lt-ltb 32 c g.0) ∙ ap (λ (n : ℕ). 1 + n) (glyphs_long cs x xs g.1 low) ∙ omega arith

-- the word of a number at the front of a text
pub number_long : (n : ℤ) (x : ℕ) (xs text : List ℕ) → IsNumber n → x ≤ 32 → signed_decimal n ++ x ∷ xs ≡ text → word_len text ≡ length (signed_decimal n)
number_long n x xs text small low e = ap word_len (sym e) ∙ glyphs_long (signed_decimal n) x xs (glyphs n small) low

pub number_word : (n : ℤ) (x : ℕ) (xs text : List ℕ) → IsNumber n → x ≤ 32 → signed_decimal n ++ x ∷ xs ≡ text → take (word_len text) text ≡ signed_decimal n
number_word n x xs text small low e = ap (λ (k : ℕ). take k text) (number_long n x xs text small low e) ∙ front_is (signed_decimal n) (x ∷ xs) text e

pub number_rest : (n : ℤ) (x : ℕ) (xs text : List ℕ) → IsNumber n → x ≤ 32 → signed_decimal n ++ x ∷ xs ≡ text → drop (word_len text) text ≡ x ∷ xs
number_rest n x xs text small low e = ap (λ (k : ℕ). drop k text) (number_long n x xs text small low e) ∙ back_is (signed_decimal n) (x ∷ xs) text e

-- the same before any text by which the word has ended
pub word_is : (n : ℤ) (rest text : List ℕ) → IsNumber n → IsParted rest → signed_decimal n ++ rest ≡ text → take (word_len text) text ≡ signed_decimal n
word_is n [] text small parted e = absurd parted
word_is n (x ∷ xs) text small parted e = number_word n x xs text small parted e

pub rest_is : (n : ℤ) (rest text : List ℕ) → IsNumber n → IsParted rest → signed_decimal n ++ rest ≡ text → drop (word_len text) text ≡ rest
rest_is n [] text small parted e = absurd parted
rest_is n (x ∷ xs) text small parted e = number_rest n x xs text small parted e

-- a number behind a blank
pub one_number : (n : ℤ) → 32 ∷ [] ++ signed_decimal n ≡ blank_numbers (n ∷ [])
unfolding blank_numbers
one_number n = sym (append-nil (32 ∷ signed_decimal n))

-- a number that is not too small, and one that is
small_not : (n : ℤ) → IsNumber n → n <ℤ negsuc 9223372036854775806 → ⊥
small_not (pos n) small low = omega (arith, ints, low)
small_not (negsuc n) small low = omega (arith, ints, small, low)

negative : (m : ℕ) → negsuc 9223372036854775806 ≤ℤ negsuc m → IsNumber (negsuc m)
negative m high = omega (arith, ints, high)

pub too_small : (m n : ℤ) → IsNumber n → m ≡ n → lt_z (to_z w64 (of_z w64 m)) (negsuc 9223372036854775806) ≡ true → ⊥
too_small m n small same low =
    let below = subst (λ (k : ℤ). lt_z k (negsuc 9223372036854775806) ≡ true) (same_held m n small same) low in
    small_not n small (lt_z_yes (T_from_true (lt_z n (negsuc 9223372036854775806)) below))

in_range : (m : ℤ) → FitsSigned w64 m → lt_z m (negsuc 9223372036854775806) ≡ false → IsNumber m
in_range (pos m) f high = omega (arith, f.sfits)
in_range (negsuc m) f high = negative m (lt_z_no (T_from_true (not (lt_z (negsuc m) (negsuc 9223372036854775806))) (ap not high)))

joins : (word rest text : List ℕ) → word ≡ take (word_len text) text → rest ≡ drop (word_len text) text → word ++ rest ≡ text
joins word rest text front back = ap (λ w. w ++ rest) front ∙ ap (λ r. take (word_len text) text ++ r) back ∙ take-append-drop (word_len text) text

pub bare_reads : (text : List ℕ) (m : ℤ) (word rest : List ℕ) → FitsSigned w64 m → m ≡ to_z w64 (of_z w64 m) → lt_z (to_z w64 (of_z w64 m)) (negsuc 9223372036854775806) ≡ false
    → signed_decimal m ≡ word → word ≡ take (word_len text) text → rest ≡ drop (word_len text) text
    → ((n : ℤ) → IsNumber n → signed_decimal n ≡ word → m ≡ n)
    → Reads bare text (Some (to_z w64 (of_z w64 m), rest))
bare_reads text m word rest fit held high writes front back only =
    subst (λ (k : ℤ). Reads bare text (Some (k, rest))) held (record {
      some = (in_range m fit (subst (λ (k : ℤ). lt_z k (negsuc 9223372036854775806) ≡ false) (sym held) high), ap (λ w. w ++ rest) writes ∙ joins word rest text front back);
      each = λ n more small parted is.
          both_are (only n small (sym (front ∙ word_is n more text small parted is))) (back ∙ rest_is n more text small parted is);
    })
