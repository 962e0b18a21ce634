-- What bits, runs of bits and whole words have to do with one another.
use Rattle.std.proofs.Common.{◌≡◌, ℕ, zero, suc, ◌+◌, ◌-◌, ◌*◌, ◌/◌, ◌%◌, ◌^◌, ◌<◌, ◌≤◌, Bool, true, false, ◌||◌, List, length, get_or, set, take, drop, refl, ap, sym, subst, ◌∙◌, arith, inl, inr, w64}
use Rattle.std.specs.Prelude.{count_ones, nat_eq}
use Rattle.std.specs.Int.{bit_at, div_ceil}
use Rattle.std.specs.Int.RustNames.{bit_or, bit_and}
use Rattle.std.proofs.lemmas.Nat.{ones_cat, and_mask, shr-shr, div-add-mod', div-mul-add, mod-mul-add, mod_below, shr_below, pow_pos}
use Rattle.std.proofs.lemmas.Nat.Bits.{bit_at_cat_low, bit_at-lt, bit_at_set_same, bit_at_set_other}
use Rattle.std.proofs.lemmas.List.{get_or-set_same, get_or-set_other}
use Rattle.std.proofs.lemmas.List.Sums.{sum_by_more, sum_by-append}
use Rattle.std.proofs.lemmas.Bool.{cases_eq, eq-eqb, ne_eqb}
use Rattle.std.proofs.Math.Seq.{take-add}
use Rattle.std.proofs.Math.Nat.{mod-eq_of_lt}
use Rattle.samr_bits.specs.Sums.{sum_below}
use Rattle.samr_bits.specs.Bits.{is_set, one, set_among, bits_of, ones_of}
use Rattle.samr_bits.proofs.Sums.{sum_ext, sum_append, sum_most}

-- a number below 2 is its own count of bits
ones_small : (a : ℕ) → a < 2 → count_ones a ≡ a
unfolding lib.Count.ones
ones_small zero h = refl
ones_small (suc zero) h = refl
ones_small (suc (suc a)) h = absurd (omega arith)

-- the low bits of a remainder are those of the number
low_bit : (n k i : ℕ) → i < k → bit_at (n % 2 ^ k) i ≡ bit_at n i
low_bit n k i h =
    sym (bit_at_cat_low (n / 2 ^ k) k (n % 2 ^ k) i h) ∙ ap (λ v. bit_at v i) (div-add-mod' n (2 ^ k))

-- a number's count is the sum of its bits
pub ones_bits : (k n : ℕ) → n < 2 ^ k → count_ones n ≡ sum_below (λ i. bit_at n i) k
ones_bits zero n h = ap count_ones (let e : n ≡ 0 = omega arith in e) ∙ ones_small 0 (omega arith)
ones_bits (suc k) n h =
    let a = n / 2 ^ k in
    let small : a < 2 = shr_below n 1 k (subst (λ (e : ℕ). n < 2 ^ e) (let e : suc k ≡ 1 + k = omega arith in e) h) in
    let low : n % 2 ^ k < 2 ^ k = mod_below n (2 ^ k) (pow_pos k) in
    let cat = ones_cat k a (n % 2 ^ k) low in
    let whole = ap count_ones (div-add-mod' n (2 ^ k)) in
    let rest = ones_bits k (n % 2 ^ k) low ∙ sum_ext (λ i. bit_at (n % 2 ^ k) i) (λ i. bit_at n i) k (λ i p. low_bit n k i p) in
    let top : bit_at n k ≡ a = mod-eq_of_lt small in
    omega (arith, cat, whole, rest, top, ones_small a small)

-- so many bits of a number, cut out by a shift and a mask
pub ones_part : (word from n : ℕ) → count_ones (bit_and (word / 2 ^ from) (2 ^ n - 1)) ≡ bits_of word from n
ones_part word from n =
    let high = word / 2 ^ from in
    ap count_ones (and_mask high n)
    ∙ ones_bits n (high % 2 ^ n) (mod_below high (2 ^ n) (pow_pos n))
    ∙ sum_ext (λ i. bit_at (high % 2 ^ n) i) (λ i. bit_at word (from + i)) n (λ i h. low_bit high n i h ∙ ap (λ v. v % 2) (shr-shr word from i))

-- a bit as a number
one_bit : (b : ℕ) → b < 2 → one (nat_eq b 1) ≡ b
one_bit zero h = refl
one_bit (suc zero) h = refl
one_bit (suc (suc b)) h = absurd (omega arith)

one_set : (words : List ℕ) (p : ℕ) → one (is_set words p) ≡ bit_at (get_or words (p / 64) 0) (p % 64)
one_set words p = one_bit (bit_at (get_or words (p / 64) 0) (p % 64)) (bit_at-lt (get_or words (p / 64) 0) (p % 64))

-- the bit `r` of word `w`
bit_of : (words : List ℕ) (p w r : ℕ) → r < 64 → p ≡ w * 64 + r → one (is_set words p) ≡ bit_at (get_or words w 0) r
bit_of words p w r h e =
    let over : p / 64 ≡ w = ap (λ v. v / 64) e ∙ div-mul-add w 64 r h in
    let rest : p % 64 ≡ r = ap (λ v. v % 64) e ∙ mod-mul-add w 64 r h in
    one_set words p ∙ ap (λ v. bit_at (get_or words v 0) (p % 64)) over ∙ ap (λ v. bit_at (get_or words w 0) v) rest

-- bits of one word
pub word_part : (words : List ℕ) (from n : ℕ) → from % 64 + n ≤ 64 → set_among words from n ≡ bits_of (get_or words (from / 64) 0) (from % 64) n
word_part words from n h =
    sum_ext (λ c. one (is_set words (from + c))) (λ c. bit_at (get_or words (from / 64) 0) (from % 64 + c)) n
    (λ c p. bit_of words (from + c) (from / 64) (from % 64 + c) (omega arith) (omega (arith, div-add-mod' from 64)))

-- the bits of a whole word
whole_word : (words : List ℕ) (p w : ℕ) → p ≡ 64 * w → get_or words w 0 < 2 ^ 64 → set_among words p 64 ≡ count_ones (get_or words w 0)
whole_word words p w e fits =
    sum_ext (λ c. one (is_set words (p + c))) (λ c. bit_at (get_or words w 0) c) 64 (λ c h. bit_of words (p + c) w c h (omega arith))
    ∙ sym (ones_bits 64 (get_or words w 0) fits)

regroup : (a b c : ℕ) → a + (b + c) ≡ a + b + c
regroup a b c = omega arith

-- two runs that follow one another
pub among_append : (words : List ℕ) (from m n : ℕ) → set_among words from (m + n) ≡ set_among words from m + set_among words (from + m) n
among_append words from m n =
    sum_append (λ c. one (is_set words (from + c))) m n
    ∙ ap (λ s. set_among words from m + s)
    (sum_ext (λ c. one (is_set words (from + (m + c)))) (λ c. one (is_set words (from + m + c))) n (λ c _. ap (λ p. one (is_set words p)) (regroup from m c)))

-- the bits of the first words
pub first_words : (words : List ℕ) (m : ℕ) → m ≤ length words → ((k : ℕ) → get_or words k 0 < 2 ^ 64) → set_among words 0 (64 * m) ≡ ones_of (take m words)
first_words words zero h fits = refl
first_words words (suc m) h fits =
    let more : ones_of (take (m + 1) words) ≡ ones_of (take m words) + count_ones (get_or words m 0) = sum_by_more (λ w. count_ones w) words m 0 (omega arith) in
    let next : suc m ≡ m + 1 = omega arith in
    let bits : 64 * suc m ≡ 64 * m + 64 = omega arith in
    let here : ones_of (take (suc m) words) ≡ ones_of (take (m + 1) words) = ap (λ (v : ℕ). ones_of (take v words)) next in
    let long : set_among words 0 (64 * suc m) ≡ set_among words 0 (64 * m + 64) = ap (set_among words 0) bits in
    long ∙ among_append words 0 (64 * m) 64
    ∙ ap (λ s. s + set_among words (0 + 64 * m) 64) (first_words words m (omega arith) fits)
    ∙ ap (λ s. ones_of (take m words) + s) (whole_word words (0 + 64 * m) m (omega arith) (fits m))
    ∙ sym more ∙ sym here

-- the count of two parts of a list of words
pub ones_append : (words : List ℕ) (m n : ℕ) → ones_of (take (m + n) words) ≡ ones_of (take m words) + ones_of (take n (drop m words))
ones_append words m n = ap ones_of (take-add m n words) ∙ sum_by-append (λ w. count_ones w) (take m words) (take n (drop m words))

cancelled : (a c d e f : ℕ) → c ≡ d → a + c ≡ e + f → a ≡ e → d ≡ f
cancelled a c d e f p q r = omega arith

-- the bits of some words in the middle
pub middle_words : (words : List ℕ) (first last : ℕ) → first ≤ last → last ≤ length words → ((k : ℕ) → get_or words k 0 < 2 ^ 64)
    → set_among words (64 * first) (64 * (last - first)) ≡ ones_of (take (last - first) (drop first words))
middle_words words first last p q fits =
    let bits = among_append words 0 (64 * first) (64 * (last - first)) in
    let all : 64 * first + 64 * (last - first) ≡ 64 * last = omega arith in
    let some : first + (last - first) ≡ last = omega arith in
    let from : 0 + 64 * first ≡ 64 * first = omega arith in
    let whole : set_among words 0 (64 * first + 64 * (last - first)) ≡ set_among words 0 (64 * last) = ap (set_among words 0) all in
    let start : set_among words (0 + 64 * first) (64 * (last - first)) ≡ set_among words (64 * first) (64 * (last - first)) = ap (λ (v : ℕ). set_among words v (64 * (last - first))) from in
    let ones = ones_append words first (last - first) in
    let sums : ones_of (take (first + (last - first)) words) ≡ ones_of (take last words) = ap (λ (v : ℕ). ones_of (take v words)) some in
    let last_words = first_words words last q fits in
    let first_ones = first_words words first (omega arith) fits in
    cancelled _ _ _ _ _ start (sym bits ∙ whole ∙ last_words ∙ sym sums ∙ ones) first_ones

-- a run from its front, its whole words and its end
pub three_runs : (words : List ℕ) (from n a b : ℕ) → from ≤ 64 * a → a ≤ b → 64 * b ≤ from + n
    → set_among words from n ≡ set_among words from (64 * a - from) + set_among words (64 * a) (64 * (b - a)) + set_among words (64 * b) (from + n - 64 * b)
three_runs words from n a b p q r =
    let x = 64 * a - from in
    let y = 64 * (b - a) in
    let z = from + n - 64 * b in
    let sizes : n ≡ x + y + z = omega arith in
    let second : from + x ≡ 64 * a = omega arith in
    let third : from + (x + y) ≡ 64 * b = omega arith in
    let whole : set_among words from n ≡ set_among words from (x + y + z) = ap (set_among words from) sizes in
    let middle : set_among words (from + x) y ≡ set_among words (64 * a) y = ap (λ (v : ℕ). set_among words v y) second in
    let end : set_among words (from + (x + y)) z ≡ set_among words (64 * b) z = ap (λ (v : ℕ). set_among words v z) third in
    whole ∙ among_append words from (x + y) z ∙ ap (λ s. s + set_among words (from + (x + y)) z) (among_append words from x y ∙ ap (λ s. set_among words from x + s) middle)
    ∙ ap (λ s. set_among words from x + set_among words (64 * a) y + s) end

-- a run has at most as many bits set as it is long
one_most : (b : Bool) → one b ≤ 1
one_most true = omega arith
one_most false = omega arith

pub among_most : (words : List ℕ) (from n : ℕ) → set_among words from n ≤ n
among_most words from n = let h : set_among words from n ≤ n * 1 = sum_most (λ c. one (is_set words (from + c))) n 1 (λ c _. one_most (is_set words (from + c))) in omega arith

-- a bit is set, and all others stay
abbrev with_bit : List ℕ → ℕ → List ℕ
with_bit words p = set words (p / 64) (bit_or (get_or words (p / 64) 0) (1 * 2 ^ (p % 64) % 18446744073709551616))

set_elsewhere : (words : List ℕ) (p q : ℕ) → (q / 64 ≡ p / 64 → ⊥) → is_set (with_bit words p) q ≡ (nat_eq q p || is_set words q)
set_elsewhere words p q e =
    let other : nat_eq q p ≡ false = ne_eqb q p (λ h. e (ap (λ v. v / 64) h)) in
    ap (λ v. nat_eq (bit_at v (q % 64)) 1) (get_or-set_other words (p / 64) (q / 64) _ 0 e) ∙ ap (λ t. t || is_set words q) (sym other)

set_word : (words : List ℕ) (p q : ℕ) → p / 64 < length words → q / 64 ≡ p / 64
    → is_set (with_bit words p) q ≡ nat_eq (bit_at (bit_or (get_or words (p / 64) 0) (1 * 2 ^ (p % 64) % 18446744073709551616)) (q % 64)) 1
set_word words p q h e =
    ap (λ w. nat_eq (bit_at (get_or (with_bit words p) w 0) (q % 64)) 1) e
    ∙ ap (λ v. nat_eq (bit_at v (q % 64)) 1) (get_or-set_same words (p / 64) _ 0 h)

set_here : (words : List ℕ) (p q : ℕ) → p / 64 < length words → q / 64 ≡ p / 64 → q % 64 ≡ p % 64 → is_set (with_bit words p) q ≡ (nat_eq q p || is_set words q)
set_here words p q h e r =
    let word = get_or words (p / 64) 0 in
    let same : nat_eq q p ≡ true = eq-eqb q p (omega (arith, div-add-mod' q 64, div-add-mod' p 64)) in
    set_word words p q h e
    ∙ ap (λ v. nat_eq (bit_at (bit_or word (1 * 2 ^ (p % 64) % 18446744073709551616)) v) 1) r
    ∙ ap (λ v. nat_eq v 1) (bit_at_set_same w64 word (p % 64) (mod_below p 64 (omega arith)))
    ∙ ap (λ t. t || is_set words q) (sym same)

set_beside : (words : List ℕ) (p q : ℕ) → p / 64 < length words → q / 64 ≡ p / 64 → (q % 64 ≡ p % 64 → ⊥) → is_set (with_bit words p) q ≡ (nat_eq q p || is_set words q)
set_beside words p q h e r =
    let word = get_or words (p / 64) 0 in
    let other : nat_eq q p ≡ false = ne_eqb q p (λ s. r (ap (λ v. v % 64) s)) in
    set_word words p q h e
    ∙ ap (λ v. nat_eq v 1) (bit_at_set_other w64 word (p % 64) (mod_below p 64 (omega arith)) (q % 64) r)
    ∙ ap (λ w. nat_eq (bit_at (get_or words w 0) (q % 64)) 1) (sym e)
    ∙ ap (λ t. t || is_set words q) (sym other)

pub set_one : (words : List ℕ) (p : ℕ) → p < 64 * length words → (q : ℕ)
    → is_set (set words (p / 64) (bit_or (get_or words (p / 64) 0) (1 * 2 ^ (p % 64) % 18446744073709551616))) q ≡ (nat_eq q p || is_set words q)
set_one words p h q =
    elim (cases_eq (q / 64) (p / 64)) [
      | inl e ↦ elim (cases_eq (q % 64) (p % 64)) [
        | inl r ↦ set_here words p q (omega arith) e r
        | inr r ↦ set_beside words p q (omega arith) e r
      ]
      | inr e ↦ set_elsewhere words p q e
    ]

-- a loop's step over four words, and over one
pub four_words : (words : List ℕ) (i : ℕ) → ones_of (take (4 * i + 4 - 4 * i) (drop (4 * i) words)) ≡ ones_of (take 4 (drop (4 * i) words))
four_words words i = let four : 4 * i + 4 - 4 * i ≡ 4 = omega arith in ap (λ (v : ℕ). ones_of (take v (drop (4 * i) words))) four

pub four_words_more : (words : List ℕ) (i count four : ℕ) → count ≡ ones_of (take (4 * i) words) → four ≡ ones_of (take 4 (drop (4 * i) words)) → count + four ≡ ones_of (take (4 * (i + 1)) words)
four_words_more words i count four p q =
    let next : 4 * (i + 1) ≡ 4 * i + 4 = omega arith in
    omega (arith, ap (λ (v : ℕ). ones_of (take v words)) next, ones_append words (4 * i) 4)

pub one_word_more : (words : List ℕ) (i count : ℕ) → i < length words → count ≡ ones_of (take i words) → count + count_ones (get_or words i 0) ≡ ones_of (take (i + 1) words)
one_word_more words i count h p = ap (λ s. s + count_ones (get_or words i 0)) p ∙ sym (sum_by_more (λ w. count_ones w) words i 0 h)

pub all_words : (words : List ℕ) (i count : ℕ) → length words ≤ i → i ≤ length words → ((k : ℕ) → get_or words k 0 < 2 ^ 64) → count ≡ ones_of (take i words) → count ≡ set_among words 0 (64 * length words)
all_words words i count p q fits h =
    let same : i ≡ length words = omega arith in
    h ∙ ap (λ (v : ℕ). ones_of (take v words)) same ∙ sym (first_words words (length words) (omega arith) fits)

-- a run counted in three parts
joined : (x y z a b m d t : ℕ) → x ≡ a → y ≡ m → z ≡ d → b ≡ m → t ≡ a + b + d → x + y + z ≡ t
joined x y z a b m d t p q r s e = omega arith

pub run_counted : (words : List ℕ) (from n first x y z : ℕ) → from + n ≤ 64 * length words → ((k : ℕ) → get_or words k 0 < 2 ^ 64)
    → first ≡ div_ceil from 64 → first ≤ (from + n) / 64
    → x ≡ set_among words from (64 * first - from) → y ≡ ones_of (take ((from + n) / 64 - first) (drop first words)) → z ≡ set_among words (64 * ((from + n) / 64)) (from + n - 64 * ((from + n) / 64))
    → x + y + z ≡ set_among words from n
run_counted words from n first x y z inside fits e ordered p q r =
    let last = (from + n) / 64 in
    let middle = middle_words words first last ordered (omega arith) fits in
    let all = three_runs words from n first last (omega arith) ordered (omega arith) in
    joined x y z _ _ _ _ _ p q r middle all
