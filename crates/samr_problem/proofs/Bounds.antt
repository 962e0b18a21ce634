-- Numbers whose tests passed, as the fields of a problem hold them.
use Rattle.std.proofs.Common.{◌≡◌, ◌∙◌, refl, ℕ, zero, suc, ◌+◌, ◌*◌, ◌<◌, ◌≤◌, ℤ, pos, negsuc, ◌≤ℤ◌, Bool, true, false, ◌&&◌, ◌||◌, ◌==◌, List, [], ◌∷◌, map, min, length, get_or, unsigned_abs, arith}
use Rattle.std.proofs.Common.{subst, inl, inr, fold}
use Rattle.std.proofs.Math.Nat.{le_trans}
use Rattle.std.proofs.Math.Dec.{T}
use Rattle.std.proofs.Math.Nat.{mul-le-mul_left, mul-le-mul_right}
use Rattle.std.proofs.lemmas.Bool.{and_parts, cases_Bool, ltb-true, ltb-false}
use Rattle.samr_box.specs.Vector.{alike, at_most, AtMost}
use Rattle.samr_problem.specs.declared.lengths.Lengths.{Lengths}
use Rattle.samr_problem.specs.Faults.{is_large}
use Rattle.samr_problem.specs.Fields.{cell_count, is_ratio, is_box}
use Rattle.samr_problem.specs.Lengths.{cells_in, has_cell, has_plane, lengths_of, refined, sizes}
use Rattle.samr_problem.proofs.Passed.{all_parts}
use Rattle.std.proofs.lemmas.Int.{ints}
use Rattle.std.specs.List.{AllByRecursion, list_all, range_with_len, flat_map}
use Rattle.std.specs.Prelude.{int_le, if◌then◌else◌, nat_lt}
use Rattle.samr_box.specs.declared.vector.IVec.{IVec}
use Rattle.samr_problem.specs.Problems.{Within, AxesWithin}
use Rattle.samr_problem.specs.Values.{axes_within, is_within, small, word}
use Rattle.samr_problem.proofs.Ranged.{le_true, ratio_true}

pub record Between (low high z : ℤ) : Type 0 where
  pub above : low ≤ℤ z
  pub below : z ≤ℤ high

pub within_true : (low high z : ℤ) → is_within low high z ≡ true → Between low high z
unfolding is_within
within_true low high z passed =
    let (above, below) = and_parts (int_le low z) (int_le z high) passed in
    record { above = le_true low z above; below = le_true z high below }

capped_between : (low high most : ℕ) (z : ℤ) → high ≤ most → Between (pos low) (pos high) z → Within low high (min (unsigned_abs z) most)
capped_between low high most (pos n) room between =
    let above = between.above in let below = between.below in
    record { above = omega (arith, ints); below = omega (arith, ints) }
capped_between low high most (negsuc n) room between = absurd (let above = between.above in omega (arith, ints))

pub small_within : (low high : ℕ) (z : ℤ) → high ≤ 255 → is_within (pos low) (pos high) z ≡ true → Within low high (small z)
small_within low high z room passed = capped_between low high 255 z room (within_true (pos low) (pos high) z passed)

pub word_within : (low high : ℕ) (z : ℤ) → high ≤ 4294967295 → is_within (pos low) (pos high) z ≡ true → Within low high (word z)
word_within low high z room passed = capped_between low high 4294967295 z room (within_true (pos low) (pos high) z passed)

pub format_within : (parts : Bool) (z : ℤ) → is_within (if parts then pos 2 else pos 1) (pos 2) z ≡ true → Within 1 2 (small z)
format_within false z passed = small_within 1 2 z (omega arith) passed
format_within true z passed =
    let found = small_within 2 2 z (omega arith) passed in
    let above = found.above in let below = found.below in
    record { above = omega arith; below = omega arith }

flat_low : (flat : Bool) (low high third k : ℤ) → (flat || is_within low high (if flat then third else k)) ≡ true → (if flat then pos 1 else low) ≤ℤ (if flat then pos 1 else k)
flat_low true low high third k passed = omega (arith, ints)
flat_low false low high third k passed = (within_true low high k passed).above

flat_high : (flat : Bool) (low high third k : ℤ) → (flat || is_within low high (if flat then third else k)) ≡ true → (if flat then pos 1 else k) ≤ℤ (if flat then pos 1 else high)
flat_high true low high third k passed = omega (arith, ints)
flat_high false low high third k passed = (within_true low high k passed).below

-- a vector that passes its test, with another third number for a two-dimensional problem
pub axes_true : (dim : ℕ) (low high third i j k : ℤ)
    → axes_within dim low high (record { k = if dim == 2 then third else k; j = j; i = i }) ≡ true
    → AxesWithin dim low high (record { k = if dim == 2 then pos 1 else k; j = j; i = i })
unfolding axes_within
axes_true dim low high third i j k passed =
    let (at_i, rest) = and_parts (is_within low high i) (is_within low high j && (dim == 2 || is_within low high (if dim == 2 then third else k))) passed in
    let (at_j, at_k) = and_parts (is_within low high j) (dim == 2 || is_within low high (if dim == 2 then third else k)) rest in
    record {
      i_low = (within_true low high i at_i).above;
      i_high = (within_true low high i at_i).below;
      j_low = (within_true low high j at_j).above;
      j_high = (within_true low high j at_j).below;
      k_low = flat_low (dim == 2) low high third k at_k;
      k_high = flat_high (dim == 2) low high third k at_k;
    }

-- what passes one test passes another, for each item of a list made from numbers
pub all_made : {X : Type 0} (test other : X → Bool) (f : ℕ → X) (ns : List ℕ) → ((n : ℕ) → test (f n) ≡ true → other (f n) ≡ true) → list_all test (map f ns) ≡ true → list_all other (map f ns) ≡ true
all_made test other f [] implies all = refl
all_made test other f (n ∷ ns) implies all =
    let (here, rest) = and_parts (test (f n)) (list_all test (map f ns)) all in
    rw (implies n here) (all_made test other f ns implies rest)

-- a list passes a test where each of its places does
pub all_places : {X : Type 0} (test : X → Bool) (xs : List X) (d : X) → ((n : ℕ) → n < length xs → test (get_or xs n d) ≡ true) → list_all test xs ≡ true
all_places test [] d each = refl
all_places test (x ∷ xs) d each =
    let here : test x ≡ true = each 0 (omega arith) in
    rw here (all_places test xs d (λ n below. each (suc n) (omega arith)))

range_length : (a n : ℕ) → length (range_with_len a n) ≡ n
range_length a zero = refl
range_length a (suc n) = let rest = range_length (a + 1) n in omega arith

pub made_length : {X : Type 0} (f : ℕ → X) (ns : List ℕ) → length (map f ns) ≡ length ns
made_length f [] = refl
made_length f (n ∷ ns) = let rest = made_length f ns in omega arith

pub count_of_range : {X : Type 0} (f : ℕ → X) (n : ℕ) → length (map f (range_with_len 0 n)) ≡ n
count_of_range f n = made_length f (range_with_len 0 n) ∙ range_length 0 n

pub le_back : (a b : ℤ) → a ≤ℤ b → int_le a b ≡ true
le_back a b h = elim (cases_Bool (int_le a b)) [
  | inl holds ↦ holds
  | inr fails ↦ absurd (let P : Bool → Type 0 = λ v. T v in subst P fails h.le)
]

pub at_most_back : (a b : IVec) → AtMost a b → at_most a b ≡ true
at_most_back a b h = rw (le_back a.k b.k h.k, le_back a.j b.j h.j, le_back a.i b.i h.i) refl

flat_one : (flat : Bool) (low high k : ℤ) → low ≤ℤ pos 1 → pos 1 ≤ℤ high → (flat || is_within low high (if flat then pos 1 else k)) ≡ true
    → (low ≤ℤ (if flat then pos 1 else k)) × ((if flat then pos 1 else k) ≤ℤ high)
flat_one true low high k below above passed = (below, above)
flat_one false low high k below above passed = let b = within_true low high k passed in (b.above, b.below)

flat_two : (flat : Bool) (k : ℤ) → (flat || is_within (pos 2) (pos 4) (if flat then pos 1 else k)) ≡ true
    → (pos 1 ≤ℤ (if flat then pos 1 else k)) × ((if flat then pos 1 else k) ≤ℤ pos 256)
flat_two true k passed = (omega (arith, ints), omega (arith, ints))
flat_two false k passed =
    let b = within_true (pos 2) (pos 4) k passed in let above = b.above in let below = b.below in
    (omega (arith, ints), omega (arith, ints))

-- factors from 2 to 4, and a third one of 1 where that axis is not real
pub factors_true : (flat : Bool) (i j k : ℤ)
    → (is_within (pos 2) (pos 4) i && (is_within (pos 2) (pos 4) j && (flat || is_within (pos 2) (pos 4) (if flat then pos 1 else k)))) ≡ true
    → is_ratio (record { k = if flat then pos 1 else k; j = j; i = i }) ≡ true
unfolding is_ratio
factors_true flat i j k passed =
    let (at_i, rest) = and_parts (is_within (pos 2) (pos 4) i) (is_within (pos 2) (pos 4) j && (flat || is_within (pos 2) (pos 4) (if flat then pos 1 else k))) passed in
    let (at_j, at_k) = and_parts (is_within (pos 2) (pos 4) j) (flat || is_within (pos 2) (pos 4) (if flat then pos 1 else k)) rest in
    let (low_k, high_k) = flat_two flat k at_k in
    let bi = within_true (pos 2) (pos 4) i at_i in
    let bj = within_true (pos 2) (pos 4) j at_j in
    let ia = bi.above in let ib = bi.below in let ja = bj.above in let jb = bj.below in
    rw (
      at_most_back (alike (pos 1)) (record { k = if flat then pos 1 else k; j = j; i = i }) (record { k = low_k; j = omega (arith, ints); i = omega (arith, ints) }),
      at_most_back (record { k = if flat then pos 1 else k; j = j; i = i }) (alike (pos 256)) (record { k = high_k; j = omega (arith, ints); i = omega (arith, ints) }),
    )
    refl

-- what stands at each place of lists that are joined
pub flat_all : {X : Type 0} (P : X → Type 0) (f : ℕ → List X) (a n : ℕ) → AllByRecursion P (flat_map f (range_with_len a n)) → (k : ℕ) → k < n → AllByRecursion P (f (a + k))
flat_all P f a zero all k below = absurd (omega arith)
flat_all P f a (suc n) all zero below = let same : a ≡ a + 0 = omega arith in let F : ℕ → Type 0 = λ m. AllByRecursion P (f m) in subst F same (all_parts P (f a) (flat_map f (range_with_len (a + 1) n)) all).0
flat_all P f a (suc n) all (suc k) below =
    let same : a + 1 + k ≡ a + suc k = omega arith in let F : ℕ → Type 0 = λ m. AllByRecursion P (f m) in
    subst F same (flat_all P f (a + 1) n (all_parts P (f a) (flat_map f (range_with_len (a + 1) n)) all).1 k (omega arith))

plane_high : (length : ℕ) (z : ℤ) → has_plane length z ≡ true → (pos 0 ≤ℤ z) × (unsigned_abs z < length)
plane_high length z passed = let (low, high) = and_parts (int_le (pos 0) z) (nat_lt (unsigned_abs z) length) passed in (le_true (pos 0) z low, ltb-true (unsigned_abs z) length high)

pub planes : (l : Lengths) (x : IVec) → has_cell l x ≡ true → (has_plane l.i x.i ≡ true) × (has_plane l.j x.j ≡ true) × (has_plane l.k x.k ≡ true)
unfolding has_cell
planes l x passed =
    let (i, rest) = and_parts (has_plane l.i x.i) (has_plane l.j x.j && has_plane l.k x.k) passed in
    let (j, k) = and_parts (has_plane l.j x.j) (has_plane l.k x.k) rest in
    (i, j, k)

plane_low_bound : (z : ℤ) → pos 0 ≤ℤ z → negsuc 1073741823 ≤ℤ z
plane_low_bound z h = omega (arith, ints)

plane_high_bound : (length : ℕ) (z : ℤ) → length ≤ 4194304 → (pos 0 ≤ℤ z) × (unsigned_abs z < length) → z ≤ℤ pos 1073741824
plane_high_bound length (pos n) small h = let above = h.1 in omega (arith, ints)
plane_high_bound length (negsuc n) small h = omega (arith, ints)

-- corners in a domain make a box
pub corners_true : (l : Lengths) (lo hi : IVec) → (l.i ≤ 4194304) × (l.j ≤ 4194304) × (l.k ≤ 4194304)
    → has_cell l lo ≡ true → (at_most lo hi && has_cell l hi) ≡ true → is_box (record { lo = lo; hi = hi }) ≡ true
unfolding is_box
corners_true l lo hi small low high =
    let (order, cell) = and_parts (at_most lo hi) (has_cell l hi) high in
    let p = planes l lo low in
    let q = planes l hi cell in
    rw (
      order,
      at_most_back (alike (negsuc 1073741823)) lo (record { k = plane_low_bound lo.k (plane_high l.k lo.k p.2).0; j = plane_low_bound lo.j (plane_high l.j lo.j p.1).0; i = plane_low_bound lo.i (plane_high l.i lo.i p.0).0 }),
      at_most_back hi (alike (pos 1073741824)) (record { k = plane_high_bound l.k hi.k small.2 (plane_high l.k hi.k q.2); j = plane_high_bound l.j hi.j small.1 (plane_high l.j hi.j q.1); i = plane_high_bound l.i hi.i small.0 (plane_high l.i hi.i q.0) }),
    )
    refl

abs_small : (z : ℤ) → pos 1 ≤ℤ z → z ≤ℤ pos 4194304 → unsigned_abs z ≤ 4194304
abs_small (pos n) low high = omega (arith, ints)
abs_small (negsuc n) low high = absurd (omega (arith, ints))

flat_small : (flat : Bool) (k : ℤ) → (if flat then pos 1 else pos 1) ≤ℤ k → k ≤ℤ (if flat then pos 1 else pos 4194304) → unsigned_abs k ≤ 4194304
flat_small true k low high = abs_small k low (omega (arith, ints))
flat_small false k low high = abs_small k low high

pub lengths_small : (dim : ℕ) (v : IVec) → AxesWithin dim (pos 1) (pos 4194304) v → (unsigned_abs v.i ≤ 4194304) × (unsigned_abs v.j ≤ 4194304) × (unsigned_abs v.k ≤ 4194304)
lengths_small dim v within = (abs_small v.i within.i_low within.i_high, abs_small v.j within.j_low within.j_high, flat_small (dim == 2) v.k within.k_low within.k_high)

more : (a b c x y z : ℕ) → 1 ≤ x → 1 ≤ y → 1 ≤ z → a * b * c ≤ (a * x) * (b * y) * (c * z)
more a b c x y z px py pz =
    let la : a * 1 ≤ a * x = mul-le-mul_left a px in
    let lb : b * 1 ≤ b * y = mul-le-mul_left b py in
    let lc : c * 1 ≤ c * z = mul-le-mul_left c pz in
    let a1 : a ≤ a * x = omega (arith, la) in
    let b1 : b ≤ b * y = omega (arith, lb) in
    let c1 : c ≤ c * z = omega (arith, lc) in
    let s1 : a * b ≤ (a * x) * b = mul-le-mul_right b a1 in
    let s2 : (a * x) * b ≤ (a * x) * (b * y) = mul-le-mul_left (a * x) b1 in
    let ab : a * b ≤ (a * x) * (b * y) = le_trans s1 s2 in
    let s3 : a * b * c ≤ (a * x) * (b * y) * c = mul-le-mul_right c ab in
    let s4 : (a * x) * (b * y) * c ≤ (a * x) * (b * y) * (c * z) = mul-le-mul_left ((a * x) * (b * y)) c1 in
    le_trans s3 s4

abs_positive : (z : ℤ) → pos 1 ≤ℤ z → 1 ≤ unsigned_abs z
abs_positive (pos n) low = omega (arith, ints)
abs_positive (negsuc n) low = absurd (omega (arith, ints))

fold_more_cells : (l : Lengths) (rs : List IVec) → list_all is_ratio rs ≡ true → cells_in l ≤ cells_in (fold refined l rs)
fold_more_cells l [] all = omega arith
fold_more_cells l (r ∷ rs) all =
    let (here, rest) = and_parts (is_ratio r) (list_all is_ratio rs) all in
    let low = (ratio_true r here).low in
    let step : cells_in l ≤ cells_in (refined l r) = more l.i l.j l.k (unsigned_abs r.i) (unsigned_abs r.j) (unsigned_abs r.k) (abs_positive r.i low.i) (abs_positive r.j low.j) (abs_positive r.k low.k) in
    le_trans step (fold_more_cells (refined l r) rs rest)

pub fewer_cells : (domain : IVec) (rs : List IVec) → list_all is_ratio rs ≡ true → is_large domain rs ≡ false → cell_count domain ≤ 4194304
unfolding is_large lengths_of cell_count
fewer_cells domain rs all small = le_trans (fold_more_cells (sizes domain) rs all) (ltb-false 4194304 (cells_in (fold refined (sizes domain) rs)) small)

third_one : (flat : Bool) (low high k : ℤ) → pos 1 ≤ℤ low → pos 1 ≤ℤ high → (if flat then pos 1 else low) ≤ℤ k → k ≤ℤ (if flat then pos 1 else high) → Between (pos 1) high k
third_one true low high k low_one high_one above below = record { above = above; below = omega (arith, ints) }
third_one false low high k low_one high_one above below = record { above = omega (arith, ints); below = below }

-- the third axis of lengths, also where it is not real
pub third_axis : (dim : ℕ) (low high : ℤ) (v : IVec) → pos 1 ≤ℤ low → pos 1 ≤ℤ high → AxesWithin dim low high v → Between (pos 1) high v.k
third_axis dim low high v low_one high_one within = third_one (dim == 2) low high v.k low_one high_one within.k_low within.k_high
