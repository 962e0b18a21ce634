-- Sums of lists of counts, and counts of several sets of tags.
use Rattle.std.proofs.Common.{◌≡◌, ℕ, zero, suc, ◌+◌, ◌<◌, ◌≤◌, ◌^◌, Bool, true, false, ◌||◌, List, [], ◌∷◌, ◌++◌, length, get_or, map, take, cond, refl, ap, sym, ◌∙◌, arith, add-one}
use Rattle.std.specs.Prelude.{sum, sum_by, count_by, ◌&&◌}
use Rattle.std.specs.List.{range_with_len, list_any}
use Rattle.std.proofs.lemmas.List.FromFn.{map-range_with_len_more, length-map-range_with_len}
use Rattle.std.proofs.lemmas.List.Sums.{sum_by_push, sum_by-cons, sum_by-le-sum_by, sum_by_more_le}
use Rattle.std.proofs.lemmas.Simd.{zip2-map, length-zip2, get_or-zip2}
use Rattle.std.proofs.lemmas.List.{same_lists, get_or_default, take_all}
use Rattle.samr_box.specs.declared.vector.Axis.{Axis}
use Rattle.samr_box.specs.declared.vector.Axis.TheVariants.{I, J, K}
use Rattle.samr_box.specs.declared.vector.IVec.{IVec}
use Rattle.samr_box.specs.Corners.{Corners, IsBox, holds, span}
use Rattle.samr_bits.proofs.Sums.{sum_none, sum_member}
use Rattle.samr_bits.specs.Sums.{sum_below}
use Rattle.samr_bits.specs.Bits.{one, is_set}
use Rattle.samr_sign.specs.Counts.{weigh, tally, slice, planes, Sign, sign, counts, total, added, sign_sum, IsSign}
use Rattle.samr_sign.specs.Fields.{Field, place, tagged, tagged_in, AreApart}
use Rattle.samr_sign.proofs.Tallies.{weigh_plus, weigh_ext, tally_planes, one_most}

-- the sum of a list made from the numbers below a bound
pub sum_range : (f : ℕ → ℕ) (n : ℕ) → sum (map f (range_with_len 0 n)) ≡ sum_below f n
sum_range f zero = refl
sum_range f (suc n) =
    ap (λ (k : ℕ). sum (map f (range_with_len 0 k))) (sym (add-one n))
    ∙ ap sum (map-range_with_len_more f 0 n n (omega arith))
    ∙ sum_by_push (λ x. x) (map f (range_with_len 0 n)) (f n)
    ∙ ap (λ s. s + f n) (sum_range f n)

-- the counts of the planes on an axis, all together
pub sum_planes : (axis : Axis) (t : IVec → Bool) (b : Corners) → sum (planes axis t b) ≡ tally t b
unfolding planes
sum_planes axis t b = sum_range (λ p. tally t (slice axis b p)) (span axis b) ∙ sym (tally_planes axis t b)

pub length_planes : (axis : Axis) (t : IVec → Bool) (b : Corners) → length (planes axis t b) ≡ span axis b
unfolding planes
length_planes axis t b = length-map-range_with_len (λ p. tally t (slice axis b p)) 0 (span axis b)

pub IsSign-sign : (t : IVec → Bool) (b : Corners) → IsBox b → tally t b < 2 ^ 63 → IsSign (sign t b)
IsSign-sign t b h few = record {
  whole = h;
  lengths = λ axis. length_of axis;
  sums = λ axis. sum_of axis;
  few = omega (arith, few, sum_planes K t b);
}
  where
    length_of : (axis : Axis) → length (counts axis (sign t b)) ≡ span axis b
    length_of I = length_planes I t b
    length_of J = length_planes J t b
    length_of K = length_planes K t b

    sum_of : (axis : Axis) → sum (counts axis (sign t b)) ≡ total (sign t b)
    sum_of I = sum_planes I t b ∙ sym (sum_planes K t b)
    sum_of J = sum_planes J t b ∙ sym (sum_planes K t b)
    sum_of K = refl

-- counts of sets that share no cell
tally_plus : (t u v : IVec → Bool) → ((x : IVec) → one (t x) + one (u x) ≡ one (v x)) → (b : Corners) → tally t b + tally u b ≡ tally v b
unfolding tally
tally_plus t u v e b = sym (weigh_plus (λ x. one (t x)) (λ x. one (u x)) b) ∙ weigh_ext (λ x. one (t x) + one (u x)) (λ x. one (v x)) b e

planes_plus : (axis : Axis) (t u v : IVec → Bool) → ((x : IVec) → one (t x) + one (u x) ≡ one (v x)) → (b : Corners) → added (planes axis t b) (planes axis u b) ≡ planes axis v b
unfolding planes
planes_plus axis t u v e b =
    zip2-map (λ x y. x + y) (λ p. tally t (slice axis b p)) (λ p. tally u (slice axis b p)) (range_with_len 0 (span axis b))
    ∙ ap (λ f. map f (range_with_len 0 (span axis b))) (λ i p. tally_plus t u v e (slice axis b p) i)

abbrev pub signature : Corners → List ℕ → List ℕ → List ℕ → Sign
signature b i j k = record { bx = b; i = i; j = j; k = k }

pub same_sign : {b : Corners} {i j k x y z : List ℕ} → i ≡ x → j ≡ y → k ≡ z → signature b i j k ≡ signature b x y z
same_sign {b} {i} {j} {k} {x} {y} {z} p q r = ap (λ v. signature b v j k) p ∙ ap (λ v. signature b x v k) q ∙ ap (signature b x y) r

pub sign_plus : (t u v : IVec → Bool) → ((x : IVec) → one (t x) + one (u x) ≡ one (v x)) → (b : Corners) → sign_sum (sign t b) (sign u b) ≡ sign v b
sign_plus t u v e b = same_sign (planes_plus I t u v e b) (planes_plus J t u v e b) (planes_plus K t u v e b)

weigh_zero : (b : Corners) → weigh (λ x. 0) b ≡ 0
unfolding weigh
weigh_zero b =
    sum_none (λ z. sum_below (λ y. sum_below (λ x. 0) (span I b)) (span J b)) (span K b)
    (λ z _. sum_none (λ y. sum_below (λ x. 0) (span I b)) (span J b) (λ y _. sum_none (λ x. 0) (span I b) (λ x _. refl)))

-- the weights of many add up to the weight of their sum
weigh_sum : {X : Type 0} (f : X → IVec → ℕ) (xs : List X) (b : Corners) → sum_by (λ u. weigh (f u) b) xs ≡ weigh (λ x. sum_by (λ u. f u x) xs) b
weigh_sum f [] b = sym (weigh_zero b)
weigh_sum f (u ∷ xs) b =
    sum_by-cons (λ v. weigh (f v) b) u xs
    ∙ ap (λ s. weigh (f u) b + s) (weigh_sum f xs b)
    ∙ sym (weigh_plus (f u) (λ x. sum_by (λ v. f v x) xs) b)
    ∙ weigh_ext (λ x. f u x + sum_by (λ v. f v x) xs) (λ x. sum_by (λ v. f v x) (u ∷ xs)) b (λ x. sym (sum_by-cons (λ v. f v x) u xs))

pub tallies_sum : (ts : List (IVec → Bool)) (t : IVec → Bool) → ((x : IVec) → sum_by (λ u. one (u x)) ts ≡ one (t x)) → (b : Corners) → sum_by (λ u. tally u b) ts ≡ tally t b
unfolding tally
tallies_sum ts t e b = weigh_sum (λ u x. one (u x)) ts b ∙ weigh_ext (λ x. sum_by (λ u. one (u x)) ts) (λ x. one (t x)) b e

-- at most one member passes: then the count is 1 where one does
one_passes : {X : Type 0} (p : X → Bool) (xs : List X) → count_by p xs ≤ 1 → count_by p xs ≡ one (list_any p xs)
one_passes p [] h = refl
one_passes p (x ∷ xs) h = by_test (p x) (count_by p xs) (list_any p xs) (count_by p (x ∷ xs)) (sum_by-cons (λ y. cond (p y) 1 0) x xs) h (λ q. one_passes p xs q)
  where
    by_test : (b : Bool) (n : ℕ) (any : Bool) (m : ℕ) → m ≡ one b + n → m ≤ 1 → (n ≤ 1 → n ≡ one any) → m ≡ one (b || any)
    by_test true n any m e h f = omega (arith, e, h)
    by_test false n any m e h f = omega (arith, e, h, f (omega (arith, e, h)))

tagged_less : (f : Field) (x : IVec) → one (tagged f x) ≤ one (holds f.bx x)
tagged_less f x = less (holds f.bx x) (is_set f.words (place f.bx x))
  where
    less : (a b : Bool) → one (a && b) ≤ one a
    less true b = one_most b
    less false b = omega arith

-- the counts of fields that have no cell in common add up to that of all their tags
pub fields_sum : (fields : List Field) (b : Corners) → AreApart fields → sum_by (λ f. tally (tagged f) b) fields ≡ tally (tagged_in fields) b
unfolding tally
fields_sum fields b apart =
    weigh_sum (λ f x. one (tagged f x)) fields b
    ∙ weigh_ext (λ x. sum_by (λ f. one (tagged f x)) fields) (λ x. one (tagged_in fields x)) b
    (λ x. one_passes (λ f. tagged f x) fields (few (sum_by-le-sum_by (λ f. one (tagged f x)) (λ f. one (holds f.bx x)) fields (λ f. tagged_less f x)) (apart x)))
  where
    few : {m n : ℕ} → m ≤ n → n ≤ 1 → m ≤ 1
    few p q = omega arith

-- the sum of two lists, one by one
pub sum_added : (xs ys : List ℕ) → length xs ≡ length ys → sum (added xs ys) ≡ sum xs + sum ys
sum_added [] [] h = refl
sum_added [] (y ∷ ys) h = absurd (omega arith)
sum_added (x ∷ xs) [] h = absurd (omega arith)
sum_added (x ∷ xs) (y ∷ ys) h =
    let same : length xs ≡ length ys = omega arith in
    omega (arith, sum_by-cons (λ n. n) (x + y) (added xs ys), sum_by-cons (λ n. n) x xs, sum_by-cons (λ n. n) y ys, sum_added xs ys same)

pub IsSign-sum : (s r : Sign) → IsSign s → IsSign r → s.bx ≡ r.bx → total s + total r < 2 ^ 63 → IsSign (sign_sum s r)
IsSign-sum s r p q e few = record {
  whole = p.whole;
  lengths = λ axis. length_of axis;
  sums = λ axis. sum_of axis ∙ sym (all K);
  few = omega (arith, few, all K);
}
  where
    same : (axis : Axis) → length (counts axis s) ≡ length (counts axis r)
    same axis = p.lengths axis ∙ ap (span axis) e ∙ sym (q.lengths axis)

    length_of : (axis : Axis) → length (counts axis (sign_sum s r)) ≡ span axis s.bx
    length_of I = length-zip2 (λ x y. x + y) s.i r.i (same I) ∙ p.lengths I
    length_of J = length-zip2 (λ x y. x + y) s.j r.j (same J) ∙ p.lengths J
    length_of K = length-zip2 (λ x y. x + y) s.k r.k (same K) ∙ p.lengths K

    sum_of : (axis : Axis) → sum (counts axis (sign_sum s r)) ≡ total s + total r
    sum_of I = sum_added s.i r.i (same I) ∙ ap (λ n. n + sum r.i) (p.sums I) ∙ ap (λ n. total s + n) (q.sums I)
    sum_of J = sum_added s.j r.j (same J) ∙ ap (λ n. n + sum r.j) (p.sums J) ∙ ap (λ n. total s + n) (q.sums J)
    sum_of K = sum_added s.k r.k (same K)

    all : (axis : Axis) → sum (counts axis (sign_sum s r)) ≡ total s + total r
    all axis = sum_of axis

-- a list of sums, by place
pub added_by_place : (xs ys zs : List ℕ) → length zs ≡ length xs → length xs ≡ length ys → ((k : ℕ) → k < length ys → get_or zs k 0 ≡ get_or xs k 0 + get_or ys k 0) → zs ≡ added xs ys
added_by_place xs ys zs p q h =
    let long = length-zip2 (λ x y. x + y) xs ys q in
    same_lists zs (added xs ys) (p ∙ sym long)
    (λ k d less. get_or_default zs k d 0 less ∙ h k (omega arith) ∙ sym (get_or-zip2 (λ x y. x + y) xs ys k 0 0 d (omega arith) (omega arith)))

-- a loop's step over the fields, and over the planes
pub next_fits : {X : Type 0} (f : X → ℕ) (xs : List X) (i : ℕ) (x : X) (count next : ℕ) → i < length xs → x ≡ get_or xs i x → count ≡ sum_by f (take i xs) → next ≡ f x → count + next ≤ sum_by f xs
next_fits f xs i x count next h here p q =
    let item : f x ≡ f (get_or xs i x) = ap f here in
    omega (arith, sum_by_more_le f xs i x h, p, q, item)

pub all_fields : (fields : List Field) (b : Corners) (i count : ℕ) → AreApart fields → length fields ≤ i → count ≡ sum_by (λ f. tally (tagged f) b) (take i fields) → count ≡ tally (tagged_in fields) b
all_fields fields b i count apart h e = e ∙ ap (sum_by (λ f. tally (tagged f) b)) (take_all i fields h) ∙ fields_sum fields b apart

pub plane_pushed : (axis : Axis) (t : IVec → Bool) (b plane : Corners) (n x : ℕ) (before after : List ℕ) → after ≡ before ++ x ∷ [] → before ≡ map (λ p. tally t (slice axis b p)) (range_with_len 0 n)
    → x ≡ tally t plane → plane ≡ slice axis b n → after ≡ map (λ p. tally t (slice axis b p)) (range_with_len 0 (n + 1))
plane_pushed axis t b plane n x before after e f g h =
    e ∙ ap (λ xs. xs ++ x ∷ []) f
    ∙ ap (λ (y : ℕ). map (λ p. tally t (slice axis b p)) (range_with_len 0 n) ++ y ∷ []) (g ∙ ap (tally t) h)
    ∙ sym (map-range_with_len_more (λ p. tally t (slice axis b p)) 0 n n (omega arith))

pub planes_are : (axis : Axis) (t : IVec → Bool) (b : Corners) (n : ℕ) (items : List ℕ) → n ≤ span axis b → span axis b ≤ n → items ≡ map (λ p. tally t (slice axis b p)) (range_with_len 0 n) → items ≡ planes axis t b
unfolding planes
planes_are axis t b n items p q e =
    let all : n ≡ span axis b = omega arith in
    e ∙ ap (λ (k : ℕ). map (λ p. tally t (slice axis b p)) (range_with_len 0 k)) all

pub plane_less : (axis : Axis) (t : IVec → Bool) (b plane : Corners) (n : ℕ) → n < span axis b → plane ≡ slice axis b n → tally t plane ≤ tally t b
plane_less axis t b plane n h e =
    let here = ap (tally t) e in
    omega (arith, here, sum_member (λ p. tally t (slice axis b p)) (span axis b) n h, tally_planes axis t b)

-- two signatures of one box have lists of one length, and sums that fit
pub same_length : (axis : Axis) (s r : Sign) (xs ys : List ℕ) → IsSign s → IsSign r → s.bx ≡ r.bx → xs ≡ counts axis s → ys ≡ counts axis r → length xs ≡ length ys
same_length axis s r xs ys p q e f g = ap (λ (v : List ℕ). length v) f ∙ p.lengths axis ∙ ap (span axis) e ∙ sym (q.lengths axis) ∙ ap (λ (v : List ℕ). length v) (sym g)

pub sums_few : (axis : Axis) (s r : Sign) (xs ys : List ℕ) → IsSign s → IsSign r → total s + total r < 2 ^ 63 → xs ≡ counts axis s → ys ≡ counts axis r → sum xs + sum ys < 2 ^ 63
sums_few axis s r xs ys p q few f g = omega (arith, few, p.sums axis, q.sums axis, ap sum f, ap sum g)
