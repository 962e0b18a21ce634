-- What passes a test of its range is in the range.
use Rattle.std.proofs.Common.{◌≡◌, ◌∙◌, ap, ℕ, zero, suc, ◌<◌, ℤ, pos, negsuc, ◌≤ℤ◌, Bool, true, ◌&&◌, List, [], ◌∷◌, map, length, get_or, BTreeMap, String, Global, arith}
use Rattle.std.proofs.lemmas.Bool.{and_parts}
use Rattle.std.proofs.lemmas.Float.{T_from_true}
use Rattle.std.specs.Borrow.{Bor}
use Rattle.std.specs.Int.Signed.{le_z_yes}
use Rattle.std.specs.List.{list_all}
use Rattle.std.specs.Prelude.{int_le}
use Rattle.samr_box.specs.declared.vector.IVec.{IVec}
use Rattle.samr_box.specs.Corners.{Corners, IsBox}
use Rattle.samr_box.specs.Vector.{alike, at_most, AtMost, IsRatio}
use Rattle.toml.specs.Data.{Members}
use Rattle.toml.specs.View.{table_view}
use Rattle.toml.specs.declared.value.Value.{Value}
use Rattle.samr_problem.specs.Fields.{is_ratio, is_box}
use Rattle.samr_problem.proofs.TableViews.{views}

pub le_true : (a b : ℤ) → int_le a b ≡ true → a ≤ℤ b
le_true a b passed = le_z_yes (T_from_true (int_le a b) passed)

pub at_most_true : (a b : IVec) → at_most a b ≡ true → AtMost a b
at_most_true a b passed =
    let (k, rest) = and_parts (int_le a.k b.k) (int_le a.j b.j && int_le a.i b.i) passed in
    let (j, i) = and_parts (int_le a.j b.j) (int_le a.i b.i) rest in
    record { k = le_true a.k b.k k; j = le_true a.j b.j j; i = le_true a.i b.i i }

-- each item of a list passes what all pass
pub all_at : {X : Type 0} (test : X → Bool) (xs : List X) (n : ℕ) (d : X) → list_all test xs ≡ true → n < length xs → test (get_or xs n d) ≡ true
all_at test [] n d all below = absurd (omega arith)
all_at test (x ∷ xs) zero d all below = (and_parts (test x) (list_all test xs) all).0
all_at test (x ∷ xs) (suc n) d all below = all_at test xs n d (and_parts (test x) (list_all test xs) all).1 (omega arith)

pub ratio_true : (r : IVec) → is_ratio r ≡ true → IsRatio r
unfolding is_ratio
ratio_true r passed =
    let (low, high) = and_parts (at_most (alike (pos 1)) r) (at_most r (alike (pos 256))) passed in
    record { low = at_most_true (alike (pos 1)) r low; high = at_most_true r (alike (pos 256)) high }

pub ratio_at : (vs : List IVec) (n : ℕ) (d : IVec) → list_all is_ratio vs ≡ true → n < length vs → IsRatio (get_or vs n d)
ratio_at vs n d all below = ratio_true (get_or vs n d) (all_at is_ratio vs n d all below)

pub box_true : (b : Corners) → is_box b ≡ true → IsBox b
unfolding is_box
box_true b passed =
    let (low, rest) = and_parts (at_most (alike (negsuc 1073741823)) b.lo) (at_most b.lo b.hi && at_most b.hi (alike (pos 1073741824))) passed in
    let (order, high) = and_parts (at_most b.lo b.hi) (at_most b.hi (alike (pos 1073741824))) rest in
    record { low = at_most_true _ _ low; order = at_most_true _ _ order; high = at_most_true _ _ high }

-- what the tables of a list are made to
pub made_at : {Y : Type 0} (test : Y → Bool) (f : Members → Y) (ts : List (Bor (BTreeMap (String Global) Value))) (n : ℕ) (t : Bor (BTreeMap (String Global) Value))
    → list_all test (map f (views ts)) ≡ true → n < length ts → t ≡ get_or ts n t → test (f (table_view t.now)) ≡ true
made_at test f [] n t all below is = absurd (omega arith)
made_at test f (x ∷ xs) zero t all below is = ap (λ (y : Bor (BTreeMap (String Global) Value)). test (f (table_view y.now))) is ∙ (and_parts (test (f (table_view x.now))) (list_all test (map f (views xs))) all).0
made_at test f (x ∷ xs) (suc n) t all below is = made_at test f xs n t (and_parts (test (f (table_view x.now))) (list_all test (map f (views xs))) all).1 (omega arith) is
