-- The reports of a node, one after another.
use Rattle.std.proofs.Common.{◌≡◌, ℕ, ◌+◌, ◌<◌, ◌^◌, refl, sym, ap, ◌∙◌, arith, take, sum_by}
use Rattle.std.proofs.lemmas.List.Sums.{sum_by-cons, sum_by-append}
use Rattle.std.specs.Prelude.{Bool, true, false, cond, List, [], ◌∷◌, Some, length, get_or}
use Rattle.std.specs.List.{find, flat_map}
use Rattle.std.specs.Ordering.{is_eq}
use Rattle.std.specs.declared.cmp.Ordering.{Ordering}
use Rattle.std.specs.declared.cmp.Ordering.TheVariants.{Less, Equal, Greater}
use Rattle.samr_box.specs.declared.vector.Axis.TheVariants.{K}
use Rattle.samr_box.specs.Vector.{AtMost}
use Rattle.samr_box.specs.Corners.{Corners, span}
use Rattle.samr_box.specs.Orders.{corner_cmp}
use Rattle.samr_box.proofs.Totals.{same_from_corner_cmp}
use Rattle.samr_sign.specs.Counts.{Sign, sign, IsSign, sign_sum, total}
use Rattle.samr_sign.proofs.Sums.{sum_added, sum_planes, next_fits}
use Rattle.samr_sign.proofs.Tallies.{tally_none}

-- two signatures of a box have as many tags as their sum
pub total_sum : (s r : Sign) → IsSign s → IsSign r → s.bx ≡ r.bx → total (sign_sum s r) ≡ total s + total r
total_sum s r p q e = sum_added s.k r.k (p.lengths K ∙ ap (span K) e ∙ sym (q.lengths K))

pub total_none : (b : Corners) → AtMost b.lo b.hi → total (sign (λ x. false) b) ≡ 0
total_none b h = sum_planes K (λ x. false) b ∙ tally_none (λ x. false) b h (λ x p e. cc)

pub is_equal : (o : Ordering) → is_eq o ≡ true → o ≡ Equal
is_equal Less e = cc
is_equal Equal e = refl
is_equal Greater e = cc

-- what a search finds is what it looks for
pub found_box : (node : Corners) (signs : List Sign) (s : Sign) → find (λ s. is_eq (corner_cmp s.bx node)) signs ≡ Some s → s.bx ≡ node
found_box node [] s e = cc
found_box node (r ∷ signs) s e = by (is_eq (corner_cmp r.bx node)) refl e (λ h. found_box node signs s h)
  where
    some_same : {X : Type 0} (a b : X) → Some a ≡ Some b → a ≡ b
    some_same a b h = cc

    by : (t : Bool) → is_eq (corner_cmp r.bx node) ≡ t → cond t (Some r) (find (λ s. is_eq (corner_cmp s.bx node)) signs) ≡ Some s
        → (find (λ s. is_eq (corner_cmp s.bx node)) signs ≡ Some s → s.bx ≡ node) → s.bx ≡ node
    by true h got later = ap (λ (v : Sign). v.bx) (sym (some_same r s got)) ∙ same_from_corner_cmp r.bx node (is_equal (corner_cmp r.bx node) h)
    by false h got later = later got

-- a sum goes on, and stays below the sum of all
sum_flat : {X Y : Type 0} (f : Y → ℕ) (g : X → List Y) (xs : List X) → sum_by f (flat_map g xs) ≡ sum_by (λ x. sum_by f (g x)) xs
sum_flat f g [] = refl
sum_flat f g (x ∷ xs) = omega (arith, sum_by-append f (g x) (flat_map g xs), sum_by-cons (λ x. sum_by f (g x)) x xs, sum_flat f g xs)

pub next_sum_fits : {X Y : Type 0} (f : Y → ℕ) (g : X → List Y) (xs : List X) (i : ℕ) (x : X) (so_far n : ℕ) → i < length xs → x ≡ get_or xs i x → so_far ≡ sum_by f (flat_map g (take i xs)) → n ≡ sum_by f (g x)
    → sum_by f (flat_map g xs) < 2 ^ 63 → so_far + n < 2 ^ 63
next_sum_fits f g xs i x so_far n less here p q few =
    let fits = next_fits (λ x. sum_by f (g x)) xs i x so_far n less here (p ∙ sum_flat f g (take i xs)) q in
    omega (arith, fits, sum_flat f g xs, few)
