-- The search for the patch of a box.
use Rattle.std.proofs.Common.{◌≡◌, ℕ, zero, suc, ◌+◌, ◌<◌, length, get_or, map, refl, sym, ap, subst, ◌∙◌, arith, inl, inr, add-one}
use Rattle.std.proofs.lemmas.Bool.{cases_lt}
use Rattle.std.proofs.lemmas.Cmp.{tied_itself}
use Rattle.std.proofs.lemmas.List.Sorted.{searchable_from_sorted}
use Rattle.std.specs.Prelude.{List, [], ◌∷◌}
use Rattle.std.specs.List.{HoldsAt}
use Rattle.std.specs.List.Sorted.{IsStrictlySortedBy, IsNonDecreasingBy, IsPartitionPoint}
use Rattle.std.specs.Ordering.{is_lt, ordering_index}
use Rattle.std.specs.declared.cmp.Ordering.{Ordering}
use Rattle.std.specs.declared.cmp.Ordering.TheVariants.{Less, Equal, Greater}
use Rattle.samr_box.specs.Corners.{Corners}
use Rattle.samr_box.specs.Orders.{corner_cmp}
use Rattle.samr_box.specs.Lists.{Member}
use Rattle.samr_box.proofs.Members.{Member-map, Member-from_map}
use Rattle.samr_box.proofs.Ascending.{sorted-head, sorted-tail}
use Rattle.samr_box.proofs.Totals.{corner_total, same_from_corner_cmp}
use Rattle.samr_stage.proofs.Orders.{less_back}
use Rattle.samr_data.specs.Grids.{Grid}
use Rattle.samr_values.proofs.Written.{item_member}

adjacent : (xs : List Grid) (k : ℕ) (d : Grid) → IsStrictlySortedBy corner_cmp (map (λ p. p.bx) xs) → suc k < length xs
    → corner_cmp (get_or xs k d).bx (get_or xs (suc k) d).bx ≡ Less
adjacent [] k d s below = absurd (omega (arith, below))
adjacent (x ∷ xs) zero d s below =
    sorted-head corner_cmp x.bx (map (λ p. p.bx) xs) s (get_or xs 0 d).bx
    (Member-map (λ p. p.bx) (get_or xs 0 d) xs (item_member xs 0 d (get_or xs 0 d) (omega (arith, below)) refl))
adjacent (x ∷ xs) (suc k) d s below = adjacent xs k d (sorted-tail corner_cmp x.bx (map (λ p. p.bx) xs) s) (omega (arith, below))

pub searchable : (xs : List Grid) (b : Corners) → IsStrictlySortedBy corner_cmp (map (λ p. p.bx) xs)
    → IsNonDecreasingBy (λ p. ordering_index (corner_cmp p.bx b)) xs
searchable xs b s =
    searchable_from_sorted corner_total (λ (p : Grid). p.bx) xs b
    (λ k d low below.
    let e = add-one k in
    ap is_lt (less_back corner_total (get_or xs k d).bx (get_or xs (k + 1) d).bx
    (subst (λ (n : ℕ). corner_cmp (get_or xs k d).bx (get_or xs n d).bx ≡ Less) (sym e) (adjacent xs k d s (omega (arith, below))))))

pub found : (xs : List Grid) (b : Corners) (i : ℕ) (d : Grid) → HoldsAt (λ p. corner_cmp p.bx b ≡ Equal) xs i → (get_or xs i d).bx ≡ b
found xs b i d at = same_from_corner_cmp (get_or xs i d).bx b (at d)

place_of : (p : Grid) (xs : List Grid) → Member p xs → (k : ℕ) × (k < length xs) × (get_or xs k p ≡ p)
place_of p [] m = absurd m
place_of p (x ∷ xs) (inl here) = (0, omega arith, sym here)
place_of p (x ∷ xs) (inr m) = let r = place_of p xs m in let below = r.1 in (suc r.0, omega (arith, below), r.2)

less-equal : (o : Ordering) → o ≡ Less → o ≡ Equal → ⊥
less-equal o p q = cc

greater-equal : (o : Ordering) → o ≡ Greater → o ≡ Equal → ⊥
greater-equal o p q = cc

pub not_missed : (xs : List Grid) (b : Corners) (i : ℕ) → Member b (map (λ p. p.bx) xs)
    → IsPartitionPoint (λ p. corner_cmp p.bx b ≡ Less) (λ p. corner_cmp p.bx b ≡ Greater) xs i → ⊥
not_missed xs b i m point =
    let r = Member-from_map (λ (p : Grid). p.bx) b xs m in
    let at = place_of r.0 xs r.1 in
    let tie : corner_cmp (get_or xs at.0 r.0).bx b ≡ Equal =
    ap (λ (p : Grid). corner_cmp p.bx b) at.2 ∙ ap (λ (c : Corners). corner_cmp c b) (sym r.2) ∙ tied_itself corner_total b in
    elim (cases_lt at.0 i) [
      | inl below ↦ less-equal (corner_cmp (get_or xs at.0 r.0).bx b) (point.0 at.0 r.0 (omega arith) below) tie
      | inr above ↦ greater-equal (corner_cmp (get_or xs at.0 r.0).bx b) (point.1 at.0 r.0 (omega (arith, above)) at.1) tie
    ]
