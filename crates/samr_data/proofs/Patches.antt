-- Patches: what the calls leave, and the laws by cell.
use Rattle.std.proofs.Common.{◌≡◌, ℕ, true, cond, List, [], ◌∷◌, map, length, replicate, set, refl, ap, sym, subst, ◌∙◌, arith}
use Rattle.std.proofs.lemmas.Int.{ints}
use Rattle.std.proofs.lemmas.List.{length-set}
use Rattle.std.proofs.lemmas.List.FromFn.{length-map-range_with_len}
use Rattle.std.proofs.lemmas.Bool.{cond-true, cond-false, and_from}
use Rattle.std.specs.Prelude.{pos}
use Rattle.std.specs.List.{range_with_len}
use Rattle.samr_box.specs.declared.vector.IVec.{IVec}
use Rattle.samr_box.specs.Vector.{AtMost, at_most, alike, minus}
use Rattle.samr_box.specs.Corners.{Corners, Holds, holds, holds_box, cells_of, grown}
use Rattle.samr_box.proofs.Vectors.{same_cell, AtMost-antisymm, AtMost-refl}
use Rattle.samr_box.proofs.CellSets.{Holds-test, holds-from, at_most-from}
use Rattle.samr_data.specs.Places.{place, cell_at, cells_in, one_cell, moved_back}
use Rattle.samr_data.specs.Values.{CanCopy, value_in, listed, changed_in, moved_from}
use Rattle.samr_data.specs.Grids.{Grid, IsGrid, over, written, copied, packed, value_at}
use Rattle.samr_data.specs.Laws.{HasItsValues, CopiesRegion, KeepsOthers, IsItsValues}
use Rattle.samr_data.proofs.PlaceLaws.{part_cells}
use Rattle.samr_data.proofs.Lists.{value_in-listed, listed_is, listed_same}
use Rattle.samr_data.proofs.CellWrites.{set_value}

-- a patch with other values
abbrev pub with_values : Grid → List ℕ → Grid
with_values p vs = record { bx = p.bx; width = p.width; values = vs }

pub IsGrid-with : (p : Grid) (vs : List ℕ) → IsGrid p → length vs ≡ length p.values → IsGrid (with_values p vs)
IsGrid-with p vs g e = record { positive = g.positive; whole = g.whole; full = e ∙ g.full; few = g.few }

pub is_its_values : IsItsValues
is_its_values p f g each = ap (with_values p) (listed_is (over p) f p.values g.whole.order g.full each)

pub has_its_values : HasItsValues
has_its_values b w f x h = value_in-listed (grown b w) f x h

pub copies_region : CopiesRegion
copies_region p region f x h inside =
    value_in-listed (over p) (copied p region f) x h ∙ cond-true (holds region x) (f x) (value_at p x) (holds-from inside)

pub keeps_others : KeepsOthers
keeps_others p region f x h outside =
    value_in-listed (over p) (copied p region f) x h ∙ cond-false (holds region x) (f x) (value_at p x) outside

-- zeros
map_zero : {X : Type 0} (xs : List X) → map (λ (x : X). 0) xs ≡ replicate {A = ℕ} (length xs) 0
map_zero [] = refl
map_zero (x ∷ xs) = ap (λ (l : List ℕ). 0 ∷ l) (map_zero xs)

pub zeros_are : (b : Corners) (n : ℕ) (vs : List ℕ) → n ≡ cells_of b → vs ≡ replicate n 0 → vs ≡ listed b (λ x. 0)
unfolding cells_in
zeros_are b n vs e h =
    h
    ∙ ap (λ m. replicate {A = ℕ} m 0) (e ∙ sym (length-map-range_with_len (cell_at b) 0 (cells_of b)))
    ∙ sym (map_zero (map (cell_at b) (range_with_len 0 (cells_of b))))

-- one cell
pub set_patch : (p : Grid) (x : IVec) (v : ℕ) → IsGrid p → Holds (over p) x → with_values p (set p.values (place (over p) x) v) ≡ written p (copied p (one_cell x) (λ y. v))
set_patch p x v g h =
    ap (with_values p)
    (listed_is (over p) (copied p (one_cell x) (λ y. v)) (set p.values (place (over p) x) v) g.whole.order
    (length-set p.values (place (over p) x) v ∙ g.full)
    (λ y held. set_value (over p) p.values (λ z. v) x y v (holds (one_cell x) y) g.full h held refl
    (λ t. let inside = Holds-test {b = one_cell x} {x = y} t in AtMost-antisymm inside.high inside.low)
    (λ same. holds-from (subst (λ z. Holds (one_cell x) z) (sym same) (record { low = AtMost-refl x; high = AtMost-refl x })))))

-- no step
still : (x : IVec) → minus x (alike (pos 0)) ≡ x
still x = same_cell (omega (arith, ints)) (omega (arith, ints)) (omega (arith, ints))

pub holds_still : (b : Corners) (step : IVec) → step ≡ alike (pos 0) → AtMost b.lo b.hi → holds_box b (moved_back b step) ≡ true
holds_still b step e order =
    let lo : AtMost b.lo (minus b.lo step) = subst (λ v. AtMost b.lo v) (sym (ap (minus b.lo) e ∙ still b.lo)) (AtMost-refl b.lo) in
    let hi : AtMost (minus b.hi step) b.hi = subst (λ v. AtMost v b.hi) (sym (ap (minus b.hi) e ∙ still b.hi)) (AtMost-refl b.hi) in
    and_from (at_most b.lo (minus b.lo step)) (at_most (minus b.hi step) b.hi) (at_most-from lo) (at_most-from hi)

holds_back : (a b : Corners) (step : IVec) → step ≡ alike (pos 0) → holds_box a b ≡ true → holds_box a (moved_back b step) ≡ true
holds_back a b step e t =
    ap (λ (v : IVec). let c : Corners = record { lo = v; hi = minus b.hi step } in holds_box a c) (ap (minus b.lo) e ∙ still b.lo)
    ∙ ap (λ (v : IVec). let c : Corners = record { lo = b.lo; hi = v } in holds_box a c) (ap (minus b.hi) e ∙ still b.hi)
    ∙ t

pub can_pack : (p : Grid) (region at : Corners) (to from : List ℕ) (step : IVec) → IsGrid p → AtMost region.lo region.hi → holds_box (over p) region ≡ true
    → length to ≡ cells_of region → from ≡ p.values → at ≡ over p → step ≡ alike (pos 0) → CanCopy to region from at region step
can_pack p region at to from step g order inside full e f still =
    let few = part_cells (over p) region inside order in
    subst (λ a. CanCopy to region from a region step) (sym f)
    (record {
      full = full;
      few = omega (arith, few, g.few);
      into = holds_itself region order;
      source_full = ap (λ (l : List ℕ). length l) e ∙ g.full;
      source_few = g.few;
      out = holds_back (over p) region step still inside;
    })
  where
    holds_itself : (b : Corners) → AtMost b.lo b.hi → holds_box b b ≡ true
    holds_itself b order = and_from (at_most b.lo b.lo) (at_most b.hi b.hi) (at_most-from (AtMost-refl b.lo)) (at_most-from (AtMost-refl b.hi))

pub unpacked : (p : Grid) (region : Corners) (vs : List ℕ) → IsGrid p → written p (copied p region (moved_from region vs (alike (pos 0)))) ≡ written p (copied p region (value_in region vs))
unpacked p region vs g =
    ap (with_values p)
    (listed_same (over p) (copied p region (moved_from region vs (alike (pos 0)))) (copied p region (value_in region vs)) g.whole.order
    (λ x h. ap (λ y. cond (holds region x) (value_in region vs y) (value_at p x)) (still x)))

pub packed_is : (p : Grid) (region at : Corners) (old vs from : List ℕ) (step : IVec) → AtMost region.lo region.hi → from ≡ p.values → at ≡ over p → step ≡ alike (pos 0)
    → vs ≡ listed region (changed_in region old (holds region) (moved_from at from step)) → vs ≡ packed p region
packed_is p region at old vs from step order values box none e =
    e
    ∙ ap (λ l. listed region (changed_in region old (holds region) (moved_from at l step))) values
    ∙ ap (λ b. listed region (changed_in region old (holds region) (moved_from b p.values step))) box
    ∙ ap (λ s. listed region (changed_in region old (holds region) (moved_from (over p) p.values s))) none
    ∙ listed_same region (changed_in region old (holds region) (moved_from (over p) p.values (alike (pos 0)))) (value_at p) order
    (λ x h.
    cond-true (holds region x) (value_in (over p) p.values (minus x (alike (pos 0)))) (value_in region old x) (holds-from h)
    ∙ ap (value_at p) (still x))
