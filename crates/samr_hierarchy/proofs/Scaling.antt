-- Cells and domains of a level and of the one below it.
use Rattle.std.proofs.Common.{◌≡◌, ℕ, refl, sym, ap, ◌∙◌, subst, inl, inr, arith, length}
use Rattle.std.proofs.lemmas.Int.{ints}
use Rattle.std.proofs.lemmas.List.{length-map}
use Rattle.std.specs.Prelude.{Bool, true, false, ◌==◌, if◌then◌else◌, ℤ, pos, ◌+ℤ◌, ◌-ℤ◌, ◌*ℤ◌, ◌≤ℤ◌, List, [], ◌∷◌, map}
use Rattle.samr_box.specs.declared.vector.IVec.{IVec}
use Rattle.samr_box.specs.Vector.{alike, times, AtMost, IsRatio}
use Rattle.samr_box.specs.Corners.{Corners, Holds}
use Rattle.samr_box.specs.Ratios.{coarse, refined}
use Rattle.samr_box.specs.Space.{Space, IsSpace, whole, finer, wrapped}
use Rattle.samr_box.specs.Lists.{Member}
use Rattle.samr_box.proofs.Products.{mul_one, mul_comm, mul_le, mul-minus}
use Rattle.samr_box.proofs.CellSets.{Holds-refined}
use Rattle.samr_box.proofs.Vectors.{same_cell}
use Rattle.samr_box.proofs.Members.{Member-from_map}
use Rattle.samr_border.proofs.TurnLaws.{wrapped_coarse}
use Rattle.samr_level.specs.Regions.{Area, IsCellOf, IsInside, finer_area}
use Rattle.samr_level.proofs.Refining.{finer_twice}

-- refined twice is refined by the product
pub area_twice : (a : Area) (r s : IVec) → finer_area a (times r s) ≡ finer_area (finer_area a r) s
area_twice a r s = sym (finer_twice a r s)

-- the cell under a cell of the finer domain is one of the domain: of a whole frame, and of parts
last_whole : (n r : ℤ) → ((n -ℤ pos 1) *ℤ r) +ℤ (r -ℤ pos 1) ≡ (n *ℤ r) -ℤ pos 1
last_whole n r = let a = mul-minus n (pos 1) r in let b = mul_one r in omega (arith, ints, a, b)

zero_times : (r : ℤ) → pos 0 ≡ pos 0 *ℤ r
zero_times r = omega (arith, ints)

whole_refined : (d : Space) (r : IVec) → whole (finer d r) ≡ refined (whole d) r
whole_refined d r =
    let lo : alike (pos 0) ≡ times (alike (pos 0)) r = same_cell (zero_times r.k) (zero_times r.j) (zero_times r.i) in
    let hi : (whole (finer d r)).hi ≡ (refined (whole d) r).hi = same_cell (sym (last_whole d.size.k r.k)) (sym (last_whole d.size.j r.j)) (sym (last_whole d.size.i r.i)) in
    ap (λ (v : IVec). let c : Corners = record { lo = v; hi = (whole (finer d r)).hi } in c) lo
    ∙ ap (λ (v : IVec). let c : Corners = record { lo = times (alike (pos 0)) r; hi = v } in c) hi

under_whole : (d : Space) (r x : IVec) → IsRatio r → (p : Corners) × Member p (whole (finer d r) ∷ []) × Holds p x → (p : Corners) × Member p (whole d ∷ []) × Holds p (coarse x r)
under_whole d r x q (p, inl m, h) = (whole d, inl refl, (Holds-refined (whole d) r x q).0 (subst (λ (c : Corners). Holds c x) (m ∙ whole_refined d r) h))
under_whole d r x q (p, inr m, h) = absurd m

under_parts : (parts : List Corners) (r x : IVec) → IsRatio r → (p : Corners) × Member p (map (λ p. refined p r) parts) × Holds p x
    → (p : Corners) × Member p parts × Holds p (coarse x r)
under_parts parts r x q (p, m, h) =
    let o = Member-from_map (λ p. refined p r) p parts m in
    (o.0, o.1, (Holds-refined o.0 r x q).0 (subst (λ (c : Corners). Holds c x) o.2 h))

under_by : (t : Bool) (d : Space) (parts : List Corners) (r x : IVec) → IsRatio r
    → (p : Corners) × Member p (if t then whole (finer d r) ∷ [] else map (λ p. refined p r) parts) × Holds p x
    → (p : Corners) × Member p (if t then whole d ∷ [] else parts) × Holds p (coarse x r)
under_by true d parts r x q cell = under_whole d r x q cell
under_by false d parts r x q cell = under_parts parts r x q cell

pub under_cell : (a : Area) (r x : IVec) → IsRatio r → IsCellOf (finer_area a r) x → IsCellOf a (coarse x r)
under_cell a r x q cell =
    under_by (length a.parts == 0) a.frame a.parts r x q
    (subst (λ (n : ℕ). (p : Corners) × Member p (if n == 0 then whole (finer a.frame r) ∷ [] else map (λ p. refined p r) a.parts) × Holds p x)
    (length-map a.parts (λ p. refined p r)) cell)

-- a cell lies inside only where the one under it does
pub under_inside : (a : Area) (r s x : IVec) → IsSpace (finer a.frame r) → IsRatio s → IsInside (finer_area a (times r s)) x → IsInside (finer_area a r) (coarse x s)
under_inside a r s x space q inside =
    let fine = subst (λ (v : Area). IsInside v x) (area_twice a r s) inside in
    subst (λ (y : IVec). IsCellOf (finer_area a r) y) (wrapped_coarse (finer a.frame r) s x space q) (under_cell (finer_area a r) s (wrapped (finer (finer a.frame r) s) x) q fine)

-- a length that is not negative grows with a factor
grows : (n r : ℤ) → pos 0 ≤ℤ n → pos 1 ≤ℤ r → n ≤ℤ (n *ℤ r)
grows n r p q =
    let more = mul_le n (pos 1) r p q in
    let one = mul_one n in
    let turned = mul_comm r n in
    omega (arith, ints, more, one, turned)

pub all_grow : (x r : IVec) → AtMost (alike (pos 0)) x → IsRatio r → AtMost x (times x r)
all_grow x r p q = record { k = grows x.k r.k p.k q.low.k; j = grows x.j r.j p.j q.low.j; i = grows x.i r.i p.i q.low.i }
