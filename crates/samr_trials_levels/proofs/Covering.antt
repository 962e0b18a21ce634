-- Level 0 lies under every block of the finer domain.
use Rattle.std.proofs.Common.{◌≡◌, ℕ, ◌<◌, ◌≤◌, refl, sym, ap, ◌∙◌, subst, inl, inr, arith, length, slice_get, Some}
use Rattle.std.proofs.lemmas.Int.{ints}
use Rattle.std.proofs.lemmas.Nat.{mod_below}
use Rattle.std.proofs.lemmas.List.{length-map}
use Rattle.std.specs.Prelude.{◌+◌, ◌*◌, unsigned_abs, ℤ, pos, ◌+ℤ◌, ◌-ℤ◌, ◌*ℤ◌, Bool, true, false, List, [], ◌∷◌, map, ◌==◌, if◌then◌else◌}
use Rattle.std.specs.List.{All}
use Rattle.samr_box.specs.declared.vector.IVec.{IVec}
use Rattle.samr_box.specs.Vector.{alike, times, IsRatio}
use Rattle.samr_box.specs.Corners.{Corners, Holds}
use Rattle.samr_box.specs.Ratios.{coarse, refined, last_child}
use Rattle.samr_box.specs.Space.{Space, whole, finer}
use Rattle.samr_box.specs.Lists.{Member}
use Rattle.samr_box.proofs.Vectors.{same_cell}
use Rattle.samr_box.proofs.Products.{mul_one, mul-minus}
use Rattle.samr_box.proofs.CellSets.{Holds-refined}
use Rattle.samr_box.proofs.Members.{Member-from_map, Member-map, member_of_All}
use Rattle.samr_level.specs.Refs.{Owned}
use Rattle.samr_level.specs.Regions.{Area, IsArea, IsCellOf, finer_area}
use Rattle.samr_level.specs.Levels.{IsLevel, IsCellIn}
use Rattle.samr_level.specs.Blocks.{level0}
use Rattle.samr_level.proofs.Level0Laws.{IsLevel-level0, cells-level0}
use Rattle.samr_level.proofs.FinerAreas.{IsArea-finer}
use Rattle.samr_ops.specs.declared.rules.Rules.{Rules}
use Rattle.samr_trials_levels.specs.Kept.{kept}
use Rattle.samr_trials_levels.specs.First.{first_value, HasRooms}
use Rattle.samr_trials_levels.specs.Cover.{fine_blocks, AreFields, CanCover}
use Rattle.samr_trials_levels.proofs.Steps.{item_at}
use Rattle.samr_trials_levels.proofs.KeptLaws.{IsLevel-kept, Member-from_kept}

pub one_ratio : IsRatio (alike (pos 1))
one_ratio = record {
  low = record { k = omega (arith, ints); j = omega (arith, ints); i = omega (arith, ints) };
  high = record { k = omega (arith, ints); j = omega (arith, ints); i = omega (arith, ints) };
}

pub one_times : (x : IVec) → times (alike (pos 1)) x ≡ x
one_times x = same_cell {a = times (alike (pos 1)) x} {b = x} (mul_one x.k) (mul_one x.j) (mul_one x.i)

-- the whole of a frame, refined, is the whole of the finer frame
end_on : (n r : ℤ) → ((n -ℤ pos 1) *ℤ r) +ℤ (r -ℤ pos 1) ≡ (n *ℤ r) -ℤ pos 1
end_on n r =
    let e = mul-minus n (pos 1) r in
    let o = mul_one r in
    omega (arith, ints, e, o)

zero_on : (r : ℤ) → pos 0 *ℤ r ≡ pos 0
zero_on r = omega (arith, ints)

same_corners : {a b : Corners} → a.lo ≡ b.lo → a.hi ≡ b.hi → a ≡ b
same_corners {a} {b} e f =
    ap (λ (v : IVec). let c : Corners = record { lo = v; hi = a.hi } in c) e ∙ ap (λ (v : IVec). let c : Corners = record { lo = b.lo; hi = v } in c) f

whole_refined : (d : Space) (r : IVec) → refined (whole d) r ≡ whole (finer d r)
whole_refined d r =
    same_corners {a = refined (whole d) r} {b = whole (finer d r)}
    (same_cell {a = times (alike (pos 0)) r} {b = alike (pos 0)} (zero_on r.k) (zero_on r.j) (zero_on r.i))
    (same_cell {a = last_child (whole d).hi r} {b = (whole (finer d r)).hi} (end_on d.size.k r.k) (end_on d.size.j r.j) (end_on d.size.i r.i))

-- the cell under a cell of the finer domain is one of the domain: of a whole frame, and of parts
under_whole : (d : Space) (r x : IVec) → IsRatio r → (p : Corners) × Member p (whole (finer d r) ∷ []) × Holds p x → (p : Corners) × Member p (whole d ∷ []) × Holds p (coarse x r)
under_whole d r x q (p, inl m, h) = (whole d, inl refl, (Holds-refined (whole d) r x q).0 (subst (λ (c : Corners). Holds c x) (m ∙ sym (whole_refined d r)) h))
under_whole d r x q (p, inr m, h) = absurd m

under_parts : (parts : List Corners) (r x : IVec) → IsRatio r → (p : Corners) × Member p (map (λ p. refined p r) parts) × Holds p x
    → (p : Corners) × Member p parts × Holds p (coarse x r)
under_parts parts r x q (p, m, h) =
    let o = Member-from_map (λ p. refined p r) p parts m in
    (o.0, o.1, (Holds-refined o.0 r x q).0 (subst (λ (c : Corners). Holds c x) o.2 h))

under_by : (t : Bool) (d : Space) (parts : List Corners) (r x : IVec) → IsRatio r
    → (p : Corners) × Member p (if t then whole (finer d r) ∷ [] else map (λ p. refined p r) parts) × Holds p x
    → (p : Corners) × Member p (if t then whole d ∷ [] else parts) × Holds p (coarse x r)
under_by true d parts r x q cell = under_whole d r x q cell
under_by false d parts r x q cell = under_parts parts r x q cell

pub under_cell : (a : Area) (r x : IVec) → IsRatio r → IsCellOf (finer_area a r) x → IsCellOf a (coarse x r)
under_cell a r x q cell =
    under_by (length a.parts == 0) a.frame a.parts r x q
    (subst (λ (n : ℕ). (p : Corners) × Member p (if n == 0 then whole (finer a.frame r) ∷ [] else map (λ p. refined p r) a.parts) × Holds p x)
    (length-map a.parts (λ p. refined p r)) cell)

module _ (area : Area) (block step fine_block : IVec) (ranks : ℕ) (width : IVec) (h : CanCover area block step fine_block ranks width) where
  pub is_coarse : IsLevel area ranks (level0 area block ranks)
  is_coarse = IsLevel-level0 area block ranks h.is_area h.blocks h.some

  pub fine_area : IsArea (finer_area area step)
  fine_area = IsArea-finer area step h.is_area h.ratio h.is_finer

  pub is_fine : (mask : ℕ) → IsLevel (finer_area area step) ranks (kept mask (fine_blocks area step fine_block ranks))
  is_fine mask =
      IsLevel-kept (finer_area area step) ranks mask (fine_blocks area step fine_block ranks)
      (IsLevel-level0 (finer_area area step) fine_block ranks fine_area h.over_blocks h.some)

  -- a cell of a new block lies over a cell of level 0
  pub lies_over : (mask : ℕ) (x : IVec) → IsCellIn (kept mask (fine_blocks area step fine_block ranks)) x → IsCellIn (level0 area block ranks) (coarse x step)
  lies_over mask x (b, m, has) =
      let fine = (cells-level0 (finer_area area step) fine_block ranks fine_area h.over_blocks x).0 (b, Member-from_kept mask (fine_blocks area step fine_block ranks) b m, has) in
      (cells-level0 area block ranks h.is_area h.blocks (coarse x step)).1 (under_cell area step x h.ratio fine)

-- the first values are below the bound
pub first_below : (bound start f : ℕ) (x : IVec) → 0 < bound → first_value bound start f x < bound
unfolding first_value
first_below bound start f x some = mod_below (start + 7 * f + unsigned_abs x.i + 20 * unsigned_abs x.j + 400 * unsigned_abs x.k) bound some

-- and so below the modulus of their field
pub first_fits : (bound start : ℕ) (rules : List Rules) (f : ℕ) (r : Rules) (x : IVec) → AreFields bound rules → slice_get rules f ≡ Some r → first_value bound start f x < r.modulus
first_fits bound start rules f r x h there =
    let least = member_of_All (λ (r : Rules). bound ≤ r.modulus) r rules h.least (item_at rules f r there) in
    let small = first_below bound start f x h.some in
    omega (arith, least, small)

-- the room for a field
pub its_rooms : (level : List Owned) (rules : List Rules) (r : Rules) → All (HasRooms level) (map (λ r. r.width) rules) → Member r rules → HasRooms level r.width
its_rooms level rules r h m = member_of_All (HasRooms level) r.width (map (λ (r : Rules). r.width) rules) h (Member-map (λ (r : Rules). r.width) r rules m)
