-- The cells of a box that lie over a coarse region.
use Rattle.std.proofs.Common.{◌≡◌, ℕ, refl, sym, ◌∙◌, subst, arith}
use Rattle.std.proofs.lemmas.Int.{ints, clamps}
use Rattle.std.proofs.lemmas.Bool.{and_parts, and_from, false≢true}
use Rattle.std.specs.Prelude.{Bool, true, false, cond, ◌&&◌, Option, Some, None, IfSome, IfNone, ◌↔◌}
use Rattle.samr_box.specs.declared.vector.IVec.{IVec}
use Rattle.samr_box.specs.Vector.{at_most, least, greatest, IsRatio}
use Rattle.samr_box.specs.Corners.{Corners, Holds, holds, holds_box, meets, met, common}
use Rattle.samr_box.specs.Ratios.{coarse, refined}
use Rattle.samr_box.proofs.CellSets.{Holds-test, holds-from, Holds-common, Holds-refined, meets-from, Meet-cell, at_most-from}
use Rattle.samr_data.specs.Grids.{Grid, IsGrid, written, copied}
use Rattle.samr_ops.specs.declared.rules.Rules.{Rules}
use Rattle.samr_data.specs.declared.parcel.Parcel.{Parcel}
use Rattle.samr_values.specs.Patches.{poured}
use Rattle.samr_values.specs.Parcels.{has_coarse, refined_under}
use Rattle.samr_values.proofs.Written.{poured_none, poured_region}

common_inside : (a b : Corners) → holds_box b (common a b) ≡ true
common_inside a b =
    and_from (at_most b.lo (greatest a.lo b.lo)) (at_most (least a.hi b.hi) b.hi)
    (at_most-from {a = b.lo} {b = greatest a.lo b.lo} (record { k = omega (arith, ints, clamps); j = omega (arith, ints, clamps); i = omega (arith, ints, clamps) }))
    (at_most-from {a = least a.hi b.hi} {b = b.hi} (record { k = omega (arith, ints, clamps); j = omega (arith, ints, clamps); i = omega (arith, ints, clamps) }))

abbrev IsInside : Corners → Option Corners → Type 0
IsInside b o = IfSome o (λ p. holds_box b p ≡ true)

abbrev HasCells : Corners → Corners → IVec → Option Corners → Type 0
HasCells region b r o = IfSome o (λ p. (x : IVec) → Holds p x ↔ (Holds b x × Holds region (coarse x r)))

abbrev HasNone : Corners → Corners → IVec → Option Corners → Type 0
HasNone region b r o = IfNone o ((x : IVec) → Holds b x → Holds region (coarse x r) → ⊥)

module _ (region b : Corners) (r : IVec) (ratio : IsRatio r) where
  inside_by : (t : Bool) → IsInside b (cond t (Some (common (refined region r) b)) None)
  inside_by true = common_inside (refined region r) b
  inside_by false = tt

  cells_by : (t : Bool) → HasCells region b r (cond t (Some (common (refined region r) b)) None)
  cells_by true = λ x.
      let c = Holds-common (refined region r) b x in
      let f = Holds-refined region r x ratio in (
        λ h. let both = c.0 h in (both.1, f.0 both.0),
        λ h. c.1 (f.1 h.1, h.0),
      )
  cells_by false = tt

  none_by : (t : Bool) → meets (refined region r) b ≡ t → HasNone region b r (cond t (Some (common (refined region r) b)) None)
  none_by true e = tt
  none_by false e = λ x h g.
      let f = Holds-refined region r x ratio in
      false≢true (sym e ∙ meets-from {a = refined region r} {b = b} (Meet-cell {a = refined region r} {b = b} {x = x} (f.1 g) h))

  pub over_inside : (o : Option Corners) → o ≡ met (refined region r) b → IfSome o (λ p. holds_box b p ≡ true)
  over_inside o e = subst (λ (v : Option Corners). IsInside b v) (sym e) (inside_by (meets (refined region r) b))

  pub over_cells : (o : Option Corners) → o ≡ met (refined region r) b → IfSome o (λ p. (x : IVec) → Holds p x ↔ (Holds b x × Holds region (coarse x r)))
  over_cells o e = subst (λ (v : Option Corners). HasCells region b r v) (sym e) (cells_by (meets (refined region r) b))

  pub over_none : (o : Option Corners) → o ≡ met (refined region r) b → IfNone o ((x : IVec) → Holds b x → Holds region (coarse x r) → ⊥)
  over_none o e = subst (λ (v : Option Corners). HasNone region b r v) (sym e) (none_by (meets (refined region r) b) refl)

-- a parcel with values of cells under the box
module _ (p : Grid) (b : Corners) (field : ℕ) (step : IVec) (q : Parcel) (is : IsGrid p) (e : b ≡ p.bx) where
  pub under_none : (v : IVec → ℕ) → ((x : IVec) → Holds p.bx x → has_coarse field p.bx q ≡ true → Holds q.region (coarse x step) → ⊥)
      → p ≡ poured p (λ x. holds p.bx x && (has_coarse field p.bx q && holds q.region (coarse x step))) v
  under_none v none =
      poured_none p (λ x. holds p.bx x && (has_coarse field p.bx q && holds q.region (coarse x step))) v is (λ x. by x (holds p.bx x && (has_coarse field p.bx q && holds q.region (coarse x step))) refl)
    where
      by : (x : IVec) (t : Bool) → (holds p.bx x && (has_coarse field p.bx q && holds q.region (coarse x step))) ≡ t → (holds p.bx x && (has_coarse field p.bx q && holds q.region (coarse x step))) ≡ false
      by x false s = s
      by x true s =
          let first = and_parts (holds p.bx x) (has_coarse field p.bx q && holds q.region (coarse x step)) s in
          let second = and_parts (has_coarse field p.bx q) (holds q.region (coarse x step)) first.1 in
          absurd (none x (Holds-test {b = p.bx} {x = x} first.0) second.0 (Holds-test {b = q.region} {x = coarse x step} second.1))

  pub under_poured : (part : Corners) (r : Rules) (v : IVec → ℕ) → has_coarse field b q ≡ true
      → ((x : IVec) → Holds part x ↔ (Holds b x × Holds q.region (coarse x step)))
      → ((x : IVec) → has_coarse field p.bx q ≡ true → Holds p.bx x → Holds q.region (coarse x step) → refined_under r step q x ≡ v x)
      → written p (copied p part (refined_under r step q)) ≡ poured p (λ x. holds p.bx x && (has_coarse field p.bx q && holds q.region (coarse x step))) v
  under_poured part r v t cells agree =
      let here : has_coarse field p.bx q ≡ true = subst (λ (c : Corners). has_coarse field c q ≡ true) e t in
      poured_region p part (refined_under r step q) v (λ x. holds p.bx x && (has_coarse field p.bx q && holds q.region (coarse x step))) is
      (λ x. same x (holds part x) (holds p.bx x && (has_coarse field p.bx q && holds q.region (coarse x step))) refl refl here)
      (λ x s.
      let first = and_parts (holds p.bx x) (has_coarse field p.bx q && holds q.region (coarse x step)) s in
      let second = and_parts (has_coarse field p.bx q) (holds q.region (coarse x step)) first.1 in
      agree x here (Holds-test {b = p.bx} {x = x} first.0) (Holds-test {b = q.region} {x = coarse x step} second.1))
    where
      same : (x : IVec) (u w : Bool) → holds part x ≡ u → (holds p.bx x && (has_coarse field p.bx q && holds q.region (coarse x step))) ≡ w → has_coarse field p.bx q ≡ true
          → holds part x ≡ (holds p.bx x && (has_coarse field p.bx q && holds q.region (coarse x step)))
      same x true w g h k =
          let both = (cells x).0 (Holds-test {b = part} {x = x} g) in
          g ∙ sym (and_from (holds p.bx x) (has_coarse field p.bx q && holds q.region (coarse x step)) (subst (λ (c : Corners). holds c x ≡ true) e (holds-from {b = b} {x = x} both.0))
          (and_from (has_coarse field p.bx q) (holds q.region (coarse x step)) k (holds-from {b = q.region} {x = coarse x step} both.1)))
      same x false true g h k =
          let first = and_parts (holds p.bx x) (has_coarse field p.bx q && holds q.region (coarse x step)) h in
          let second = and_parts (has_coarse field p.bx q) (holds q.region (coarse x step)) first.1 in
          let there : Holds b x = subst (λ (c : Corners). Holds c x) (sym e) (Holds-test {b = p.bx} {x = x} first.0) in
          absurd (false≢true (sym g ∙ holds-from {b = part} {x = x} ((cells x).1 (there, Holds-test {b = q.region} {x = coarse x step} second.1))))
      same x false false g h k = g ∙ sym h
