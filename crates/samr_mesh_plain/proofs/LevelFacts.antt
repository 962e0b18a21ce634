-- The ratios and frames of the levels of an accepted problem, and passes over them.
use Rattle.std.proofs.Common.{◌≡◌, ℕ, zero, suc, ◌+◌, ◌-◌, ◌<◌, ◌≤◌, refl, sym, ap, subst, ◌∙◌, inl, inr, arith}
use Rattle.std.proofs.lemmas.Int.{ints}
use Rattle.std.proofs.lemmas.Bool.{cases_eq}
use Rattle.std.specs.Prelude.{ℤ, pos, ◌*ℤ◌, ◌-ℤ◌, ◌≤ℤ◌}
use Rattle.samr_box.specs.declared.vector.IVec.{IVec}
use Rattle.samr_box.specs.Vector.{times, AtMost, IsRatio}
use Rattle.samr_box.specs.Corners.{IsBox, Holds}
use Rattle.samr_box.specs.Ratios.{floor, coarse, refined}
use Rattle.samr_box.specs.Space.{whole}
use Rattle.samr_box.proofs.Floors.{floor-from_mul, floor_high}
use Rattle.samr_box.proofs.Products.{mul_le, mul_comm, mul_one, mul_zero}
use Rattle.samr_box.proofs.Vectors.{AtMost-refl, AtMost-trans}
use Rattle.samr_problem.specs.Fields.{Fields}
use Rattle.samr_problem.specs.Problems.{IsProblem}
use Rattle.samr_mesh.specs.Domains.{step_of, ratio_to, frame_at, to_finest}
use Rattle.samr_mesh.specs.Passes.{Pass}
use Rattle.samr_mesh.specs.Soundness.{CanRun}
use Rattle.samr_mesh.proofs.Grounding.{domain, can_pass, step_is}
use Rattle.samr_mesh_plain.specs.Making.{one_cell, CanMake}

pub can_run : (p : Fields) (w : Pass) → IsProblem p → CanMake p w → CanRun p w
can_run p w is can = record { can = can_pass p is w.number can.below; some = can.some; is_level = can.is_level }

pub ratio_at : (p : Fields) (l : ℕ) → IsProblem p → l < p.levels → IsRatio (ratio_to p l)
ratio_at p l is h = (domain p is l h).ratio

-- one level more
pub next_ratio : (p : Fields) (n l : ℕ) (r s : IVec) → IsProblem p → n < l → l < p.levels → r ≡ ratio_to p n → s ≡ step_of p n → IsRatio (times r s)
next_ratio p n l r s is low high e f =
    let h : IsRatio (times (ratio_to p n) (step_of p n)) = (domain p is (suc n) (omega (arith, low, high))).ratio in
    subst (λ (v : IVec). IsRatio (times v s)) (sym e) (subst (λ (v : IVec). IsRatio (times (ratio_to p n) v)) (sym f) h)

-- a finer level has no smaller ratio
larger : (a s : ℤ) → pos 1 ≤ℤ a → pos 1 ≤ℤ s → a ≤ℤ (a *ℤ s)
larger a s low one = let m = mul_le a (pos 1) s (omega (arith, ints, low)) one in let c = mul_comm a s in let e = mul_one a in omega (arith, ints, m, c, e)

ratio_grows : (p : Fields) (l top : ℕ) → IsProblem p → l ≤ top → top < p.levels → AtMost (ratio_to p l) (ratio_to p top)
ratio_grows p l zero is low high = let e : 0 ≡ l = omega (arith, low) in subst (λ (n : ℕ). AtMost (ratio_to p n) (ratio_to p 0)) e (AtMost-refl (ratio_to p 0))
ratio_grows p l (suc t) is low high = elim (cases_eq l (suc t)) [
  | inl here ↦ subst (λ (n : ℕ). AtMost (ratio_to p n) (ratio_to p (suc t))) (sym here) (AtMost-refl (ratio_to p (suc t)))
  | inr below ↦
      let r = (ratio_at p t is (omega (arith, high))).low in
      let s = (step_is p is t).low in
      let one : AtMost (ratio_to p t) (ratio_to p (suc t)) = record { k = larger (ratio_to p t).k (step_of p t).k r.k s.k; j = larger (ratio_to p t).j (step_of p t).j r.j s.j; i = larger (ratio_to p t).i (step_of p t).i r.i s.i } in
      AtMost-trans (ratio_grows p l t is (omega (arith, low, below)) (omega (arith, high))) one
]

part_on : (t r : ℤ) → pos 1 ≤ℤ r → r ≤ℤ t → t ≤ℤ pos 256 → (pos 1 ≤ℤ floor t r) × (floor t r ≤ℤ pos 256)
part_on t r one low high =
    let e = mul_one r in
    (floor-from_mul t r (pos 1) (omega (arith, ints, one)) (omega (arith, ints, e, low)), floor_high t r (pos 256) (omega (arith, ints, one)) (omega (arith, ints)) high)

pub finest_ratio : (p : Fields) (l : ℕ) → IsProblem p → l < p.levels → IsRatio (to_finest p l)
finest_ratio p l is h =
    let top = ratio_at p (p.levels - 1) is (omega (arith, h)) in
    let r = ratio_at p l is h in
    let up = ratio_grows p l (p.levels - 1) is (omega (arith, h)) (omega (arith, h)) in
    let k = part_on (ratio_to p (p.levels - 1)).k (ratio_to p l).k r.low.k up.k top.high.k in
    let j = part_on (ratio_to p (p.levels - 1)).j (ratio_to p l).j r.low.j up.j top.high.j in
    let i = part_on (ratio_to p (p.levels - 1)).i (ratio_to p l).i r.low.i up.i top.high.i in
    record { low = record { k = k.0; j = j.0; i = i.0 }; high = record { k = k.1; j = j.1; i = i.1 } }

-- the finest cells of a cell of a frame are in range
fine_on : (n x q : ℤ) → n ≤ℤ pos 4194304 → pos 0 ≤ℤ x → x ≤ℤ (n -ℤ pos 1) → pos 1 ≤ℤ q → q ≤ℤ pos 256 → (pos 0 ≤ℤ (x *ℤ q)) × ((x *ℤ q) ≤ℤ pos 1073741568)
fine_on n x q small low high one most =
    let a = mul_le q (pos 0) x (omega (arith, ints, one)) low in
    let b = mul_le q x (pos 4194303) (omega (arith, ints, one)) (omega (arith, ints, high, small)) in
    let z = mul_le (pos 4194303) q (pos 256) (omega (arith, ints)) most in
    let c = mul_comm q (pos 4194303) in
    let d : (pos 256 *ℤ pos 4194303) ≡ pos 1073741568 = refl in
    let o = mul_zero q in
    (omega (arith, ints, a, o), omega (arith, ints, b, z, c, d))

pub cell_is_box : (p : Fields) (l : ℕ) (x : IVec) → IsProblem p → l < p.levels → Holds (whole (frame_at p l)) x → IsBox (one_cell x)
cell_is_box p l x is h home =
    let small = (domain p is l h).small in
    record {
      low = record { k = omega (arith, ints, home.low.k); j = omega (arith, ints, home.low.j); i = omega (arith, ints, home.low.i) };
      order = AtMost-refl x;
      high = record { k = omega (arith, ints, home.high.k, small.k); j = omega (arith, ints, home.high.j, small.j); i = omega (arith, ints, home.high.i, small.i) };
    }

pub fine_is_box : (p : Fields) (l : ℕ) (x q : IVec) → IsProblem p → l < p.levels → Holds (whole (frame_at p l)) x → IsRatio q → IsBox (refined (one_cell x) q)
fine_is_box p l x q is h home ratio =
    let small = (domain p is l h).small in
    let k = fine_on (frame_at p l).size.k x.k q.k small.k home.low.k home.high.k ratio.low.k ratio.high.k in
    let j = fine_on (frame_at p l).size.j x.j q.j small.j home.low.j home.high.j ratio.low.j ratio.high.j in
    let i = fine_on (frame_at p l).size.i x.i q.i small.i home.low.i home.high.i ratio.low.i ratio.high.i in
    record {
      low = record { k = omega (arith, ints, k.0); j = omega (arith, ints, j.0); i = omega (arith, ints, i.0) };
      order = record { k = omega (arith, ints, ratio.low.k); j = omega (arith, ints, ratio.low.j); i = omega (arith, ints, ratio.low.i) };
      high = record { k = omega (arith, ints, k.1, ratio.high.k); j = omega (arith, ints, j.1, ratio.high.j); i = omega (arith, ints, i.1, ratio.high.i) };
    }

pub quotient_fits : (p : Fields) (n l : ℕ) (t r : IVec) → IsProblem p → n + 1 ≡ p.levels → l < p.levels → t ≡ ratio_to p n → r ≡ ratio_to p l → IsRatio (coarse t r)
quotient_fits p n l t r is top h e f =
    let last : n ≡ p.levels - 1 = omega (arith, top) in
    let fits = finest_ratio p l is h in
    subst (λ (v : IVec). IsRatio (coarse v r)) (sym (e ∙ ap (ratio_to p) last)) (subst (λ (v : IVec). IsRatio (coarse (ratio_to p (p.levels - 1)) v)) (sym f) fits)
