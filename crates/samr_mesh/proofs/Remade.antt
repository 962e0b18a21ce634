-- A regrid leaves level 0 as it is, and each new level lies over the old level below it.
use Rattle.std.proofs.Common.{◌≡◌, ℕ, zero, suc, ◌+◌, ◌-◌, ◌<◌, List, [], ◌∷◌, length, take, get_or, refl, sym, subst, arith}
use Rattle.std.proofs.lemmas.Int.{ints}
use Rattle.samr_box.specs.declared.vector.IVec.{IVec}
use Rattle.samr_box.specs.Vector.{Within}
use Rattle.samr_box.specs.Ratios.{coarse}
use Rattle.samr_border.proofs.TurnLaws.{wrapped_stays}
use Rattle.samr_level.specs.Refs.{Owned}
use Rattle.samr_level.specs.Regions.{IsCellOf}
use Rattle.samr_level.specs.Levels.{IsLevel, IsCellIn}
use Rattle.samr_nest.proofs.StayLaws.{cell_of_frame}
use Rattle.samr_problem.specs.Fields.{Fields}
use Rattle.samr_problem.specs.Problems.{IsProblem}
use Rattle.samr_mesh.specs.Domains.{step_of, area_at}
use Rattle.samr_mesh.specs.Meshes.{level_at, stacked, lowest, with_base, renewed_over, regridded}
use Rattle.samr_mesh.specs.Passes.{Pass, new_level}
use Rattle.samr_mesh.specs.Soundness.{CanRun, IsMesh, IsRemade, RegridsLieOver}
use Rattle.samr_mesh.proofs.Grounding.{can_pass}
use Rattle.samr_mesh.proofs.Meshing.{length-taken}
use Rattle.samr_mesh.proofs.Passing.{passed}

base_kept : (levels news : List (List Owned)) → level_at (with_base levels news) 0 ≡ level_at levels 0
base_kept [] news = refl
base_kept (base ∷ finer) news = refl

-- a cell of a stacked level is one of it, or of those above
stacked_first : (new : List Owned) (above : List (List Owned)) (x : IVec) → IsCellIn (get_or (stacked new above) 0 []) x → IsCellIn new x
stacked_first [] above x c = absurd c.1
stacked_first (b ∷ bs) above x c = c

stacked_later : (new : List Owned) (above : List (List Owned)) (k : ℕ) (x : IVec) → IsCellIn (get_or (stacked new above) (suc k) []) x → IsCellIn (get_or above k []) x
stacked_later [] above k x c = absurd c.1
stacked_later (b ∷ bs) above k x c = c

-- a level of the first of some levels is one of all of them
taken_at : (n : ℕ) (levels : List (List Owned)) (k : ℕ) (x : IVec) → IsCellIn (get_or (take n levels) k []) x → IsCellIn (get_or levels k []) x
taken_at zero levels k x c = absurd c.1
taken_at (suc n) [] k x c = c
taken_at (suc n) (level ∷ levels) zero x c = c
taken_at (suc n) (level ∷ levels) (suc k) x c = taken_at n levels k x c

taken_same : (n : ℕ) (levels : List (List Owned)) (k : ℕ) → k < length (take n levels) → (k < length levels) × (get_or (take n levels) k [] ≡ get_or levels k [])
taken_same zero levels k less = absurd (omega (arith, less))
taken_same (suc n) [] k less = absurd (omega (arith, less))
taken_same (suc n) (level ∷ levels) zero less = (omega arith, refl)
taken_same (suc n) (level ∷ levels) (suc k) less =
    let r = taken_same n levels k (omega (arith, less)) in let h = r.0 in (omega (arith, h), r.1)

module _ (p : Fields) (ranks step : ℕ) (is : IsProblem p) (some : 0 < ranks) where
  -- the cells of what a pass makes lie over the level
  pass_over : (w : Pass) → CanRun p w → (x : IVec) → IsCellIn (new_level p w) x → IsCellIn w.level (coarse x (step_of p w.number))
  pass_over w run x c =
      let deep = ((passed p w run).cells x).0 c in
      let y = coarse x (step_of p w.number) in
      let area = run.can.here.is_area in
      let stays = wrapped_stays (area_at p w.number).frame y area.frame (cell_of_frame (area_at p w.number) y area deep.1.in_domain) in
      let low = run.can.nest in
      let here : Within p.nest y y = record {
        low = record { k = omega (arith, ints, low.k); j = omega (arith, ints, low.j); i = omega (arith, ints, low.i) };
        high = record { k = omega (arith, ints, low.k); j = omega (arith, ints, low.j); i = omega (arith, ints, low.i) };
      } in
      subst (λ (v : IVec). IsCellIn w.level v) stays (deep.1.in_level y here (subst (λ (v : IVec). IsCellOf (area_at p w.number) v) (sym stays) deep.1.in_domain))

  renewed_over_at : (levels : List (List Owned)) (l : ℕ) → l + length levels < p.levels → ((k : ℕ) → k < length levels → IsLevel (area_at p (l + k)) ranks (get_or levels k []))
      → (k : ℕ) (x : IVec) → IsCellIn (get_or (renewed_over p ranks step l levels) k []) x → IsCellIn (get_or levels k []) (coarse x (step_of p (l + k)))
  unfolding renewed_over
  renewed_over_at [] l room all k x c = absurd c.1
  renewed_over_at (level ∷ finer) l room all zero x c =
      let above = renewed_over p ranks step (suc l) finer in
      let w : Pass = record { ranks = ranks; step = step; number = l; level = level; above = lowest above } in
      let e : l + 0 ≡ l = omega arith in
      let run : CanRun p w = record {
        can = can_pass p is l (omega (arith, room));
        some = some;
        is_level = subst (λ (n : ℕ). IsLevel (area_at p n) ranks level) e (all 0 (omega arith));
      } in
      subst (λ (n : ℕ). IsCellIn level (coarse x (step_of p n))) (sym e) (pass_over w run x (stacked_first (new_level p w) above x c))
  renewed_over_at (level ∷ finer) l room all (suc k) x c =
      let above = renewed_over p ranks step (suc l) finer in
      let w : Pass = record { ranks = ranks; step = step; number = l; level = level; above = lowest above } in
      let e : suc l + k ≡ l + suc k = omega arith in
      subst (λ (n : ℕ). IsCellIn (get_or finer k []) (coarse x (step_of p n))) e
      (renewed_over_at finer (suc l) (omega (arith, room))
      (λ i less.
      let d : l + suc i ≡ suc l + i = omega arith in
      subst (λ (n : ℕ). IsLevel (area_at p n) ranks (get_or finer i [])) d (all (suc i) (omega (arith, less))))
      k x (stacked_later (new_level p w) above k x c))

  remade : (levels : List (List Owned)) → IsMesh p ranks levels → IsRemade p levels (regridded p ranks step levels)
  unfolding regridded
  remade levels mesh = record {
    same = base_kept levels (renewed_over p ranks step 0 (take (p.levels - 1) levels));
    over = λ l x less c. by levels mesh l x c;
  }
    where
      by : (levels : List (List Owned)) → IsMesh p ranks levels → (l : ℕ) (x : IVec)
          → IsCellIn (level_at (with_base levels (renewed_over p ranks step 0 (take (p.levels - 1) levels))) (suc l)) x → IsCellIn (level_at levels l) (coarse x (step_of p l))
      by [] mesh l x c = absurd c.1
      by (base ∷ finer) mesh l x c =
          let some = mesh.some in
          let most = mesh.few in
          let few = length-taken (p.levels - 1) (base ∷ finer) in
          let e : 0 + l ≡ l = omega arith in
          taken_at (p.levels - 1) (base ∷ finer) l (coarse x (step_of p l))
          (subst (λ (n : ℕ). IsCellIn (get_or (take (p.levels - 1) (base ∷ finer)) l []) (coarse x (step_of p n))) e
          (renewed_over_at (take (p.levels - 1) (base ∷ finer)) 0 (omega (arith, few, most, some))
          (λ k less.
          let r = taken_same (p.levels - 1) (base ∷ finer) k less in
          let d : k ≡ 0 + k = omega arith in
          subst (λ (n : ℕ). IsLevel (area_at p n) ranks (get_or (take (p.levels - 1) (base ∷ finer)) k [])) d
          (subst (λ (v : List Owned). IsLevel (area_at p k) ranks v) (sym r.1) (mesh.level k r.0)))
          l x c))

pub regrids_lie_over : RegridsLieOver
regrids_lie_over p ranks step levels is some mesh = remade p ranks step is some levels mesh
