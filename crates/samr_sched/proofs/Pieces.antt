-- The pieces of a plan lie in the grown box, and no cell lies in two of them.
use Rattle.std.proofs.Common.{◌≡◌, ℕ, ◌≤◌, refl, ap, inl, inr, arith}
use Rattle.std.specs.Prelude.{Bool, true, false, cond, List, [], ◌∷◌, Option, Some, None, IsSomeAnd}
use Rattle.std.specs.List.{filter_map, cons_option}
use Rattle.samr_box.specs.declared.vector.IVec.{IVec}
use Rattle.samr_box.specs.Corners.{Corners, Holds, holds, met}
use Rattle.samr_box.specs.Space.{wrapped}
use Rattle.samr_box.specs.Lists.{Member}
use Rattle.samr_box.proofs.CellSets.{holds-from, Holds-test, met-cells}
use Rattle.samr_boxlist.specs.Covers.{cover, held}
use Rattle.samr_boxlist.proofs.Covering.{one, cover-cons}
use Rattle.samr_boxlist.proofs.Disjointness.{none_meet-from, IsDisjoint-from}
use Rattle.samr_level.specs.Refs.{Owned}
use Rattle.samr_level.specs.Regions.{Area, IsArea, boxes_of}
use Rattle.samr_level.specs.Levels.{IsLevel}
use Rattle.samr_level.proofs.Level0Laws.{boxes-apart}
use Rattle.samr_nest.specs.Starts.{stretched, needed}
use Rattle.samr_nest.specs.Nested.{images, holes, IsPlain}
use Rattle.samr_nest.proofs.StartLaws.{has_stretched, boxes_span}
use Rattle.samr_nest.proofs.Subtracting.{cover-all_subtracted}
use Rattle.samr_nest.proofs.NestedBy.{images_full}

-- a cell lies in as many common parts as another in the boxes, or fewer
cover_met : (x y : IVec) (f : Corners → Corners) (g : Corners) (ps : List Corners) → ((p : Corners) → Member p ps → Holds (f p) x → Holds p y)
    → cover x (filter_map (λ p. met (f p) g) ps) ≤ cover y ps
cover_met x y f g [] there = omega arith
cover_met x y f g (p ∷ ps) there =
    by_part (met (f p) g) (λ s. there p (inl refl) ((met-cells (f p) g x).0 s).0)
    (filter_map (λ q. met (f q) g) ps) (cover_met x y f g ps (λ q m. there q (inr m)))
  where
    by_test : (t : Bool) (c : Corners) (rest : List Corners) → holds c x ≡ t → (Holds c x → Holds p y) → cover x rest ≤ cover y ps → cover x (c ∷ rest) ≤ cover y (p ∷ ps)
    by_test true c rest e moves less =
        let here = ap one (holds-from {b = p} {x = y} (moves (Holds-test {b = c} {x = x} e))) in
        let this = ap one e in
        omega (arith, cover-cons x c rest, cover-cons y p ps, here, this, less)
    by_test false c rest e moves less =
        let this = ap one e in
        omega (arith, cover-cons x c rest, cover-cons y p ps, this, less)

    by_part : (o : Option Corners) → (IsSomeAnd o (λ c. Holds c x) → Holds p y) → (rest : List Corners) → cover x rest ≤ cover y ps
        → cover x (cons_option o rest) ≤ cover y (p ∷ ps)
    by_part None moves rest less = omega (arith, cover-cons y p ps, less)
    by_part (Some c) moves rest less = by_test (holds c x) c rest refl moves less

module _ (a : Area) (area : IsArea a) (plain : IsPlain a) (g : Corners) (x : IVec) where
  pub needed_once : cover x (needed a g) ≤ 1
  needed_once =
      let few = IsDisjoint-from (boxes_of a) (none_meet-from (boxes_of a) (boxes-apart a area)) (wrapped a.frame x) in
      let less = cover_met x (wrapped a.frame x) (λ p. stretched a.frame g p) g (boxes_of a)
      (λ p m h. has_stretched a.frame g p x area.frame (boxes_span a p plain m) h) in
      omega (arith, few, less)

  pub holes_once : (ranks : ℕ) (level : List Owned) → IsLevel a ranks level → cover x (holes a level g) ≤ 1
  holes_once ranks level is =
      by_test (held x (images a level)) (cover-all_subtracted x (images a level) (needed a g) (images_full a level is.not_empty)) needed_once
    where
      by_test : (t : Bool) {n m : ℕ} → n ≡ cond t 0 m → m ≤ 1 → n ≤ 1
      by_test true e less = omega (arith, e)
      by_test false e less = omega (arith, e, less)
