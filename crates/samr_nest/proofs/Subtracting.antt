-- The cells of a list without those of other boxes.
use Rattle.std.proofs.Common.{◌≡◌, ℕ, ◌<◌, refl, sym, ap, ◌∙◌, subst, inl, inr, arith}
use Rattle.std.specs.Prelude.{Bool, true, false, cond, List, [], ◌∷◌, map, Option, Some, None, ◌↔◌, IsTrue}
use Rattle.std.specs.List.{filter_map}
use Rattle.samr_box.specs.declared.vector.IVec.{IVec}
use Rattle.samr_box.specs.Vector.{alike, AtMost, Within}
use Rattle.samr_box.specs.Corners.{Corners, Holds, holds, met, common, meets, grown}
use Rattle.samr_box.specs.Lists.{Member}
use Rattle.samr_box.proofs.CellSets.{Holds-grown, Holds-common, meets-from, Meet-cell}
use Rattle.samr_box.proofs.Members.{Member-filter_map, Member-from_filter_map, Member-map, Member-from_map}
use Rattle.samr_boxlist.specs.Covers.{cover, held}
use Rattle.samr_boxlist.specs.Slabs.{subtracted, all_subtracted}
use Rattle.samr_boxlist.proofs.Covering.{held-cover, cover-held}
use Rattle.samr_boxlist.proofs.Cutting.{cover-subtracted, cond_twice}
use Rattle.samr_level.proofs.Domains.{held-from, member-held}
use Rattle.samr_nest.proofs.NearParts.{AllFull}
use Rattle.std.specs.Prelude.{pos}

pub cover-all_subtracted : (x : IVec) (bs list : List Corners) → AllFull bs → cover x (all_subtracted list bs) ≡ cond (held x bs) 0 (cover x list)
cover-all_subtracted x [] list full = refl
cover-all_subtracted x (b ∷ bs) list full =
    cover-all_subtracted x bs (subtracted list b) (λ c m. full c (inr m))
    ∙ ap (λ (n : ℕ). cond (held x bs) 0 n) (cover-subtracted x list b (λ a m. full b (inl refl)))
    ∙ cond_twice (held x bs) (holds b x) (cover x list)

-- what is left has a cell exactly where the list has it and no box that was taken away does
pub held-all_subtracted : (x : IVec) (bs list : List Corners) → AllFull bs
    → IsTrue (held x (all_subtracted list bs)) ↔ ((held x list ≡ true) × (held x bs ≡ false))
held-all_subtracted x bs list full =
    let e = cover-all_subtracted x bs list full in (
      λ t. by_test (held x bs) refl e (held-cover x (all_subtracted list bs) t),
      λ h.
          let some = held-cover x list h.0 in
          let c : cover x (all_subtracted list bs) ≡ cover x list = e ∙ ap (λ (t : Bool). cond t 0 (cover x list)) h.1 in
          cover-held x (all_subtracted list bs) (omega (arith, c, some)),
    )
  where
    by_test : (t : Bool) → held x bs ≡ t → cover x (all_subtracted list bs) ≡ cond (held x bs) 0 (cover x list) → 0 < cover x (all_subtracted list bs)
        → (held x list ≡ true) × (held x bs ≡ false)
    by_test true b e some =
        let c : cover x (all_subtracted list bs) ≡ 0 = e ∙ ap (λ (t : Bool). cond t 0 (cover x list)) b in
        absurd (omega (arith, c, some))
    by_test false b e some =
        let c : cover x (all_subtracted list bs) ≡ cover x list = e ∙ ap (λ (t : Bool). cond t 0 (cover x list)) b in
        (cover-held x list (omega (arith, c, some)), b)

-- a cell of grown boxes is one within the width of a cell of a box
pub held-grown : (w x : IVec) (list : List Corners) → AllFull list → AtMost (alike (pos 0)) w
    → IsTrue (held x (map (λ m. grown m w) list)) ↔ ((y : IVec) × (held y list ≡ true) × Within w y x)
held-grown w x list full wide = (
  λ t.
      let r = member-held x (map (λ m. grown m w) list) t in
      let o = Member-from_map (λ m. grown m w) r.0 list r.1 in
      let h : Holds (grown o.0 w) x = subst (λ (v : Corners). Holds v x) o.2 r.2 in
      let n = (Holds-grown o.0 w (full o.0 o.1) wide x).0 h in
      (n.0, held-from n.0 o.0 list o.1 n.1, n.2),
  λ (y, t, near).
      let r = member-held y list t in
      held-from x (grown r.0 w) (map (λ m. grown m w) list) (Member-map (λ m. grown m w) r.0 list r.1)
      ((Holds-grown r.0 w (full r.0 r.1) wide x).1 (y, r.2, near)),
)

-- a member of the common parts, and its cells
met_is : (a b c : Corners) → met a b ≡ Some c → (meets a b ≡ true) × (c ≡ common a b)
met_is a b c = by_test (meets a b)
  where
    by_test : (t : Bool) → cond t (Some (common a b)) None ≡ Some c → (t ≡ true) × (c ≡ common a b)
    by_test true e = (refl, sym (inside e))
      where
        inside : Some (common a b) ≡ Some c → common a b ≡ c
        inside e = cc
    by_test false e = absurd (differ e)
      where
        differ : (let n : Option Corners = None in n) ≡ Some c → ⊥
        differ e = cc

pub met_some : (a b : Corners) (x : IVec) → Holds a x → Holds b x → met a b ≡ Some (common a b)
met_some a b x p q =
    ap (λ (t : Bool). cond t (Some (common a b)) None) (meets-from {a = a} {b = b} (Meet-cell {a = a} {b = b} {x = x} p q))

module _ {X : Type 0} (f : X → Corners) (b : Corners) where
  pub common_member : (c : Corners) (xs : List X) → Member c (filter_map (λ v. met (f v) b) xs)
      → (v : X) × Member v xs × (meets (f v) b ≡ true) × (c ≡ common (f v) b)
  common_member c xs m =
      let r = Member-from_filter_map (λ v. met (f v) b) c xs m in
      let h = met_is (f r.0) b c r.2 in
      (r.0, r.1, h.0, h.1)

  pub held-commons : (x : IVec) (xs : List X)
      → IsTrue (held x (filter_map (λ v. met (f v) b) xs)) ↔ (((v : X) × Member v xs × Holds (f v) x) × Holds b x)
  held-commons x xs = (
    λ t.
        let r = member-held x (filter_map (λ v. met (f v) b) xs) t in
        let o = common_member r.0 xs r.1 in
        let h : Holds (common (f o.0) b) x = subst (λ (v : Corners). Holds v x) o.3 r.2 in
        let both = (Holds-common (f o.0) b x).0 h in
        ((o.0, o.1, both.0), both.1),
    λ ((v, m, p), q).
        held-from x (common (f v) b) (filter_map (λ v. met (f v) b) xs)
        (Member-filter_map (λ v. met (f v) b) (common (f v) b) v xs m (met_some (f v) b x p q))
        ((Holds-common (f v) b x).1 (p, q)),
  )
