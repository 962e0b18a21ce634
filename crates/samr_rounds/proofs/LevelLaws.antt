-- The clusters with their owners make a level.
use Rattle.std.proofs.Common.{◌≡◌, ℕ, ◌<◌, ◌≤◌, Bool, true, List, [], ◌∷◌, refl, sym, ap, subst, ◌∙◌, inl, inr, arith}
use Rattle.std.specs.Prelude.{map, ◌↔◌}
use Rattle.std.specs.List.Sorted.{IsStrictlySortedBy}
use Rattle.samr_box.specs.declared.vector.IVec.{IVec}
use Rattle.samr_box.specs.Vector.{AtMost}
use Rattle.samr_box.specs.Corners.{Corners, Holds, holds, Meet}
use Rattle.samr_box.specs.Lists.{Member}
use Rattle.samr_box.proofs.CellSets.{holds-from, meets-from, meets-means}
use Rattle.samr_box.proofs.Members.{Member-map, Member-from_map}
use Rattle.samr_boxlist.specs.Covers.{cover, held, IsDisjoint}
use Rattle.samr_boxlist.proofs.Covering.{held-cover, cover-held}
use Rattle.samr_boxlist.proofs.Disjointness.{twice, cover-tail}
use Rattle.samr_level.specs.Refs.{Owned}
use Rattle.samr_level.specs.RefOrders.{ref_cmp}
use Rattle.samr_level.specs.Levels.{IsLevel}
use Rattle.samr_level.specs.Regions.{Area, IsCellOf}
use Rattle.samr_level.proofs.RefLaws.{ref_total, same_owned, same_from_ref_cmp}
use Rattle.samr_level.proofs.Sorting.{Member-from_in_order, Member-in_order, sorted-in_order}
use Rattle.samr_sign.specs.declared.rule.CutRule.{CutRule}
use Rattle.samr_rounds.specs.Clusters.{clusters}
use Rattle.samr_rounds.specs.Owners.{owner_of, cluster_level}
use Rattle.samr_rounds.specs.Laws.{AreNodes}
use Rattle.samr_rounds.proofs.Lists.{any_member}
use Rattle.samr_rounds.proofs.Covering.{clusters_apart, cluster_is}
use Rattle.samr_rounds.proofs.OwnerLaws.{owner_most}

abbrev owned : (IVec → Bool) → List Owned → ℕ → Corners → Owned
owned t level ranks b = record { owner = owner_of t level ranks b; bx = b }

from_level : (t : IVec → Bool) (rule : CutRule) (roots : List Corners) (level : List Owned) (ranks : ℕ) (o : Owned) → Member o (cluster_level t rule roots level ranks) → Member o.bx (clusters t rule roots) × (o.owner ≡ owner_of t level ranks o.bx)
unfolding cluster_level
from_level t rule roots level ranks o m =
    let r = Member-from_map (owned t level ranks) o (clusters t rule roots) (Member-from_in_order ref_total o (map (owned t level ranks) (clusters t rule roots)) m) in
    let same : o.bx ≡ r.0 = ap (λ (v : Owned). v.bx) r.2 in
    (subst (λ v. Member v (clusters t rule roots)) (sym same) r.1, ap (λ (v : Owned). v.owner) r.2 ∙ ap (owner_of t level ranks) (sym same))

to_level : (t : IVec → Bool) (rule : CutRule) (roots : List Corners) (level : List Owned) (ranks : ℕ) (o : Owned) → Member o.bx (clusters t rule roots) → o.owner ≡ owner_of t level ranks o.bx → Member o (cluster_level t rule roots level ranks)
unfolding cluster_level
to_level t rule roots level ranks o m e =
    let same : owned t level ranks o.bx ≡ o = same_owned {a = owned t level ranks o.bx} {b = o} (sym e) refl in
    Member-in_order ref_total same_from_ref_cmp o (map (owned t level ranks) (clusters t rule roots))
    (subst (λ v. Member v (map (owned t level ranks) (clusters t rule roots))) same (Member-map (owned t level ranks) o.bx (clusters t rule roots) m))

pub level_has : (t : IVec → Bool) (rule : CutRule) (roots : List Corners) (level : List Owned) (ranks : ℕ) (o : Owned) → Member o (cluster_level t rule roots level ranks) ↔ (Member o.bx (clusters t rule roots) × (o.owner ≡ owner_of t level ranks o.bx))
level_has t rule roots level ranks o = (λ m. from_level t rule roots level ranks o m, λ s. to_level t rule roots level ranks o s.0 s.1)

-- two members with a common cell are one
one_member : (x : IVec) (a b : Corners) (list : List Corners) → cover x list ≤ 1 → Member a list → Member b list → holds a x ≡ true → holds b x ≡ true → a ≡ b
one_member x a b [] few m n p q = absurd m
one_member x a b (c ∷ list) few (inl e) (inl f) p q = e ∙ sym f
one_member x a b (c ∷ list) few (inl e) (inr n) p q =
    absurd (omega (arith, few, twice x c list (ap (λ v. holds v x) (sym e) ∙ p) (any_member (λ v. holds v x) b list n q)))
one_member x a b (c ∷ list) few (inr m) (inl f) p q =
    absurd (omega (arith, few, twice x c list (ap (λ v. holds v x) (sym f) ∙ q) (any_member (λ v. holds v x) a list m p)))
one_member x a b (c ∷ list) few (inr m) (inr n) p q = one_member x a b list (omega (arith, few, cover-tail x c list)) m n p q

common_cell : (a b : Corners) → AtMost a.lo a.hi → AtMost b.lo b.hi → Meet a b → (x : IVec) × Holds a x × Holds b x
common_cell a b p q m = (meets-means a b p q).0 (meets-from {a = a} {b = b} m)

sorted_level : (t : IVec → Bool) (rule : CutRule) (roots : List Corners) (level : List Owned) (ranks : ℕ) → IsStrictlySortedBy ref_cmp (cluster_level t rule roots level ranks)
unfolding cluster_level
sorted_level t rule roots level ranks = sorted-in_order ref_total (map (owned t level ranks) (clusters t rule roots))

pub level_is : (area : Area) (t : IVec → Bool) (rule : CutRule) (roots : List Corners) (level : List Owned) (ranks : ℕ) → 0 < ranks → AreNodes roots → IsDisjoint roots → ((x : IVec) → held x roots ≡ true → IsCellOf area x)
    → IsLevel area ranks (cluster_level t rule roots level ranks)
level_is area t rule roots level ranks some nodes apart inside =
    let from : (o : Owned) → Member o (cluster_level t rule roots level ranks) → Member o.bx (clusters t rule roots) × (o.owner ≡ owner_of t level ranks o.bx) = λ o m. from_level t rule roots level ranks o m in
    let order : (o : Owned) → Member o (cluster_level t rule roots level ranks) → AtMost o.bx.lo o.bx.hi = λ o m. (cluster_is t rule roots o.bx nodes (from o m).0).0.whole.order in
    record {
      in_order = sorted_level t rule roots level ranks;
      not_empty = order;
      inside = λ o x m h.
          let here = held-cover x (clusters t rule roots) (any_member (λ v. holds v x) o.bx (clusters t rule roots) (from o m).0 (holds-from h)) in
          let most = clusters_apart t rule roots x nodes in
          inside x (cover-held x roots (omega (arith, here, most)));
      disjoint = λ a b m n meet.
          let cell = common_cell a.bx b.bx (order a m) (order b n) meet in
          let most = clusters_apart t rule roots cell.0 nodes in
          let few = apart cell.0 in
          let same : a.bx ≡ b.bx = one_member cell.0 a.bx b.bx (clusters t rule roots) (omega (arith, most, few)) (from a m).0 (from b n).0 (holds-from cell.1) (holds-from cell.2) in
          same_owned {a = a} {b = b} ((from a m).1 ∙ ap (owner_of t level ranks) same ∙ sym (from b n).1) same;
      owners = λ o m. let is = (owner_most t level ranks o.bx 0 some).0 in let e = (from o m).1 in omega (arith, is, e);
    }
