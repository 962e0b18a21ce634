-- How often a cell stands in a list: in a strictly ascending list once where it is a member, and else never.
use Rattle.std.proofs.Common.{◌≡◌, ℕ, Bool, true, false, List, [], ◌∷◌, ◌++◌, refl, sym, ap, ◌∙◌, subst, inl, inr}
use Rattle.std.specs.Ordering.{is_eq}
use Rattle.std.specs.List.{flat_map}
use Rattle.std.specs.List.Sorted.{IsStrictlySortedBy}
use Rattle.std.proofs.lemmas.Cmp.{tied_itself}
use Rattle.std.specs.declared.cmp.Ordering.{Ordering}
use Rattle.std.specs.declared.cmp.Ordering.TheVariants.{Less, Equal}
use Rattle.samr_box.specs.declared.vector.IVec.{IVec}
use Rattle.samr_box.specs.Lists.{Member}
use Rattle.samr_box.specs.Orders.{cell_cmp}
use Rattle.samr_box.proofs.Ascending.{sorted-tail, sorted-head}
use Rattle.samr_box.proofs.Totals.{cell_total}
use Rattle.samr_box.specs.Vector.{AtMost}
use Rattle.samr_box.specs.Corners.{Corners, holds}
use Rattle.samr_box.proofs.CellSets.{Holds-test, holds-from}
use Rattle.samr_find.specs.Cells.{cells_in}
use Rattle.samr_find.proofs.CellLists.{cells_sorted, Member-cells, Holds-cells}
use Rattle.samr_find.specs.Buckets.{where_true}
use Rattle.samr_find.proofs.BucketChanges.{same_number}

-- the place, once for each time that a cell stands in a list
abbrev pub placed : IVec → ℕ → List IVec → List ℕ
placed q place cells = flat_map (λ c. where_true (is_eq (cell_cmp c q)) place) cells

less_not_equal : (o : Ordering) → o ≡ Less → is_eq o ≡ false
less_not_equal o e = cc

equal_eq : (o : Ordering) → o ≡ Equal → is_eq o ≡ true
equal_eq o e = cc

not_both : (o : Ordering) → o ≡ Equal → o ≡ Less → ⊥
not_both o e l = cc

placed-more : (q : IVec) (place : ℕ) (c : IVec) (cs : List IVec) (b : Bool) → is_eq (cell_cmp c q) ≡ b → placed q place (c ∷ cs) ≡ where_true b place ++ placed q place cs
placed-more q place c cs b e = ap (λ t. where_true t place ++ placed q place cs) e

pub placed-never : (q : IVec) (place : ℕ) (cells : List IVec) → (Member q cells → ⊥) → placed q place cells ≡ []
placed-never q place [] none = refl
placed-never q place (c ∷ cs) none = by (is_eq (cell_cmp c q)) refl (placed-never q place cs (λ m. none (inr m)))
  where
    by : (b : Bool) → is_eq (cell_cmp c q) ≡ b → placed q place cs ≡ [] → placed q place (c ∷ cs) ≡ []
    by true e rest = absurd (none (inl (sym (same_number c q e))))
    by false e rest = placed-more q place c cs false e ∙ rest

pub placed-once : (q : IVec) (place : ℕ) (cells : List IVec) → IsStrictlySortedBy cell_cmp cells → Member q cells → placed q place cells ≡ place ∷ []
placed-once q place [] sorted m = absurd m
placed-once q place (c ∷ cs) sorted (inl here) =
    let tied : cell_cmp c q ≡ Equal = subst (λ x. cell_cmp c x ≡ Equal) (sym here) (tied_itself cell_total c) in
    let later : placed q place cs ≡ [] = placed-never q place cs (λ m. not_both (cell_cmp c q) tied (sorted-head cell_cmp c cs sorted q m)) in
    placed-more q place c cs true (equal_eq (cell_cmp c q) tied) ∙ ap (λ xs. place ∷ xs) later
placed-once q place (c ∷ cs) sorted (inr later) =
    placed-more q place c cs false (less_not_equal (cell_cmp c q) (sorted-head cell_cmp c cs sorted q later))
    ∙ placed-once q place cs (sorted-tail cell_cmp c cs sorted) later

-- the place where a box has the cell
pub placed-cells : (b : Corners) (q : IVec) (place : ℕ) → AtMost b.lo b.hi → placed q place (cells_in b) ≡ where_true (holds b q) place
placed-cells b q place order = by (holds b q) refl
  where
    by : (t : Bool) → holds b q ≡ t → placed q place (cells_in b) ≡ where_true t place
    by true e = placed-once q place (cells_in b) (cells_sorted b) (Member-cells b q (Holds-test e))
    by false e = placed-never q place (cells_in b) (λ m. let t = holds-from (Holds-cells b q order m) in cc)
