-- What the buckets have after a place was added to one of them.
use Rattle.std.proofs.Common.{◌≡◌, ◌++◌, ℕ, Bool, true, false, cond, List, [], ◌∷◌, Some, refl, sym, ap, ◌∙◌, subst, append-nil}
use Rattle.std.specs.Option.{option_map_or}
use Rattle.std.specs.Ordering.{is_eq}
use Rattle.std.specs.BTreeMap.{BTreeMap, get, is_at}
use Rattle.std.specs.declared.cmp.Ordering.{Ordering}
use Rattle.std.specs.declared.cmp.Ordering.TheVariants.{Less, Equal, Greater}
use Rattle.samr_box.specs.declared.vector.IVec.{IVec}
use Rattle.samr_box.specs.Orders.{cell_cmp}
use Rattle.samr_box.proofs.Totals.{same_from_cell_cmp}
use Rattle.samr_find.specs.Buckets.{places_at, where_true}

equal_is : (o : Ordering) → is_eq o ≡ true → o ≡ Equal
equal_is Less e = cc
equal_is Equal e = refl
equal_is Greater e = cc

pub same_number : (k q : IVec) → is_eq (cell_cmp k q) ≡ true → k ≡ q
same_number k q e = same_from_cell_cmp k q (equal_is (cell_cmp k q) e)

module _ {V : Type 0} (items : V → List ℕ) where
  pub added : (old mid new : BTreeMap IVec V) (k : IVec) (v : V) (place : ℕ) → items v ≡ places_at items old k ++ place ∷ []
      → ((q : IVec) → is_eq (cell_cmp k q) ≡ false → places_at items mid q ≡ places_at items old q)
      → ((q : IVec) → get cell_cmp new q ≡ cond (is_at (cell_cmp k) q) (Some v) (get cell_cmp mid q))
      → (q : IVec) → places_at items new q ≡ places_at items old q ++ where_true (is_eq (cell_cmp k q)) place
  added old mid new k v place here others updates q =
      ap (λ o. option_map_or items o []) (updates q) ∙ by (is_eq (cell_cmp k q)) refl
    where
      by : (b : Bool) → is_eq (cell_cmp k q) ≡ b → option_map_or items (cond (is_eq (cell_cmp k q)) (Some v) (get cell_cmp mid q)) [] ≡ places_at items old q ++ where_true (is_eq (cell_cmp k q)) place
      by true e =
          let same = same_number k q e in
          rw e (subst (λ c. items v ≡ places_at items old c ++ place ∷ []) same here)
      by false e = rw e (others q e ∙ sym (append-nil (places_at items old q)))
