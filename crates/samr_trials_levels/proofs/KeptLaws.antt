-- Some of the boxes of a level are a level.
use Rattle.std.proofs.Common.{◌≡◌, ℕ, ◌<◌, ◌+◌, ◌++◌, refl, sym, ap, ◌∙◌, subst, inl, inr, length, get_or, drop}
use Rattle.std.proofs.lemmas.List.{drop_more}
use Rattle.std.specs.Prelude.{◌/◌, ◌%◌, nat_eq, Bool, true, false, List, [], ◌∷◌}
use Rattle.std.specs.List.{All}
use Rattle.std.specs.List.Sorted.{IsStrictlySortedBy}
use Rattle.std.specs.declared.cmp.Ordering.TheVariants.{Less}
use Rattle.samr_box.specs.Lists.{Member}
use Rattle.samr_box.proofs.Ascending.{sorted-nil, sorted-cons, sorted-head, sorted-tail, sorted-append}
use Rattle.samr_box.proofs.Members.{Member-from_append, All-from_members, member_of_All}
use Rattle.samr_level.specs.Refs.{Owned}
use Rattle.samr_level.specs.RefOrders.{ref_cmp}
use Rattle.samr_level.specs.Regions.{Area}
use Rattle.samr_level.specs.Levels.{IsLevel}
use Rattle.samr_trials_levels.specs.Kept.{kept, one_where}

one_of : (test : Bool) (x b : Owned) → Member b (one_where test x) → b ≡ x
one_of true x b (inl e) = e
one_of true x b (inr m) = absurd m
one_of false x b m = absurd m

pub Member-from_kept : (mask : ℕ) (level : List Owned) (b : Owned) → Member b (kept mask level) → Member b level
Member-from_kept mask [] b m = m
Member-from_kept mask (x ∷ level) b m =
    elim (Member-from_append b (one_where (nat_eq (mask % 2) 1) x) (kept (mask / 2) level) m) [
      | inl p ↦ inl (one_of (nat_eq (mask % 2) 1) x b p)
      | inr q ↦ inr (Member-from_kept (mask / 2) level b q)
    ]

one_sorted : (test : Bool) (x : Owned) → IsStrictlySortedBy ref_cmp (one_where test x)
one_sorted true x = sorted-cons ref_cmp x [] (λ y m. absurd m) (sorted-nil ref_cmp)
one_sorted false x = sorted-nil ref_cmp

sorted-kept : (mask : ℕ) (level : List Owned) → IsStrictlySortedBy ref_cmp level → IsStrictlySortedBy ref_cmp (kept mask level)
sorted-kept mask [] s = s
sorted-kept mask (x ∷ level) s =
    sorted-append ref_cmp (one_where (nat_eq (mask % 2) 1) x) (kept (mask / 2) level) (one_sorted (nat_eq (mask % 2) 1) x)
    (sorted-kept (mask / 2) level (sorted-tail ref_cmp x level s))
    (λ a c m n.
    subst (λ (v : Owned). ref_cmp v c ≡ Less) (sym (one_of (nat_eq (mask % 2) 1) x a m))
    (sorted-head ref_cmp x level s c (Member-from_kept (mask / 2) level c n)))

pub IsLevel-kept : (area : Area) (ranks mask : ℕ) (level : List Owned) → IsLevel area ranks level → IsLevel area ranks (kept mask level)
IsLevel-kept area ranks mask level h = record {
  in_order = sorted-kept mask level h.in_order;
  not_empty = λ b m. h.not_empty b (Member-from_kept mask level b m);
  inside = λ b x m has. h.inside b x (Member-from_kept mask level b m) has;
  disjoint = λ a b m n meet. h.disjoint a b (Member-from_kept mask level a m) (Member-from_kept mask level b n) meet;
  owners = λ b m. h.owners b (Member-from_kept mask level b m);
}

pub All-kept : (P : Owned → Type 0) (mask : ℕ) (level : List Owned) → All P level → All P (kept mask level)
All-kept P mask level h = All-from_members P (kept mask level) (λ b m. member_of_All P b level h (Member-from_kept mask level b m))

-- the step of the loop that keeps boxes
pub keeps_on : (mask rest : ℕ) (level : List Owned) (i : ℕ) (x y : Owned) (old new : List Owned) (test : Bool) (next : ℕ) → i < length level → y ≡ get_or level i y → x ≡ y
    → test ≡ nat_eq (rest % 2) 1 → next ≡ rest / 2 → new ≡ old ++ one_where test x
    → old ++ kept rest (drop i level) ≡ kept mask level → new ++ kept next (drop (i + 1) level) ≡ kept mask level
keeps_on mask rest level i x y old new test next below is same t n after before =
    let split : kept rest (drop i level) ≡ one_where test x ++ kept next (drop (i + 1) level) =
    ap (kept rest) (drop_more level i y below ∙ ap (λ (v : Owned). v ∷ drop (i + 1) level) (sym is ∙ sym same))
    ∙ ap (λ (b : Bool). one_where b x ++ kept (rest / 2) (drop (i + 1) level)) (sym t)
    ∙ ap (λ (k : ℕ). one_where test x ++ kept k (drop (i + 1) level)) (sym n) in
    ap (λ (l : List Owned). l ++ kept next (drop (i + 1) level)) after
    ∙ append_assoc old (one_where test x) (kept next (drop (i + 1) level))
    ∙ ap (λ (l : List Owned). old ++ l) (sym split)
    ∙ before
  where
    append_assoc : (a b c : List Owned) → (a ++ b) ++ c ≡ a ++ (b ++ c)
    append_assoc [] b c = refl
    append_assoc (x ∷ a) b c = ap (λ (l : List Owned). x ∷ l) (append_assoc a b c)

pub append_nothing : (a : List Owned) → a ++ [] ≡ a
append_nothing [] = refl
append_nothing (x ∷ a) = ap (λ (l : List Owned). x ∷ l) (append_nothing a)
