-- What follows from the orders of labels and of names.
use Rattle.std.proofs.Common.{◌≡◌, ◌≢◌, ℕ, ◌<◌, refl, sym, ap, ◌∙◌, arith, true, false, ◌⊎◌, inl, inr}
use Rattle.std.specs.Ordering.{nat_cmp, ordering_then, ordering_reverse, is_le, is_eq, is_ne}
use Rattle.std.specs.declared.cmp.Ordering.{Ordering}
use Rattle.std.specs.declared.cmp.Ordering.TheVariants.{Less, Equal, Greater}
use Rattle.std.specs.Cmp.{IsTotalOrder}
use Rattle.std.proofs.lemmas.Cmp.{tied_itself, alike_right}
use Rattle.std.proofs.lemmas.Bool.Decides.{nat_tests}
use Rattle.samr_stage.specs.declared.label.Label.{Label}
use Rattle.samr_stage.specs.declared.label.Name.{Name}
use Rattle.samr_stage.specs.Label.{label_cmp, name_cmp}
use Rattle.samr_stage.specs.LabelLaws.{label_cmp_total}

then_less : (o p : Ordering) → ordering_then o p ≡ Less → (o ≡ Less) ⊎ ((o ≡ Equal) × (p ≡ Less))
then_less Less p h = inl refl
then_less Equal p h = inr (refl, h)
then_less Greater p h = cc

-- a name that is less is not of a later label
pub name_up : (a b : Name) → name_cmp a b ≡ Less → label_cmp a.label b.label ≢ Greater
name_up a b h e = elim (then_less (label_cmp a.label b.label) (ordering_then (nat_cmp a.sender b.sender) (nat_cmp a.addressee b.addressee)) h) [
  | inl less ↦ cc
  | inr both ↦ let equal = both.0 in cc
]

-- names of one label to or from one rank ascend as the other ranks do
pub less_by_addressee : (at : Label) (from a b : ℕ) → a < b → name_cmp (record { label = at; sender = from; addressee = a }) (record { label = at; sender = from; addressee = b }) ≡ Less
less_by_addressee at from a b h =
    rw (tied_itself label_cmp_total at) (grind (arith, nat_tests))

pub less_by_sender : (at : Label) (to a b : ℕ) → a < b → name_cmp (record { label = at; sender = a; addressee = to }) (record { label = at; sender = b; addressee = to }) ≡ Less
less_by_sender at to a b h =
    rw (tied_itself label_cmp_total at) (grind (arith, nat_tests))

module _ {K : Type 0} {R : K → K → Ordering} (o : IsTotalOrder R) where
  pub never_less : (x : K) → R x x ≡ Less → ⊥
  never_less x h = let e = tied_itself o x in cc

  pub less_back : (x y : K) → R x y ≡ Less → R y x ≡ Greater
  less_back x y h = o.antisymm y x ∙ ap ordering_reverse h

  pub greater_back : (x y : K) → R x y ≡ Greater → R y x ≡ Less
  greater_back x y h = o.antisymm y x ∙ ap ordering_reverse h

  -- what is not greater than y is not greater than what y is not greater than
  pub le_le : (x y z : K) → R x y ≢ Greater → is_le (R y z) ≡ true → is_le (R x z) ≡ true
  le_le x y z h k = by (R x y) (R y z) refl refl
    where
      by : (r s : Ordering) → R x y ≡ r → R y z ≡ s → is_le (R x z) ≡ true
      by Less Less e f = ap is_le (o.trans x y z e f)
      by Less Equal e f = ap is_le (sym (alike_right o y z x f) ∙ e)
      by Less Greater e f = cc
      by Equal s e f = ap is_le (o.congr x y z e) ∙ k
      by Greater s e f = absurd (h e)

-- what is not less and not greater ties
pub equal_from_le : (r : Ordering) → r ≢ Less → is_le r ≡ true → r ≡ Equal
equal_from_le Less h k = absurd (h refl)
equal_from_le Equal h k = refl
equal_from_le Greater h k = cc

pub greater_from_le : (r : Ordering) → is_le r ≡ false → r ≡ Greater
greater_from_le Less h = cc
greater_from_le Equal h = cc
greater_from_le Greater h = refl

pub equal_from_eq : (r : Ordering) → is_eq r ≡ true → r ≡ Equal
equal_from_eq Less h = cc
equal_from_eq Equal h = refl
equal_from_eq Greater h = cc

pub greater_from_ne : (r : Ordering) → r ≢ Less → is_ne r ≡ true → r ≡ Greater
greater_from_ne Less h k = absurd (h refl)
greater_from_ne Equal h k = cc
greater_from_ne Greater h k = refl
