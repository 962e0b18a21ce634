-- The first of some faults is one of them, and none comes before it.
use Rattle.std.proofs.Common.{◌≡◌, ℕ, ◌<◌, ◌≤◌, refl, sym, ap, ◌∙◌, subst, inl, inr, arith, fold}
use Rattle.std.proofs.lemmas.Bool.{false≢true}
use Rattle.std.proofs.lemmas.Bool.Decides.{nat_tests}
use Rattle.std.specs.Prelude.{Bool, true, false, not, ◌&&◌, ◌||◌, nat_lt, nat_le, Option, Some, None, List, [], ◌∷◌, ◌⊎◌, if◌then◌else◌}
use Rattle.samr_box.specs.Lists.{Member}
use Rattle.samr_verify.specs.declared.fault.Fault.{Fault}
use Rattle.samr_verify.specs.Faults.{comes_first, or_earlier, first_of}
use Rattle.samr_verify.specs.Soundness.{IsNotAfter, IsFirst}
use Rattle.samr_verify.proofs.NoFaults.{none_some, some_same}

by_numbers : (a b c d : ℕ) (t : Bool) → (nat_lt a b || (not (nat_lt b a) && nat_le c d)) ≡ t
    → ((t ≡ true) × ((a < b) ⊎ ((a ≡ b) × (c ≤ d)))) ⊎ ((t ≡ false) × ((b < a) ⊎ ((b ≡ a) × (d ≤ c))))
by_numbers a b c d t e = grind (arith, nat_tests)

itself : (f : Fault) → IsNotAfter f f
itself f = inr (refl, omega arith)

further : (f g h : Fault) → IsNotAfter f g → IsNotAfter g h → IsNotAfter f h
further f g h (inl a) (inl b) = inl (omega (arith, a, b))
further f g h (inl a) (inr b) = let e = b.0 in inl (omega (arith, a, e))
further f g h (inr a) (inl b) = let e = a.0 in inl (omega (arith, e, b))
further f g h (inr a) (inr b) = let d = a.1 in let e = b.1 in inr (a.0 ∙ b.0, omega (arith, d, e))

-- of two
pub record IsLeast (acc : Fault) (faults : List (Option Fault)) (f : Fault) : Type 0 where
  pub one : (f ≡ acc) ⊎ Member (Some f) faults
  pub first : IsNotAfter f acc
  pub least : (g : Fault) → Member (Some g) faults → IsNotAfter f g

chosen : (acc g f : Fault) (fs : List (Option Fault)) (t : Bool) → comes_first acc g ≡ t → (fold or_earlier (Some acc) fs ≡ Some f → IsLeast acc fs f)
    → (fold or_earlier (Some g) fs ≡ Some f → IsLeast g fs f) → fold or_earlier (if t then Some acc else Some g) fs ≡ Some f → IsLeast acc (Some g ∷ fs) f
chosen acc g f fs true t a b e =
    let h = a e in
    record { one = kept h.one; first = h.first; least = λ x m. reach x m h }
  where
    kept : (f ≡ acc) ⊎ Member (Some f) fs → (f ≡ acc) ⊎ ((Some f ≡ Some g) ⊎ Member (Some f) fs)
    kept (inl e) = inl e
    kept (inr m) = inr (inr m)

    before : IsNotAfter acc g
    before = elim (by_numbers acc.line g.line acc.kind g.kind true t) [ inl x ↦ x.1 | inr x ↦ absurd (false≢true (sym x.0)) ]

    reach : (x : Fault) → (Some x ≡ Some g) ⊎ Member (Some x) fs → IsLeast acc fs f → IsNotAfter f x
    reach x (inl e) h = subst (λ v. IsNotAfter f v) (sym (some_same e)) (further f acc g h.first before)
    reach x (inr m) h = h.least x m
chosen acc g f fs false t a b e =
    let h = b e in
    record { one = kept h.one; first = further f g acc h.first before; least = λ x m. reach x m h }
  where
    kept : (f ≡ g) ⊎ Member (Some f) fs → (f ≡ acc) ⊎ ((Some f ≡ Some g) ⊎ Member (Some f) fs)
    kept (inl e) = inr (inl (ap (λ (v : Fault). Some v) e))
    kept (inr m) = inr (inr m)

    before : IsNotAfter g acc
    before = elim (by_numbers acc.line g.line acc.kind g.kind false t) [ inl x ↦ absurd (false≢true x.0) | inr x ↦ x.1 ]

    reach : (x : Fault) → (Some x ≡ Some g) ⊎ Member (Some x) fs → IsLeast g fs f → IsNotAfter f x
    reach x (inl e) h = subst (λ v. IsNotAfter f v) (sym (some_same e)) h.first
    reach x (inr m) h = h.least x m

least_is : (acc : Fault) (fs : List (Option Fault)) (f : Fault) → fold or_earlier (Some acc) fs ≡ Some f → IsLeast acc fs f
least_is acc [] f e = record { one = inl (sym (some_same e)); first = subst (λ v. IsNotAfter v acc) (some_same e) (itself acc); least = λ g m. absurd m }
least_is acc (None ∷ fs) f e =
    let h = least_is acc fs f e in
    record { one = kept h.one; first = h.first; least = λ g m. reach g m h }
  where
    kept : (f ≡ acc) ⊎ Member (Some f) fs → (f ≡ acc) ⊎ ((Some f ≡ None) ⊎ Member (Some f) fs)
    kept (inl e) = inl e
    kept (inr m) = inr (inr m)

    reach : (x : Fault) → (Some x ≡ None) ⊎ Member (Some x) fs → IsLeast acc fs f → IsNotAfter f x
    reach x (inl e) h = absurd (none_some (sym e))
    reach x (inr m) h = h.least x m
least_is acc (Some g ∷ fs) f e = chosen acc g f fs (comes_first acc g) refl (least_is acc fs f) (least_is g fs f) e

pub first_is : (fs : List (Option Fault)) (f : Fault) → first_of fs ≡ Some f → IsFirst fs f
first_is [] f e = absurd (none_some e)
first_is (None ∷ fs) f e =
    let h = first_is fs f e in
    record { one = inr h.one; least = λ g m. reach g m h }
  where
    reach : (x : Fault) → (Some x ≡ None) ⊎ Member (Some x) fs → IsFirst fs f → IsNotAfter f x
    reach x (inl e) h = absurd (none_some (sym e))
    reach x (inr m) h = h.least x m
first_is (Some g ∷ fs) f e =
    let h = least_is g fs f e in
    record { one = home h.one; least = λ x m. reach x m h }
  where
    home : (f ≡ g) ⊎ Member (Some f) fs → (Some f ≡ Some g) ⊎ Member (Some f) fs
    home (inl e) = inl (ap (λ (v : Fault). Some v) e)
    home (inr m) = inr m

    reach : (x : Fault) → (Some x ≡ Some g) ⊎ Member (Some x) fs → IsLeast g fs f → IsNotAfter f x
    reach x (inl e) h = subst (λ v. IsNotAfter f v) (sym (some_same e)) h.first
    reach x (inr m) h = h.least x m
