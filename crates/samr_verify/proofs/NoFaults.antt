-- Where there is no first fault there is none, and what each test then says.
use Rattle.std.proofs.Common.{◌≡◌, ℕ, zero, suc, ◌<◌, refl, sym, ap, ◌∙◌, subst, inl, inr, arith, map, take, fold, zero-add}
use Rattle.std.proofs.lemmas.Bool.{false≢true, eqb-true, and_parts}
use Rattle.std.specs.Prelude.{Bool, true, false, ◌||◌, ◌==◌, List, [], ◌∷◌, length, Option, Some, None, slice_get, if◌then◌else◌}
use Rattle.std.specs.List.{enumerate_from, list_any}
use Rattle.std.specs.declared.cmp.Ordering.{Ordering}
use Rattle.std.specs.declared.cmp.Ordering.TheVariants.{Less, Equal, Greater}
use Rattle.samr_box.specs.Lists.{Member}
use Rattle.samr_box.proofs.Members.{Member-map}
use Rattle.samr_level.specs.Refs.{Owned, Link}
use Rattle.samr_level.specs.RefOrders.{ref_cmp, edge_cmp}
use Rattle.samr_level.proofs.RefLaws.{same_from_ref_cmp, same_from_edge_cmp}
use Rattle.samr_fill.proofs.Numbered.{numbered_has}
use Rattle.samr_verify.specs.declared.edges.DueEdge.{DueEdge}
use Rattle.samr_verify.specs.declared.fault.Fault.{Fault}
use Rattle.samr_verify.specs.declared.printed.PrintedEdge.{PrintedEdge}
use Rattle.samr_verify.specs.Faults.{comes_first, or_earlier, first_of, unless}
use Rattle.samr_verify.specs.MeshFaults.{is_less, is_equal, is_one, same_edge, edge_fault}
use Rattle.samr_verify.specs.Soundness.{as_due}

pub none_some : {X : Type 0} {x : X} → None ≡ Some x → ⊥
none_some e = cc

pub some_same : {X : Type 0} {x y : X} → Some x ≡ Some y → x ≡ y
some_same e = cc

choose : (t : Bool) (f g : Fault) (fs : List (Option Fault)) → (fold or_earlier (Some f) fs ≡ None → ⊥) → (fold or_earlier (Some g) fs ≡ None → ⊥)
    → fold or_earlier (if t then Some f else Some g) fs ≡ None → ⊥
choose true f g fs a b e = a e
choose false f g fs a b e = b e

some_stays : (fs : List (Option Fault)) (f : Fault) → fold or_earlier (Some f) fs ≡ None → ⊥
some_stays [] f e = none_some (sym e)
some_stays (None ∷ fs) f e = some_stays fs f e
some_stays (Some g ∷ fs) f e = choose (comes_first f g) f g fs (some_stays fs f) (some_stays fs g) e

pub all_none : (fs : List (Option Fault)) → first_of fs ≡ None → (o : Option Fault) → Member o fs → o ≡ None
all_none [] e o m = absurd m
all_none (None ∷ fs) e o (inl is) = is
all_none (None ∷ fs) e o (inr m) = all_none fs e o m
all_none (Some f ∷ fs) e o m = absurd (some_stays fs f e)

pub numbered_none : {X : Type 0} (f : ℕ × X → Option Fault) (xs : List X) → first_of (map f (enumerate_from 0 xs)) ≡ None → (i : ℕ) (x : X) → slice_get xs i ≡ Some x → f (i, x) ≡ None
numbered_none {X} f xs e i x h =
    let m : Member (i, x) (enumerate_from 0 xs) = subst (λ n. Member (n, x) (enumerate_from 0 xs)) (zero-add i) (numbered_has 0 xs i x h) in
    all_none (map f (enumerate_from 0 xs)) e (f (i, x)) (Member-map f (i, x) (enumerate_from 0 xs) m)

pub unless_none : (t : Bool) (kind line : ℕ) → unless t kind line ≡ None → t ≡ true
unless_none true kind line e = refl
unless_none false kind line e = absurd (none_some (sym e))

-- of tests on an order
pub equal_is : (o : Ordering) → is_equal o ≡ true → o ≡ Equal
equal_is Less e = absurd (false≢true e)
equal_is Equal e = refl
equal_is Greater e = absurd (false≢true e)

pub less_is : (o : Ordering) → is_less o ≡ true → o ≡ Less
less_is Less e = refl
less_is Equal e = absurd (false≢true e)
less_is Greater e = absurd (false≢true e)

pub one_is : (o : Option Owned) (b : Owned) → is_one o b ≡ true → o ≡ Some b
one_is None b e = absurd (false≢true e)
one_is (Some a) b e = ap (λ (c : Owned). Some c) (same_from_ref_cmp a b (equal_is (ref_cmp a b) e))

or_false : (s t : Bool) → (s || t) ≡ false → (s ≡ false) × (t ≡ false)
or_false true t e = absurd (false≢true (sym e))
or_false false t e = (refl, e)

pub any_false : {X : Type 0} (test : X → Bool) (xs : List X) (j i : ℕ) (a : X) → list_any test (take j xs) ≡ false → i < j → slice_get xs i ≡ Some a → test a ≡ false
any_false test [] j i a e less h = absurd (none_some h)
any_false test (x ∷ xs) zero i a e less h = absurd (omega (arith, less))
any_false test (x ∷ xs) (suc j) zero a e less h = ap test (sym (some_same h)) ∙ (or_false (test x) (list_any test (take j xs)) e).0
any_false test (x ∷ xs) (suc j) (suc i) a e less h = any_false test xs j i a (or_false (test x) (list_any test (take j xs)) e).1 (omega (arith, less)) h

pub place_of : {X : Type 0} (x : X) (xs : List X) → Member x xs → (i : ℕ) × (slice_get xs i ≡ Some x)
place_of x [] m = absurd m
place_of {X} x (y ∷ ys) (inl e) = (0, ap (λ (z : X). Some z) (sym e))
place_of x (y ∷ ys) (inr m) = let r = place_of x ys m in (suc r.0, r.1)

-- lists of which each has what the other has at each place
pub same_lists : {X : Type 0} (xs ys : List X) → length xs ≡ length ys → ((i : ℕ) (x : X) → slice_get xs i ≡ Some x → slice_get ys i ≡ Some x) → xs ≡ ys
same_lists [] [] e f = refl
same_lists [] (y ∷ ys) e f = absurd (omega (arith, e))
same_lists (x ∷ xs) [] e f = absurd (omega (arith, e))
same_lists {X} (x ∷ xs) (y ∷ ys) e f =
    let first : y ≡ x = some_same (f 0 x refl) in
    let rest : xs ≡ ys = same_lists xs ys (omega (arith, e)) (λ i z h. f (suc i) z h) in
    ap (λ (z : X). z ∷ xs) (sym first) ∙ ap (λ (l : List X). y ∷ l) rest

-- edges
due_is : (e : PrintedEdge) (d : DueEdge) → same_edge e d ≡ true → as_due e ≡ d
due_is e d t =
    let parts = and_parts (e.to_level == d.to_level) (is_equal (edge_cmp e.edge d.edge)) t in
    let level : e.to_level ≡ d.to_level = eqb-true e.to_level d.to_level parts.0 in
    let edge : e.edge ≡ d.edge = same_from_edge_cmp e.edge d.edge (equal_is (edge_cmp e.edge d.edge) parts.1) in
    let head : as_due e ≡ record { to_level = d.to_level; edge = e.edge } = ap (λ (n : ℕ). let due : DueEdge = record { to_level = n; edge = e.edge } in due) level in
    head ∙ ap (λ (l : Link). let due : DueEdge = record { to_level = d.to_level; edge = l } in due) edge

chosen : (t : Bool) (o : Option Fault) (f : Fault) → (if t then o else Some f) ≡ None → (t ≡ true) × (o ≡ None)
chosen true o f e = (refl, e)
chosen false o f e = absurd (none_some (sym e))

pub edges_same : (after : ℕ) (told : List PrintedEdge) (due : List DueEdge) → edge_fault after told due ≡ None → map as_due told ≡ due
edges_same after [] [] e = refl
edges_same after [] (d ∷ due) e = absurd (none_some (sym e))
edges_same after (t ∷ told) [] e = absurd (none_some (sym e))
edges_same after (t ∷ told) (d ∷ due) e =
    let parts = chosen (same_edge t d) (edge_fault after told due) (record { kind = 6; line = t.line }) e in
    ap (λ (x : DueEdge). x ∷ map as_due told) (due_is t d parts.0) ∙ ap (λ (l : List DueEdge). d ∷ l) (edges_same after told due parts.1)
