-- Lists of which no two members meet.
use Rattle.std.proofs.Common.{◌≡◌, suc, ◌≤◌, refl, sym, ap, ◌∙◌, inl, inr, arith, length}
use Rattle.std.proofs.lemmas.Bool.{and_from, and_parts, or_cases, or_left, or_right, not-true, not_from_false, false_from_ne_true, cases_lt, false≢true}
use Rattle.std.proofs.lemmas.List.Kept.{AllPairs-cons}
use Rattle.std.specs.Prelude.{Bool, true, false, not, ◌&&◌, List, [], ◌∷◌}
use Rattle.std.specs.List.{list_any}
use Rattle.samr_box.specs.declared.vector.IVec.{IVec}
use Rattle.samr_box.specs.Corners.{Corners, Meet, holds, meets}
use Rattle.samr_box.specs.Lists.{Member}
use Rattle.samr_box.proofs.CellSets.{Holds-test, Meet-test, meets-from, Meet-cell}
use Rattle.samr_box.proofs.Members.{All-from_members, member_of_All}
use Rattle.samr_boxlist.specs.Covers.{cover, held, IsDisjoint, NoneMeet}
use Rattle.samr_boxlist.proofs.Covering.{one, cover-cons, held-cover, cover-held}

-- no member meets one after it
abbrev pub none_meet : List Corners → Bool
none_meet [] = true
none_meet (b ∷ bs) = not (list_any (λ a. meets a b) bs) && none_meet bs

Meet-sym : {a b : Corners} → Meet a b → Meet b a
Meet-sym m = record { low = m.high; high = m.low }

-- a test that holds of a member holds of some, and one that fails for a list fails for each member
any_of_member : (p : Corners → Bool) (bs : List Corners) (a : Corners) → Member a bs → p a ≡ true → list_any p bs ≡ true
any_of_member p [] a m t = absurd m
any_of_member p (b ∷ bs) a (inl same) t = or_left (p b) (list_any p bs) (ap p (sym same) ∙ t)
any_of_member p (b ∷ bs) a (inr m) t = or_right (p b) (list_any p bs) (any_of_member p bs a m t)

none_of : (p : Corners → Bool) (bs : List Corners) → list_any p bs ≡ false → (a : Corners) → Member a bs → p a ≡ false
none_of p bs e a m = false_from_ne_true (p a) (λ t. false≢true (sym e ∙ any_of_member p bs a m t))

any_weaker : (p q : Corners → Bool) (bs : List Corners) → ((a : Corners) → p a ≡ true → q a ≡ true) → list_any p bs ≡ true → list_any q bs ≡ true
any_weaker p q [] f t = absurd (false≢true t)
any_weaker p q (b ∷ bs) f t =
    elim (or_cases (p b) (list_any p bs) t) [
      | inl here ↦ or_left (q b) (list_any q bs) (f b here)
      | inr later ↦ or_right (q b) (list_any q bs) (any_weaker p q bs f later)
    ]

pub NoneMeet-from : (list : List Corners) → none_meet list ≡ true → NoneMeet list
NoneMeet-from [] t = λ i j d p q. absurd (omega (arith, q))
NoneMeet-from (b ∷ bs) t =
    let p = and_parts (not (list_any (λ a. meets a b) bs)) (none_meet bs) t in
    let alone = not-true (list_any (λ a. meets a b) bs) p.0 in
    AllPairs-cons (λ a c. ¬ Meet a c) b bs
    (All-from_members (λ c. ¬ Meet b c) bs
    (λ c m h. false≢true (sym (none_of (λ a. meets a b) bs alone c m) ∙ meets-from (Meet-sym h))))
    (NoneMeet-from bs p.1)

pub IsDisjoint-from : (list : List Corners) → none_meet list ≡ true → IsDisjoint list
IsDisjoint-from [] t x = omega arith
IsDisjoint-from (b ∷ bs) t x =
    let p = and_parts (not (list_any (λ a. meets a b) bs)) (none_meet bs) t in
    let alone = not-true (list_any (λ a. meets a b) bs) p.0 in
    by_head (holds b x) refl (IsDisjoint-from bs p.1 x) alone
  where
    by_head : (h : Bool) → holds b x ≡ h → cover x bs ≤ 1 → list_any (λ a. meets a b) bs ≡ false → cover x (b ∷ bs) ≤ 1
    by_head false e rest alone = omega (arith, cover-cons x b bs, ap one e, rest)
    by_head true e rest alone =
        elim (cases_lt 0 (cover x bs)) [
          | inl some ↦ absurd (false≢true (sym alone
              ∙ any_weaker (λ a. holds a x) (λ a. meets a b) bs
              (λ a t. meets-from (Meet-cell {a = a} {b = b} {x = x} (Holds-test t) (Holds-test e))) (cover-held x bs some)))
          | inr none ↦ omega (arith, cover-cons x b bs, ap one e, none)
        ]

-- the same the other way round
NoneMeet-head : (b : Corners) (bs : List Corners) → NoneMeet (b ∷ bs) → (a : Corners) → Member a bs → ¬ Meet b a
NoneMeet-head b bs h a m =
    member_of_All (λ v. ¬ Meet b v) a bs (λ k d p. h 0 (suc k) d (omega arith) (omega (arith, p))) m

NoneMeet-tail : (b : Corners) (bs : List Corners) → NoneMeet (b ∷ bs) → NoneMeet bs
NoneMeet-tail b bs h = λ i j d p q. h (suc i) (suc j) d (omega (arith, p)) (omega (arith, q))

pub none_meet-from : (list : List Corners) → NoneMeet list → none_meet list ≡ true
none_meet-from [] h = refl
none_meet-from (b ∷ bs) h =
    and_from (not (list_any (λ a. meets a b) bs)) (none_meet bs)
    (not_from_false (list_any (λ a. meets a b) bs)
    (none_from bs (λ a m. NoneMeet-head b bs h a m)))
    (none_meet-from bs (NoneMeet-tail b bs h))
  where
    none_from : (cs : List Corners) → ((a : Corners) → Member a cs → ¬ Meet b a) → list_any (λ a. meets a b) cs ≡ false
    none_from [] f = refl
    none_from (c ∷ cs) f =
        rw (false_from_ne_true (meets c b) (λ t. f c (inl refl) (Meet-sym (Meet-test t))))
        (none_from cs (λ a m. f a (inr m)))

-- a cell of the first member and of a later one
pub twice : (x : IVec) (b : Corners) (bs : List Corners) → holds b x ≡ true → held x bs ≡ true → 2 ≤ cover x (b ∷ bs)
twice x b bs s t = omega (arith, cover-cons x b bs, ap one s, held-cover x bs t)

pub cover-tail : (x : IVec) (b : Corners) (bs : List Corners) → cover x bs ≤ cover x (b ∷ bs)
cover-tail x b bs = omega (arith, cover-cons x b bs)

pub none_meet-empty : (list : List Corners) → length list ≡ 0 → none_meet list ≡ true
none_meet-empty [] h = refl
none_meet-empty (b ∷ bs) h = absurd (omega (arith, h))
