-- A rank tells the owners of boxes of exactly the pieces that it has of these.
use Rattle.std.proofs.Common.{◌≡◌, ℕ, ◌<◌, ◌≤◌, refl, sym, ap, subst, ◌∙◌, inl, inr, arith, nat_lt, nat_eq}
use Rattle.std.proofs.lemmas.Bool.{cases_Bool, cond-true, lt-ltb, ltb-true, eq-eqb, eqb-true, and_parts, and_from}
use Rattle.std.proofs.lemmas.Bool.Decides.{nat_tests}
use Rattle.std.proofs.lemmas.List.Sums.{sum_by-cons}
use Rattle.std.specs.Prelude.{true, cond, ◌&&◌, not, List, [], ◌∷◌, sum_by, Some, None, is_some, IsTrue}
use Rattle.samr_box.specs.Lists.{Member}
use Rattle.samr_load.specs.Pieces.{Placed, size_of}
use Rattle.samr_load.proofs.Shapes.{some_cells}
use Rattle.samr_balance.specs.Home.{pieces_in}
use Rattle.samr_balance.specs.HomeRow.{size_for, told_of, weight, line_of, home_row}
use Rattle.samr_balance.specs.StageLaws.{passes, within_both}
use Rattle.samr_balance.specs.Laws.{LettersGoHome}
use Rattle.samr_balance.proofs.HomeRowLaws.{weight_is, solid_pieces}

member_for : (rank : ℕ) (pieces : List Placed) → 0 < sum_by (size_for rank) pieces → (q : Placed) × Member q pieces × (q.origin.owner ≡ rank)
member_for rank [] some = absurd (omega (arith, some))
member_for rank (q ∷ pieces) some = elim (cases_Bool (nat_eq q.origin.owner rank)) [
  | inl on ↦ (q, inl refl, eqb-true q.origin.owner rank on)
  | inr off ↦
      let none = ap (λ t. cond {A = ℕ} t (size_of q) 0) off in
      let rest = member_for rank pieces (omega (arith, some, none, sum_by-cons (size_for rank) q pieces)) in
      (rest.0, inr rest.1, rest.2)
]

size_within : (rank : ℕ) (pieces : List Placed) (q : Placed) → Member q pieces → size_for rank q ≤ sum_by (size_for rank) pieces
size_within rank [] q m = absurd m
size_within rank (p ∷ pieces) q (inl e) =
    let same = ap (size_for rank) e in
    omega (arith, same, sum_by-cons (size_for rank) p pieces)
size_within rank (p ∷ pieces) q (inr m) = omega (arith, size_within rank pieces q m, sum_by-cons (size_for rank) p pieces)

pub letters_go_home : LettersGoHome
unfolding home_row line_of
letters_go_home w from to h inside within other = (
  λ told.
      let outer = within_both (nat_lt from w.ranks && nat_lt to w.ranks) (line_of (pieces_in w from) from to) told in
      let test = passes (not (nat_eq from to) && nat_lt 0 (weight (told_of to (pieces_in w from)))) (told_of to (pieces_in w from)) outer.1 in
      let heavy = ltb-true 0 (weight (told_of to (pieces_in w from))) (and_parts (not (nat_eq from to)) _ test).1 in
      member_for to (pieces_in w from) (omega (arith, heavy, weight_is to (pieces_in w from))),
  λ (q, m, owner).
      let here = ap (λ t. cond {A = ℕ} t (size_of q) 0) (eq-eqb q.origin.owner to owner) in
      let heavy : 0 < weight (told_of to (pieces_in w from)) =
      omega (arith, here, some_cells q.bx (solid_pieces w h from inside q m), size_within to (pieces_in w from) q m, weight_is to (pieces_in w from)) in
      let apart : not (nat_eq from to) ≡ true = grind (arith, nat_tests, other) in
      let both = and_from (nat_lt from w.ranks) (nat_lt to w.ranks) (lt-ltb from w.ranks inside) (lt-ltb to w.ranks within) in
      let test = and_from (not (nat_eq from to)) (nat_lt 0 (weight (told_of to (pieces_in w from)))) apart (lt-ltb 0 (weight (told_of to (pieces_in w from))) heavy) in
      let line = cond-true (nat_lt from w.ranks && nat_lt to w.ranks) (line_of (pieces_in w from) from to) None both
      ∙ cond-true (not (nat_eq from to) && nat_lt 0 (weight (told_of to (pieces_in w from)))) (Some (told_of to (pieces_in w from))) None test in
      subst (λ o. IsTrue (is_some o)) (sym line) refl,
)
