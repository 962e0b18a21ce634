-- The pieces of a cluster, with its owner.
use Rattle.std.proofs.Common.{◌≡◌, ℕ, ◌≤◌, ◌<◌, refl, sym, ap, ◌∙◌, subst, arith}
use Rattle.std.specs.Prelude.{Bool, true, false, cond, IsTrue, List, [], ◌∷◌, map, ◌↔◌}
use Rattle.std.specs.List.{All}
use Rattle.samr_box.specs.declared.vector.IVec.{IVec}
use Rattle.samr_box.specs.Corners.{Corners, IsBox, Holds, holds}
use Rattle.samr_box.specs.Lists.{Member}
use Rattle.samr_box.proofs.Vectors.{AtMost-at}
use Rattle.samr_box.proofs.CellSets.{Holds-test, holds_box-means}
use Rattle.samr_box.proofs.Members.{All-from_members, member_of_All, Member-map, Member-from_map}
use Rattle.samr_boxlist.specs.Covers.{held, cover, IsDisjoint}
use Rattle.samr_boxlist.specs.Pieces.{chopped}
use Rattle.samr_boxlist.proofs.Covering.{held-cover, cover-held}
use Rattle.samr_level.specs.Refs.{Owned}
use Rattle.samr_level.specs.Levels.{IsCellIn}
use Rattle.samr_level.proofs.Domains.{held-from, member-held}
use Rattle.samr_nest.specs.Nested.{owned, IsPieceOf}
use Rattle.samr_nest.proofs.ChopSizes.{pieces_short, short_span}

boxes_owned : (owner : ℕ) (boxes : List Corners) → map (λ (b : Owned). b.bx) (owned owner boxes) ≡ boxes
boxes_owned owner [] = refl
boxes_owned owner (b ∷ boxes) = ap (λ (l : List Corners). b ∷ l) (boxes_owned owner boxes)

same_held : (x : IVec) (xs ys : List Corners) → cover x xs ≡ cover x ys → IsTrue (held x xs) → IsTrue (held x ys)
same_held x xs ys e t = let some = held-cover x xs t in cover-held x ys (omega (arith, e, some))

-- the cells of the new boxes
pub new_cells : (owner : ℕ) (pieces rest : List Corners) (news : List Owned) (x : IVec) → news ≡ owned owner pieces → cover x pieces ≡ cover x rest
    → IsCellIn news x ↔ IsTrue (held x rest)
new_cells owner pieces rest news x is e = (
  λ (b, m, h).
      let o = Member-from_map (λ (p : Corners). let v : Owned = record { owner = owner; bx = p } in v) b pieces (subst (λ (l : List Owned). Member b l) is m) in
      let P : Owned → Type 0 = λ v. Holds v.bx x in
      same_held x pieces rest e (held-from x o.0 pieces o.1 (subst P o.2 h)),
  λ t.
      let r = member-held x pieces (same_held x rest pieces (sym e) t) in
      let v : Owned = record { owner = owner; bx = r.0 } in
      (v, subst (λ (l : List Owned). Member v l) (sym is) (Member-map (λ (p : Corners). let v : Owned = record { owner = owner; bx = p } in v) r.0 pieces r.1), r.2),
)

pub new_once : (owner : ℕ) (pieces rest : List Corners) (news : List Owned) (c : Corners) → news ≡ owned owner pieces
    → ((x : IVec) → cover x pieces ≡ cover x rest) → ((x : IVec) → cover x rest ≤ cond (holds c x) 1 0)
    → IsDisjoint (map (λ b. b.bx) news)
new_once owner pieces rest news c is e once x =
    let same : cover x (map (λ (b : Owned). b.bx) news) ≡ cover x pieces =
    ap (λ (l : List Owned). cover x (map (λ (b : Owned). b.bx) l)) is ∙ ap (cover x) (boxes_owned owner pieces) in
    by_test (holds c x) (once x) (e x) same
  where
    by_test : (t : Bool) → cover x rest ≤ cond t 1 0 → cover x pieces ≡ cover x rest → cover x (map (λ (b : Owned). b.bx) news) ≡ cover x pieces
        → cover x (map (λ (b : Owned). b.bx) news) ≤ 1
    by_test true p q r = omega (arith, p, q, r)
    by_test false p q r = omega (arith, p, q, r)

in_cluster : (x : IVec) (rest : List Corners) (c : Corners) → cover x rest ≤ cond (holds c x) 1 0 → IsTrue (held x rest) → holds c x ≡ true
in_cluster x rest c once t = by_test (holds c x) once (held-cover x rest t)
  where
    by_test : (t : Bool) → cover x rest ≤ cond t 1 0 → 0 < cover x rest → t ≡ true
    by_test true p q = refl
    by_test false p q = absurd (omega (arith, p, q))

pub new_pieces : (c : Owned) (most : ℕ) (list rest pieces : List Corners) (news : List Owned) → news ≡ owned c.owner pieces → pieces ≡ chopped most list
    → ((x : IVec) → cover x pieces ≡ cover x rest) → ((x : IVec) → cover x rest ≤ cond (holds c.bx x) 1 0) → All IsBox pieces
    → All (IsPieceOf c most) news
new_pieces c most list rest pieces news is value e once boxes =
    All-from_members (IsPieceOf c most) news
    (λ b m.
    let o = Member-from_map (λ (p : Corners). let v : Owned = record { owner = c.owner; bx = p } in v) b pieces (subst (λ (l : List Owned). Member b l) is m) in
    subst (λ (v : Owned). IsPieceOf c most v) (sym o.2) (piece o.0 o.1))
  where
    piece : (p : Corners) → Member p pieces → IsPieceOf c most (let v : Owned = record { owner = c.owner; bx = p } in v)
    piece p m =
        let box = member_of_All IsBox p pieces boxes m in
        record {
          owner = refl;
          is_box = box;
          inside = (holds_box-means c.bx p box.order).1
              (λ x h. Holds-test (in_cluster x rest c.bx (once x) (same_held x pieces rest (e x) (held-from x p pieces m h))));
          planes = λ axis.
              short_span axis most p (AtMost-at axis box.order)
              (pieces_short most list p (subst (λ (l : List Corners). Member p l) value m) axis);
        }
