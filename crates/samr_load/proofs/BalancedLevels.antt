-- A balanced level is a level, of which each rank has its pieces.
use Rattle.std.proofs.Common.{◌≡◌, ℕ, zero, suc, ◌+◌, ◌<◌, ◌≤◌, refl, sym, ap, subst, ◌∙◌, inl, inr, arith, nat_lt, nat_eq, append-nil}
use Rattle.std.proofs.lemmas.Bool.{cond_both, cond-true, cond-false, cases_lt, cases_eq, lt-ltb, eq-eqb, ne_eqb, false≢true}
use Rattle.std.proofs.lemmas.Cmp.{nat_cmp_total, tied_itself}
use Rattle.std.specs.Prelude.{Bool, true, false, cond, List, [], ◌∷◌, ◌++◌, map, ◌⊎◌, ◌==◌}
use Rattle.std.specs.List.{flat_map, range_with_len}
use Rattle.std.specs.List.Sorted.{IsStrictlySortedBy}
use Rattle.std.specs.Ordering.{is_eq, is_gt, ordering_then}
use Rattle.std.specs.declared.cmp.Ordering.{Ordering}
use Rattle.std.specs.declared.cmp.Ordering.TheVariants.{Less, Equal, Greater}
use Rattle.samr_box.specs.declared.vector.IVec.{IVec}
use Rattle.samr_box.specs.Vector.{AtMost}
use Rattle.samr_box.specs.Corners.{Corners, Holds, holds, Meet}
use Rattle.samr_box.specs.Orders.{corner_cmp}
use Rattle.samr_box.specs.Lists.{Member}
use Rattle.samr_box.proofs.Ascending.{sorted-nil, sorted-cons, sorted-tail, sorted-head, sorted-append}
use Rattle.samr_box.proofs.CellSets.{holds-from, Holds-test, Holds-lo, Meet-cell, meets-from, meets-means}
use Rattle.samr_box.proofs.Members.{Member-from_map, Member-from_flat_map, Member-flat_map}
use Rattle.samr_box.proofs.Totals.{same_from_corner_cmp}
use Rattle.samr_bits.proofs.Sums.{sum_member}
use Rattle.samr_boxlist.specs.Covers.{cover}
use Rattle.samr_boxlist.proofs.Covering.{one, cover-cons}
use Rattle.samr_level.specs.Refs.{Owned}
use Rattle.samr_level.specs.RefOrders.{ref_cmp}
use Rattle.samr_level.specs.Levels.{own, IsLevel}
use Rattle.samr_level.specs.Regions.{Area}
use Rattle.samr_level.proofs.RefLaws.{ref_total, same_from_ref_cmp}
use Rattle.samr_load.specs.Pieces.{Placed, piece_cmp, total}
use Rattle.samr_load.specs.Ascent.{Balancing}
use Rattle.samr_load.specs.Descent.{pieces_of, down}
use Rattle.samr_load.specs.Balanced.{balancing, quota_of, cells_in, all_pieces, owned_by, balanced}
use Rattle.samr_load.specs.Laws.{boxes_of, places_of, same_as, AreAllCells}
use Rattle.samr_load.specs.LevelLaws.{IsBalanced}
use Rattle.samr_load.proofs.Totals.{Each, each_tail}
use Rattle.samr_load.proofs.Sorts.{Rises, sorted_rises}
use Rattle.samr_load.proofs.PieceOrder.{piece_total}
use Rattle.samr_load.proofs.Parting.{IsSolid}
use Rattle.samr_load.proofs.Shapes.{has}
use Rattle.samr_load.proofs.Wholes.{all_cells, level_kept, total-all_pieces, cover-places, range_below}

-- the members in which a cell lies
covers_member : (x : IVec) (o : Owned) (os : List Owned) → Member o os → holds o.bx x ≡ true → 0 < cover x (boxes_of os)
covers_member x o [] m h = absurd m
covers_member x o (p ∷ os) (inl e) h =
    let here : holds p.bx x ≡ true = subst (λ (q : Owned). holds q.bx x ≡ true) e h in
    let is_one = ap one here in
    omega (arith, cover-cons x p.bx (boxes_of os), is_one)
covers_member x o (p ∷ os) (inr m) h = omega (arith, cover-cons x p.bx (boxes_of os), covers_member x o os m h)

member_covering : (x : IVec) (os : List Owned) → 0 < cover x (boxes_of os) → (o : Owned) × Member o os × (holds o.bx x ≡ true)
member_covering x [] h = absurd (omega (arith, h))
member_covering x (p ∷ os) h = by_test (holds p.bx x) refl (λ k. member_covering x os k)
  where
    by_test : (t : Bool) → holds p.bx x ≡ t → (0 < cover x (boxes_of os) → (o : Owned) × Member o os × (holds o.bx x ≡ true))
        → (o : Owned) × Member o (p ∷ os) × (holds o.bx x ≡ true)
    by_test true e later = (p, inl refl, e)
    by_test false e later =
        let none = ap one e in
        let r = later (omega (arith, h, cover-cons x p.bx (boxes_of os), none)) in
        (r.0, inr r.1, r.2)

one_member : (x : IVec) (os : List Owned) (a b : Owned) → Member a os → Member b os → holds a.bx x ≡ true → holds b.bx x ≡ true
    → cover x (boxes_of os) ≤ 1 → a ≡ b
one_member x [] a b m n h k few = absurd m
one_member x (p ∷ os) a b (inl e) (inl f) h k few = e ∙ sym f
one_member x (p ∷ os) a b (inl e) (inr n) h k few =
    let here = ap one (subst (λ (q : Owned). holds q.bx x ≡ true) e h) in
    absurd (omega (arith, few, cover-cons x p.bx (boxes_of os), here, covers_member x b os n k))
one_member x (p ∷ os) a b (inr m) (inl f) h k few =
    let here = ap one (subst (λ (q : Owned). holds q.bx x ≡ true) f k) in
    absurd (omega (arith, few, cover-cons x p.bx (boxes_of os), here, covers_member x a os m h))
one_member x (p ∷ os) a b (inr m) (inr n) h k few =
    one_member x os a b m n h k (omega (arith, few, cover-cons x p.bx (boxes_of os)))

not_before_itself : (o : Owned) → ref_cmp o o ≡ Less → ⊥
not_before_itself o e = less_equal (ref_cmp o o) e (tied_itself ref_total o)
  where
    less_equal : (t : Ordering) → t ≡ Less → t ≡ Equal → ⊥
    less_equal t p q = cc

-- no two boxes of a level have a common cell
level_disjoint : (os : List Owned) → IsStrictlySortedBy ref_cmp os → ((a b : Owned) → Member a os → Member b os → Meet a.bx b.bx → a ≡ b)
    → (x : IVec) → cover x (boxes_of os) ≤ 1
level_disjoint [] s apart x = omega arith
level_disjoint (o ∷ os) s apart x = by_test (holds o.bx x) refl
    (level_disjoint os (sorted-tail ref_cmp o os s) (λ a b m n. apart a b (inr m) (inr n)) x) (cases_lt 0 (cover x (boxes_of os)))
  where
    by_test : (t : Bool) → holds o.bx x ≡ t → cover x (boxes_of os) ≤ 1 → (0 < cover x (boxes_of os)) ⊎ (cover x (boxes_of os) ≤ 0)
        → cover x (boxes_of (o ∷ os)) ≤ 1
    by_test false e rest more = let none = ap one e in omega (arith, cover-cons x o.bx (boxes_of os), none, rest)
    by_test true e rest (inr none) = let here = ap one e in omega (arith, cover-cons x o.bx (boxes_of os), here, none)
    by_test true e rest (inl more) =
        let r = member_covering x os more in
        let same : o ≡ r.0 = apart o r.0 (inl refl) (inr r.1) (Meet-cell (Holds-test e) (Holds-test r.2)) in
        let less = sorted-head ref_cmp o os s r.0 r.1 in
        absurd (not_before_itself o (subst (λ (p : Owned). ref_cmp o p ≡ Less) (sym same) less))

-- by owner first
less_owner : (a b : Owned) → a.owner < b.owner → ref_cmp a b ≡ Less
less_owner a b h =
    ap (λ (t : Ordering). ordering_then t (corner_cmp a.bx b.bx))
    (cond-true (nat_lt a.owner b.owner) Less (cond (a.owner == b.owner) Equal Greater) (lt-ltb a.owner b.owner h))

less_box : (rank : ℕ) (p q : Placed) → corner_cmp p.bx q.bx ≡ Less → ref_cmp (owned_by rank p) (owned_by rank q) ≡ Less
less_box rank p q e =
    ap (λ (t : Ordering). ordering_then t (corner_cmp p.bx q.bx)) (tied_itself nat_cmp_total rank) ∙ e

places_cover : (x : IVec) (p : Placed) (ps : List Placed) → Member p ps → holds p.bx x ≡ true → 0 < cover x (places_of ps)
places_cover x p [] m h = absurd m
places_cover x p (q ∷ ps) (inl e) h =
    let here = ap one (subst (λ (r : Placed). holds r.bx x ≡ true) e h) in
    omega (arith, cover-cons x q.bx (places_of ps), here)
places_cover x p (q ∷ ps) (inr m) h = omega (arith, cover-cons x q.bx (places_of ps), places_cover x p ps m h)

next_box : (q : Placed) (qs : List Placed) (p : Placed) → IsSolid q → ((x : IVec) → cover x (places_of (q ∷ qs)) ≤ 1) → Member p qs
    → (t : Ordering) → corner_cmp q.bx p.bx ≡ t → is_gt (ordering_then t (ref_cmp q.origin p.origin)) ≡ false → t ≡ Less
next_box q qs p full apart m Less e up = refl
next_box q qs p full apart m Equal e up =
    let same = same_from_corner_cmp q.bx p.bx e in
    let here : holds q.bx q.bx.lo ≡ true = holds-from (Holds-lo full) in
    let there : holds p.bx q.bx.lo ≡ true = subst (λ (b : Corners). holds b q.bx.lo ≡ true) same here in
    absurd (omega (arith, apart q.bx.lo, cover-cons q.bx.lo q.bx (places_of qs), ap one here, places_cover q.bx.lo p qs m there))
next_box q qs p full apart m Greater e up = absurd (false≢true (sym up))

-- pieces in order, no two with a common cell, ascend
ascending : (rank : ℕ) (qs : List Placed) → Rises piece_cmp piece_total qs → Each IsSolid qs → ((x : IVec) → cover x (places_of qs) ≤ 1)
    → IsStrictlySortedBy ref_cmp (map (owned_by rank) qs)
unfolding Rises
ascending rank [] up full apart = sorted-nil ref_cmp
ascending rank (q ∷ qs) up full apart =
    sorted-cons ref_cmp (owned_by rank q) (map (owned_by rank) qs)
    (λ o m.
    let r = Member-from_map (owned_by rank) o qs m in
    let less = next_box q qs r.0 (full q (inl refl)) apart r.1 (corner_cmp q.bx r.0.bx) refl (up.0 r.0 r.1) in
    subst (λ (p : Owned). ref_cmp (owned_by rank q) p ≡ Less) (sym r.2) (less_box rank q r.0 less))
    (ascending rank qs up.1 (each_tail IsSolid q qs full) (λ x. omega (arith, apart x, cover-cons x q.bx (places_of qs))))

-- lists of ranks, one after another
range_from : (a n r : ℕ) → Member r (range_with_len a n) → a ≤ r
range_from a zero r h = absurd h
range_from a (suc n) r (inl e) = omega (arith, e)
range_from a (suc n) r (inr h) = omega (arith, range_from (a + 1) n r h)

range_has : (a n r : ℕ) → a ≤ r → r < a + n → Member r (range_with_len a n)
range_has a zero r low high = absurd (omega arith)
range_has a (suc n) r low high = elim (cases_eq r a) [
  | inl here ↦ inl here
  | inr later ↦ inr (range_has (a + 1) n r (omega (arith, later)) (omega arith))
]

module _ (f : ℕ → List Owned) (owners : (r : ℕ) (o : Owned) → Member o (f r) → o.owner ≡ r) where
  ranks_ascend : (a n : ℕ) → ((r : ℕ) → r < a + n → IsStrictlySortedBy ref_cmp (f r)) → IsStrictlySortedBy ref_cmp (flat_map f (range_with_len a n))
  ranks_ascend a zero each = sorted-nil ref_cmp
  ranks_ascend a (suc n) each =
      sorted-append ref_cmp (f a) (flat_map f (range_with_len (a + 1) n)) (each a (omega arith))
      (ranks_ascend (a + 1) n (λ r h. each r (omega arith)))
      (λ o p m k.
      let r = Member-from_flat_map f p (range_with_len (a + 1) n) k in
      less_owner o p (omega (arith, owners a o m, owners r.0 p r.2, range_from (a + 1) n r.0 r.1)))

  own_append : (rank : ℕ) (os ps : List Owned) → own rank (os ++ ps) ≡ own rank os ++ own rank ps
  unfolding own
  own_append rank [] ps = refl
  own_append rank (o ∷ os) ps =
      cond_both (nat_eq o.owner rank) (o ∷ own rank os) (own rank os)
      (λ l. cond (nat_eq o.owner rank) (o ∷ own rank (os ++ ps)) (own rank (os ++ ps)) ≡ l ++ own rank ps)
      (λ yes. cond-true (nat_eq o.owner rank) (o ∷ own rank (os ++ ps)) (own rank (os ++ ps)) yes ∙ ap (λ (l : List Owned). o ∷ l) (own_append rank os ps))
      (λ no. cond-false (nat_eq o.owner rank) (o ∷ own rank (os ++ ps)) (own rank (os ++ ps)) no ∙ own_append rank os ps)

  own_all : (rank : ℕ) (os : List Owned) → ((o : Owned) → Member o os → o.owner ≡ rank) → own rank os ≡ os
  unfolding own
  own_all rank [] same = refl
  own_all rank (o ∷ os) same =
      cond-true (nat_eq o.owner rank) (o ∷ own rank os) (own rank os) (eq-eqb o.owner rank (same o (inl refl)))
      ∙ ap (λ (l : List Owned). o ∷ l) (own_all rank os (λ p m. same p (inr m)))

  own_none : (rank : ℕ) (os : List Owned) → ((o : Owned) → Member o os → o.owner ≡ rank → ⊥) → own rank os ≡ []
  unfolding own
  own_none rank [] other = refl
  own_none rank (o ∷ os) other =
      cond-false (nat_eq o.owner rank) (o ∷ own rank os) (own rank os) (ne_eqb o.owner rank (other o (inl refl)))
      ∙ own_none rank os (λ p m. other p (inr m))

  own_later : (rank a n : ℕ) → rank < a → own rank (flat_map f (range_with_len a n)) ≡ []
  own_later rank a n before =
      own_none rank (flat_map f (range_with_len a n))
      (λ o m e.
      let r = Member-from_flat_map f o (range_with_len a n) m in
      omega (arith, before, e, owners r.0 o r.2, range_from a n r.0 r.1))

  own_in_range : (rank a n : ℕ) → a ≤ rank → rank < a + n → own rank (flat_map f (range_with_len a n)) ≡ f rank
  own_in_range rank a zero low high = absurd (omega arith)
  own_in_range rank a (suc n) low high = own_append rank (f a) (flat_map f (range_with_len (a + 1) n)) ∙ by_first (cases_eq a rank)
      (λ later. own_in_range rank (a + 1) n (omega (arith, later)) (omega arith))
    where
      by_first : (a ≡ rank) ⊎ (a ≡ rank → ⊥) → ((a ≡ rank → ⊥) → own rank (flat_map f (range_with_len (a + 1) n)) ≡ f rank)
          → own rank (f a) ++ own rank (flat_map f (range_with_len (a + 1) n)) ≡ f rank
      by_first (inl here) rest =
          ap (λ (l : List Owned). l ++ own rank (flat_map f (range_with_len (a + 1) n)))
          (own_all rank (f a) (λ o m. owners a o m ∙ here) ∙ ap f here)
          ∙ ap (λ (l : List Owned). f rank ++ l) (own_later rank (a + 1) n (omega (arith, here)))
          ∙ append-nil (f rank)
      by_first (inr other) rest =
          ap (λ (l : List Owned). l ++ own rank (flat_map f (range_with_len (a + 1) n)))
          (own_none rank (f a) (λ o m e. other (sym (owners a o m) ∙ e)))
          ∙ rest other

-- a box of a level is there once
same_none : (o : Owned) (cs : List Owned) → ((c : Owned) → Member c cs → ref_cmp c o ≡ Equal → ⊥) → same_as o cs ≡ []
same_none o [] other = refl
same_none o (c ∷ cs) other =
    cond-false (is_eq (ref_cmp c o)) (c ∷ same_as o cs) (same_as o cs) (not_equal (ref_cmp c o) (other c (inl refl)))
    ∙ same_none o cs (λ d m. other d (inr m))
  where
    not_equal : (t : Ordering) → (t ≡ Equal → ⊥) → is_eq t ≡ false
    not_equal Less h = refl
    not_equal Equal h = absurd (h refl)
    not_equal Greater h = refl

same_once : (o : Owned) (cs : List Owned) → IsStrictlySortedBy ref_cmp cs → Member o cs → same_as o cs ≡ o ∷ []
same_once o [] s m = absurd m
same_once o (c ∷ cs) s (inl e) =
    let tied : ref_cmp c o ≡ Equal = ap (ref_cmp c) e ∙ tied_itself ref_total c in
    cond-true (is_eq (ref_cmp c o)) (c ∷ same_as o cs) (same_as o cs) (ap is_eq tied)
    ∙ ap (λ (l : List Owned). c ∷ l)
    (same_none o cs (λ d m k.
    let same : d ≡ c = same_from_ref_cmp d o k ∙ e in
    not_before_itself c (subst (λ (p : Owned). ref_cmp c p ≡ Less) same (sorted-head ref_cmp c cs s d m))))
    ∙ ap (λ (p : Owned). p ∷ []) (sym e)
same_once o (c ∷ cs) s (inr m) =
    let less = sorted-head ref_cmp c cs s o m in
    cond-false (is_eq (ref_cmp c o)) (c ∷ same_as o cs) (same_as o cs) (ap is_eq less)
    ∙ same_once o cs (sorted-tail ref_cmp c cs s) m

module _ (area : Area) (ranks smallest : ℕ) (boxes : List Owned) (some : 0 < smallest) (level : IsLevel area ranks boxes) where
  abbrev b : Balancing
  b = balancing ranks smallest boxes

  abbrev lists : ℕ → List Owned
  lists r = map (owned_by r) (pieces_of b r)

  kept : AreAllCells boxes (all_pieces b)
  kept = all_cells (quota_of (cells_in boxes) ranks) ranks smallest boxes some level.not_empty level.owners

  once : (x : IVec) → cover x (boxes_of boxes) ≤ 1
  once x = level_disjoint boxes level.in_order level.disjoint x

  owners_are : (r : ℕ) (o : Owned) → Member o (lists r) → o.owner ≡ r
  owners_are r o m = let q = Member-from_map (owned_by r) o (pieces_of b r) m in ap (λ (p : Owned). p.owner) q.2

  in_all : (r : ℕ) (q : Placed) → r < ranks → Member q (pieces_of b r) → Member q (all_pieces b)
  in_all r q inside m = Member-flat_map (pieces_of b) q r (range_with_len 0 ranks) (range_has 0 ranks r (omega arith) (omega arith)) m

  rank_once : (r : ℕ) → r < ranks → (x : IVec) → cover x (places_of (pieces_of b r)) ≤ 1
  rank_once r inside x =
      let part = sum_member (λ s. total (has x) (pieces_of b s)) ranks r inside in
      omega (arith, once x, kept.cells x, cover-places x (all_pieces b), total-all_pieces (has x) b, part, cover-places x (pieces_of b r))

  -- a box of the balanced list, as a piece of a rank
  record Behind (o : Owned) : Type 0 where
    rank : ℕ
    piece : Placed
    inside : rank < ranks
    there : Member piece (all_pieces b)
    is : o ≡ owned_by rank piece

  behind : (o : Owned) → Member o (balanced ranks smallest boxes) → Behind o
  behind o m =
      let r = Member-from_flat_map lists o (range_with_len 0 ranks) m in
      let q = Member-from_map (owned_by r.0) o (pieces_of b r.0) r.2 in
      let inside : r.0 < ranks = omega (arith, range_below 0 ranks r.0 r.1) in
      record { rank = r.0; piece = q.0; inside = inside; there = in_all r.0 q.0 inside q.1; is = q.2 }

  level_order : IsStrictlySortedBy ref_cmp (balanced ranks smallest boxes)
  level_order =
      ranks_ascend lists owners_are 0 ranks
      (λ r inside.
      let here : r < ranks = omega (arith, inside) in
      ascending r (pieces_of b r) (sorted_rises piece_cmp piece_total (down b r).left)
      (λ q m. kept.not_empty q (in_all r q here m)) (rank_once r here))

  pub is_level : IsLevel area ranks (balanced ranks smallest boxes)
  is_level = record {
    in_order = level_order;
    not_empty = λ o m.
        let h = behind o m in
        subst (λ (p : Owned). AtMost p.bx.lo p.bx.hi) (sym h.is) (kept.not_empty h.piece h.there);
    inside = λ o x m holds_x.
        let h = behind o m in
        let in_piece = subst (λ (p : Owned). Holds p.bx x) h.is holds_x in
        level.inside h.piece.origin x (kept.origins h.piece h.there) (kept.inside h.piece x h.there in_piece);
    disjoint = λ o p m n meet.
        let h = behind o m in
        let k = behind p n in
        let full : AtMost o.bx.lo o.bx.hi = subst (λ (p : Owned). AtMost p.bx.lo p.bx.hi) (sym h.is) (kept.not_empty h.piece h.there) in
        let full' : AtMost p.bx.lo p.bx.hi = subst (λ (p : Owned). AtMost p.bx.lo p.bx.hi) (sym k.is) (kept.not_empty k.piece k.there) in
        let cell = (meets-means o.bx p.bx full full').0 (meets-from meet) in
        one_member cell.0 (balanced ranks smallest boxes) o p m n (holds-from cell.1) (holds-from cell.2)
        (omega (arith, once cell.0, level_kept ranks smallest boxes cell.0 some (λ o h. (level.not_empty o h, level.owners o h))));
    owners = λ o m.
        let h = behind o m in
        subst (λ (p : Owned). p.owner < ranks) (sym h.is) h.inside;
  }

  pub balanced_level : IsBalanced area ranks smallest boxes
  balanced_level = record {
    level = is_level;
    own_part = λ rank inside. own_in_range lists owners_are rank 0 ranks (omega arith) (omega (arith, inside));
    once = λ o m. same_once o boxes level.in_order m;
  }
