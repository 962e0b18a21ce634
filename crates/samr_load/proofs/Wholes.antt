-- The whole list of boxes and the pieces of all ranks.
use Rattle.std.proofs.Common.{◌≡◌, ℕ, zero, suc, ◌+◌, ◌<◌, ◌≤◌, refl, sym, ap, subst, ◌∙◌, inl, inr, arith, nat_lt, nat_eq}
use Rattle.std.proofs.lemmas.Int.{ints}
use Rattle.std.proofs.lemmas.List.{map-append}
use Rattle.std.proofs.lemmas.Bool.{cond_both, cases_order, lt-ltb, le-ltb, eq-eqb, ne_eqb}
use Rattle.std.specs.Prelude.{cond, List, [], ◌∷◌, ◌++◌, map}
use Rattle.std.specs.List.{flat_map, range_with_len}
use Rattle.std.specs.Ordering.{is_eq}
use Rattle.samr_box.specs.declared.vector.IVec.{IVec}
use Rattle.samr_box.specs.Vector.{AtMost}
use Rattle.samr_box.specs.Corners.{Holds}
use Rattle.samr_box.specs.Lists.{Member}
use Rattle.samr_box.proofs.CellSets.{Holds-before, Holds-from_plane}
use Rattle.samr_box.proofs.Members.{Member-from_map, Member-from_filter, Member-from_flat_map}
use Rattle.samr_bits.specs.Sums.{sum_below}
use Rattle.samr_bits.proofs.Sums.{sum_ext, sum_none, sum_plus, sum_append, sum_one}
use Rattle.samr_boxlist.specs.Covers.{cover}
use Rattle.samr_boxlist.proofs.Covering.{cover-cons, cover-append}
use Rattle.samr_level.specs.Refs.{Owned}
use Rattle.samr_level.specs.RefOrders.{ref_cmp}
use Rattle.samr_level.specs.Levels.{own}
use Rattle.samr_load.specs.Pieces.{Placed, whole, total, size_of, load, of_origin}
use Rattle.samr_load.specs.Ascent.{Balancing}
use Rattle.samr_load.specs.Descent.{pieces_of}
use Rattle.samr_load.specs.Balanced.{balancing_by, balancing, quota_of, cells_in, all_pieces, owned_by, balanced}
use Rattle.samr_load.specs.Laws.{AreOwned, boxes_of, places_of, same_as, AreAllCells}
use Rattle.samr_load.proofs.Totals.{Each, total-append, total-filter}
use Rattle.samr_load.proofs.Parting.{IsSolid, SharesOut, Inherits}
use Rattle.samr_load.proofs.Shapes.{has, has_shared, cells_shared, origin_shared, solid_inherits}
use Rattle.samr_load.proofs.Descents.{pieces_each}
use Rattle.samr_load.proofs.Keeping.{balance_keeps}

-- sums over a range as a list
total-range : (m : Placed → ℕ) (f : ℕ → List Placed) (a n : ℕ) → total m (flat_map f (range_with_len a n)) ≡ sum_below (λ r. total m (f (a + r))) n
total-range m f a zero = refl
total-range m f a (suc n) =
    let here = total-append m (f a) (flat_map f (range_with_len (a + 1) n)) in
    let rest = total-range m f (a + 1) n in
    let g : ℕ → ℕ = λ r. total m (f (a + r)) in
    let order : suc n ≡ 1 + n = omega arith in
    let split = ap (sum_below g) order ∙ sum_append g 1 n in
    let first : g 0 ≡ total m (f a) = ap (λ (r : ℕ). total m (f r)) (omega arith) in
    let next = sum_ext (λ r. total m (f ((a + 1) + r))) (λ r. g (1 + r)) n
    (λ r p. ap (λ (k : ℕ). total m (f k)) (omega arith)) in
    omega (arith, here, rest, split, sum_one g, first, next)

pub total-all_pieces : (m : Placed → ℕ) (b : Balancing) → total m (all_pieces b) ≡ sum_below (λ r. total m (pieces_of b r)) b.ranks
total-all_pieces m b =
    total-range m (pieces_of b) 0 b.ranks
    ∙ sum_ext (λ r. total m (pieces_of b (0 + r))) (λ r. total m (pieces_of b r)) b.ranks
    (λ r p. ap (λ (k : ℕ). total m (pieces_of b k)) (omega arith))

-- the boxes of each rank in turn are all boxes
sum_at : (owner v n : ℕ) → sum_below (λ r. cond (nat_eq owner r) v 0) n ≡ cond (nat_lt owner n) v 0
sum_at owner v zero = sym (ap (λ t. cond {A = ℕ} t v 0) (le-ltb owner 0 (omega arith)))
sum_at owner v (suc n) = elim (cases_order owner n) [
  | inl same ↦
      let before = sum_at owner v n ∙ ap (λ t. cond {A = ℕ} t v 0) (le-ltb owner n (omega (arith, same))) in
      let here = ap (λ t. cond {A = ℕ} t v 0) (eq-eqb owner n same) in
      let after = ap (λ t. cond {A = ℕ} t v 0) (lt-ltb owner (suc n) (omega (arith, same))) in
      omega (arith, before, here, after)
  | inr other ↦ elim other [
    | inl less ↦
        let before = sum_at owner v n ∙ ap (λ t. cond {A = ℕ} t v 0) (lt-ltb owner n less) in
        let here = ap (λ t. cond {A = ℕ} t v 0) (ne_eqb owner n (λ e. absurd (omega (arith, e, less)))) in
        let after = ap (λ t. cond {A = ℕ} t v 0) (lt-ltb owner (suc n) (omega (arith, less))) in
        omega (arith, before, here, after)
    | inr more ↦
        let before = sum_at owner v n ∙ ap (λ t. cond {A = ℕ} t v 0) (le-ltb owner n (omega (arith, more))) in
        let here = ap (λ t. cond {A = ℕ} t v 0) (ne_eqb owner n (λ e. absurd (omega (arith, e, more)))) in
        let after = ap (λ t. cond {A = ℕ} t v 0) (le-ltb owner (suc n) (omega (arith, more))) in
        omega (arith, before, here, after)
  ]
]

module _ (m : Placed → ℕ) where
  total_own : (o : Owned) (boxes : List Owned) (rank : ℕ)
      → total m (map whole (own rank (o ∷ boxes))) ≡ cond (nat_eq o.owner rank) (m (whole o)) 0 + total m (map whole (own rank boxes))
  unfolding own
  total_own o boxes rank =
      cond_both (nat_eq o.owner rank) (o ∷ own rank boxes) (own rank boxes)
      (λ l. total m (map whole l) ≡ cond (nat_eq o.owner rank) (m (whole o)) 0 + total m (map whole (own rank boxes)))
      (λ yes. let here = ap (λ t. cond {A = ℕ} t (m (whole o)) 0) yes in omega (arith, here))
      (λ no. let here = ap (λ t. cond {A = ℕ} t (m (whole o)) 0) no in omega (arith, here))

  sum_own : (ranks : ℕ) (o : Owned) (boxes : List Owned) → sum_below (λ r. total m (map whole (own r (o ∷ boxes)))) ranks
      ≡ cond (nat_lt o.owner ranks) (m (whole o)) 0 + sum_below (λ r. total m (map whole (own r boxes))) ranks
  sum_own ranks o boxes =
      let each = sum_ext (λ r. total m (map whole (own r (o ∷ boxes))))
      (λ r. cond (nat_eq o.owner r) (m (whole o)) 0 + total m (map whole (own r boxes))) ranks
      (λ r p. total_own o boxes r) in
      let both = sum_plus (λ r. cond (nat_eq o.owner r) (m (whole o)) 0) (λ r. total m (map whole (own r boxes))) ranks in
      omega (arith, each, both, sum_at o.owner (m (whole o)) ranks)

  pub all_owned : (ranks : ℕ) (boxes : List Owned) → ((o : Owned) → Member o boxes → o.owner < ranks)
      → sum_below (λ r. total m (map whole (own r boxes))) ranks ≡ total m (map whole boxes)
  unfolding own
  all_owned ranks [] inside = sum_none (λ r. 0) ranks (λ r p. refl)
  all_owned ranks (o ∷ boxes) inside =
      let here = ap (λ t. cond {A = ℕ} t (m (whole o)) 0) (lt-ltb o.owner ranks (inside o (inl refl))) in
      let rest = all_owned ranks boxes (λ p h. inside p (inr h)) in
      omega (arith, sum_own ranks o boxes, here, rest)

  -- also where some have no such owner
  pub some_owned : (ranks : ℕ) (boxes : List Owned) → sum_below (λ r. total m (map whole (own r boxes))) ranks ≤ total m (map whole boxes)
  unfolding own
  some_owned ranks [] = let none = sum_none (λ r. 0) ranks (λ r p. refl) in omega (arith, none)
  some_owned ranks (o ∷ boxes) =
      let here = cond_both (nat_lt o.owner ranks) (m (whole o)) 0 (λ v. v ≤ m (whole o)) (λ _. omega arith) (λ _. omega arith) in
      omega (arith, sum_own ranks o boxes, here, some_owned ranks boxes)

  -- the boxes that are this one
  pub total-same : (o : Owned) (boxes : List Owned)
      → total (λ q. cond (is_eq (ref_cmp q.origin o)) (m q) 0) (map whole boxes) ≡ total m (map whole (same_as o boxes))
  total-same o [] = refl
  total-same o (c ∷ boxes) =
      cond_both (is_eq (ref_cmp c o)) (c ∷ same_as o boxes) (same_as o boxes)
      (λ l. cond (is_eq (ref_cmp c o)) (m (whole c)) 0 + total (λ q. cond (is_eq (ref_cmp q.origin o)) (m q) 0) (map whole boxes) ≡ total m (map whole l))
      (λ yes. let here = ap (λ t. cond {A = ℕ} t (m (whole c)) 0) yes in omega (arith, here, total-same o boxes))
      (λ no. let here = ap (λ t. cond {A = ℕ} t (m (whole c)) 0) no in omega (arith, here, total-same o boxes))

-- how often a cell is covered, as a total
pub cover-places : (x : IVec) (qs : List Placed) → cover x (places_of qs) ≡ total (has x) qs
cover-places x [] = refl
cover-places x (q ∷ qs) = omega (arith, cover-cons x q.bx (places_of qs), cover-places x qs)

cover-boxes : (x : IVec) (boxes : List Owned) → cover x (boxes_of boxes) ≡ total (has x) (map whole boxes)
cover-boxes x [] = refl
cover-boxes x (o ∷ boxes) = omega (arith, cover-cons x o.bx (boxes_of boxes), cover-boxes x boxes)

-- the numbers of a range are below its end
pub range_below : (a n r : ℕ) → Member r (range_with_len a n) → r < a + n
range_below a zero r h = absurd h
range_below a (suc n) r (inl e) = omega (arith, e)
range_below a (suc n) r (inr h) = omega (arith, range_below (a + 1) n r h)

-- a piece of a box of the list
record IsPieceOf (boxes : List Owned) (q : Placed) : Type 0 where
  solid : AtMost q.bx.lo q.bx.hi
  origin : Member q.origin boxes
  inside : (x : IVec) → Holds q.bx x → Holds q.origin.bx x

piece_inherits : (boxes : List Owned) → Inherits (IsPieceOf boxes)
piece_inherits boxes axis q plane c h =
    let both = solid_inherits axis q plane c h.solid in (
      record {
        solid = both.0;
        origin = h.origin;
        inside = λ x p. h.inside x ((Holds-before axis q.bx plane x c.high).0 p).0;
      },
      record {
        solid = both.1;
        origin = h.origin;
        inside = λ x p. h.inside x ((Holds-from_plane axis q.bx plane x (omega (arith, ints, c.low))).0 p).0;
      },
    )

-- a list of boxes on all ranks
module _ (quota : ℕ → ℕ) (ranks smallest : ℕ) (boxes : List Owned) (some : 0 < smallest) where
  abbrev whole_list : Balancing
  whole_list = balancing_by quota ranks smallest boxes

  module _ (full : (o : Owned) → Member o boxes → AtMost o.bx.lo o.bx.hi) where
    own_pieces : (rank : ℕ) → Each (IsPieceOf boxes) (map whole (own rank boxes))
    unfolding own
    own_pieces rank q h =
        let o = Member-from_map whole q (own rank boxes) h in
        let there = (Member-from_filter (λ c. nat_eq c.owner rank) o.0 boxes o.1).0 in
        let it : IsPieceOf boxes (whole o.0) = record { solid = full o.0 there; origin = there; inside = λ x p. p } in
        subst (IsPieceOf boxes) (sym o.2) it

    pub own_solid : (rank : ℕ) → rank < ranks → Each IsSolid (whole_list.own rank)
    own_solid rank inside q h = (own_pieces rank q h).solid

    all_pieces_are : Each (IsPieceOf boxes) (all_pieces whole_list)
    all_pieces_are q h =
        let r = Member-from_flat_map (pieces_of whole_list) q (range_with_len 0 ranks) h in
        let inside = range_below 0 ranks r.0 r.1 in
        pieces_each whole_list (IsPieceOf boxes) (piece_inherits boxes) (λ p k. k.solid) some (λ rank p. own_pieces rank) r.0 (omega (arith, inside)) q r.2

    module _ (owned : (o : Owned) → Member o boxes → o.owner < ranks) where
      -- what a cut shares out is kept
      all_kept : (m : Placed → ℕ) → SharesOut m → total m (all_pieces whole_list) ≡ total m (map whole boxes)
      all_kept m shares =
          total-all_pieces m whole_list
          ∙ balance_keeps whole_list some own_solid m shares
          ∙ all_owned m ranks boxes owned

      one_kept : (m : Placed → ℕ) → SharesOut m → (o : Owned)
          → total m (of_origin o (all_pieces whole_list)) ≡ total m (map whole (same_as o boxes))
      one_kept m shares o =
          total-filter m (λ q. is_eq (ref_cmp q.origin o)) (all_pieces whole_list)
          ∙ all_kept (λ q. cond (is_eq (ref_cmp q.origin o)) (m q) 0)
          (origin_shared (λ q. is_eq (ref_cmp q.origin o)) (λ q b. refl) m shares)
          ∙ total-same m o boxes

      kept_cells : (x : IVec) → cover x (places_of (all_pieces whole_list)) ≡ cover x (boxes_of boxes)
      kept_cells x = cover-places x (all_pieces whole_list) ∙ all_kept (has x) (has_shared x) ∙ sym (cover-boxes x boxes)

      pub all_cells : AreAllCells boxes (all_pieces whole_list)
      all_cells = record {
        cells = kept_cells;
        disjoint = λ apart x. omega (arith, kept_cells x, apart x);
        not_empty = λ q h. (all_pieces_are q h).solid;
        origins = λ q h. (all_pieces_are q h).origin;
        inside = λ q x h p. (all_pieces_are q h).inside x p;
        cells_of_one = λ o x.
            cover-places x (of_origin o (all_pieces whole_list)) ∙ one_kept (has x) (has_shared x) o ∙ sym (cover-boxes x (same_as o boxes));
        load_of_one = λ o. one_kept size_of cells_shared o;
      }

-- the boxes of the balanced list are those of the pieces
cover-owned : (x : IVec) (rank : ℕ) (qs : List Placed) → cover x (boxes_of (map (owned_by rank) qs)) ≡ cover x (places_of qs)
cover-owned x rank [] = refl
cover-owned x rank (q ∷ qs) =
    omega (arith, cover-cons x q.bx (boxes_of (map (owned_by rank) qs)), cover-cons x q.bx (places_of qs), cover-owned x rank qs)

cover-boxes_append : (x : IVec) (as' bs : List Owned) → cover x (boxes_of (as' ++ bs)) ≡ cover x (boxes_of as') + cover x (boxes_of bs)
cover-boxes_append x as' bs =
    ap (cover x) (map-append (λ (o : Owned). o.bx) as' bs) ∙ cover-append x (boxes_of as') (boxes_of bs)

cover-places_append : (x : IVec) (ps qs : List Placed) → cover x (places_of (ps ++ qs)) ≡ cover x (places_of ps) + cover x (places_of qs)
cover-places_append x ps qs =
    ap (cover x) (map-append (λ (q : Placed). q.bx) ps qs) ∙ cover-append x (places_of ps) (places_of qs)

cover-ranks : (x : IVec) (f : ℕ → List Placed) (ranks : List ℕ)
    → cover x (boxes_of (flat_map (λ r. map (owned_by r) (f r)) ranks)) ≡ cover x (places_of (flat_map f ranks))
cover-ranks x f [] = refl
cover-ranks x f (r ∷ ranks) =
    omega (
      arith,
      cover-boxes_append x (map (owned_by r) (f r)) (flat_map (λ s. map (owned_by s) (f s)) ranks),
      cover-places_append x (f r) (flat_map f ranks),
      cover-owned x r (f r),
      cover-ranks x f ranks,
    )

pub level_kept : (ranks smallest : ℕ) (boxes : List Owned) (x : IVec) → 0 < smallest → AreOwned ranks boxes
    → cover x (boxes_of (balanced ranks smallest boxes)) ≡ cover x (boxes_of boxes)
level_kept ranks smallest boxes x some owned =
    let quota : ℕ → ℕ = quota_of (cells_in boxes) ranks in
    cover-ranks x (pieces_of (balancing ranks smallest boxes)) (range_with_len 0 ranks)
    ∙ (all_cells quota ranks smallest boxes some (λ o h. (owned o h).0) (λ o h. (owned o h).1)).cells x

-- the balance of a list has it as own boxes, so no rank has more cells than the list
pub own_load : (ranks smallest : ℕ) (boxes : List Owned)
    → sum_below (λ r. load ((balancing ranks smallest boxes).own r)) ranks ≤ cells_in boxes
own_load ranks smallest boxes = some_owned size_of ranks boxes
