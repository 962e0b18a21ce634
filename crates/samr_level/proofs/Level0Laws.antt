-- Level 0 is a level, and has exactly the cells of its domain.
use Rattle.std.proofs.Common.{◌≡◌, ℕ, zero, suc, ◌+◌, ◌*◌, ◌<◌, ◌≤◌, refl, sym, ap, subst, ◌∙◌, inl, inr, length, get_or, take, arith}
use Rattle.std.proofs.lemmas.Bool.{cases_lt, cond_both, cond-true}
use Rattle.std.proofs.Math.Nat.{div-lt_iff_lt-mul, mul-le-mul_right}
use Rattle.std.specs.Prelude.{pos, List, [], ◌∷◌, ◌++◌, filter, Bool, true, IsTrue, ◌↔◌, ◌==◌}
use Rattle.std.proofs.lemmas.List.{length-append}
use Rattle.samr_box.specs.declared.vector.IVec.{IVec}
use Rattle.samr_box.specs.Vector.{alike, AtMost}
use Rattle.samr_box.specs.Corners.{Corners, IsBox, Holds, Meet, meets, holds_box}
use Rattle.samr_box.specs.Space.{whole}
use Rattle.samr_box.specs.Lists.{Member}
use Rattle.samr_box.proofs.Members.{Member-from_append, Member-flat_map, member_of_All}
use Rattle.samr_box.proofs.CellSets.{Meet-cell, meets-from, meets-means, holds_box-means, Holds-lo}
use Rattle.samr_box.proofs.Ranges.{IsBox-whole}
use Rattle.samr_boxlist.specs.Covers.{NoneMeet}
use Rattle.samr_level.specs.Refs.{Owned}
use Rattle.samr_level.specs.RefOrders.{ref_cmp, in_order}
use Rattle.samr_level.specs.Regions.{Area, IsArea, boxes_of, IsCellOf}
use Rattle.samr_level.specs.Levels.{IsLevel, IsCellIn}
use Rattle.samr_level.specs.Blocks.{place, block_at, blocks_of, blocks_in, owner_of, with_owners, level0, IsBlocking}
use Rattle.samr_level.specs.Cuts.{Cut, member_at}
use Rattle.samr_level.proofs.RefLaws.{ref_total, same_from_ref_cmp}
use Rattle.samr_level.proofs.Sorting.{Member-in_order, Member-from_in_order, sorted-in_order}
use Rattle.samr_level.proofs.BlockPlaces.{IsBox-block_at}
use Rattle.samr_level.proofs.BlockNumbers.{numbered, numbered-append, box_members}
use Rattle.samr_level.proofs.BlockCells.{IsAt, Member-over_places, Member-from_over_places, place_at, block-within, block-around, one_place}

-- the boxes of a domain
pub boxes-facts : (a : Area) → IsArea a → (p : Corners) → Member p (boxes_of a) → IsBox p × IsTrue (holds_box (whole a.frame) p)
boxes-facts a h =
    cond_both (length a.parts == 0) (whole a.frame ∷ []) a.parts (λ l. (p : Corners) → Member p l → IsBox p × IsTrue (holds_box (whole a.frame) p))
    (λ yes p m. elim m [
      | inl e ↦
          let w = IsBox-whole a.frame h.frame in (
            subst (λ (v : Corners). IsBox v) (sym e) w,
            subst (λ (v : Corners). IsTrue (holds_box (whole a.frame) v)) (sym e) ((holds_box-means (whole a.frame) (whole a.frame) w.order).1 (λ x q. q)),
          )
      | inr none ↦ absurd none
    ])
    (λ no p m. (member_of_All IsBox p a.parts h.boxes m, member_of_All (λ p. IsTrue (holds_box (whole a.frame) p)) p a.parts h.inside m))

one_apart : (b : Corners) → NoneMeet (b ∷ [])
one_apart b i j d less below = absurd (omega (arith, less, below))

pub boxes-apart : (a : Area) → IsArea a → NoneMeet (boxes_of a)
boxes-apart a h = cond_both (length a.parts == 0) (whole a.frame ∷ []) a.parts (λ l. NoneMeet l) (λ yes. one_apart (whole a.frame)) (λ no. h.apart)

-- members of numbered boxes
pub numbered_box : (count ranks n : ℕ) (bs : List Corners) (b : Owned) → Member b (numbered count ranks n bs) → Member b.bx bs
numbered_box count ranks n [] b m = absurd m
numbered_box count ranks n (c ∷ bs) b (inl e) = inl (ap (λ (o : Owned). o.bx) e)
numbered_box count ranks n (c ∷ bs) b (inr m) = inr (numbered_box count ranks (n + 1) bs b m)

pub box_numbered : (count ranks n : ℕ) (bs : List Corners) (c : Corners) → Member c bs → (b : Owned) × Member b (numbered count ranks n bs) × (b.bx ≡ c)
box_numbered count ranks n [] c m = absurd m
box_numbered count ranks n (d ∷ bs) c (inl e) = (record { owner = owner_of count ranks n; bx = d }, inl refl, sym e)
box_numbered count ranks n (d ∷ bs) c (inr m) = let r = box_numbered count ranks (n + 1) bs c m in (r.0, inr r.1, r.2)

owner_below : (count ranks n : ℕ) → 0 < ranks → n < count → owner_of count ranks n < ranks
owner_below count ranks n some below =
    let more : 0 < count = omega (arith, below) in
    let step : (n + 1) * ranks ≤ count * ranks = mul-le-mul_right ranks (omega (arith, below)) in
    (div-lt_iff_lt-mul more).1 (omega (arith, some, step))

pub owners_below : (count ranks n : ℕ) (bs : List Corners) (b : Owned) → 0 < ranks → n + length bs ≤ count → Member b (numbered count ranks n bs) → b.owner < ranks
owners_below count ranks n [] b some room m = absurd m
owners_below count ranks n (c ∷ bs) b some room (inl e) =
    subst (λ (k : ℕ). k < ranks) (sym (ap (λ (o : Owned). o.owner) e)) (owner_below count ranks n some (omega (arith, room)))
owners_below count ranks n (c ∷ bs) b some room (inr m) = owners_below count ranks (n + 1) bs b some (omega (arith, room)) m

-- where a member lies: the place of its box in the list, and its own place there
pub record IsLocated (count ranks n : ℕ) (block : IVec) (boxes : List Corners) (d : Corners) (b : Owned) : Type 0 where
  pub i : ℕ
  pub x : ℕ
  pub y : ℕ
  pub z : ℕ
  pub within : i < length boxes
  pub at_place : IsAt block (get_or boxes i d) x y z
  pub is : b ≡ member_at (record { bx = get_or boxes i d; block = block; first = n + length (blocks_in block (take i boxes)); count = count; ranks = ranks }) x y z

same_first : (count ranks n m : ℕ) (block : IVec) (p : Corners) (x y z : ℕ) → n ≡ m
    → member_at (record { bx = p; block = block; first = n; count = count; ranks = ranks }) x y z
    ≡ member_at (record { bx = p; block = block; first = m; count = count; ranks = ranks }) x y z
same_first count ranks n m block p x y z e =
    ap (λ (k : ℕ). member_at (record { bx = p; block = block; first = k; count = count; ranks = ranks }) x y z) e

pub located : (count ranks n : ℕ) (block : IVec) (boxes : List Corners) (d : Corners) (b : Owned) → Member b (numbered count ranks n (blocks_in block boxes))
    → IsLocated count ranks n block boxes d b
located count ranks n block [] d b m = absurd m
located count ranks n block (p ∷ ps) d b m =
    let split = subst (λ (l : List Owned). Member b l) (numbered-append count ranks n (blocks_of block p) (blocks_in block ps)) m in
    elim (Member-from_append b (numbered count ranks n (blocks_of block p)) (numbered count ranks (n + length (blocks_of block p)) (blocks_in block ps)) split) [
      | inl here ↦
          let c : Cut = record { bx = p; block = block; first = n; count = count; ranks = ranks } in
          let r = Member-from_over_places block p (λ x y z. member_at c x y z) b (subst (λ (l : List Owned). Member b l) (box_members c) here) in
          record {
            i = 0;
            x = r.0;
            y = r.1;
            z = r.2;
            within = omega arith;
            at_place = r.3;
            is = r.4 ∙ same_first count ranks n (n + 0) block p r.0 r.1 r.2 (omega arith);
          }
      | inr later ↦
          let r = located count ranks (n + length (blocks_of block p)) block ps d b later in
          let e = length-append (blocks_of block p) (blocks_in block (take r.i ps)) in
          record {
            i = suc r.i;
            x = r.x;
            y = r.y;
            z = r.z;
            within = omega (arith, r.within);
            at_place = r.at_place;
            is = r.is
                ∙ same_first count ranks ((n + length (blocks_of block p)) + length (blocks_in block (take r.i ps))) (n + length (blocks_of block p ++ blocks_in block (take r.i ps)))
                block (get_or ps r.i d) r.x r.y r.z (omega (arith, e));
          }
    ]

Member-get_or : (boxes : List Corners) (i : ℕ) (d : Corners) → i < length boxes → Member (get_or boxes i d) boxes
Member-get_or [] i d below = absurd (omega (arith, below))
Member-get_or (p ∷ ps) zero d below = inl refl
Member-get_or (p ∷ ps) (suc i) d below = inr (Member-get_or ps i d (omega (arith, below)))

-- a cell lies in one block only
module _ (block : IVec) (boxes : List Corners) (low : AtMost (alike (pos 1)) block) (full : (p : Corners) → Member p boxes → AtMost p.lo p.hi) (apart : NoneMeet boxes) where
  in_box : (i : ℕ) (d : Corners) (x y z : ℕ) (v : IVec) → i < length boxes → IsAt block (get_or boxes i d) x y z
      → Holds (block_at block (get_or boxes i d) (place x y z)) v → Holds (get_or boxes i d) v
  in_box i d x y z v below q h =
      block-within block (get_or boxes i d) (place x y z) v low (place_at low (full (get_or boxes i d) (Member-get_or boxes i d below)) q) h

  same_box : (i j : ℕ) (d : Corners) (v : IVec) → i < length boxes → j < length boxes → Holds (get_or boxes i d) v → Holds (get_or boxes j d) v → i ≡ j
  same_box i j d v p q h g =
      elim (cases_lt i j) [
        | inl less ↦ absurd (apart i j d less q (Meet-cell h g))
        | inr more ↦ elim (cases_lt j i) [
          | inl less ↦ absurd (apart j i d less p (Meet-cell g h))
          | inr back ↦ omega (arith, more, back)
        ]
      ]

  one_block : (i j : ℕ) (d : Corners) (x y z x' y' z' : ℕ) (v : IVec) → i < length boxes → j < length boxes
      → IsAt block (get_or boxes i d) x y z → IsAt block (get_or boxes j d) x' y' z'
      → Holds (block_at block (get_or boxes i d) (place x y z)) v → Holds (block_at block (get_or boxes j d) (place x' y' z')) v
      → (i ≡ j) × ((x ≡ x') × (y ≡ y') × (z ≡ z'))
  one_block i j d x y z x' y' z' v p q a b h g =
      let e = same_box i j d v p q (in_box i d x y z v p a h) (in_box j d x' y' z' v q b g) in
      let There : ℕ → Type 0 = λ k. Holds (block_at block (get_or boxes k d) (place x' y' z')) v in
      (e, one_place block (get_or boxes i d) v x y z x' y' z' low h (subst There (sym e) g))

  block_full : (i : ℕ) (d : Corners) (x y z : ℕ) → IsBox (get_or boxes i d) → i < length boxes → AtMost block (alike (pos 1073741824)) → IsAt block (get_or boxes i d) x y z
      → IsBox (block_at block (get_or boxes i d) (place x y z))
  block_full i d x y z bx below high q =
      IsBox-block_at block (get_or boxes i d) (place x y z) (record { low = low; high = high }) bx (place_at low (full (get_or boxes i d) (Member-get_or boxes i d below)) q)

-- members of level 0 on their way into order
module _ (area : Area) (block : IVec) (ranks : ℕ) (is : IsArea area) (blocking : IsBlocking block (boxes_of area)) where
  all_full : (p : Corners) → Member p (boxes_of area) → AtMost p.lo p.hi
  all_full p m = (boxes-facts area is p m).0.order

  pub home : (b : Owned) → Member b (with_owners ranks (blocks_in block (boxes_of area)))
      → IsLocated (length (blocks_in block (boxes_of area))) ranks 0 block (boxes_of area) b.bx b
  unfolding with_owners
  home b m = located (length (blocks_in block (boxes_of area))) ranks 0 block (boxes_of area) b.bx b m

  box_is : (d : Corners) (b : Owned) (h : IsLocated (length (blocks_in block (boxes_of area))) ranks 0 block (boxes_of area) d b)
      → b.bx ≡ block_at block (get_or (boxes_of area) h.i d) (place h.x h.y h.z)
  unfolding member_at
  box_is d b h = ap (λ (o : Owned). o.bx) h.is

  pub member_is_box : (b : Owned) → Member b (with_owners ranks (blocks_in block (boxes_of area))) → IsBox b.bx
  member_is_box b m =
      let h = home b m in
      let in_list = Member-get_or (boxes_of area) h.i b.bx h.within in
      subst (λ (c : Corners). IsBox c) (sym (box_is b.bx b h))
      (block_full block (boxes_of area) blocking.low all_full (boxes-apart area is) h.i b.bx h.x h.y h.z (boxes-facts area is (get_or (boxes_of area) h.i b.bx) in_list).0 h.within blocking.high h.at_place)

  pub member_inside : (b : Owned) (v : IVec) → Member b (with_owners ranks (blocks_in block (boxes_of area))) → Holds b.bx v → IsCellOf area v
  member_inside b v m q =
      let h = home b m in (
        get_or (boxes_of area) h.i b.bx,
        Member-get_or (boxes_of area) h.i b.bx h.within,
        in_box block (boxes_of area) blocking.low all_full (boxes-apart area is) h.i b.bx h.x h.y h.z v h.within h.at_place
            (subst (λ (c : Corners). Holds c v) (box_is b.bx b h) q),
      )

  -- all of them meet the frame
  pub members_in_frame : (b : Owned) → Member b (with_owners ranks (blocks_in block (boxes_of area))) → meets (whole area.frame) b.bx ≡ true
  members_in_frame b m =
      let full = (member_is_box b m).order in
      let r = member_inside b b.bx.lo m (Holds-lo full) in
      let f = boxes-facts area is r.0 r.1 in
      let inside = (holds_box-means (whole area.frame) r.0 f.0.order).0 f.1 b.bx.lo r.2 in
      meets-from {a = whole area.frame} {b = b.bx} (Meet-cell inside (Holds-lo full))

  mem : Corners → ℕ → ℕ → ℕ → ℕ → Owned
  mem d i x y z =
      member_at (record { bx = get_or (boxes_of area) i d; block = block; first = 0 + length (blocks_in block (take i (boxes_of area))); count = length (blocks_in block (boxes_of area)); ranks = ranks }) x y z

  same_mem : (d : Corners) (i j x y z x' y' z' : ℕ) → i ≡ j → x ≡ x' → y ≡ y' → z ≡ z' → mem d i x y z ≡ mem d j x' y' z'
  unfolding mem
  same_mem d i j x y z x' y' z' e f g h =
      ap (λ (k : ℕ). mem d k x y z) e ∙ ap (λ (k : ℕ). mem d j k y z) f ∙ ap (λ (k : ℕ). mem d j x' k z) g ∙ ap (λ (k : ℕ). mem d j x' y' k) h

  pub members_apart : (a b : Owned) → Member a (with_owners ranks (blocks_in block (boxes_of area))) → Member b (with_owners ranks (blocks_in block (boxes_of area)))
      → Meet a.bx b.bx → a ≡ b
  unfolding mem with_owners
  members_apart a b m n meet =
      let d = a.bx in
      let p = located (length (blocks_in block (boxes_of area))) ranks 0 block (boxes_of area) d a m in
      let q = located (length (blocks_in block (boxes_of area))) ranks 0 block (boxes_of area) d b n in
      let cell = (meets-means a.bx b.bx (member_is_box a m).order (member_is_box b n).order).0 (meets-from {a = a.bx} {b = b.bx} meet) in
      let one = one_block block (boxes_of area) blocking.low all_full (boxes-apart area is) p.i q.i d p.x p.y p.z q.x q.y q.z cell.0 p.within q.within p.at_place q.at_place
      (subst (λ (c : Corners). Holds c cell.0) (box_is d a p) cell.1) (subst (λ (c : Corners). Holds c cell.0) (box_is d b q) cell.2) in
      p.is ∙ same_mem d p.i q.i p.x p.y p.z q.x q.y q.z one.0 one.1.0 one.1.1 one.1.2 ∙ sym q.is

  pub IsLevel-level0 : 0 < ranks → IsLevel area ranks (level0 area block ranks)
  unfolding level0 with_owners
  IsLevel-level0 some =
      let bs = blocks_in block (boxes_of area) in
      let back : (b : Owned) → Member b (in_order ref_cmp (with_owners ranks bs)) → Member b (with_owners ranks bs) = λ b m. Member-from_in_order ref_total b (with_owners ranks bs) m in
      record {
        in_order = sorted-in_order ref_total (with_owners ranks bs);
        not_empty = λ b m. (member_is_box b (back b m)).order;
        inside = λ b v m h. member_inside b v (back b m) h;
        disjoint = λ a b m n meet. members_apart a b (back a m) (back b n) meet;
        owners = λ b m. owners_below (length bs) ranks 0 bs b some (omega arith) (back b m);
      }

  pub cells-level0 : (x : IVec) → IsCellIn (level0 area block ranks) x ↔ IsCellOf area x
  unfolding level0 with_owners blocks_of
  cells-level0 x =
      let bs = blocks_in block (boxes_of area) in (
        λ (b, m, h). member_inside b x (Member-from_in_order ref_total b (with_owners ranks bs) m) h,
        λ (p, m, h).
            let r = block-around block p x blocking.low h in
            let c = block_at block p (place r.0 r.1 r.2) in
            let in_blocks = Member-flat_map (λ p. blocks_of block p) c p (boxes_of area) m (Member-over_places block p (λ x y z. block_at block p (place x y z)) r.0 r.1 r.2 r.3) in
            let o = box_numbered (length bs) ranks 0 bs c in_blocks in
            (o.0, Member-in_order ref_total same_from_ref_cmp o.0 (with_owners ranks bs) o.1, subst (λ (v : Corners). Holds v x) (sym o.2) r.4),
      )

filter-all : {X : Type 0} (p : X → Bool) (xs : List X) → ((x : X) → Member x xs → p x ≡ true) → filter p xs ≡ xs
filter-all p [] h = refl
filter-all {X} p (x ∷ xs) h =
    cond-true (p x) (x ∷ filter p xs) (filter p xs) (h x (inl refl)) ∙ ap (λ (l : List X). x ∷ l) (filter-all p xs (λ y m. h y (inr m)))

pub all_in_frame : (area : Area) (block : IVec) (ranks : ℕ) → IsArea area → IsBlocking block (boxes_of area)
    → filter (λ b. meets (whole area.frame) b.bx) (with_owners ranks (blocks_in block (boxes_of area))) ≡ with_owners ranks (blocks_in block (boxes_of area))
all_in_frame area block ranks is blocking =
    filter-all (λ b. meets (whole area.frame) b.bx) (with_owners ranks (blocks_in block (boxes_of area))) (λ b m. members_in_frame area block ranks is blocking b m)
