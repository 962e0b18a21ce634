-- The patches with first values.
use Rattle.std.proofs.Common.{◌≡◌, ℕ, zero, suc, ◌+◌, refl, sym, ap, ◌∙◌, subst, arith, length}
use Rattle.std.proofs.lemmas.Int.{ints}
use Rattle.std.proofs.lemmas.Bool.{and_from, cond-true}
use Rattle.std.proofs.lemmas.List.{length-map}
use Rattle.std.proofs.lemmas.List.FromFn.{length-enumerate_from}
use Rattle.std.specs.Prelude.{pos, true, cond, List, [], ◌∷◌, map, filter, nat_eq, Some, None, slice_get}
use Rattle.std.specs.List.{All, enumerate_from}
use Rattle.samr_box.specs.declared.vector.IVec.{IVec}
use Rattle.samr_box.specs.Vector.{alike, AtMost, at_most, plus, minus}
use Rattle.samr_box.specs.Corners.{Corners, Holds, holds, holds_box, grown}
use Rattle.samr_box.specs.Lists.{Member}
use Rattle.samr_box.proofs.CellSets.{at_most-from, holds-from}
use Rattle.samr_box.proofs.Members.{member_of_All, All-from_members, Member-from_filter, Member-from_map}
use Rattle.samr_level.specs.Refs.{Owned}
use Rattle.samr_level.specs.Levels.{own}
use Rattle.samr_data.specs.Values.{listed, value_in}
use Rattle.samr_data.specs.Grids.{Grid, over, value_at, grid_of, written, copied}
use Rattle.samr_data.proofs.Lists.{listed_same, value_in-listed}
use Rattle.samr_data.proofs.PlaceLaws.{part_Holds}
use Rattle.samr_trials_levels.specs.Kept.{kept}
use Rattle.samr_trials_levels.specs.First.{first_value, first_patch, first_field, first_fields, HasRoom, HasRooms}
use Rattle.samr_trials_levels.proofs.KeptLaws.{All-kept}

-- a box lies in itself grown
pub box_grown : (b : Corners) (w : IVec) → AtMost (alike (pos 0)) w → holds_box (grown b w) b ≡ true
box_grown b w p =
    and_from (at_most (minus b.lo w) b.lo) (at_most b.hi (plus b.hi w))
    (at_most-from {a = minus b.lo w} {b = b.lo} (record { k = omega (arith, ints, p.k); j = omega (arith, ints, p.j); i = omega (arith, ints, p.i) }))
    (at_most-from {a = b.hi} {b = plus b.hi w} (record { k = omega (arith, ints, p.k); j = omega (arith, ints, p.j); i = omega (arith, ints, p.i) }))

pub box_inside : (p : Grid) (b : Corners) (w : IVec) → AtMost (alike (pos 0)) w → p ≡ grid_of b w (λ _. 0) → holds_box (over p) b ≡ true
box_inside p b w positive is = subst (λ (c : Corners). holds_box c b ≡ true) (sym (ap over is)) (box_grown b w positive)

-- a patch of zeros in which the cells of its box were written
pub box_written : (b : Corners) (w : IVec) (p q : Grid) (f : IVec → ℕ) → AtMost (grown b w).lo (grown b w).hi → p ≡ grid_of b w (λ _. 0)
    → q ≡ written p (copied p b f) → q ≡ grid_of b w (λ x. cond (holds b x) (f x) 0)
box_written b w p q f order made is =
    is
    ∙ ap (λ (g : Grid). written g (copied g b f)) made
    ∙ ap (λ (vs : List ℕ). let g : Grid = record { bx = b; width = w; values = vs } in g)
    (listed_same (grown b w) (λ x. cond (holds b x) (f x) (value_in (grown b w) (listed (grown b w) (λ _. 0)) x)) (λ x. cond (holds b x) (f x) 0) order
    (λ x h. ap (λ (n : ℕ). cond (holds b x) (f x) n) (value_in-listed (grown b w) (λ _. 0) x h)))

-- what a rank owns has room where the level has
own_rooms : (level : List Owned) (rank : ℕ) (width : IVec) → HasRooms level width → HasRooms (own rank level) width
unfolding own
own_rooms level rank width h = record {
  positive = h.positive;
  rooms = All-from_members (HasRoom width) (filter (λ b. nat_eq b.owner rank) level)
      (λ b m. member_of_All (HasRoom width) b level h.rooms (Member-from_filter (λ (b : Owned). nat_eq b.owner rank) b level m).0);
}

pub all_own_rooms : (level : List Owned) (rank : ℕ) (widths : List IVec) → All (HasRooms level) widths → All (HasRooms (own rank level)) widths
all_own_rooms level rank widths h =
    All-from_members (HasRooms (own rank level)) widths (λ w m. own_rooms level rank w (member_of_All (HasRooms level) w widths h m))

-- the same for some of its boxes
kept_rooms : (level : List Owned) (mask : ℕ) (width : IVec) → HasRooms level width → HasRooms (kept mask level) width
kept_rooms level mask width h = record {
  positive = h.positive;
  rooms = All-kept (HasRoom width) mask level h.rooms;
}

pub all_kept_rooms : (level : List Owned) (mask : ℕ) (widths : List IVec) → All (HasRooms level) widths → All (HasRooms (kept mask level)) widths
all_kept_rooms level mask widths h =
    All-from_members (HasRooms (kept mask level)) widths (λ w m. kept_rooms level mask w (member_of_All (HasRooms level) w widths h m))

some_same : {X : Type 0} {x y : X} → Some x ≡ Some y → x ≡ y
some_same e = cc

none_some : {X : Type 0} {x : X} → None ≡ Some x → ⊥
none_some e = cc

-- what is made of the numbered item at a place
numbered_at : {Y : Type 0} (F : ℕ × IVec → Y) (n : ℕ) (widths : List IVec) (f : ℕ) (y : Y) → slice_get (map F (enumerate_from n widths)) f ≡ Some y
    → (g : IVec) × (slice_get widths f ≡ Some g) × (y ≡ F (n + f, g))
numbered_at F n [] f y e = absurd (none_some e)
numbered_at F n (g ∷ widths) zero y e = (g, refl, sym (some_same e) ∙ ap (λ (k : ℕ). F (k, g)) (omega arith))
numbered_at F n (g ∷ widths) (suc f) y e =
    let r = numbered_at F (n + 1) widths f y e in
    (r.0, r.1, r.2 ∙ ap (λ (k : ℕ). F (k, r.0)) (omega arith))

-- the patches of a field
pub first_boxes : (bound start : ℕ) (f : ℕ × IVec) (boxes : List Owned) → map (λ p. p.bx) (first_field bound start boxes f) ≡ map (λ b. b.bx) boxes
first_boxes bound start f [] = refl
first_boxes bound start f (b ∷ boxes) = ap (λ (l : List Corners). b.bx ∷ l) (first_boxes bound start f boxes)

pub first_at : (bound start field : ℕ) (width : IVec) (b : Corners) (x : IVec) → AtMost (alike (pos 0)) width → Holds b x
    → value_at (first_patch bound start field width b) x ≡ first_value bound start field x
first_at bound start field width b x positive has =
    value_in-listed (grown b width) (λ x. cond (holds b x) (first_value bound start field x) 0) x (part_Holds (grown b width) b x (box_grown b width positive) has)
    ∙ cond-true (holds b x) (first_value bound start field x) 0 (holds-from has)

module _ (bound start : ℕ) (widths : List IVec) (boxes : List Owned) where
  -- a field of them
  pub its_field : (f : ℕ) (field : List Grid) → slice_get (first_fields bound start widths boxes) f ≡ Some field
      → (g : IVec) × (slice_get widths f ≡ Some g) × (field ≡ first_field bound start boxes (f, g))
  unfolding first_fields
  its_field f field there =
      let r = numbered_at (first_field bound start boxes) 0 widths f field there in
      (r.0, r.1, r.2 ∙ ap (λ (k : ℕ). first_field bound start boxes (k, r.0)) (omega arith))

  pub count_first : (fields : List (List Grid)) → fields ≡ first_fields bound start widths boxes → length fields ≡ length widths
  unfolding first_fields
  count_first fields is = ap length is ∙ length-map (enumerate_from 0 widths) (first_field bound start boxes) ∙ length-enumerate_from 0 widths

  pub first_members : (fields : List (List Grid)) → fields ≡ first_fields bound start widths boxes → (field : List Grid) → Member field fields
      → map (λ p. p.bx) field ≡ map (λ b. b.bx) boxes
  unfolding first_fields
  first_members fields is field m =
      let o = Member-from_map (first_field bound start boxes) field (enumerate_from 0 widths) (subst (λ (l : List (List Grid)). Member field l) is m) in
      ap (map (λ p. p.bx)) o.2 ∙ first_boxes bound start o.0 boxes
