-- The steps of the plain program that balances a whole list.
use Rattle.std.proofs.Common.{◌≡◌, ℕ, zero, suc, ◌+◌, ◌-◌, ◌*◌, ◌^◌, ◌<◌, refl, sym, ap, subst, ◌∙◌, arith, nat_lt, length, get_or, take}
use Rattle.std.proofs.lemmas.Bool.{cond_both, ltb-true}
use Rattle.std.proofs.lemmas.List.{take_more, map-append}
use Rattle.std.proofs.lemmas.List.Elements.{All-more}
use Rattle.std.proofs.lemmas.List.FromFn.{map-range_with_len_more}
use Rattle.std.proofs.lemmas.Int.{to_z-of_z}
use Rattle.std.proofs.Common.{to_z, of_z}
use Rattle.std.specs.Int.{w64}
use Rattle.std.specs.Prelude.{ℤ, FitsSigned, unsigned_abs}
use Rattle.std.specs.List.{range_with_len}
use Rattle.std.specs.Prelude.{List, [], ◌∷◌, ◌++◌, map, Option, Some, None, All}
use Rattle.samr_box.specs.Vector.{AtMost}
use Rattle.samr_box.specs.Lists.{Member}
use Rattle.samr_box.proofs.Members.{member_of_All}
use Rattle.samr_tree.specs.Tree.{first_child, second_child}
use Rattle.samr_level.specs.Refs.{Owned}
use Rattle.samr_load.specs.Pieces.{Placed, whole, size_of, load}
use Rattle.samr_load.specs.Ascent.{Balancing, climb, up_of, up, stayed}
use Rattle.samr_load.specs.Descent.{fall, down, got}
use Rattle.samr_load.specs.Balanced.{quota_of, cells_in, balancing}
use Rattle.samr_load.proofs.QuotaSums.{quotas_all}
use Rattle.samr_load.proofs.Shapes.{cells_shared}
use Rattle.samr_load.proofs.Ascents.{up_is, up_hand, up_wanted}
use Rattle.samr_load.proofs.Descents.{down_step}
use Rattle.samr_load.proofs.Keeping.{hand_within, down_within, wanted_within}
use Rattle.samr_load.proofs.Wholes.{own_solid, own_load}

-- how many ranks from one on
abbrev pub ahead : ℕ → Option ℕ → ℕ
ahead ranks None = 0
ahead ranks (Some rank) = ranks - rank

pub first_ahead : (ranks rank : ℕ) → rank < ranks → ahead ranks (first_child ranks rank) < ranks - rank
first_ahead ranks rank inside =
    cond_both (nat_lt (2 * rank + 1) ranks) (Some (2 * rank + 1)) None (λ o. ahead ranks o < ranks - rank)
    (λ yes. let below = ltb-true (2 * rank + 1) ranks yes in omega (arith, below))
    (λ no. omega (arith, inside))

pub second_ahead : (ranks rank : ℕ) → rank < ranks → ahead ranks (second_child ranks rank) < ranks - rank
second_ahead ranks rank inside =
    cond_both (nat_lt (2 * rank + 2) ranks) (Some (2 * rank + 2)) None (λ o. ahead ranks o < ranks - rank)
    (λ yes. let below = ltb-true (2 * rank + 2) ranks yes in omega (arith, below))
    (λ no. omega (arith, inside))

pub stayed_above : (b : Balancing) (rank : ℕ) → 0 < rank → stayed b rank ≡ (up b rank).kept
stayed_above b zero above = absurd (omega (arith, above))
stayed_above b (suc rank) above = refl

module _ (ranks s : ℕ) (boxes : List Owned) (some : 0 < s) (solid : All (λ o. AtMost o.bx.lo o.bx.hi) boxes) (few : cells_in boxes < 2 ^ 63) where
  abbrev plan : Balancing
  plan = balancing ranks s boxes

  own_full : (rank : ℕ) → rank < ranks → (q : Placed) → Member q (plan.own rank) → AtMost q.bx.lo q.bx.hi
  own_full =
      own_solid (quota_of (cells_in boxes) ranks) ranks s boxes some (λ o h. member_of_All (λ o. AtMost o.bx.lo o.bx.hi) o boxes solid h)

  pub hand_fits : (rank : ℕ) → rank < ranks → load (up plan rank).hand < 2 ^ 63
  hand_fits rank inside = omega (arith, hand_within plan some own_full size_of cells_shared rank inside, own_load ranks s boxes, few)

  pub down_fits : (rank : ℕ) → rank < ranks → load (stayed plan rank ++ got plan rank) < 2 ^ 63
  down_fits rank inside = omega (arith, down_within plan some own_full size_of cells_shared rank inside, own_load ranks s boxes, few)

  pub wanted_fits : (rank : ℕ) → rank < ranks
      → quota_of (cells_in boxes) ranks rank + (up_of plan (first_child ranks rank)).need + (up_of plan (second_child ranks rank)).need < 2 ^ 63
  wanted_fits rank inside =
      omega (
        arith,
        up_wanted plan rank inside,
        wanted_within plan some own_full rank inside,
        quotas_all (cells_in boxes) ranks (omega (arith, inside)),
        few,
      )

-- a rank's step up, from what its children gave and need
module _ (b : Balancing) (rank : ℕ) (inside : rank < b.ranks) (o1 o2 : Option ℕ)
    (first_is : o1 ≡ first_child b.ranks rank) (second_is : o2 ≡ second_child b.ranks rank) where
  pub gathered_is : (hand first second : List Placed) → hand ≡ b.own rank ++ first ++ second → first ≡ (up_of b o1).given → second ≡ (up_of b o2).given
      → hand ≡ (up b rank).hand
  gathered_is hand first second e f g =
      e
      ∙ ap (λ (l : List Placed). b.own rank ++ l ++ second) (f ∙ ap (λ (o : Option ℕ). (up_of b o).given) first_is)
      ∙ ap (λ (l : List Placed). b.own rank ++ (up_of b (first_child b.ranks rank)).given ++ l) (g ∙ ap (λ (o : Option ℕ). (up_of b o).given) second_is)
      ∙ sym (up_hand b rank inside)

  pub wanted_is : (wanted quota x y : ℕ) → wanted ≡ quota + x + y → quota ≡ b.quota rank → x ≡ (up_of b o1).need → y ≡ (up_of b o2).need
      → wanted ≡ (up b rank).wanted
  wanted_is wanted quota x y e q f g =
      let first = ap (λ (o : Option ℕ). (up_of b o).need) first_is in
      let second = ap (λ (o : Option ℕ). (up_of b o).need) second_is in
      omega (arith, e, q, f, g, first, second, up_wanted b rank inside)

  pub needs_are : (x y : ℕ) → x ≡ (up_of b o1).need → y ≡ (up_of b o2).need
      → (x ≡ (up_of b (first_child b.ranks rank)).need) × (y ≡ (up_of b (second_child b.ranks rank)).need)
  needs_are x y f g =
      (f ∙ ap (λ (o : Option ℕ). (up_of b o).need) first_is, g ∙ ap (λ (o : Option ℕ). (up_of b o).need) second_is)

pub climbs : (b : Balancing) (rank : ℕ) → rank < b.ranks → (s : ℕ) (hand : List Placed) (wanted : ℕ) → s ≡ b.smallest → hand ≡ (up b rank).hand
    → wanted ≡ (up b rank).wanted → climb s hand wanted ≡ up b rank
climbs b rank inside s hand wanted same e f =
    ap (λ (n : ℕ). climb n hand wanted) same
    ∙ ap (λ (l : List Placed). climb b.smallest l wanted) e
    ∙ ap (λ (n : ℕ). climb b.smallest (up b rank).hand n) f
    ∙ sym (up_is b rank inside)

-- a rank's step down
pub falls : (b : Balancing) (rank s : ℕ) (hand : List Placed) (x y : ℕ) → s ≡ b.smallest → hand ≡ stayed b rank ++ got b rank
    → (x ≡ (up_of b (first_child b.ranks rank)).need) × (y ≡ (up_of b (second_child b.ranks rank)).need) → fall s hand x y ≡ down b rank
falls b rank s hand x y same e needs =
    ap (λ (n : ℕ). fall n hand x y) same
    ∙ ap (λ (l : List Placed). fall b.smallest l x y) e
    ∙ ap (λ (n : ℕ). fall b.smallest (stayed b rank ++ got b rank) n y) needs.0
    ∙ ap (λ (n : ℕ). fall b.smallest (stayed b rank ++ got b rank) (up_of b (first_child b.ranks rank)).need n) needs.1
    ∙ sym (down_step b rank)

pub hand_down_is : (b : Balancing) (rank : ℕ) (hand kept given : List Placed) → hand ≡ kept ++ given → kept ≡ stayed b rank → given ≡ got b rank
    → hand ≡ stayed b rank ++ got b rank
hand_down_is b rank hand kept given e k g =
    e ∙ ap (λ (l : List Placed). l ++ given) k ∙ ap (λ (l : List Placed). stayed b rank ++ l) g

-- one more box as a piece
pub whole_more : (boxes : List Owned) (i : ℕ) (o : Owned) (before after : List Placed) → i < length boxes → o ≡ get_or boxes i o
    → before ≡ map whole (take i boxes) → after ≡ before ++ whole o ∷ [] → after ≡ map whole (take (i + 1) boxes)
whole_more boxes i o before after h is so_far pushed =
    let more = take_more boxes i o h ∙ ap (λ (v : Owned). take i boxes ++ v ∷ []) (sym is) in
    pushed ∙ ap (λ (l : List Placed). l ++ whole o ∷ []) so_far ∙ sym (map-append whole (take i boxes) (o ∷ [])) ∙ ap (map whole) (sym more)

pub solid_more : (boxes : List Owned) (i : ℕ) (o : Owned) → i < length boxes → o ≡ get_or boxes i o
    → All (λ o. AtMost o.bx.lo o.bx.hi) (take i boxes) → AtMost o.bx.lo o.bx.hi → All (λ o. AtMost o.bx.lo o.bx.hi) (take (i + 1) boxes)
solid_more boxes i o h is so_far here =
    All-more (λ o. AtMost o.bx.lo o.bx.hi) boxes i o h so_far (subst (λ (v : Owned). AtMost v.bx.lo v.bx.hi) is here)

-- one more rank's list
pub list_more : {X : Type 0} (f : ℕ → X) (n : ℕ) (before after : List X) → before ≡ map f (range_with_len 0 n) → after ≡ before ++ f n ∷ []
    → after ≡ map f (range_with_len 0 (n + 1))
list_more f n before after so_far pushed = pushed ∙ ap (λ l. l ++ f n ∷ []) so_far ∙ sym (map-range_with_len_more f 0 n n (omega arith))

pub quota_is : (total : ℕ) (boxes : List Owned) (ranks rank quota : ℕ) → total ≡ cells_in boxes → quota ≡ quota_of total ranks rank
    → quota ≡ quota_of (cells_in boxes) ranks rank
quota_is total boxes ranks rank quota e f = f ∙ ap (λ (n : ℕ). quota_of n ranks rank) e

pub stayed_root : (b : Balancing) (rank : ℕ) → rank ≡ 0 → stayed b rank ≡ (up b rank).hand
stayed_root b zero root = refl
stayed_root b (suc rank) root = absurd (omega (arith, root))

-- a number of a field that is handed on
pub passed : (x : ℤ) → FitsSigned w64 x → unsigned_abs (to_z w64 (of_z w64 x)) ≡ unsigned_abs x
passed x fits = ap unsigned_abs (to_z-of_z w64 x fits)
