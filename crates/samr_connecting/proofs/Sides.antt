-- Both sides of the four bridges, as a rank has them.
use Rattle.std.proofs.Common.{◌≡◌, ℕ, suc, ◌-◌, Bool, true, false, [], nat_lt, Some, None, refl, sym, ap, subst, ◌∙◌, inl, inr}
use Rattle.std.specs.Prelude.{◌&&◌, ◌⊎◌}
use Rattle.samr_level.specs.Levels.{IsLevel}
use Rattle.samr_box.specs.Vector.{greatest}
use Rattle.samr_box.specs.Space.{Space, IsSpace, finer}
use Rattle.samr_level.specs.declared.parts.Pair.{Pair}
use Rattle.samr_bridge.specs.Bridge.{Bridging, IsBridge}
use Rattle.samr_bridge.specs.Found.{bridge_pair}
use Rattle.samr_problem.specs.Fields.{Fields}
use Rattle.samr_problem.specs.Problems.{IsProblem}
use Rattle.samr_mesh.specs.Domains.{area_of, area_at, ratio_to}
use Rattle.samr_mesh.specs.Grounds.{CanPass}
use Rattle.samr_mesh.specs.Passes.{new_level}
use Rattle.samr_mesh.proofs.Scaling.{space_of}
use Rattle.samr_wholes.specs.Bridges.{to_old, to_itself, from_above, to_below}
use Rattle.samr_wholes.proofs.Bridging.{is_to_old, is_to_itself, is_from_above, is_to_below}
use Rattle.samr_msg.specs.Places.{AtPass, old_above, old_below}
use Rattle.samr_msg.specs.PassStops.{is_some_level}
use Rattle.samr_regrid.specs.Ranks.{pair_at}
use Rattle.samr_regrid.specs.Making.{if_made, new_part}
use Rattle.samr_regrid.specs.Standing.{IsPassOf}
use Rattle.samr_connecting.specs.Joining.{turned_pair, HasSides}
use Rattle.samr_connecting.proofs.OldLevels.{old_level, above_over, between, next_number, below_level, below_can}
use Rattle.samr_connecting.proofs.Starts.{sides_space}

false_true : {X : Type 0} → false ≡ true → X
false_true e = absurd (differ e)
  where
    differ : false ≡ true → ⊥
    differ e = cc

pub made : {X : Type 0} (u : Bool) (x y : X) → u ≡ true → x ≡ y → Some x ≡ if_made u y
made true x y e same = ap (λ v. Some v) same
made false x y e same = false_true e

pub not_made : {X : Type 0} (u : Bool) (x : X) → u ≡ false → None ≡ if_made u x
not_made true x e = false_true (sym e)
not_made false x e = refl

module _ (w : AtPass) (r : ℕ) (problem : IsProblem w.at.setting.problem) (is : IsPassOf w) where
  abbrev p : Fields
  p = w.at.setting.problem

  abbrev frame : Space
  frame = (area_of p).frame

  here_space : IsSpace (finer frame (ratio_to p w.pass.number))
  here_space = space_of p w.pass.number is.can.can.here

  next_space : IsSpace (finer frame (ratio_to p (suc w.pass.number)))
  next_space = space_of p (suc w.pass.number) is.can.can.next

  -- to the old level of the new one's number
  pub old_bridge : IsBridge (to_old p w.pass (old_above w))
  old_bridge = is_to_old p w.pass is.can (old_above w) (old_level w problem is)

  pub old_sides : (under west down : Pair) → under ≡ (new_part w r).under → west ≡ turned_pair down → down ≡ pair_at p (old_above w) (suc w.pass.number) w.pass.level w.pass.number r
      → HasSides under west w r (to_old p w.pass (old_above w))
  old_sides under west down first second third = record {
    owned = old_bridge.owned;
    same_ranks = refl;
    same_frame = refl;
    same_width = refl;
    same_east = first;
    same_west = second ∙ ap turned_pair third;
  }

  pub old_space : (under west : Pair) → HasSides under west w r (to_old p w.pass (old_above w)) → IsSpace (finer frame (greatest under.forth.base_ratio west.forth.head_ratio))
  old_space under west sides = sides_space w r (to_old p w.pass (old_above w)) under west sides next_space next_space

  -- to itself
  pub own_sides : (under west : Pair) → under ≡ (new_part w r).under → west ≡ turned_pair under → HasSides under west w r (to_itself p w.pass)
  own_sides under west first second = record {
    owned = (is_to_itself p w.pass is.can).owned;
    same_ranks = refl;
    same_frame = refl;
    same_width = refl;
    same_east = first;
    same_west = second ∙ ap turned_pair first;
  }

  pub own_space : (under west : Pair) → HasSides under west w r (to_itself p w.pass) → IsSpace (finer frame (greatest under.forth.base_ratio west.forth.head_ratio))
  own_space under west sides = sides_space w r (to_itself p w.pass) under west sides next_space next_space

  -- from the new level two above
  module _ (top : is_some_level w.pass.above ≡ true) where
    upper : CanPass p (suc w.pass.number)
    upper = by is.above
      where
        by : (w.pass.above ≡ []) ⊎ (CanPass p (suc w.pass.number) × IsLevel (area_at p (suc (suc w.pass.number))) w.pass.ranks w.pass.above) → CanPass p (suc w.pass.number)
        by (inl none) = false_true (ap is_some_level (sym none) ∙ top)
        by (inr (can, _)) = can

    pub above_bridge : IsBridge (from_above p w.pass (old_above w))
    above_bridge = is_from_above p w.pass is.can (old_above w) upper (above_over w problem is top) (old_level w problem is)

    pub above_sides : (east west same : Pair) → east ≡ pair_at p w.pass.above (suc (suc w.pass.number)) (old_above w) (suc w.pass.number) r → west ≡ turned_pair same
        → same ≡ pair_at p (new_level p w.pass) (suc w.pass.number) (old_above w) (suc w.pass.number) r → HasSides east west w r (from_above p w.pass (old_above w))
    above_sides east west same first second third = record {
      owned = above_bridge.owned;
      same_ranks = refl;
      same_frame = refl;
      same_width = refl;
      same_east = first;
      same_west = second ∙ ap turned_pair third;
    }

    pub above_space : (east west : Pair) → HasSides east west w r (from_above p w.pass (old_above w)) → IsSpace (finer frame (greatest east.forth.base_ratio west.forth.head_ratio))
    above_space east west sides = sides_space w r (from_above p w.pass (old_above w)) east west sides (space_of p (suc (suc w.pass.number)) upper.next) next_space

    pub some_old : is_some_level (old_above w) ≡ true
    some_old = between w problem is top

  -- to the old level two below
  module _ (visits : (nat_lt 0 w.pass.number && nat_lt 0 w.at.step) ≡ true) where
    abbrev below : Bridging
    below = to_below p w.pass.ranks (w.pass.number - 1) (new_level p w.pass) w.pass.level (old_below w)

    pub below_bridge : IsBridge below
    below_bridge =
        is_to_below p w.pass is.can (old_below w) (w.pass.number - 1) (sym (next_number w r problem is visits)) (below_can w r problem is visits) (below_level w r problem is visits)

    pub below_sides : (under down : Pair) → under ≡ (new_part w r).under → down ≡ pair_at p w.pass.level w.pass.number (old_below w) (w.pass.number - 1) r → HasSides under down w r below
    below_sides under down first second =
        let e = sym (next_number w r problem is visits) in record {
          owned = below_bridge.owned;
          same_ranks = refl;
          same_frame = refl;
          same_width = refl;
          same_east = first ∙ ap (λ n. pair_at p (new_level p w.pass) (suc n) w.pass.level n r) e;
          same_west = second ∙ ap (λ n. pair_at p w.pass.level n (old_below w) (w.pass.number - 1) r) e;
        }

    pub below_space : (under down : Pair) → HasSides under down w r below → IsSpace (finer frame (greatest under.forth.base_ratio down.forth.head_ratio))
    below_space under down sides =
        let lower = below_can w r problem is visits in
        sides_space w r below under down sides (subst (λ n. IsSpace (finer frame (ratio_to p (suc n)))) (sym (next_number w r problem is visits)) next_space)
        (space_of p (w.pass.number - 1) lower.here)

    pub below_made : (out : Pair) → out ≡ bridge_pair below r → Some out ≡ (new_part w r).cover
    below_made out same =
        made (nat_lt 0 w.pass.number && nat_lt 0 w.at.step) out _ visits
        (same ∙ ap (λ n. pair_at p (new_level p w.pass) (suc n) (old_below w) (w.pass.number - 1) r) (next_number w r problem is visits))
