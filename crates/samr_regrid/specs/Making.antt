-- What a rank has of the level that a pass makes.
use Rattle.std.specs.Prelude.{ℕ, Bool, suc, ◌-◌, nat_lt, length, Option, Some, None, if◌then◌else◌, ◌&&◌}
use Rattle.samr_level.specs.declared.parts.Pair.{Pair}
use Rattle.samr_level.specs.Levels.{own_boxes}
use Rattle.samr_mesh.specs.Passes.{new_level}
use Rattle.samr_msg.specs.Places.{AtPass, old_above, old_below}
use Rattle.samr_regrid.specs.declared.level.Fresh.{Fresh}
use Rattle.samr_regrid.specs.Ranks.{pair_at}

-- overlaps that are made where a test holds
abbrev pub if_made : {X : Type 0} → Bool → X → Option X
if_made t x = if t then Some x else None

-- its boxes of the new level, and their overlaps: with the level itself, with the old level below it, with the old level of its
-- number where there was one, and at a later step with the old level two below it
abbrev pub new_part : AtPass → ℕ → Fresh
new_part w rank =
    let p = w.at.setting.problem in
    let l = w.pass.number in
    let new = new_level p w.pass in
    record {
      boxes = own_boxes rank new;
      selves = pair_at p new (suc l) new (suc l) rank;
      under = pair_at p new (suc l) w.pass.level l rank;
      same = if_made (nat_lt 0 (length (old_above w))) (pair_at p new (suc l) (old_above w) (suc l) rank);
      cover = if_made (nat_lt 0 l && nat_lt 0 w.at.step) (pair_at p new (suc l) (old_below w) (l - 1) rank);
    }

-- the overlaps of the new level two above, where there is one, with the new level
abbrev pub above_down : AtPass → ℕ → Option Pair
above_down w rank =
    let p = w.at.setting.problem in
    let l = w.pass.number in
    if_made (nat_lt 0 (length w.pass.above)) (pair_at p w.pass.above (suc (suc l)) (new_level p w.pass) (suc l) rank)
