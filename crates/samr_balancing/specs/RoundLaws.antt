-- The rounds that are left become fewer, and then there are none.
use Rattle.std.specs.Prelude.{◌≡◌, ℕ, ◌+◌, ◌<◌, refl}
use Rattle.std.proofs.Common.{arith, ◌∙◌}
use Rattle.samr_phase.specs.Stretch.{Stretch, at_one}
use Rattle.samr_phase.specs.Turning.{last_ranks}
use Rattle.samr_msg.specs.declared.body.Body.{Body}
use Rattle.samr_msg.specs.declared.body.Body.TheVariants.{Up, Down}
use Rattle.samr_msg.specs.Places.{AtPass, AtRound, first_round, next_round}
use Rattle.samr_msg.specs.PassStops.{boxes_up, boxes_down, ups_left, downs_left}
use Rattle.samr_msg.specs.WholeRun.{in_rounds, balanced}

pub up_fewer : (w : AtRound) → 0 < ups_left w → ups_left w ≡ ups_left (next_round w) + 1
up_fewer w some = omega (arith, some)

pub down_fewer : (w : AtRound) → 0 < downs_left w → downs_left w ≡ downs_left (next_round w) + 1
down_fewer w some = omega (arith, some)

pub up_ends : (w : AtRound) → ups_left w ≡ 0 → 0 < ups_left w → ⊥
up_ends w none some = omega (arith, none, some)

pub down_ends : (w : AtRound) → downs_left w ≡ 0 → 0 < downs_left w → ⊥
down_ends w none some = omega (arith, none, some)

-- all ranks go on after the balance
pub balanced_ranks : (w : AtPass) → (balanced.after w).pass.ranks ≡ w.pass.ranks
balanced_ranks w =
    let up : Stretch AtRound AtRound Body = at_one Up boxes_up in
    let down : Stretch AtRound AtRound Body = at_one Down boxes_down in
    let ranks : AtRound → ℕ = λ v. v.at.pass.ranks in
    let same : (v : AtRound) → ranks (next_round v) ≡ ranks v = λ v. refl in
    last_ranks down.fragments next_round ranks same downs_left (first_round ((in_rounds ups_left up).after w))
    ∙ last_ranks up.fragments next_round ranks same ups_left (first_round w)
