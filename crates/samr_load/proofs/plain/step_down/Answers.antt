use Rattle.std.proofs.Common.{◌<◌, ◌^◌, ◌∙◌, ap, arith}
use Rattle.std.proofs.lemmas.Int.{ints}
use Rattle.std.specs.Int.{w64}
use Rattle.std.specs.Prelude.{FitsSigned, unsigned_abs}
use Rattle.samr_load.specs.Pieces.{load}
use Rattle.samr_load.specs.Descent.{Fall}
use Rattle.samr_load.specs.Balanced.{balancing, cells_in}
use Rattle.samr_load.proofs.PlainSteps.{needs_are, falls, hand_down_is, down_fits, passed}
use Rattle.samr_load.proofs.plain.step_down.Goals as goal

pub fall-requires-clause-fits : goal.fall-requires-clause-fits
fall-requires-clause-fits c =
    let ranks = c.args.plan.now.ranks in
    let s = unsigned_abs c.args.plan.now.smallest in
    let boxes = c.args.plan.now.boxes in
    let some : 0 < s = omega (arith, ints, c.args.plan.now.some) in
    let few : cells_in boxes < 2 ^ 63 = omega (arith, c.args.plan.now.all, c.args.plan.now.fits) in
    let hand = hand_down_is (balancing ranks s boxes) c.args.rank c.extend_from_slice.new.self.items c.in_ok-hand.hand.items c.as_slice.result.now
    c.in_ok-extend_from_slice.ensures.items c.in_ok-hand.ensures (c.as_slice.ensures.value ∙ c.requires.given) in
    omega (arith, ap load hand, down_fits ranks s boxes some c.args.plan.now.solid few c.args.rank c.requires.rank)

pub returns-clause-first : goal.returns-clause-first
returns-clause-first c =
    let b = balancing c.args.plan.now.ranks (unsigned_abs c.args.plan.now.smallest) c.args.plan.now.boxes in
    let fits : FitsSigned w64 c.args.plan.now.smallest = omega (arith, ints) in
    let hand = hand_down_is b c.args.rank c.extend_from_slice.new.self.items c.in_ok-hand.hand.items c.as_slice.result.now
    c.in_ok-extend_from_slice.ensures.items c.in_ok-hand.ensures (c.as_slice.ensures.value ∙ c.requires.given) in
    let needs = needs_are b c.args.rank c.requires.rank c.children-first.result.0 c.children-first.result.1 c.children-first.ensures.first c.children-first.ensures.second
    c.in_ok-first.field-0.need c.in_ok-second.field-0.need c.in_ok-first.ensures.need c.in_ok-second.ensures.need in
    c.in_ok-step.ensures.first
    ∙ ap (λ (f : Fall). f.first) (falls b c.args.rank _ c.extend_from_slice.new.self.items c.in_ok-first.field-0.need c.in_ok-second.field-0.need (passed c.args.plan.now.smallest fits) hand needs)

pub returns-clause-second : goal.returns-clause-second
returns-clause-second c =
    let b = balancing c.args.plan.now.ranks (unsigned_abs c.args.plan.now.smallest) c.args.plan.now.boxes in
    let fits : FitsSigned w64 c.args.plan.now.smallest = omega (arith, ints) in
    let hand = hand_down_is b c.args.rank c.extend_from_slice.new.self.items c.in_ok-hand.hand.items c.as_slice.result.now
    c.in_ok-extend_from_slice.ensures.items c.in_ok-hand.ensures (c.as_slice.ensures.value ∙ c.requires.given) in
    let needs = needs_are b c.args.rank c.requires.rank c.children-first.result.0 c.children-first.result.1 c.children-first.ensures.first c.children-first.ensures.second
    c.in_ok-first.field-0.need c.in_ok-second.field-0.need c.in_ok-first.ensures.need c.in_ok-second.ensures.need in
    c.in_ok-step.ensures.second
    ∙ ap (λ (f : Fall). f.second) (falls b c.args.rank _ c.extend_from_slice.new.self.items c.in_ok-first.field-0.need c.in_ok-second.field-0.need (passed c.args.plan.now.smallest fits) hand needs)

pub returns-clause-left : goal.returns-clause-left
returns-clause-left c =
    let b = balancing c.args.plan.now.ranks (unsigned_abs c.args.plan.now.smallest) c.args.plan.now.boxes in
    let fits : FitsSigned w64 c.args.plan.now.smallest = omega (arith, ints) in
    let hand = hand_down_is b c.args.rank c.extend_from_slice.new.self.items c.in_ok-hand.hand.items c.as_slice.result.now
    c.in_ok-extend_from_slice.ensures.items c.in_ok-hand.ensures (c.as_slice.ensures.value ∙ c.requires.given) in
    let needs = needs_are b c.args.rank c.requires.rank c.children-first.result.0 c.children-first.result.1 c.children-first.ensures.first c.children-first.ensures.second
    c.in_ok-first.field-0.need c.in_ok-second.field-0.need c.in_ok-first.ensures.need c.in_ok-second.ensures.need in
    c.in_ok-step.ensures.left
    ∙ ap (λ (f : Fall). f.left) (falls b c.args.rank _ c.extend_from_slice.new.self.items c.in_ok-first.field-0.need c.in_ok-second.field-0.need (passed c.args.plan.now.smallest fits) hand needs)
