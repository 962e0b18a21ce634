use Rattle.std.proofs.Common.{◌<◌, ◌+◌, ◌^◌, refl, sym, ap, arith, ◌∙◌, ℕ}
use Rattle.std.proofs.lemmas.Int.{ints}
use Rattle.std.specs.Int.{w64}
use Rattle.std.specs.Prelude.{FitsSigned, unsigned_abs, Option}
use Rattle.samr_load.specs.Pieces.{load}
use Rattle.samr_load.specs.Ascent.{Climb, up_of}
use Rattle.samr_load.specs.Balanced.{balancing, cells_in}
use Rattle.samr_load.proofs.Ascents.{up_outside}
use Rattle.samr_load.proofs.PlainSteps.{hand_fits, wanted_fits, gathered_is, wanted_is, needs_are, climbs, quota_is, passed}
use Rattle.samr_load.proofs.plain.+climbed.Goals as goal

pub overflow_add-wanted : goal.overflow_add-wanted
overflow_add-wanted t c =
    let ranks = c.args.plan.now.ranks in
    let s = unsigned_abs c.args.plan.now.smallest in
    let boxes = c.args.plan.now.boxes in
    let some : 0 < s = omega (arith, ints, c.args.plan.now.some) in
    let few : cells_in boxes < 2 ^ 63 = omega (arith, c.args.plan.now.all, c.args.plan.now.fits) in
    let inside = c.requires c.in-Some.rank c.in-Some.is in
    let needs = needs_are (balancing ranks s boxes) c.in-Some.rank inside c.children-first.result.0 c.children-first.result.1 c.children-first.ensures.first c.children-first.ensures.second
    c.in_ok-first-in-Some.first.need c.in_ok-second-in-Some.second.need c.in_ok-first-in-Some.ensures.need c.in_ok-second-in-Some.ensures.need in
    omega (
      arith,
      wanted_fits ranks s boxes some c.args.plan.now.solid few c.in-Some.rank inside,
      needs,
      quota_is c.args.plan.now.total boxes ranks c.in-Some.rank c.quota.result c.args.plan.now.all c.quota.ensures,
    )

pub overflow_add-wanted-in-Some : goal.overflow_add-wanted-in-Some
overflow_add-wanted-in-Some t c =
    let ranks = c.args.plan.now.ranks in
    let s = unsigned_abs c.args.plan.now.smallest in
    let boxes = c.args.plan.now.boxes in
    let some : 0 < s = omega (arith, ints, c.args.plan.now.some) in
    let few : cells_in boxes < 2 ^ 63 = omega (arith, c.args.plan.now.all, c.args.plan.now.fits) in
    let inside = c.requires c.in-Some.rank c.in-Some.is in
    let needs = needs_are (balancing ranks s boxes) c.in-Some.rank inside c.children-first.result.0 c.children-first.result.1 c.children-first.ensures.first c.children-first.ensures.second
    c.in_ok-first-in-Some.first.need c.in_ok-second-in-Some.second.need c.in_ok-first-in-Some.ensures.need c.in_ok-second-in-Some.ensures.need in
    omega (
      arith,
      wanted_fits ranks s boxes some c.args.plan.now.solid few c.in-Some.rank inside,
      needs,
      quota_is c.args.plan.now.total boxes ranks c.in-Some.rank c.quota.result c.args.plan.now.all c.quota.ensures,
    )

pub climb-requires-clause-fits : goal.climb-requires-clause-fits
climb-requires-clause-fits t c =
    let ranks = c.args.plan.now.ranks in
    let s = unsigned_abs c.args.plan.now.smallest in
    let boxes = c.args.plan.now.boxes in
    let some : 0 < s = omega (arith, ints, c.args.plan.now.some) in
    let few : cells_in boxes < 2 ^ 63 = omega (arith, c.args.plan.now.all, c.args.plan.now.fits) in
    let inside = c.requires c.in-Some.rank c.in-Some.is in
    let hand = gathered_is (balancing ranks s boxes) c.in-Some.rank inside c.children-first.result.0 c.children-first.result.1 c.children-first.ensures.first c.children-first.ensures.second
    c.in_ok-hand-in-Some.hand.items c.in_ok-first-in-Some.first.given.items c.in_ok-second-in-Some.second.given.items
    c.in_ok-hand-in-Some.ensures c.in_ok-first-in-Some.ensures.given c.in_ok-second-in-Some.ensures.given in
    omega (arith, ap load hand, hand_fits ranks s boxes some c.args.plan.now.solid few c.in-Some.rank inside)

pub returns-in-None-clause-kept : goal.returns-in-None-clause-kept
returns-in-None-clause-kept t c =
    let b = balancing c.args.plan.now.ranks (unsigned_abs c.args.plan.now.smallest) c.args.plan.now.boxes in
    c.new.ensures.items ∙ sym (ap (λ (o : Option ℕ). (up_of b o).kept) c.in-None.is ∙ ap (λ (m : Climb). m.kept) (up_outside b))

pub returns-in-None-clause-given : goal.returns-in-None-clause-given
returns-in-None-clause-given t c =
    let b = balancing c.args.plan.now.ranks (unsigned_abs c.args.plan.now.smallest) c.args.plan.now.boxes in
    c.new-in-None.ensures.items ∙ sym (ap (λ (o : Option ℕ). (up_of b o).given) c.in-None.is ∙ ap (λ (m : Climb). m.given) (up_outside b))

pub returns-in-None-clause-need : goal.returns-in-None-clause-need
returns-in-None-clause-need t c =
    let b = balancing c.args.plan.now.ranks (unsigned_abs c.args.plan.now.smallest) c.args.plan.now.boxes in
    sym (ap (λ (o : Option ℕ). (up_of b o).need) c.in-None.is ∙ ap (λ (m : Climb). m.need) (up_outside b))

pub returns-in_ok-step-in-Some-clause-kept : goal.returns-in_ok-step-in-Some-clause-kept
returns-in_ok-step-in-Some-clause-kept t c =
    let b = balancing c.args.plan.now.ranks (unsigned_abs c.args.plan.now.smallest) c.args.plan.now.boxes in
    let inside = c.requires c.in-Some.rank c.in-Some.is in
    let fits : FitsSigned w64 c.args.plan.now.smallest = omega (arith, ints) in
    let hand = gathered_is b c.in-Some.rank inside c.children-first.result.0 c.children-first.result.1 c.children-first.ensures.first c.children-first.ensures.second
    c.in_ok-hand-in-Some.hand.items c.in_ok-first-in-Some.first.given.items c.in_ok-second-in-Some.second.given.items
    c.in_ok-hand-in-Some.ensures c.in_ok-first-in-Some.ensures.given c.in_ok-second-in-Some.ensures.given in
    let wanted = wanted_is b c.in-Some.rank inside c.children-first.result.0 c.children-first.result.1 c.children-first.ensures.first c.children-first.ensures.second
    (c.quota.result + c.in_ok-first-in-Some.first.need + c.in_ok-second-in-Some.second.need) c.quota.result c.in_ok-first-in-Some.first.need c.in_ok-second-in-Some.second.need refl
    (quota_is c.args.plan.now.total c.args.plan.now.boxes c.args.plan.now.ranks c.in-Some.rank c.quota.result c.args.plan.now.all c.quota.ensures)
    c.in_ok-first-in-Some.ensures.need c.in_ok-second-in-Some.ensures.need in
    c.in_ok-step-in-Some.ensures.kept
    ∙ ap (λ (m : Climb). m.kept) (climbs b c.in-Some.rank inside _ c.in_ok-hand-in-Some.hand.items (c.quota.result + c.in_ok-first-in-Some.first.need + c.in_ok-second-in-Some.second.need) (passed c.args.plan.now.smallest fits) hand wanted)
    ∙ sym (ap (λ (o : Option ℕ). (up_of b o).kept) c.in-Some.is)

pub returns-in_ok-step-in-Some-clause-given : goal.returns-in_ok-step-in-Some-clause-given
returns-in_ok-step-in-Some-clause-given t c =
    let b = balancing c.args.plan.now.ranks (unsigned_abs c.args.plan.now.smallest) c.args.plan.now.boxes in
    let inside = c.requires c.in-Some.rank c.in-Some.is in
    let fits : FitsSigned w64 c.args.plan.now.smallest = omega (arith, ints) in
    let hand = gathered_is b c.in-Some.rank inside c.children-first.result.0 c.children-first.result.1 c.children-first.ensures.first c.children-first.ensures.second
    c.in_ok-hand-in-Some.hand.items c.in_ok-first-in-Some.first.given.items c.in_ok-second-in-Some.second.given.items
    c.in_ok-hand-in-Some.ensures c.in_ok-first-in-Some.ensures.given c.in_ok-second-in-Some.ensures.given in
    let wanted = wanted_is b c.in-Some.rank inside c.children-first.result.0 c.children-first.result.1 c.children-first.ensures.first c.children-first.ensures.second
    (c.quota.result + c.in_ok-first-in-Some.first.need + c.in_ok-second-in-Some.second.need) c.quota.result c.in_ok-first-in-Some.first.need c.in_ok-second-in-Some.second.need refl
    (quota_is c.args.plan.now.total c.args.plan.now.boxes c.args.plan.now.ranks c.in-Some.rank c.quota.result c.args.plan.now.all c.quota.ensures)
    c.in_ok-first-in-Some.ensures.need c.in_ok-second-in-Some.ensures.need in
    c.in_ok-step-in-Some.ensures.given
    ∙ ap (λ (m : Climb). m.given) (climbs b c.in-Some.rank inside _ c.in_ok-hand-in-Some.hand.items (c.quota.result + c.in_ok-first-in-Some.first.need + c.in_ok-second-in-Some.second.need) (passed c.args.plan.now.smallest fits) hand wanted)
    ∙ sym (ap (λ (o : Option ℕ). (up_of b o).given) c.in-Some.is)

pub returns-in_ok-step-in-Some-clause-need : goal.returns-in_ok-step-in-Some-clause-need
returns-in_ok-step-in-Some-clause-need t c =
    let b = balancing c.args.plan.now.ranks (unsigned_abs c.args.plan.now.smallest) c.args.plan.now.boxes in
    let inside = c.requires c.in-Some.rank c.in-Some.is in
    let fits : FitsSigned w64 c.args.plan.now.smallest = omega (arith, ints) in
    let hand = gathered_is b c.in-Some.rank inside c.children-first.result.0 c.children-first.result.1 c.children-first.ensures.first c.children-first.ensures.second
    c.in_ok-hand-in-Some.hand.items c.in_ok-first-in-Some.first.given.items c.in_ok-second-in-Some.second.given.items
    c.in_ok-hand-in-Some.ensures c.in_ok-first-in-Some.ensures.given c.in_ok-second-in-Some.ensures.given in
    let wanted = wanted_is b c.in-Some.rank inside c.children-first.result.0 c.children-first.result.1 c.children-first.ensures.first c.children-first.ensures.second
    (c.quota.result + c.in_ok-first-in-Some.first.need + c.in_ok-second-in-Some.second.need) c.quota.result c.in_ok-first-in-Some.first.need c.in_ok-second-in-Some.second.need refl
    (quota_is c.args.plan.now.total c.args.plan.now.boxes c.args.plan.now.ranks c.in-Some.rank c.quota.result c.args.plan.now.all c.quota.ensures)
    c.in_ok-first-in-Some.ensures.need c.in_ok-second-in-Some.ensures.need in
    c.in_ok-step-in-Some.ensures.need
    ∙ ap (λ (m : Climb). m.need) (climbs b c.in-Some.rank inside _ c.in_ok-hand-in-Some.hand.items (c.quota.result + c.in_ok-first-in-Some.first.need + c.in_ok-second-in-Some.second.need) (passed c.args.plan.now.smallest fits) hand wanted)
    ∙ sym (ap (λ (o : Option ℕ). (up_of b o).need) c.in-Some.is)
