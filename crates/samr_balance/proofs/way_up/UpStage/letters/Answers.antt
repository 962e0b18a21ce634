use Rattle.std.proofs.Common.{arith, ap, ◌∙◌}
use Rattle.std.proofs.lemmas.Int.{ints}
use Rattle.std.specs.Int.{w64}
use Rattle.std.specs.Prelude.{FitsSigned}
use Rattle.samr_load.specs.Pieces.{load}
use Rattle.samr_load.proofs.PlainSteps.{passed}
use Rattle.samr_balance.proofs.WayUpStage.{says_nothing, has_parent, wanted_small, hand_small, says_gift, waits_given}
use Rattle.samr_balance.proofs.way_up.UpStage.letters.Goals as goal

pub returns-then-not-tells_up-clause-letters : goal.returns-then-not-tells_up-clause-letters
returns-then-not-tells_up-clause-letters c = λ w rank is.
    let s = c.args.self.now in
    says_nothing s.rank s.ranks s.round s.hand.items s.needs s.quota s.smallest w rank is c.new-letters.result.items c.new-letters.ensures.items c.if-not-tells_up.ensures

pub overflow_add-wanted : goal.overflow_add-wanted
overflow_add-wanted c =
    let s = c.args.self.now in
    omega (arith, wanted_small s.rank s.ranks s.round s.hand.items s.needs s.quota s.smallest c.requires.0 c.requires.1 c.requires.2 c.if-not-tells_up.ensures)

pub overflow_add-wanted-2 : goal.overflow_add-wanted-2
overflow_add-wanted-2 c =
    let s = c.args.self.now in
    omega (arith, wanted_small s.rank s.ranks s.round s.hand.items s.needs s.quota s.smallest c.requires.0 c.requires.1 c.requires.2 c.if-not-tells_up.ensures)

pub climb-requires-clause-fits : goal.climb-requires-clause-fits
climb-requires-clause-fits c =
    let s = c.args.self.now in
    let hand = ap (λ v. load v.items) c.replace-hand.ensures.value in
    omega (arith, hand, hand_small s.rank s.ranks s.round s.hand.items s.needs s.quota s.smallest c.requires.0 c.requires.1 c.requires.2 c.if-not-tells_up.ensures)

pub returns-in_default-clause-letters : goal.returns-in_default-clause-letters
returns-in_default-clause-letters c = λ w rank is.
    let s = c.args.self.now in
    absurd (has_parent s.rank s.ranks s.round s.hand.items s.needs s.quota s.smallest w rank is c.if-not-tells_up.ensures c.in_default.ensures)

pub returns-in_default-clause-waits : goal.returns-in_default-clause-waits
returns-in_default-clause-waits c = λ w rank is.
    let s = c.args.self.now in
    absurd (has_parent s.rank s.ranks s.round s.hand.items s.needs s.quota s.smallest w rank is c.if-not-tells_up.ensures c.in_default.ensures)

pub returns-clause-letters : goal.returns-clause-letters
returns-clause-letters c = λ w rank is.
    let s = c.args.self.now in
    let fits : FitsSigned w64 s.smallest = omega (arith, ints, c.fits-self) in
    says_gift s.rank s.ranks s.round s.hand.items s.needs s.quota s.smallest w rank is c.if-not-tells_up.ensures _ c.replace-hand.result.items (passed s.smallest fits)
    (ap (λ v. v.items) c.replace-hand.ensures.value) c.push.new.self.items c.new-letters.result.items c.in-Some.above c.from_vec-pieces.result c.in_ok-parts.parts.need
    (c.from_vec-pieces.ensures ∙ c.in_ok-parts.ensures.given) c.in_ok-parts.ensures.need c.in_ok-push.ensures.items c.new-letters.ensures.items c.in-Some.ensures

pub returns-clause-waits : goal.returns-clause-waits
returns-clause-waits c = λ w rank is.
    let s = c.args.self.now in
    let fits : FitsSigned w64 s.smallest = omega (arith, ints, c.fits-self) in
    waits_given s.rank s.ranks s.round s.hand.items s.needs s.quota s.smallest w rank is c.if-not-tells_up.ensures _ c.replace-hand.result.items (passed s.smallest fits)
    (ap (λ v. v.items) c.replace-hand.ensures.value) c.in_ok-parts.parts.kept.items c.in_ok-parts.ensures.kept
