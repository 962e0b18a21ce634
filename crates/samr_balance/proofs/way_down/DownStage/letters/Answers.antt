use Rattle.std.proofs.Common.{arith, ap, ◌≡◌}
use Rattle.std.proofs.lemmas.Int.{ints}
use Rattle.std.specs.Int.{w64}
use Rattle.std.specs.Prelude.{FitsSigned}
use Rattle.samr_tree.specs.Tree.{depth}
use Rattle.samr_load.specs.Pieces.{load}
use Rattle.samr_load.proofs.PlainSteps.{passed}
use Rattle.samr_balance.proofs.WayDownStage.{says_nothing, hand_small, says_children, waits_given}
use Rattle.samr_balance.proofs.way_down.DownStage.letters.Goals as goal

pub returns-then-depth-self-clause-letters : goal.returns-then-depth-self-clause-letters
returns-then-depth-self-clause-letters c = λ w rank is.
    let s = c.args.self.now in
    says_nothing s.rank s.ranks s.round s.hand.items s.needs s.quota s.smallest w rank is c.new-letters.result.items c.depth.result c.new-letters.ensures.items c.depth.ensures c.if-depth-self.true

pub fall-requires-clause-fits : goal.fall-requires-clause-fits
fall-requires-clause-fits c =
    let s = c.args.self.now in
    let now : depth s.rank ≡ s.round = omega (arith, c.depth.ensures, c.if-depth-self.false) in
    let hand = ap (λ v. load v.items) c.replace-hand.ensures.value in
    omega (arith, hand, hand_small s.rank s.ranks s.round s.hand.items s.needs s.quota s.smallest c.requires.0 c.requires.1 c.requires.2 now)

pub returns-clause-letters : goal.returns-clause-letters
returns-clause-letters c = λ w rank is.
    let s = c.args.self.now in
    let now : depth s.rank ≡ s.round = omega (arith, c.depth.ensures, c.if-depth-self.false) in
    let fits : FitsSigned w64 s.smallest = omega (arith, ints) in
    says_children s.rank s.ranks s.round s.hand.items s.needs s.quota s.smallest w rank is now _ c.replace-hand.result.items (passed s.smallest fits)
    (ap (λ v. v.items) c.replace-hand.ensures.value) c.in_ok-parts.parts.first.items c.in_ok-parts.parts.second.items
    c.in_ok-parts.ensures.first c.in_ok-parts.ensures.second c.tell-2.new.letters.items c.tell.new.letters.items c.new-letters.result.items
    c.children-one.result.0 c.children-one.result.1 c.new-letters.ensures.items c.children-one.ensures.first c.children-one.ensures.second
    c.in_ok-tell.ensures c.in_ok-tell-2.ensures

pub returns-clause-waits : goal.returns-clause-waits
returns-clause-waits c = λ w rank is.
    let s = c.args.self.now in
    let now : depth s.rank ≡ s.round = omega (arith, c.depth.ensures, c.if-depth-self.false) in
    let fits : FitsSigned w64 s.smallest = omega (arith, ints) in
    waits_given s.rank s.ranks s.round s.hand.items s.needs s.quota s.smallest w rank is now _ c.replace-hand.result.items (passed s.smallest fits)
    (ap (λ v. v.items) c.replace-hand.ensures.value) c.in_ok-parts.parts.left.items c.in_ok-parts.ensures.left
