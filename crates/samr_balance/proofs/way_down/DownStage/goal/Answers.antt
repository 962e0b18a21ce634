use Rattle.std.proofs.Common.{arith, ap}
use Rattle.samr_load.specs.Pieces.{load}
use Rattle.samr_balance.proofs.WayDownStage.{goal_none, load_small, wanted_small, goal_is}
use Rattle.samr_balance.proofs.way_down.DownStage.goal.Goals as goal

pub returns-then-not-told_down : goal.returns-then-not-told_down
returns-then-not-told_down c = λ w rank is.
    let s = c.args.self.now in
    goal_none s.rank s.ranks s.round s.hand.items s.needs s.quota s.smallest w rank is c.if-not-told_down.ensures

pub need-requires-clause-fits : goal.need-requires-clause-fits
need-requires-clause-fits c =
    let s = c.args.self.now in
    let same = ap load c.as_slice.ensures.value in
    omega (arith, same, load_small s.rank s.ranks s.round s.hand.items s.needs s.quota s.smallest c.requires.0 c.requires.1 c.requires.2 c.if-not-told_down.ensures)

pub need-requires-clause-quotas : goal.need-requires-clause-quotas
need-requires-clause-quotas c =
    let s = c.args.self.now in
    wanted_small s.rank s.ranks s.round s.hand.items s.needs s.quota s.smallest c.requires.0 c.requires.1 c.requires.2 c.if-not-told_down.ensures

pub returns : goal.returns
returns c = λ w rank is.
    let s = c.args.self.now in
    goal_is s.rank s.ranks s.round s.hand.items s.needs s.quota s.smallest w rank is c.if-not-told_down.ensures c.count_needed.result c.need.result c.as_slice.result.now
    c.count_needed.ensures c.need.ensures c.as_slice.ensures.value
