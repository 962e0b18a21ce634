use Rattle.std.proofs.Common.{sym, subst}
use Rattle.samr_level.specs.Cuts.{Cut, IsPlace}
use Rattle.samr_box.specs.declared.vector.Axis.TheVariants.{I, J, K}
use Rattle.samr_level.proofs.BlockPlaces.{few_along, IsPlace-place}
use Rattle.samr_level.proofs.cut.Cut.member.Goals as goal

pub place-requires-clause-x : goal.place-requires-clause-x
place-requires-clause-x c = let s = c.args.self in few_along I s.block s.bx c.args.x c.number-number.ensures.whole.block.low c.number-number.ensures.whole.bx c.requires.x

pub place-requires-clause-y : goal.place-requires-clause-y
place-requires-clause-y c = let s = c.args.self in few_along J s.block s.bx c.args.y c.number-number.ensures.whole.block.low c.number-number.ensures.whole.bx c.requires.y

pub place-requires-clause-z : goal.place-requires-clause-z
place-requires-clause-z c = let s = c.args.self in few_along K s.block s.bx c.args.z c.number-number.ensures.whole.block.low c.number-number.ensures.whole.bx c.requires.z

pub block_at-requires-clause-place : goal.block_at-requires-clause-place
block_at-requires-clause-place c =
    let s = c.args.self in
    subst (λ (v : Cut). IsPlace v.block v.bx c.place.result) (sym c.self.view_is)
    (rw c.place.ensures
    (IsPlace-place s.block s.bx c.args.x c.args.y c.args.z c.number-number.ensures.whole.block.low c.number-number.ensures.whole.bx.order c.requires.x c.requires.y c.requires.z))
