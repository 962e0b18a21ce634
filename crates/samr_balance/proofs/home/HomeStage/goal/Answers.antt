use Rattle.std.proofs.Common.{arith, ap, ◌∙◌}
use Rattle.std.specs.Prelude.{sum_by}
use Rattle.samr_box.specs.Corners.{cells_of}
use Rattle.samr_level.specs.Refs.{Owned}
use Rattle.samr_balance.specs.HomeRow.{size_for}
use Rattle.samr_balance.proofs.HomeRowLaws.{olds_small, own_part_within, goal_is}
use Rattle.samr_balance.proofs.home.HomeStage.goal.Goals as goal

pub cells_in-requires : goal.cells_in-requires
cells_in-requires c =
    let s = c.args.self.now in
    let same = ap (sum_by (λ (o : Owned). cells_of o.bx)) c.as_slice.ensures.value in
    omega (arith, same, olds_small s.rank s.ranks s.pieces.items s.olds.items c.requires.0 c.requires.1 c.requires.2)

pub load_for-requires : goal.load_for-requires
load_for-requires c =
    let s = c.args.self.now in
    let same = ap (sum_by (size_for s.rank)) c.as_slice-2.ensures.value in
    omega (
      arith,
      same,
      olds_small s.rank s.ranks s.pieces.items s.olds.items c.requires.0 c.requires.1 c.requires.2,
      own_part_within s.rank s.ranks s.pieces.items s.olds.items c.requires.0 c.requires.1 c.requires.2,
    )

pub overflow_sub-result : goal.overflow_sub-result
overflow_sub-result c =
    let s = c.args.self.now in
    let same = ap (sum_by (λ (o : Owned). cells_of o.bx)) c.as_slice.ensures.value in
    let part = ap (sum_by (size_for s.rank)) c.as_slice-2.ensures.value in
    omega (arith, same, part, c.cells_in.ensures, c.load_for.ensures, own_part_within s.rank s.ranks s.pieces.items s.olds.items c.requires.0 c.requires.1 c.requires.2)

pub returns : goal.returns
returns c = λ w rank is.
    let s = c.args.self.now in
    goal_is s.rank s.ranks s.pieces.items s.olds.items w rank is c.cells_in.result c.load_for.result
    (c.cells_in.ensures ∙ ap (sum_by (λ (o : Owned). cells_of o.bx)) c.as_slice.ensures.value)
    (c.load_for.ensures ∙ ap (sum_by (size_for s.rank)) c.as_slice-2.ensures.value)
