use Rattle.std.proofs.Common.{◌∙◌, ap, sym, subst, take, ◌+◌, get_or}
use Rattle.std.proofs.lemmas.List.{take_all}
use Rattle.std.proofs.lemmas.List.Elements.{All-get_or}
use Rattle.std.proofs.lemmas.List.Folds.{list_any_more}
use Rattle.std.specs.Prelude.{Bool, List, pos}
use Rattle.std.specs.List.{list_any}
use Rattle.samr_box.specs.declared.vector.IVec.{IVec}
use Rattle.samr_box.specs.Corners.{Corners, Holds, holds}
use Rattle.samr_sign.specs.Fields.{tagged}
use Rattle.samr_mesh_plain.specs.Making.{one_cell}
use Rattle.samr_mesh_plain.proofs.CellFields.{one_more}
use Rattle.samr_mesh_plain.proofs.cells.field_of.Goals as goal

pub set-requires : goal.set-requires
set-requires c =
    let zero : IVec = record { k = pos 0; j = pos 0; i = pos 0 } in
    let x : IVec = get_or c.args.cells.now c.loop-x.x-index zero in
    subst (λ (b : Corners). Holds b x) (sym c.loop-x.invariant.0)
    (All-get_or (λ x. Holds c.args.b x) c.args.cells.now c.loop-x.x-index zero c.loop-x-test.true c.requires)

pub loop-x-preserved : goal.loop-x-preserved
loop-x-preserved c =
    let cells = c.args.cells.now in
    let i = c.loop-x.x-index in
    let zero : IVec = record { k = pos 0; j = pos 0; i = pos 0 } in
    let cell : IVec = get_or cells i zero in (
      c.set.ensures.bx ∙ c.loop-x.invariant.0,
      λ y.
          let has : IVec → Bool = λ x. holds (one_cell x) y in
          one_more (tagged c.set.new.self y) (has cell) (tagged c.loop-x.field y) (list_any has (take i cells)) (list_any has (take (i + 1) cells))
          (c.set.ensures.cells y) (c.loop-x.invariant.1 y) (list_any_more has cells i zero c.loop-x-test.true),
    )

pub returns-clause-cells : goal.returns-clause-cells
returns-clause-cells c = λ y.
    c.loop-x.invariant.1 y
    ∙ ap (λ (l : List IVec). list_any (λ x. holds (one_cell x) y) l) (take_all c.loop-x.x-index c.args.cells.now c.loop-x-test.false)
