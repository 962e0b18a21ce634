use Rattle.std.proofs.Common.{◌<◌, ◌^◌, ap, sym, ◌∙◌, subst, List}
use Rattle.std.specs.Prelude.{All}
use Rattle.samr_load.specs.Pieces.{Placed, piece_cmp, size_of, load}
use Rattle.samr_load.proofs.Totals.{total-sorted}
use Rattle.samr_load.proofs.TakeSteps.{all_fit}
use Rattle.samr_load.proofs.taking.take.Goals as goal

pub take_in_order-requires-clause-fits : goal.take_in_order-requires-clause-fits
take_in_order-requires-clause-fits c =
    subst (λ (qs : List Placed). All (λ q. size_of q < 2 ^ 63) qs)
    (sym (c.as_slice.ensures.value ∙ c.in_piece_order-list.ensures)) (all_fit c.args.list.items c.requires.fits)

pub returns-clause-cells : goal.returns-clause-cells
returns-clause-cells c =
    c.in_ok-parts.ensures.cells ∙ ap load (c.as_slice.ensures.value ∙ c.in_piece_order-list.ensures) ∙ total-sorted size_of piece_cmp c.args.list.items
