use Rattle.std.proofs.Common.{arith, ap, ◌∙◌, sym, subst}
use Rattle.std.proofs.lemmas.Int.{ints}
use Rattle.std.specs.Int.{w64}
use Rattle.std.specs.Prelude.{FitsSigned, List}
use Rattle.samr_level.specs.Refs.{Owned}
use Rattle.samr_load.specs.Balanced.{cells_in}
use Rattle.samr_load.specs.Laws.{AreOwned}
use Rattle.samr_balance.proofs.HomeRowLaws.{cells_are}
use Rattle.samr_balance.proofs.OnAllLaws.{owned_from, some_handed}
use Rattle.samr_balance.proofs.on_all.planned.Goals as goal

pub cells_in-total-requires : goal.cells_in-total-requires
cells_in-total-requires c = omega (arith, cells_are c.args.boxes.now, c.requires.fits)

pub invariant_of-result : goal.invariant_of-result
invariant_of-result c =
    let fits : FitsSigned w64 c.args.smallest = omega (arith, ints) in
    let same = c.from_vec.ensures ∙ c.in_ok-boxes.ensures.value in
    let total = c.cells_in-total.ensures ∙ cells_are c.args.boxes.now in
    record {
      ranked = c.requires.ranks;
      some = some_handed c.args.smallest fits c.requires.smallest;
      owned = subst (λ (l : List Owned). AreOwned c.args.ranks l) (sym same) (owned_from c.args.ranks c.args.boxes.now c.requires.owned c.in_ok-boxes.ensures.solid);
      all = total ∙ ap cells_in (sym same);
      fits = omega (arith, total, c.requires.fits);
    }
