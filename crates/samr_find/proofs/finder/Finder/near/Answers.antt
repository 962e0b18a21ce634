use Rattle.std.proofs.Common.{◌∙◌, ap}
use Rattle.std.specs.List.{flat_map}
use Rattle.std.proofs.lemmas.List.{take_all}
use Rattle.samr_box.specs.Ratios.{coarsened}
use Rattle.samr_find.specs.Buckets.{found_in, near}
use Rattle.samr_find.specs.Cells.{cells_in}
use Rattle.samr_find.proofs.finder.Finder.near.Goals as goal

pub returns-clause-places : goal.returns-clause-places
unfolding near
returns-clause-places c =
    let all = take_all c.loop-number.number-index c.deref-number-items.result.now c.loop-number-test.false in
    let numbers = c.numbers_of.ensures.value ∙ ap (coarsened c.args.b) c.edge.ensures.value in
    c.loop-number.invariant
    ∙ ap (flat_map (λ n. found_in c.args.self.now c.args.b n)) (all ∙ c.deref-number-items.ensures.value ∙ c.in_ok-numbers.ensures.value ∙ ap cells_in numbers)
