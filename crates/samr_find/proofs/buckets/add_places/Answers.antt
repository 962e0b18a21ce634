use Rattle.std.proofs.Common.{ap, ◌∙◌, ◌++◌}
use Rattle.std.proofs.lemmas.List.{take_all}
use Rattle.samr_find.specs.Buckets.{places_at}
use Rattle.samr_find.proofs.Counting.{placed, placed-cells}
use Rattle.samr_find.proofs.buckets.add_places.Goals as goal

pub returns : goal.returns
returns c = λ q.
    let all = take_all c.loop-number.number-index c.deref-number-items.result.now c.loop-number-test.false in
    c.loop-number.invariant q
    ∙ ap (λ cells. places_at (λ v. v.items) c.args.buckets.now q ++ placed q c.args.place cells) (all ∙ c.deref-number-items.ensures.value ∙ c.in_ok-cells.ensures.value)
    ∙ ap (λ t. places_at (λ v. v.items) c.args.buckets.now q ++ t) (placed-cells c.args.numbers q c.args.place c.cells_in.ensures.whole.order)
