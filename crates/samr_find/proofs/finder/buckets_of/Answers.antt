use Rattle.std.proofs.Common.{subst}
use Rattle.std.specs.Prelude.{All}
use Rattle.std.proofs.lemmas.List.{take_all}
use Rattle.samr_box.specs.Corners.{IsBox}
use Rattle.samr_find.proofs.FinderLaws.{buckets-more, whole-more}
use Rattle.samr_find.proofs.finder.buckets_of.Goals as goal

pub loop-place-preserved : goal.loop-place-preserved
loop-place-preserved c = record {
  buckets =
      buckets-more (λ v. v.items) c.args.boxes.now c.args.edge c.loop-place.buckets c.add_places.new.buckets c.loop-place.place c.index-boxes-place.result c.numbers_of.result
      c.loop-place-test.true c.loop-place.invariant.buckets c.index-boxes-place.is c.numbers_of.ensures.value c.in_ok-add_places.ensures;
  boxes = whole-more c.args.boxes.now c.loop-place.place c.index-boxes-place.result c.loop-place-test.true c.loop-place.invariant.boxes c.index-boxes-place.is c.numbers_of.ensures.whole;
}

pub returns-clause-boxes : goal.returns-clause-boxes
returns-clause-boxes c = subst (λ xs. All IsBox xs) (take_all c.loop-place.place c.args.boxes.now c.loop-place-test.false) c.loop-place.invariant.boxes
