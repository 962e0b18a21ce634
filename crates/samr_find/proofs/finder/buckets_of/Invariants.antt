use Rattle.std.proofs.Common.{take}
use Rattle.std.specs.Prelude.{All}
use Rattle.samr_box.specs.Corners.{IsBox}
use Rattle.samr_find.specs.Buckets.{AreBuckets}
use Rattle.samr_find.proofs.finder.buckets_of.Given as goal

abbrev pub invariant-loop-place : goal.invariant-loop-place
invariant-loop-place l = record {
  buckets : AreBuckets (λ v. v.items) (take l.place l.boxes) l.edge l.buckets;
  boxes : All IsBox (take l.place l.boxes);
}
