use Rattle.std.proofs.Common.{◌≡◌, ◌++◌, take}
use Rattle.samr_box.specs.declared.vector.IVec.{IVec}
use Rattle.samr_find.specs.Buckets.{places_at}
use Rattle.samr_find.proofs.Counting.{placed}
use Rattle.samr_find.proofs.buckets.add_places.Given as goal

abbrev pub invariant-loop-number : goal.invariant-loop-number
invariant-loop-number l =
    (q : IVec) → places_at (λ v. v.items) l.buckets q ≡ places_at (λ v. v.items) l.fn.buckets q ++ placed q l.place (take l.number-index l.number-items)
