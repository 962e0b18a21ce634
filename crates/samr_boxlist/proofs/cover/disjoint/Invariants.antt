use Rattle.std.proofs.Common.{◌≡◌, ◌≤◌, length}
use Rattle.samr_box.specs.declared.vector.IVec.{IVec}
use Rattle.samr_boxlist.specs.Covers.{cover}
use Rattle.samr_boxlist.proofs.Disjointness.{none_meet}
use Rattle.samr_boxlist.proofs.cover.disjoint.Given as goal

abbrev pub invariant-loop-first : goal.invariant-loop-first
invariant-loop-first l = record {
  same : none_meet l.list ≡ none_meet l.rest;
  less : (x : IVec) → cover x l.rest ≤ cover x l.list;
}

abbrev pub decreases-loop-first : goal.decreases-loop-first
decreases-loop-first l = length l.rest
