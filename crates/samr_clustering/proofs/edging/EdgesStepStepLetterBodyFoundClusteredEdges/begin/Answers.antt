use Rattle.std.proofs.Common.{refl, subst, sym}
use Rattle.samr_mesh.specs.Passes.{clusters_of}
use Rattle.samr_clustering.specs.Rounds.{whole_of, HasAllAccepted}
use Rattle.samr_clustering.proofs.edging.EdgesStepStepLetterBodyFoundClusteredEdges.begin.Goals as goal

pub returns-clause-plays : goal.returns-clause-plays
unfolding clusters_of
returns-clause-plays c = λ d w r h visits. record {
  whole = whole_of w;
  part = d.in_ok-stage.ensures w r h.0 (subst (λ l. HasAllAccepted l w r) (sym d.as_slice.ensures) h.1);
  same_ranks = refl;
  same_row = λ from to. refl;
  same_result = λ out is. is;
}
