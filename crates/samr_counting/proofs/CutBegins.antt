-- A rank's clusters and how they are cut are what its cuts are made from.
use Rattle.std.proofs.Common.{◌≡◌, ℕ, ap, ◌∙◌}
use Rattle.std.specs.Prelude.{ℤ, pos, List}
use Rattle.samr_box.specs.declared.vector.IVec.{IVec}
use Rattle.samr_level.specs.declared.parts.Pair.{Pair}
use Rattle.samr_level.specs.Refs.{Link}
use Rattle.samr_level.specs.Regions.{Area}
use Rattle.samr_modify.specs.Modify.{old_pair}
use Rattle.samr_problem.specs.Problems.{IsProblem}
use Rattle.samr_mesh.proofs.Grounding.{within_of}
use Rattle.samr_wholes.specs.Wholes.{modifying}
use Rattle.samr_msg.specs.Places.{AtPass}
use Rattle.samr_regrid.specs.Standing.{IsPassOf}
use Rattle.samr_counting.specs.Cutting.{IsCutting, IsKnife}

pub cutting_of : (edges : List Link) (clusters : Pair) (region : Area) (nest : IVec) (largest : ℤ) (w : AtPass) (r : ℕ) → IsProblem w.at.setting.problem → IsPassOf w
    → edges ≡ clusters.back.edges → clusters ≡ old_pair (modifying w.at.setting.problem w.pass) r → IsKnife region nest largest w
    → IsCutting edges region nest largest w.at.setting.problem w.pass r
cutting_of edges clusters region nest largest w r is pass same pair knife =
    let range = within_of (pos 1) (pos 4194304) w.at.setting.problem.largest is.largest in
    record {
      can = pass.can;
      same_edges = same ∙ ap (λ (q : Pair). q.back.edges) pair;
      same_region = knife.same_region;
      same_nest = knife.same_nest;
      same_largest = knife.same_largest;
      some = range.0;
      few = range.1;
    }
