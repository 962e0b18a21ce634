-- What the cuts of a rank's own clusters are made from.
use Rattle.std.specs.Prelude.{◌≡◌, ℕ, ℤ, pos, ◌≤ℤ◌, List}
use Rattle.samr_box.specs.declared.vector.IVec.{IVec}
use Rattle.samr_level.specs.Refs.{Link}
use Rattle.samr_level.specs.Regions.{Area}
use Rattle.samr_modify.specs.Modify.{old_pair}
use Rattle.samr_problem.specs.Fields.{Fields}
use Rattle.samr_mesh.specs.Domains.{area_at}
use Rattle.samr_mesh.specs.Passes.{Pass}
use Rattle.samr_mesh.specs.Soundness.{CanRun}
use Rattle.samr_msg.specs.Places.{AtPass}
use Rattle.samr_wholes.specs.Wholes.{modifying}

-- the edges of a rank's clusters to the level, the domain of the level, and the numbers of the problem
pub record IsCutting (edges : List Link) (region : Area) (nest : IVec) (largest : ℤ) (p : Fields) (w : Pass) (r : ℕ) : Type 0 where
  pub can : CanRun p w
  pub same_edges : edges ≡ (old_pair (modifying p w) r).back.edges
  pub same_region : region ≡ area_at p w.number
  pub same_nest : nest ≡ p.nest
  pub same_largest : largest ≡ p.largest
  pub some : pos 1 ≤ℤ p.largest
  pub few : p.largest ≤ℤ pos 4194304

-- how the clusters of a pass are cut
pub record IsKnife (region : Area) (nest : IVec) (largest : ℤ) (w : AtPass) : Type 0 where
  pub same_region : region ≡ area_at w.at.setting.problem w.pass.number
  pub same_nest : nest ≡ w.at.setting.problem.nest
  pub same_largest : largest ≡ w.at.setting.problem.largest
