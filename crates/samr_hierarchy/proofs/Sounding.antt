-- The meshes of an accepted problem are what its values rest on, and all that is promised of both.
use Rattle.std.proofs.Common.{◌≡◌, ℕ, suc, ◌+◌, ◌<◌, sym, ap, ◌∙◌, subst, arith}
use Rattle.std.specs.Prelude.{Bool, true, false, if◌then◌else◌, List}
use Rattle.samr_box.specs.Lists.{Member}
use Rattle.samr_level.specs.Refs.{Owned}
use Rattle.samr_fill.proofs.Numbered.{get_member}
use Rattle.samr_problem.specs.Fields.{Fields}
use Rattle.samr_problem.specs.Problems.{IsProblem}
use Rattle.samr_mesh.specs.Meshes.{regridded, is_due, stepped, mesh_from, mesh}
use Rattle.samr_mesh.specs.Passes.{Pass}
use Rattle.samr_mesh.specs.PassLists.{passes_at}
use Rattle.samr_mesh.specs.Soundness.{IsMesh, IsRemade}
use Rattle.samr_mesh.proofs.MeshForms.{fresh_mesh, same_on_one, passes_run}
use Rattle.samr_mesh.proofs.Meshing.{tags_refined}
use Rattle.samr_mesh.proofs.Passing.{passed}
use Rattle.samr_mesh.proofs.Remade.{regrids_lie_over}
use Rattle.samr_hierarchy.specs.Scales.{rules_of}
use Rattle.samr_hierarchy.specs.Hierarchies.{filling}
use Rattle.samr_hierarchy.specs.OfProblems.{hierarchy_after, ProblemsHaveMeshes, HierarchiesAreSound, EachGhostCellOnce, RanksDoNotMatterToValues}
use Rattle.samr_hierarchy.specs.Sound.{IsClustered, ProblemsAreSound}
use Rattle.samr_hierarchy.proofs.Schedules.{each_cell_has_one_origin}
use Rattle.samr_hierarchy.proofs.Fills.{at_mapped, fills_hold}
use Rattle.samr_hierarchy.proofs.Fitting.{each_step_is_sound}
use Rattle.samr_hierarchy.proofs.Grounding.{problems_have_ground}
use Rattle.samr_hierarchy.proofs.Agreeing.{hierarchies_agree}
use Rattle.samr_hierarchy.proofs.Sourcing.{source_is}

if_true : (t : Bool) (a b : List (List Owned)) → t ≡ true → (if t then a else b) ≡ a
if_true t a b e = ap (λ (v : Bool). if v then a else b) e

if_false : (t : Bool) (a b : List (List Owned)) → t ≡ false → (if t then a else b) ≡ b
if_false t a b e = ap (λ (v : Bool). if v then a else b) e

next_mesh : (p : Fields) (ranks t : ℕ) → mesh p ranks (suc t) ≡ (if is_due p (suc t) then regridded p ranks (suc t) (mesh p ranks t) else mesh p ranks t)
unfolding mesh_from
next_mesh p ranks t = let e : 0 + suc t ≡ suc t = omega arith in ap (λ (n : ℕ). stepped p ranks n (mesh p ranks t)) e

pub problems_have_meshes : ProblemsHaveMeshes
problems_have_meshes p ranks is some = record {
  each = λ t. fresh_mesh p ranks t is some;
  remade = λ t e.
      subst (λ (v : List (List Owned)). IsRemade p (mesh p ranks t) v)
      (sym (next_mesh p ranks t ∙ if_true (is_due p (suc t)) (regridded p ranks (suc t) (mesh p ranks t)) (mesh p ranks t) e))
      (regrids_lie_over p ranks (suc t) (mesh p ranks t) is some (fresh_mesh p ranks t is some));
  kept = λ t e. next_mesh p ranks t ∙ if_false (is_due p (suc t)) (regridded p ranks (suc t) (mesh p ranks t)) (mesh p ranks t) e;
}

pub hierarchies_are_sound : HierarchiesAreSound
hierarchies_are_sound p ranks t is some = each_step_is_sound p ranks t (mesh p ranks) (problems_have_ground p is) (problems_have_meshes p ranks is some)

pub each_ghost_cell_once : EachGhostCellOnce
each_ghost_cell_once p ranks t is some f l field b x here less m has =
    let n = problems_have_ground p is in
    let sound = hierarchies_are_sound p ranks t is some in
    let h = hierarchy_after p ranks t in
    let are = subst (λ (v : List (List Owned)). IsMesh p ranks v) (sym sound.levels) (fresh_mesh p ranks t is some) in
    let fill = fills_hold p ranks l h n are sound.fits less in
    record {
      origin = each_cell_has_one_origin p ranks l h.levels b field x n are less m (get_member p.fields f field here) has;
      source = source_is (filling p ranks h l) fill f (rules_of field) (at_mapped rules_of p.fields f field here) b m x has;
    }

pub ranks_do_not_matter_to_values : RanksDoNotMatterToValues
ranks_do_not_matter_to_values p ranks t is some =
    let one : 0 < 1 = omega arith in
    hierarchies_agree p ranks 1 t (mesh p ranks) (mesh p 1) (problems_have_ground p is) (problems_have_meshes p ranks is some) (problems_have_meshes p 1 is one)
    (λ t. same_on_one p ranks t is some)

clustered : (p : Fields) (ranks t : ℕ) (w : Pass) → IsProblem p → 0 < ranks → Member w (passes_at p ranks t) → IsClustered p w
clustered p ranks t w is some m =
    let run = (passes_run p ranks t is some w m).0 in
    record { covered = (passed p w run).covers; refined = λ x tag deep. tags_refined p w x run tag deep }

pub problems_are_sound : ProblemsAreSound
problems_are_sound p ranks is some t below =
    let are = fresh_mesh p ranks t is some in
    record {
      levels = are.level;
      nested = are.nested;
      clustered = λ w m. clustered p ranks t w is some m;
      mesh_is = (hierarchies_are_sound p ranks t is some).levels;
      once = each_ghost_cell_once p ranks t is some;
      same = ranks_do_not_matter_to_values p ranks t is some;
    }
