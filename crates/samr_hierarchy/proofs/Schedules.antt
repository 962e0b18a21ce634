-- The schedules of levels that nest: each ghost cell has one origin and a source.
use Rattle.std.proofs.Common.{◌≡◌, ℕ, zero, suc, ◌<◌, refl, sym, ap, ◌∙◌, subst, inl, inr, arith, length}
use Rattle.std.proofs.lemmas.Bool.{cases_lt}
use Rattle.std.proofs.lemmas.Int.{ints}
use Rattle.std.specs.Prelude.{pos, List, [], ◌∷◌, map}
use Rattle.samr_box.specs.declared.vector.IVec.{IVec}
use Rattle.samr_box.specs.Vector.{alike, AtMost, IsRatio}
use Rattle.samr_box.specs.Corners.{Holds, grown}
use Rattle.samr_box.specs.Ratios.{coarse}
use Rattle.samr_box.specs.Space.{whole, wrapped}
use Rattle.samr_box.specs.Lists.{Member}
use Rattle.samr_box.proofs.CellSets.{Holds-grown, Holds-lo, Holds-hi}
use Rattle.samr_box.proofs.Members.{Member-from_map}
use Rattle.samr_box.proofs.Vectors.{AtMost-refl, AtMost-trans}
use Rattle.samr_level.specs.Refs.{Owned}
use Rattle.samr_level.specs.Regions.{IsArea}
use Rattle.samr_level.specs.Levels.{IsLevel, IsCellIn}
use Rattle.samr_level.proofs.FinerAreas.{IsArea-finer}
use Rattle.samr_level.proofs.Reaches.{rounded_up-least}
use Rattle.samr_nest.proofs.StayLaws.{cell_of_frame}
use Rattle.samr_ops.specs.declared.rules.Rules.{Rules}
use Rattle.samr_sched.specs.Ask.{IsScheduling, IsSourced, IsGhost}
use Rattle.samr_sched.proofs.OneOrigin.{one_origin}
use Rattle.samr_problem.specs.declared.field.Field.{Field}
use Rattle.samr_problem.specs.Fields.{Fields}
use Rattle.samr_mesh.specs.Domains.{area_of, step_of, ratio_to, area_at}
use Rattle.samr_mesh.specs.Meshes.{level_at}
use Rattle.samr_mesh.specs.Soundness.{IsMesh}
use Rattle.samr_mesh.proofs.Sourced.{near_under}
use Rattle.samr_mesh.proofs.MeshForms.{no_level, beyond, any_level as mesh_level}
use Rattle.samr_hierarchy.specs.Scales.{rules_of, all_rules}
use Rattle.samr_hierarchy.specs.Grounds.{IsGround}
use Rattle.samr_hierarchy.specs.Hierarchies.{scheduling}
use Rattle.samr_hierarchy.specs.Laws.{SchedulesHold, EachCellHasOneOrigin}
use Rattle.samr_hierarchy.proofs.Scaling.{under_inside, all_grow}

module _ (p : Fields) (ranks : ℕ) (levels : List (List Owned)) (n : IsGround p) (mesh : IsMesh p ranks levels) where
  -- a level, also beyond the finest, where it has no boxes
  pub any_level : (l : ℕ) → IsLevel (area_at p l) ranks (level_at levels l)
  any_level l = mesh_level p ranks l levels mesh

  pub has_cells : (l : ℕ) (x : IVec) → IsCellIn (level_at levels l) x → l < length levels
  has_cells l x c = elim (cases_lt l (length levels)) [
    | inl less ↦ less
    | inr most ↦ let none = subst (λ (v : List Owned). IsCellIn v x) (beyond levels l most) c in absurd none.1
  ]

  within : (l : ℕ) → l < length levels → l < p.levels
  within l less = let few = mesh.few in omega (arith, less, few)

  pub area_is : (l : ℕ) → l < length levels → IsArea (area_at p l)
  area_is l less = IsArea-finer (area_of p) (ratio_to p l) n.area (n.ratio l (within l less)) (n.space l (within l less))

  -- a box of a level lies in the frame
  pub lo_of : (l : ℕ) (b : Owned) → l < length levels → Member b (level_at levels l) → Holds (whole (area_at p l).frame) b.bx.lo
  lo_of l b less m =
      let level = mesh.level l less in
      cell_of_frame (area_at p l) b.bx.lo (area_is l less) (level.inside b b.bx.lo m (Holds-lo {b = b.bx} (level.not_empty b m)))

  pub hi_of : (l : ℕ) (b : Owned) → l < length levels → Member b (level_at levels l) → Holds (whole (area_at p l).frame) b.bx.hi
  hi_of l b less m =
      let level = mesh.level l less in
      cell_of_frame (area_at p l) b.bx.hi (area_is l less) (level.inside b b.bx.hi m (Holds-hi {b = b.bx} (level.not_empty b m)))

  frame_low : AtMost (alike (pos 0)) p.domain
  frame_low = AtMost-trans n.width n.wide

  -- the width of a field's ghost cells
  ghost_of : (l : ℕ) (f : Field) → l < length levels → Member f p.fields → IsRatio (scheduling p ranks levels l).step → IsGhost (scheduling p ranks levels l) f.ghosts
  ghost_of l f less m step =
      let field = n.fields f m in
      let low = field.rules.positive in
      record {
        low = low;
        short = AtMost-trans field.wide (AtMost-trans n.wide (all_grow p.domain (ratio_to p l) frame_low (n.ratio l (within l less))));
        wide = field.wide;
        reach = rounded_up-least f.ghosts (scheduling p ranks levels l).step p.width step (AtMost-trans field.wide (all_grow p.width (scheduling p ranks levels l).step n.width step));
        room = λ b k. n.room l b.bx f.ghosts (within l less) low field.narrow ((mesh.level l less).not_empty b k) (lo_of l b less k) (hi_of l b less k);
      }

  its_field : (g : IVec) → Member g (map (λ r. r.width) (all_rules p)) → (f : Field) × Member f p.fields × (g ≡ f.ghosts)
  its_field g m =
      let r = Member-from_map (λ (r : Rules). r.width) g (all_rules p) m in
      let f = Member-from_map rules_of r.0 p.fields r.1 in
      (f.0, f.1, r.2 ∙ ap (λ (r : Rules). r.width) f.2)

  ghosts_of : (l : ℕ) → l < length levels → IsRatio (scheduling p ranks levels l).step → (g : IVec) → Member g (map (λ r. r.width) (all_rules p)) → IsGhost (scheduling p ranks levels l) g
  ghosts_of l less step g m =
      let f = its_field g m in
      subst (λ (v : IVec). IsGhost (scheduling p ranks levels l) v) (sym f.2) (ghost_of l f.0 less f.1 step)

  one_ratio : IsRatio (alike (pos 1))
  one_ratio = record {
    low = AtMost-refl (alike (pos 1));
    high = record { k = omega (arith, ints); j = omega (arith, ints); i = omega (arith, ints) };
  }

  first_is : 0 < length levels → IsScheduling (scheduling p ranks levels 0)
  first_is less = record {
    area = area_is 0 less;
    coarse_area = area_is 0 less;
    plain = n.plain;
    level = mesh.level 0 less;
    coarser = no_level (area_at p 0) ranks;
    ratio = one_ratio;
    below = one_ratio;
    step = one_ratio;
    product = refl;
    ghosts = ghosts_of 0 less one_ratio;
  }

  first_sourced : IsSourced (scheduling p ranks levels 0)
  first_sourced b g x m k has inside = inl (mesh.whole (wrapped (area_at p 0).frame x) inside)

  module _ (l : ℕ) (less : suc l < length levels) where
    before : l < length levels
    before = omega (arith, less)

    upper_is : IsScheduling (scheduling p ranks levels (suc l))
    upper_is = record {
      area = area_is (suc l) less;
      coarse_area = area_is l before;
      plain = n.plain;
      level = mesh.level (suc l) less;
      coarser = mesh.level l before;
      ratio = n.ratio (suc l) (within (suc l) less);
      below = n.ratio l (within l before);
      step = n.step l;
      product = refl;
      ghosts = ghosts_of (suc l) less (n.step l);
    }

    -- the nest is wide enough for the ghost cells
    upper_sourced : IsSourced (scheduling p ranks levels (suc l))
    upper_sourced b g x m k has inside =
        let f = its_field g k in
        let field = n.fields f.0 f.1 in
        let near = (Holds-grown b.bx f.0.ghosts ((mesh.level (suc l) less).not_empty b m) field.rules.positive x).0 (subst (λ (v : IVec). Holds (grown b.bx v) x) f.2 has) in
        inr
        (mesh.nested l less near.0 (coarse x (step_of p l)) (b, m, near.1)
        (near_under near.0 x f.0.ghosts p.nest (step_of p l) (n.step l) (field.nested l (within (suc l) less)) near.2)
        (under_inside (area_of p) (ratio_to p l) (step_of p l) x (n.space l (within l before)) (n.step l) inside))

pub schedules_hold : SchedulesHold
schedules_hold p ranks zero levels n mesh less = (first_is p ranks levels n mesh less, first_sourced p ranks levels n mesh)
schedules_hold p ranks (suc l) levels n mesh less = (upper_is p ranks levels n mesh l less, upper_sourced p ranks levels n mesh l less)

pub each_cell_has_one_origin : EachCellHasOneOrigin
each_cell_has_one_origin p ranks l levels b f x n mesh less m mf has =
    let s = schedules_hold p ranks l levels n mesh less in
    one_origin (scheduling p ranks levels l) s.0 b f.ghosts x m (Member-width f p.fields mf) has s.1
  where
    Member-width : (f : Field) (fields : List Field) → Member f fields → Member f.ghosts (map (λ r. r.width) (map rules_of fields))
    Member-width f [] m = absurd m
    Member-width f (g ∷ fields) (inl here) = inl (ap (λ (v : Field). v.ghosts) here)
    Member-width f (g ∷ fields) (inr later) = inr (Member-width f fields later)
