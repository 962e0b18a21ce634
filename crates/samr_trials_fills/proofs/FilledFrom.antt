-- The first patches of all ranks are what a fill starts with.
use Rattle.std.proofs.Common.{◌≡◌, ℕ, zero, suc, refl, sym, ap, ◌∙◌, subst, inr, length, Some, slice_get}
use Rattle.std.proofs.lemmas.List.{length-map}
use Rattle.std.specs.Prelude.{List, [], ◌∷◌, map}
use Rattle.std.specs.List.{All}
use Rattle.samr_box.specs.declared.vector.IVec.{IVec}
use Rattle.samr_box.proofs.Members.{member_of_All}
use Rattle.samr_level.specs.Refs.{Owned}
use Rattle.samr_level.specs.Regions.{Area}
use Rattle.samr_level.specs.Levels.{own}
use Rattle.samr_data.specs.Grids.{Grid, value_at}
use Rattle.samr_stage.specs.Exchange.{AreResults}
use Rattle.samr_sched.specs.declared.plan.Plan.{Plan}
use Rattle.samr_sched.specs.Plans.{plan_of}
use Rattle.samr_ops.specs.declared.rules.Rules.{Rules}
use Rattle.samr_fill.specs.FillParts.{HasValues}
use Rattle.samr_fill.specs.FillOnAll.{HaveAllPatches}
use Rattle.samr_fill.proofs.Numbered.{some_same, none_some}
use Rattle.samr_trials_levels.specs.First.{first_value, first_patch, first_field, first_fields, all_first, HasRooms}
use Rattle.samr_trials_levels.specs.Cover.{fine_start, coarse_start}
use Rattle.samr_trials_levels.proofs.Steps.{item_at}
use Rattle.samr_trials_levels.proofs.Ranks.{at_rank, count_ranks}
use Rattle.samr_trials_levels.proofs.FirstPatches.{first_at, its_field, count_first, all_own_rooms}
use Rattle.samr_trials_fills.specs.Fills.{schedule_of, filling_of, CanPrepare}
use Rattle.samr_trials_fills.proofs.FillLaws.{is_filling}

-- what is made of the item at a place
mapped_at : {X Y : Type 0} (of : X → Y) (xs : List X) (place : ℕ) (y : Y) → slice_get (map of xs) place ≡ Some y → (x : X) × (slice_get xs place ≡ Some x) × (y ≡ of x)
mapped_at of [] place y e = absurd (none_some e)
mapped_at of (x ∷ xs) zero y e = (x, refl, sym (some_same e))
mapped_at of (x ∷ xs) (suc place) y e = mapped_at of xs place y e

module _ (bound start : ℕ) (widths : List IVec) (boxes : List Owned) (fields : List (List Grid)) (is : fields ≡ first_fields bound start widths boxes) where
  field_at : (f : ℕ) (field : List Grid) → slice_get fields f ≡ Some field → (g : IVec) × (slice_get widths f ≡ Some g) × (field ≡ first_field bound start boxes (f, g))
  field_at f field there = its_field bound start widths boxes f field (ap (λ (l : List (List Grid)). slice_get l f) (sym is) ∙ there)

  patch_at : (f place : ℕ) (field : List Grid) (p : Grid) → slice_get fields f ≡ Some field → slice_get field place ≡ Some p
      → (g : IVec) × (slice_get widths f ≡ Some g) × ((b : Owned) × (slice_get boxes place ≡ Some b) × (p ≡ first_patch bound start f g b.bx))
  patch_at f place field p there at =
      let r = field_at f field there in
      (r.0, r.1, mapped_at (λ (b : Owned). first_patch bound start f r.0 b.bx) boxes place p (ap (λ (l : List Grid). slice_get l place) (sym r.2) ∙ at))

  -- they have the first values in their boxes
  has_first : All (HasRooms boxes) widths → HasValues (first_value bound start) boxes fields
  has_first rooms = record {
    patch = λ f place field p there at.
        let r = patch_at f place field p there at in
        let b = r.2 in
        let positive = (member_of_All (HasRooms boxes) r.0 widths rooms (item_at widths f r.0 r.1)).positive in
        (b.0, b.1, ap (λ (g : Grid). g.bx) b.2, λ x has. ap (λ (g : Grid). value_at g x) b.2 ∙ first_at bound start f r.0 b.0.bx x positive has);
    full = λ f field there.
        let r = field_at f field there in
        ap length r.2 ∙ length-map boxes (λ (b : Owned). first_patch bound start f r.0 b.bx);
  }

  has_widths : (f place : ℕ) (field : List Grid) (p : Grid) (g : IVec) → slice_get fields f ≡ Some field → slice_get field place ≡ Some p → slice_get widths f ≡ Some g → p.width ≡ g
  has_widths f place field p g there at width =
      let r = patch_at f place field p there at in
      ap (λ (v : Grid). v.width) r.2.2 ∙ some_same (sym r.1 ∙ width)

module _ (a : Area) (step : IVec) (ranks : ℕ) (width : IVec) (bound : ℕ) (fixed : List ℕ) (rules : List Rules) (level coarser : List Owned)
    (h : CanPrepare a step ranks width bound fixed rules level coarser) where
  have_all : (plans : List Plan) (all under : List (List (List Grid))) → length plans ≡ ranks
      → AreResults (λ w rank out. out ≡ plan_of w rank) (schedule_of a step ranks width (map (λ r. r.width) rules) fixed level coarser) plans
      → all ≡ all_first bound fine_start (map (λ r. r.width) rules) level ranks → under ≡ all_first bound coarse_start (map (λ r. r.width) rules) coarser ranks
      → HaveAllPatches plans all under rules (filling_of a step ranks width bound fixed rules level coarser)
  have_all plans all under count made o u =
      let widths = map (λ (r : Rules). r.width) rules in
      let number = length-map rules (λ (r : Rules). r.width) in
      record {
        same_ranks = count_ranks (λ rank. first_fields bound fine_start widths (own rank level)) ranks all o;
        all_plans = count;
        all_coarser = count_ranks (λ rank. first_fields bound coarse_start widths (own rank coarser)) ranks under u;
        part = λ rank plan mine below planned there at_below.
            let its = at_rank (λ rank. first_fields bound fine_start widths (own rank level)) ranks all rank mine o there in
            let coarse = at_rank (λ rank. first_fields bound coarse_start widths (own rank coarser)) ranks under rank below u at_below in
            record {
              is = is_filling a step ranks width bound fixed rules level coarser h;
              same_rank = refl;
              same_ranks = refl;
              within = its.0;
              same_plan = made rank plan planned;
              same_rules = refl;
              same_values = has_first bound fine_start widths (own rank level) mine its.1 (all_own_rooms level rank widths h.rooms);
              fields = count_first bound fine_start widths (own rank level) mine its.1 ∙ number;
              widths = has_widths bound fine_start widths (own rank level) mine its.1;
              same_coarser = has_first bound coarse_start widths (own rank coarser) below coarse.1 (all_own_rooms coarser rank widths h.coarse_rooms);
              coarse_fields = inr (count_first bound coarse_start widths (own rank coarser) below coarse.1 ∙ number);
            };
      }

  -- the same, from lists that are equal to these
  pub have_from : (plans : List Plan) (all under : List (List (List Grid))) (ghosts : List IVec) → ghosts ≡ map (λ r. r.width) rules → length plans ≡ ranks
      → AreResults (λ w rank out. out ≡ plan_of w rank) (schedule_of a step ranks width ghosts fixed level coarser) plans
      → all ≡ all_first bound fine_start ghosts level ranks → under ≡ all_first bound coarse_start ghosts coarser ranks
      → HaveAllPatches plans all under rules (filling_of a step ranks width bound fixed rules level coarser)
  have_from plans all under ghosts g count made o u =
      have_all plans all under count
      (subst (λ (l : List IVec). AreResults (λ w rank out. out ≡ plan_of w rank) (schedule_of a step ranks width l fixed level coarser) plans) g made)
      (o ∙ ap (λ (l : List IVec). all_first bound fine_start l level ranks) g)
      (u ∙ ap (λ (l : List IVec). all_first bound coarse_start l coarser ranks) g)
