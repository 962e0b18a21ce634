-- Each rank has what a stage begins with.
use Rattle.std.proofs.Common.{◌≡◌, ℕ, zero, suc, ◌+◌, ◌<◌, refl, sym, ap, ◌∙◌, subst, inr, arith, length, Some, None, slice_get}
use Rattle.std.proofs.lemmas.Bool.Decides.{nat_tests}
use Rattle.std.proofs.lemmas.List.{length-map}
use Rattle.std.proofs.lemmas.List.FromFn.{length-enumerate_from}
use Rattle.std.specs.Prelude.{Bool, true, false, nat_lt, if◌then◌else◌, pos, List, [], ◌∷◌, map}
use Rattle.std.specs.List.{enumerate_from}
use Rattle.samr_box.specs.declared.vector.IVec.{IVec}
use Rattle.samr_box.specs.Vector.{alike, AtMost}
use Rattle.samr_box.specs.Corners.{Corners, grown}
use Rattle.samr_box.specs.Lists.{Member}
use Rattle.samr_box.proofs.Members.{Member-from_map, Member-from_filter, member_of_All}
use Rattle.samr_level.specs.Refs.{Owned}
use Rattle.samr_level.specs.Levels.{own}
use Rattle.samr_level.specs.Pairs.{pair}
use Rattle.samr_data.specs.Grids.{Grid, value_at, grid_of}
use Rattle.samr_data.proofs.Lists.{value_in-listed}
use Rattle.samr_ops.specs.declared.rules.Rules.{Rules}
use Rattle.samr_ops.specs.Rules.{IsRules}
use Rattle.samr_sched.specs.AskParts.{KnowsBelow}
use Rattle.samr_sched.proofs.PlanLaws.{can_plan}
use Rattle.samr_fill.specs.FillParts.{HasValues as HasFillValues, filled}
use Rattle.samr_fill.specs.Fill.{value_of}
use Rattle.samr_fill.proofs.Numbered.{some_same, none_some, get_member}
use Rattle.samr_fill.proofs.ValueLaws.{the_level_keeps_its_values}
use Rattle.samr_values.specs.Patches.{HasValues}
use Rattle.samr_values.specs.ValuesParts.{KnowsOld}
use Rattle.samr_problem.specs.declared.field.Field.{Field}
use Rattle.samr_problem.specs.Fields.{Fields}
use Rattle.samr_mesh.specs.Domains.{area_of, ratio_to}
use Rattle.samr_mesh.specs.Meshes.{level_at}
use Rattle.samr_mesh.specs.Soundness.{IsMesh}
use Rattle.samr_mesh.proofs.MeshForms.{beyond}
use Rattle.samr_hierarchy.specs.Scales.{rules_of, all_rules}
use Rattle.samr_hierarchy.specs.Grounds.{IsGround}
use Rattle.samr_hierarchy.specs.Hierarchies.{Hierarchy, level_below, values_below, scheduling, filling, patch_of, patches}
use Rattle.samr_hierarchy.specs.Passes.{first_hierarchy, renewing_at}
use Rattle.samr_hierarchy.specs.Laws.{Fits}
use Rattle.samr_hierarchy.specs.Beginnings.{pair_below, no_patches, patches_below, old_pair, AsksBegin, FillsBegin, RenewalsBegin, FirstRenewalsBegin, CoarseningsBegin}
use Rattle.samr_hierarchy.proofs.Schedules.{schedules_hold}
use Rattle.samr_hierarchy.proofs.Fills.{mapped_at, all_are_rules, fills_hold, renewals_hold, coarsenings_hold}
use Rattle.samr_hierarchy.proofs.Fitting.{first_renewals_hold}
use Rattle.samr_hierarchy.proofs.Patching.{numbered_field, about_box, its_patches, has_values, has_fill_values}

knows_below : (p : Fields) (ranks l rank : ℕ) (levels : List (List Owned)) → KnowsBelow (pair_below p ranks levels l rank) (scheduling p ranks levels l) rank
knows_below p ranks zero rank levels = (refl, refl, refl)
knows_below p ranks (suc l) rank levels = refl

pub asks_begin : AsksBegin
asks_begin p ranks l rank levels n mesh less within = record {
  is = can_plan (scheduling p ranks levels l) (schedules_hold p ranks l levels n mesh less).0;
  same_rank = refl;
  same_ranks = refl;
  within = within;
  same_region = refl;
  same_part = refl;
  same_selves = refl;
  same_below = knows_below p ranks l rank levels;
  same_ghosts = refl;
  same_fixed = refl;
}

-- as many lists of patches as fields
count_patches : (p : Fields) (h : Hierarchy) (l rank : ℕ) → length (patches p h l rank) ≡ length p.fields
unfolding patches
count_patches p h l rank = length-map (enumerate_from 0 p.fields) (λ f. map (λ b. patch_of h l f b) (own rank (level_at h.levels l))) ∙ length-enumerate_from 0 p.fields

count_rules : (p : Fields) → length p.fields ≡ length (all_rules p)
count_rules p = sym (length-map p.fields rules_of)

none_at : (p : Fields) (f : ℕ) (field : List Grid) → slice_get (no_patches p) f ≡ Some field → field ≡ []
none_at p f field e = (mapped_at (λ (f : Field). let v : List Grid = [] in v) p.fields f field e).2

none_own : (rank : ℕ) → own rank [] ≡ []
unfolding own
none_own rank = refl

no_fill_values : (p : Fields) (rank : ℕ) (values : ℕ → IVec → ℕ) → HasFillValues values (own rank []) (no_patches p)
no_fill_values p rank values = record {
  patch = λ f place field q there at. absurd (none_some (ap (λ (v : List Grid). slice_get v place) (sym (none_at p f field there)) ∙ at));
  full = λ f field there. ap length (none_at p f field there) ∙ sym (ap length (none_own rank));
}

no_values : (p : Fields) (rank : ℕ) (values : ℕ → IVec → ℕ) → HasValues values (own rank []) (no_patches p)
no_values p rank values = record {
  full = λ f field there. ap (λ (v : List Grid). map (λ p. p.bx) v) (none_at p f field there) ∙ sym (ap (λ (v : List Owned). map (λ b. b.bx) v) (none_own rank));
  same = λ f field there q x m has. absurd (subst (λ (v : List Grid). Member q v) (none_at p f field there) m);
}

-- filled patches have the values of their boxes
pub own_at : (rank : ℕ) (level : List Owned) (place : ℕ) (b : Owned) → slice_get (own rank level) place ≡ Some b → Member b level
unfolding own
own_at rank level place b e = (Member-from_filter _ b level (get_member (own rank level) place b e)).0

module _ (p : Fields) (ranks l rank : ℕ) (h : Hierarchy) (n : IsGround p) (mesh : IsMesh p ranks h.levels) (fits : Fits p h) (less : l < length h.levels) where
  pub filled_at : (f : ℕ) (field : List Grid) → slice_get (filled (filling p ranks h l) rank) f ≡ Some field
      → (r : Rules) × (slice_get (all_rules p) f ≡ Some r) × (field ≡ map (λ b. grid_of b.bx r.width (value_of (filling p ranks h l) (f, r))) (own rank (level_at h.levels l)))
  filled_at f field e =
      let r = numbered_field (λ f. map (λ b. grid_of b.bx f.1.width (value_of (filling p ranks h l) f)) (own rank (level_at h.levels l))) 0 (all_rules p) f field e in
      let same : 0 + f ≡ f = omega arith in
      (r.0, r.1, r.2 ∙ ap (λ (m : ℕ). map (λ b. grid_of b.bx r.0.width (value_of (filling p ranks h l) (m, r.0))) (own rank (level_at h.levels l))) same)

  pub low_width : (f : ℕ) (r : Rules) → slice_get (all_rules p) f ≡ Some r → AtMost (alike (pos 0)) r.width
  low_width f r e = (member_of_All IsRules r (all_rules p) (all_are_rules p n) (get_member (all_rules p) f r e)).positive

  filled_values : HasFillValues (h.values l) (own rank (level_at h.levels l)) (filled (filling p ranks h l) rank)
  filled_values = record {
    patch = λ f place field q there at.
        let r = filled_at f field there in
        let o = mapped_at (λ b. grid_of b.bx r.0.width (value_of (filling p ranks h l) (f, r.0))) (own rank (level_at h.levels l)) place q (ap (λ (v : List Grid). slice_get v place) (sym r.2) ∙ at) in (
          o.0,
          o.1,
          ap (λ (v : Grid). v.bx) o.2,
          λ x has. ap (λ (v : Grid). value_at v x) o.2
              ∙ value_in-listed (grown o.0.bx r.0.width) (value_of (filling p ranks h l) (f, r.0)) x (about_box o.0.bx r.0.width x (low_width f r.0 r.1) has)
              ∙ the_level_keeps_its_values (filling p ranks h l) (f, r.0) o.0 x (fills_hold p ranks l h n mesh fits less) (own_at rank (level_at h.levels l) place o.0 o.1) has,
        );
    full = λ f field there.
        let r = filled_at f field there in
        ap length r.2 ∙ length-map (own rank (level_at h.levels l)) (λ b. grid_of b.bx r.0.width (value_of (filling p ranks h l) (f, r.0)));
  }

  count_filled : length (filled (filling p ranks h l) rank) ≡ length p.fields
  count_filled =
      length-map (enumerate_from 0 (all_rules p)) (λ f. map (λ b. grid_of b.bx f.1.width (value_of (filling p ranks h l) f)) (own rank (level_at h.levels l)))
      ∙ length-enumerate_from 0 (all_rules p) ∙ sym (count_rules p)

below_values : (p : Fields) (ranks l rank : ℕ) (h : Hierarchy) → IsGround p → IsMesh p ranks h.levels → Fits p h → l < length h.levels
    → HasFillValues (values_below h.values l) (own rank (level_below h.levels l)) (patches_below p ranks h l rank)
below_values p ranks zero rank h n mesh fits less = no_fill_values p rank (λ f x. 0)
below_values p ranks (suc l) rank h n mesh fits less = filled_values p ranks l rank h n mesh fits (omega (arith, less))

count_below : (p : Fields) (ranks l rank : ℕ) (h : Hierarchy) → IsGround p → IsMesh p ranks h.levels → Fits p h → l < length h.levels → length (patches_below p ranks h l rank) ≡ length p.fields
count_below p ranks zero rank h n mesh fits less = length-map p.fields (λ (f : Field). let v : List Grid = [] in v)
count_below p ranks (suc l) rank h n mesh fits less = count_filled p ranks l rank h n mesh fits (omega (arith, less))

pub fills_begin : FillsBegin
fills_begin p ranks l rank h n mesh fits less within = record {
  is = fills_hold p ranks l h n mesh fits less;
  same_rank = refl;
  same_ranks = refl;
  within = within;
  same_plan = refl;
  same_rules = refl;
  same_values = has_fill_values p ranks l rank h n;
  fields = count_patches p h l rank ∙ count_rules p;
  widths = λ f place field q g there at width.
      let r = its_patches p ranks l rank h n f field there in
      let o = mapped_at (λ b. patch_of h l (f, r.0) b) (own rank (level_at h.levels l)) place q (ap (λ (v : List Grid). slice_get v place) (sym r.2) ∙ at) in
      let s = mapped_at (λ (r : Rules). r.width) (all_rules p) f g width in
      let t = mapped_at rules_of p.fields f s.0 s.1 in
      let same : r.0 ≡ t.0 = some_same (sym r.1 ∙ t.1) in
      ap (λ (v : Grid). v.width) o.2 ∙ ap (λ (v : Field). v.ghosts) same ∙ sym (s.2 ∙ ap (λ (v : Rules). v.width) t.2);
  same_coarser = below_values p ranks l rank h n mesh fits less;
  coarse_fields = inr (count_below p ranks l rank h n mesh fits less ∙ count_rules p);
}

knows_old : (p : Fields) (ranks l rank : ℕ) (h : Hierarchy) (news : List (List Owned)) → KnowsOld (old_pair p ranks h.levels news l rank) (renewing_at p ranks h news l) rank
knows_old p ranks l rank h news = by (nat_lt (suc l) (length h.levels)) refl
  where
    by : (t : Bool) → nat_lt (suc l) (length h.levels) ≡ t
        → KnowsOld (if t then Some (pair (area_of p).frame p.width (ratio_to p (suc l)) (ratio_to p (suc l)) (level_at news (suc l)) (level_at h.levels (suc l)) rank) else None) (renewing_at p ranks h news l) rank
    by true e = refl
    by false e = beyond h.levels (suc l) (grind (arith, nat_tests, e))

pub renewals_begin : RenewalsBegin
renewals_begin p ranks l rank h news n old_mesh mesh remade fits less within = record {
  is = renewals_hold p ranks l h news n old_mesh mesh remade fits less;
  same_rank = refl;
  within = within;
  same_boxes = refl;
  same_old = knows_old p ranks l rank h news;
  same_coarser = refl;
  same_step = refl;
  has = record {
    same_rules = refl;
    same_values = has_values p ranks (suc l) rank h n;
    fields = inr (count_patches p h (suc l) rank ∙ count_rules p);
    coarse_values = has_values p ranks l rank h n;
    coarse_fields = count_patches p h l rank ∙ count_rules p;
  };
}

pub first_renewals_begin : FirstRenewalsBegin
first_renewals_begin p ranks l rank levels n mesh less within = record {
  is = first_renewals_hold p ranks l levels n mesh less;
  same_rank = refl;
  within = within;
  same_boxes = refl;
  same_old = refl;
  same_coarser = refl;
  same_step = refl;
  has = record {
    same_rules = refl;
    same_values = no_values p rank (λ f x. 0);
    fields = inr (length-map p.fields (λ (f : Field). let v : List Grid = [] in v) ∙ count_rules p);
    coarse_values = has_values p ranks l rank (first_hierarchy p ranks levels) n;
    coarse_fields = count_patches p (first_hierarchy p ranks levels) l rank ∙ count_rules p;
  };
}

-- the boxes of the patches of each field
boxes_in : (p : Fields) (ranks l rank : ℕ) (h : Hierarchy) (f : List Grid) → Member f (patches p h l rank) → map (λ p. p.bx) f ≡ map (λ b. b.bx) (own rank (level_at h.levels l))
unfolding patches
boxes_in p ranks l rank h f m =
    let e = Member-from_map (λ f. map (λ b. patch_of h l f b) (own rank (level_at h.levels l))) f (enumerate_from 0 p.fields) m in
    ap (λ (v : List Grid). map (λ p. p.bx) v) e.2 ∙ each e.0 (own rank (level_at h.levels l))
  where
    each : (f : ℕ × Field) (bs : List Owned) → map (λ p. p.bx) (map (λ b. patch_of h l f b) bs) ≡ map (λ b. b.bx) bs
    each f [] = refl
    each f (b ∷ bs) = ap (λ (v : List Corners). b.bx ∷ v) (each f bs)

pub coarsenings_begin : CoarseningsBegin
coarsenings_begin p ranks l rank h n mesh less within = record {
  is = coarsenings_hold p ranks l h n mesh less;
  same_rank = refl;
  same_ranks = refl;
  within = within;
  same_pair = refl;
  same_rules = refl;
  same_moduli = refl;
  fine_values = has_values p ranks (suc l) rank h n;
  fine_fields = count_patches p h (suc l) rank ∙ sym (length-map p.fields (λ (f : Field). f.coarsen));
  same_coarse = refl;
  coarse_boxes = boxes_in p ranks l rank h;
  coarse_fields = count_patches p h l rank ∙ sym (length-map p.fields (λ (f : Field). f.coarsen));
}
