-- The linear fills of the levels of a hierarchy give `lin_val`, and can be run.
use Rattle.std.proofs.Common.{◌≡◌, ℕ, zero, suc, ◌<◌, inl, inr, Bool, true, false, List, [], ◌∷◌, length, Option, Some, refl, sym, ap, subst, ◌∙◌, arith}
use Rattle.std.proofs.lemmas.Bool.{false≢true}
use Rattle.std.proofs.lemmas.Bool.Decides.{nat_tests}
use Rattle.std.specs.Prelude.{map, nat_lt, slice_get, slice_index, ◌==◌, if◌then◌else◌}
use Rattle.samr_box.specs.declared.vector.IVec.{IVec}
use Rattle.samr_box.specs.Lists.{Member}
use Rattle.samr_box.proofs.Members.{All-from_members}
use Rattle.samr_level.specs.Refs.{Owned}
use Rattle.samr_level.specs.Levels.{IsCellIn}
use Rattle.samr_ops.specs.declared.rules.Rules.{Rules}
use Rattle.samr_ops.specs.Rules.{IsRules}
use Rattle.samr_sched.specs.Ask.{IsScheduling, IsGhost}
use Rattle.samr_fill.specs.Fill.{IsFilling}
use Rattle.samr_problem.specs.declared.field.Field.{Field}
use Rattle.samr_problem.specs.Fields.{Fields}
use Rattle.samr_mesh.specs.Soundness.{IsMesh}
use Rattle.samr_hierarchy.specs.Scales.{rules_of, all_rules, number_of}
use Rattle.samr_hierarchy.specs.Grounds.{IsGround}
use Rattle.samr_hierarchy.specs.Hierarchies.{Hierarchy, for_field, scheduling, filling}
use Rattle.samr_hierarchy.specs.Laws.{Fits}
use Rattle.samr_hierarchy.proofs.Fills.{fills_hold}
use Rattle.samr_linear.specs.LinVal.{linear_to, linear_value, lin_val_by}
use Rattle.samr_linear.specs.LinearFill.{value_of}
use Rattle.samr_linear.specs.OfHierarchies.{scheduling_of, filling_of, below_of, linear_filling, StageGivesLinVal, LinearFillingsHold}
use Rattle.samr_linear.proofs.LinValLaws.{first_rule, first_member}
use Rattle.samr_linear.proofs.Insides.{the_level_keeps_its_values}

-- the fixed value of the first field
first_fixed : (none : Bool) (fields : List Field) (f : Field) → slice_get fields 0 ≡ Some f
    → slice_index (if none then [] else (number_of f.boundary.i ∷ [])) 0 ≡ slice_index (if none then [] else map (λ g. number_of g.boundary.i) fields) 0
first_fixed true fields f e = refl
first_fixed false [] f e = absurd cc
first_fixed false (x ∷ xs) f e = let same : x ≡ f = cc in ap (λ (g : Field). number_of g.boundary.i) (sym same)

value_is : (p : Fields) (ranks l : ℕ) (h : Hierarchy) (f : Field) (below : IVec → ℕ) (x : IVec) → slice_get p.fields 0 ≡ Some f
    → linear_value (filling_of p ranks h f l) (rules_of f) (linear_to p (rules_of f) l) below x ≡ linear_value (filling p ranks h l) (rules_of f) (linear_to p (rules_of f) l) below x
unfolding linear_value
value_is p ranks l h f below x here = rw (first_fixed (length p.parts == 0) p.fields f here) refl

by_level : (p : Fields) (ranks l : ℕ) (h : Hierarchy) (f : Field) (x : IVec) → slice_get p.fields 0 ≡ Some f → value_of (linear_filling p ranks h f l) x ≡ lin_val_by p ranks h (rules_of f) l x
by_level p ranks zero h f x here = value_is p ranks 0 h f (λ y. 0) x here
by_level p ranks (suc l) h f x here = value_is p ranks (suc l) h f (lin_val_by p ranks h (rules_of f) l) x here

pub stage_gives_lin_val : StageGivesLinVal
stage_gives_lin_val p ranks l h f x here =
    by_level p ranks l h f x here ∙ ap (λ (o : Option Field). for_field o (λ g. lin_val_by p ranks h (rules_of g) l x)) (sym here)

some_parts : (k : ℕ) → 0 < k → nat_lt 0 k ≡ true
some_parts k h = grind (arith, nat_tests, h)

same_length : (none : Bool) (fields : List Field) (f : Field) → slice_get fields 0 ≡ Some f
    → nat_lt 0 (length (if none then [] else map (λ g. number_of g.boundary.i) fields)) ≡ nat_lt 0 (length (if none then [] else (number_of f.boundary.i ∷ [])))
same_length true fields f e = refl
same_length false [] f e = absurd cc
same_length false (x ∷ xs) f e = some_parts (suc (length (map (λ (g : Field). number_of g.boundary.i) xs))) (omega arith)

one_fixed : (none : Bool) (v : ℕ) → nat_lt 0 (length (if none then [] else (v ∷ []))) ≡ true → length (if none then [] else (v ∷ [])) ≡ 1
one_fixed true v e = absurd (false≢true e)
one_fixed false v e = refl

module _ (p : Fields) (ranks l : ℕ) (h : Hierarchy) (f : Field) (ground : IsGround p) (mesh : IsMesh p ranks h.levels) (fits : Fits p h) (less : l < length h.levels) (here : slice_get p.fields 0 ≡ Some f) where
  whole : IsFilling (filling p ranks h l)
  whole = fills_hold p ranks l h ground mesh fits less

  rule_there : slice_get (all_rules p) 0 ≡ Some (rules_of f)
  rule_there = first_rule p.fields f here

  ghost_member : (fields : List Field) → slice_get fields 0 ≡ Some f → Member f.ghosts (map (λ r. r.width) (map rules_of fields))
  ghost_member [] e = absurd cc
  ghost_member (x ∷ xs) e = let same : x ≡ f = cc in inl (ap (λ (g : Field). g.ghosts) (sym same))

  is_ghost : (g : IVec) → Member g (f.ghosts ∷ []) → IsGhost (scheduling_of p ranks h f l) g
  is_ghost g (inl e) =
      let o = whole.schedule.ghosts f.ghosts (ghost_member p.fields here) in
      subst (λ (v : IVec). IsGhost (scheduling_of p ranks h f l) v) (sym e) (record { low = o.low; short = o.short; wide = o.wide; reach = o.reach; room = o.room })
  is_ghost g (inr m) = absurd m

  is_scheduling : IsScheduling (scheduling_of p ranks h f l)
  is_scheduling =
      let s = whole.schedule in
      record {
        area = s.area;
        coarse_area = s.coarse_area;
        plain = s.plain;
        level = s.level;
        coarser = s.coarser;
        ratio = s.ratio;
        below = s.below;
        step = s.step;
        product = s.product;
        ghosts = is_ghost;
      }

  is_rules : (r : Rules) → Member r (rules_of f ∷ []) → IsRules r
  is_rules r (inl e) = subst (λ (v : Rules). IsRules v) (sym e) (ground.fields f (first_member p.fields f here)).rules
  is_rules r (inr m) = absurd m

  fits_one : (v : ℕ → IVec → ℕ) (c : List Owned) → ((n : ℕ) (r : Rules) (x : IVec) → slice_get (all_rules p) n ≡ Some r → IsCellIn c x → v n x < r.modulus)
      → (n : ℕ) (r : Rules) (x : IVec) → slice_get (rules_of f ∷ []) n ≡ Some r → IsCellIn c x → v n x < r.modulus
  fits_one v c all zero r x e m = all 0 r x (rule_there ∙ e) m
  fits_one v c all (suc n) r x e m = absurd cc

  sourced_one : (g : IVec) → Member g (f.ghosts ∷ []) → Member g (map (λ r. r.width) (all_rules p))
  sourced_one g (inl e) = subst (λ (v : IVec). Member v (map (λ r. r.width) (all_rules p))) (sym e) (ghost_member p.fields here)
  sourced_one g (inr m) = absurd m

  is_filling : IsFilling (filling_of p ranks h f l)
  is_filling =
      let w = whole in
      let fixed : nat_lt 0 (length (scheduling p ranks h.levels l).region.parts) ≡ nat_lt 0 (length (scheduling_of p ranks h f l).fixed) =
      w.fixed ∙ same_length (length p.parts == 0) p.fields f here in
      record {
        schedule = is_scheduling;
        sourced = λ b g x mb mg. w.sourced b g x mb (sourced_one g mg);
        rules = All-from_members IsRules (rules_of f ∷ []) is_rules;
        few = omega arith;
        widths = refl;
        fixed = fixed;
        all_fixed = λ some. one_fixed (length p.parts == 0) (number_of f.boundary.i) (sym fixed ∙ some_parts _ some);
        step = w.step;
        fits = fits_one (h.values l) (scheduling p ranks h.levels l).level w.fits;
        coarse_fits = fits_one (filling p ranks h l).coarse_values (scheduling p ranks h.levels l).coarser w.coarse_fits;
      }

-- the level below keeps its values
keeps_below : (p : Fields) (ranks l : ℕ) (h : Hierarchy) (f : Field) → IsGround p → IsMesh p ranks h.levels → Fits p h → l < length h.levels → slice_get p.fields 0 ≡ Some f
    → (x : IVec) → IsCellIn (scheduling p ranks h.levels l).coarser x → below_of p ranks h (rules_of f) l x ≡ (filling p ranks h l).coarse_values 0 x
keeps_below p ranks zero h f ground mesh fits less here x c = absurd c.1
keeps_below p ranks (suc l) h f ground mesh fits less here x c =
    level_keeps l x c (omega (arith, less))
  where
    level_keeps : (n : ℕ) (x : IVec) → IsCellIn (scheduling p ranks h.levels n).level x → n < length h.levels → lin_val_by p ranks h (rules_of f) n x ≡ h.values n 0 x
    level_keeps zero x c less = the_level_keeps_its_values (filling p ranks h 0) (rules_of f) (linear_to p (rules_of f) 0) (λ y. 0) c.0 x (fills_hold p ranks 0 h ground mesh fits less) c.1 c.2
    level_keeps (suc n) x c less =
        the_level_keeps_its_values (filling p ranks h (suc n)) (rules_of f) (linear_to p (rules_of f) (suc n)) (lin_val_by p ranks h (rules_of f) n) c.0 x
        (fills_hold p ranks (suc n) h ground mesh fits less) c.1 c.2

some_below : (p : Fields) (ranks l : ℕ) (h : Hierarchy) (b : Owned) → Member b (scheduling p ranks h.levels l).coarser → 0 < l
some_below p ranks zero h b m = absurd m
some_below p ranks (suc l) h b m = omega arith

pub linear_fillings_hold : LinearFillingsHold
linear_fillings_hold p ranks l h f ground mesh fits less here wide = record {
  is = is_filling p ranks l h f ground mesh fits less here;
  one = refl;
  modulus = refl;
  ratio = refl;
  keeps = keeps_below p ranks l h f ground mesh fits less here;
  wide = λ b m. wide (some_below p ranks l h b m);
}
