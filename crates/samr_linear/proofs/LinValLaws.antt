-- The values of linear refinement over a hierarchy stay below the modulus.
use Rattle.std.proofs.Common.{inl, ◌≡◌, ℕ, zero, suc, ◌<◌, Bool, true, false, List, [], ◌∷◌, length, Option, Some, refl, sym, ap, subst, arith}
use Rattle.std.specs.Prelude.{map, slice_get, slice_index, ◌==◌, if◌then◌else◌}
use Rattle.samr_box.specs.declared.vector.Axis.TheVariants.{I}
use Rattle.samr_box.specs.declared.vector.IVec.{IVec}
use Rattle.samr_box.specs.Corners.{Holds, grown}
use Rattle.samr_box.specs.Lists.{Member}
use Rattle.samr_level.specs.Refs.{Owned}
use Rattle.samr_ops.specs.declared.rules.Rule.{Rule}
use Rattle.samr_ops.specs.declared.rules.Rule.TheVariants.{Fixed, Clamp, Reflect}
use Rattle.samr_ops.specs.declared.rules.Rules.{Rules}
use Rattle.samr_ops.specs.Rules.{IsRules, IsBelow}
use Rattle.samr_problem.specs.declared.field.Field.{Field}
use Rattle.samr_problem.specs.Fields.{Fields}
use Rattle.samr_hierarchy.specs.Scales.{rules_of, number_of}
use Rattle.samr_hierarchy.specs.Grounds.{IsGround}
use Rattle.samr_mesh.specs.Meshes.{level_at}
use Rattle.samr_hierarchy.specs.Hierarchies.{Hierarchy, for_field, filling}
use Rattle.samr_mesh.specs.Soundness.{IsMesh}
use Rattle.samr_hierarchy.specs.Laws.{Fits}
use Rattle.samr_hierarchy.proofs.Fills.{fills_hold}
use Rattle.samr_linear.specs.LinVal.{linear_to, lin_val_by}
use Rattle.samr_linear.specs.Laws.{LinValsFit}
use Rattle.samr_linear.proofs.ValuesFit.{linear_values_fit}

number_small : (m : ℕ) (r : Rule) → 0 < m → IsBelow m r → number_of r < m
number_small m (Fixed v) some h = h
number_small m Clamp some h = some
number_small m Reflect some h = some

fixed_small : (none : Bool) (fields : List Field) (f : Field) → slice_get fields 0 ≡ Some f → IsRules (rules_of f) → slice_index (if none then [] else map (λ g. number_of g.boundary.i) fields) 0 < f.modulus
fixed_small true fields f e rules = omega (arith, rules.some)
fixed_small false [] f e rules = absurd cc
fixed_small false (x ∷ xs) f e rules =
    let same : x ≡ f = cc in
    subst (λ (g : Field). number_of g.boundary.i < f.modulus) (sym same) (number_small f.modulus f.boundary.i (omega (arith, rules.some)) (rules.boundary I))

pub first_rule : (fields : List Field) (f : Field) → slice_get fields 0 ≡ Some f → slice_get (map rules_of fields) 0 ≡ Some (rules_of f)
first_rule [] f e = absurd cc
first_rule (x ∷ xs) f e =
    let same : x ≡ f = cc in
    ap (λ (g : Field). let o : Option Rules = Some (rules_of g) in o) same

pub first_member : (fields : List Field) (f : Field) → slice_get fields 0 ≡ Some f → Member f fields
first_member [] f e = absurd cc
first_member (x ∷ xs) f e = inl cc

the_first : (o : Option Field) (f : Field) (of : Field → ℕ) → o ≡ Some f → for_field o of ≡ of f
the_first o f of e = ap (λ (o : Option Field). for_field o of) e

by_level : (p : Fields) (ranks l : ℕ) (h : Hierarchy) (f : Field) (b : Owned) (x : IVec) → IsGround p → IsMesh p ranks h.levels → Fits p h → l < length h.levels
    → slice_get p.fields 0 ≡ Some f → Member b (level_at h.levels l) → Holds (grown b.bx f.ghosts) x → lin_val_by p ranks h (rules_of f) l x < f.modulus
by_level p ranks zero h f b x ground mesh fits less here mb about =
    linear_values_fit (filling p ranks h 0) (rules_of f) (linear_to p (rules_of f) 0) (λ y. 0) b x (fills_hold p ranks 0 h ground mesh fits less) (first_rule p.fields f here) refl mb
    (λ _. fixed_small (length p.parts == 0) p.fields f here (ground.fields f (first_member p.fields f here)).rules) about
by_level p ranks (suc l) h f b x ground mesh fits less here mb about =
    linear_values_fit (filling p ranks h (suc l)) (rules_of f) (linear_to p (rules_of f) (suc l)) (lin_val_by p ranks h (rules_of f) l) b x (fills_hold p ranks (suc l) h ground mesh fits less) (first_rule p.fields f here) refl mb
    (λ _. fixed_small (length p.parts == 0) p.fields f here (ground.fields f (first_member p.fields f here)).rules) about

pub lin_vals_fit : LinValsFit
lin_vals_fit p ranks l h f b x ground mesh fits less here mb about =
    subst (λ (v : ℕ). v < f.modulus) (sym (the_first (slice_get p.fields 0) f (λ g. lin_val_by p ranks h (rules_of g) l x) here)) (by_level p ranks l h f b x ground mesh fits less here mb about)
