-- Filled patches can be updated.
use Rattle.std.proofs.Common.{◌≡◌, ℕ, zero, suc, ◌<◌, refl, sym, ap, ◌∙◌, subst, inl, inr, arith, length, Some, slice_get}
use Rattle.std.proofs.lemmas.Bool.{eqb-true}
use Rattle.std.proofs.lemmas.List.{length-map}
use Rattle.std.proofs.lemmas.List.FromFn.{length-enumerate_from}
use Rattle.std.specs.Prelude.{Bool, true, false, ◌==◌, if◌then◌else◌, slice_index, List, [], ◌∷◌, map}
use Rattle.std.specs.List.{enumerate_from}
use Rattle.samr_box.specs.declared.vector.IVec.{IVec}
use Rattle.samr_box.specs.Corners.{Holds, grown}
use Rattle.samr_box.specs.Lists.{Member}
use Rattle.samr_box.proofs.CellSets.{Holds-grown}
use Rattle.samr_box.proofs.Members.{Member-from_map, Member-from_filter}
use Rattle.samr_level.specs.Refs.{Owned}
use Rattle.samr_level.specs.Levels.{own}
use Rattle.samr_data.specs.Grids.{Grid, grid_of}
use Rattle.samr_data.proofs.Lists.{value_in-listed}
use Rattle.samr_ops.specs.declared.rules.Rules.{Rules}
use Rattle.samr_fill.specs.Fill.{value_of}
use Rattle.samr_fill.specs.FillParts.{filled}
use Rattle.samr_fill.proofs.Numbered.{some_same, none_some, get_member}
use Rattle.samr_fill.proofs.ValuesFit.{values_fit}
use Rattle.samr_values.specs.Updating.{CanUpdate}
use Rattle.samr_problem.specs.declared.field.Field.{Field}
use Rattle.samr_problem.specs.Fields.{Fields}
use Rattle.samr_mesh.specs.Meshes.{level_at}
use Rattle.samr_mesh.specs.Soundness.{IsMesh}
use Rattle.samr_hierarchy.specs.Scales.{rules_of, all_rules, number_of, fixed_of}
use Rattle.samr_hierarchy.specs.Grounds.{IsGround}
use Rattle.samr_hierarchy.specs.Hierarchies.{Hierarchy, filling}
use Rattle.samr_hierarchy.specs.Laws.{Fits}
use Rattle.samr_hierarchy.specs.Updates.{FilledCanBeUpdated}
use Rattle.samr_hierarchy.proofs.Fills.{mapped_at, at_mapped, fills_hold}
use Rattle.samr_hierarchy.proofs.Patching.{about_box}
use Rattle.samr_hierarchy.proofs.Beginning.{filled_at}

-- the fixed value of a field
index_of : (fields : List Field) (f : ℕ) (r : Field) → slice_get fields f ≡ Some r → slice_index (map (λ f. number_of f.boundary.i) fields) f ≡ number_of r.boundary.i
index_of [] f r e = absurd (none_some e)
index_of (x ∷ xs) zero r e = ap (λ (v : Field). number_of v.boundary.i) (some_same e)
index_of (x ∷ xs) (suc f) r e = index_of xs f r e

fixed_at : (p : Fields) (f : ℕ) (r : Field) → slice_get p.fields f ≡ Some r → 0 < length p.parts → slice_index (fixed_of p) f ≡ number_of r.boundary.i
fixed_at p f r here some = by (length p.parts == 0) refl
  where
    by : (t : Bool) → (length p.parts == 0) ≡ t → slice_index (if t then [] else map (λ f. number_of f.boundary.i) p.fields) f ≡ number_of r.boundary.i
    by true e = let none = eqb-true (length p.parts) 0 e in absurd (omega (arith, none, some))
    by false e = index_of p.fields f r here

module _ (p : Fields) (ranks l rank : ℕ) (h : Hierarchy) (n : IsGround p) (mesh : IsMesh p ranks h.levels) (fits : Fits p h) (less : l < length h.levels) where
  -- the value of each cell about a box
  value_fits : (f : ℕ) (q : Field) (b : Owned) (x : IVec) → slice_get p.fields f ≡ Some q → Member b (level_at h.levels l) → Holds (grown b.bx q.ghosts) x
      → value_of (filling p ranks h l) (f, rules_of q) x < q.modulus
  value_fits f q b x here m about =
      let field = n.fields q (get_member p.fields f q here) in
      values_fit (filling p ranks h l) f (rules_of q) b x (fills_hold p ranks l h n mesh fits less) (at_mapped rules_of p.fields f q here) m
      (λ some. let fixed = field.fixed some in let e = fixed_at p f q here some in omega (arith, fixed, e)) about

  own_member : (b : Owned) → Member b (own rank (level_at h.levels l)) → Member b (level_at h.levels l)
  unfolding own
  own_member b m = (Member-from_filter _ b (level_at h.levels l) m).0

  patch_can : (f : ℕ) (q : Field) (b : Owned) → slice_get p.fields f ≡ Some q → Member b (level_at h.levels l) → (x : IVec) → Holds b.bx x
      → CanUpdate p.dim (rules_of q) (grid_of b.bx q.ghosts (value_of (filling p ranks h l) (f, rules_of q))) x
  patch_can f q b here m x has =
      let field = n.fields q (get_member p.fields f q here) in
      let low = field.rules.positive in
      let g = grid_of b.bx q.ghosts (value_of (filling p ranks h l) (f, rules_of q)) in
      let value = λ (y : IVec) (about : Holds (grown b.bx q.ghosts) y).
      subst (λ (v : ℕ). v < q.modulus) (sym (value_in-listed (grown b.bx q.ghosts) (value_of (filling p ranks h l) (f, rules_of q)) y about)) (value_fits f q b y here m about) in
      let here_too = about_box b.bx q.ghosts x low has in
      record {
        here = here_too;
        fits = value x here_too;
        about = elim field.about [
          | inl none ↦ inl none
          | inr near ↦ inr (λ y k. let about = (Holds-grown b.bx q.ghosts ((mesh.level l less).not_empty b m) low y).1 (x, has, near x y k) in (about, value y about))
        ];
      }

  all_can : (f : ℕ) (r : Rules) (field : List Grid) → slice_get (all_rules p) f ≡ Some r → slice_get (filled (filling p ranks h l) rank) f ≡ Some field
      → (g : Grid) → Member g field → (x : IVec) → Holds g.bx x → CanUpdate p.dim r g x
  all_can f r field here there g m x has =
      let s = filled_at p ranks l rank h n mesh fits less f field there in
      let q = mapped_at rules_of p.fields f s.0 s.1 in
      let same : r ≡ s.0 = some_same (sym here ∙ s.1) in
      let o = Member-from_map (λ (b : Owned). grid_of b.bx s.0.width (value_of (filling p ranks h l) (f, s.0))) g (own rank (level_at h.levels l)) (subst (λ (v : List Grid). Member g v) s.2 m) in
      let is : g ≡ grid_of o.0.bx q.0.ghosts (value_of (filling p ranks h l) (f, rules_of q.0)) = o.2 ∙ ap (λ (v : Rules). grid_of o.0.bx v.width (value_of (filling p ranks h l) (f, v))) q.2 in
      subst (λ (v : Rules). CanUpdate p.dim v g x) (sym (same ∙ q.2))
      (subst (λ (v : Grid). CanUpdate p.dim (rules_of q.0) v x) (sym is) (patch_can f q.0 o.0 q.1 (own_member o.0 o.1) x (subst (λ (v : Grid). Holds v.bx x) is has)))

pub filled_can_be_updated : FilledCanBeUpdated
filled_can_be_updated p ranks l rank h n mesh fits less = record {
  same =
      length-map (enumerate_from 0 (all_rules p)) (λ f. map (λ b. grid_of b.bx f.1.width (value_of (filling p ranks h l) f)) (own rank (level_at h.levels l)))
      ∙ length-enumerate_from 0 (all_rules p);
  each = λ f r field here there g m x has. all_can p ranks l rank h n mesh fits less f r field here there g m x has;
}
