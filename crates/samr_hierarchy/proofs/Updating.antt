-- Filled patches, updated, are those of the next hierarchy.
use Rattle.std.proofs.Common.{◌≡◌, ℕ, suc, ◌+◌, ◌*◌, ◌<◌, refl, sym, ap, ◌∙◌, subst, inl, inr, arith, length, Some, slice_get}
use Rattle.std.specs.Prelude.{Bool, true, false, ◌%◌, sum, if◌then◌else◌, List, [], ◌∷◌, map, zip}
use Rattle.std.specs.List.{enumerate_from}
use Rattle.samr_box.specs.declared.vector.IVec.{IVec}
use Rattle.samr_box.specs.Corners.{Holds, holds, grown}
use Rattle.samr_box.specs.Lists.{Member}
use Rattle.samr_box.proofs.CellSets.{Holds-test, Holds-grown}
use Rattle.samr_box.proofs.Members.{Member-from_filter}
use Rattle.samr_level.specs.Refs.{Owned}
use Rattle.samr_level.specs.Levels.{own}
use Rattle.samr_data.specs.Grids.{Grid, value_at, grid_of}
use Rattle.samr_data.proofs.Lists.{value_in-listed, listed_same}
use Rattle.samr_ops.specs.Rules.{updated_value}
use Rattle.samr_fill.specs.Fill.{value_of}
use Rattle.samr_fill.proofs.Numbered.{get_member}
use Rattle.samr_fill.proofs.ValueLaws.{the_level_keeps_its_values}
use Rattle.samr_values.specs.Updating.{faces}
use Rattle.samr_problem.specs.declared.field.Field.{Field}
use Rattle.samr_problem.specs.Fields.{Fields}
use Rattle.samr_mesh.specs.Meshes.{level_at}
use Rattle.samr_mesh.specs.Soundness.{IsMesh}
use Rattle.samr_hierarchy.specs.Scales.{rules_of, all_rules}
use Rattle.samr_hierarchy.specs.Grounds.{IsGround, IsFieldOf}
use Rattle.samr_hierarchy.specs.Hierarchies.{Hierarchy, filling, patch_of, patches}
use Rattle.samr_hierarchy.specs.Passes.{value_after, updated_values, seen_values, updated}
use Rattle.samr_hierarchy.specs.Laws.{Fits}
use Rattle.samr_values.specs.Updating.{updated_at}
use Rattle.samr_hierarchy.specs.Updates.{UpdatesPatches}
use Rattle.samr_hierarchy.proofs.Fills.{fills_hold}
use Rattle.samr_hierarchy.proofs.Fitting.{the_field}
use Rattle.samr_hierarchy.proofs.Agreeing.{map_members}
use Rattle.samr_hierarchy.proofs.Patching.{grown_order}

no_more : (k : ℕ) → k + 0 ≡ k
no_more k = omega arith

one_more : (k i : ℕ) → k + 1 + i ≡ k + suc i
one_more k i = omega arith

nothing : (k a b : ℕ) → k ≡ 0 → k * a ≡ k * b
nothing k a b e = let zeros : 0 * a ≡ 0 * b = omega arith in ap (λ (v : ℕ). v * a) e ∙ zeros ∙ sym (ap (λ (v : ℕ). v * b) e)

module _ (p : Fields) (ranks l rank : ℕ) (h : Hierarchy) (n : IsGround p) (mesh : IsMesh p ranks h.levels) (fits : Fits p h) (less : l < length h.levels) where
  -- a filled patch of a box
  abbrev filled_patch : ℕ → Field → Owned → Grid
  filled_patch f r b = grid_of b.bx r.ghosts (value_of (filling p ranks h l) (f, rules_of r))

  filled_value : (f : ℕ) (r : Field) (b : Owned) (x : IVec) → Holds (grown b.bx r.ghosts) x → value_at (filled_patch f r b) x ≡ value_of (filling p ranks h l) (f, rules_of r) x
  filled_value f r b x about = value_in-listed (grown b.bx r.ghosts) (value_of (filling p ranks h l) (f, rules_of r)) x about

  cell_same : (f : ℕ) (r : Field) (b : Owned) (x : IVec) → slice_get p.fields f ≡ Some r → Member b (level_at h.levels l) → Holds (grown b.bx r.ghosts) x
      → (if holds b.bx x then updated_value (rules_of r) (value_at (filled_patch f r b) x) (sum (map (λ y. value_at (filled_patch f r b) y) (faces p.dim x))) else value_at (filled_patch f r b) x)
      ≡ (if holds b.bx x then updated_values p ranks h l f x else seen_values p ranks h l f x)
  cell_same f r b x here m about = by (holds b.bx x) refl
    where
      field : IsFieldOf p r
      field = n.fields r (get_member p.fields f r here)

      sums : Holds b.bx x → r.face * sum (map (λ y. value_at (filled_patch f r b) y) (faces p.dim x)) ≡ r.face * sum (map (λ y. value_of (filling p ranks h l) (f, rules_of r) y) (faces p.dim x))
      sums has = elim field.about [
        | inl none ↦ nothing r.face _ _ none
        | inr near ↦
            ap (λ (v : List ℕ). r.face * sum v)
            (map_members (λ y. value_at (filled_patch f r b) y) (λ y. value_of (filling p ranks h l) (f, rules_of r) y) (faces p.dim x)
            (λ y k. filled_value f r b y ((Holds-grown b.bx r.ghosts ((mesh.level l less).not_empty b m) field.rules.positive y).1 (x, has, near x y k))))
      ]

      own_value : Holds b.bx x → value_at (filled_patch f r b) x ≡ h.values l f x
      own_value has = filled_value f r b x about ∙ the_level_keeps_its_values (filling p ranks h l) (f, rules_of r) b x (fills_hold p ranks l h n mesh fits less) m has

      by : (t : Bool) → holds b.bx x ≡ t
          → (if t then updated_value (rules_of r) (value_at (filled_patch f r b) x) (sum (map (λ y. value_at (filled_patch f r b) y) (faces p.dim x))) else value_at (filled_patch f r b) x)
          ≡ (if t then updated_values p ranks h l f x else seen_values p ranks h l f x)
      by true e =
          let has : Holds b.bx x = Holds-test {b = b.bx} {x = x} e in
          ap (λ (v : ℕ). updated_value (rules_of r) v (sum (map (λ y. value_at (filled_patch f r b) y) (faces p.dim x)))) (own_value has)
          ∙ ap (λ (v : ℕ). (r.centre * h.values l f x + v) % r.modulus) (sums has)
          ∙ sym (the_field p.fields f r (λ r. value_after p.dim (filling p ranks h l) (f, rules_of r) x) here)
      by false e = filled_value f r b x about ∙ sym (the_field p.fields f r (λ r. value_of (filling p ranks h l) (f, rules_of r) x) here)

  patch_same : (f : ℕ) (r : Field) (b : Owned) → slice_get p.fields f ≡ Some r → Member b (level_at h.levels l)
      → updated_at p.dim (rules_of r) (filled_patch f r b) ≡ patch_of (updated p ranks h) l (f, r) b
  patch_same f r b here m =
      ap (λ (values : List ℕ). let g : Grid = record { bx = b.bx; width = r.ghosts; values = values } in g)
      (listed_same (grown b.bx r.ghosts)
      (λ x. (if holds b.bx x then updated_value (rules_of r) (value_at (filled_patch f r b) x) (sum (map (λ y. value_at (filled_patch f r b) y) (faces p.dim x))) else value_at (filled_patch f r b) x))
      (λ x. (if holds b.bx x then updated_values p ranks h l f x else seen_values p ranks h l f x))
      (grown_order b.bx r.ghosts (n.fields r (get_member p.fields f r here)).rules.positive ((mesh.level l less).not_empty b m))
      (λ x about. cell_same f r b x here m about))

  own_member : (b : Owned) → Member b (own rank (level_at h.levels l)) → Member b (level_at h.levels l)
  unfolding own
  own_member b m = (Member-from_filter _ b (level_at h.levels l) m).0

  field_same : (f : ℕ) (r : Field) → slice_get p.fields f ≡ Some r
      → map (λ g. updated_at p.dim (rules_of r) g) (map (λ b. filled_patch f r b) (own rank (level_at h.levels l))) ≡ map (λ b. patch_of (updated p ranks h) l (f, r) b) (own rank (level_at h.levels l))
  field_same f r here = by (own rank (level_at h.levels l)) (λ b m. own_member b m)
    where
      by : (bs : List Owned) → ((b : Owned) → Member b bs → Member b (level_at h.levels l))
          → map (λ g. updated_at p.dim (rules_of r) g) (map (λ b. filled_patch f r b) bs) ≡ map (λ b. patch_of (updated p ranks h) l (f, r) b) bs
      by [] of = refl
      by (b ∷ bs) of =
          ap (λ (q : Grid). q ∷ map (λ g. updated_at p.dim (rules_of r) g) (map (λ b. filled_patch f r b) bs)) (patch_same f r b here (of b (inl refl)))
          ∙ ap (λ (qs : List Grid). patch_of (updated p ranks h) l (f, r) b ∷ qs) (by bs (λ c m. of c (inr m)))

  all_same : (k : ℕ) (rest : List Field) → ((i : ℕ) (r : Field) → slice_get rest i ≡ Some r → slice_get p.fields (k + i) ≡ Some r)
      → map (λ e. map (λ g. updated_at p.dim e.0 g) e.1)
      (zip (map rules_of rest) (map (λ f. map (λ b. grid_of b.bx f.1.width (value_of (filling p ranks h l) f)) (own rank (level_at h.levels l))) (enumerate_from k (map rules_of rest))))
      ≡ map (λ f. map (λ b. patch_of (updated p ranks h) l f b) (own rank (level_at h.levels l))) (enumerate_from k rest)
  all_same k [] at = refl
  all_same k (r ∷ rest) at =
      let here : slice_get p.fields k ≡ Some r = subst (λ (m : ℕ). slice_get p.fields m ≡ Some r) (no_more k) (at 0 r refl) in
      ap (λ (y : List Grid). y ∷ map (λ e. map (λ g. updated_at p.dim e.0 g) e.1)
      (zip (map rules_of rest) (map (λ f. map (λ b. grid_of b.bx f.1.width (value_of (filling p ranks h l) f)) (own rank (level_at h.levels l))) (enumerate_from (k + 1) (map rules_of rest))))) (field_same k r here)
      ∙ ap (λ (ys : List (List Grid)). map (λ b. patch_of (updated p ranks h) l (k, r) b) (own rank (level_at h.levels l)) ∷ ys)
      (all_same (k + 1) rest (λ i s e. subst (λ (m : ℕ). slice_get p.fields m ≡ Some s) (sym (one_more k i)) (at (suc i) s e)))

  all_updated : map (λ e. map (λ g. updated_at p.dim e.0 g) e.1)
      (zip (all_rules p) (map (λ f. map (λ b. grid_of b.bx f.1.width (value_of (filling p ranks h l) f)) (own rank (level_at h.levels l))) (enumerate_from 0 (all_rules p))))
      ≡ patches p (updated p ranks h) l rank
  unfolding patches
  all_updated = all_same 0 p.fields (λ i r e. let same : i ≡ 0 + i = omega arith in subst (λ (m : ℕ). slice_get p.fields m ≡ Some r) same e)

pub updates_patches : UpdatesPatches
updates_patches p ranks l rank h n mesh fits less = all_updated p ranks l rank h n mesh fits less
