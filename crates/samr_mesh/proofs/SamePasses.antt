-- Passes over levels with the same cells, on different ranks, make levels with the same cells.
use Rattle.std.proofs.Common.{◌≡◌, ℕ, refl, sym, subst, ◌∙◌, inl, inr}
use Rattle.std.proofs.lemmas.Bool.{and_from, and_parts, or_cases, or_left, or_right}
use Rattle.std.specs.Prelude.{Bool, true, ◌||◌, IsTrue, List, [], ◌∷◌, ◌↔◌}
use Rattle.samr_box.specs.declared.vector.IVec.{IVec}
use Rattle.samr_box.specs.Corners.{Holds}
use Rattle.samr_box.specs.Ratios.{coarse}
use Rattle.samr_box.specs.Space.{whole, wrapped}
use Rattle.samr_box.specs.Lists.{Member}
use Rattle.samr_boxlist.specs.Covers.{held}
use Rattle.samr_boxlist.proofs.Covering.{same_test}
use Rattle.samr_level.specs.Refs.{Owned}
use Rattle.samr_level.specs.Levels.{IsCellIn}
use Rattle.samr_level.proofs.Domains.{held-from, member-held}
use Rattle.samr_nest.proofs.StayLaws.{cell_of_frame}
use Rattle.samr_problem.specs.Fields.{Fields}
use Rattle.samr_rounds.specs.Clusters.{clusters}
use Rattle.samr_rounds.specs.Owners.{owner_of}
use Rattle.samr_rounds.proofs.LevelLaws.{level_has}
use Rattle.samr_tags.specs.Buffer.{in_level, tags_of, IsTagged}
use Rattle.samr_tags.specs.Cover.{covered}
use Rattle.samr_tags.proofs.Buffering.{in_level_from, in_level_is, tags_from, tags_is}
use Rattle.samr_tags.proofs.CoverStage.{covered_from}
use std.Path.{fun_ext}
use Rattle.samr_nest.specs.CutLevels.{IsDeep}
use Rattle.samr_mesh.specs.Domains.{step_of, area_at, frame_at, roots_at}
use Rattle.samr_mesh.specs.Passes as passes
use Rattle.samr_mesh.specs.Passes.{Pass, tagging, tags_in, rule_of, clusters_of, new_level}
use Rattle.samr_mesh.specs.Soundness.{CanRun}
use Rattle.samr_mesh.specs.Stages.{IsAbove}
use Rattle.samr_mesh.proofs.Covers.{cover_has, from_cover}
use Rattle.samr_mesh.proofs.Passing.{new_cells}
use Rattle.samr_mesh.proofs.Stacks.{SameCells}
use Rattle.samr_mesh.proofs.TagTests.{tags_are}

-- the cells of the clusters are those of the list
cluster_cells : (p : Fields) (w : Pass) (x : IVec) → IsCellIn (clusters_of p w) x ↔ IsTrue (held x (clusters (tags_in p w) (rule_of p) (roots_at p w.number)))
unfolding clusters_of
cluster_cells p w x = (
  λ (b, m, h). held-from x b.bx (clusters (tags_in p w) (rule_of p) (roots_at p w.number)) ((level_has (tags_in p w) (rule_of p) (roots_at p w.number) w.level w.ranks b).0 m).0 h,
  λ t.
      let r = member-held x (clusters (tags_in p w) (rule_of p) (roots_at p w.number)) t in
      let o : Owned = record { owner = owner_of (tags_in p w) w.level w.ranks r.0; bx = r.0 } in
      (o, (level_has (tags_in p w) (rule_of p) (roots_at p w.number) w.level w.ranks o).1 (r.1, refl), r.2),
)

-- nothing above covers nothing
no_member : (xs : List Owned) (b : Owned) → xs ≡ [] → Member b xs → ⊥
no_member [] b e m = absurd m
no_member (c ∷ cs) b e m = differ e
  where
    differ : (c ∷ cs) ≡ [] → ⊥
    differ e = cc

no_cell : (xs : List Owned) (x : IVec) → xs ≡ [] → IsCellIn xs x → ⊥
no_cell xs x e (b, m, h) = no_member xs b e m

uncovered : (p : Fields) (w : Pass) (x : IVec) → w.above ≡ [] → covered (passes.covering p w) x ≡ true → ⊥
uncovered p w x none t = let c = covered_from (passes.covering p w) x t in no_member w.above c.0 none c.1

-- two passes over one level of a problem at one step
abbrev pub pass : ℕ → ℕ → ℕ → List Owned → List Owned → Pass
pass ranks step l level above = record { ranks = ranks; step = step; number = l; level = level; above = above }

module _ (p : Fields) (step l : ℕ) (ranks others : ℕ) (level level' above above' : List Owned)
    (run : CanRun p (pass ranks step l level above)) (run' : CanRun p (pass others step l level' above'))
    (same : SameCells level level') (same_above : SameCells above above')
    (top : IsAbove p (pass ranks step l level above)) (top' : IsAbove p (pass others step l level' above')) where
  in_frame : (x : IVec) → IsCellIn level x → Holds (whole (frame_at p l)) x
  in_frame x (b, m, h) = cell_of_frame (area_at p l) x run.can.here.is_area (run.is_level.inside b x m h)

  one_way : (x : IVec) → tags_of (tagging p (pass ranks step l level above)) x ≡ true → tags_of (tagging p (pass others step l level' above')) x ≡ true
  one_way x t =
      let w = tagging p (pass ranks step l level above) in
      let v = tagging p (pass others step l level' above') in
      let h = tags_from w x run.can.buffer t in
      let tagged : IsTagged v x = record {
        is_cell = (same x).0 h.is_cell;
        tag = h.tag;
        close = h.close;
        tag_cell = (same (wrapped (frame_at p l) h.tag)).0 h.tag_cell;
        shaped = h.shaped;
      } in
      tags_is v x tagged

  cover_way : (x : IVec) → Holds (whole (frame_at p l)) x → covered (passes.covering p (pass ranks step l level above)) x ≡ true
      → covered (passes.covering p (pass others step l level' above')) x ≡ true
  cover_way x home t = by top top'
    where
      by : IsAbove p (pass ranks step l level above) → IsAbove p (pass others step l level' above') → covered (passes.covering p (pass others step l level' above')) x ≡ true
      by (inl none) other = absurd (uncovered p (pass ranks step l level above) x none t)
      by (inr (upper, is)) (inl none) =
          let c = from_cover p (pass ranks step l level above) run.can upper is x home t in
          absurd (no_cell above' c.0 none ((same_above c.0).0 c.2))
      by (inr (upper, is)) (inr (upper', is')) =
          let c = from_cover p (pass ranks step l level above) run.can upper is x home t in
          let Covered : IVec → Type 0 = λ v. covered (passes.covering p (pass others step l level' above')) v ≡ true in
          subst Covered c.4 (cover_has p (pass others step l level' above') run'.can upper' is' c.0 c.1 ((same_above c.0).0 c.2) c.3)

  pub tags_way : (x : IVec) → tags_in p (pass ranks step l level above) x ≡ true → tags_in p (pass others step l level' above') x ≡ true
  tags_way x t =
      let w = pass ranks step l level above in
      let v = pass others step l level' above' in
      let h = and_parts (in_level level x) (tags_of (tagging p w) x || covered (passes.covering p w) x) (sym (tags_are p w x) ∙ t) in
      let cell = in_level_from level x h.0 in
      tags_are p v x
      ∙ and_from (in_level level' x) (tags_of (tagging p v) x || covered (passes.covering p v) x) (in_level_is level' x ((same x).0 cell))
      (elim (or_cases (tags_of (tagging p w) x) (covered (passes.covering p w) x) h.1) [
        | inl tagged ↦ or_left (tags_of (tagging p v) x) (covered (passes.covering p v) x) (one_way x tagged)
        | inr under ↦ or_right (tags_of (tagging p v) x) (covered (passes.covering p v) x) (cover_way x (in_frame x cell) under)
      ])

  pub deep_way : (x : IVec) → IsDeep (area_at p l) level p.nest x → IsDeep (area_at p l) level' p.nest x
  deep_way x d = record { in_domain = d.in_domain; in_level = λ y n i. (same (wrapped (frame_at p l) y)).0 (d.in_level y n i) }

module _ (p : Fields) (step l : ℕ) (ranks others : ℕ) (level level' above above' : List Owned)
    (run : CanRun p (pass ranks step l level above)) (run' : CanRun p (pass others step l level' above'))
    (same : SameCells level level') (same_above : SameCells above above')
    (top : IsAbove p (pass ranks step l level above)) (top' : IsAbove p (pass others step l level' above')) where
  back : (xs ys : List Owned) → SameCells xs ys → SameCells ys xs
  back xs ys h x = ((h x).1, (h x).0)

  same_tags : tags_in p (pass ranks step l level above) ≡ tags_in p (pass others step l level' above')
  same_tags =
      let each : (x : IVec) → tags_in p (pass ranks step l level above) x ≡ tags_in p (pass others step l level' above') x =
      λ x. same_test (tags_in p (pass ranks step l level above) x) (tags_in p (pass others step l level' above') x)
      (tags_way p step l ranks others level level' above above' run run' same same_above top top' x)
      (tags_way p step l others ranks level' level above' above run' run (back level level' same) (back above above' same_above) top' top x) in
      fun_ext each

  same_clusters : SameCells (clusters_of p (pass ranks step l level above)) (clusters_of p (pass others step l level' above'))
  same_clusters x =
      let h = cluster_cells p (pass ranks step l level above) x in
      let k = cluster_cells p (pass others step l level' above') x in
      let Held : (IVec → Bool) → Type 0 = λ t. IsTrue (held x (clusters t (rule_of p) (roots_at p l))) in (
        λ c. k.1 (subst Held same_tags (h.0 c)),
        λ c. h.1 (subst Held (sym same_tags) (k.0 c)),
      )

  pub same_new : SameCells (new_level p (pass ranks step l level above)) (new_level p (pass others step l level' above'))
  same_new x =
      let h = new_cells p (pass ranks step l level above) run x in
      let k = new_cells p (pass others step l level' above') run' x in
      let z = coarse x (step_of p l) in (
        λ c. let r = h.0 c in k.1 ((same_clusters z).0 r.0, deep_way p step l ranks others level level' above above' run run' same same_above top top' z r.1),
        λ c. let r = k.0 c in h.1 ((same_clusters z).1 r.0, deep_way p step l others ranks level' level above' above run' run (back level level' same) (back above above' same_above) top' top z r.1),
      )
