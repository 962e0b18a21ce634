-- Two hierarchies with the same cells and values have the same values after a step.
use Rattle.std.proofs.Common.{◌≡◌, ℕ, zero, suc, ◌+◌, ◌-◌, ◌*◌, ◌<◌, refl, sym, ap, ◌∙◌, subst, inl, inr, arith, length, Some, None, slice_get}
use Rattle.std.proofs.lemmas.Bool.{false≢true}
use Rattle.std.proofs.lemmas.Bool.Decides.{nat_tests}
use Rattle.std.specs.Prelude.{Bool, true, false, not, ◌&&◌, ◌==◌, ◌%◌, ◌⊎◌, nat_lt, if◌then◌else◌, sum, slice_index, List, [], ◌∷◌, map, Option, Result, Ok, Err}
use Rattle.samr_box.specs.declared.vector.IVec.{IVec}
use Rattle.samr_box.specs.Vector.{times}
use Rattle.samr_box.specs.Corners.{Holds, holds, grown}
use Rattle.samr_box.specs.Ratios.{coarse, refined}
use Rattle.samr_box.specs.Space.{wrapped}
use Rattle.samr_box.specs.Lists.{Member}
use Rattle.samr_box.proofs.CellSets.{Holds-test, holds-from, Holds-grown}
use Rattle.samr_level.specs.Refs.{Owned}
use Rattle.samr_level.specs.Regions.{IsInside, is_inside}
use Rattle.samr_level.specs.Levels.{IsCellIn}
use Rattle.samr_level.proofs.Domains.{is_inside-means}
use Rattle.samr_nest.proofs.StayLaws.{cell_of_frame}
use Rattle.samr_ops.specs.Rules.{refined_value, updated_value, coarsened_value}
use Rattle.samr_ops.specs.Walks.{walked}
use Rattle.samr_ops.proofs.WalkLaws.{walks_end_inside, walks_stay_inside}
use Rattle.samr_sched.specs.Ask.{domain_of, frame_of, coarse_frame}
use Rattle.samr_fill.specs.Fill.{IsFilling, child, inner_value, walked_value, value_of}
use Rattle.samr_fill.proofs.Insides.{any_member, member_any, not_outside}
use Rattle.samr_fill.proofs.Numbered.{get_member}
use Rattle.samr_fill.proofs.FieldTasks.{length_map}
use Rattle.samr_fill.proofs.Truths.{width_at, ghost_at}
use Rattle.samr_fill.proofs.WalkEnds.{wraps_inside, plain_inside}
use Rattle.samr_fill.proofs.Ends.{near_walk, walk_about}
use Rattle.samr_data.proofs.PlaceLaws.{same_test}
use Rattle.samr_values.specs.Patches.{has}
use Rattle.samr_values.specs.Values.{Renewing, new_value}
use Rattle.samr_values.specs.Coarsen.{is_under, children, merged}
use Rattle.samr_values.specs.Updating.{faces}
use Rattle.samr_problem.specs.declared.field.Field.{Field}
use Rattle.samr_problem.specs.Fields.{Fields}
use Rattle.samr_mesh.specs.Domains.{step_of, area_at}
use Rattle.samr_mesh.specs.Meshes.{level_at, is_due}
use Rattle.samr_mesh.specs.Soundness.{IsMesh, IsRemade}
use Rattle.samr_mesh.specs.Independence.{HaveSameCells}
use Rattle.samr_hierarchy.specs.Scales.{rules_of, all_rules}
use Rattle.samr_hierarchy.specs.Grounds.{IsGround}
use Rattle.samr_hierarchy.specs.Hierarchies.{Hierarchy, Values, level_below, values_below, for_field, filling, renewing, coarsening}
use Rattle.samr_hierarchy.specs.Passes.{first_values, renewing_at, renewed_values, begun, value_after, updated, merged_values, with_values, coarsened_values, after}
use Rattle.samr_hierarchy.specs.Meshes.{AreMeshes}
use Rattle.samr_hierarchy.specs.Laws.{Fits}
use Rattle.samr_hierarchy.specs.Agreements.{Agree, CanStep, StepsAgree, HierarchiesAgree}
use Rattle.samr_hierarchy.proofs.Schedules.{has_cells}
use Rattle.samr_hierarchy.proofs.Fills.{at_mapped, fills_hold, over_below}
use Rattle.samr_hierarchy.proofs.Fitting.{child_of, over_all, steps_fit, each_step_is_sound}

pub map_members : {X Y : Type 0} (f g : X → Y) (xs : List X) → ((x : X) → Member x xs → f x ≡ g x) → map f xs ≡ map g xs
map_members f g [] h = refl
map_members f g (x ∷ xs) h = ap (λ y. y ∷ map f xs) (h x (inl refl)) ∙ ap (λ ys. g x ∷ ys) (map_members f g xs (λ y m. h y (inr m)))

pub cell_from : (level : List Owned) (x : IVec) → has level x ≡ true → IsCellIn level x
cell_from level x t = let b = member_any (λ (o : Owned). holds o.bx x) level t in (b.0, b.1, Holds-test {b = b.0.bx} {x = x} b.2)

pub cell_test : (level : List Owned) (x : IVec) → IsCellIn level x → has level x ≡ true
cell_test level x c = any_member (λ (o : Owned). holds o.bx x) c.0 level c.1 (holds-from {b = c.0.bx} {x = x} c.2)

-- lists of levels with the same cells have them by the same tests
same_has : (xs ys : List (List Owned)) (l : ℕ) (x : IVec) → HaveSameCells xs ys → has (level_at xs l) x ≡ has (level_at ys l) x
same_has xs ys l x same =
    same_test (has (level_at xs l) x) (has (level_at ys l) x) (λ t. cell_test (level_at ys l) x ((same.cells l x).0 (cell_from (level_at xs l) x t)))
    (λ t. cell_test (level_at xs l) x ((same.cells l x).1 (cell_from (level_at ys l) x t)))

other_cell : (level other : List Owned) (x : IVec) → has level x ≡ has other x → IsCellIn level x → IsCellIn other x
other_cell level other x e c = cell_from other x (sym e ∙ cell_test level x c)

-- a choice by one test, or by another that is equal to it
by_both : (s t : Bool) (a b c d : ℕ) → s ≡ t → (s ≡ true → a ≡ c) → (s ≡ false → b ≡ d) → (if s then a else b) ≡ (if t then c else d)
by_both true t a b c d e yes_same no_same = yes_same refl ∙ ap (λ (v : Bool). if v then c else d) e
by_both false t a b c d e yes_same no_same = no_same refl ∙ ap (λ (v : Bool). if v then c else d) e

-- for each field that there is
for_each : (fields : List Field) (f : ℕ) (a b : Field → ℕ) → ((r : Field) → slice_get fields f ≡ Some r → a r ≡ b r) → for_field (slice_get fields f) a ≡ for_field (slice_get fields f) b
for_each fields f a b h = by (slice_get fields f) refl
  where
    by : (o : Option Field) → slice_get fields f ≡ o → for_field o a ≡ for_field o b
    by None e = refl
    by (Some r) e = h r e

-- the values of new levels
same_new : (p : Fields) (w v : Renewing) (f : ℕ) (r : Field) (x : IVec) → w.step ≡ v.step → has w.olds x ≡ has v.olds x → (has w.olds x ≡ true → w.values f x ≡ v.values f x)
    → w.coarse_values f (coarse x w.step) ≡ v.coarse_values f (coarse x w.step) → new_value w (f, rules_of r) x ≡ new_value v (f, rules_of r) x
unfolding new_value
same_new p w v f r x e cells old under =
    by_both (has w.olds x) (has v.olds x) (w.values f x) (refined_value (rules_of r) (w.coarse_values f (coarse x w.step)) (child x w.step))
    (v.values f x) (refined_value (rules_of r) (v.coarse_values f (coarse x v.step)) (child x v.step)) cells old
    (λ t.
    ap (λ (c : ℕ). refined_value (rules_of r) c (child x w.step)) under
    ∙ ap (λ (s : IVec). refined_value (rules_of r) (v.coarse_values f (coarse x s)) (child x s)) e)

module _ (p : Fields) (ranks others : ℕ) (n : IsGround p) where
  -- at step 0
  module _ (levels those : List (List Owned)) (mesh : IsMesh p ranks levels) (same : HaveSameCells levels those) where
    first_agree : (l f : ℕ) (x : IVec) → IsCellIn (level_at levels l) x → first_values p ranks levels l f x ≡ first_values p others those l f x
    first_agree zero f x cell = refl
    first_agree (suc l) f x cell =
        for_each p.fields f
        (λ r. new_value (renewing p ranks l (level_at levels (suc l)) [] (level_at levels l) (λ f x. 0) (first_values p ranks levels l)) (f, rules_of r) x)
        (λ r. new_value (renewing p others l (level_at those (suc l)) [] (level_at those l) (λ f x. 0) (first_values p others those l)) (f, rules_of r) x)
        (λ r here.
        same_new p (renewing p ranks l (level_at levels (suc l)) [] (level_at levels l) (λ f x. 0) (first_values p ranks levels l))
        (renewing p others l (level_at those (suc l)) [] (level_at those l) (λ f x. 0) (first_values p others those l))
        f r x refl refl (λ t. refl)
        (first_agree l f (coarse x (step_of p l)) (over_below p ranks levels n mesh l (has_cells p ranks levels n mesh (suc l) x cell) x cell)))

  -- at a later regrid
  module _ (h g : Hierarchy) (news those : List (List Owned)) (mesh : IsMesh p ranks news) (same : HaveSameCells news those) (agree : Agree h g) where
    renewed_agree : IsRemade p h.levels news → (l f : ℕ) (x : IVec) → IsCellIn (level_at news l) x → renewed_values p ranks h news l f x ≡ renewed_values p others g those l f x
    renewed_agree remade zero f x cell = agree.values 0 f x (subst (λ (v : List Owned). IsCellIn v x) remade.same cell)
    renewed_agree remade (suc l) f x cell =
        for_each p.fields f (λ r. new_value (renewing_at p ranks h news l) (f, rules_of r) x) (λ r. new_value (renewing_at p others g those l) (f, rules_of r) x)
        (λ r here.
        same_new p (renewing_at p ranks h news l) (renewing_at p others g those l) f r x refl (same_has h.levels g.levels (suc l) x agree.levels)
        (λ t. agree.values (suc l) f x (cell_from (level_at h.levels (suc l)) x t))
        (agree.values l f (coarse x (step_of p l)) (remade.over l x (has_cells p ranks news n mesh (suc l) x cell) cell)))

    begun_agree : (t : ℕ) → (is_due p t ≡ true → IsRemade p h.levels news) → (is_due p t ≡ false → news ≡ h.levels) → Agree (begun p ranks h news t) (begun p others g those t)
    begun_agree t remade kept = record { levels = same; values = λ l f x cell. by l f x cell (is_due p t) refl }
      where
        by : (l f : ℕ) (x : IVec) → IsCellIn (level_at news l) x → (u : Bool) → is_due p t ≡ u
            → (if u then renewed_values p ranks h news else h.values) l f x ≡ (if u then renewed_values p others g those else g.values) l f x
        by l f x cell true e = renewed_agree (remade e) l f x cell
        by l f x cell false e = agree.values l f x (subst (λ (v : List (List Owned)). IsCellIn (level_at v l) x) (kept e) cell)

pub no_parts : (k : ℕ) → nat_lt 0 k ≡ false → k ≡ 0
no_parts k e = grind (arith, nat_tests, e)

pub same_cell_of : (x y : IVec) → ◌≡◌ {A = Result IVec ℕ} (Ok x) (Ok y) → x ≡ y
same_cell_of x y e = cc

-- a test of two parts fails in one of two ways
pub fails : (a b : Bool) → (a && not b) ≡ false → (a ≡ false) ⊎ (b ≡ true)
fails false b e = inl refl
fails true true e = inr refl
fails true false e = absurd (false≢true (sym e))

below_agree : (h g : Hierarchy) (l f : ℕ) (x : IVec) → Agree h g → IsCellIn (level_below h.levels l) x → values_below h.values l f x ≡ values_below g.values l f x
below_agree h g zero f x agree cell = absurd cell.1
below_agree h g (suc l) f x agree cell = agree.values l f x cell

-- the values about a level
module _ (p : Fields) (ranks others : ℕ) (n : IsGround p) (h g : Hierarchy) (mesh : IsMesh p ranks h.levels) (fits : Fits p h) (agree : Agree h g)
    (l : ℕ) (less : l < length h.levels) (b : Owned) (mb : Member b (level_at h.levels l)) (f : ℕ) (r : Field) (here : slice_get p.fields f ≡ Some r) where
  is : IsFilling (filling p ranks h l)
  is = fills_hold p ranks l h n mesh fits less

  rule_at : slice_get (all_rules p) f ≡ Some (rules_of r)
  rule_at = at_mapped rules_of p.fields f r here

  inner_agree : (y : IVec) → Holds (grown b.bx r.ghosts) y → IsInside (area_at p l) y → inner_value (filling p ranks h l) (f, rules_of r) y ≡ inner_value (filling p others g l) (f, rules_of r) y
  inner_agree y about inside =
      let w = filling p ranks h l in
      let s = w.schedule in
      let z = wrapped (frame_of s) y in
      let under = wrapped (coarse_frame s) (coarse y s.step) in
      let ghost_width = get_member s.ghosts f r.ghosts (width_at w is f (rules_of r) rule_at) in
      by_both (has (level_at h.levels l) z) (has (level_at g.levels l) z) (h.values l f z) (refined_value (rules_of r) (values_below h.values l f under) (child y s.step))
      (g.values l f z) (refined_value (rules_of r) (values_below g.values l f under) (child y s.step)) (same_has h.levels g.levels l z agree.levels)
      (λ t. agree.values l f z (cell_from (level_at h.levels l) z t))
      (λ t.
      let cell : IsCellIn s.coarser under =
      elim (is.sourced b r.ghosts y mb ghost_width about inside) [
        | inl c ↦ absurd (false≢true (sym t ∙ cell_test (level_at h.levels l) z c))
        | inr c ↦ c
      ] in
      ap (λ (c : ℕ). refined_value (rules_of r) c (child y s.step)) (below_agree h g l f under agree cell))

  walked_agree : (x : IVec) → Holds (grown b.bx r.ghosts) x → (length p.parts ≡ 0) ⊎ (is_inside (area_at p l) x ≡ true)
      → (o : Result IVec ℕ) → walked (rules_of r) (area_at p l).frame x ≡ o → walked_value (filling p ranks h l) (f, rules_of r) o ≡ walked_value (filling p others g l) (f, rules_of r) o
  walked_agree x about which (Err v) e = refl
  walked_agree x about which (Ok y) e =
      let w = filling p ranks h l in
      let s = w.schedule in
      let d = frame_of s in
      let a = domain_of s in
      inner_agree y (walk_about w is 0 b f (rules_of r) rule_at mb x y about e)
      (elim which [
        | inl none ↦
            plain_inside a y (length_map (λ q. refined q s.ratio) s.region.parts ∙ none)
            (wraps_inside d y is.schedule.area.frame (walks_end_inside (rules_of r) d x y is.schedule.area.frame (near_walk w is 0 b f (rules_of r) rule_at mb x about) (ghost_at w is f (rules_of r) rule_at).short e))
        | inr t ↦
            let i = (is_inside-means a x).0 t in
            let stays = walks_stay_inside (rules_of r) d x (not_outside d x (cell_of_frame a (wrapped d x) is.schedule.area i)) in
            subst (λ (v : IVec). IsInside a v) (same_cell_of x y (sym stays ∙ e)) i
      ])

  pub value_agrees : (x : IVec) → Holds (grown b.bx r.ghosts) x → value_of (filling p ranks h l) (f, rules_of r) x ≡ value_of (filling p others g l) (f, rules_of r) x
  unfolding value_of
  value_agrees x about =
      let w = filling p ranks h l in
      let s = w.schedule in
      let parts = nat_lt 0 (length s.region.parts) in
      let inside = is_inside (domain_of s) x in
      let fixed = slice_index s.fixed f in
      let o = walked (rules_of r) (frame_of s) x in
      by_both (parts && not inside) (parts && not inside) fixed (walked_value w (f, rules_of r) o) fixed (walked_value (filling p others g l) (f, rules_of r) o) refl
      (λ t. refl)
      (λ t.
      let which : (length s.region.parts ≡ 0) ⊎ (inside ≡ true) = elim (fails parts inside t) [ inl e ↦ inl (no_parts (length s.region.parts) e) | inr i ↦ inr i ] in
      walked_agree x about which o refl)

  after_agrees : (x : IVec) → Holds b.bx x → value_after p.dim (filling p ranks h l) (f, rules_of r) x ≡ value_after p.dim (filling p others g l) (f, rules_of r) x
  after_agrees x cell =
      let field = n.fields r (get_member p.fields f r here) in
      let own = agree.values l f x (b, mb, cell) in
      let mine = sum (map (λ y. value_of (filling p ranks h l) (f, rules_of r) y) (faces p.dim x)) in
      let theirs = sum (map (λ y. value_of (filling p others g l) (f, rules_of r) y) (faces p.dim x)) in
      ap (λ (v : ℕ). updated_value (rules_of r) v mine) own
      ∙ elim field.about [
        | inl none ↦ ap (λ (k : ℕ). (r.centre * g.values l f x + k) % r.modulus) (nothing r.face mine theirs none)
        | inr near ↦
            ap (λ (k : List ℕ). updated_value (rules_of r) (g.values l f x) (sum k))
            (map_members (λ y. value_of (filling p ranks h l) (f, rules_of r) y) (λ y. value_of (filling p others g l) (f, rules_of r) y) (faces p.dim x)
            (λ y m. value_agrees y ((Holds-grown b.bx r.ghosts (is.schedule.level.not_empty b mb) field.rules.positive y).1 (x, cell, near x y m))))
      ]
    where
      nothing : (k a b : ℕ) → k ≡ 0 → k * a ≡ k * b
      nothing k a b e = let zeros : 0 * a ≡ 0 * b = omega arith in ap (λ (v : ℕ). v * a) e ∙ zeros ∙ sym (ap (λ (v : ℕ). v * b) e)

module _ (p : Fields) (ranks others : ℕ) (n : IsGround p) (h g : Hierarchy) (mesh : IsMesh p ranks h.levels) (agree : Agree h g) where
  updated_agree : Fits p h → Agree (updated p ranks h) (updated p others g)
  updated_agree fits = record {
    levels = agree.levels;
    values = λ l f x cell.
        for_each p.fields f (λ r. value_after p.dim (filling p ranks h l) (f, rules_of r) x) (λ r. value_after p.dim (filling p others g l) (f, rules_of r) x)
        (λ r here. after_agrees p ranks others n h g mesh fits agree l (has_cells p ranks h.levels n mesh l x cell) cell.0 cell.1 f r here x cell.2);
  }

  -- coarsening
  merged_agree : (v u : Values) → ((l f : ℕ) (x : IVec) → IsCellIn (level_at h.levels l) x → v l f x ≡ u l f x) → (l f : ℕ) (x : IVec) → IsCellIn (level_at h.levels l) x
      → merged_values p ranks (with_values h v) l f x ≡ merged_values p others (with_values g u) l f x
  merged_agree v u same l f x cell =
      let w = coarsening p ranks (with_values h v) l in
      let z = coarsening p others (with_values g u) l in
      let fine = level_at h.levels (suc l) in
      by_both (is_under w x) (is_under z x) (for_field (slice_get p.fields f) (λ r. merged w (f, (r.coarsen, r.modulus)) x)) (v l f x)
      (for_field (slice_get p.fields f) (λ r. merged z (f, (r.coarsen, r.modulus)) x)) (u l f x) (same_has h.levels g.levels (suc l) (times x (step_of p l)) agree.levels)
      (λ t.
      let under = cell_from fine (times x (step_of p l)) t in
      let less = has_cells p ranks h.levels n mesh (suc l) (times x (step_of p l)) under in
      for_each p.fields f (λ r. merged w (f, (r.coarsen, r.modulus)) x) (λ r. merged z (f, (r.coarsen, r.modulus)) x)
      (λ r here.
      ap (λ (k : List ℕ). coarsened_value r.coarsen r.modulus k)
      (map_members (v (suc l) f) (u (suc l) f) (children w x)
      (λ y m. same (suc l) f y (over_all fine (step_of p l) x y (n.step l) (mesh.refinements l less) t (child_of (step_of p l) x y (n.step l) m))))))
      (λ t. same l f x cell)

  coarsened_agree : (k l f : ℕ) (x : IVec) → IsCellIn (level_at h.levels l) x → coarsened_values p ranks h k l f x ≡ coarsened_values p others g k l f x
  coarsened_agree zero l f x cell = agree.values l f x cell
  coarsened_agree (suc k) l f x cell =
      by (coarsened_agree k) (l == length h.levels - 2 - k) (l == length g.levels - 2 - k) (ap (λ (m : ℕ). l == m - 2 - k) agree.levels.count)
    where
      by : ((l f : ℕ) (x : IVec) → IsCellIn (level_at h.levels l) x → coarsened_values p ranks h k l f x ≡ coarsened_values p others g k l f x) → (s t : Bool) → s ≡ t
          → (if s then merged_values p ranks (with_values h (coarsened_values p ranks h k)) l else coarsened_values p ranks h k l) f x
          ≡ (if t then merged_values p others (with_values g (coarsened_values p others g k)) l else coarsened_values p others g k l) f x
      by rest true t e =
          merged_agree (coarsened_values p ranks h k) (coarsened_values p others g k) rest l f x cell
          ∙ ap (λ (v : Bool). (if v then merged_values p others (with_values g (coarsened_values p others g k)) l else coarsened_values p others g k l) f x) e
      by rest false t e =
          rest l f x cell
          ∙ ap (λ (v : Bool). (if v then merged_values p others (with_values g (coarsened_values p others g k)) l else coarsened_values p others g k l) f x) e

pub steps_agree : StepsAgree
steps_agree p ranks others t h g news those n can can_too same agree =
    let start = begun_agree p ranks others n h g news those can.next same agree t can.remade can.kept in
    let fit = steps_fit p ranks t h news n can.before can.next can.remade can.kept can.fits in
    let one = begun p ranks h news t in
    let two = begun p others g those t in
    let next = updated_agree p ranks others n one two can.next start fit.0 in
    record {
      levels = same;
      values = λ l f x cell.
          coarsened_agree p ranks others n (updated p ranks one) (updated p others two) can.next next (length news - 1) l f x cell
          ∙ ap (λ (k : ℕ). coarsened_values p others (updated p others two) (k - 1) l f x) same.count;
    }

module _ (p : Fields) (ranks : ℕ) (n : IsGround p) (mesh : ℕ → List (List Owned)) (are : AreMeshes p ranks mesh) where
  can_step : (t : ℕ) → CanStep p ranks (suc t) (after p ranks mesh t) (mesh (suc t))
  can_step t =
      let sound = each_step_is_sound p ranks t mesh n are in
      let olds = sym sound.levels in
      record {
        before = subst (λ (v : List (List Owned)). IsMesh p ranks v) olds (are.each t);
        next = are.each (suc t);
        remade = λ e. subst (λ (v : List (List Owned)). IsRemade p v (mesh (suc t))) olds (are.remade t e);
        kept = λ e. are.kept t e ∙ olds;
        fits = sound.fits;
      }

pub hierarchies_agree : HierarchiesAgree
hierarchies_agree p ranks others zero mesh other n are are_too same =
    record { levels = same 0; values = first_agree p ranks others n (mesh 0) (other 0) (are.each 0) (same 0) }
hierarchies_agree p ranks others (suc t) mesh other n are are_too same =
    steps_agree p ranks others (suc t) (after p ranks mesh t) (after p others other t) (mesh (suc t)) (other (suc t)) n
    (can_step p ranks n mesh are t) (can_step p others n other are_too t) (same (suc t)) (hierarchies_agree p ranks others t mesh other n are are_too same)
