-- Patches of a hierarchy: their values, and what stages make of them.
use Rattle.std.proofs.Common.{◌≡◌, ℕ, zero, suc, ◌+◌, ◌-◌, ◌<◌, refl, sym, ap, ◌∙◌, subst, inl, inr, arith, length, Some, slice_get}
use Rattle.std.proofs.lemmas.Int.{ints}
use Rattle.std.proofs.lemmas.Bool.{eq-eqb}
use Rattle.std.proofs.lemmas.List.{length-map}
use Rattle.std.specs.Prelude.{Bool, true, false, cond, ◌&&◌, if◌then◌else◌, pos, List, [], ◌∷◌, map, zip, Option}
use Rattle.std.specs.List.{enumerate_from}
use Rattle.samr_box.specs.declared.vector.IVec.{IVec}
use Rattle.samr_box.specs.Vector.{alike, AtMost}
use Rattle.samr_box.specs.Corners.{Corners, Holds, holds, grown}
use Rattle.samr_box.specs.Lists.{Member}
use Rattle.samr_box.proofs.CellSets.{holds-from}
use Rattle.samr_box.proofs.Members.{Member-from_map, Member-from_filter}
use Rattle.samr_level.specs.Refs.{Owned}
use Rattle.samr_level.specs.Levels.{own}
use Rattle.samr_data.specs.Grids.{Grid, value_at, grid_of}
use Rattle.samr_data.proofs.Lists.{value_in-listed, listed_same}
use Rattle.samr_ops.specs.declared.rules.Rules.{Rules}
use Rattle.samr_fill.proofs.Numbered.{some_same, none_some, get_member}
use Rattle.samr_fill.specs.FillParts.{HasValues as HasFillValues}
use Rattle.samr_values.specs.Patches.{HasValues}
use Rattle.samr_values.specs.Values.{Renewing, renewed as renewed_patches, new_value}
use Rattle.samr_values.specs.Coarsen.{coarsened_patches, is_under, merged, after as after_coarsening}
use Rattle.samr_problem.specs.declared.field.Field.{Field}
use Rattle.samr_problem.specs.Fields.{Fields}
use Rattle.samr_mesh.specs.Meshes.{level_at}
use Rattle.samr_mesh.specs.Soundness.{IsMesh}
use Rattle.samr_hierarchy.specs.Scales.{rules_of, all_rules}
use Rattle.samr_hierarchy.specs.Grounds.{IsGround}
use Rattle.samr_hierarchy.specs.Hierarchies.{Hierarchy, Values, for_field, renewing, coarsening, patch_of, patches}
use Rattle.samr_hierarchy.specs.Passes.{renewed, first_values, first_hierarchy, renewing_at, regridded, merged_values, with_values, coarsened_values, coarsened}
use Rattle.samr_hierarchy.specs.Parts.{PatchesHaveValues, NewPatches, FirstNewPatches, CoarsePatches, CoarsenRounds, OthersKeepTheirPatches, Level0KeepsItsPatches}
use Rattle.samr_hierarchy.proofs.Fills.{mapped_at}
use Rattle.samr_hierarchy.proofs.Fitting.{the_field}

-- numbered lists, item by item
no_more : (k : ℕ) → k + 0 ≡ k
no_more k = omega arith

one_more : (k i : ℕ) → k + 1 + i ≡ k + suc i
one_more k i = omega arith

-- what is made of the numbered rules is what is made of the numbered fields
numbered : {Y : Type 0} (F : ℕ × Rules → Y) (G : ℕ × Field → Y) (k : ℕ) (fields : List Field)
    → ((i : ℕ) (r : Field) → slice_get fields i ≡ Some r → F (k + i, rules_of r) ≡ G (k + i, r)) → map F (enumerate_from k (map rules_of fields)) ≡ map G (enumerate_from k fields)
numbered F G k [] h = refl
numbered F G k (x ∷ xs) h =
    let first : F (k, rules_of x) ≡ G (k, x) = subst (λ (n : ℕ). F (n, rules_of x) ≡ G (n, x)) (no_more k) (h 0 x refl) in
    let rest = numbered F G (k + 1) xs (λ i r e. subst (λ (n : ℕ). F (n, rules_of r) ≡ G (n, r)) (sym (one_more k i)) (h (suc i) r e)) in
    ap (λ y. y ∷ map F (enumerate_from (k + 1) (map rules_of xs))) first ∙ ap (λ ys. G (k, x) ∷ ys) rest

-- the field of a number among what is made of the numbered fields
pub numbered_field : {X Y : Type 0} (G : ℕ × X → Y) (k : ℕ) (fields : List X) (f : ℕ) (y : Y) → slice_get (map G (enumerate_from k fields)) f ≡ Some y
    → (r : X) × (slice_get fields f ≡ Some r) × (y ≡ G (k + f, r))
numbered_field G k [] f y e = absurd (none_some e)
numbered_field G k (x ∷ xs) zero y e = (x, refl, sym (some_same e) ∙ ap (λ (n : ℕ). G (n, x)) (sym (no_more k)))
numbered_field G k (x ∷ xs) (suc f) y e =
    let r = numbered_field G (k + 1) xs f y e in
    (r.0, r.1, r.2 ∙ ap (λ (n : ℕ). G (n, r.0)) (one_more k f))

boxes_same : {X Y Z : Type 0} (f : X → Y) (g : Y → Z) (h : X → Z) (xs : List X) → ((x : X) → g (f x) ≡ h x) → map g (map f xs) ≡ map h xs
boxes_same f g h [] e = refl
boxes_same f g h (x ∷ xs) e = ap (λ y. y ∷ map g (map f xs)) (e x) ∙ ap (λ ys. h x ∷ ys) (boxes_same f g h xs e)

-- the values of new patches
new_patches_by : (p : Fields) (w : Renewing) (h : Hierarchy) (l rank : ℕ) → w.rules ≡ all_rules p → w.news ≡ level_at h.levels l
    → h.values l ≡ renewed p w → h.seen l ≡ (λ f x. 0) → renewed_patches w rank ≡ patches p h l rank
unfolding renewed_patches patches
new_patches_by p w h l rank rules boxes values seen =
    ap (λ (rs : List Rules). map (λ f. map (λ b. grid_of b.bx f.1.width (λ x. cond (holds b.bx x) (new_value w f x) 0)) (own rank w.news)) (enumerate_from 0 rs)) rules
    ∙ numbered (λ f. map (λ b. grid_of b.bx f.1.width (λ x. cond (holds b.bx x) (new_value w f x) 0)) (own rank w.news))
    (λ f. map (λ b. patch_of h l f b) (own rank (level_at h.levels l))) 0 p.fields
    (λ i r e.
    let n = 0 + i in
    let same : 0 + i ≡ i = omega arith in
    let there : slice_get p.fields n ≡ Some r = ap (λ (m : ℕ). slice_get p.fields m) same ∙ e in
    ap (λ (o : List Owned). map (λ b. grid_of b.bx r.ghosts (λ x. cond (holds b.bx x) (new_value w (n, rules_of r) x) 0)) (own rank o)) boxes
    ∙ ap (λ (o : Option Field). map (λ b. grid_of b.bx r.ghosts (λ x. cond (holds b.bx x) (for_field o (λ r. new_value w (n, rules_of r) x)) 0)) (own rank (level_at h.levels l))) (sym there)
    ∙ ap (λ (v : ℕ → IVec → ℕ). map (λ b. grid_of b.bx r.ghosts (λ x. cond (holds b.bx x) (v n x) 0)) (own rank (level_at h.levels l))) (sym values)
    ∙ ap (λ (v : ℕ → IVec → ℕ). map (λ b. grid_of b.bx r.ghosts (λ x. cond (holds b.bx x) (h.values l n x) (v n x))) (own rank (level_at h.levels l))) (sym seen))

pub new_patches : NewPatches
new_patches p ranks l rank h news = new_patches_by p (renewing_at p ranks h news l) (regridded p ranks h news) (suc l) rank refl refl refl refl

pub first_new_patches : FirstNewPatches
first_new_patches p ranks l rank levels =
    new_patches_by p (renewing p ranks l (level_at levels (suc l)) [] (level_at levels l) (λ f x. 0) (first_values p ranks levels l)) (first_hierarchy p ranks levels) (suc l) rank refl refl refl refl

-- a patch has its values
patch_value : (h : Hierarchy) (l : ℕ) (f : ℕ × Field) (b : Owned) (x : IVec) → Holds (grown b.bx f.1.ghosts) x
    → value_at (patch_of h l f b) x ≡ (if holds b.bx x then h.values l f.0 x else h.seen l f.0 x)
patch_value h l f b x about = value_in-listed (grown b.bx f.1.ghosts) (λ x. (if holds b.bx x then h.values l f.0 x else h.seen l f.0 x)) x about

pub about_box : (b : Corners) (g x : IVec) → AtMost (alike (pos 0)) g → Holds b x → Holds (grown b g) x
about_box b g x low h = record {
  low = record { k = omega (arith, ints, low.k, h.low.k); j = omega (arith, ints, low.j, h.low.j); i = omega (arith, ints, low.i, h.low.i) };
  high = record { k = omega (arith, ints, low.k, h.high.k); j = omega (arith, ints, low.j, h.high.j); i = omega (arith, ints, low.i, h.high.i) };
}

pub grown_order : (b : Corners) (g : IVec) → AtMost (alike (pos 0)) g → AtMost b.lo b.hi → AtMost (grown b g).lo (grown b g).hi
grown_order b g low h = record { k = omega (arith, ints, low.k, h.k); j = omega (arith, ints, low.j, h.j); i = omega (arith, ints, low.i, h.i) }

own_value : (h : Hierarchy) (l : ℕ) (f : ℕ × Field) (b : Owned) (x : IVec) → AtMost (alike (pos 0)) f.1.ghosts → Holds b.bx x → value_at (patch_of h l f b) x ≡ h.values l f.0 x
own_value h l f b x low has =
    patch_value h l f b x (about_box b.bx f.1.ghosts x low has)
    ∙ ap (λ (t : Bool). if t then h.values l f.0 x else h.seen l f.0 x) (holds-from {b = b.bx} {x = x} has)

module _ (p : Fields) (ranks l rank : ℕ) (h : Hierarchy) (n : IsGround p) where
  low_of : (f : ℕ) (r : Field) → slice_get p.fields f ≡ Some r → AtMost (alike (pos 0)) r.ghosts
  low_of f r here = (n.fields r (get_member p.fields f r here)).rules.positive

  -- the patches of a field
  pub its_patches : (f : ℕ) (field : List Grid) → slice_get (patches p h l rank) f ≡ Some field
      → (r : Field) × (slice_get p.fields f ≡ Some r) × (field ≡ map (λ b. patch_of h l (f, r) b) (own rank (level_at h.levels l)))
  unfolding patches
  its_patches f field e =
      let r = numbered_field (λ f. map (λ b. patch_of h l f b) (own rank (level_at h.levels l))) 0 p.fields f field e in
      let same : 0 + f ≡ f = omega arith in
      (r.0, r.1, r.2 ∙ ap (λ (m : ℕ). map (λ b. patch_of h l (m, r.0) b) (own rank (level_at h.levels l))) same)

  pub has_values : HasValues (h.values l) (own rank (level_at h.levels l)) (patches p h l rank)
  has_values = record {
    full = λ f field there.
        let r = its_patches f field there in
        ap (λ (v : List Grid). map (λ p. p.bx) v) r.2 ∙ boxes_same (λ b. patch_of h l (f, r.0) b) (λ p. p.bx) (λ b. b.bx) (own rank (level_at h.levels l)) (λ b. refl);
    same = λ f field there q x m has.
        let r = its_patches f field there in
        let o = Member-from_map (λ b. patch_of h l (f, r.0) b) q (own rank (level_at h.levels l)) (subst (λ (v : List Grid). Member q v) r.2 m) in
        ap (λ (v : Grid). value_at v x) o.2
        ∙ own_value h l (f, r.0) o.0 x (low_of f r.0 r.1) (subst (λ (v : Grid). Holds v.bx x) o.2 has);
  }

  pub has_fill_values : HasFillValues (h.values l) (own rank (level_at h.levels l)) (patches p h l rank)
  has_fill_values = record {
    patch = λ f place field q there at.
        let r = its_patches f field there in
        let o = mapped_at (λ b. patch_of h l (f, r.0) b) (own rank (level_at h.levels l)) place q (ap (λ (v : List Grid). slice_get v place) (sym r.2) ∙ at) in
        (o.0, o.1, ap (λ (v : Grid). v.bx) o.2, λ x has. ap (λ (v : Grid). value_at v x) o.2 ∙ own_value h l (f, r.0) o.0 x (low_of f r.0 r.1) has);
    full = λ f field there.
        let r = its_patches f field there in
        ap length r.2 ∙ length-map (own rank (level_at h.levels l)) (λ b. patch_of h l (f, r.0) b);
  }

pub patches_have_values : PatchesHaveValues
patches_have_values p ranks l rank h n mesh less = (has_values p ranks l rank h n, has_fill_values p ranks l rank h n)

-- coarsening, patch by patch
module _ (p : Fields) (ranks l rank : ℕ) (h : Hierarchy) (v : Values) (n : IsGround p) (mesh : IsMesh p ranks h.levels) (less : l < length h.levels) (is : v l ≡ merged_values p ranks h l) where
  cells_same : (f : ℕ) (r : Field) (b : Owned) (x : IVec) → slice_get p.fields f ≡ Some r → Holds (grown b.bx r.ghosts) x
      → (if holds b.bx x && is_under (coarsening p ranks h l) x then merged (coarsening p ranks h l) (f, (r.coarsen, r.modulus)) x else value_at (patch_of h l (f, r) b) x)
      ≡ (if holds b.bx x then v l f x else h.seen l f x)
  cells_same f r b x here about = by (holds b.bx x) refl (is_under (coarsening p ranks h l) x) refl
    where
      old : value_at (patch_of h l (f, r) b) x ≡ (if holds b.bx x then h.values l f x else h.seen l f x)
      old = patch_value h l (f, r) b x about

      new : v l f x ≡ merged_values p ranks h l f x
      new = ap (λ (u : ℕ → IVec → ℕ). u f x) is

      by : (s : Bool) → holds b.bx x ≡ s → (t : Bool) → is_under (coarsening p ranks h l) x ≡ t
          → (if s && t then merged (coarsening p ranks h l) (f, (r.coarsen, r.modulus)) x else value_at (patch_of h l (f, r) b) x)
          ≡ (if s then v l f x else h.seen l f x)
      by true e true u =
          sym (new ∙ ap (λ (t : Bool). if t then for_field (slice_get p.fields f) (λ r. merged (coarsening p ranks h l) (f, (r.coarsen, r.modulus)) x) else h.values l f x) u
          ∙ the_field p.fields f r (λ r. merged (coarsening p ranks h l) (f, (r.coarsen, r.modulus)) x) here)
      by true e false u =
          old ∙ ap (λ (s : Bool). if s then h.values l f x else h.seen l f x) e
          ∙ sym (new ∙ ap (λ (t : Bool). if t then for_field (slice_get p.fields f) (λ r. merged (coarsening p ranks h l) (f, (r.coarsen, r.modulus)) x) else h.values l f x) u)
      by false e t u = old ∙ ap (λ (s : Bool). if s then h.values l f x else h.seen l f x) e

  patch_same : (f : ℕ) (r : Field) (b : Owned) → slice_get p.fields f ≡ Some r → Member b (level_at h.levels l)
      → after_coarsening (coarsening p ranks h l) (f, (r.coarsen, r.modulus)) (patch_of h l (f, r) b) ≡ patch_of (with_values h v) l (f, r) b
  patch_same f r b here m =
      let low = (n.fields r (get_member p.fields f r here)).rules.positive in
      ap (λ (values : List ℕ). let g : Grid = record { bx = b.bx; width = r.ghosts; values = values } in g)
      (listed_same (grown b.bx r.ghosts)
      (λ x. if holds b.bx x && is_under (coarsening p ranks h l) x then merged (coarsening p ranks h l) (f, (r.coarsen, r.modulus)) x else value_at (patch_of h l (f, r) b) x)
      (λ x. (if holds b.bx x then v l f x else h.seen l f x))
      (grown_order b.bx r.ghosts low ((mesh.level l less).not_empty b m))
      (λ x about. cells_same f r b x here about))

  own_member : (b : Owned) → Member b (own rank (level_at h.levels l)) → Member b (level_at h.levels l)
  unfolding own
  own_member b m = (Member-from_filter _ b (level_at h.levels l) m).0

  field_same : (f : ℕ) (r : Field) → slice_get p.fields f ≡ Some r
      → map (λ q. after_coarsening (coarsening p ranks h l) (f, (r.coarsen, r.modulus)) q) (map (λ b. patch_of h l (f, r) b) (own rank (level_at h.levels l)))
      ≡ map (λ b. patch_of (with_values h v) l (f, r) b) (own rank (level_at h.levels l))
  field_same f r here = by (own rank (level_at h.levels l)) (λ b m. own_member b m)
    where
      by : (bs : List Owned) → ((b : Owned) → Member b bs → Member b (level_at h.levels l))
          → map (λ q. after_coarsening (coarsening p ranks h l) (f, (r.coarsen, r.modulus)) q) (map (λ b. patch_of h l (f, r) b) bs) ≡ map (λ b. patch_of (with_values h v) l (f, r) b) bs
      by [] of = refl
      by (b ∷ bs) of =
          ap (λ (q : Grid). q ∷ map (λ q. after_coarsening (coarsening p ranks h l) (f, (r.coarsen, r.modulus)) q) (map (λ b. patch_of h l (f, r) b) bs)) (patch_same f r b here (of b (inl refl)))
          ∙ ap (λ (qs : List Grid). patch_of (with_values h v) l (f, r) b ∷ qs) (by bs (λ c m. of c (inr m)))

  all_same : (k : ℕ) (rest : List Field) → ((i : ℕ) (r : Field) → slice_get rest i ≡ Some r → slice_get p.fields (k + i) ≡ Some r)
      → map (λ e. map (λ q. after_coarsening (coarsening p ranks h l) e.0 q) e.1)
      (zip (enumerate_from k (zip (map (λ f. f.coarsen) rest) (map (λ f. f.modulus) rest))) (map (λ f. map (λ b. patch_of h l f b) (own rank (level_at h.levels l))) (enumerate_from k rest)))
      ≡ map (λ f. map (λ b. patch_of (with_values h v) l f b) (own rank (level_at h.levels l))) (enumerate_from k rest)
  all_same k [] at = refl
  all_same k (r ∷ rest) at =
      let here : slice_get p.fields k ≡ Some r = subst (λ (m : ℕ). slice_get p.fields m ≡ Some r) (no_more k) (at 0 r refl) in
      ap (λ (y : List Grid). y ∷ map (λ e. map (λ q. after_coarsening (coarsening p ranks h l) e.0 q) e.1)
      (zip (enumerate_from (k + 1) (zip (map (λ f. f.coarsen) rest) (map (λ f. f.modulus) rest))) (map (λ f. map (λ b. patch_of h l f b) (own rank (level_at h.levels l))) (enumerate_from (k + 1) rest)))) (field_same k r here)
      ∙ ap (λ (ys : List (List Grid)). map (λ b. patch_of (with_values h v) l (k, r) b) (own rank (level_at h.levels l)) ∷ ys)
      (all_same (k + 1) rest (λ i s e. subst (λ (m : ℕ). slice_get p.fields m ≡ Some s) (sym (one_more k i)) (at (suc i) s e)))

  coarse_same : coarsened_patches (coarsening p ranks h l) rank ≡ patches p (with_values h v) l rank
  unfolding coarsened_patches patches
  coarse_same = all_same 0 p.fields (λ i r e. let same : i ≡ 0 + i = omega arith in subst (λ (m : ℕ). slice_get p.fields m ≡ Some r) same e)

pub coarse_patches : CoarsePatches
coarse_patches p ranks l rank h v n mesh less is = coarse_same p ranks l rank h v n mesh less is

-- patches of a level, by its values alone
values_alone : (p : Fields) (h : Hierarchy) (v u : Values) (l rank : ℕ) → v l ≡ u l → patches p (with_values h v) l rank ≡ patches p (with_values h u) l rank
unfolding patches
values_alone p h v u l rank e =
    ap (λ (w : ℕ → IVec → ℕ). map (λ f. map (λ b. grid_of b.bx f.1.ghosts (λ x. (if holds b.bx x then w f.0 x else h.seen l f.0 x))) (own rank (level_at h.levels l))) (enumerate_from 0 p.fields)) e

pub coarsen_rounds : CoarsenRounds
coarsen_rounds p ranks rank n h ground mesh =
    let l = length h.levels - 2 - n in
    let some = mesh.some in
    coarse_patches p ranks l rank (coarsened p ranks h n) (coarsened_values p ranks h (suc n)) ground mesh (omega (arith, some))
    (ap (λ (t : Bool). if t then merged_values p ranks (coarsened p ranks h n) l else coarsened_values p ranks h n l) (eq-eqb l l refl))

pub others_keep_their_patches : OthersKeepTheirPatches
others_keep_their_patches p ranks rank n l h e =
    values_alone p h (coarsened_values p ranks h (suc n)) (coarsened_values p ranks h n) l rank
    (ap (λ (t : Bool). if t then merged_values p ranks (coarsened p ranks h n) l else coarsened_values p ranks h n l) e)

pub level_0_keeps_its_patches : Level0KeepsItsPatches
unfolding patches
level_0_keeps_its_patches p ranks rank h news remade =
    ap (λ (o : List Owned). map (λ f. map (λ b. grid_of b.bx f.1.ghosts (λ x. (if holds b.bx x then h.values 0 f.0 x else h.seen 0 f.0 x))) (own rank o)) (enumerate_from 0 p.fields)) remade.same
