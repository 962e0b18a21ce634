-- Fills, the values of new levels and coarsening rest on levels that nest.
use Rattle.std.proofs.Common.{◌≡◌, ℕ, zero, suc, ◌<◌, refl, sym, ap, ◌∙◌, subst, arith, length, Some, slice_get}
use Rattle.std.proofs.lemmas.Bool.{eqb-true}
use Rattle.std.proofs.lemmas.Bool.Decides.{nat_tests}
use Rattle.std.proofs.lemmas.Int.{ints}
use Rattle.std.proofs.lemmas.List.{length-map}
use Rattle.std.specs.Prelude.{Bool, true, false, ◌==◌, ◌^◌, nat_lt, if◌then◌else◌, pos, List, [], ◌∷◌, map}
use Rattle.std.specs.List.{All}
use Rattle.samr_box.specs.declared.vector.IVec.{IVec}
use Rattle.samr_box.specs.Vector.{alike, plus, minus, AtMost, Within}
use Rattle.samr_box.specs.Corners.{Corners, IsBox, grown, cells_of}
use Rattle.samr_box.specs.Ratios.{coarse}
use Rattle.samr_box.proofs.Members.{All-from_members, Member-from_map}
use Rattle.samr_box.proofs.Vectors.{same_cell}
use Rattle.samr_border.proofs.TurnLaws.{wrapped_stays}
use Rattle.samr_level.specs.Refs.{Owned}
use Rattle.samr_level.specs.Regions.{Area, IsCellOf}
use Rattle.samr_level.specs.Levels.{IsLevel, IsCellIn}
use Rattle.samr_nest.proofs.StayLaws.{cell_of_frame}
use Rattle.samr_ops.specs.declared.rules.Rules.{Rules}
use Rattle.samr_ops.specs.Rules.{IsRules}
use Rattle.samr_fill.proofs.Numbered.{some_same, none_some}
use Rattle.samr_values.specs.Values.{IsRenewing}
use Rattle.samr_problem.specs.declared.field.Field.{Field}
use Rattle.samr_problem.specs.Fields.{Fields}
use Rattle.samr_mesh.specs.Domains.{area_of, step_of, ratio_to, area_at}
use Rattle.samr_mesh.specs.Meshes.{level_at}
use Rattle.samr_mesh.specs.Soundness.{IsMesh}
use Rattle.samr_hierarchy.specs.Scales.{step_below, rules_of, all_rules, number_of}
use Rattle.samr_hierarchy.specs.Grounds.{IsGround}
use Rattle.samr_hierarchy.specs.Hierarchies.{Hierarchy, level_below, values_below, renewing}
use Rattle.samr_hierarchy.specs.Laws.{Fits, FillsHold, RenewalsHold, CoarseningsHold}
use Rattle.samr_hierarchy.proofs.Scaling.{area_twice, under_cell}
use Rattle.samr_hierarchy.proofs.Schedules.{schedules_hold, any_level, area_is, lo_of, hi_of}

-- what is made of the item at a place
pub mapped_at : {X Y : Type 0} (of : X → Y) (xs : List X) (place : ℕ) (y : Y) → slice_get (map of xs) place ≡ Some y → (x : X) × (slice_get xs place ≡ Some x) × (y ≡ of x)
mapped_at of [] place y e = absurd (none_some e)
mapped_at of (x ∷ xs) zero y e = (x, refl, sym (some_same e))
mapped_at of (x ∷ xs) (suc place) y e = mapped_at of xs place y e

pub at_mapped : {X Y : Type 0} (of : X → Y) (xs : List X) (place : ℕ) (x : X) → slice_get xs place ≡ Some x → slice_get (map of xs) place ≡ Some (of x)
at_mapped of [] place x e = absurd (none_some e)
at_mapped of (y ∷ ys) zero x e = ap (λ v. Some (of v)) (some_same e)
at_mapped of (y ∷ ys) (suc place) x e = at_mapped of ys place x e

-- a domain of parts has a fixed value for each field, a whole frame has none
have_fixed : (k : ℕ) (fields : List Field) → 0 < length fields
    → nat_lt 0 k ≡ nat_lt 0 (length (if k == 0 then [] else map (λ f. number_of f.boundary.i) fields))
have_fixed k fields some = by (k == 0) refl
  where
    by : (t : Bool) → (k == 0) ≡ t → nat_lt 0 k ≡ nat_lt 0 (length (if t then [] else map (λ f. number_of f.boundary.i) fields))
    by true e = ap (nat_lt 0) (eqb-true k 0 e)
    by false e =
        let count = length-map fields (λ (f : Field). number_of f.boundary.i) in
        let left : nat_lt 0 k ≡ true = grind (arith, nat_tests, e) in
        let right : nat_lt 0 (length (map (λ f. number_of f.boundary.i) fields)) ≡ true = grind (arith, nat_tests, count, some) in
        left ∙ sym right

all_have_fixed : (k : ℕ) (fields : List Field) → 0 < k → length (if k == 0 then [] else map (λ f. number_of f.boundary.i) fields) ≡ length (map rules_of fields)
all_have_fixed k fields some = by (k == 0) refl
  where
    by : (t : Bool) → (k == 0) ≡ t → length (if t then [] else map (λ f. number_of f.boundary.i) fields) ≡ length (map rules_of fields)
    by true e = let none = eqb-true k 0 e in absurd (omega (arith, none, some))
    by false e = length-map fields (λ (f : Field). number_of f.boundary.i) ∙ sym (length-map fields rules_of)

pub all_are_rules : (p : Fields) → IsGround p → All IsRules (all_rules p)
all_are_rules p n =
    All-from_members IsRules (all_rules p)
    (λ r m. let f = Member-from_map rules_of r p.fields m in subst (λ (v : Rules). IsRules v) (sym f.2) (n.fields f.0 f.1).rules)

-- values below the moduli of the fields are below those of their rules
pub fits_rules : (p : Fields) (level : List Owned) (values : ℕ → IVec → ℕ)
    → ((f : ℕ) (r : Field) (x : IVec) → slice_get p.fields f ≡ Some r → IsCellIn level x → values f x < r.modulus)
    → (f : ℕ) (r : Rules) (x : IVec) → slice_get (all_rules p) f ≡ Some r → IsCellIn level x → values f x < r.modulus
fits_rules p level values fits f r x here cell =
    let q = mapped_at rules_of p.fields f r here in
    subst (λ (v : Rules). values f x < v.modulus) (sym q.2) (fits f q.0 x q.1 cell)

four_below : (p : Fields) (l : ℕ) → IsGround p → AtMost (step_below p l) (alike (pos 4))
four_below p zero n = record { k = omega (arith, ints); j = omega (arith, ints); i = omega (arith, ints) }
four_below p (suc l) n = n.four l

fits_below : (p : Fields) (l : ℕ) (h : Hierarchy) → Fits p h → (f : ℕ) (r : Field) (x : IVec) → slice_get p.fields f ≡ Some r
    → IsCellIn (level_below h.levels l) x → values_below h.values l f x < r.modulus
fits_below p zero h fits f r x here cell = absurd cell.1
fits_below p (suc l) h fits f r x here cell = fits l f r x here cell

pub fills_hold : FillsHold
fills_hold p ranks l h n mesh fits less =
    let s = schedules_hold p ranks l h.levels n mesh less in
    let count = length-map p.fields rules_of in
    let few = n.few in
    record {
      schedule = s.0;
      sourced = s.1;
      rules = all_are_rules p n;
      few = omega (arith, count, few);
      widths = refl;
      fixed = have_fixed (length p.parts) p.fields n.some;
      all_fixed = all_have_fixed (length p.parts) p.fields;
      step = four_below p l n;
      fits = fits_rules p (level_at h.levels l) (h.values l) (λ f r x here cell. fits l f r x here cell);
      coarse_fits = fits_rules p (level_below h.levels l) (values_below h.values l) (fits_below p l h fits);
    }

-- the values of a level that is made over another
module _ (p : Fields) (ranks : ℕ) (news : List (List Owned)) (n : IsGround p) (mesh : IsMesh p ranks news) (l : ℕ) (less : suc l < length news) where
  below_most : suc l < p.levels
  below_most = let few = mesh.few in omega (arith, less, few)

  before_most : l < p.levels
  before_most = let m = below_most in omega (arith, m)

  pub renewal_is : (olds coarser : List Owned) (values coarse_values : ℕ → IVec → ℕ) → IsLevel (area_at p (suc l)) ranks olds → IsLevel (area_at p l) ranks coarser
      → ((x : IVec) → IsCellIn (level_at news (suc l)) x → IsCellIn coarser (coarse x (step_of p l)))
      → ((f : ℕ) (r : Field) (x : IVec) → slice_get p.fields f ≡ Some r → IsCellIn coarser x → coarse_values f x < r.modulus)
      → IsRenewing (renewing p ranks l (level_at news (suc l)) olds coarser values coarse_values)
  renewal_is olds coarser values coarse_values is_old is_coarser over fits = record {
    area = area_at p (suc l);
    coarse_area = area_at p l;
    news = mesh.level (suc l) less;
    olds = is_old;
    coarser = is_coarser;
    ratio = n.ratio (suc l) below_most;
    below = n.ratio l before_most;
    step = n.step l;
    product = refl;
    four = n.four l;
    width = n.width;
    reach = n.width;
    over = over;
    rules = all_are_rules p n;
    room = λ b r m k.
        let f = Member-from_map rules_of r p.fields k in
        let field = n.fields f.0 f.1 in
        subst (λ (v : Rules). IsBox (grown b.bx v.width) × (cells_of (grown b.bx v.width) < 2 ^ 62)) (sym f.2)
        (n.room (suc l) b.bx f.0.ghosts below_most field.rules.positive field.narrow ((mesh.level (suc l) less).not_empty b m)
        (lo_of p ranks news n mesh (suc l) b less m) (hi_of p ranks news n mesh (suc l) b less m));
    coarse_fits = fits_rules p coarser coarse_values fits;
  }

  -- a cell of a level lies over the level below, in which it nests
  pub over_below : (x : IVec) → IsCellIn (level_at news (suc l)) x → IsCellIn (level_at news l) (coarse x (step_of p l))
  over_below x (b, m, has) =
      let before : l < length news = omega (arith, less) in
      let c = coarse x (step_of p l) in
      let cell = under_cell (area_at p l) (step_of p l) x (n.step l)
      (subst (λ (a : Area). IsCellOf a x) (area_twice (area_of p) (ratio_to p l) (step_of p l)) ((mesh.level (suc l) less).inside b x m has)) in
      let stays = wrapped_stays (area_at p l).frame c (n.space l before_most) (cell_of_frame (area_at p l) c (area_is p ranks news n mesh l before) cell) in
      let low = n.nest in
      let here : Within p.nest c c = record {
        low = record { k = omega (arith, ints, low.k); j = omega (arith, ints, low.j); i = omega (arith, ints, low.i) };
        high = record { k = omega (arith, ints, low.k); j = omega (arith, ints, low.j); i = omega (arith, ints, low.i) };
      } in
      subst (λ (y : IVec). IsCellIn (level_at news l) y) stays
      (mesh.nested l less x c (b, m, has) here (subst (λ (y : IVec). IsCellOf (area_at p l) y) (sym stays) cell))

pub renewals_hold : RenewalsHold
renewals_hold p ranks l h news n old_mesh mesh remade fits less =
    renewal_is p ranks news n mesh l less (level_at h.levels (suc l)) (level_at h.levels l) (h.values (suc l)) (h.values l)
    (any_level p ranks h.levels n old_mesh (suc l)) (any_level p ranks h.levels n old_mesh l) (λ x c. remade.over l x less c) (λ f r x here cell. fits l f r x here cell)

-- a box grown by nothing
same_grown : (b : Corners) → grown b (alike (pos 0)) ≡ b
same_grown b =
    let lo : minus b.lo (alike (pos 0)) ≡ b.lo = same_cell (omega (arith, ints)) (omega (arith, ints)) (omega (arith, ints)) in
    let hi : plus b.hi (alike (pos 0)) ≡ b.hi = same_cell (omega (arith, ints)) (omega (arith, ints)) (omega (arith, ints)) in
    ap (λ (v : IVec). let c : Corners = record { lo = v; hi = plus b.hi (alike (pos 0)) } in c) lo
    ∙ ap (λ (v : IVec). let c : Corners = record { lo = b.lo; hi = v } in c) hi

none_some_zero : AtMost (alike (pos 0)) (alike (pos 0))
none_some_zero = record { k = omega (arith, ints); j = omega (arith, ints); i = omega (arith, ints) }

zero_narrow : AtMost (alike (pos 0)) (alike (pos 8))
zero_narrow = record { k = omega (arith, ints); j = omega (arith, ints); i = omega (arith, ints) }

pub coarsenings_hold : CoarseningsHold
coarsenings_hold p ranks l h n mesh less =
    let few = mesh.few in
    let before : l < length h.levels = omega (arith, less) in
    let most : l < p.levels = omega (arith, less, few) in
    record {
      area = area_at p (suc l);
      coarse_area = area_at p l;
      fine = mesh.level (suc l) less;
      coarser = mesh.level l before;
      ratio = n.ratio l most;
      step = n.step l;
      width = n.width;
      refinements = mesh.refinements l less;
      room = λ b m.
          subst (λ (c : Corners). cells_of c < 2 ^ 62) (same_grown b.bx)
          (n.room l b.bx (alike (pos 0)) most none_some_zero zero_narrow ((mesh.level l before).not_empty b m)
          (lo_of p ranks h.levels n mesh l b before m) (hi_of p ranks h.levels n mesh l b before m)).1;
      same_length = length-map p.fields (λ (f : Field). f.coarsen) ∙ sym (length-map p.fields (λ (f : Field). f.modulus));
      some = All-from_members (λ (m : ℕ). 0 < m) (map (λ f. f.modulus) p.fields)
          (λ m k.
          let f = Member-from_map (λ (f : Field). f.modulus) m p.fields k in
          let some = (n.fields f.0 f.1).rules.some in
          let same = f.2 in
          omega (arith, some, same));
    }
