-- The levels about the level of a pass with which a regrid begins.
use Rattle.std.proofs.Common.{◌≡◌, ℕ, zero, suc, ◌+◌, ◌-◌, ◌<◌, ◌≤◌, Bool, true, false, List, [], ◌∷◌, length, take, drop, reverse, nat_lt, Option, Some, None, is_some, option_map, refl, sym, ap, subst, ◌∙◌, inl, inr, arith, if◌then◌else◌}
use Rattle.std.specs.Prelude.{◌&&◌, slice_get}
use Rattle.std.proofs.lemmas.Bool.{lt-ltb, ltb-false, ltb-true, and_parts}
use Rattle.std.proofs.lemmas.List.{get_or_past}
use Rattle.std.proofs.lemmas.Option.{slice_get_past, slice_get-get_or}
use Rattle.std.proofs.lemmas.List.FromFn.{length-map-range_with_len, get_or-map-range_with_len}
use Rattle.samr_box.specs.Lists.{Member}
use Rattle.samr_level.specs.Levels.{IsLevel}
use Rattle.samr_level.specs.Refs.{Owned}
use Rattle.samr_problem.specs.Fields.{Fields}
use Rattle.samr_problem.specs.Problems.{IsProblem}
use Rattle.samr_hierarchy.specs.Hierarchies.{Hierarchy}
use Rattle.samr_mesh.specs.Domains.{level0_of, area_at}
use Rattle.samr_mesh.specs.Grounds.{CanPass}
use Rattle.samr_mesh.specs.Meshes.{level_at, lowest, renewed_over, is_due, mesh}
use Rattle.samr_mesh.specs.PassLists.{passes_over, passes_of, if_boxes, passes_up}
use Rattle.samr_mesh.specs.Passes.{Pass, new_level}
use Rattle.samr_mesh.specs.Soundness.{IsMesh, IsOver}
use Rattle.samr_mesh.proofs.Grounding.{can_pass}
use Rattle.samr_mesh.proofs.MeshForms.{fresh_mesh, any_level, no_level}
use Rattle.samr_mesh.proofs.Meshing.{renewed_are, taken_over, length-taken, base_level, fresh_is_stacked}
use Rattle.samr_mesh.proofs.Stacks.{AreOver, IsStacked}
use Rattle.samr_msg.specs.Runs.{Setting}
use Rattle.samr_msg.specs.Places.{AtStep, AtPass, mesh_of, mesh_before, old_above, old_below, passes_at_step}
use Rattle.samr_msg.specs.PassStops.{is_some_level}
use Rattle.samr_regrid.specs.declared.level.Above.{Above}
use Rattle.samr_regrid.specs.declared.level.Level.{Level}
use Rattle.samr_regrid.specs.Ranks.{pair_at, down_pair, level_part, level_parts}
use Rattle.samr_regrid.specs.Standing.{IsPassOf, standing, above_part, above_before}
use Rattle.samr_regrid.specs.Above.{two_above}
use Rattle.samr_regrid.proofs.PassesAbove.{is_two_above, next_is_one, of_reversed, levels_after, level_of_taken, least}

counted : (b : Owned) (xs : List Owned) → Member b xs → 0 < length xs
counted b [] m = absurd m
counted b (x ∷ xs) m = omega arith

-- the levels of a mesh above level 0 have boxes
has_level : (p : Fields) (ranks : ℕ) (levels : List (List Owned)) (k : ℕ) → IsMesh p ranks levels → nat_lt (suc k) (length levels) ≡ is_some_level (level_at levels (suc k))
has_level p ranks levels k is = by (nat_lt (suc k) (length levels)) refl
  where
    by : (u : Bool) → nat_lt (suc k) (length levels) ≡ u → u ≡ is_some_level (level_at levels (suc k))
    by true e =
        let (b, m) = is.boxes k (ltb-true (suc k) (length levels) e) in
        sym (lt-ltb 0 (length (level_at levels (suc k))) (counted b (level_at levels (suc k)) m))
    by false e = ap is_some_level (sym (get_or_past levels (suc k) [] (ltb-false (suc k) (length levels) e)))

if_some : {X : Type 0} (u : Bool) (x : X) → is_some (if u then Some x else None) ≡ u
if_some true x = refl
if_some false x = refl

chosen : {X : Type 0} (u : Bool) (x y : X) → (if u then Some x else None) ≡ Some y → y ≡ x
chosen true x y e = cc
chosen false x y e = cc

some_mapped : {X Y : Type 0} (f : X → Y) (o : Option X) → is_some o ≡ is_some (option_map f o)
some_mapped f None = refl
some_mapped f (Some x) = refl

some_ranks : (w : AtPass) → IsPassOf w → 0 < w.at.setting.ranks
some_ranks w h = subst (λ n. 0 < n) h.same_ranks h.can.some

-- at step 0 a pass has the number of its level
up_number : (p : Fields) (ranks n l k : ℕ) (level : List Owned) (w : Pass) (later : List Pass) → w ∷ later ≡ drop k (passes_up p ranks n l level) → w.number ≡ l + k
unfolding passes_up
up_number p ranks zero l zero level w later e = absurd (next_is_one w later [] 0 e)
up_number p ranks zero l (suc k) level w later e = absurd (next_is_one w later [] (suc k) e)
up_number p ranks (suc n) l zero level w later e =
    let v : Pass = record { ranks = ranks; step = 0; number = l; level = level; above = [] } in
    let same = first_same w v later (if_boxes (new_level p v) (passes_up p ranks n (suc l) (new_level p v))) e in
    let at : w.number ≡ l = ap (λ (u : Pass). u.number) same in
    omega (arith, at)
  where
    first_same : (w v : Pass) (xs ys : List Pass) → w ∷ xs ≡ v ∷ ys → w ≡ v
    first_same w v xs ys e = cc
up_number p ranks (suc n) l (suc k) level w later e =
    let v : Pass = record { ranks = ranks; step = 0; number = l; level = level; above = [] } in
    let at = by (new_level p v) (passes_up p ranks n (suc l) (new_level p v)) (λ h. up_number p ranks n (suc l) k (new_level p v) w later h) e in
    omega (arith, at)
  where
    by : (new : List Owned) (rest : List Pass) → (w ∷ later ≡ drop k rest → w.number ≡ suc l + k) → w ∷ later ≡ drop k (if_boxes new rest) → w.number ≡ suc l + k
    by [] rest go h = absurd (next_is_one w later [] k h)
    by (b ∷ bs) rest go h = go h

-- the old level above the level of a pass
pub record HasOld (w : AtPass) : Type 0 where
  pub above : level_at (standing w.at w.number).levels (suc w.pass.number) ≡ old_above w
  pub has : nat_lt (suc w.pass.number) (length (standing w.at w.number).levels) ≡ is_some_level (old_above w)
  pub level : IsLevel (area_at w.at.setting.problem (suc w.pass.number)) w.at.setting.ranks (old_above w)

old_by : (s : Setting) (step number : ℕ) (w : Pass) (later : List Pass) → IsProblem s.problem → 0 < s.ranks → w ∷ later ≡ drop number (passes_at_step s step)
    → HasOld (record { at = record { setting = s; step = step }; number = number; pass = w; later = later })
old_by s zero number w later is some next =
    let levels = mesh s.problem s.ranks 0 in
    let here = up_number s.problem s.ranks (s.problem.levels - 1) 0 number (level0_of s.problem s.ranks) w later next in
    let most = length-taken (number + 1) levels in
    let past : length (take (number + 1) levels) ≤ suc w.number = omega (arith, here, most) in
    record {
      above = get_or_past (take (number + 1) levels) (suc w.number) [] past;
      has = none (suc w.number) (length (take (number + 1) levels)) past;
      level = no_level (area_at s.problem (suc w.number)) s.ranks;
    }
  where
    none : (a b : ℕ) → b ≤ a → nat_lt a b ≡ false
    none a b past = by (nat_lt a b) refl
      where
        by : (u : Bool) → nat_lt a b ≡ u → u ≡ false
        by true e = let less = ltb-true a b e in absurd (omega (arith, less, past))
        by false e = refl
old_by s (suc t) number w later is some next =
    let meshes : ℕ → List (List Owned) = λ u. mesh s.problem s.ranks u in
    let olds = mesh s.problem s.ranks (suc t - 1) in
    let same = levels_after s.problem s.ranks (suc t - 1) meshes in
    let one : w.number + 1 ≡ suc w.number = omega arith in
    let mesh_is = fresh_mesh s.problem s.ranks (suc t - 1) is some in
    record {
      above = ap (λ (levels : List (List Owned)). level_at levels (suc w.number)) same ∙ ap (level_at olds) (sym one);
      has = ap (λ (levels : List (List Owned)). nat_lt (suc w.number) (length levels)) same ∙ has_level s.problem s.ranks olds w.number mesh_is ∙ ap (λ n. is_some_level (level_at olds n)) (sym one);
      level = subst (λ n. IsLevel (area_at s.problem (suc w.number)) s.ranks (level_at olds n)) (sym one) (any_level s.problem s.ranks (suc w.number) olds mesh_is);
    }

pub has_old : (w : AtPass) → IsProblem w.at.setting.problem → IsPassOf w → HasOld w
has_old w is h = old_by w.at.setting w.at.step w.number w.pass w.later is (some_ranks w h) h.next

pub old_level : (w : AtPass) → IsProblem w.at.setting.problem → IsPassOf w → IsLevel (area_at w.at.setting.problem (suc w.pass.number)) w.pass.ranks (old_above w)
old_level w is h = subst (λ n. IsLevel (area_at w.at.setting.problem (suc w.pass.number)) n (old_above w)) (sym h.same_ranks) (has_old w is h).level

-- a rank's parts of levels, one by one
levels_of_parts : (p : Fields) (h : Hierarchy) (rank : ℕ) → length (level_parts p h rank) ≡ length h.levels
unfolding level_parts
levels_of_parts p h rank = length-map-range_with_len (level_part p h rank) 0 (length h.levels)

part_at : (p : Fields) (h : Hierarchy) (rank l : ℕ) → l < length h.levels → slice_get (level_parts p h rank) l ≡ Some (level_part p h rank l)
unfolding level_parts
part_at p h rank l below =
    let many = levels_of_parts p h rank in
    slice_get-get_or (level_parts p h rank) l (level_part p h rank l) (omega (arith, below, many))
    ∙ ap (λ (x : Level). Some x) (get_or-map-range_with_len (level_part p h rank) 0 (length h.levels) l l (level_part p h rank l) below (omega arith))

-- a rank has the old level above where there is one
part_is_some : (p : Fields) (h : Hierarchy) (r k : ℕ) → is_some (slice_get (level_parts p h r) k) ≡ nat_lt k (length h.levels)
part_is_some p h r k = by (nat_lt k (length h.levels)) refl
  where
    by : (u : Bool) → nat_lt k (length h.levels) ≡ u → is_some (slice_get (level_parts p h r) k) ≡ u
    by true e = ap is_some (part_at p h r k (ltb-true k (length h.levels) e))
    by false e =
        let many = levels_of_parts p h r in
        let past = ltb-false k (length h.levels) e in
        ap is_some (slice_get_past (level_parts p h r) k (omega (arith, many, past)))

module _ (w : AtPass) (r : ℕ) (problem : IsProblem w.at.setting.problem) (is : IsPassOf w) where
  pub is_old_some : {X : Type 0} (f : X → Level) (o : Option X) → option_map f o ≡ slice_get (level_parts w.at.setting.problem (standing w.at w.number) r) (suc w.pass.number) → is_some o ≡ is_some_level (old_above w)
  is_old_some f o same =
      some_mapped f o ∙ ap is_some same ∙ part_is_some w.at.setting.problem (standing w.at w.number) r (suc w.pass.number) ∙ (has_old w problem is).has

  -- its overlaps with the level
  pub old_down : (x : Level) → Some x ≡ slice_get (level_parts w.at.setting.problem (standing w.at w.number) r) (suc w.pass.number) → is_some_level (old_above w) ≡ true
      → x.down ≡ Some (pair_at w.at.setting.problem (old_above w) (suc w.pass.number) w.pass.level w.pass.number r)
  old_down x there some =
      let p = w.at.setting.problem in
      let h = standing w.at w.number in
      let l = w.pass.number in
      let old = has_old w problem is in
      let less = ltb-true (suc l) (length h.levels) (old.has ∙ some) in
      let same : x ≡ level_part p h r (suc l) = some_same (there ∙ part_at p h r (suc l) less) in
      ap (λ (v : Level). v.down) same
      ∙ ap (λ (v : List Owned). Some (pair_at p v (suc l) (level_at h.levels l) l r)) old.above
      ∙ ap (λ (v : List Owned). Some (pair_at p (old_above w) (suc l) v l r)) is.same_level
    where
      some_same : {x y : Level} → Some x ≡ Some y → x ≡ y
      some_same e = cc

-- the level below
down_at : (p : Fields) (levels : List (List Owned)) (l r : ℕ) → 0 < l → down_pair p levels l r ≡ Some (pair_at p (level_at levels l) l (level_at levels (l - 1)) (l - 1) r)
down_at p levels zero r some = absurd (omega (arith, some))
down_at p levels (suc l) r some =
    let back : l ≡ suc l - 1 = omega arith in
    ap (λ n. Some (pair_at p (level_at levels (suc l)) (suc l) (level_at levels n) n r)) back

before : (s : Setting) (step number : ℕ) → 0 < step → (standing (record { setting = s; step = step }) number).levels ≡ mesh s.problem s.ranks (step - 1)
before s zero number some = absurd (omega (arith, some))
before s (suc t) number some = levels_after s.problem s.ranks (suc t - 1) (λ u. mesh s.problem s.ranks u)

module _ (w : AtPass) (r : ℕ) (problem : IsProblem w.at.setting.problem) (is : IsPassOf w) (visits : (nat_lt 0 w.pass.number && nat_lt 0 w.at.step) ≡ true) where
  some_level : 0 < w.pass.number
  some_level = ltb-true 0 w.pass.number (and_parts (nat_lt 0 w.pass.number) (nat_lt 0 w.at.step) visits).0

  some_step : 0 < w.at.step
  some_step = ltb-true 0 w.at.step (and_parts (nat_lt 0 w.pass.number) (nat_lt 0 w.at.step) visits).1

  pub next_number : suc (w.pass.number - 1) ≡ w.pass.number
  next_number = let some = some_level in omega (arith, some)

  pub below_level : IsLevel (area_at w.at.setting.problem (w.pass.number - 1)) w.pass.ranks (old_below w)
  below_level =
      let s = w.at.setting in
      let ranks = some_ranks w is in
      subst (λ n. IsLevel (area_at s.problem (w.pass.number - 1)) n (old_below w)) (sym is.same_ranks)
      (any_level s.problem s.ranks (w.pass.number - 1) (mesh_before w.at) (fresh_mesh s.problem s.ranks (w.at.step - 1) problem ranks))

  pub below_can : CanPass w.at.setting.problem (w.pass.number - 1)
  below_can = let few = is.few in let some = some_level in can_pass w.at.setting.problem problem (w.pass.number - 1) (omega (arith, few, some))

  pub below_down : (x : Level) → x ≡ level_part w.at.setting.problem (standing w.at w.number) r w.pass.number
      → x.down ≡ Some (pair_at w.at.setting.problem w.pass.level w.pass.number (old_below w) (w.pass.number - 1) r)
  below_down x same =
      let p = w.at.setting.problem in
      let l = w.pass.number in
      let levels = (standing w.at w.number).levels in
      ap (λ (v : Level). v.down) same ∙ down_at p levels l r some_level
      ∙ ap (λ (v : List Owned). Some (pair_at p v l (level_at levels (l - 1)) (l - 1) r)) is.same_level
      ∙ ap (λ (v : List (List Owned)). Some (pair_at p w.pass.level l (level_at v (l - 1)) (l - 1) r)) (before w.at.setting w.at.step w.number some_step)

-- the new level two above lies over the old level above
some_over : (p : Fields) (ranks l : ℕ) (next : List Owned) (above : List (List Owned)) → AreOver p ranks l next above → is_some_level (lowest above) ≡ true → IsOver p ranks l next (lowest above)
some_over p ranks l next [] all some = absurd (differ some)
  where
    differ : is_some_level [] ≡ true → ⊥
    differ e = cc
some_over p ranks l next (top ∷ more) all some = all.0

pub record IsOverOld (p : Fields) (ranks k : ℕ) (w : Pass) (levels : List (List Owned)) : Type 0 where
  pub within : suc k < length levels
  pub over : IsOver p ranks (suc w.number) (level_at levels (suc k)) w.above

none_there : (w v : Pass) → w ≡ v → v.above ≡ [] → is_some_level w.above ≡ true → ⊥
none_there w v same none some = differ (ap is_some_level (sym none) ∙ ap (λ (u : Pass). is_some_level u.above) (sym same) ∙ some)
  where
    differ : is_some_level [] ≡ true → ⊥
    differ e = cc

over_old : (p : Fields) (ranks step : ℕ) (finer : List (List Owned)) (l : ℕ) (level : List Owned) (w : Pass) (k : ℕ) → IsProblem p → 0 < ranks
    → suc (suc (l + length finer)) ≤ p.levels → IsLevel (area_at p l) ranks level → AreOver p ranks l level finer
    → w.number ≡ l + k → is_some_level w.above ≡ true → Member w (passes_over p ranks step l (level ∷ finer)) → IsOverOld p ranks k w (level ∷ finer)
unfolding passes_over renewed_over
over_old p ranks step [] l level w k is some room h all at top (inl e) = absurd (none_there w _ e refl top)
over_old p ranks step [] l level w k is some room h all at top (inr m) = absurd m
over_old p ranks step (next ∷ rest) l level w k is some room h all at top (inl e) =
    let above = renewed_over p ranks step (suc l) (next ∷ rest) in
    let later = renewed_are p ranks step rest (suc l) next is some (omega (arith, room)) all.0.is_level all.1 in
    let number : w.number ≡ l = ap (λ (u : Pass). u.number) e in
    let low : w.above ≡ lowest above = ap (λ (u : Pass). u.above) e in
    let first : 0 ≡ k = omega (arith, at, number) in
    let over = some_over p ranks (suc l) next above later (ap is_some_level (sym low) ∙ top) in
    record {
      within = omega (arith, first);
      over = subst (λ n. IsOver p ranks (suc w.number) (level_at (level ∷ next ∷ rest) (suc n)) w.above) first
          (subst (λ n. IsOver p ranks (suc n) next w.above) (sym number) (subst (λ (v : List Owned). IsOver p ranks (suc l) next v) (sym low) over));
    }
over_old p ranks step (next ∷ rest) l level w zero is some room h all at top (inr m) =
    let less = least p ranks step (suc l) (next ∷ rest) w m in absurd (omega (arith, less, at))
over_old p ranks step (next ∷ rest) l level w (suc j) is some room h all at top (inr m) =
    let o = over_old p ranks step rest (suc l) next w j is some (omega (arith, room)) all.0.is_level all.1 (omega (arith, at)) top m in
    let less = o.within in
    record { within = omega (arith, less); over = o.over }

none_of : (p : Fields) (ranks step : ℕ) (w : Pass) → Member w (passes_over p ranks step 0 []) → ⊥
unfolding passes_over
none_of p ranks step w m = absurd m

taken_old : (p : Fields) (ranks step n : ℕ) (base : List Owned) (finer : List (List Owned)) (w : Pass) → IsProblem p → 0 < ranks → suc n ≤ p.levels
    → IsLevel (area_at p 0) ranks base → AreOver p ranks 0 base finer → is_some_level w.above ≡ true → Member w (passes_over p ranks step 0 (take n (base ∷ finer)))
    → IsOverOld p ranks w.number w (take n (base ∷ finer))
taken_old p ranks step zero base finer w is some room h all top m = absurd (none_of p ranks step w m)
taken_old p ranks step (suc n) base finer w is some room h all top m =
    let few = length-taken n finer in
    over_old p ranks step (take n finer) 0 base w w.number is some (omega (arith, few, room)) h (taken_over p ranks n 0 base finer all) (omega arith) top m

regrid_old : (p : Fields) (ranks step : ℕ) (levels : List (List Owned)) (w : Pass) → IsProblem p → 0 < ranks → IsStacked p ranks levels
    → is_some_level w.above ≡ true → Member w (passes_of p ranks step levels) → IsOver p ranks (suc w.number) (level_at levels (suc w.number)) w.above × (suc w.number < length levels)
regrid_old p ranks step [] w is some h top m = absurd h
regrid_old p ranks step (base ∷ finer) w is some h top m =
    let one = is.levels.above in
    let o = taken_old p ranks step (p.levels - 1) base finer w is some (omega (arith, one)) (base_level p ranks base is some h.0) h.1 top m in
    let less = o.within in
    let short = taken_short (p.levels - 1) (base ∷ finer) in (
      subst (λ (v : List Owned). IsOver p ranks (suc w.number) v w.above) (level_of_taken (base ∷ finer) (p.levels - 1) (suc w.number) o.within) o.over,
      omega (arith, less, short),
    )
  where
    taken_short : (n : ℕ) (levels : List (List Owned)) → length (take n levels) ≤ length levels
    taken_short zero levels = omega arith
    taken_short (suc n) [] = omega arith
    taken_short (suc n) (level ∷ levels) = let rest = taken_short n levels in omega (arith, rest)

listed_old : (s : Setting) (t number : ℕ) (w : Pass) (later : List Pass) → w ∷ later ≡ drop number (passes_at_step s (suc t)) → Member w (passes_of s.problem s.ranks (suc t) (mesh s.problem s.ranks t))
listed_old s t number w later next = by (is_due s.problem (suc t)) refl
  where
    old : List (List Owned)
    old = mesh s.problem s.ranks t

    by : (u : Bool) → is_due s.problem (suc t) ≡ u → Member w (passes_of s.problem s.ranks (suc t) old)
    by true due =
        let listed = next_is_one w later _ number next in
        of_reversed w (passes_of s.problem s.ranks (suc t) old) (subst (λ u. Member w (if u then reverse (passes_of s.problem s.ranks (suc t) old) else [])) due listed)
    by false due =
        let listed = next_is_one w later _ number next in
        absurd (subst (λ u. Member w (if u then reverse (passes_of s.problem s.ranks (suc t) old) else [])) due listed)

over_by : (s : Setting) (step number : ℕ) (w : Pass) (later : List Pass) → IsProblem s.problem → 0 < s.ranks → w ∷ later ≡ drop number (passes_at_step s step)
    → w.above ≡ two_above (record { at = record { setting = s; step = step }; number = number; pass = w; later = later }) → is_some_level w.above ≡ true
    → IsOver s.problem s.ranks (suc w.number) (old_above (record { at = record { setting = s; step = step }; number = number; pass = w; later = later })) w.above
    × (is_some_level (old_above (record { at = record { setting = s; step = step }; number = number; pass = w; later = later })) ≡ true)
over_by s zero number w later is some next same top = absurd (differ (ap is_some_level (sym same) ∙ top))
  where
    differ : is_some_level [] ≡ true → ⊥
    differ e = cc
over_by s (suc t) number w later is some next same top =
    let p = s.problem in
    let back : t ≡ suc t - 1 = omega arith in
    let one : suc w.number ≡ w.number + 1 = omega arith in
    let both = regrid_old p s.ranks (suc t) (mesh p s.ranks t) w is some (fresh_is_stacked p s.ranks t is some) top (listed_old s t number w later next) in
    let there = sym (has_level p s.ranks (mesh p s.ranks t) w.number (fresh_mesh p s.ranks t is some)) ∙ lt-ltb (suc w.number) (length (mesh p s.ranks t)) both.1 in (
      subst (λ n. IsOver p s.ranks (suc w.number) (level_at (mesh p s.ranks (suc t - 1)) n) w.above) one
          (subst (λ u. IsOver p s.ranks (suc w.number) (level_at (mesh p s.ranks u) (suc w.number)) w.above) back both.0),
      subst (λ n. is_some_level (level_at (mesh p s.ranks (suc t - 1)) n) ≡ true) one (subst (λ u. is_some_level (level_at (mesh p s.ranks u) (suc w.number)) ≡ true) back there),
    )

pub above_over : (w : AtPass) → IsProblem w.at.setting.problem → IsPassOf w → is_some_level w.pass.above ≡ true → IsOver w.at.setting.problem w.pass.ranks (suc w.pass.number) (old_above w) w.pass.above
above_over w is h top =
    subst (λ n. IsOver w.at.setting.problem n (suc w.pass.number) (old_above w) w.pass.above) (sym h.same_ranks)
    (over_by w.at.setting w.at.step w.number w.pass w.later is (some_ranks w h) h.next (is_two_above w is h) top).0

-- so there is one
pub between : (w : AtPass) → IsProblem w.at.setting.problem → IsPassOf w → is_some_level w.pass.above ≡ true → is_some_level (old_above w) ≡ true
between w is h top = (over_by w.at.setting w.at.step w.number w.pass w.later is (some_ranks w h) h.next (is_two_above w is h) top).1

-- what a rank has of the new level two above
above_some_by : (s : Setting) (step number r : ℕ) (w : Pass) (later : List Pass) → IsProblem s.problem → 0 < s.ranks → w.above ≡ two_above (record { at = record { setting = s; step = step }; number = number; pass = w; later = later })
    → is_some (above_before (record { setting = s; step = step }) r w.number) ≡ is_some_level w.above
above_some_by s zero number r w later is some same = ap is_some_level (sym same)
above_some_by s (suc t) number r w later is some same =
    let at : AtStep = record { setting = s; step = suc t } in
    let two : w.number + 2 ≡ suc (w.number + 1) = omega arith in
    let levels = mesh_of at in
    if_some (nat_lt (w.number + 2) (length levels)) (above_part at r (w.number + 2))
    ∙ ap (λ n. nat_lt n (length levels)) two ∙ has_level s.problem s.ranks levels (w.number + 1) (fresh_mesh s.problem s.ranks (suc t) is some)
    ∙ ap (λ n. is_some_level (level_at levels n)) (sym two) ∙ ap is_some_level (sym same)

same_under : (p : Fields) (r n l below : ℕ) (fine above level old : List Owned) → l ≡ suc (suc n) → below ≡ suc n → fine ≡ above → level ≡ old
    → pair_at p fine l level below r ≡ pair_at p above (suc (suc n)) old (suc n) r
same_under p r n l below fine above level old up down top bottom =
    ap (λ k. pair_at p fine k level below r) up ∙ ap (λ k. pair_at p fine (suc (suc n)) level k r) down
    ∙ ap (λ (v : List Owned). pair_at p v (suc (suc n)) level (suc n) r) top ∙ ap (λ (v : List Owned). pair_at p above (suc (suc n)) v (suc n) r) bottom

under_by : (s : Setting) (step number r : ℕ) (w : Pass) (later : List Pass) (a : Above) → w.above ≡ two_above (record { at = record { setting = s; step = step }; number = number; pass = w; later = later })
    → above_before (record { setting = s; step = step }) r w.number ≡ Some a
    → a.under ≡ pair_at s.problem w.above (suc (suc w.number)) (old_above (record { at = record { setting = s; step = step }; number = number; pass = w; later = later })) (suc w.number) r
under_by s zero number r w later a same e = absurd (differ e)
  where
    differ : {a : Above} → None ≡ Some a → ⊥
    differ e = cc
under_by s (suc t) number r w later a same e =
    let at : AtStep = record { setting = s; step = suc t } in
    let l = w.number + 2 in
    let up : w.number + 2 ≡ suc (suc w.number) = omega arith in
    let down : w.number + 2 - 1 ≡ suc w.number = omega arith in
    let one : w.number + 2 - 1 ≡ w.number + 1 = omega arith in
    ap (λ (v : Above). v.under) (chosen (nat_lt l (length (mesh_of at))) (above_part at r l) a e)
    ∙ same_under s.problem r w.number l (l - 1) (level_at (mesh_of at) l) w.above (level_at (mesh_before at) (l - 1)) (level_at (mesh_before at) (w.number + 1)) up down (sym same)
    (ap (level_at (mesh_before at)) one)

module _ (w : AtPass) (r : ℕ) (problem : IsProblem w.at.setting.problem) (is : IsPassOf w) where
  pub is_above_some : {X : Type 0} (f : X → Above) (above : Option X) → option_map f above ≡ above_before w.at r w.pass.number → is_some above ≡ is_some_level w.pass.above
  is_above_some f above same =
      some_mapped f above ∙ ap is_some same
      ∙ above_some_by w.at.setting w.at.step w.number r w.pass w.later problem (some_ranks w is) (is_two_above w problem is)

  pub above_under : (a : Above) → above_before w.at r w.pass.number ≡ Some a
      → a.under ≡ pair_at w.at.setting.problem w.pass.above (suc (suc w.pass.number)) (old_above w) (suc w.pass.number) r
  above_under a e = under_by w.at.setting w.at.step w.number r w.pass w.later a (is_two_above w problem is) e
