-- A fill of level 0, or of blocks over it, keeps all that a fill rests on.
use Rattle.std.proofs.Common.{◌≡◌, ℕ, ◌<◌, refl, sym, ap, ◌∙◌, subst, inl, inr, arith, length}
use Rattle.std.proofs.lemmas.Int.{ints}
use Rattle.std.proofs.lemmas.List.{length-map}
use Rattle.std.specs.Prelude.{Bool, true, false, ◌==◌, if◌then◌else◌, ℤ, pos, ◌^◌, ◌≤ℤ◌, ◌*ℤ◌, ◌⊎◌, List, [], ◌∷◌, map}
use Rattle.std.specs.List.{All, range_with_len}
use Rattle.samr_box.specs.declared.vector.IVec.{IVec}
use Rattle.samr_box.specs.Vector.{alike, times, AtMost, IsRatio}
use Rattle.samr_box.specs.Corners.{Corners, IsBox, Holds}
use Rattle.samr_box.specs.Ratios.{coarse, refined}
use Rattle.samr_box.specs.Space.{Space, IsSpace, whole, finer, wrapped}
use Rattle.samr_box.specs.Lists.{Member}
use Rattle.samr_box.proofs.Ascending.{sorted-nil}
use Rattle.samr_box.proofs.Members.{member_of_All, All-from_members, Member-from_map}
use Rattle.samr_box.proofs.Products.{mul_le, mul_one, mul_comm}
use Rattle.samr_box.proofs.Vectors.{AtMost-refl, AtMost-trans}
use Rattle.samr_border.proofs.TurnLaws.{wrapped_coarse}
use Rattle.samr_level.specs.declared.parts.Part.{Part}
use Rattle.samr_level.specs.declared.parts.Pair.{Pair}
use Rattle.samr_level.specs.Refs.{Owned}
use Rattle.samr_level.specs.RefOrders.{ref_cmp}
use Rattle.samr_level.specs.Regions.{Area, IsArea, IsCellOf, finer_area}
use Rattle.samr_level.specs.Levels.{IsLevel, IsCellIn}
use Rattle.samr_level.specs.Pairs.{part, pair}
use Rattle.samr_level.specs.Blocks.{level0}
use Rattle.samr_level.proofs.Level0Laws.{IsLevel-level0, cells-level0}
use Rattle.samr_level.proofs.FinerAreas.{IsArea-finer}
use Rattle.samr_level.proofs.Reaches.{rounded_up-least}
use Rattle.samr_nest.proofs.EdgeImages.{times_one, refined_one}
use Rattle.samr_sched.specs.Ask.{IsScheduling, IsSourced, IsGhost}
use Rattle.samr_sched.specs.AskParts.{CanPlan}
use Rattle.samr_sched.specs.AskOnAll.{HaveAllLevels}
use Rattle.samr_ops.specs.declared.rules.Rules.{Rules}
use Rattle.samr_fill.specs.Fill.{IsFilling}
use Rattle.samr_trials_levels.specs.Kept.{kept}
use Rattle.samr_trials_levels.specs.First.{HasRoom, HasRooms}
use Rattle.samr_trials_levels.specs.Cover.{fine_start, coarse_start, fine_blocks}
use Rattle.samr_trials_levels.proofs.FirstPatches.{all_kept_rooms}
use Rattle.samr_trials_levels.proofs.Covering.{one_ratio, one_times, is_coarse, is_fine, under_cell, first_fits, its_rooms}
use Rattle.samr_trials_fills.specs.Fills.{schedule_of, filling_of, CanFill0, CanFillOver, CanPrepare}

-- a domain in its own index space
same_frame : (d : Space) → finer d (alike (pos 1)) ≡ d
same_frame d = ap (λ (s : IVec). let v : Space = record { size = s; periodic = d.periodic } in v) (times_one d.size)

same_parts : (list : List Corners) → map (λ p. refined p (alike (pos 1))) list ≡ list
same_parts [] = refl
same_parts (p ∷ ps) =
    ap (λ (l : List Corners). refined p (alike (pos 1)) ∷ l) (same_parts ps) ∙ ap (λ (b : Corners). b ∷ ps) (refined_one p)

same_area : (a : Area) → finer_area a (alike (pos 1)) ≡ a
same_area a =
    ap (λ (d : Space). let v : Area = record { frame = d; parts = map (λ p. refined p (alike (pos 1))) a.parts } in v) (same_frame a.frame)
    ∙ ap (λ (l : List Corners). let v : Area = record { frame = a.frame; parts = l } in v) (same_parts a.parts)

-- a length that is not negative grows with a factor
grows : (n r : ℤ) → pos 0 ≤ℤ n → pos 1 ≤ℤ r → n ≤ℤ (n *ℤ r)
grows n r p q =
    let more = mul_le n (pos 1) r p q in
    let one = mul_one n in
    let turned = mul_comm r n in
    omega (arith, ints, more, one, turned)

all_grow : (x r : IVec) → AtMost (alike (pos 0)) x → IsRatio r → AtMost x (times x r)
all_grow x r p q = record { k = grows x.k r.k p.k q.low.k; j = grows x.j r.j p.j q.low.j; i = grows x.i r.i p.i q.low.i }

-- a level of no boxes
no_level : (a : Area) (ranks : ℕ) → IsLevel a ranks []
no_level a ranks = record {
  in_order = sorted-nil ref_cmp;
  not_empty = λ b m. absurd m;
  inside = λ b x m h. absurd m;
  disjoint = λ b c m n h. absurd m;
  owners = λ b m. absurd m;
}

-- a domain has a cell
whole_cell : (d : Space) → IsSpace d → Holds (whole d) (alike (pos 0))
whole_cell d h = record {
  low = AtMost-refl (alike (pos 0));
  high = let l = h.low in record { k = omega (arith, ints, l.k); j = omega (arith, ints, l.j); i = omega (arith, ints, l.i) };
}

some_part : (parts : List Corners) → (length parts == 0) ≡ false → (p : Corners) × Member p parts
some_part [] e = cc
some_part (p ∷ ps) e = (p, inl refl)

cell_by : (t : Bool) (d : Space) (parts : List Corners) → IsSpace d → All IsBox parts → (t ≡ false → (p : Corners) × Member p parts)
    → (x : IVec) × ((p : Corners) × Member p (if t then whole d ∷ [] else parts) × Holds p x)
cell_by true d parts h boxes some = (alike (pos 0), (whole d, inl refl, whole_cell d h))
cell_by false d parts h boxes some =
    let p = some refl in
    (p.0.lo, (p.0, p.1, record { low = AtMost-refl p.0.lo; high = (member_of_All IsBox p.0 parts boxes p.1).order }))

some_cell : (a : Area) → IsArea a → (x : IVec) × IsCellOf a x
some_cell a h = cell_by (length a.parts == 0) a.frame a.parts h.frame h.boxes (λ e. some_part a.parts e)

module _ (a : Area) (step : IVec) (ranks : ℕ) (width : IVec) (bound : ℕ) (fixed : List ℕ) (rules : List Rules) (level coarser : List Owned)
    (h : CanPrepare a step ranks width bound fixed rules level coarser) where
  ghost_of : (r : Rules) → Member r rules → IsGhost (schedule_of a step ranks width (map (λ r. r.width) rules) fixed level coarser) r.width
  ghost_of r m =
      let has = its_rooms level rules r h.rooms m in
      let narrow = h.fillable.narrow in
      let wide = member_of_All (λ (r : Rules). AtMost r.width width) r rules narrow.wide m in
      let low = AtMost-trans has.positive wide in
      record {
        low = has.positive;
        short = AtMost-trans wide (AtMost-trans narrow.short (all_grow a.frame.size step (AtMost-trans low narrow.short) h.ratio));
        wide = wide;
        reach = rounded_up-least r.width step width h.ratio (AtMost-trans wide (all_grow width step low h.ratio));
        room = λ b n. member_of_All (HasRoom r.width) b level has.rooms n;
      }

  pub is_scheduling : IsScheduling (schedule_of a step ranks width (map (λ r. r.width) rules) fixed level coarser)
  is_scheduling = record {
    area = IsArea-finer a step h.is_area h.ratio h.is_finer;
    coarse_area = subst IsArea (sym (same_area a)) h.is_area;
    plain = h.fillable.plain;
    level = h.is_level;
    coarser = subst (λ (d : Area). IsLevel d ranks coarser) (sym (same_area a)) h.is_coarser;
    ratio = h.ratio;
    below = one_ratio;
    step = h.ratio;
    product = one_times step;
    ghosts = λ g m.
        let o = Member-from_map (λ (r : Rules). r.width) g rules m in
        subst (λ (v : IVec). IsGhost (schedule_of a step ranks width (map (λ r. r.width) rules) fixed level coarser) v) (sym o.2) (ghost_of o.0 o.1);
  }

  -- a cell over a coarser box, wherever it wraps
  over_coarser : (x : IVec) → IsCellIn coarser (coarse (wrapped (finer a.frame step) x) step) → IsCellIn coarser (wrapped (finer a.frame (alike (pos 1))) (coarse x step))
  over_coarser x m =
      subst (λ (y : IVec). IsCellIn coarser y)
      (wrapped_coarse a.frame step x h.is_area.frame h.ratio ∙ ap (λ (d : Space). wrapped d (coarse x step)) (sym (same_frame a.frame))) m

  is_sourced : IsSourced (schedule_of a step ranks width (map (λ r. r.width) rules) fixed level coarser)
  is_sourced b g x m n has inside = elim (h.sourced (wrapped (finer a.frame step) x) inside) [
    | inl here ↦ inl here
    | inr under ↦ inr (over_coarser x under)
  ]

  pub is_filling : IsFilling (filling_of a step ranks width bound fixed rules level coarser)
  is_filling = record {
    schedule = is_scheduling;
    sourced = is_sourced;
    rules = h.fields.ranges;
    few = h.few;
    widths = refl;
    fixed = h.fillable.has_fixed.both;
    all_fixed = h.fillable.has_fixed.all;
    step = h.four;
    fits = λ f r x there cell. first_fits bound fine_start rules f r x h.fields there;
    coarse_fits = λ f r x there cell. first_fits bound coarse_start rules f r x h.fields there;
  }

-- what all ranks have before they ask
pub have_levels : (a : Area) (step : IVec) (ranks : ℕ) (width : IVec) (ghosts : List IVec) (fixed : List ℕ) (level coarser : List Owned) (parts : List Part) (selves downs : List Pair)
    → CanPlan (schedule_of a step ranks width ghosts fixed level coarser) → (coarser ≡ [] → step ≡ alike (pos 1))
    → parts ≡ map (λ rank. part level rank) (range_with_len 0 ranks)
    → selves ≡ map (λ rank. pair a.frame width step step level level rank) (range_with_len 0 ranks)
    → (downs ≡ map (λ rank. pair a.frame width step (alike (pos 1)) level coarser rank) (range_with_len 0 ranks)) ⊎ ((downs ≡ []) × (coarser ≡ []))
    → HaveAllLevels a parts selves downs ghosts fixed (schedule_of a step ranks width ghosts fixed level coarser)
have_levels a step ranks width ghosts fixed level coarser parts selves downs can alone p s (inl d) = record {
  is = can;
  same_region = refl;
  same_parts = p;
  same_selves = s;
  same_below = inl d;
  same_ghosts = refl;
  same_fixed = refl;
}
have_levels a step ranks width ghosts fixed level coarser parts selves downs can alone p s (inr none) = record {
  is = can;
  same_region = refl;
  same_parts = p;
  same_selves = s;
  same_below = inr (none.0, none.1, sym (alone none.1), alone none.1);
  same_ghosts = refl;
  same_fixed = refl;
}

-- the same, of lists and a frame that are equal to these
pub levels_from : (a : Area) (frame : Space) (step one : IVec) (ranks : ℕ) (width : IVec) (ghosts : List IVec) (fixed : List ℕ) (level coarser : List Owned)
    (parts : List Part) (selves as_selves downs as_downs : List Pair)
    → CanPlan (schedule_of a step ranks width ghosts fixed level coarser) → (coarser ≡ [] → step ≡ alike (pos 1)) → frame ≡ a.frame → one ≡ alike (pos 1)
    → parts ≡ map (λ rank. part level rank) (range_with_len 0 ranks)
    → as_selves ≡ selves → selves ≡ map (λ rank. pair frame width step step level level rank) (range_with_len 0 ranks)
    → as_downs ≡ downs → (downs ≡ map (λ rank. pair frame width step one level coarser rank) (range_with_len 0 ranks)) ⊎ ((downs ≡ []) × (coarser ≡ []))
    → HaveAllLevels a parts as_selves as_downs ghosts fixed (schedule_of a step ranks width ghosts fixed level coarser)
levels_from a frame step one ranks width ghosts fixed level coarser parts selves as_selves downs as_downs can alone f o p s selves_are d downs_are =
    have_levels a step ranks width ghosts fixed level coarser parts as_selves as_downs can alone p
    (s ∙ selves_are ∙ ap (λ (v : Space). map (λ rank. pair v width step step level level rank) (range_with_len 0 ranks)) f)
    (by downs_are)
  where
    by : (downs ≡ map (λ rank. pair frame width step one level coarser rank) (range_with_len 0 ranks)) ⊎ ((downs ≡ []) × (coarser ≡ []))
        → (as_downs ≡ map (λ rank. pair a.frame width step (alike (pos 1)) level coarser rank) (range_with_len 0 ranks)) ⊎ ((as_downs ≡ []) × (coarser ≡ []))
    by (inl is) =
        inl
        (d
        ∙ is
        ∙ ap (λ (v : Space). map (λ rank. pair v width step one level coarser rank) (range_with_len 0 ranks)) f
        ∙ ap (λ (v : IVec). map (λ rank. pair a.frame width step v level coarser rank) (range_with_len 0 ranks)) o)
    by (inr none) = inr (d ∙ none.0, none.1)

-- no boxes have room for all fields for which others have it
without : (w : IVec) → AtMost (alike (pos 0)) w → HasRooms [] w
without w p = record { positive = p; rooms = All-from_members (HasRoom w) [] (λ b m. absurd m) }

all_without : (level : List Owned) (widths : List IVec) → All (HasRooms level) widths → All (HasRooms []) widths
all_without level widths h = All-from_members (HasRooms []) widths (λ w m. without w (member_of_All (HasRooms level) w widths h m).positive)

few_rules : (rules : List Rules) → length (map (λ r. r.width) rules) < 2 ^ 8 → length rules < 2 ^ 8
few_rules rules few = let n = length-map rules (λ (r : Rules). r.width) in omega (arith, few, n)

-- level 0 can be prepared
can_prepare0 : (a : Area) (block : IVec) (ranks : ℕ) (width : IVec) (bound : ℕ) (fixed : List ℕ) (rules : List Rules) → CanFill0 a block ranks width bound fixed rules
    → CanPrepare a (alike (pos 1)) ranks width bound fixed rules (level0 a block ranks) []
can_prepare0 a block ranks width bound fixed rules h = record {
  is_area = h.is_area;
  ratio = one_ratio;
  is_finer = subst IsSpace (sym (same_frame a.frame)) h.is_area.frame;
  four = record { k = omega (arith, ints); j = omega (arith, ints); i = omega (arith, ints) };
  in_range = h.in_range;
  same = h.same;
  below = h.same;
  few = h.few;
  fields = h.fields;
  fillable = h.fillable;
  is_level = subst (λ (d : Area). IsLevel d ranks (level0 a block ranks)) (sym (same_area a)) (IsLevel-level0 a block ranks h.is_area h.blocks h.some);
  is_coarser = no_level a ranks;
  alone = λ e. refl;
  rooms = h.rooms;
  coarse_rooms = all_without (level0 a block ranks) (map (λ r. r.width) rules) h.rooms;
  sourced = λ x cell. inl ((cells-level0 a block ranks h.is_area h.blocks x).1 (subst (λ (d : Area). IsCellOf d x) (same_area a) cell));
}

module _ (a : Area) (block step fine_block : IVec) (over ranks : ℕ) (width : IVec) (bound : ℕ) (fixed : List ℕ) (rules : List Rules)
    (h : CanFillOver a block step fine_block ranks width bound fixed rules) where
  -- level 0 has a box
  not_alone : level0 a block ranks ≡ [] → step ≡ alike (pos 1)
  not_alone e =
      let cover = h.refine.cover in
      let cell = some_cell a cover.is_area in
      let has = subst (λ (l : List Owned). IsCellIn l cell.0) e ((cells-level0 a block ranks cover.is_area cover.blocks cell.0).1 cell.1) in
      absurd has.1

  can_prepare_over : CanPrepare a step ranks width bound fixed rules (kept over (fine_blocks a step fine_block ranks)) (level0 a block ranks)
  can_prepare_over =
      let cover = h.refine.cover in
      let hold = h.refine.hold in
      record {
        is_area = cover.is_area;
        ratio = cover.ratio;
        is_finer = cover.is_finer;
        four = h.refine.four;
        in_range = cover.in_range;
        same = cover.same;
        below = cover.below;
        few = few_rules rules hold.few;
        fields = h.refine.fields;
        fillable = h.fillable;
        is_level = is_fine a block step fine_block ranks width cover over;
        is_coarser = is_coarse a block step fine_block ranks width cover;
        alone = not_alone;
        rooms = all_kept_rooms (fine_blocks a step fine_block ranks) over (map (λ r. r.width) rules) hold.over_rooms;
        coarse_rooms = hold.rooms;
        sourced = λ x cell. inr ((cells-level0 a block ranks cover.is_area cover.blocks (coarse x step)).1 (under_cell a step x cover.ratio cell));
      }

-- the same, of lists that are equal to these
pub can_from0 : (a : Area) (block : IVec) (ranks : ℕ) (width : IVec) (bound : ℕ) (fixed : List ℕ) (rules : List Rules) (one : IVec) (level none : List Owned)
    → CanFill0 a block ranks width bound fixed rules → one ≡ alike (pos 1) → level ≡ level0 a block ranks → none ≡ [] → CanPrepare a one ranks width bound fixed rules level none
can_from0 a block ranks width bound fixed rules one level none h o l n =
    subst (λ (v : IVec). CanPrepare a v ranks width bound fixed rules level none) (sym o)
    (subst (λ (v : List Owned). CanPrepare a (alike (pos 1)) ranks width bound fixed rules v none) (sym l)
    (subst (λ (v : List Owned). CanPrepare a (alike (pos 1)) ranks width bound fixed rules (level0 a block ranks) v) (sym n) (can_prepare0 a block ranks width bound fixed rules h)))

pub can_from_over : (a : Area) (block step fine_block : IVec) (over ranks : ℕ) (width : IVec) (bound : ℕ) (fixed : List ℕ) (rules : List Rules) (level coarser : List Owned)
    → CanFillOver a block step fine_block ranks width bound fixed rules → level ≡ kept over (fine_blocks a step fine_block ranks) → coarser ≡ level0 a block ranks
    → CanPrepare a step ranks width bound fixed rules level coarser
can_from_over a block step fine_block over ranks width bound fixed rules level coarser h l c =
    subst (λ (v : List Owned). CanPrepare a step ranks width bound fixed rules v coarser) (sym l)
    (subst (λ (v : List Owned). CanPrepare a step ranks width bound fixed rules (kept over (fine_blocks a step fine_block ranks)) v) (sym c)
    (can_prepare_over a block step fine_block over ranks width bound fixed rules h))

-- fills of equal levels
pub same_filling : (a : Area) (step step' : IVec) (ranks : ℕ) (width : IVec) (bound : ℕ) (fixed : List ℕ) (rules : List Rules) (level level' coarser coarser' : List Owned)
    → step ≡ step' → level ≡ level' → coarser ≡ coarser'
    → filling_of a step ranks width bound fixed rules level coarser ≡ filling_of a step' ranks width bound fixed rules level' coarser'
same_filling a step step' ranks width bound fixed rules level level' coarser coarser' s l c =
    ap (λ (v : IVec). filling_of a v ranks width bound fixed rules level coarser) s
    ∙ ap (λ (v : List Owned). filling_of a step' ranks width bound fixed rules v coarser) l
    ∙ ap (λ (v : List Owned). filling_of a step' ranks width bound fixed rules level' v) c
