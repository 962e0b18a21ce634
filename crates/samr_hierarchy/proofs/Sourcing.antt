-- Each cell about a level has a source, and a fill gives it the value of this.
use Rattle.std.proofs.Common.{◌≡◌, ℕ, refl, sym, ap, ◌∙◌, subst, inl, inr, length, Some, None, slice_get}
use Rattle.std.proofs.lemmas.Bool.{false≢true}
use Rattle.std.specs.Prelude.{Bool, true, false, not, ◌&&◌, ◌⊎◌, nat_lt, if◌then◌else◌, slice_index, Result, Ok, Err}
use Rattle.samr_box.specs.declared.vector.IVec.{IVec}
use Rattle.samr_box.specs.Corners.{Holds, grown}
use Rattle.samr_box.specs.Ratios.{coarse, refined}
use Rattle.samr_box.specs.Space.{wrapped}
use Rattle.samr_box.specs.Lists.{Member}
use Rattle.samr_level.specs.Refs.{Owned}
use Rattle.samr_level.specs.Regions.{IsInside, is_inside}
use Rattle.samr_level.proofs.Domains.{is_inside-means}
use Rattle.samr_nest.proofs.StayLaws.{cell_of_frame}
use Rattle.samr_ops.specs.declared.rules.Rules.{Rules}
use Rattle.samr_ops.specs.Rules.{refined_value}
use Rattle.samr_ops.specs.Walks.{walked}
use Rattle.samr_ops.proofs.WalkLaws.{walks_end_inside, walks_stay_inside}
use Rattle.samr_sched.specs.Ask.{domain_of, frame_of, coarse_frame}
use Rattle.samr_sched.specs.Origins.{is_beyond}
use Rattle.samr_fill.specs.Fill.{Filling, IsFilling, has, child, walked_value, value_of}
use Rattle.samr_fill.proofs.Insides.{not_outside}
use Rattle.samr_fill.proofs.Numbered.{some_same, none_some, get_member}
use Rattle.samr_fill.proofs.FieldTasks.{length_map}
use Rattle.samr_fill.proofs.Truths.{width_at, ghost_at}
use Rattle.samr_fill.proofs.WalkEnds.{wraps_inside, plain_inside}
use Rattle.samr_fill.proofs.Ends.{near_walk, walk_about}
use Rattle.samr_hierarchy.specs.Sources.{Source, Bound, OwnCell, CoarseCell, inner_source, walked_source, source_of, value_from, ValuesComeFromSources}
use Rattle.samr_hierarchy.proofs.Agreeing.{cell_test, no_parts, same_cell_of, fails}

-- a cell of one of two lists has a source, by the tests of both
either : (own below : Bool) (y c inside : IVec) → (own ≡ true) ⊎ (below ≡ true)
    → (s : Source) × ((if own then Some (OwnCell y) else if below then Some (CoarseCell c inside) else None) ≡ Some s)
either true below y c inside h = (OwnCell y, refl)
either false true y c inside h = (CoarseCell c inside, refl)
either false false y c inside (inl t) = absurd (false≢true t)
either false false y c inside (inr t) = absurd (false≢true t)

module _ (w : Filling) (is : IsFilling w) (n : ℕ) (r : Rules) (at : slice_get w.rules n ≡ Some r) (b : Owned) (mb : Member b w.schedule.level) where
  inner_is : (y : IVec) → Holds (grown b.bx r.width) y → IsInside (domain_of w.schedule) y → (s : Source) × (inner_source w.schedule y ≡ Some s)
  inner_is y about inside =
      let s = w.schedule in
      let z = wrapped (frame_of s) y in
      let under = wrapped (coarse_frame s) (coarse y s.step) in
      let ghost_width = get_member s.ghosts n r.width (width_at w is n r at) in
      either (has s.level z) (has s.coarser under) z under (child y s.step)
      (elim (is.sourced b r.width y mb ghost_width about inside) [
        | inl c ↦ inl (cell_test s.level z c)
        | inr c ↦ inr (cell_test s.coarser under c)
      ])

  walk_is : (x : IVec) → Holds (grown b.bx r.width) x → (length w.schedule.region.parts ≡ 0) ⊎ (is_inside (domain_of w.schedule) x ≡ true)
      → (o : Result IVec ℕ) → walked r (frame_of w.schedule) x ≡ o → (s : Source) × (walked_source w.schedule o ≡ Some s)
  walk_is x about which (Err v) e = (Bound v, refl)
  walk_is x about which (Ok y) e =
      let s = w.schedule in
      let d = frame_of s in
      let a = domain_of s in
      inner_is y (walk_about w is 0 b n r at mb x y about e)
      (elim which [
        | inl none ↦
            plain_inside a y (length_map (λ q. refined q s.ratio) s.region.parts ∙ none)
            (wraps_inside d y is.schedule.area.frame (walks_end_inside r d x y is.schedule.area.frame (near_walk w is 0 b n r at mb x about) (ghost_at w is n r at).short e))
        | inr t ↦
            let i = (is_inside-means a x).0 t in
            let stays = walks_stay_inside r d x (not_outside d x (cell_of_frame a (wrapped d x) is.schedule.area i)) in
            subst (λ (v : IVec). IsInside a v) (same_cell_of x y (sym stays ∙ e)) i
      ])

  pub source_is : (x : IVec) → Holds (grown b.bx r.width) x → (s : Source) × (source_of w.schedule (n, r) x ≡ Some s)
  unfolding source_of
  source_is x about =
      let s = w.schedule in
      let parts = nat_lt 0 (length s.region.parts) in
      let inside = is_inside (domain_of s) x in
      by (parts && not inside) refl (walked r (frame_of s) x) refl
    where
      by : (t : Bool) → (nat_lt 0 (length w.schedule.region.parts) && not (is_inside (domain_of w.schedule) x)) ≡ t
          → (o : Result IVec ℕ) → walked r (frame_of w.schedule) x ≡ o
          → (s : Source) × ((if t then Some (Bound (slice_index w.schedule.fixed n)) else walked_source w.schedule o) ≡ Some s)
      by true e o f = (Bound (slice_index w.schedule.fixed n), refl)
      by false e o f =
          let which : (length w.schedule.region.parts ≡ 0) ⊎ (is_inside (domain_of w.schedule) x ≡ true) =
          elim (fails (nat_lt 0 (length w.schedule.region.parts)) (is_inside (domain_of w.schedule) x) e) [
            | inl none ↦ inl (no_parts (length w.schedule.region.parts) none)
            | inr i ↦ inr i
          ] in
          walk_is x about which o f

-- the value of a cell is that of its source
chosen : (w : Filling) (f : ℕ × Rules) (z under inside : IVec) (own below : Bool) (s : Source)
    → (if own then Some (OwnCell z) else if below then Some (CoarseCell under inside) else None) ≡ Some s
    → (if own then w.values f.0 z else refined_value f.1 (w.coarse_values f.0 under) inside) ≡ value_from w f s
chosen w f z under inside true below s e = ap (value_from w f) (some_same e)
chosen w f z under inside false true s e = ap (value_from w f) (some_same e)
chosen w f z under inside false false s e = absurd (none_some e)

ended : (w : Filling) (f : ℕ × Rules) (s : Source) (beyond : Bool) (v : ℕ) (o : Result IVec ℕ) → (if beyond then Some (Bound v) else walked_source w.schedule o) ≡ Some s
    → (if beyond then v else walked_value w f o) ≡ value_from w f s
ended w f s true v o e = ap (value_from w f) (some_same e)
ended w f s false v (Err u) e = ap (value_from w f) (some_same e)
ended w f s false v (Ok y) e =
    let q = w.schedule in
    let under = wrapped (coarse_frame q) (coarse y q.step) in
    chosen w f (wrapped (frame_of q) y) under (child y q.step) (has q.level (wrapped (frame_of q) y)) (has q.coarser under) s e

pub values_come_from_sources : ValuesComeFromSources
unfolding value_of source_of
values_come_from_sources w f x s e =
    ended w f s (nat_lt 0 (length w.schedule.region.parts) && is_beyond w.schedule x) (slice_index w.schedule.fixed f.0) (walked f.1 (frame_of w.schedule) x) e
