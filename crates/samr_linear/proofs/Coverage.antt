-- Each cell of the domain about a box takes a value of a parcel of a linear fill, unless it is the box's own.
use Rattle.std.proofs.Common.{◌≡◌, ℕ, zero, suc, ◌+◌, ◌<◌, ◌≤◌, refl, sym, ap, ◌∙◌, inl, inr, arith}
use Rattle.std.proofs.lemmas.Bool.{cases_eq}
use Rattle.std.specs.Prelude.{Bool, true, false, ◌&&◌, ◌||◌, not, List, filter, Option, Some, None, slice_get, if◌then◌else◌}
use Rattle.std.specs.List.{flat_map, range_with_len}
use Rattle.std.specs.Option.{option_map}
use Rattle.samr_box.specs.declared.vector.IVec.{IVec}
use Rattle.samr_box.specs.declared.space.Flags.{Flags}
use Rattle.samr_box.specs.Corners.{Corners, Holds, holds, grown}
use Rattle.samr_box.specs.Lists.{Member}
use Rattle.samr_box.proofs.Members.{Member-filter, Member-from_filter, Member-flat_map, Member-from_flat_map}
use Rattle.samr_boxlist.specs.Covers.{held}
use Rattle.samr_level.specs.Refs.{Owned}
use Rattle.samr_level.specs.Regions.{IsInside}
use Rattle.samr_ops.specs.declared.rules.Rules.{Rules}
use Rattle.samr_sched.specs.declared.plan.Plan.{Plan}
use Rattle.samr_sched.specs.declared.plan.Request.{Request}
use Rattle.samr_sched.specs.Ask.{domain_of}
use Rattle.samr_sched.specs.Plans.{rest, plan_of}
use Rattle.samr_data.specs.declared.parcel.Parcel.{Parcel}
use Rattle.samr_fill.specs.FillRow.{asked_region, answered, parcels}
use Rattle.samr_fill.specs.Writing.{is_for, seen_at, takes as takes_plain}
use Rattle.samr_fill.proofs.Insides.{any_member, member_any}
use Rattle.samr_fill.proofs.Coverage.{covered as covered_plainly}
use Rattle.samr_fill.proofs.FillRowLaws.{IsCopied, from_parcels}
use Rattle.samr_fill.proofs.Numbered.{some_same}
use Rattle.samr_linear.specs.Around.{answered_around}
use Rattle.samr_linear.specs.LinearFill.{LinearFilling, IsLinearFilling}
use Rattle.samr_linear.specs.LinearFillRow.{linear_parcels}
use Rattle.samr_linear.specs.LinearWriting.{inner, takes, any_takes}
use Rattle.samr_linear.proofs.Rings.{inner_grown}
use Rattle.samr_linear.proofs.LinearFillRowLaws.{in_linear_copied, in_linear_answers}

-- the numbers of a range
Member-range : (n a k : ℕ) → a ≤ k → k < a + n → Member k (range_with_len a n)
Member-range zero a k low high = absurd (omega arith)
Member-range (suc n) a k low high = elim (cases_eq k a) [
  | inl here ↦ inl here
  | inr later ↦ inr (Member-range n (a + 1) k (omega (arith, later)) (omega arith))
]

-- copied values are not coarse
not_coarse_by : (make : Corners → Parcel) (o : Option Corners) (p : Parcel) → ((c : Corners) → (make c).is_coarse ≡ false) → option_map make o ≡ Some p → p.is_coarse ≡ false
not_coarse_by make (Some c) p f e = ap (λ (q : Parcel). q.is_coarse) (sym (some_same e)) ∙ f c
not_coarse_by make None p f e = cc

pub not_coarse : (w : LinearFilling) (from to : ℕ) (p : Parcel) → IsCopied w.filling from to p → p.is_coarse ≡ false
not_coarse w from to p c = not_coarse_by _ _ p (λ r. refl) c.is

-- a copied parcel is taken as in a fill, and an answer too
copied_takes : (plan : Plan) (real : Flags) (l : List Corners) (p : Parcel) (x : IVec) → p.is_coarse ≡ false → takes_plain plan l p x ≡ takes plan real l p x
copied_takes plan real l p x e =
    sym (ap (λ (t : Bool). (not p.is_coarse || held x l) && holds (if t then inner real p.region else p.region) (seen_at plan p x)) e)

answer_takes : (w : LinearFilling) (plan : Plan) (l : List Corners) (q : Request) (x : IVec)
    → takes_plain plan l (answered w.filling q) x ≡ takes plan w.stencil.real l (answered_around w.filling w.stencil w.below q) x
answer_takes w plan l q x =
    ap (λ (c : Corners). (false || held x l) && holds c (seen_at plan (answered w.filling q) x)) (sym (inner_grown w.stencil.real (asked_region w.filling.schedule q)))

module _ (w : LinearFilling) (is : IsLinearFilling w) (rank : ℕ) (b : Owned) (r : Rules) (here : slice_get w.filling.rules 0 ≡ Some r) (mb : Member b w.filling.schedule.level)
    (mine : b.owner ≡ rank) (all : List Parcel) (come : (from : ℕ) (p : Parcel) → from < w.filling.schedule.ranks → Member p (linear_parcels w from rank) → Member p all) where
  below_bound : (n k : ℕ) → Member k (range_with_len 0 n) → k < n
  below_bound n k m = let h = from_range n 0 k m in omega (arith, h)
    where
      from_range : (n a k : ℕ) → Member k (range_with_len a n) → k < a + n
      from_range zero a k m = absurd m
      from_range (suc n) a k (inl here) = omega arith
      from_range (suc n) a k (inr later) = let low = from_range n (a + 1) k later in omega (arith, low)

  pub covered : (x : IVec) → Holds (grown b.bx r.width) x → IsInside (domain_of w.filling.schedule) x → holds b.bx x ≡ false
      → any_takes (plan_of w.filling.schedule rank) w.stencil.real (rest w.filling.schedule r.width b) (filter (λ q. is_for b 0 q) all) x ≡ true
  covered x about inside ghostly =
      let f = w.filling in
      let s = f.schedule in
      let plan = plan_of s rank in
      let l = rest s r.width b in
      let of_rank : ℕ → List Parcel = λ from. parcels f from rank in
      let ranks = range_with_len 0 s.ranks in
      let plain = flat_map of_rank ranks in
      let comes : (from : ℕ) (p : Parcel) → from < s.ranks → Member p (parcels f from rank) → Member p plain =
      λ from p less m. Member-flat_map of_rank p from ranks (Member-range s.ranks 0 from (omega arith) (omega (arith, less))) m in
      let found = member_any (λ (p : Parcel). takes_plain plan l p x) (filter (λ q. is_for b 0 q) plain)
      (covered_plainly f is.is rank b 0 r here mb mine plain comes x about inside ghostly) in
      let p = found.0 in
      let there = Member-from_filter (λ q. is_for b 0 q) p plain found.1 in
      let from = Member-from_flat_map of_rank p ranks there.0 in
      let less = below_bound s.ranks from.0 from.1 in
      let made : (v : Parcel) → Member v all → is_for b 0 v ≡ true → takes plan w.stencil.real l v x ≡ true → any_takes plan w.stencil.real l (filter (λ q. is_for b 0 q) all) x ≡ true =
      λ v m t u. any_member (λ (p : Parcel). takes plan w.stencil.real l p x) v (filter (λ q. is_for b 0 q) all) (Member-filter (λ q. is_for b 0 q) v all m t) u in
      elim (from_parcels f from.0 rank p from.2) [
        | inl c ↦ made p (come from.0 p less (in_linear_copied w from.0 rank p c)) there.1 (sym (copied_takes plan w.stencil.real l p x (not_coarse w from.0 rank p c)) ∙ found.2)
        | inr a ↦
            let v = answered_around f w.stencil w.below a.request in
            made v (come from.0 v less (in_linear_answers w from.0 rank a.request a.asked))
            (ap (λ (q : Parcel). is_for b 0 q) (sym a.is) ∙ there.1)
            (sym (answer_takes w plan l a.request x) ∙ ap (λ (q : Parcel). takes_plain plan l q x) (sym a.is) ∙ found.2)
      ]
