-- What a rank makes of its own edges is its plan from whole levels.
use Rattle.std.proofs.Common.{◌≡◌, ℕ, ◌+◌, refl, sym, ap, ◌∙◌, subst, inl, inr, arith}
use Rattle.std.proofs.lemmas.Int.{ints, clamps}
use Rattle.std.proofs.lemmas.Cmp.{tied_itself}
use Rattle.std.proofs.lemmas.Bool.Decides.{nat_tests}
use Rattle.std.specs.Prelude.{IsTrue, nat_eq, ◌↔◌, List, [], ◌∷◌, map}
use Rattle.std.specs.List.{enumerate_from}
use Rattle.std.specs.Ordering.{is_eq}
use Rattle.std.specs.declared.cmp.Ordering.{Ordering}
use Rattle.std.specs.declared.cmp.Ordering.TheVariants.{Less, Equal, Greater}
use Rattle.samr_box.specs.declared.vector.IVec.{IVec}
use Rattle.samr_box.specs.Vector.{greatest}
use Rattle.samr_box.specs.Corners.{Corners}
use Rattle.samr_box.specs.Space.{finer}
use Rattle.samr_box.specs.Lists.{Member}
use Rattle.samr_box.proofs.Members.{Member-from_filter}
use Rattle.samr_box.proofs.Vectors.{same_cell}
use Rattle.samr_level.specs.Refs.{Owned, Link}
use Rattle.samr_level.specs.RefOrders.{ref_cmp}
use Rattle.samr_level.specs.Levels.{own}
use Rattle.samr_level.specs.Overlaps.{scale, scale_in, true_overlaps}
use Rattle.samr_level.specs.Pairs.{part}
use Rattle.samr_level.proofs.RefLaws.{ref_total, same_from_ref_cmp, same_owned}
use Rattle.samr_nest.proofs.NestedBy.{holes_from_all}
use Rattle.samr_nest.proofs.Callers.{edges_of_one}
use Rattle.samr_sched.specs.declared.plan.FieldPlan.{FieldPlan}
use Rattle.samr_sched.specs.declared.plan.BoxPlan.{BoxPlan}
use Rattle.samr_sched.specs.declared.making.Ground.{Ground}
use Rattle.samr_sched.specs.Ask.{Scheduling, IsScheduling, domain_of, coarse_frame, selves_of, downs_of, selves, downs}
use Rattle.samr_sched.specs.Plans.{copies, asked, asked_along, field_plan, box_plan, box_plans}
use Rattle.samr_sched.specs.AskParts.{CanPlan}
use Rattle.samr_sched.specs.PlansOfParts.{starts_at, edges_at, asked_by, field_by, plan_by}

pub greatest_self : (r : IVec) → greatest r r ≡ r
greatest_self r = same_cell (omega (arith, ints, clamps)) (omega (arith, ints, clamps)) (omega (arith, ints, clamps))

-- the test for the edges of a box
starts : (b : Owned) (e : Link) → IsTrue (starts_at b e) ↔ (e.base ≡ b)
starts b e = (
  λ t. same_from_ref_cmp e.base b (equal (ref_cmp e.base b) t),
  λ same. subst (λ (v : Owned). IsTrue (is_eq (ref_cmp v b))) (sym same) (ap is_eq (tied_itself ref_total b)),
)
  where
    equal : (o : Ordering) → IsTrue (is_eq o) → o ≡ Equal
    equal Less t = cc
    equal Equal t = refl
    equal Greater t = cc

-- the members of a numbered list
pub numbered_member : {X : Type 0} (n : ℕ) (xs : List X) (f : ℕ × X) → Member f (enumerate_from n xs) → Member f.1 xs
numbered_member n [] f m = absurd m
numbered_member n (x ∷ xs) f (inl same) = inl (ap (λ v. v.1) same)
numbered_member n (x ∷ xs) f (inr later) = inr (numbered_member (n + 1) xs f later)

pub same_map : {X Y : Type 0} (f g : X → Y) (xs : List X) → ((x : X) → Member x xs → f x ≡ g x) → map f xs ≡ map g xs
same_map f g [] same = refl
same_map {X} {Y} f g (x ∷ xs) same =
    ap (λ (y : Y). y ∷ map f xs) (same x (inl refl)) ∙ ap (λ (l : List Y). g x ∷ l) (same_map f g xs (λ y m. same y (inr m)))

map_boxes : {Y : Type 0} (f : Corners → Y) (g : Owned → Y) (bs : List Owned) → ((b : Owned) → Member b bs → f b.bx ≡ g b)
    → map f (map (λ (b : Owned). b.bx) bs) ≡ map g bs
map_boxes f g [] same = refl
map_boxes {Y} f g (b ∷ bs) same =
    ap (λ (y : Y). y ∷ map f (map (λ (b : Owned). b.bx) bs)) (same b (inl refl)) ∙ ap (λ (l : List Y). g b ∷ l) (map_boxes f g bs (λ c m. same c (inr m)))

abbrev pub ground_of : Scheduling → Ground
ground_of w = record { domain = domain_of w; below = coarse_frame w; step = w.step }

-- a schedule can be planned
pub can_plan : (w : Scheduling) → IsScheduling w → CanPlan w
can_plan w h = record {
  area = h.area;
  space_below = h.coarse_area.frame;
  level = h.level.in_order;
  coarser = h.coarser.in_order;
  not_empty = h.level.not_empty;
  owners = h.level.owners;
  owners_below = h.coarser.owners;
  ratio = h.ratio;
  step = h.step;
  product = h.product;
  wide = λ g m. (h.ghosts g m).wide;
  room = λ g b m n. ((h.ghosts g m).room b n).0;
}

module _ (w : Scheduling) (h : CanPlan w) where
  pub own_facts : (r : ℕ) (b : Owned) → Member b (own r w.level) → Member b w.level × (b.owner ≡ r)
  unfolding own
  own_facts r b m =
      let f = Member-from_filter (λ (b : Owned). nat_eq b.owner r) b w.level m in
      (f.0, grind (arith, nat_tests, f.1))

  near_is : (r : ℕ) (b : Owned) → Member b w.level → b.owner ≡ r → edges_at b (selves w r) ≡ selves_of w b
  unfolding edges_at
  near_is r b m own =
      edges_of_one (scale w.region.frame w.width w.ratio w.ratio) w.level w.level r b (λ e. starts_at b e) h.level h.level m own (starts b)

  under_is : (r : ℕ) (b : Owned) → Member b w.level → b.owner ≡ r → edges_at b (downs w r) ≡ downs_of w b
  unfolding edges_at
  under_is r b m own =
      edges_of_one (scale w.region.frame w.reach w.ratio w.below) w.level w.coarser r b (λ e. starts_at b e) h.level h.coarser m own (starts b)

  field_same : (b : Owned) (f : ℕ × IVec) → Member b w.level → Member f.1 w.ghosts
      → field_by (ground_of w) (selves_of w b) (downs_of w b) b f ≡ field_plan w b f
  unfolding copies asked asked_along asked_by
  field_same b f m g =
      let made : List Corners → FieldPlan = λ l. record {
        width = f.1;
        inside = (field_plan w b f).inside;
        copies = copies w f.1 b;
        rest = l;
        asked = asked_by (coarse_frame w) w.step f.0 (downs_of w b) l;
      } in
      ap made
      (holes_from_all (domain_of w) w.level f.1 b (selves_of w b) w.width w.ratio h.area (h.room f.1 b g m) h.not_empty (h.wide f.1 g) h.ratio
      (ap (λ (r : IVec). true_overlaps (scale_in (finer w.region.frame r) w.width w.ratio w.ratio) (b ∷ []) w.level) (greatest_self w.ratio)))

  box_same : (r : ℕ) (b : Owned) → Member b w.level → b.owner ≡ r → plan_by (ground_of w) w.ghosts (selves w r) (downs w r) b ≡ box_plan w b
  unfolding plan_by
  box_same r b m own =
      let made : List FieldPlan → BoxPlan = λ l. record { base = b; fields = l } in
      let by : List Link → List Link → BoxPlan = λ near under. made (map (λ f. field_by (ground_of w) near under b f) (enumerate_from 0 w.ghosts)) in
      ap (λ (l : List Link). by l (edges_at b (downs w r))) (near_is r b m own)
      ∙ ap (λ (l : List Link). by (selves_of w b) l) (under_is r b m own)
      ∙ ap made (same_map (λ f. field_by (ground_of w) (selves_of w b) (downs_of w b) b f) (λ f. field_plan w b f) (enumerate_from 0 w.ghosts)
      (λ f n. field_same b f m (numbered_member 0 w.ghosts f n)))

  pub plans_are : (r : ℕ) → map (λ b. plan_by (ground_of w) w.ghosts (selves w r) (downs w r) (record { owner = r; bx = b })) (part w.level r).boxes ≡ box_plans w r
  unfolding box_plans
  plans_are r =
      map_boxes (λ b. plan_by (ground_of w) w.ghosts (selves w r) (downs w r) (record { owner = r; bx = b })) (λ b. box_plan w b) (own r w.level)
      (λ b m.
      let f = own_facts r b m in
      let same : (let o : Owned = record { owner = r; bx = b.bx } in o) ≡ b = same_owned (sym f.1) refl in
      ap (λ (v : Owned). plan_by (ground_of w) w.ghosts (selves w r) (downs w r) v) same ∙ box_same r b f.0 f.1)
