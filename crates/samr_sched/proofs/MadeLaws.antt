-- What a rank has once it has made its plans.
use Rattle.std.proofs.Common.{◌≡◌, ℕ, refl, sym, ap, ◌∙◌, map}
use Rattle.std.specs.Prelude.{List, [], Some, None}
use Rattle.samr_box.specs.declared.vector.IVec.{IVec}
use Rattle.samr_box.specs.Vector.{times, IsRatio}
use Rattle.samr_box.specs.Corners.{Corners}
use Rattle.samr_box.specs.Space.{Space, finer}
use Rattle.samr_level.specs.declared.parts.Part.{Part}
use Rattle.samr_level.specs.declared.parts.Pair.{Pair}
use Rattle.samr_level.specs.Refs.{Owned, Link}
use Rattle.samr_level.specs.Regions.{Area, finer_area}
use Rattle.samr_level.specs.Overlaps.{Scale, scale, true_overlaps, of_rank}
use Rattle.samr_level.specs.Pairs.{part}
use Rattle.samr_level.proofs.Overlapping.{Member-from_overlaps, Member-from_of_rank}
use Rattle.samr_peers.specs.Peers.{other_owners}
use Rattle.samr_sched.specs.declared.plan.BoxPlan.{BoxPlan}
use Rattle.samr_sched.specs.declared.making.Ground.{Ground}
use Rattle.samr_sched.specs.Ask.{Scheduling, domain_of, coarse_frame, selves}
use Rattle.samr_sched.specs.PlansOfParts.{plan_by}
use Rattle.samr_sched.specs.AskParts.{down_pair, HasLevels, HasEdges, HasPlans}
use Rattle.samr_sched.proofs.Plain.{no_members}
use Rattle.samr_sched.proofs.PlanLaws.{ground_of, plans_are}

-- a level with none below it has no edges to it, and none lead back
no_downs : (n : Scale) (rank : ℕ) (bases : List Owned) → of_rank rank (true_overlaps n bases []) ≡ []
no_downs n rank bases =
    no_members (of_rank rank (true_overlaps n bases []))
    (λ e m. (Member-from_overlaps n bases [] e (Member-from_of_rank rank (true_overlaps n bases []) e m).0).is_head)

no_ups : (n : Scale) (rank : ℕ) (heads : List Owned) → of_rank rank (true_overlaps n [] heads) ≡ []
no_ups n rank heads =
    no_members (of_rank rank (true_overlaps n [] heads))
    (λ e m. (Member-from_overlaps n [] heads e (Member-from_of_rank rank (true_overlaps n [] heads) e m).0).is_base)

module _ (rank ranks : ℕ) (region : Area) (boxes : Part) (overlaps : Pair) (ghosts : List IVec) (fixed : List ℕ) (w : Scheduling) (r : ℕ) where
  pub edges_with : (p : Pair) → HasLevels rank ranks region boxes overlaps (Some p) ghosts fixed w r
      → HasEdges rank region boxes overlaps p.forth.head_ratio p.forth.edges p.back.edges ghosts fixed w r
  edges_with p h =
      let same : p ≡ down_pair w r = h.same_below in
      record {
        is = h.is;
        same_rank = h.same_rank;
        within = h.within;
        same_region = h.same_region;
        same_part = h.same_part;
        same_selves = h.same_selves;
        same_ratio = ap (λ (v : Pair). v.forth.head_ratio) same;
        same_forth = ap (λ (v : Pair). v.forth.edges) same;
        same_back = ap (λ (v : Pair). v.back.edges) same;
        same_ghosts = h.same_ghosts;
        same_fixed = h.same_fixed;
      }

  pub edges_without : HasLevels rank ranks region boxes overlaps None ghosts fixed w r → HasEdges rank region boxes overlaps overlaps.forth.base_ratio [] [] ghosts fixed w r
  edges_without h =
      let none = h.same_below in
      record {
        is = h.is;
        same_rank = h.same_rank;
        within = h.within;
        same_region = h.same_region;
        same_part = h.same_part;
        same_selves = h.same_selves;
        same_ratio = ap (λ (v : Pair). v.forth.base_ratio) h.same_selves ∙ sym none.1;
        same_forth =
            sym (ap (λ (l : List Owned). of_rank r (true_overlaps (scale w.region.frame w.reach w.ratio w.below) w.level l)) none.0
            ∙ no_downs (scale w.region.frame w.reach w.ratio w.below) r w.level);
        same_back =
            sym (ap (λ (l : List Owned). of_rank r (true_overlaps (scale w.region.frame w.reach w.below w.ratio) l w.level)) none.0
            ∙ no_ups (scale w.region.frame w.reach w.below w.ratio) r w.level);
        same_ghosts = h.same_ghosts;
        same_fixed = h.same_fixed;
      }

module _ (rank : ℕ) (region : Area) (boxes : Part) (overlaps : Pair) (ratio_below : IVec) (forth back : List Link) (ghosts : List IVec) (fixed : List ℕ) (w : Scheduling) (r : ℕ)
    (h : HasEdges rank region boxes overlaps ratio_below forth back ghosts fixed w r) where
  ground_is : (n : Ground) → n.domain ≡ finer_area region overlaps.forth.base_ratio → n.below ≡ finer region.frame ratio_below
      → ((step : IVec) → IsRatio step → times ratio_below step ≡ overlaps.forth.base_ratio → n.step ≡ step) → n ≡ ground_of w
  ground_is n domain below step =
      let ratio : overlaps.forth.base_ratio ≡ w.ratio = ap (λ (v : Pair). v.forth.base_ratio) h.same_selves in
      same_ground n.domain (domain_of w) n.below (coarse_frame w) n.step w.step
      (domain ∙ ap (λ (a : Area). finer_area a overlaps.forth.base_ratio) h.same_region ∙ ap (λ (v : IVec). finer_area w.region v) ratio)
      (below ∙ ap (λ (a : Area). finer a.frame ratio_below) h.same_region ∙ ap (λ (v : IVec). finer w.region.frame v) h.same_ratio)
      (step w.step h.is.step (ap (λ (v : IVec). times v w.step) h.same_ratio ∙ h.is.product ∙ sym ratio))
    where
      same_ground : (a a' : Area) (b b' : Space) (c c' : IVec) → a ≡ a' → b ≡ b' → c ≡ c'
          → (let n : Ground = record { domain = a; below = b; step = c } in n) ≡ record { domain = a'; below = b'; step = c' }
      same_ground a a' b b' c c' e f g = rw (e, f, g) refl

  pub made_is : (n : Ground) (near : List Link) (bs : List Corners) (frame1 below1 : Space) (step1 : IVec) (plans : List BoxPlan) (close under senders fixed1 : List ℕ) (near2 : List Link)
      → n.domain ≡ finer_area region overlaps.forth.base_ratio → n.below ≡ finer region.frame ratio_below
      → ((step : IVec) → IsRatio step → times ratio_below step ≡ overlaps.forth.base_ratio → n.step ≡ step)
      → near ≡ overlaps.forth.edges → bs ≡ boxes.boxes
      → plans ≡ map (λ b. plan_by n ghosts near forth (record { owner = rank; bx = b })) bs
      → frame1 ≡ n.domain.frame → below1 ≡ n.below → step1 ≡ n.step
      → near2 ≡ overlaps.forth.edges → close ≡ other_owners rank near2 → under ≡ other_owners rank forth → senders ≡ other_owners rank back → fixed1 ≡ fixed
      → HasPlans rank frame1 below1 step1 plans close under senders fixed1 w r
  made_is n near bs frame1 below1 step1 plans close under senders fixed1 near2 domain below step near_is bs_is plans_is f b s again q a c x =
      let ground = ground_is n domain below step in
      record {
        is = h.is;
        same_rank = h.same_rank;
        within = h.within;
        same_frame = f ∙ ap (λ (v : Ground). v.domain.frame) ground;
        same_below = b ∙ ap (λ (v : Ground). v.below) ground;
        same_step = s ∙ ap (λ (v : Ground). v.step) ground;
        same_boxes =
            plans_is
            ∙ ap (λ (l : List Corners). map (λ b. plan_by n ghosts near forth (record { owner = rank; bx = b })) l) (bs_is ∙ ap (λ (p : Part). p.boxes) h.same_part)
            ∙ ap (λ (k : ℕ). map (λ b. plan_by n ghosts near forth (record { owner = k; bx = b })) (part w.level r).boxes) h.same_rank
            ∙ ap (λ (v : Ground). map (λ b. plan_by v ghosts near forth (record { owner = r; bx = b })) (part w.level r).boxes) ground
            ∙ ap (λ (l : List IVec). map (λ b. plan_by (ground_of w) l near forth (record { owner = r; bx = b })) (part w.level r).boxes) h.same_ghosts
            ∙ ap (λ (l : List Link). map (λ b. plan_by (ground_of w) w.ghosts l forth (record { owner = r; bx = b })) (part w.level r).boxes)
            (near_is ∙ ap (λ (v : Pair). v.forth.edges) h.same_selves)
            ∙ ap (λ (l : List Link). map (λ b. plan_by (ground_of w) w.ghosts (selves w r) l (record { owner = r; bx = b })) (part w.level r).boxes) h.same_forth
            ∙ plans_are w h.is r;
        same_near = q ∙ ap (λ (k : ℕ). other_owners k near2) h.same_rank ∙ ap (other_owners r) (again ∙ ap (λ (v : Pair). v.forth.edges) h.same_selves);
        same_under = a ∙ ap (λ (k : ℕ). other_owners k forth) h.same_rank ∙ ap (other_owners r) h.same_forth;
        same_senders = c ∙ ap (λ (k : ℕ). other_owners k back) h.same_rank ∙ ap (other_owners r) h.same_back;
        same_fixed = x ∙ h.same_fixed;
      }
