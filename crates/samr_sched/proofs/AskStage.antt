-- A rank's stage against its part of the schedule.
use Rattle.std.proofs.Common.{◌≡◌, ℕ, refl, sym, ap, ◌∙◌, length, sum_by, map}
use Rattle.std.specs.Prelude.{List, [], ◌∷◌}
use Rattle.samr_box.specs.declared.vector.IVec.{IVec}
use Rattle.samr_box.specs.Space.{Space}
use Rattle.samr_stage.specs.declared.stage.Held.{Held}
use Rattle.samr_stage.specs.Row.{told, heard, column}
use Rattle.samr_peers.specs.Peers.{other_owners, peer_row, AreTransposes}
use Rattle.samr_peers.proofs.PeerRows.{letters_are, held_are, count_is}
use Rattle.samr_peers.proofs.PairTurns.{pair_turns}
use Rattle.samr_sched.specs.declared.plan.Request.{Request}
use Rattle.samr_sched.specs.declared.plan.BoxPlan.{BoxPlan}
use Rattle.samr_sched.specs.declared.plan.Asked.{Asked}
use Rattle.samr_sched.specs.declared.plan.Plan.{Plan}
use Rattle.samr_sched.specs.Ask.{Scheduling, downs, ups}
use Rattle.samr_sched.specs.Plans.{box_plans, requests, others, plan_of}
use Rattle.samr_sched.specs.PlansOfParts.{requests_by}
use Rattle.samr_sched.specs.AskRow.{ask_row}
use Rattle.samr_sched.specs.AskParts.{CanPlan, HasPlans}

row_is : (w : Scheduling) → ask_row w ≡ peer_row w.ranks (downs w) (requests w)
unfolding ask_row
row_is w = refl

edges_turn : (w : Scheduling) → CanPlan w → AreTransposes w.ranks (downs w) (ups w)
edges_turn w h = pair_turns w.region.frame w.reach w.ratio w.below w.level w.coarser w.ranks h.owners h.owners_below

requests_are : (w : Scheduling) (r : ℕ) → (λ to. requests_by (box_plans w r) to) ≡ requests w r
unfolding requests requests_by
requests_are w r = refl

abbrev pub kept : Held (List Request) → Asked
kept letter = record { rank = letter.sender; requests = letter.body }

module _ (rank : ℕ) (frame below : Space) (step : IVec) (boxes : List BoxPlan) (near under senders fixed : List ℕ) (w : Scheduling) (r : ℕ)
    (h : HasPlans rank frame below step boxes near under senders fixed w r) where
  pub tells : map (λ to. (to, requests_by boxes to)) under ≡ told (ask_row w r) w.ranks
  tells =
      ap (map (λ (to : ℕ). (to, requests_by boxes to))) h.same_under
      ∙ ap (λ (l : List BoxPlan). map (λ (to : ℕ). (to, requests_by l to)) (other_owners r (downs w r))) h.same_boxes
      ∙ ap (λ (f : ℕ → List Request). map (λ (to : ℕ). (to, f to)) (other_owners r (downs w r))) (requests_are w r)
      ∙ sym (letters_are w.ranks (downs w) (ups w) (requests w) (edges_turn w h.is) r h.within)
      ∙ ap (λ row. told (row r) w.ranks) (sym (row_is w))

  pub awaits : length senders ≡ sum_by (λ (held : Held (List Request)). 1) (heard (column (ask_row w) r) w.ranks)
  awaits =
      ap length h.same_senders
      ∙ count_is w.ranks (downs w) (ups w) (requests w) (edges_turn w h.is) r h.within
      ∙ ap (λ row. sum_by (λ (held : Held (List Request)). 1) (heard (column row r) w.ranks)) (sym (row_is w))

  others_are : map kept (heard (column (ask_row w) r) w.ranks) ≡ others w r
  unfolding others
  others_are =
      ap (λ row. map kept (heard (column row r) w.ranks)) (row_is w)
      ∙ ap (map kept) (held_are w.ranks (downs w) (ups w) (requests w) (edges_turn w h.is) r h.within)
      ∙ map_map kept (λ from. let letter : Held (List Request) = record { sender = from; body = requests w from r } in letter) (other_owners r (ups w r))
    where
      map_map : {X Y Z : Type 0} (g : Y → Z) (f : X → Y) (xs : List X) → map g (map f xs) ≡ map (λ x. g (f x)) xs
      map_map g f [] = refl
      map_map {X} {Y} {Z} g f (x ∷ xs) = ap (λ (l : List Z). g (f x) ∷ l) (map_map g f xs)

  pub ends : (held : List (Held (List Request))) (rank1 : ℕ) (frame1 below1 : Space) (step1 : IVec) (near1 under1 : List ℕ) (boxes1 : List BoxPlan) (others1 : List Asked) (fixed1 : List ℕ)
      → held ≡ heard (column (ask_row w) r) w.ranks
      → rank1 ≡ rank → frame1 ≡ frame → below1 ≡ below → step1 ≡ step → near1 ≡ near → under1 ≡ under → boxes1 ≡ boxes → others1 ≡ map kept held → fixed1 ≡ fixed
      → (let p : Plan = record { rank = rank1; frame = frame1; below = below1; step = step1; near = near1; under = under1; boxes = boxes1; others = others1; fixed = fixed1 } in p) ≡ plan_of w r
  ends held rank1 frame1 below1 step1 near1 under1 boxes1 others1 fixed1 are a b c d n u e f g =
      same (a ∙ h.same_rank) (b ∙ h.same_frame) (c ∙ h.same_below) (d ∙ h.same_step) (n ∙ h.same_near) (u ∙ h.same_under) (e ∙ h.same_boxes) (f ∙ ap (map kept) are ∙ others_are) (g ∙ h.same_fixed)
    where
      same : {a a' : ℕ} {b b' c c' : Space} {d d' : IVec} {n n' u u' : List ℕ} {e e' : List BoxPlan} {f f' : List Asked} {g g' : List ℕ}
          → a ≡ a' → b ≡ b' → c ≡ c' → d ≡ d' → n ≡ n' → u ≡ u' → e ≡ e' → f ≡ f' → g ≡ g'
          → (let p : Plan = record { rank = a; frame = b; below = c; step = d; near = n; under = u; boxes = e; others = f; fixed = g } in p)
          ≡ record { rank = a'; frame = b'; below = c'; step = d'; near = n'; under = u'; boxes = e'; others = f'; fixed = g' }
      same a b c d n u e f g = rw (a, b, c, d, n, u, e, f, g) refl
