-- The stages of all ranks, made one after another in order of rank.
use Rattle.std.proofs.Common.{◌≡◌, ℕ, ◌<◌, List, [], ◌∷◌, ◌++◌, length, get_or, sym, ap, ◌∙◌, refl, subst, arith, inl, inr, Some, None, slice_get, map}
use Rattle.std.proofs.lemmas.List.FromFn.{length-map-range_with_len, get_or-map-range_with_len}
use Rattle.std.proofs.lemmas.Option.{slice_get-get_or}
use Rattle.std.specs.Prelude.{Option, IfSome}
use Rattle.std.specs.Option.{option_map}
use Rattle.std.specs.List.{All, range_with_len}
use Rattle.samr_box.specs.declared.vector.IVec.{IVec}
use Rattle.samr_box.specs.Corners.{Corners, IsBox, grown}
use Rattle.samr_box.specs.Space.{IsSpace, finer}
use Rattle.samr_box.specs.Lists.{Member}
use Rattle.samr_box.proofs.Members.{All-from_members, Member-from_map}
use Rattle.samr_stage.proofs.Mailboxes.{slice_get-push_cases}
use Rattle.samr_level.specs.declared.parts.Part.{Part}
use Rattle.samr_level.specs.declared.parts.Pair.{Pair}
use Rattle.samr_level.specs.Refs.{Owned}
use Rattle.samr_level.specs.Levels.{own}
use Rattle.samr_level.specs.Regions.{Area}
use Rattle.samr_level.specs.Pairs.{part}
use Rattle.samr_sched.specs.Ask.{Scheduling}
use Rattle.samr_sched.specs.AskParts.{self_pair, down_pair, KnowsBelow, HasLevels}
use Rattle.samr_sched.specs.AskOnAll.{KnowAllBelow, HaveAllLevels}
use Rattle.samr_sched.proofs.PlanLaws.{own_facts}

-- one more element, at the place that is its number
pub each_more : {X : Type 0} (P : ℕ → X → Type 0) (xs ys : List X) (n : ℕ) (x : X) → length xs ≡ n → ((k : ℕ) (y : X) → slice_get xs k ≡ Some y → P k y) → P n x
    → ys ≡ xs ++ x ∷ [] → (k : ℕ) (y : X) → slice_get ys k ≡ Some y → P k y
each_more P xs ys n x len before here is k y got =
    elim (slice_get-push_cases xs x y k (ap (λ zs. slice_get zs k) (sym is) ∙ got)) [
      | inl last ↦ subst (λ m. P m y) (sym (last.0 ∙ len)) (subst (P n) last.1 here)
      | inr there ↦ before k y there
    ]

its_own : {X : Type 0} (of : ℕ → X) (ranks : ℕ) (all : List X) (rank place : ℕ) (x : X) → all ≡ map of (range_with_len 0 ranks) → rank < ranks → place ≡ rank
    → x ≡ get_or all place x → x ≡ of rank
its_own of ranks all rank place x are within same is =
    is ∙ ap (λ l. get_or l place x) are ∙ get_or-map-range_with_len of 0 ranks place rank x (omega arith) (omega arith)

module _ (region : Area) (parts : List Part) (overlaps coarser : List Pair) (ghosts : List IVec) (fixed : List ℕ) (w : Scheduling)
    (h : HaveAllLevels region parts overlaps coarser ghosts fixed w) where
  pub ranks_parts : length parts ≡ w.ranks
  ranks_parts = ap length h.same_parts ∙ length-map-range_with_len (λ rank. part w.level rank) 0 w.ranks

  pub ranks_selves : length overlaps ≡ w.ranks
  ranks_selves = ap length h.same_selves ∙ length-map-range_with_len (λ rank. self_pair w rank) 0 w.ranks

  pub its_part : (rank place : ℕ) (p : Part) → rank < w.ranks → place ≡ rank → p ≡ get_or parts place p → p ≡ part w.level rank
  its_part rank place p within same is = its_own (λ rank. part w.level rank) w.ranks parts rank place p h.same_parts within same is

  pub its_pair : (rank place : ℕ) (p : Pair) → rank < w.ranks → place ≡ rank → p ≡ get_or overlaps place p → p ≡ self_pair w rank
  its_pair rank place p within same is = its_own (λ rank. self_pair w rank) w.ranks overlaps rank place p h.same_selves within same is

  -- the ranges that a stage asks for
  pub its_frame : (rank : ℕ) (p : Pair) → p ≡ self_pair w rank → IsSpace (finer region.frame p.forth.base_ratio)
  its_frame rank p is =
      subst (λ (a : Area). IsSpace (finer a.frame p.forth.base_ratio)) (sym h.same_region)
      (subst (λ (x : Pair). IsSpace (finer w.region.frame x.forth.base_ratio)) (sym is) h.is.area.frame)

  pub its_frame_below : (rank : ℕ) (p : Pair) → p ≡ down_pair w rank → IsSpace (finer region.frame p.forth.head_ratio)
  its_frame_below rank p is =
      subst (λ (a : Area). IsSpace (finer a.frame p.forth.head_ratio)) (sym h.same_region)
      (subst (λ (x : Pair). IsSpace (finer w.region.frame x.forth.head_ratio)) (sym is) h.is.space_below)

  pub its_room : (rank : ℕ) (p : Part) → p ≡ part w.level rank → All (λ b. All (λ width. IsBox (grown b width)) ghosts) p.boxes
  its_room rank p is =
      let P : Corners → Type 0 = λ b. All (λ width. IsBox (grown b width)) ghosts in
      subst (λ (v : Part). All P v.boxes) (sym is)
      (All-from_members P (part w.level rank).boxes
      (λ b m.
      let o = Member-from_map (λ (v : Owned). v.bx) b (own rank w.level) m in
      All-from_members (λ (width : IVec). IsBox (grown b width)) ghosts
      (λ g n.
      subst (λ (v : Corners). IsBox (grown v g)) (sym o.2)
      (h.is.room g o.0 (subst (λ (l : List IVec). Member g l) h.same_ghosts n) (own_facts w h.is rank o.0 o.1).0))))

  pub has_levels : (rank ranks : ℕ) (p : Part) (q : Pair) (below : Option Pair) → rank < w.ranks → ranks ≡ w.ranks → p ≡ part w.level rank → q ≡ self_pair w rank
      → KnowsBelow below w rank → HasLevels rank ranks region p q below ghosts fixed w rank
  has_levels rank ranks p q below within same its pair knows = record {
    is = h.is;
    same_rank = refl;
    same_ranks = same;
    within = within;
    same_region = h.same_region;
    same_part = its;
    same_selves = pair;
    same_below = knows;
    same_ghosts = h.same_ghosts;
    same_fixed = h.same_fixed;
  }

  -- what a rank finds of the level below
  pub its_below : (rank place : ℕ) (below : Option Pair) → rank < w.ranks → place ≡ rank → below ≡ slice_get coarser place → KnowsBelow below w rank
  its_below rank place below within same is = by h.same_below
    where
      own_below : slice_get (map (λ rank. down_pair w rank) (range_with_len 0 w.ranks)) rank ≡ Some (down_pair w rank)
      own_below =
          slice_get-get_or (map (λ rank. down_pair w rank) (range_with_len 0 w.ranks)) rank (down_pair w rank)
          (let n = length-map-range_with_len (λ rank. down_pair w rank) 0 w.ranks in omega (arith, n, within))
          ∙ ap (λ (p : Pair). Some p) (get_or-map-range_with_len (λ rank. down_pair w rank) 0 w.ranks rank rank (down_pair w rank) (omega arith) (omega arith))

      by : KnowAllBelow coarser w → KnowsBelow below w rank
      by (inl some) =
          subst (λ (o : Option Pair). KnowsBelow o w rank)
          (sym (is ∙ ap (λ (l : List Pair). slice_get l place) some ∙ ap (slice_get (map (λ rank. down_pair w rank) (range_with_len 0 w.ranks))) same ∙ own_below))
          refl
      by (inr none) =
          let last : below ≡ None = is ∙ ap (λ (l : List Pair). slice_get l place) none.0 in
          subst (λ (o : Option Pair). KnowsBelow o w rank) (sym last) (none.1, none.2, none.3)

  pub its_space : (rank : ℕ) (below : Option Pair) → KnowsBelow below w rank → IfSome below (λ p. IsSpace (finer region.frame p.forth.head_ratio))
  its_space rank (Some p) knows = its_frame_below rank p knows
  its_space rank None knows = tt

pub if_mapped : {B : Type 0} (f : B → Pair) (P : Pair → Type 0) (o : Option B) → IfSome (option_map f o) P → IfSome o (λ b. P (f b))
if_mapped f P None h = h
if_mapped f P (Some b) h = h
