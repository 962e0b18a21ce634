-- The stages of all ranks, made one after another in order of rank, and what they give.
use Rattle.std.proofs.Common.{◌≡◌, ℕ, ◌<◌, List, [], ◌∷◌, ◌++◌, length, get_or, sym, ap, ◌∙◌, refl, subst, arith, inl, inr, Some, slice_get, map}
use Rattle.std.proofs.lemmas.Option.{slice_get-get_or}
use Rattle.std.proofs.lemmas.List.FromFn.{length-map-range_with_len, get_or-map-range_with_len, fill_by_all}
use Rattle.std.specs.List.{range_with_len}
use Rattle.samr_box.specs.declared.vector.IVec.{IVec}
use Rattle.samr_box.specs.Vector.{greatest}
use Rattle.samr_box.specs.Space.{Space, IsSpace, finer}
use Rattle.samr_stage.specs.Exchange.{AreResults}
use Rattle.samr_stage.proofs.Mailboxes.{slice_get-push_cases}
use Rattle.samr_level.specs.declared.parts.Pair.{Pair}
use Rattle.samr_bridge.specs.Bridge.{Bridging, IsBridge}
use Rattle.samr_bridge.specs.Found.{east_pair, west_pair, bridge_pair}
use Rattle.samr_bridge.specs.BridgeParts.{HasPairs, HaveAllPairs}

-- one more element, at the place that is its number
pub each_more : {X : Type 0} (P : ℕ → X → Type 0) (xs ys : List X) (n : ℕ) (x : X) → length xs ≡ n → ((k : ℕ) (y : X) → slice_get xs k ≡ Some y → P k y) → P n x
    → ys ≡ xs ++ x ∷ [] → (k : ℕ) (y : X) → slice_get ys k ≡ Some y → P k y
each_more P xs ys n x len before here is k y got =
    elim (slice_get-push_cases xs x y k (ap (λ zs. slice_get zs k) (sym is) ∙ got)) [
      | inl last ↦ subst (λ m. P m y) (sym (last.0 ∙ len)) (subst (P n) last.1 here)
      | inr there ↦ before k y there
    ]

module _ (frame : Space) (east west : List Pair) (width : IVec) (w : Bridging) (h : HaveAllPairs frame east west width w) where
  pub ranks_east : length east ≡ w.ranks
  ranks_east = ap length h.same_east ∙ length-map-range_with_len (λ rank. east_pair w rank) 0 w.ranks

  pub ranks_west : length west ≡ w.ranks
  ranks_west = ap length h.same_west ∙ length-map-range_with_len (λ rank. west_pair w rank) 0 w.ranks

  -- a rank's pairs among all
  pub part_east : (rank place : ℕ) (e : Pair) → rank < w.ranks → place ≡ rank → e ≡ get_or east place e → e ≡ east_pair w rank
  part_east rank place e within same is =
      is ∙ ap (λ (l : List Pair). get_or l place e) h.same_east
      ∙ get_or-map-range_with_len (λ rank. east_pair w rank) 0 w.ranks place rank e (omega arith) (omega arith)

  pub part_west : (rank place : ℕ) (e : Pair) → rank < w.ranks → place ≡ rank → e ≡ get_or west place e → e ≡ west_pair w rank
  part_west rank place e within same is =
      is ∙ ap (λ (l : List Pair). get_or l place e) h.same_west
      ∙ get_or-map-range_with_len (λ rank. west_pair w rank) 0 w.ranks place rank e (omega arith) (omega arith)

  pub part : (rank ranks : ℕ) (e v : Pair) → rank < w.ranks → ranks ≡ w.ranks → e ≡ east_pair w rank → v ≡ west_pair w rank → HasPairs rank ranks frame e v width w rank
  part rank ranks e v within same p q = record {
    owned = h.owned;
    same_rank = refl;
    same_ranks = same;
    within = within;
    same_frame = h.same_frame;
    same_east = p;
    same_west = q;
    same_width = h.same_width;
  }

  -- the frame of the finer level, by the ratios of a rank's pairs
  pub part_frame : (rank : ℕ) (e v : Pair) → e ≡ east_pair w rank → v ≡ west_pair w rank → IsSpace (finer frame (greatest e.forth.base_ratio v.forth.head_ratio))
  part_frame rank e v p q =
      subst (λ (s : Space). IsSpace (finer s (greatest e.forth.base_ratio v.forth.head_ratio))) (sym h.same_frame)
      (subst (λ (x : Pair). IsSpace (finer w.frame (greatest x.forth.base_ratio v.forth.head_ratio))) (sym p)
      (subst (λ (x : Pair). IsSpace (finer w.frame (greatest w.east_ratio x.forth.head_ratio))) (sym q) h.finer_frame))

  -- what the ranks have in the end
  pub all_have : (outs : List Pair) → length outs ≡ w.ranks → AreResults (λ w rank out. IsBridge w → out ≡ bridge_pair w rank) w outs → IsBridge w
      → outs ≡ map (λ rank. bridge_pair w rank) (range_with_len 0 w.ranks)
  all_have outs len results bridge =
      fill_by_all (λ rank. bridge_pair w rank) outs w.ranks (bridge_pair w 0) len
      (λ k below. results k (get_or outs k (bridge_pair w 0)) (slice_get-get_or outs k (bridge_pair w 0) (omega (arith, len))) bridge)
