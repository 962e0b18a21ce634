-- The stages of all ranks, made one after another in order of rank.
use Rattle.std.proofs.Common.{◌≡◌, ℕ, ◌<◌, List, [], ◌∷◌, ◌++◌, length, get_or, sym, ap, ◌∙◌, refl, subst, arith, inl, inr, Some, slice_get, map}
use Rattle.std.proofs.lemmas.List.FromFn.{length-map-range_with_len, get_or-map-range_with_len}
use Rattle.std.specs.Prelude.{Bool}
use Rattle.std.specs.List.{range_with_len}
use Rattle.samr_box.specs.declared.vector.IVec.{IVec}
use Rattle.samr_box.specs.Corners.{Corners}
use Rattle.samr_box.specs.Space.{Space, IsSpace, finer}
use Rattle.samr_stage.proofs.Mailboxes.{slice_get-push_cases}
use Rattle.samr_level.specs.declared.parts.Part.{Part}
use Rattle.samr_level.specs.declared.parts.Pair.{Pair}
use Rattle.samr_level.specs.Pairs.{part}
use Rattle.samr_tags.specs.Buffer.{Tagging}
use Rattle.samr_tags.specs.BufferParts.{self_pair, HasSelves}
use Rattle.samr_tags.specs.BufferOnAll.{HaveAllSelves}

-- one more element, at the place that is its number
pub each_more : {X : Type 0} (P : ℕ → X → Type 0) (xs ys : List X) (n : ℕ) (x : X) → length xs ≡ n → ((k : ℕ) (y : X) → slice_get xs k ≡ Some y → P k y) → P n x
    → ys ≡ xs ++ x ∷ [] → (k : ℕ) (y : X) → slice_get ys k ≡ Some y → P k y
each_more P xs ys n x len before here is k y got =
    elim (slice_get-push_cases xs x y k (ap (λ zs. slice_get zs k) (sym is) ∙ got)) [
      | inl last ↦ subst (λ m. P m y) (sym (last.0 ∙ len)) (subst (P n) last.1 here)
      | inr there ↦ before k y there
    ]

-- a rank's own among what all have
pub its_own : {X : Type 0} (of : ℕ → X) (ranks : ℕ) (all : List X) (rank place : ℕ) (x : X) → all ≡ map of (range_with_len 0 ranks) → rank < ranks → place ≡ rank
    → x ≡ get_or all place x → x ≡ of rank
its_own of ranks all rank place x are within same is =
    is ∙ ap (λ l. get_or l place x) are ∙ get_or-map-range_with_len of 0 ranks place rank x (omega arith) (omega arith)

module _ (frame : Space) (parts : List Part) (overlaps : List Pair) (shape : IVec → Bool) (buffer : IVec) (w : Tagging) (h : HaveAllSelves frame parts overlaps shape buffer w) where
  pub ranks_parts : length parts ≡ w.ranks
  ranks_parts = ap length h.same_parts ∙ length-map-range_with_len (λ rank. part w.level rank) 0 w.ranks

  pub ranks_selves : length overlaps ≡ w.ranks
  ranks_selves = ap length h.same_selves ∙ length-map-range_with_len (λ rank. self_pair w rank) 0 w.ranks

  pub its_part : (rank place : ℕ) (p : Part) → rank < w.ranks → place ≡ rank → p ≡ get_or parts place p → p ≡ part w.level rank
  its_part rank place p within same is = its_own (λ rank. part w.level rank) w.ranks parts rank place p h.same_parts within same is

  pub its_pair : (rank place : ℕ) (p : Pair) → rank < w.ranks → place ≡ rank → p ≡ get_or overlaps place p → p ≡ self_pair w rank
  its_pair rank place p within same is = its_own (λ rank. self_pair w rank) w.ranks overlaps rank place p h.same_selves within same is

  pub has_selves : (rank ranks : ℕ) (boxes : List Corners) (p : Pair) → rank < w.ranks → ranks ≡ w.ranks → boxes ≡ (part w.level rank).boxes → p ≡ self_pair w rank
      → HasSelves rank ranks frame boxes p shape buffer w rank
  has_selves rank ranks boxes p within same own is = record {
    owned = h.owned;
    same_rank = refl;
    same_ranks = same;
    within = within;
    same_frame = h.same_frame;
    same_boxes = own;
    same_selves = is;
    same_buffer = h.same_buffer;
    same_shape = λ b x m owner hx. h.same_shape b x m hx;
  }

  pub its_frame : (rank : ℕ) (p : Pair) → p ≡ self_pair w rank → IsSpace (finer frame p.forth.base_ratio)
  its_frame rank p is =
      subst (λ (s : Space). IsSpace (finer s p.forth.base_ratio)) (sym h.same_frame)
      (subst (λ (x : Pair). IsSpace (finer w.frame x.forth.base_ratio)) (sym is) h.finer_frame)
