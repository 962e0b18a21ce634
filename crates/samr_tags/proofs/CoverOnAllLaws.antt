-- The cover's stages of all ranks.
use Rattle.std.proofs.Common.{◌≡◌, ℕ, ◌<◌, List, length, get_or, sym, ap, ◌∙◌, refl, subst, arith, Some}
use Rattle.std.proofs.lemmas.Option.{slice_get-get_or}
use Rattle.std.proofs.lemmas.List.FromFn.{length-map-range_with_len}
use Rattle.samr_box.specs.declared.vector.IVec.{IVec}
use Rattle.samr_box.specs.Space.{Space, IsSpace, finer}
use Rattle.samr_level.specs.declared.parts.Pair.{Pair}
use Rattle.samr_sign.specs.Fields.{Field}
use Rattle.samr_tags.specs.Cover.{Covering}
use Rattle.samr_tags.specs.CoverParts.{down_pair, HasCovers}
use Rattle.samr_tags.specs.CoverOnAll.{HaveAllCovers}
use Rattle.samr_tags.proofs.BufferOnAllLaws.{its_own}

module _ (frame : Space) (fields : List (List Field)) (covers : List Pair) (nest upper lower : IVec) (w : Covering) (h : HaveAllCovers frame fields covers nest upper lower w) where
  pub ranks_covers : length covers ≡ w.ranks
  ranks_covers = ap length h.same_covers ∙ length-map-range_with_len (λ rank. down_pair w rank) 0 w.ranks

  pub its_pair : (rank place : ℕ) (p : Pair) → rank < w.ranks → place ≡ rank → p ≡ get_or covers place p → p ≡ down_pair w rank
  its_pair rank place p within same is = its_own (λ rank. down_pair w rank) w.ranks covers rank place p h.same_covers within same is

  pub its_frame : (rank : ℕ) (p : Pair) → p ≡ down_pair w rank → IsSpace (finer frame p.forth.head_ratio)
  its_frame rank p is =
      subst (λ (s : Space). IsSpace (finer s p.forth.head_ratio)) (sym h.same_frame)
      (subst (λ (x : Pair). IsSpace (finer w.frame x.forth.head_ratio)) (sym is) h.finer_frame)

  pub has_covers : (rank ranks : ℕ) (own : List Field) (p : Pair) → rank < w.ranks → ranks ≡ w.ranks → own ≡ get_or fields rank own → p ≡ down_pair w rank
      → HasCovers rank ranks frame own p nest upper lower w rank
  has_covers rank ranks own p within same mine is = record {
    owned = h.owned;
    same_rank = refl;
    same_ranks = same;
    within = within;
    same_frame = h.same_frame;
    same_tags = h.same_tags rank own
        (let count = h.same_ranks in slice_get-get_or fields rank own (omega (arith, within, count)) ∙ ap (λ (v : List Field). Some v) (sym mine));
    same_pair = is;
    same_nest = h.same_nest;
    same_upper = h.same_upper;
    same_lower = h.same_lower;
  }
