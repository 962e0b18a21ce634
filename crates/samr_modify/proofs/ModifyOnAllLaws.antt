-- The stages of all ranks, made one after another in order of rank, and what they give.
use Rattle.std.proofs.Common.{◌≡◌, ℕ, ◌<◌, List, [], ◌∷◌, ◌++◌, length, get_or, sym, ap, ◌∙◌, refl, subst, arith, inl, inr, Some, slice_get, map}
use Rattle.std.proofs.lemmas.Option.{slice_get-get_or, slice_get-map}
use Rattle.std.proofs.lemmas.List.FromFn.{length-map-range_with_len, get_or-map-range_with_len, fill_by_all}
use Rattle.std.proofs.lemmas.List.{length-map}
use Rattle.std.specs.List.{range_with_len}
use Rattle.std.specs.Option.{option_map}
use Rattle.samr_box.specs.Vector.{greatest, InRange}
use Rattle.samr_box.specs.Space.{Space, IsSpace, finer}
use Rattle.samr_stage.specs.Exchange.{AreResults}
use Rattle.samr_stage.proofs.Mailboxes.{slice_get-push_cases}
use Rattle.samr_level.specs.declared.parts.Mapping.{Mapping}
use Rattle.samr_level.specs.declared.parts.Pair.{Pair}
use Rattle.samr_modify.specs.Pieces.{Piece}
use Rattle.samr_modify.specs.Modify.{Modifying, IsModifying, old_pair, modify_pair}
use Rattle.samr_modify.specs.Entries.{moves_of}
use Rattle.samr_modify.specs.ModifyParts.{ArePieces, HasParts, HaveAllParts}

-- one more element, at the place that is its number
pub each_more : {X : Type 0} (P : ℕ → X → Type 0) (xs ys : List X) (n : ℕ) (x : X) → length xs ≡ n → ((k : ℕ) (y : X) → slice_get xs k ≡ Some y → P k y) → P n x
    → ys ≡ xs ++ x ∷ [] → (k : ℕ) (y : X) → slice_get ys k ≡ Some y → P k y
each_more P xs ys n x len before here is k y got =
    elim (slice_get-push_cases xs x y k (ap (λ zs. slice_get zs k) (sym is) ∙ got)) [
      | inl last ↦ subst (λ m. P m y) (sym (last.0 ∙ len)) (subst (P n) last.1 here)
      | inr there ↦ before k y there
    ]

-- the member at a place, also of a list made from it
at_rank : {X Y : Type 0} (f : X → Y) (xs : List X) (rank place : ℕ) (x : X) → rank < length xs → place ≡ rank → x ≡ get_or xs place x → slice_get (map f xs) rank ≡ Some (f x)
at_rank f xs rank place x within same is =
    slice_get-map f xs rank
    ∙ ap (option_map f) (slice_get-get_or xs rank x within ∙ ap (λ (k : ℕ). Some (get_or xs k x)) (sym same) ∙ ap Some (sym is))

module _ (frame : Space) (anchors : List Pair) (mappings : List Mapping) (pieces : List (List Piece)) (w : Modifying) (h : HaveAllParts frame anchors mappings pieces w) where
  mapping_of : ℕ → Mapping
  mapping_of rank = record { entries = moves_of rank w.moves }

  pub ranks_anchors : length anchors ≡ w.ranks
  ranks_anchors = ap length h.same_anchors ∙ length-map-range_with_len (λ rank. old_pair w rank) 0 w.ranks

  pub ranks_mappings : length mappings ≡ w.ranks
  unfolding mapping_of
  ranks_mappings = ap length h.same_mappings ∙ length-map-range_with_len (λ rank. mapping_of rank) 0 w.ranks

  pub ranks_pieces : {X : Type 0} (items : X → List Piece) (news : List X) → pieces ≡ map items news → length news ≡ w.ranks
  ranks_pieces items news same = sym (ap length same ∙ length-map news items) ∙ h.same_ranks

  -- a rank's parts among all
  pub part_anchor : (rank place : ℕ) (a : Pair) → rank < w.ranks → place ≡ rank → a ≡ get_or anchors place a → a ≡ old_pair w rank
  part_anchor rank place a within same is =
      is ∙ ap (λ (l : List Pair). get_or l place a) h.same_anchors
      ∙ get_or-map-range_with_len (λ rank. old_pair w rank) 0 w.ranks place rank a (omega arith) (omega arith)

  part_mapping : (rank place : ℕ) (m : Mapping) → rank < w.ranks → place ≡ rank → m ≡ get_or mappings place m → m ≡ record { entries = moves_of rank w.moves }
  unfolding mapping_of
  part_mapping rank place m within same is =
      is ∙ ap (λ (l : List Mapping). get_or l place m) h.same_mappings
      ∙ get_or-map-range_with_len (λ rank. mapping_of rank) 0 w.ranks place rank m (omega arith) (omega arith)

  part_pieces : {X : Type 0} (items : X → List Piece) (news : List X) → pieces ≡ map items news
      → (rank place : ℕ) (x : X) → rank < w.ranks → place ≡ rank → x ≡ get_or news place x → ArePieces w rank (items x)
  part_pieces items news made rank place x within same is =
      let count = ranks_pieces items news made in
      h.are_pieces rank (items x) (ap (λ (l : List (List Piece)). slice_get l rank) made ∙ at_rank items news rank place x (omega (arith, count)) same is)

  pub part : {X : Type 0} (items : X → List Piece) (news : List X) → pieces ≡ map items news
      → (rank ranks place : ℕ) (a : Pair) (m : Mapping) (x : X) (own : List Piece) → rank < w.ranks → ranks ≡ w.ranks → place ≡ rank
      → a ≡ get_or anchors place a → m ≡ get_or mappings place m → x ≡ get_or news place x → own ≡ items x → HasParts rank ranks frame a m.entries own w rank
  part items news made rank ranks place a m x own within count same p q r mine = record {
    owned = h.owned;
    same_rank = refl;
    same_ranks = count;
    within = within;
    same_frame = h.same_frame;
    same_anchor = part_anchor rank place a within same p;
    same_moves = ap (λ (v : Mapping). v.entries) (part_mapping rank place m within same q);
    are_pieces = subst (λ (l : List Piece). ArePieces w rank l) (sym mine) (part_pieces items news made rank place x within same r);
  }

  -- the width, and the frame of the finer level, by a rank's pair
  pub part_width : (rank : ℕ) (a : Pair) → a ≡ old_pair w rank → InRange a.forth.width
  part_width rank a p = subst (λ (x : Pair). InRange x.forth.width) (sym p) h.width

  pub part_frame : (rank : ℕ) (a : Pair) → a ≡ old_pair w rank → IsSpace (finer frame (greatest a.forth.base_ratio a.forth.head_ratio))
  part_frame rank a p =
      subst (λ (s : Space). IsSpace (finer s (greatest a.forth.base_ratio a.forth.head_ratio))) (sym h.same_frame)
      (subst (λ (x : Pair). IsSpace (finer w.frame (greatest x.forth.base_ratio x.forth.head_ratio))) (sym p) h.finer_frame)

  -- what the ranks have in the end
  pub all_have : (outs : List Pair) → length outs ≡ w.ranks → AreResults (λ w rank out. IsModifying w → out ≡ modify_pair w rank) w outs → IsModifying w
      → outs ≡ map (λ rank. modify_pair w rank) (range_with_len 0 w.ranks)
  all_have outs len results modifying =
      fill_by_all (λ rank. modify_pair w rank) outs w.ranks (modify_pair w 0) len
      (λ k below. results k (get_or outs k (modify_pair w 0)) (slice_get-get_or outs k (modify_pair w 0) (omega (arith, len))) modifying)
