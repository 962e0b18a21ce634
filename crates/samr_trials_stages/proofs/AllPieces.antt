-- The new boxes of all ranks, in the order of the moves, are their new boxes.
use Rattle.std.proofs.Common.{◌≡◌, ℕ, ◌<◌, sym, ap, subst, ◌∙◌, arith, inl, inr, Some, slice_get}
use Rattle.std.proofs.lemmas.Option.{slice_get_cases, get_or_from_slice_get}
use Rattle.std.proofs.lemmas.List.FromFn.{length-map-range_with_len, get_or-map-range_with_len}
use Rattle.std.specs.Prelude.{List, map}
use Rattle.std.specs.List.{range_with_len}
use Rattle.samr_modify.specs.Pieces.{Piece, pieces_of}
use Rattle.samr_modify.specs.Modify.{Modifying}
use Rattle.samr_modify.specs.ModifyParts.{ArePieces}
use Rattle.samr_modify.proofs.PieceLaws.{pieces_are}

pub all_pieces_are : (w : Modifying) (pieces : List (List Piece)) → pieces ≡ map (λ rank. pieces_of rank w.moves) (range_with_len 0 w.ranks)
    → (rank : ℕ) (own : List Piece) → slice_get pieces rank ≡ Some own → ArePieces w rank own
all_pieces_are w pieces is rank own got =
    let xs = map (λ rank. pieces_of rank w.moves) (range_with_len 0 w.ranks) in
    let there : slice_get xs rank ≡ Some own = ap (λ (l : List (List Piece)). slice_get l rank) (sym is) ∙ got in
    let count = length-map-range_with_len (λ rank. pieces_of rank w.moves) 0 w.ranks in
    elim (slice_get_cases xs rank).1 [
      | inl (x, within, here, same) ↦
          let below : rank < w.ranks = omega (arith, count, within) in
          let e : own ≡ pieces_of rank w.moves =
          sym (get_or_from_slice_get xs rank own own there) ∙ get_or-map-range_with_len (λ rank. pieces_of rank w.moves) 0 w.ranks rank rank own below (omega arith) in
          subst (λ (l : List Piece). ArePieces w rank l) (sym e) (pieces_are w rank)
      | inr (past, none) ↦ absurd (let e = sym none ∙ there in cc)
    ]
