use Rattle.std.proofs.Common.{◌<◌, subst, ◌∙◌, ap, sym, arith, refl, length, map}
use Rattle.std.proofs.lemmas.List.FromFn.{length-map-range_with_len}
use Rattle.std.specs.List.{All}
use Rattle.samr_box.specs.Corners.{IsBox}
use Rattle.samr_box.proofs.Members.{member_of_All}
use Rattle.samr_level.specs.Refs.{Owned}
use Rattle.samr_level.specs.Pairs.{pair}
use Rattle.samr_modify.specs.Pieces.{pieces_of}
use Rattle.samr_modify.specs.Modify.{Modifying}
use Rattle.samr_trials_stages.proofs.AllPieces.{all_pieces_are}
use Rattle.samr_trials_stages.proofs.Owning.{moves_from}
use Rattle.samr_trials_stages.proofs.modifies.modified.Goals as goal

pub modify_all-requires-clause-few : goal.modify_all-requires-clause-few
modify_all-requires-clause-few c =
    let anchor = c.args.anchor.now in
    let old = c.args.old.now in
    let count = ap length (c.as_slice-3.ensures.value ∙ c.in_ok-anchors.ensures)
    ∙ length-map-range_with_len (λ rank. pair c.args.d.now c.args.width anchor.ratio old.ratio anchor.boxes.items old.boxes.items rank) 0 c.args.ranks in
    omega (arith, count, c.ranges.ranks.fits)

pub modify_all-requires-clause-parts : goal.modify_all-requires-clause-parts
modify_all-requires-clause-parts c =
    let anchor = c.args.anchor.now in
    let old = c.args.old.now in
    let moves = c.args.moves.now in
    let ranks = c.args.ranks in
    let w : Modifying = record {
      ranks = ranks;
      frame = c.args.d.now;
      anchors = anchor.boxes.items;
      olds = old.boxes.items;
      moves = moves;
      anchor_ratio = anchor.ratio;
      old_ratio = old.ratio;
      width = c.args.width;
    } in
    let P : Owned → Type 0 = λ b. (b.owner < ranks) × IsBox b.bx in
    let anchors : All P anchor.boxes.items = subst (All P) c.as_slice.ensures.value (c.all_fit.ensures c.if-not-all_fit.false) in
    let olds : All P old.boxes.items = subst (All P) c.as_slice-2.ensures.value (c.all_fit-2.ensures c.if-not-all_fit-2.false) in
    let both = moves_from ranks moves (sym c.owns_moves.ensures ∙ c.if-not-owns_moves.false) in
    let pieces = ap (map (λ v. v.items)) c.as_slice-5.ensures.value ∙ c.in_ok-news.ensures in (
      w,
      record {
        owned = record {
          anchors = λ b m. (member_of_All P b anchor.boxes.items anchors m).0;
          olds = λ b m. (member_of_All P b old.boxes.items olds m).0;
          moved = λ m h. (both m h).0;
          news = λ m h. (both m h).1;
        };
        same_frame = refl;
        same_anchors = c.as_slice-3.ensures.value ∙ c.in_ok-anchors.ensures;
        same_mappings = c.as_slice-4.ensures.value ∙ c.in_ok-mappings.ensures;
        same_ranks = ap length pieces ∙ length-map-range_with_len (λ rank. pieces_of rank moves) 0 ranks;
        are_pieces = all_pieces_are w _ pieces;
        width = c.is_width.ensures.range c.if-not-is_width.false;
        finer_frame = (c.are_comparable.ensures c.if-not-are_comparable.false).forth;
      },
    )
