use Rattle.std.proofs.Common.{ap, ◌∙◌, ◌++◌, map}
use Rattle.std.specs.Prelude.{List}
use Rattle.std.specs.List.{flat_map}
use Rattle.samr_level.specs.declared.parts.Move.{Move}
use Rattle.samr_level.specs.Refs.{Link}
use Rattle.samr_modify.specs.Pieces.{Piece}
use Rattle.samr_modify.specs.Entries.{entry}
use Rattle.samr_modify.specs.ModifyRow.{head_owners, owners, others}
use Rattle.samr_modify.proofs.ModifyStage.{begins}
use Rattle.samr_modify.proofs.modify.Modify.start.Goals as goal

pub returns : goal.returns
returns c = λ w r h.
    let anchor = c.args.anchor.now in
    let rank = c.args.rank in
    let moves = c.args.mapping.now.entries in
    let pieces = c.args.news.now in
    begins rank c.args.ranks c.args.d.now anchor moves pieces w r h c.finer_frame-frame.result c.new.result c.new-2.result _ _ _ _ c.finer_frame-frame.ensures c.new.ensures c.new-2.ensures
    (c.in_ok-from_slice.ensures.items ∙ c.as_slice-from_anchors.ensures)
    (c.in_ok-known_of.ensures
    ∙ ap (λ (l : List Link). map (λ (m : Move). entry l m) c.as_slice-moves.result.now) c.as_slice-to_anchors.ensures
    ∙ ap (λ (l : List Move). map (λ (m : Move). entry anchor.back.edges m) l) c.as_slice-moves.ensures)
    (c.in_ok-addressees.ensures
    ∙ ap (λ (l : List Link). others rank (head_owners l ++ flat_map (λ (m : Move). owners m.news) c.as_slice-moves.result.now)) c.as_slice-to_anchors.ensures
    ∙ ap (λ (l : List Move). others rank (head_owners anchor.back.edges ++ flat_map (λ (m : Move). owners m.news) l)) c.as_slice-moves.ensures)
    (c.in_ok-senders.ensures
    ∙ ap (λ (l : List Link). others rank (head_owners l ++ map (λ (p : Piece). p.old_owner) pieces)) c.as_slice-from_anchors.ensures)
