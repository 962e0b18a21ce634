use Rattle.std.proofs.Common.{◌∙◌, sym, subst}
use Rattle.std.specs.Prelude.{List}
use Rattle.std.specs.List.{All}
use Rattle.samr_box.specs.Corners.{Corners}
use Rattle.samr_box.specs.Vector.{InRange, AtMost}
use Rattle.samr_stage.specs.declared.stage.Held.{Held}
use Rattle.samr_level.specs.Levels.{own_boxes}
use Rattle.samr_sign.specs.Fields.{AreTags}
use Rattle.samr_tags.specs.declared.seen.Seen.{Seen}
use Rattle.samr_tags.specs.Buffer.{tags_of}
use Rattle.samr_tags.specs.Marking.{AreMarked}
use Rattle.samr_tags.proofs.BufferStage.{seen_fit, heard_fit, ends}
use Rattle.samr_tags.proofs.buffer.BufferStage.finish.Goals as goal

pub all_marked-requires-clause-own : goal.all_marked-requires-clause-own
all_marked-requires-clause-own c =
    let w = c.requires.0 in
    let h = c.requires.2 in
    subst (All (λ (one : Seen). All InRange one.cells)) (sym (c.as_slice-2.ensures.value ∙ h.same_own))
    (seen_fit w h.owned (subst (AtMost _) h.same_buffer h.low) c.requires.1)

pub all_marked-requires-clause-held : goal.all_marked-requires-clause-held
all_marked-requires-clause-held c =
    let w = c.requires.0 in
    let h = c.requires.2 in
    heard_fit w h.owned (subst (AtMost _) h.same_buffer h.low) c.requires.1 h.within c.as_slice-3.result.now (c.as_slice-3.ensures.value ∙ c.requires.3)

pub all_marked-requires-clause-low : goal.all_marked-requires-clause-low
all_marked-requires-clause-low c = c.requires.2.low

pub all_marked-requires-clause-range : goal.all_marked-requires-clause-range
all_marked-requires-clause-range c = c.requires.2.range

pub returns : goal.returns
returns c = λ w r h held t.
    let self = c.args.self in
    let made = c.in_ok-fields.ensures in
    let Made : List Seen → List (Held (List Seen)) → List Corners → Type 0 = λ mine letters boxes.
    AreMarked self.frame self.buffer self.rank mine letters boxes c.in_ok-fields.fields.items in
    subst (AreTags (own_boxes r w.level) (tags_of w)) (sym c.from_vec.ensures)
    (ends self.rank self.frame self.buffer self.boxes.items self.own.items self.peers.items w r h c.args.held.items held c.in_ok-fields.fields.items
    (subst (λ (l : List Corners). Made self.own.items c.args.held.items l) c.as_slice.ensures.value
    (subst (λ (l : List (Held (List Seen))). Made self.own.items l c.as_slice.result.now) c.as_slice-3.ensures.value
    (subst (λ (l : List Seen). Made l c.as_slice-3.result.now c.as_slice.result.now) c.as_slice-2.ensures.value made))) t)
