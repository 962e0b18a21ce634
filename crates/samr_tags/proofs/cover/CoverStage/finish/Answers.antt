use Rattle.std.proofs.Common.{◌∙◌, ap, subst, sym}
use Rattle.std.specs.Prelude.{List}
use Rattle.samr_box.specs.Corners.{Corners}
use Rattle.samr_stage.specs.declared.stage.Held.{Held}
use Rattle.samr_level.specs.Levels.{own_boxes}
use Rattle.samr_level.specs.Refs.{Link}
use Rattle.samr_sign.specs.Fields.{Field, AreTags}
use Rattle.samr_tags.specs.Cover.{cover_tags}
use Rattle.samr_tags.specs.CoverRow.{needed_of}
use Rattle.samr_tags.specs.CoverParts.{is_needed, AreAdded}
use Rattle.samr_tags.proofs.CoverStage.{ends}
use Rattle.samr_tags.proofs.cover.CoverStage.finish.Goals as goal

pub returns : goal.returns
returns c = λ w r h held t.
    let self = c.args.self in
    let new = c.in_ok-fields.fields.items in
    let Added : List Field → List Corners → List (Held (List Corners)) → Type 0 = λ old own letters. AreAdded old new (is_needed own letters) in
    subst (AreTags (own_boxes r w.level) (cover_tags w)) (sym c.from_vec.ensures)
    (ends self.rank self.needs self.fields self.edges.items self.addressees.items self.senders.items w r h c.args.held.items held c.in_ok-own.own.items new
    (c.in_ok-own.ensures ∙ ap (λ (l : List Link). needed_of self.needs self.rank l) c.as_slice.ensures.value)
    (subst (λ (l : List (Held (List Corners))). Added self.fields c.in_ok-own.own.items l) c.as_slice-3.ensures.value
    (subst (λ (l : List Corners). Added self.fields l c.as_slice-3.result.now) c.as_slice-2.ensures.value
    (subst (λ (l : List Field). Added l c.as_slice-2.result.now c.as_slice-3.result.now) c.into_vec.ensures c.in_ok-fields.ensures))) t)
