use Rattle.std.proofs.Common.{◌≡◌, ◌<◌, ◌∙◌, ap, subst, sym, arith, refl, length, map}
use Rattle.std.specs.Prelude.{List, false}
use Rattle.std.specs.List.{All, range_with_len}
use Rattle.samr_box.specs.declared.vector.IVec.{IVec}
use Rattle.samr_box.specs.Vector.{times}
use Rattle.samr_box.specs.Corners.{IsBox}
use Rattle.samr_box.specs.Space.{finer}
use Rattle.samr_box.proofs.Members.{member_of_All}
use Rattle.samr_level.specs.declared.parts.Pair.{Pair}
use Rattle.samr_level.specs.Refs.{Owned}
use Rattle.samr_level.specs.Pairs.{pair}
use Rattle.samr_tags.specs.Cover.{Covering}
use Rattle.samr_tags.specs.CoverRow.{rule, HasRoom}
use Rattle.samr_level.specs.Levels.{own_boxes}
use Rattle.samr_sign.specs.Fields.{AreTags}
use Rattle.samr_tags.specs.Rooms.{IsSmallBox}
use Rattle.samr_trials_stages.proofs.SmallLevels.{of_all}
use Rattle.samr_trials_stages.proofs.covers.covered.Goals as goal

pub cover_all-requires-clause-room : goal.cover_all-requires-clause-room
cover_all-requires-clause-room c =
    let level = c.args.level.now in
    let fit = c.if-not-is_fit.false in
    let frame = c.is_fit.ensures.frame fit in
    let Small : Owned → Type 0 = λ b. IsSmallBox b.bx in
    subst (λ (l : List Pair). All (λ (p : Pair). All (HasRoom (rule (finer c.args.d.now p.forth.head_ratio) c.args.upper c.args.nest c.args.lower)) p.forth.edges) l)
    (sym (c.as_slice-2.ensures.value ∙ c.in_ok-covers.ensures))
    (of_all c.args.d.now c.args.width c.in-Some.ratio level.ratio c.args.boxes.items level.boxes.items c.args.upper c.args.nest c.args.lower c.product.ensures.third c.product.ensures.second
    (c.is_fit.ensures.low fit) (c.is_fit.ensures.high fit) frame (c.is_fit.ensures.few fit)
    (λ x m. member_of_All Small x c.args.boxes.items (c.is_fit.ensures.boxes fit) m) c.args.ranks)

pub cover_all-requires-clause-parts : goal.cover_all-requires-clause-parts
cover_all-requires-clause-parts c =
    let level = c.args.level.now in
    let fit = c.if-not-is_fit.false in
    let P : Owned → Type 0 = λ b. (b.owner < c.args.ranks) × IsBox b.bx in
    let w : Covering = record {
      ranks = c.args.ranks;
      frame = c.args.d.now;
      ratio = level.ratio;
      level = level.boxes.items;
      fine = c.args.boxes.items;
      upper = c.args.upper;
      lower = c.args.lower;
      nest = c.args.nest;
      width = c.args.width;
      tags = λ x. false;
    } in (
      w,
      record {
        owned = record {
          level = λ b m. (member_of_All P b level.boxes.items (c.is_fit.ensures.owners fit) m).0;
          fine = λ b m. (member_of_All P b c.args.boxes.items (c.is_fit.ensures.fine_owners fit) m).0;
        };
        same_frame = refl;
        same_ranks = c.in_ok-fields.ensures.length;
        same_tags = λ rank own got.
            subst (λ (l : List Owned). AreTags (own_boxes rank l) (λ x. false) own) c.as_slice.ensures.value (c.in_ok-fields.ensures.each rank own got);
        same_covers =
            c.as_slice-2.ensures.value ∙ c.in_ok-covers.ensures
            ∙ ap (λ (r : IVec). map (λ rank. pair c.args.d.now c.args.width r level.ratio c.args.boxes.items level.boxes.items rank) (range_with_len 0 c.args.ranks)) c.in-Some.ensures.value;
        same_nest = refl;
        same_upper = refl;
        same_lower = refl;
        finer_frame = c.is_fit.ensures.frame fit;
      },
    )
