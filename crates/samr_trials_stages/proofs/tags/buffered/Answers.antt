use Rattle.std.proofs.Common.{◌<◌, ◌∙◌, ap, subst, arith, refl, length, map}
use Rattle.std.proofs.lemmas.List.FromFn.{length-map-range_with_len}
use Rattle.std.specs.Prelude.{List, ◌&&◌}
use Rattle.std.specs.List.{All, list_any, range_with_len}
use Rattle.std.specs.Ordering.{int_eq}
use Rattle.samr_box.specs.declared.vector.IVec.{IVec}
use Rattle.samr_box.specs.Corners.{IsBox}
use Rattle.samr_box.specs.Space.{IsSpace, finer}
use Rattle.samr_box.proofs.Members.{member_of_All}
use Rattle.samr_level.specs.Refs.{Owned}
use Rattle.samr_level.specs.Pairs.{part}
use Rattle.samr_tags.specs.Buffer.{Tagging}
use Rattle.samr_sched.proofs.PlanLaws.{greatest_self}
use Rattle.samr_trials_stages.proofs.tags.buffered.Goals as goal

pub buffer_all-requires-clause-few : goal.buffer_all-requires-clause-few
buffer_all-requires-clause-few c =
    let count = ap length (c.as_slice-3.ensures.value ∙ c.in_ok-parts.ensures) ∙ length-map-range_with_len (λ rank. part c.as_slice-2.result.now rank) 0 c.args.ranks in
    omega (arith, count, c.ranges.ranks.fits)

pub buffer_all-requires-clause-parts : goal.buffer_all-requires-clause-parts
buffer_all-requires-clause-parts c =
    let level = c.args.level.now in
    let P : Owned → Type 0 = λ b. (b.owner < c.args.ranks) × IsBox b.bx in
    let fit : All P level.boxes.items = subst (All P) c.as_slice.ensures.value (c.all_fit.ensures c.if-not-all_fit.false) in
    let w : Tagging = record {
      ranks = c.args.ranks;
      frame = c.args.d.now;
      ratio = level.ratio;
      level = level.boxes.items;
      width = c.args.width;
      buffer = c.args.buffer;
      shape = λ x. list_any (λ c. int_eq c.k x.k && (int_eq c.j x.j && int_eq c.i x.i)) c.args.spots.now.cells.items;
    } in (
      w,
      record {
        owned = record {
          owners = λ b m. (member_of_All P b level.boxes.items fit m).0;
          boxes = λ b m. (member_of_All P b level.boxes.items fit m).1;
        };
        same_frame = refl;
        same_parts =
            c.as_slice-3.ensures.value ∙ c.in_ok-parts.ensures
            ∙ ap (λ (l : List Owned). map (λ rank. part l rank) (range_with_len 0 c.args.ranks)) c.as_slice-2.ensures.value;
        same_selves = c.as_slice-4.ensures.value ∙ c.in_ok-selves.ensures;
        same_buffer = refl;
        same_shape = λ b x m h. refl;
        finer_frame = subst (λ (r : IVec). IsSpace (finer c.args.d.now r)) (greatest_self level.ratio) ((c.are_comparable.ensures c.if-not-are_comparable.false).forth);
      },
    )
