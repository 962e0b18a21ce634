use Rattle.std.proofs.Common.{◌<◌, ◌∙◌, ap, subst, arith, refl, length}
use Rattle.std.proofs.lemmas.List.FromFn.{length-map-range_with_len}
use Rattle.std.specs.List.{All}
use Rattle.samr_box.specs.Corners.{IsBox}
use Rattle.samr_box.proofs.Members.{member_of_All}
use Rattle.samr_level.specs.Refs.{Owned}
use Rattle.samr_level.specs.Pairs.{pair}
use Rattle.samr_bridge.specs.Bridge.{Bridging}
use Rattle.samr_trials_stages.proofs.bridges.bridged.Goals as goal

pub bridge_all-requires-clause-few : goal.bridge_all-requires-clause-few
bridge_all-requires-clause-few c =
    let east = c.args.east.now in
    let centre = c.args.centre.now in
    let count = ap length (c.as_slice-4.ensures.value ∙ c.in_ok-east_pairs.ensures)
    ∙ length-map-range_with_len (λ rank. pair c.args.d.now c.args.east_width east.ratio centre.ratio east.boxes.items centre.boxes.items rank) 0 c.args.ranks in
    omega (arith, count, c.ranges.ranks.fits)

pub bridge_all-requires-clause-parts : goal.bridge_all-requires-clause-parts
bridge_all-requires-clause-parts c =
    let east = c.args.east.now in
    let centre = c.args.centre.now in
    let west = c.args.west.now in
    let P : Owned → Type 0 = λ b. (b.owner < c.args.ranks) × IsBox b.bx in
    let fit_east : All P east.boxes.items = subst (All P) c.as_slice.ensures.value (c.all_fit.ensures c.if-not-all_fit.false) in
    let fit_centre : All P centre.boxes.items = subst (All P) c.as_slice-2.ensures.value (c.all_fit-2.ensures c.if-not-all_fit-2.false) in
    let fit_west : All P west.boxes.items = subst (All P) c.as_slice-3.ensures.value (c.all_fit-3.ensures c.if-not-all_fit-3.false) in
    let w : Bridging = record {
      ranks = c.args.ranks;
      frame = c.args.d.now;
      east = east.boxes.items;
      centre = centre.boxes.items;
      west = west.boxes.items;
      east_ratio = east.ratio;
      centre_ratio = centre.ratio;
      west_ratio = west.ratio;
      width = c.args.width;
      east_width = c.args.east_width;
      west_width = c.args.west_width;
    } in (
      w,
      record {
        owned = record {
          east = λ b m. (member_of_All P b east.boxes.items fit_east m).0;
          centre = λ b m. (member_of_All P b centre.boxes.items fit_centre m).0;
          west = λ b m. (member_of_All P b west.boxes.items fit_west m).0;
        };
        same_frame = refl;
        same_east = c.as_slice-4.ensures.value ∙ c.in_ok-east_pairs.ensures;
        same_west = c.as_slice-5.ensures.value ∙ c.in_ok-west_pairs.ensures;
        same_width = refl;
        finer_frame = (c.are_comparable-3.ensures c.if-not-are_comparable-3.false).forth;
      },
    )
