use Rattle.std.proofs.Common.{◌≡◌, ◌∙◌, sym, arith, refl, subst, List}
use Rattle.std.proofs.lemmas.Int.{ints}
use Rattle.std.specs.Prelude.{pos, map}
use Rattle.std.specs.List.{range_with_len}
use Rattle.samr_box.specs.declared.vector.IVec.{IVec}
use Rattle.samr_box.specs.Vector.{alike, greatest}
use Rattle.samr_box.specs.Space.{Space, IsSpace, finer}
use Rattle.samr_level.specs.Refs.{Owned}
use Rattle.samr_level.specs.Blocks.{level0}
use Rattle.samr_bridge.specs.Bridge.{Bridging, Own}
use Rattle.samr_bridge.specs.Found.{east_pair}
use Rattle.samr_bench.proofs.bridging.measure.Goals as goal

-- level 0 bridged with itself, by way of itself
abbrev itself : Space → List Owned → Bridging
itself frame level =
    let one : IVec = alike (pos 1) in
    let width : IVec = record { k = pos 0; j = pos 1; i = pos 1 } in
    record { ranks = 1; frame = frame; east = level; centre = level; west = level; east_ratio = one; centre_ratio = one; west_ratio = one; width = width; east_width = width; west_width = width }

of_ones : (d : Space) → IsSpace d → IsSpace (finer d (greatest (alike (pos 1)) (alike (pos 1))))
of_ones d h = record {
  low = record { k = omega (arith, ints, h.low.k); j = omega (arith, ints, h.low.j); i = omega (arith, ints, h.low.i) };
  high = record { k = omega (arith, ints, h.high.k); j = omega (arith, ints, h.high.j); i = omega (arith, ints, h.high.i) };
}

pub bridge_all-requires-clause-parts : goal.bridge_all-requires-clause-parts
bridge_all-requires-clause-parts g c =
    let region = c.args.region.now in
    let level = level0 region (record { k = pos 1; j = pos 4; i = pos 4 }) 1 in
    let w = itself c.frame.result.now level in
    let Owns : List Owned → Type 0 = λ v. Own 1 v in
    let own : Own 1 level = subst Owns c.in_ok-level.ensures.value (c.in_ok-level.ensures.level (omega arith)).owners in
    let all : c.as_slice.result.now ≡ map (λ rank. east_pair w rank) (range_with_len 0 1) = c.as_slice.ensures.value ∙ c.in_ok-push.ensures.items ∙ rw (c.new-pairs.ensures.items, c.in_ok-level0_pair.ensures, c.frame.ensures) refl in (
      w,
      record {
        owned = record { east = own; centre = own; west = own };
        same_frame = refl;
        same_east = all;
        same_west = c.as_slice-2.ensures.value ∙ sym c.as_slice.ensures.value ∙ all;
        same_width = refl;
        finer_frame = rw c.frame.ensures (of_ones c.args.region.now.frame c.requires);
      },
    )
