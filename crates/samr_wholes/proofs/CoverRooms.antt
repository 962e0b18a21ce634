-- What the boxes two levels above need of a level of a pass is in range.
use Rattle.std.proofs.Common.{◌≡◌, ℕ, suc, arith, inl, inr}
use Rattle.std.proofs.lemmas.Int.{ints}
use Rattle.std.specs.Prelude.{pos, List, [], ◌∷◌}
use Rattle.std.specs.List.{All}
use Rattle.samr_box.specs.declared.vector.IVec.{IVec}
use Rattle.samr_box.specs.Vector.{alike, AtMost}
use Rattle.samr_box.specs.Corners.{Corners, Holds}
use Rattle.samr_box.specs.Space.{IsSpace, whole}
use Rattle.samr_box.specs.Lists.{Member}
use Rattle.samr_box.proofs.CellSets.{Holds-lo, Holds-hi}
use Rattle.samr_box.proofs.Members.{All-from_members}
use Rattle.samr_box.proofs.Vectors.{AtMost-trans}
use Rattle.samr_level.specs.Overlaps.{scale, true_overlaps}
use Rattle.samr_level.specs.Refs.{Owned, Link}
use Rattle.samr_level.proofs.Overlapping.{Member-from_overlaps, Member-from_of_rank, IsShift-member}
use Rattle.samr_nest.proofs.StayLaws.{cell_of_frame}
use Rattle.samr_problem.specs.Fields.{Fields}
use Rattle.samr_tags.specs.Cover.{fine_ratio, downs, frame_of}
use Rattle.samr_tags.specs.CoverRow.{rule_of, HasRoom}
use Rattle.samr_tags.specs.Rooms.{IsSmallBox}
use Rattle.samr_tags.proofs.SmallCovers.{small_room}
use Rattle.samr_mesh.specs.Domains.{area_at, frame_at}
use Rattle.samr_mesh.specs.Grounds.{HasDomain}
use Rattle.samr_mesh.specs.Passes.{Pass, covering}
use Rattle.samr_mesh.specs.Soundness.{CanRun}
use Rattle.samr_mesh.specs.Stages.{IsAbove}
use Rattle.samr_mesh.proofs.Scaling.{space_of}

no_member : (xs : List Owned) (b : Owned) → xs ≡ [] → Member b xs → ⊥
no_member [] b e m = absurd m
no_member (c ∷ cs) b e m = differ e
  where
    differ : (c ∷ cs) ≡ [] → ⊥
    differ e = cc

wide : (x : IVec) → AtMost x (alike (pos 4194304)) → AtMost x (alike (pos 268435456))
wide x h = record { k = omega (arith, ints, h.k); j = omega (arith, ints, h.j); i = omega (arith, ints, h.i) }

module _ (p : Fields) (w : Pass) (run : CanRun p w) (above : IsAbove p w) where
  small_box : (l : ℕ) (b : Corners) → HasDomain p l → AtMost b.lo b.hi → Holds (whole (frame_at p l)) b.lo → Holds (whole (frame_at p l)) b.hi → IsSmallBox b
  small_box l b d order low high =
      let s = d.small in
      record {
        lo = record {
          low = record { k = omega (arith, ints, low.low.k); j = omega (arith, ints, low.low.j); i = omega (arith, ints, low.low.i) };
          high = record { k = omega (arith, ints, low.high.k, s.k); j = omega (arith, ints, low.high.j, s.j); i = omega (arith, ints, low.high.i, s.i) };
        };
        order = order;
        hi = record {
          low = record { k = omega (arith, ints, high.low.k); j = omega (arith, ints, high.low.j); i = omega (arith, ints, high.low.i) };
          high = record { k = omega (arith, ints, high.high.k, s.k); j = omega (arith, ints, high.high.j, s.j); i = omega (arith, ints, high.high.i, s.i) };
        };
      }

  above_box : (b : Owned) → IsAbove p w → Member b w.above → IsSmallBox b.bx
  above_box b (inl none) m = absurd (no_member w.above b none m)
  above_box b (inr (upper, top)) m =
      let order = top.not_empty b m in
      let l = suc (suc w.number) in
      small_box l b.bx upper.next order
      (cell_of_frame (area_at p l) b.bx.lo upper.next.is_area (top.inside b b.bx.lo m (Holds-lo {b = b.bx} order)))
      (cell_of_frame (area_at p l) b.bx.hi upper.next.is_area (top.inside b b.bx.hi m (Holds-hi {b = b.bx} order)))

  nest_small : AtMost p.nest (alike (pos 268435456))
  nest_small = wide p.nest (AtMost-trans run.can.nest_width (AtMost-trans run.can.width (AtMost-trans run.can.here.wide run.can.here.small)))

  room : (rank : ℕ) (e : Link) → Member e (downs (covering p w) rank) → HasRoom (rule_of (covering p w)) e
  room rank e m =
      let c = covering p w in
      let n = scale c.frame c.width (fine_ratio c) c.ratio in
      let is = Member-from_overlaps n c.fine c.level e (Member-from_of_rank rank (true_overlaps n c.fine c.level) e m).0 in
      let space = space_of p w.number run.can.here in
      small_room (rule_of c) e run.can.upper run.can.step run.can.nest nest_small space.low (wide (frame_at p w.number).size run.can.here.small)
      (IsShift-member n.domain.periodic e.shift is.is_shift) (above_box e.base above is.is_base)

  pub rooms : (rank : ℕ) → IsSpace (frame_of (covering p w)) × All (HasRoom (rule_of (covering p w))) (downs (covering p w) rank)
  rooms rank =
      (space_of p w.number run.can.here, All-from_members (HasRoom (rule_of (covering p w))) (downs (covering p w) rank) (λ e m. room rank e m))
