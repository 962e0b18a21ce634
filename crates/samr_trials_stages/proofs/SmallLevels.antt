-- In levels of small boxes all overlaps have room for what a cover needs.
use Rattle.std.proofs.Common.{◌≡◌, ℕ, sym, ap, subst, arith, map}
use Rattle.std.specs.Prelude.{pos, List}
use Rattle.std.specs.List.{All, range_with_len}
use Rattle.samr_box.specs.declared.vector.IVec.{IVec}
use Rattle.samr_box.specs.Vector.{alike, times, AtMost, IsRatio}
use Rattle.samr_box.specs.Space.{Space, IsSpace, finer}
use Rattle.samr_box.specs.Lists.{Member}
use Rattle.samr_box.proofs.Members.{All-from_members, Member-from_map}
use Rattle.samr_level.specs.declared.parts.Pair.{Pair}
use Rattle.samr_level.specs.Refs.{Owned, Link}
use Rattle.samr_level.specs.Overlaps.{scale, true_overlaps}
use Rattle.samr_level.specs.Pairs.{pair}
use Rattle.samr_level.proofs.Overlapping.{Member-from_of_rank, Member-from_overlaps, IsShift-member}
use Rattle.samr_tags.specs.CoverRow.{rule, HasRoom}
use Rattle.samr_tags.specs.Rooms.{IsSmallBox}
use Rattle.samr_tags.proofs.SmallCovers.{small_room}

module _ (frame : Space) (width a b : IVec) (fine level : List Owned) (upper nest lower : IVec) (up : IsRatio upper) (low : IsRatio lower)
    (positive : AtMost (alike (pos 0)) nest) (small : AtMost nest (alike (pos 268435456))) (space : IsSpace (finer frame b)) (few : AtMost (times frame.size b) (alike (pos 268435456)))
    (boxes : (x : Owned) → Member x fine → IsSmallBox x.bx) where
  of_one : (rank : ℕ) → All (HasRoom (rule (finer frame b) upper nest lower)) (pair frame width a b fine level rank).forth.edges
  of_one rank =
      All-from_members (HasRoom (rule (finer frame b) upper nest lower)) (pair frame width a b fine level rank).forth.edges
      (λ e m.
      let n = scale frame width a b in
      let f = Member-from_of_rank rank (true_overlaps n fine level) e m in
      let h = Member-from_overlaps n fine level e f.0 in
      small_room (rule (finer frame b) upper nest lower) e up low positive small space.low few (IsShift-member n.domain.periodic e.shift h.is_shift) (boxes e.base h.is_base))

  pub of_all : (ranks : ℕ) → All (λ (p : Pair). All (HasRoom (rule (finer frame p.forth.head_ratio) upper nest lower)) p.forth.edges) (map (λ rank. pair frame width a b fine level rank) (range_with_len 0 ranks))
  of_all ranks =
      let Has : Pair → Type 0 = λ p. All (HasRoom (rule (finer frame p.forth.head_ratio) upper nest lower)) p.forth.edges in
      All-from_members Has (map (λ rank. pair frame width a b fine level rank) (range_with_len 0 ranks))
      (λ p m.
      let r = Member-from_map (λ rank. pair frame width a b fine level rank) p (range_with_len 0 ranks) m in
      subst Has (sym r.2) (of_one r.0))
