-- What a take keeps: the total of any number that a cut shares out, and any fact that both parts inherit.
use Rattle.std.proofs.Common.{◌≡◌, ℕ, ◌+◌, ◌-◌, ◌<◌, ◌≤◌, refl, ◌∙◌, arith, nat_le}
use Rattle.std.proofs.lemmas.Bool.{cond_both, leb-true}
use Rattle.std.specs.Prelude.{ℤ, ◌≤ℤ◌, ◌<ℤ◌, List, [], ◌∷◌}
use Rattle.samr_box.specs.declared.vector.Axis.{Axis}
use Rattle.samr_box.specs.Vector.{at, AtMost}
use Rattle.samr_box.specs.Corners.{Corners, cells_of, longest_of, before, from_plane}
use Rattle.samr_box.proofs.Slabs.{plane-inside}
use Rattle.samr_load.specs.Pieces.{Placed, piece_cmp, total, sorted}
use Rattle.samr_load.specs.Taking.{Parted, planes_taken, cut_at, lower, upper, cut_first, with_first, taking, parted}
use Rattle.samr_load.proofs.Totals.{Each, each_none, each_cons, each_head, each_tail, each_sorted, total-sorted}

abbrev pub IsSolid : Placed → Type 0
IsSolid q = AtMost q.bx.lo q.bx.hi

-- there are planes on both sides of the cut
pub record Cuts (axis : Axis) (b : Corners) (plane : ℤ) : Type 0 where
  pub low : at axis b.lo <ℤ plane
  pub high : plane ≤ℤ at axis b.hi

-- both parts of a cut together have what the whole has
abbrev pub SharesOut : (Placed → ℕ) → Type 0
SharesOut m = (axis : Axis) (q : Placed) (plane : ℤ) → Cuts axis q.bx plane
    → m (record q { bx = before axis q.bx plane }) + m (record q { bx = from_plane axis q.bx plane }) ≡ m q

-- both parts of a cut have the property, where the whole has it
abbrev pub Inherits : (Placed → Type 0) → Type 0
Inherits P = (axis : Axis) (q : Placed) (plane : ℤ) → Cuts axis q.bx plane → P q
    → P (record q { bx = before axis q.bx plane }) × P (record q { bx = from_plane axis q.bx plane })

pub cuts : (s : ℕ) (b : Corners) (room : ℕ) → AtMost b.lo b.hi → 0 < s → s ≤ planes_taken s b room → Cuts (longest_of b) b (cut_at s b room)
cuts s b room full some enough =
    let inside = plane-inside (longest_of b) b (planes_taken s b room) full (omega arith) (omega arith) in
    record { low = inside.0; high = inside.1 }

module _ (m : Placed → ℕ) (shares : SharesOut m) (s : ℕ) (some : 0 < s) where
  pub cut_total : (q : Placed) (qs : List Placed) (room : ℕ) → IsSolid q
      → total m (cut_first s q qs room).taken + total m (cut_first s q qs room).rest ≡ m q + total m qs
  cut_total q qs room full =
      cond_both {A = Parted} (nat_le s (planes_taken s q.bx room))
      (record { taken = lower s q room ∷ []; rest = upper s q room ∷ qs })
      (record { taken = []; rest = q ∷ qs })
      (λ (p : Parted). total m p.taken + total m p.rest ≡ m q + total m qs)
      (λ yes.
      let enough = leb-true s (planes_taken s q.bx room) yes in
      let both = shares (longest_of q.bx) q (cut_at s q.bx room) (cuts s q.bx room full some enough) in
      omega (arith, both))
      (λ no. omega arith)

  pub taking_total : (qs : List Placed) (room : ℕ) → Each IsSolid qs
      → total m (taking s qs room).taken + total m (taking s qs room).rest ≡ total m qs
  unfolding taking
  taking_total [] room full = refl
  taking_total (q ∷ qs) room full =
      cond_both {A = Parted} (nat_le (cells_of q.bx) room) (with_first q (taking s qs (room - cells_of q.bx))) (cut_first s q qs room)
      (λ (p : Parted). total m p.taken + total m p.rest ≡ m q + total m qs)
      (λ _. omega (arith, taking_total qs (room - cells_of q.bx) (each_tail IsSolid q qs full)))
      (λ _. cut_total q qs room (each_head IsSolid q qs full))

  pub parted_total : (qs : List Placed) (want : ℕ) → Each IsSolid qs
      → total m (parted s qs want).taken + total m (parted s qs want).rest ≡ total m qs
  parted_total qs want full =
      taking_total (sorted piece_cmp qs) want (each_sorted IsSolid piece_cmp qs full) ∙ total-sorted m piece_cmp qs

module _ (P : Placed → Type 0) (inherits : Inherits P) (solid : (q : Placed) → P q → IsSolid q) (s : ℕ) (some : 0 < s) where
  cut_each : (q : Placed) (qs : List Placed) (room : ℕ) → P q → Each P qs
      → Each P (cut_first s q qs room).taken × Each P (cut_first s q qs room).rest
  cut_each q qs room here later =
      cond_both {A = Parted} (nat_le s (planes_taken s q.bx room))
      (record { taken = lower s q room ∷ []; rest = upper s q room ∷ qs })
      (record { taken = []; rest = q ∷ qs })
      (λ (p : Parted). Each P p.taken × Each P p.rest)
      (λ yes.
      let enough = leb-true s (planes_taken s q.bx room) yes in
      let both = inherits (longest_of q.bx) q (cut_at s q.bx room) (cuts s q.bx room (solid q here) some enough) here in
      (each_cons P (lower s q room) [] both.0 (each_none P), each_cons P (upper s q room) qs both.1 later))
      (λ no. (each_none P, each_cons P q qs here later))

  pub taking_each : (qs : List Placed) (room : ℕ) → Each P qs → Each P (taking s qs room).taken × Each P (taking s qs room).rest
  unfolding taking
  taking_each [] room each = (each, each)
  taking_each (q ∷ qs) room each =
      let here = each_head P q qs each in
      let later = each_tail P q qs each in
      cond_both {A = Parted} (nat_le (cells_of q.bx) room) (with_first q (taking s qs (room - cells_of q.bx))) (cut_first s q qs room)
      (λ (p : Parted). Each P p.taken × Each P p.rest)
      (λ _.
      let rest = taking_each qs (room - cells_of q.bx) later in
      (each_cons P q (taking s qs (room - cells_of q.bx)).taken here rest.0, rest.1))
      (λ _. cut_each q qs room here later)

  pub parted_each : (qs : List Placed) (want : ℕ) → Each P qs → Each P (parted s qs want).taken × Each P (parted s qs want).rest
  parted_each qs want each = taking_each (sorted piece_cmp qs) want (each_sorted P piece_cmp qs each)
