-- How many cells a take gives: not more than are wanted, and less than a grain fewer, unless it gives all.
use Rattle.std.proofs.Common.{◌≡◌, ℕ, ◌+◌, ◌-◌, ◌*◌, ◌/◌, ◌<◌, ◌≤◌, refl, sym, ap, ◌∙◌, inl, inr, arith, nat_le, min}
use Rattle.std.proofs.Math.Nat.{add-mul, mul-le-mul_left, mul-le-mul_right, div-mul-le_self, lt-div-mul-add, div-lt_iff_lt-mul, min-eq_left, min-eq_right}
use Rattle.std.proofs.lemmas.Bool.{cond_both, leb-true, leb-false, cases_lt}
use Rattle.std.specs.Prelude.{List, [], ◌∷◌, ◌⊎◌}
use Rattle.samr_box.specs.Corners.{cells_of, span, longest_of, before}
use Rattle.samr_load.specs.Pieces.{Placed, piece_cmp, size_of, load, sorted}
use Rattle.samr_load.specs.Taking.{Parted, across, planes_taken, cut_at, lower, upper, cut_first, with_first, taking, parted}
use Rattle.samr_load.specs.Laws.{IsThin, grain}
use Rattle.samr_load.proofs.Totals.{Each, each_head, each_tail, each_sorted}
use Rattle.samr_load.proofs.Shapes.{cells_across, across_before, planes_before, some_across}

-- the numbers: so many planes of so many cells, where there is room for so many cells
min_cases : (x y : ℕ) → (min x y ≡ x) ⊎ (min x y ≡ y)
min_cases x y = elim (cases_lt x y) [
  | inl less ↦ inl (min-eq_left (omega (arith, less)))
  | inr more ↦ inr (min-eq_right more)
]

room_for : (p a room : ℕ) → p ≤ room / a → p * a ≤ room
room_for p a room h = omega (arith, mul-le-mul_right a h, div-mul-le_self room a)

short_by_room : (s most a room p : ℕ) → 0 < s → 0 < a → a ≤ most → p ≡ room / a → room < p * a + 2 * (s * most)
short_by_room s most a room p some plane thin e =
    let next : room < room / a * a + a = lt-div-mul-add plane in
    let same = ap (λ n. n * a) e in
    let grows : 1 * most ≤ s * most = mul-le-mul_right most some in
    omega (arith, next, same, grows, thin)

short_by_length : (s most a room p len : ℕ) → a ≤ most → p + s ≡ len → room < len * a → room < p * a + 2 * (s * most)
short_by_length s most a room p len thin e less =
    let parts = sym (add-mul p s a) ∙ ap (λ n. n * a) e in
    let grows = mul-le-mul_left s thin in
    omega (arith, parts, grows, less)

cut_short : (s most a room len : ℕ) → 0 < s → 0 < a → a ≤ most → room < len * a → s ≤ min (room / a) (len - s)
    → room < min (room / a) (len - s) * a + 2 * (s * most)
cut_short s most a room len some plane thin less enough = elim (min_cases (room / a) (len - s)) [
  | inl e ↦ short_by_room s most a room (min (room / a) (len - s)) some plane thin e
  | inr e ↦ short_by_length s most a room (min (room / a) (len - s)) len thin (omega (arith, e, enough, some)) less
]

no_cut_short : (s most a room len : ℕ) → 0 < s → 0 < a → a ≤ most → room < len * a → min (room / a) (len - s) < s → room < 2 * (s * most)
no_cut_short s most a room len some plane thin less few = elim (min_cases (room / a) (len - s)) [
  | inl e ↦
      let short : room / a < s = omega (arith, e, few) in
      let room_short = (div-lt_iff_lt-mul plane).0 short in
      omega (arith, room_short, mul-le-mul_left s thin)
  | inr e ↦
      let short : len ≤ s + s = omega (arith, e, few) in
      let wide = mul-le-mul_right a short in
      omega (arith, wide, add-mul s s a, mul-le-mul_left s thin, less)
]

size_lower : (s : ℕ) (q : Placed) (room : ℕ) → 0 < planes_taken s q.bx room
    → size_of (lower s q room) ≡ planes_taken s q.bx room * across (longest_of q.bx) q.bx
size_lower s q room some =
    let axis = longest_of q.bx in
    let part = before axis q.bx (cut_at s q.bx room) in
    let count : span axis part ≡ planes_taken s q.bx room = planes_before axis q.bx (planes_taken s q.bx room) some in
    cells_across axis part ∙ ap (λ n. n * across axis part) count
    ∙ ap (λ n. planes_taken s q.bx room * n) (across_before axis q.bx (cut_at s q.bx room))

module _ (s : ℕ) (some : 0 < s) where
  cut_fits : (q : Placed) (qs : List Placed) (room : ℕ) → load (cut_first s q qs room).taken ≤ room
  cut_fits q qs room =
      cond_both {A = Parted} (nat_le s (planes_taken s q.bx room))
      (record { taken = lower s q room ∷ []; rest = upper s q room ∷ qs })
      (record { taken = []; rest = q ∷ qs })
      (λ (p : Parted). load p.taken ≤ room)
      (λ yes.
      let enough = leb-true s (planes_taken s q.bx room) yes in
      let size = size_lower s q room (omega (arith, some, enough)) in
      let a = across (longest_of q.bx) q.bx in
      let fits = room_for (planes_taken s q.bx room) a room (omega arith) in
      omega (arith, size, fits))
      (λ no. omega arith)

  taking_load : (qs : List Placed) (room : ℕ) → load (taking s qs room).taken ≤ room
  unfolding taking
  taking_load [] room = omega arith
  taking_load (q ∷ qs) room =
      cond_both {A = Parted} (nat_le (cells_of q.bx) room) (with_first q (taking s qs (room - cells_of q.bx))) (cut_first s q qs room)
      (λ (p : Parted). load p.taken ≤ room)
      (λ yes. omega (arith, leb-true (cells_of q.bx) room yes, taking_load qs (room - cells_of q.bx)))
      (λ _. cut_fits q qs room)

  -- not more is taken than is wanted
  pub parted_load : (qs : List Placed) (want : ℕ) → load (parted s qs want).taken ≤ want
  parted_load qs want = taking_load (sorted piece_cmp qs) want

  module _ (most : ℕ) where
    abbrev Short : ℕ → Parted → Type 0
    Short room p = (room < load p.taken + grain s most) ⊎ (p.rest ≡ [])

    cut_falls : (q : Placed) (qs : List Placed) (room : ℕ) → IsThin most q → room < cells_of q.bx → Short room (cut_first s q qs room)
    cut_falls q qs room thin less =
        let axis = longest_of q.bx in
        let a = across axis q.bx in
        let plane = some_across axis q.bx thin.not_empty in
        let whole : room < span axis q.bx * a = omega (arith, less, cells_across axis q.bx) in
        cond_both {A = Parted} (nat_le s (planes_taken s q.bx room))
        (record { taken = lower s q room ∷ []; rest = upper s q room ∷ qs })
        (record { taken = []; rest = q ∷ qs })
        (λ (p : Parted). Short room p)
        (λ yes.
        let enough = leb-true s (planes_taken s q.bx room) yes in
        let size = size_lower s q room (omega (arith, some, enough)) in
        let short = cut_short s most a room (span axis q.bx) some plane thin.thin whole enough in
        inl (omega (arith, size, short)))
        (λ no.
        let few = leb-false s (planes_taken s q.bx room) no in
        let short = no_cut_short s most a room (span axis q.bx) some plane thin.thin whole few in
        inl (omega (arith, short)))

    later : (q : Placed) (room : ℕ) (p : Parted) → cells_of q.bx ≤ room → Short (room - cells_of q.bx) p → Short room (with_first q p)
    later q room p fits (inl short) = inl (omega (arith, fits, short))
    later q room p fits (inr all) = inr all

    taking_short : (qs : List Placed) (room : ℕ) → Each (IsThin most) qs → Short room (taking s qs room)
    unfolding taking
    taking_short [] room thin = inr refl
    taking_short (q ∷ qs) room thin =
        cond_both {A = Parted} (nat_le (cells_of q.bx) room) (with_first q (taking s qs (room - cells_of q.bx))) (cut_first s q qs room)
        (λ (p : Parted). Short room p)
        (λ yes.
        later q room (taking s qs (room - cells_of q.bx)) (leb-true (cells_of q.bx) room yes)
        (taking_short qs (room - cells_of q.bx) (each_tail (IsThin most) q qs thin)))
        (λ no. cut_falls q qs room (each_head (IsThin most) q qs thin) (leb-false (cells_of q.bx) room no))

    pub parted_short : (qs : List Placed) (want : ℕ) → Each (IsThin most) qs → Short want (parted s qs want)
    parted_short qs want thin = taking_short (sorted piece_cmp qs) want (each_sorted (IsThin most) piece_cmp qs thin)
