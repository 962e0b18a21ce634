-- The steps of the loops over a list of pieces.
use Rattle.std.proofs.Common.{◌≡◌, ℕ, ◌+◌, ◌-◌, ◌^◌, ◌<◌, ◌≤◌, sym, ap, ◌∙◌, arith, append_assoc, append-nil, nat_le, length, get_or, take}
use Rattle.std.proofs.lemmas.Bool.{cond-true, cond-false, le-leb, lt-leb}
use Rattle.std.proofs.lemmas.List.Sums.{sum_by_more, sum_by_more_le}
use Rattle.std.specs.Prelude.{List, [], ◌∷◌, ◌++◌, All}
use Rattle.samr_box.specs.Corners.{IsBox, cells_of}
use Rattle.samr_box.proofs.Members.{All-from_members}
use Rattle.samr_load.specs.Pieces.{Placed, piece_cmp, size_of, load, sorted}
use Rattle.samr_load.specs.Taking.{Parted, cut_first, with_first, taking}
use Rattle.samr_load.proofs.Parting.{cut_total}
use Rattle.samr_load.proofs.Shapes.{cells_shared}
use Rattle.samr_load.proofs.Totals.{total-append, total-is_sum, total-member, each_sorted}

pub load_more : (qs : List Placed) (i : ℕ) (d : Placed) → i < length qs → load (take (i + 1) qs) ≡ load (take i qs) + size_of (get_or qs i d)
load_more qs i d h =
    omega (arith, total-is_sum size_of (take (i + 1) qs), total-is_sum size_of (take i qs), sum_by_more size_of qs i d h)

pub load_front : (qs : List Placed) (i : ℕ) (d : Placed) → i < length qs → load (take i qs) + size_of (get_or qs i d) ≤ load qs
load_front qs i d h = omega (arith, total-is_sum size_of (take i qs), total-is_sum size_of qs, sum_by_more_le size_of qs i d h)

-- the pieces of a list in order are no greater than the list
pub all_fit : (qs : List Placed) → load qs < 2 ^ 63 → All (λ q. size_of q < 2 ^ 63) (sorted piece_cmp qs)
all_fit qs h =
    All-from_members (λ q. size_of q < 2 ^ 63) (sorted piece_cmp qs)
    (each_sorted (λ q. size_of q < 2 ^ 63) piece_cmp qs (λ q m. omega (arith, total-member size_of qs q m, h)))

-- a piece that fits, a piece that does not, and the end
pub taking_fits : (s : ℕ) (q : Placed) (qs : List Placed) (room : ℕ) → cells_of q.bx ≤ room
    → taking s (q ∷ qs) room ≡ with_first q (taking s qs (room - cells_of q.bx))
unfolding taking
taking_fits s q qs room h = cond-true {A = Parted} (nat_le (cells_of q.bx) room) _ _ (le-leb (cells_of q.bx) room h)

pub taking_cuts : (s : ℕ) (q : Placed) (qs : List Placed) (room : ℕ) → room < cells_of q.bx → taking s (q ∷ qs) room ≡ cut_first s q qs room
unfolding taking
taking_cuts s q qs room h = cond-false {A = Parted} (nat_le (cells_of q.bx) room) _ _ (lt-leb (cells_of q.bx) room h)

module _ (s room : ℕ) (done : List Placed) (whole : Parted) (left : List Placed)
    (taken_is : done ++ (taking s left room).taken ≡ whole.taken) (rest_is : (taking s left room).rest ≡ whole.rest) where
  pub goes_on_taken : (q : Placed) (qs more : List Placed) (after : ℕ) → left ≡ q ∷ qs → cells_of q.bx ≤ room → more ≡ done ++ q ∷ []
      → after ≡ room - cells_of q.bx → more ++ (taking s qs after).taken ≡ whole.taken
  goes_on_taken q qs more after e h pushed less =
      let first = ap (λ l. taking s l room) e ∙ taking_fits s q qs room h in
      ap (λ (l : List Placed). l ++ (taking s qs after).taken) pushed
      ∙ ap (λ (n : ℕ). (done ++ q ∷ []) ++ (taking s qs n).taken) less
      ∙ append_assoc done (q ∷ []) (taking s qs (room - cells_of q.bx)).taken
      ∙ ap (λ (p : Parted). done ++ p.taken) (sym first)
      ∙ taken_is

  pub goes_on_rest : (q : Placed) (qs : List Placed) (after : ℕ) → left ≡ q ∷ qs → cells_of q.bx ≤ room
      → after ≡ room - cells_of q.bx → (taking s qs after).rest ≡ whole.rest
  goes_on_rest q qs after e h less =
      let first = ap (λ l. taking s l room) e ∙ taking_fits s q qs room h in
      ap (λ (n : ℕ). (taking s qs n).rest) less ∙ ap (λ (p : Parted). p.rest) (sym first) ∙ rest_is

  pub ends_taken : (q : Placed) (qs : List Placed) → left ≡ q ∷ qs → room < cells_of q.bx → done ++ (cut_first s q qs room).taken ≡ whole.taken
  ends_taken q qs e h =
      let first = ap (λ l. taking s l room) e ∙ taking_cuts s q qs room h in
      ap (λ (p : Parted). done ++ p.taken) (sym first) ∙ taken_is

  pub ends_rest : (q : Placed) (qs : List Placed) → left ≡ q ∷ qs → room < cells_of q.bx → (cut_first s q qs room).rest ≡ whole.rest
  ends_rest q qs e h =
      let first = ap (λ l. taking s l room) e ∙ taking_cuts s q qs room h in
      ap (λ (p : Parted). p.rest) (sym first) ∙ rest_is

all_taken_of : (s room : ℕ) (done : List Placed) (whole : Parted) (left : List Placed) → length left ≡ 0
    → done ++ (taking s left room).taken ≡ whole.taken → (taking s left room).rest ≡ whole.rest → (done ≡ whole.taken) × ([] ≡ whole.rest)
unfolding taking
all_taken_of s room done whole [] e t r = (sym (append-nil done) ∙ t, r)
all_taken_of s room done whole (q ∷ qs) e t r = absurd (omega (arith, e))

pub all_taken : (s room : ℕ) (done : List Placed) (whole : Parted) (left : List Placed)
    → done ++ (taking s left room).taken ≡ whole.taken → (taking s left room).rest ≡ whole.rest → length left ≡ 0
    → (done ≡ whole.taken) × ([] ≡ whole.rest)
all_taken s room done whole left t r e = all_taken_of s room done whole left e t r

-- the cells of a list on the way: a piece that fits, one that does not, and the end
pub goes_on_cells : (list done more left : List Placed) (q : Placed) (qs : List Placed) → load done + load left ≡ load list → left ≡ q ∷ qs
    → more ≡ done ++ q ∷ [] → load more + load qs ≡ load list
goes_on_cells list done more left q qs before e pushed =
    let here = ap load e in
    let after = ap load pushed ∙ total-append size_of done (q ∷ []) in
    omega (arith, before, here, after)

pub ends_cells : (list done left taken rest : List Placed) (q : Placed) (qs : List Placed) (s room : ℕ) → 0 < s
    → load done + load left ≡ load list → left ≡ q ∷ qs → IsBox q.bx
    → taken ≡ done ++ (cut_first s q qs room).taken → rest ≡ (cut_first s q qs room).rest → load taken + load rest ≡ load list
ends_cells list done left taken rest q qs s room some before e box taken_is rest_is =
    let here = ap load e in
    let first = ap load taken_is ∙ total-append size_of done (cut_first s q qs room).taken in
    let second = ap load rest_is in
    let both = cut_total size_of cells_shared s some q qs room box.order in
    omega (arith, before, here, first, second, both)

pub all_cells_taken : (list done left rest : List Placed) → load done + load left ≡ load list → length left ≡ 0 → rest ≡ []
    → load done + load rest ≡ load list
all_cells_taken list done [] rest before e none = let nothing = ap load none in omega (arith, before, nothing)
all_cells_taken list done (q ∷ qs) rest before e none = absurd (omega (arith, e))
