-- Lists that have something for each rank.
use Rattle.std.proofs.Common.{◌≡◌, ℕ, ◌<◌, sym, ap, ◌∙◌, arith, length, map, Some, slice_get}
use Rattle.std.proofs.lemmas.List.FromFn.{length-map-range_with_len, get_or-map-range_with_len}
use Rattle.std.proofs.lemmas.Option.{slice_get_within, slice_get-get_or, get_or_from_slice_get}
use Rattle.std.specs.Prelude.{List}
use Rattle.std.specs.List.{range_with_len}

-- what a list of all ranks has for one of them
pub at_rank : {X : Type 0} (of : ℕ → X) (ranks : ℕ) (list : List X) (r : ℕ) (x : X) → list ≡ map of (range_with_len 0 ranks) → slice_get list r ≡ Some x → (r < ranks) × (x ≡ of r)
at_rank {X} of ranks list r x is there =
    let got : slice_get (map of (range_with_len 0 ranks)) r ≡ Some x = ap (λ (l : List X). slice_get l r) (sym is) ∙ there in
    let long = length-map-range_with_len of 0 ranks in
    let within = slice_get_within (map of (range_with_len 0 ranks)) r x got in
    let below : r < ranks = omega (arith, within, long) in
    (below, sym (get_or_from_slice_get (map of (range_with_len 0 ranks)) r x x got) ∙ get_or-map-range_with_len of 0 ranks r r x below (omega arith))

-- and it has one for each
pub of_rank : {X : Type 0} (of : ℕ → X) (ranks : ℕ) (list : List X) (r : ℕ) → list ≡ map of (range_with_len 0 ranks) → r < ranks → slice_get list r ≡ Some (of r)
of_rank {X} of ranks list r is below =
    let long = length-map-range_with_len of 0 ranks in
    ap (λ (l : List X). slice_get l r) is
    ∙ slice_get-get_or (map of (range_with_len 0 ranks)) r (of r) (omega (arith, below, long))
    ∙ ap (λ (x : X). Some x) (get_or-map-range_with_len of 0 ranks r r (of r) below (omega arith))

pub count_ranks : {X : Type 0} (of : ℕ → X) (ranks : ℕ) (list : List X) → list ≡ map of (range_with_len 0 ranks) → length list ≡ ranks
count_ranks of ranks list is = ap length is ∙ length-map-range_with_len of 0 ranks
