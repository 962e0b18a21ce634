-- What a sum is that is taken away part by part.
use Rattle.std.proofs.Common.{◌≡◌, ℕ, ◌+◌, ◌<◌, Bool, false, eqb, List, length, take, get_or, arith, sum_by}
use Rattle.std.proofs.lemmas.Bool.{ne_eqb}
use Rattle.std.proofs.lemmas.List.Sums.{sum_by_more_le}

pub less_than_all : {X : Type 0} (f : X → ℕ) (xs : List X) (i : ℕ) (d : X) (told rest n : ℕ) → i < length xs → rest + sum_by f (take i xs) ≡ told
    → n ≡ f (get_or xs i d) → rest < n → false ≡ eqb told (sum_by f xs)
less_than_all f xs i d told rest n more so_far is less =
    let all = sum_by_more_le f xs i d more in
    let differ : (told ≡ sum_by f xs → ⊥) = λ e. omega (arith, all, so_far, is, less, e) in
    sym_false (ne_eqb told (sum_by f xs) differ)
  where
    sym_false : {b : Bool} → b ≡ false → false ≡ b
    sym_false e = cc
