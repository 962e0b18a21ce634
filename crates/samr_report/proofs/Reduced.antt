-- Sums that are reduced as they grow.
use Rattle.std.proofs.Common.{◌≡◌, ◌∙◌, ℕ, ◌+◌, ◌<◌, ◌%◌, ap, sym, List, take, length, get_or, sum_by}
use Rattle.std.proofs.Math.Nat.{add-mod-mod, mod-add-mod}
use Rattle.std.proofs.lemmas.List.Sums.{sum_by_more}

-- one member more
pub mod_step : {X : Type 0} (f : X → ℕ) (xs : List X) (i : ℕ) (x : X) (m before one after : ℕ) → i < length xs → x ≡ get_or xs i x
    → before ≡ sum_by f (take i xs) % m → one ≡ f x % m → after ≡ (before + one) % m → after ≡ sum_by f (take (i + 1) xs) % m
mod_step f xs i x m before one after less is b o a =
    a ∙ ap (λ n. (n + one) % m) b ∙ mod-add-mod (sum_by f (take i xs)) m one
    ∙ ap (λ n. (sum_by f (take i xs) + n) % m) o ∙ add-mod-mod (sum_by f (take i xs)) (f x) m
    ∙ ap (λ y. (sum_by f (take i xs) + f y) % m) is
    ∙ ap (λ n. n % m) (sym (sum_by_more f xs i x less))
