-- The stages of all ranks, made one after another in order of rank.
use Rattle.std.proofs.Common.{◌≡◌, ℕ, ◌<◌, List, [], ◌∷◌, ◌++◌, length, get_or, sym, ap, ◌∙◌, subst, inl, inr, Some, slice_get}
use Rattle.std.proofs.lemmas.List.Elements.{All-get_or}
use Rattle.std.proofs.lemmas.Option.{slice_get-get_or}
use Rattle.std.specs.List.{All}
use Rattle.samr_stage.proofs.Mailboxes.{slice_get-push_cases}

-- one more element, at the place that is its number
pub each_more : {X : Type 0} (P : ℕ → X → Type 0) (xs ys : List X) (n : ℕ) (x : X) → length xs ≡ n → ((k : ℕ) (y : X) → slice_get xs k ≡ Some y → P k y) → P n x
    → ys ≡ xs ++ x ∷ [] → (k : ℕ) (y : X) → slice_get ys k ≡ Some y → P k y
each_more P xs ys n x len before here is k y got =
    elim (slice_get-push_cases xs x y k (ap (λ zs. slice_get zs k) (sym is) ∙ got)) [
      | inl last ↦ subst (λ m. P m y) (sym (last.0 ∙ len)) (subst (P n) last.1 here)
      | inr there ↦ before k y there
    ]

-- the element at a place that is a rank
pub at_rank : {X : Type 0} (xs : List X) (rank place : ℕ) (x y : X) → place ≡ rank → rank < length xs → x ≡ get_or xs place x → y ≡ x → slice_get xs rank ≡ Some y
at_rank xs rank place x y same less is e =
    slice_get-get_or xs rank x less ∙ ap Some (ap (λ (k : ℕ). get_or xs k x) (sym same) ∙ sym is ∙ sym e)

-- what holds of all holds of the element at a place
pub all_at : {X : Type 0} (P : X → Type 0) (xs : List X) (place : ℕ) (x y : X) → place < length xs → x ≡ get_or xs place x → y ≡ x → All P xs → P y
all_at P xs place x y less is e all = subst P (sym (e ∙ is)) (All-get_or P xs place x less all)
