-- Three lists side by side.
use Rattle.std.proofs.Common.{◌≡◌, ℕ, ◌<◌, List, [], ◌∷◌, ◌++◌, length, get_or, set, refl, sym, ◌∙◌, subst, ⊎_elim, arith}
use Rattle.std.proofs.lemmas.Bool.{cases_lt}
use Rattle.std.proofs.lemmas.List.{get_or_append_left, get_or_push, get_or-set_same, get_or-set_other, length-set, length_push}
use Rattle.samr_drive.specs.Slots.{Trio}

module _ {A B C : Type 0} (R : A → B → C → Type 0) where
  -- one member of the third list changed
  pub trio_set : (xs : List A) (ys : List B) (zs : List C) (i : ℕ) (z z' : C) → Trio R xs ys zs → z ≡ get_or zs i z → ((a : A) (b : B) → R a b z → R a b z') → Trio R xs ys (set zs i z')
  trio_set xs ys zs i z z' all here step = record {
    second = all.second;
    third = length-set zs i z' ∙ all.third;
    each = λ k a b c below. ⊎_elim (λ lt. let apart : k ≡ i → ⊥ = λ e. omega (arith, lt, e) in other k a b c below apart)
        (λ ge. ⊎_elim (λ gt. let apart : k ≡ i → ⊥ = λ e. omega (arith, gt, e) in other k a b c below apart)
        (λ le.
        let same : i ≡ k = omega (arith, ge, le) in
        let K : ℕ → Type 0 = λ j. R (get_or xs j a) (get_or ys j b) (get_or (set zs i z') j c) in
        let inside : i < length zs = omega (arith, below, same, all.third) in
        let Z : C → Type 0 = λ v. R (get_or xs i a) (get_or ys i b) v in
        let at : i < length xs = omega (arith, below, same) in
        subst K same (subst Z (sym (get_or-set_same zs i z' c inside)) (step (get_or xs i a) (get_or ys i b) (subst Z (sym here) (all.each i a b z at))))) (cases_lt i k)) (cases_lt k i);
  } where
    other : (k : ℕ) (a : A) (b : B) (c : C) → k < length xs → (k ≡ i → ⊥) → R (get_or xs k a) (get_or ys k b) (get_or (set zs i z') k c)
    other k a b c below apart = let Z : C → Type 0 = λ v. R (get_or xs k a) (get_or ys k b) v in subst Z (sym (get_or-set_other zs i k z' c apart)) (all.each k a b c below)

  pub trio_push : (xs : List A) (ys : List B) (zs : List C) (x : A) (y : B) (z : C) → Trio R xs ys zs → R x y z → Trio R (xs ++ x ∷ []) (ys ++ y ∷ []) (zs ++ z ∷ [])
  trio_push xs ys zs x y z all here = record {
    second = omega (arith, length_push xs x, length_push ys y, all.second);
    third = omega (arith, length_push xs x, length_push zs z, all.third);
    each = λ k a b c below. ⊎_elim
        (λ lt.
        let ly : k < length ys = omega (arith, lt, all.second) in
        let lz : k < length zs = omega (arith, lt, all.third) in
        rw (get_or_append_left xs (x ∷ []) a k lt, get_or_append_left ys (y ∷ []) b k ly, get_or_append_left zs (z ∷ []) c k lz) (all.each k a b c lt))
        (λ ge.
        let lx : length xs ≡ k = omega (arith, below, ge, length_push xs x) in
        rw (get_or_push xs x a k lx, get_or_push ys y b k (all.second ∙ lx), get_or_push zs z c k (all.third ∙ lx)) here) (cases_lt k (length xs));
  }

  pub trio_none : Trio R [] [] []
  trio_none = record { second = refl; third = refl; each = λ k a b c below. absurd (omega (arith, below)) }
