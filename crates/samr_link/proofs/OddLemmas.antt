-- What the ends inside others are is what the others are.
use Rattle.std.proofs.Common.{◌≡◌, ℕ, ◌+◌, ◌<◌, List, [], ◌∷◌, length, get_or, map, sym, ap, ◌∙◌, subst, arith, All, true, false}
use Rattle.std.proofs.lemmas.Bool.{false≢true}
use Rattle.std.proofs.lemmas.List.{length-map, get_or-map}
use Rattle.samr_link.specs.Ends.{Making, AreEndsFrom, AreEnds, IsFresh, AreJournals}
use Rattle.samr_stage.specs.declared.label.Name.{Name}

module _ {L O : Type 0} (inside : O → L) (rank ends : L → ℕ) (making : L → Making) (made : Making) where
  from_inside : (r : ℕ) (os : List O) → AreEndsFrom rank ends making made r (map inside os) → AreEndsFrom (λ o. rank (inside o)) (λ o. ends (inside o)) (λ o. making (inside o)) made r os
  from_inside r [] all = tt
  from_inside r (o ∷ os) all = (record { is_rank = all.0.is_rank; is_ends = all.0.is_ends; is_making = all.0.is_making }, from_inside (r + 1) os all.1)

  to_inside : (r : ℕ) (os : List O) → AreEndsFrom (λ o. rank (inside o)) (λ o. ends (inside o)) (λ o. making (inside o)) made r os → AreEndsFrom rank ends making made r (map inside os)
  to_inside r [] all = tt
  to_inside r (o ∷ os) all = (record { is_rank = all.0.is_rank; is_ends = all.0.is_ends; is_making = all.0.is_making }, to_inside (r + 1) os all.1)

  pub are_ends : (os : List O) (es : List L) → map inside os ≡ es → AreEnds rank ends making made es → AreEnds (λ o. rank (inside o)) (λ o. ends (inside o)) (λ o. making (inside o)) made os
  are_ends os es same are =
      let K : List L → Type 0 = λ l. AreEndsFrom rank ends making made 0 l in
      record {
        count = sym (length-map os inside) ∙ (ap length same ∙ are.count);
        each = from_inside 0 os (subst K (sym same) are.each);
      }

  pub were_ends : (os : List O) (es : List L) → es ≡ map inside os → AreEnds (λ o. rank (inside o)) (λ o. ends (inside o)) (λ o. making (inside o)) made os → AreEnds rank ends making made es
  were_ends os es same are =
      let K : List L → Type 0 = λ l. AreEndsFrom rank ends making made 0 l in
      record {
        count = ap length same ∙ (length-map os inside ∙ are.count);
        each = subst K (sym same) (to_inside 0 os are.each);
      }

module _ {L O : Type 0} (inside : O → L) (posted : L → ℕ → List Name) (taken : L → List Name) where
  -- an end around a fresh one is fresh, where it tells what is posted and not what is taken
  pub are_fresh : (os : List O) (es : List L) → map inside os ≡ es → All (IsFresh (λ e. true) (λ e. true) posted taken) es → All (IsFresh (λ o. true) (λ o. false) (λ o a. posted (inside o) a) (λ o. [])) os
  are_fresh os es same all k d below =
      let within : k < length es = omega (arith, below, length-map os inside, ap length same) in
      let fresh = all k (inside d) within in
      let here : get_or es k (inside d) ≡ inside (get_or os k d) = ap (λ l. get_or l k (inside d)) (sym same) ∙ get_or-map inside os k d (inside d) below in
      let Fresh : L → Type 0 = λ e. IsFresh (λ e. true) (λ e. true) posted taken e in
      let moved = subst Fresh here fresh in
      record {
        none_posted = λ told a. moved.none_posted told a;
        none_taken = λ told. absurd (false≢true told);
      }

  moved_journals : (by_rank : ℕ → ℕ → List Name) (of_rank of_none : ℕ → List Name) (r : ℕ) (os : List O) → AreJournals (λ e. true) (λ e. true) posted taken by_rank of_rank r (map inside os)
      → AreJournals (λ o. true) (λ o. false) (λ o a. posted (inside o) a) (λ o. []) by_rank of_none r os
  moved_journals by_rank of_rank of_none r [] all = tt
  moved_journals by_rank of_rank of_none r (o ∷ os) all = (all.0, (λ told. absurd (false≢true told)), moved_journals by_rank of_rank of_none (r + 1) os all.2)

  pub are_journals : (by_rank : ℕ → ℕ → List Name) (of_rank of_none : ℕ → List Name) (os : List O) (es : List L) → es ≡ map inside os → AreJournals (λ e. true) (λ e. true) posted taken by_rank of_rank 0 es
      → AreJournals (λ o. true) (λ o. false) (λ o a. posted (inside o) a) (λ o. []) by_rank of_none 0 os
  are_journals by_rank of_rank of_none os es same all =
      let K : List L → Type 0 = λ l. AreJournals (λ e. true) (λ e. true) posted taken by_rank of_rank 0 l in
      moved_journals by_rank of_rank of_none 0 os (subst K same all)
