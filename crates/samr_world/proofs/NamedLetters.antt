-- Which names there are among letters.
use Rattle.std.proofs.Common.{◌≡◌, ◌≢◌, ℕ, zero, suc, List, [], ◌∷◌, ◌++◌, map, refl, sym, ap, ◌∙◌, subst, arith, true, ◌⊎◌, inl, inr, Contains, Some, slice_get}
use Rattle.std.specs.List.{remove}
use Rattle.std.specs.Ordering.{is_eq, is_ne}
use Rattle.std.specs.declared.cmp.Ordering.{Ordering}
use Rattle.std.specs.declared.cmp.Ordering.TheVariants.{Less, Equal, Greater}
use Rattle.std.proofs.lemmas.Bool.{cases_Bool}
use Rattle.std.proofs.lemmas.Cmp.{tied_itself}
use Rattle.std.proofs.lemmas.List.Elements.{All-contains}
use Rattle.samr_stage.specs.declared.label.Label.{Label}
use Rattle.samr_stage.specs.declared.label.Name.{Name}
use Rattle.samr_stage.specs.Label.{label_cmp, name_cmp}
use Rattle.samr_stage.specs.LabelLaws.{label_cmp_total, name_cmp_total, name_tied}
use Rattle.samr_stage.specs.Held.{AreRising}
use Rattle.samr_stage.specs.Machine.{stored, of_label, of_others}
use Rattle.samr_stage.proofs.Orders.{never_less}
use Rattle.samr_stage.proofs.Lists.{Contains-cases, Contains-head, Contains-tail, AllPairs-head, AllPairs-tail}
use Rattle.samr_world.specs.World.{IsNamed}

-- two names are equal or they are not
pub same_or_not : (a b : Name) → (a ≡ b) ⊎ (a ≢ b)
same_or_not a b = by (name_cmp a b) refl
  where
    itself : a ≡ b → name_cmp a b ≡ Equal
    itself e = let K : Name → Type 0 = λ z. name_cmp a z ≡ Equal in subst K e (tied_itself name_cmp_total a)

    by : (o : Ordering) → name_cmp a b ≡ o → (a ≡ b) ⊎ (a ≢ b)
    by Less e = inr (λ same. let tied = itself same in cc)
    by Equal e = inl (name_tied a b e)
    by Greater e = inr (λ same. let tied = itself same in cc)

-- in a list of names that ascend each stands once
pub stands_once : (xs : List Name) (n : Name) (ys : List Name) → AreRising (λ k. k) (xs ++ n ∷ ys) → ¬ Contains ys n
stands_once [] n ys rising c =
    never_less name_cmp_total n (All-contains (λ y. name_cmp n y ≡ Less) ys n (AllPairs-head (λ a b. name_cmp a b ≡ Less) n ys rising) c)
stands_once (x ∷ xs) n ys rising c = stands_once xs n ys (AllPairs-tail (λ a b. name_cmp a b ≡ Less) x (xs ++ n ∷ ys) rising) c

module _ {M : Type 0} (name : M → Name) where
  -- one more letter, put last
  pub named_push : (n : Name) (xs : List M) (y : M) → IsNamed name n xs → IsNamed name n (xs ++ y ∷ [])
  named_push n [] y h = absurd h
  named_push n (x ∷ xs) y (inl e) = inl e
  named_push n (x ∷ xs) y (inr t) = inr (named_push n xs y t)

  pub named_last : (n : Name) (xs : List M) (y : M) → name y ≡ n → IsNamed name n (xs ++ y ∷ [])
  named_last n [] y e = inl e
  named_last n (x ∷ xs) y e = inr (named_last n xs y e)

  -- one letter taken out
  pub named_remove : (n : Name) (xs : List M) (k : ℕ) (y : M) → slice_get xs k ≡ Some y → IsNamed name n xs → (name y ≡ n) ⊎ IsNamed name n (remove xs k)
  named_remove n [] k y got h = absurd h
  named_remove n (x ∷ xs) zero y got (inl e) = let same : x ≡ y = cc in inl (ap name (sym same) ∙ e)
  named_remove n (x ∷ xs) zero y got (inr t) = inr t
  named_remove n (x ∷ xs) (suc k) y got (inl e) = inr (inl e)
  named_remove n (x ∷ xs) (suc k) y got (inr t) = elim (named_remove n xs k y got t) [
    | inl e ↦ inl e
    | inr rest ↦ inr (inr rest)
  ]

  -- one letter kept
  pub named_kept : (n : Name) (xs : List M) (y : M) → IsNamed name n xs → IsNamed name n (stored name xs y)
  named_kept n [] y h = absurd h
  named_kept n (x ∷ xs) y h = by (named_kept n xs y) (name_cmp (name y) (name x)) refl
    where
      by : (IsNamed name n xs → IsNamed name n (stored name xs y)) → (o : Ordering) → name_cmp (name y) (name x) ≡ o → IsNamed name n (stored name (x ∷ xs) y)
      by rest Less e = rw e (inr h)
      by rest Equal e = rw e h
      by rest Greater e = rw e (elim h [ inl same ↦ inl same | inr t ↦ inr (rest t) ])

  pub named_stored : (xs : List M) (y : M) → IsNamed name (name y) (stored name xs y)
  named_stored [] y = inl refl
  named_stored (x ∷ xs) y = by (named_stored xs y) (name_cmp (name y) (name x)) refl
    where
      by : IsNamed name (name y) (stored name xs y) → (o : Ordering) → name_cmp (name y) (name x) ≡ o → IsNamed name (name y) (stored name (x ∷ xs) y)
      by rest Less e = rw e (inl refl)
      by rest Equal e = rw e (inl (sym (name_tied (name y) (name x) e)))
      by rest Greater e = rw e (inr rest)

  -- the letters of other labels
  pub named_others : (at : Label) (n : Name) (xs : List M) → is_ne (label_cmp n.label at) ≡ true → IsNamed name n xs → IsNamed name n (of_others name at xs)
  named_others at n [] other h = absurd h
  named_others at n (x ∷ xs) other (inl e) =
      let passes : is_ne (label_cmp (name x).label at) ≡ true = ap (λ (k : Name). is_ne (label_cmp k.label at)) e ∙ other in rw passes (inl e)
  named_others at n (x ∷ xs) other (inr t) =
      let rest = named_others at n xs other t in
      elim (cases_Bool (is_ne (label_cmp (name x).label at))) [
        | inl pass ↦ rw pass (inr rest)
        | inr fail ↦ rw fail rest
      ]

  -- the letters of the label
  pub named_here : (at : Label) (n : Name) (xs : List M) → n.label ≡ at → IsNamed name n xs → IsNamed name n (of_label name at xs)
  named_here at n [] here h = absurd h
  named_here at n (x ∷ xs) here (inl e) =
      let same : (name x).label ≡ at = ap (λ (k : Name). k.label) e ∙ here in
      let passes : is_eq (label_cmp (name x).label at) ≡ true = ap (λ l. is_eq (label_cmp l at)) same ∙ ap is_eq (tied_itself label_cmp_total at) in
      rw passes (inl e)
  named_here at n (x ∷ xs) here (inr t) =
      let rest = named_here at n xs here t in
      elim (cases_Bool (is_eq (label_cmp (name x).label at))) [
        | inl pass ↦ rw pass (inr rest)
        | inr fail ↦ rw fail rest
      ]

  -- the names of the letters
  pub named_contains : (n : Name) (xs : List M) → Contains (map name xs) n → IsNamed name n xs
  named_contains n [] c = absurd (omega (arith, c.1))
  named_contains n (x ∷ xs) c = elim (Contains-cases n (name x) (map name xs) c) [
    | inl e ↦ inl e
    | inr t ↦ inr (named_contains n xs t)
  ]

  pub contains_named : (n : Name) (xs : List M) → IsNamed name n xs → Contains (map name xs) n
  contains_named n [] h = absurd h
  contains_named n (x ∷ xs) (inl e) = (let K : Name → Type 0 = λ k. Contains (name x ∷ map name xs) k in subst K e (Contains-head (name x) (map name xs)))
  contains_named n (x ∷ xs) (inr t) = Contains-tail n (name x) (map name xs) (contains_named n xs t)
