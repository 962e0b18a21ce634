-- Views by pass, letters by sender, and which pass each sender has.
use Rattle.std.proofs.Common.{◌≡◌, ◌≢◌, ◌⊎◌, ℕ, zero, suc, cond, eqb, List, [], ◌∷◌, ◌++◌, length, set, sym, refl, ap, ◌∙◌, subst, inl, inr, ⊎_elim, append-nil, true, false}
use mathlib.Core.Option.{some, some-injective, some-ne-none}
use lib.ListN.{get_elem?}
use Rattle.std.proofs.lemmas.Bool.{eq-eqb, ne_eqb}
use Rattle.std.proofs.lemmas.List.Elements.{filter-append}
use Rattle.crossbeam_queue.proofs.Lists.{at_set}
use Rattle.samr_link.specs.Inbox.{of_sender}

module _ {A : Type 0} where
  -- an entry of a list with one more at its end
  pub at_end : (l : List A) (a b : A) (j : ℕ) → get_elem? (l ++ a ∷ []) j ≡ some b → (get_elem? l j ≡ some b) ⊎ ((j ≡ length l) × (a ≡ b))
  at_end [] a b zero e = inr (refl, some-injective a b e)
  at_end [] a b (suc j) e = absurd (some-ne-none b (sym e))
  at_end (x ∷ xs) a b zero e = inl e
  at_end (x ∷ xs) a b (suc j) e = ⊎_elim inl (λ t. inr (ap suc t.0, t.1)) (at_end xs a b j e)

  -- a fact of every entry
  abbrev pub Each : (ℕ → A → Type 0) → List A → Type 0
  Each F views = (j : ℕ) (u : A) → get_elem? views j ≡ some u → F j u

  pub each_set : (F : ℕ → A → Type 0) (views : List A) (i : ℕ) (w : A) → F i w → ((j : ℕ) (u : A) → j ≢ i → get_elem? views j ≡ some u → F j u) → Each F (set views i w)
  each_set F views i w mine others j u e =
      ⊎_elim (λ (t : (j ≡ i) × (w ≡ u)). subst (λ (y : ℕ × A). F y.0 y.1) (λ k. (sym t.0 k, t.1 k)) mine)
      (λ (t : (j ≢ i) × (get_elem? views j ≡ some u)). others j u t.0 t.1) (at_set views i j w u e)

  pub each_end : (F : ℕ → A → Type 0) (views : List A) (w : A) → Each F views → F (length views) w → Each F (views ++ w ∷ [])
  each_end F views w all last j u e =
      ⊎_elim (λ (t : get_elem? views j ≡ some u). all j u t)
      (λ (t : (j ≡ length views) × (w ≡ u)). subst (λ (y : ℕ × A). F y.0 y.1) (λ k. (sym t.0 k, t.1 k)) last) (at_end views w u j e)

-- a seat that was changed
module _ {A : Type 0} (f : ℕ → A) (n : ℕ) (a : A) where
  pub seat_here : (s : ℕ) → s ≡ n → cond (eqb s n) a (f s) ≡ a
  seat_here s e = ap (λ b. cond b a (f s)) (eq-eqb s n e)

  pub seat_else : (s : ℕ) → s ≢ n → cond (eqb s n) a (f s) ≡ f s
  seat_else s e = ap (λ b. cond b a (f s)) (ne_eqb s n e)

  pub seat_either : (s : ℕ) → f s ≡ a → cond (eqb s n) a (f s) ≡ a
  seat_either s e = elim (eqb s n) as (λ b. cond b a (f s) ≡ a) [ true ↦ refl | false ↦ e ]

module _ {M : Type 0} (sender : M → ℕ) where
  -- one more letter, of this sender or another
  pub of_more_here : (s : ℕ) (letters : List M) (x : M) → sender x ≡ s → of_sender sender s (letters ++ x ∷ []) ≡ of_sender sender s letters ++ x ∷ []
  of_more_here s letters x e =
      filter-append (λ y. eqb (sender y) s) letters (x ∷ []) ∙ ap (λ b. of_sender sender s letters ++ cond b (x ∷ []) []) (eq-eqb (sender x) s e)

  pub of_more_else : (s : ℕ) (letters : List M) (x : M) → sender x ≢ s → of_sender sender s (letters ++ x ∷ []) ≡ of_sender sender s letters
  of_more_else s letters x e =
      filter-append (λ y. eqb (sender y) s) letters (x ∷ []) ∙ (ap (λ b. of_sender sender s letters ++ cond b (x ∷ []) []) (ne_eqb (sender x) s e) ∙ append-nil (of_sender sender s letters))
