-- Steps of loops that go through a list and make another.
use Rattle.std.proofs.Common.{◌≡◌, ℕ, ◌+◌, ◌<◌, refl, sym, ap, ◌∙◌, subst, length, get_or, take}
use Rattle.std.proofs.lemmas.List.{take_more, map_more}
use Rattle.std.proofs.lemmas.List.Concat.{flat_map-append}
use Rattle.std.proofs.lemmas.List.Elements.{All-more, All-push, filter_map-append}
use Rattle.std.proofs.lemmas.List.Sums.{fold_more}
use Rattle.std.proofs.lemmas.List.Folds.{list_any_more}
use Rattle.std.specs.Prelude.{Bool, ◌||◌, List, [], ◌∷◌, ◌++◌, map, fold, Option, Some, None, IfSome}
use Rattle.std.specs.List.{flat_map, filter_map, cons_option, All, list_any}
use Rattle.std.specs.Option.{option_to_list}

append_nil : {X : Type 0} (xs : List X) → xs ++ [] ≡ xs
append_nil [] = refl
append_nil (x ∷ xs) = ap (λ l. x ∷ l) (append_nil xs)

single : {X Y : Type 0} (h : X → Option Y) (x : X) → filter_map h (x ∷ []) ≡ option_to_list (h x)
single {X} {Y} h x = by_case (h x)
  where
    by_case : (o : Option Y) → cons_option o [] ≡ option_to_list o
    by_case None = refl
    by_case (Some y) = refl

module _ {X : Type 0} (xs : List X) (i : ℕ) (x : X) (more : i < length xs) (is : x ≡ get_or xs i x) where
  pub take_step : take (i + 1) xs ≡ take i xs ++ x ∷ []
  take_step = take_more xs i x more ∙ ap (λ v. take i xs ++ v ∷ []) (sym is)

  pub flat_map_step : {Y : Type 0} (f : X → List Y) (out out' : List Y)
      → out ≡ flat_map f (take i xs) → out' ≡ out ++ f x → out' ≡ flat_map f (take (i + 1) xs)
  flat_map_step f out out' p q =
      q ∙ ap (λ l. l ++ f x) p
      ∙ ap (λ l. flat_map f (take i xs) ++ l) (sym (append_nil (f x)))
      ∙ sym (flat_map-append f (take i xs) (x ∷ []))
      ∙ ap (flat_map f) (sym take_step)

  pub filter_map_step : {Y : Type 0} (h : X → Option Y) (out out' : List Y)
      → out ≡ filter_map h (take i xs) → out' ≡ out ++ option_to_list (h x) → out' ≡ filter_map h (take (i + 1) xs)
  filter_map_step h out out' p q =
      q ∙ ap (λ l. l ++ option_to_list (h x)) p
      ∙ ap (λ l. filter_map h (take i xs) ++ l) (sym (single h x))
      ∙ sym (filter_map-append h (take i xs) (x ∷ []))
      ∙ ap (filter_map h) (sym take_step)

  pub map_step : {Y : Type 0} (f : X → Y) (out out' : List Y)
      → out ≡ map f (take i xs) → out' ≡ out ++ f x ∷ [] → out' ≡ map f (take (i + 1) xs)
  map_step f out out' p q =
      q ∙ ap (λ l. l ++ f x ∷ []) p ∙ ap (λ v. map f (take i xs) ++ f v ∷ []) is ∙ sym (map_more f xs i x more)

  pub fold_step : {Y : Type 0} (f : Y → X → Y) (a out out' : Y)
      → out ≡ fold f a (take i xs) → out' ≡ f out x → out' ≡ fold f a (take (i + 1) xs)
  fold_step f a out out' p q =
      q ∙ ap (λ y. f y x) p ∙ ap (λ v. f (fold f a (take i xs)) v) is ∙ sym (fold_more f a xs i x more)

  pub All_step : (P : X → Type 0) → All P (take i xs) → P x → All P (take (i + 1) xs)
  All_step P a p = All-more P xs i x more a (subst P is p)

  pub any_step : (p : X → Bool) → list_any p (take (i + 1) xs) ≡ (list_any p (take i xs) || p x)
  any_step p = list_any_more p xs i x more ∙ ap (λ v. list_any p (take i xs) || p v) (sym is)

-- one more element, if there is one
pub All_push_option : {X : Type 0} (P : X → Type 0) (xs : List X) (o : Option X) → All P xs → IfSome o P → All P (xs ++ option_to_list o)
All_push_option P xs None a h = rw append_nil a
All_push_option P xs (Some x) a h = All-push P xs x a h
