-- The true overlaps, as a search through all pairs finds them.
use Rattle.std.proofs.Common.{◌≡◌, refl, sym, ap, ◌∙◌}
use Rattle.std.specs.Prelude.{Bool, List, [], ◌∷◌, ◌++◌, map, filter}
use Rattle.std.specs.List.{flat_map}
use Rattle.samr_level.specs.Refs.{Owned, link}
use Rattle.samr_level.specs.Overlaps.{Scale, is_true, shifts, true_overlaps}
use Rattle.samr_level.proofs.Steps.{filter_append}

pub filter-flat_map : {X Y : Type 0} (p : Y → Bool) (f : X → List Y) (xs : List X) → filter p (flat_map f xs) ≡ flat_map (λ x. filter p (f x)) xs
filter-flat_map p f [] = refl
filter-flat_map p f (x ∷ xs) = filter_append p (f x) (flat_map f xs) ∙ ap (λ l. filter p (f x) ++ l) (filter-flat_map p f xs)

pub flat_map-same : {X Y : Type 0} (f g : X → List Y) (xs : List X) → ((x : X) → f x ≡ g x) → flat_map f xs ≡ flat_map g xs
flat_map-same f g [] h = refl
flat_map-same f g (x ∷ xs) h = ap (λ l. l ++ flat_map f xs) (h x) ∙ ap (λ l. g x ++ l) (flat_map-same f g xs h)

pub overlaps_by_search : (n : Scale) (bases heads : List Owned)
    → flat_map (λ a. flat_map (λ b. filter (λ e. is_true n e) (map (λ s. link a b s) (shifts n.domain.periodic))) heads) bases ≡ true_overlaps n bases heads
unfolding true_overlaps
overlaps_by_search n bases heads =
    let ss = shifts n.domain.periodic in
    sym
    (filter-flat_map (λ e. is_true n e) (λ a. flat_map (λ b. map (λ s. link a b s) ss) heads) bases
    ∙ flat_map-same (λ a. filter (λ e. is_true n e) (flat_map (λ b. map (λ s. link a b s) ss) heads))
    (λ a. flat_map (λ b. filter (λ e. is_true n e) (map (λ s. link a b s) ss)) heads) bases
    (λ a. filter-flat_map (λ e. is_true n e) (λ b. map (λ s. link a b s) ss) heads))
