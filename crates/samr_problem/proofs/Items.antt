-- Lists of values beside the lists of data that they stand for.
use Rattle.std.proofs.Common.{◌≡◌, ◌∙◌, sym, ℕ, ◌+◌, ◌<◌, Bool, ◌&&◌, List, [], ◌∷◌, ◌++◌, map, take, length, get_or, Option, Some, None, refl, ap}
use Rattle.std.proofs.lemmas.List.{take_more, map-append}
use Rattle.std.proofs.lemmas.List.Elements.{filter_map-append}
use Rattle.std.specs.List.{list_all, filter_map, cons_option}
use Rattle.std.specs.Prelude.{option_to_list}
use Rattle.toml.specs.Data.{Data, Members, as_table}
use Rattle.toml.specs.View.{view, items_of}
use Rattle.toml.specs.declared.value.Value.{Value}
use Rattle.samr_problem.specs.Values.{list_of}

pub list_of_items : (ds : List Data) → list_of (items_of ds) ≡ ds
list_of_items [] = refl
list_of_items (d ∷ ds) = ap (λ rest. d ∷ rest) (list_of_items ds)

pub list_all_view : (test : Data → Bool) (vs : List Value) → list_all test (map view vs) ≡ list_all (λ v. test (view v)) vs
list_all_view test [] = refl
list_all_view test (v ∷ vs) = ap (λ rest. test (view v) && rest) (list_all_view test vs)

option_alone : {Y : Type 0} (o : Option Y) → cons_option o [] ≡ option_to_list o
option_alone None = refl
option_alone (Some y) = refl

option_pushed : {X Y : Type 0} (h : X → Option Y) (x : X) → filter_map h (x ∷ []) ≡ option_to_list (h x)
option_pushed h x = option_alone (h x)

-- one more item, and its table if it is one
pub tables_more : (vs : List Value) (n : ℕ) (v : Value) (before now : List Members) → n < length vs → v ≡ get_or vs n v
    → before ≡ filter_map as_table (map view (take n vs)) → now ≡ before ++ option_to_list (as_table (view v))
    → now ≡ filter_map as_table (map view (take (n + 1) vs))
tables_more vs n v before now below is so_far step =
    let more : take (n + 1) vs ≡ take n vs ++ v ∷ [] = take_more vs n v below ∙ ap (λ x. take n vs ++ x ∷ []) (sym is) in
    step ∙ ap (λ xs. xs ++ option_to_list (as_table (view v))) so_far
    ∙ ap (λ xs. filter_map as_table (map view (take n vs)) ++ xs) (sym (option_pushed as_table (view v)))
    ∙ sym (filter_map-append as_table (map view (take n vs)) (map view (v ∷ [])))
    ∙ ap (filter_map as_table) (sym (map-append view (take n vs) (v ∷ [])))
    ∙ ap (λ xs. filter_map as_table (map view xs)) (sym more)

-- one more item made to a member of a list
pub items_pushed : {Y : Type 0} (f : Data → Y) (vs : List Value) (n : ℕ) (v : Value) (before now : List Y) (y : Y)
    → n < length vs → v ≡ get_or vs n v → now ≡ before ++ y ∷ [] → before ≡ map f (map view (take n vs)) → y ≡ f (view v)
    → now ≡ map f (map view (take (n + 1) vs))
items_pushed f vs n v before now y below is step so_far made =
    let more : take (n + 1) vs ≡ take n vs ++ v ∷ [] = take_more vs n v below ∙ ap (λ x. take n vs ++ x ∷ []) (sym is) in
    step ∙ ap (λ ys. ys ++ y ∷ []) so_far ∙ ap (λ x. map f (map view (take n vs)) ++ x ∷ []) made
    ∙ sym (ap (λ xs. map f (map view xs)) more ∙ ap (map f) (map-append view (take n vs) (v ∷ [])) ∙ map-append f (map view (take n vs)) (view v ∷ []))
