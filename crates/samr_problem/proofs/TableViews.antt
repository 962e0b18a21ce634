-- A table among others, as the program holds it and as the definition sees it.
use Rattle.std.proofs.Common.{◌≡◌, ◌∙◌, sym, refl, ap, ℕ, zero, suc, ◌+◌, ◌<◌, List, [], ◌∷◌, ◌++◌, append_assoc, map, take, length, get_or, BTreeMap, String, Global}
use Rattle.std.specs.Borrow.{Bor}
use Rattle.std.proofs.lemmas.List.{get_or-map, map-append, take_more}
use Rattle.toml.specs.Data.{Members, no_members}
use Rattle.toml.specs.View.{table_view}
use Rattle.toml.specs.declared.value.Value.{Value}
use Rattle.samr_problem.specs.declared.context.Document.{Document}
use Rattle.samr_problem.specs.declared.context.Own.{Own}
use Rattle.samr_problem.specs.Contexts.{own_of}
use Rattle.samr_problem.specs.Keys.{Key}
use Rattle.samr_problem.specs.Slots.{path, slot, table_at, table_slots}

abbrev pub views : List (Bor (BTreeMap (String Global) Value)) → List Members
views ts = map (λ t. table_view t.now) ts

map_take : {X Y : Type 0} (f : X → Y) (n : ℕ) (xs : List X) → map f (take n xs) ≡ take n (map f xs)
map_take f zero xs = refl
map_take f (suc n) [] = refl
map_take f (suc n) (x ∷ xs) = ap (λ ys. f x ∷ ys) (map_take f n xs)

pub view_at : (ts : List (Bor (BTreeMap (String Global) Value))) (n : ℕ) (t : Bor (BTreeMap (String Global) Value)) → n < length ts → t ≡ get_or ts n t
    → table_at n (views ts) ≡ table_view t.now
view_at ts n t below is = get_or-map (λ (t : Bor (BTreeMap (String Global) Value)). table_view t.now) ts n t no_members below ∙ ap (λ (t : Bor (BTreeMap (String Global) Value)). table_view t.now) (sym is)

pub table_found : (document : Document) (list : List ℕ) (ks : List Key) (ts : List (Bor (BTreeMap (String Global) Value))) (n : ℕ) (t : Bor (BTreeMap (String Global) Value)) (own : Own)
    → n < length ts → t ≡ get_or ts n t → own ≡ own_of document.dim (views (take n ts)) (table_view t.now)
    → map (slot (path list n) document own (table_view t.now)) ks ≡ table_slots document list ks (views ts) n
unfolding table_slots
table_found document list ks ts n t own below is made =
    rw (made, map_take (λ (t : Bor (BTreeMap (String Global) Value)). table_view t.now) n ts, sym (view_at ts n t below is)) refl

-- one more table made to a member of a list
pub tables_pushed : {Y : Type 0} (f : Members → Y) (ts : List (Bor (BTreeMap (String Global) Value))) (n : ℕ) (t : Bor (BTreeMap (String Global) Value)) (start before now : List Y) (y : Y)
    → n < length ts → t ≡ get_or ts n t → now ≡ before ++ y ∷ [] → before ≡ start ++ map f (views (take n ts)) → y ≡ f (table_view t.now)
    → now ≡ start ++ map f (views (take (n + 1) ts))
tables_pushed f ts n t start before now y below is step so_far made =
    let more : take (n + 1) ts ≡ take n ts ++ t ∷ [] = take_more ts n t below ∙ ap (λ x. take n ts ++ x ∷ []) (sym is) in
    step ∙ ap (λ ys. ys ++ y ∷ []) so_far ∙ append_assoc start (map f (views (take n ts))) (y ∷ [])
    ∙ ap (λ x. start ++ (map f (views (take n ts)) ++ x ∷ [])) made
    ∙ ap (λ ys. start ++ ys) (sym (ap (λ xs. map f (views xs)) more ∙ ap (map f) (map-append (λ (x : Bor (BTreeMap (String Global) Value)). table_view x.now) (take n ts) (t ∷ [])) ∙ map-append f (views (take n ts)) (table_view t.now ∷ [])))
