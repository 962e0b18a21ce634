-- Names that a table does not have.
use Rattle.std.proofs.Common.{◌≡◌, ◌∙◌, sym, ℕ, ◌+◌, ◌<◌, ◌||◌, not, List, [], ◌∷◌, ◌++◌, map, Option, option_map, string_bytes, String, BTreeMap, Global, refl, ap, length, get_or, append-nil}
use Rattle.std.specs.Borrow.{Bor}
use Rattle.std.specs.BTreeMap.{keys}
use Rattle.std.specs.List.{find, list_any, flat_map, range_with_len}
use Rattle.std.specs.Map.{keys_of}
use Rattle.std.specs.Str.{bytes_eq}
use Rattle.toml.specs.View.{members_view, table_view}
use Rattle.toml.specs.declared.value.Value.{Value}
use Rattle.std.proofs.Math.Bool.{or_assoc}
use Rattle.samr_problem.specs.declared.keys.Row.{Row}
use Rattle.samr_problem.specs.Faults.{is_known, names_of, shown, unknown_names, unknown_in}
use Rattle.samr_problem.specs.Findings.{or_else}
use Rattle.samr_problem.specs.Keys.{Key, key_of}
use Rattle.samr_problem.specs.Refusals.{first}
use Rattle.samr_problem.specs.Slots.{path}
use Rattle.samr_problem.proofs.Firsts.{first_append, first_filter, find_map}
use Rattle.samr_problem.proofs.TableViews.{views, view_at}
use Rattle.samr_problem.proofs.Worst.{flat_map_range_more}

any_rows : (name : List ℕ) (rows : List Row) (ks : List Key) → list_any (λ k. bytes_eq k.name name) (map key_of rows ++ ks) ≡ (list_any (λ r. bytes_eq r.name.now name) rows || list_any (λ k. bytes_eq k.name name) ks)
any_rows name [] ks = refl
any_rows name (r ∷ rows) ks = ap (λ b. bytes_eq r.name.now name || b) (any_rows name rows ks) ∙ sym (or_assoc (bytes_eq r.name.now name) (list_any (λ q. bytes_eq q.name.now name) rows) (list_any (λ k. bytes_eq k.name name) ks))

any_more : (name : List ℕ) (rows : List Row) → list_any (λ k. bytes_eq k.name name) (map key_of rows) ≡ list_any (λ r. bytes_eq r.name.now name) rows
any_more name [] = refl
any_more name (r ∷ rows) = ap (λ b. bytes_eq r.name.now name || b) (any_more name rows)

pub known_rows : (rows more : List Row) (name : List ℕ)
    → is_known (map key_of rows ++ map key_of more) name ≡ (list_any (λ r. bytes_eq r.name.now name) rows || list_any (λ r. bytes_eq r.name.now name) more)
unfolding is_known
known_rows rows more name = any_rows name rows (map key_of more) ∙ ap (λ b. list_any (λ r. bytes_eq r.name.now name) rows || b) (any_more name more)

names_of_view : (es : List (String Global × Value)) → names_of (members_view es) ≡ map string_bytes (keys_of es)
names_of_view [] = refl
names_of_view (e ∷ es) = ap (λ rest. string_bytes e.0 ∷ rest) (names_of_view es)

-- the first name that is not known, found among the keys of the table
pub first_unknown : (ks : List Key) (t : BTreeMap (String Global) Value)
    → first (unknown_names ks (table_view t)) ≡ option_map string_bytes (find (λ k. not (is_known ks (string_bytes k))) (keys t))
unfolding unknown_names
first_unknown ks t =
    first_filter (λ name. not (is_known ks name)) (names_of (table_view t))
    ∙ ap (find (λ name. not (is_known ks name))) (names_of_view t.entries)
    ∙ find_map (λ name. not (is_known ks name)) string_bytes (keys t)

-- five parts of a list, one behind another
pub five : (a b c d e : List (List ℕ)) → first (a ++ b ++ c ++ d ++ e) ≡ or_else (or_else (or_else (or_else (first a) (first b)) (first c)) (first d)) (first e)
five a b c d e =
    first_append (a ++ b ++ c ++ d) e
    ∙ ap (λ o. or_else o (first e)) (first_append (a ++ b ++ c) d
    ∙ ap (λ o. or_else o (first d)) (first_append (a ++ b) c
    ∙ ap (λ o. or_else o (first c)) (first_append a b)))

-- one more table
pub names_step : (f : ℕ → List (List ℕ)) (n : ℕ) (before found now : Option (List ℕ))
    → before ≡ first (flat_map f (range_with_len 0 n)) → found ≡ first (f n) → now ≡ or_else before found
    → now ≡ first (flat_map f (range_with_len 0 (n + 1)))
names_step f n before found now so_far at step =
    step ∙ ap (or_else before) at ∙ ap (λ o. or_else o (first (f n))) so_far
    ∙ sym (ap first (flat_map_range_more f n) ∙ first_append (flat_map f (range_with_len 0 n)) (f n))

pub unknown_found : (list : List ℕ) (ks : List Key) (ts : List (Bor (BTreeMap (String Global) Value))) (n : ℕ) (t : Bor (BTreeMap (String Global) Value))
    → n < length ts → t ≡ get_or ts n t → map (λ name. path list n (shown name)) (unknown_names (ks ++ []) (table_view t.now)) ≡ unknown_in list ks (views ts) n
unfolding unknown_in
unknown_found list ks ts n t below is = rw (append-nil ks, sym (view_at ts n t below is)) refl
