-- How many tables there are where no length is at fault.
use Rattle.std.proofs.Common.{◌≡◌, ℕ, suc, ◌+◌, ◌≤◌, false, List, [], ◌∷◌, length, Option, Some, None, arith}
use Rattle.std.proofs.Math.Nat.{le_trans}
use Rattle.std.proofs.lemmas.Bool.{and_parts, leb-true, not-false}
use Rattle.std.specs.List.{cons_option, filter_map, list_all}
use Rattle.std.specs.Prelude.{nat_le}
use Rattle.toml.specs.Data.{Data, as_table}
use Rattle.samr_problem.specs.declared.context.Document.{Document}
use Rattle.samr_problem.specs.declared.keys.Kind.TheVariants.{Balls, Probes, Tables}
use Rattle.samr_problem.specs.Faults.{fails}
use Rattle.samr_problem.specs.Ranges.{has_items, has_length, has_probes}
use Rattle.samr_problem.specs.Values.{items_in, items_of, tables_of}

more_kept : {Y : Type 0} (o : Option Y) (ys : List Y) (n : ℕ) → length ys ≤ n → length (cons_option o ys) ≤ suc n
more_kept None ys n rest = omega arith
more_kept (Some y) ys n rest = omega arith

-- picking items makes a list no longer
fewer_kept : {X Y : Type 0} (f : X → Option Y) (xs : List X) → length (filter_map f xs) ≤ length xs
fewer_kept f [] = omega arith
fewer_kept f (x ∷ xs) = more_kept (f x) (filter_map f xs) (length xs) (fewer_kept f xs)

-- a value has at most as many tables as items
pub tables_fewer : (value : Option Data) → length (tables_of value) ≤ length (items_of value)
unfolding tables_of
tables_fewer value = fewer_kept as_table (items_of value)

pub items_few : (document : Document) (fewest most : ℕ) (value : Option Data) → fails (has_length document (Tables fewest most)) value ≡ false → length (items_of value) ≤ most
unfolding has_length
items_few document fewest most None passed = omega arith
items_few document fewest most (Some d) passed =
    leb-true (length (items_in d)) most (and_parts (nat_le fewest (length (items_in d))) (nat_le (length (items_in d)) most) (not-false _ passed)).1

-- a list of tables has at most as many as its key says
pub tables_few : (document : Document) (fewest most : ℕ) (value : Option Data) → fails (has_length document (Tables fewest most)) value ≡ false → length (tables_of value) ≤ most
tables_few document fewest most value passed = le_trans (tables_fewer value) (items_few document fewest most value passed)

-- the `ball` tables and the items of `box` together
pub balls_few : (document : Document) (value : Option Data) → document.boxes ≤ 32 → fails (has_length document Balls) value ≡ false → length (tables_of value) + document.boxes ≤ 32
unfolding has_length tables_of
balls_few document None boxes passed = omega (arith, boxes)
balls_few document (Some d) boxes passed =
    let few : length (items_in d) + document.boxes ≤ 32 = leb-true (length (items_in d) + document.boxes) 32 (not-false _ passed) in
    let fewer : length (filter_map as_table (items_in d)) ≤ length (items_in d) = fewer_kept as_table (items_in d) in
    omega (arith, few, fewer)

pub probes_few : (document : Document) (value : Option Data) → fails (has_length document Probes) value ≡ false → length (items_of value) ≤ 64
unfolding has_length has_probes
probes_few document None passed = omega arith
probes_few document (Some d) passed =
    leb-true (length (items_in d)) 64 (and_parts (nat_le (length (items_in d)) 64) (list_all (has_items (document.dim + 1)) (items_in d)) (not-false _ passed)).0
