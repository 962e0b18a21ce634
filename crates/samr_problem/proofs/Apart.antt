-- Parts none of which meets an earlier one have no common cell.
use Rattle.std.proofs.Common.{◌≡◌, ◌∙◌, refl, sym, ℕ, zero, suc, ◌<◌, true, false, List, [], ◌∷◌, map, take, length, arith}
use Rattle.std.proofs.lemmas.Bool.{or_parts, true≢false}
use Rattle.std.proofs.lemmas.List.{get_or-map, length-map}
use Rattle.std.specs.List.{AllPairs, list_any}
use Rattle.samr_box.specs.Corners.{Corners, Meet, meets}
use Rattle.toml.specs.Data.{Members, no_members}
use Rattle.samr_problem.specs.Contexts.{corners_of, meets_any}
use Rattle.samr_problem.specs.Slots.{table_at}
use Rattle.samr_problem.proofs.Bounds.{at_most_back}

-- boxes that fail the test have no common cell
not_met : (a b : Corners) → meets a b ≡ false → ¬ Meet a b
not_met a b fails meet = true≢false (sym both ∙ fails)
  where
    both : meets a b ≡ true
    both = rw (at_most_back a.lo b.hi meet.low, at_most_back b.lo a.hi meet.high) refl

earlier_unmet : (dim : ℕ) (tables : List Members) (box : Corners) (i j : ℕ) → list_any (λ t. meets (corners_of dim t) box) (take j tables) ≡ false
    → i < j → j < length tables → meets (corners_of dim (table_at i tables)) box ≡ false
earlier_unmet dim [] box i j none before below = absurd (omega arith)
earlier_unmet dim (t ∷ ts) box i zero none before below = absurd (omega arith)
earlier_unmet dim (t ∷ ts) box zero (suc j) none before below =
    (or_parts (meets (corners_of dim t) box) (list_any (λ u. meets (corners_of dim u) box) (take j ts)) none).0
earlier_unmet dim (t ∷ ts) box (suc i) (suc j) none before below =
    earlier_unmet dim ts box i j (or_parts (meets (corners_of dim t) box) (list_any (λ u. meets (corners_of dim u) box) (take j ts)) none).1 (omega arith) (omega arith)

-- no table's box meets an earlier one's
pub tables_apart : (dim : ℕ) (tables : List Members) → ((j : ℕ) → j < length tables → meets_any dim (take j tables) (corners_of dim (table_at j tables)) ≡ false)
    → AllPairs (λ a b. ¬ Meet a b) (map (corners_of dim) tables)
unfolding meets_any
tables_apart dim tables unmet i j d before below =
    let size : length (map (corners_of dim) tables) ≡ length tables = length-map tables (corners_of dim) in
    let late : j < length tables = omega (arith, size, below) in
    let early : i < length tables = omega (arith, late, before) in
    rw (get_or-map (corners_of dim) tables i no_members d early, get_or-map (corners_of dim) tables j no_members d late)
    (not_met (corners_of dim (table_at i tables)) (corners_of dim (table_at j tables)) (earlier_unmet dim tables (corners_of dim (table_at j tables)) i j (unmet j late) before late))
