-- The faults of a document: for each cause, the places at which it holds.
use Rattle.std.specs.Prelude.{ℕ, ◌-◌, ◌*◌, ℤ, Bool, false, not, ◌&&◌, ◌||◌, List, [], ◌∷◌, ◌++◌, codes, map, filter, length, unsigned_abs, nat_lt, nat_le, nat_eq, is_none, Option, ◌==◌, if◌then◌else◌}
use Rattle.std.specs.List.{list_all, list_any, flat_map, enumerate_from, range_with_len}
use Rattle.std.specs.Option.{option_map_or}
use Rattle.std.specs.Str.{bytes_eq}
use Rattle.samr_box.specs.declared.vector.IVec.{IVec}
use Rattle.samr_box.specs.Vector.{at_most}
use Rattle.toml.specs.Data.{Data, Members, no_members, member, get_member}
use Rattle.samr_problem.specs.declared.context.Document.{Document}
use Rattle.samr_problem.specs.declared.context.Own.{Own}
use Rattle.samr_problem.specs.declared.field.Field.{Field}
use Rattle.samr_problem.specs.declared.keys.Fault.{Fault}
use Rattle.samr_problem.specs.declared.keys.Fault.TheVariants.{Missing, Mistyped, Early, Mislong, Outside}
use Rattle.samr_problem.specs.declared.refusal.Refusal.{Refusal}
use Rattle.samr_problem.specs.Fields.{Fields, fields_of}
use Rattle.samr_problem.specs.Keys.{Key, TableList, top_keys, fields_list, parts_list, boxes_list, balls_list}
use Rattle.samr_problem.specs.Lengths.{lengths_of, cells_in}
use Rattle.samr_problem.specs.Ranges.{has_length, in_range}
use Rattle.samr_problem.specs.Refusals.{refusal_at, refusals}
use Rattle.samr_problem.specs.Slots.{Slot, path, slots, table_at}
use Rattle.samr_problem.specs.Types.{has_type}
use Rattle.samr_problem.specs.Values.{tables_of}

-- the names in a table, ascending by bytes
abbrev pub names_of : Members → List (List ℕ)
names_of no_members = []
names_of (member name d rest) = name ∷ names_of rest

-- a letter, a digit, `_` or `-`
abbrev pub is_name_byte : ℕ → Bool
is_name_byte c =
    (nat_le 65 c && nat_le c 90) || (nat_le 97 c && nat_le c 122) || (nat_le 48 c && nat_le c 57)
    || nat_eq c 95 || nat_eq c 45

-- 1 to 64 such bytes
unfoldable pub is_plain_name : List ℕ → Bool
is_plain_name name = nat_lt 0 (length name) && (nat_le (length name) 64 && list_all is_name_byte name)

-- how an unknown name is shown: itself, where it is plain, else `?`
unfoldable pub shown : List ℕ → List ℕ
shown name = if is_plain_name name then name else codes "?"

-- one of these keys has the name
unfoldable pub is_known : List Key → List ℕ → Bool
is_known ks name = list_any (λ k. bytes_eq k.name name) ks

-- the names in a table that none of these keys has
unfoldable pub unknown_names : List Key → Members → List (List ℕ)
unknown_names ks table = filter (λ name. not (is_known ks name)) (names_of table)

-- all keys that may stand at the top
unfoldable pub all_top_keys : List Key
all_top_keys = top_keys ++ fields_list.list ∷ parts_list.list ∷ boxes_list.list ∷ balls_list.list ∷ []

-- the unknown names of the table with a number, as they are shown
unfoldable pub unknown_in : List ℕ → List Key → List Members → ℕ → List (List ℕ)
unknown_in list ks tables n = map (λ name. path list n (shown name)) (unknown_names ks (table_at n tables))

-- the unknown names of all tables of a list
unfoldable pub unknown_in_list : List ℕ → List Key → List Members → List (List ℕ)
unknown_in_list list ks tables = flat_map (unknown_in list ks tables) (range_with_len 0 (length tables))

abbrev pub unknown_of : Members → TableList → List (List ℕ)
unknown_of doc l = unknown_in_list l.list.name l.keys (tables_of (get_member l.list.name doc))

-- the unknown names of a document: those at the top, then those of its tables
unfoldable pub unknown : Members → List (List ℕ)
unknown doc =
    map shown (unknown_names all_top_keys doc)
    ++ unknown_of doc fields_list
    ++ unknown_of doc parts_list
    ++ unknown_of doc boxes_list
    ++ unknown_of doc balls_list

-- whether a value is there and fails a test
abbrev pub fails : (Data → Bool) → Option Data → Bool
fails test value = option_map_or (λ d. not (test d)) value false

-- a key has the fault, by what its tests look at and the value that stands there
unfoldable pub fails_at : Fault → Document → Own → Key → Option Data → Bool
fails_at Missing document own k value = k.required && is_none value
fails_at Mistyped document own k value = fails (has_type k.kind) value
fails_at Early document own k value = k.early && not (in_range document own k.kind value)
fails_at Mislong document own k value = fails (has_length document k.kind) value
fails_at Outside document own k value = not (in_range document own k.kind value)

-- the place has the fault
abbrev pub has_fault : Fault → Slot → Bool
has_fault fault s = fails_at fault s.document s.own s.key s.value

-- the number of the cause that a fault is
abbrev pub cause_of : Fault → ℕ
cause_of Missing = 4
cause_of Mistyped = 5
cause_of Early = 6
cause_of Mislong = 7
cause_of Outside = 6

-- the faults of a place, in the order in which they are told
unfoldable pub all_faults : List Fault
all_faults = Missing ∷ Mistyped ∷ Early ∷ Mislong ∷ Outside ∷ []

-- the refusals by a fault at each of some places that has it
abbrev pub refusals_by : List Slot → Fault → List Refusal
refusals_by ss fault = map (λ s. refusal_at (cause_of fault) s.shown) (filter (has_fault fault) ss)

-- the ghost width of an axis is at most the nest width in cells of the finer level
unfoldable pub ghost_fits : ℤ → ℤ → ℤ → Bool
ghost_fits ghost nest ratio = nat_le (unsigned_abs ghost) (unsigned_abs nest * unsigned_abs ratio)

-- the ghost widths are at most these nest widths in cells of the finer level
unfoldable pub ghosts_fit : IVec → IVec → IVec → Bool
ghosts_fit nest ghosts ratio =
    ghost_fits ghosts.i nest.i ratio.i && (ghost_fits ghosts.j nest.j ratio.j && ghost_fits ghosts.k nest.k ratio.k)

-- the ghosts of a field lie in the nest of each level above 0
unfoldable pub is_nested : List IVec → IVec → Field → Bool
is_nested ratios nest f = list_all (ghosts_fit nest f.ghosts) ratios

-- how the ghost widths of the field with a number are shown
unfoldable pub ghost_name : ℕ → List ℕ
ghost_name n = if n == 0 then codes "ghost" else path (codes "field") (n - 1) (codes "ghost")

-- the fields whose ghosts do not lie in the nest
unfoldable pub unnested : List IVec → IVec → List Field → List (List ℕ)
unnested ratios nest fields = map (λ e. ghost_name e.0) (filter (λ e. not (is_nested ratios nest e.1)) (enumerate_from 0 fields))

-- the domain, where a test of it holds
abbrev pub domain_if : Bool → List (List ℕ)
domain_if test = if test then codes "domain" ∷ [] else []

-- the finest domain has more cells than a problem may have
unfoldable pub is_large : IVec → List IVec → Bool
is_large domain ratios = nat_lt 4194304 (cells_in (lengths_of domain ratios))

-- the faults of some fields together
unfoldable pub field_faults : Fields → List Refusal
field_faults p =
    refusals 8 (unnested p.ratio p.nest p.fields)
    ++ refusals 9 (domain_if (not (at_most p.width p.domain)))
    ++ refusals 10 (domain_if (is_large p.domain p.ratio))

-- every fault of a document, in the order in which they are told
unfoldable pub faults : Members → List Refusal
faults doc =
    refusals 3 (unknown doc)
    ++ flat_map (refusals_by (slots doc)) all_faults
    ++ field_faults (fields_of doc)
