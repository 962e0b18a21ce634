-- The places of a document where a key of the format may stand, in the order of the manual.
use Rattle.std.specs.Prelude.{ℕ, List, [], ◌∷◌, ◌++◌, map, length, take, Option, slice_index_or}
use Rattle.std.specs.Fmt.{decimal}
use Rattle.std.specs.List.{flat_map, range_with_len}
use Rattle.toml.specs.Data.{Data, Members, no_members, get_member}
use Rattle.samr_problem.specs.declared.context.Document.{Document}
use Rattle.samr_problem.specs.declared.context.Own.{Own}
use Rattle.samr_problem.specs.Contexts.{document_of, own_of}
use Rattle.samr_problem.specs.Keys.{Key, TableList, top_keys, fields_list, parts_list, boxes_list, balls_list}
use Rattle.samr_problem.specs.Values.{tables_of}

-- a place: how it is shown, its key, what its tests look at, and the value that stands there, if any
pub record Slot : Type 0 where
  pub shown : List ℕ
  pub key : Key
  pub document : Document
  pub own : Own
  pub value : Option Data

-- the path of a key of a table: the list's name, the table's number and the key's name
unfoldable pub path : List ℕ → ℕ → List ℕ → List ℕ
path list n name = list ++ 46 ∷ decimal n ++ 46 ∷ name

-- the place of a key of a table, shown this way
abbrev pub slot : (List ℕ → List ℕ) → Document → Own → Members → Key → Slot
slot show document own table k = record {
  shown = show k.name;
  key = k;
  document = document;
  own = own;
  value = get_member k.name table;
}

-- the place of a key at the top
abbrev pub top_slot : Document → Members → Key → Slot
top_slot document doc k = slot (λ name. name) document (own_of document.dim [] doc) doc k

-- the table at a place of a list
abbrev pub table_at : ℕ → List Members → Members
table_at n tables = slice_index_or tables n no_members

-- the place of a key of the table with a number
abbrev pub table_slot : Document → List ℕ → List Members → ℕ → Key → Slot
table_slot document list tables n k =
    slot (path list n) document (own_of document.dim (take n tables) (table_at n tables)) (table_at n tables) k

-- the places of the keys of the table with a number
unfoldable pub table_slots : Document → List ℕ → List Key → List Members → ℕ → List Slot
table_slots document list ks tables n = map (table_slot document list tables n) ks

-- the places of the keys of all tables of a list
unfoldable pub tables_slots : Document → List ℕ → List Key → List Members → List Slot
tables_slots document list ks tables = flat_map (table_slots document list ks tables) (range_with_len 0 (length tables))

-- the place of a list of tables, and those of the keys of its tables
abbrev pub list_slots : Document → Members → TableList → List Slot
list_slots document doc l =
    top_slot document doc l.list ∷ tables_slots document l.list.name l.keys (tables_of (get_member l.list.name doc))

-- all places of a document
unfoldable pub slots : Members → List Slot
slots doc =
    let document = document_of doc in
    map (top_slot document doc) top_keys
    ++ list_slots document doc fields_list
    ++ list_slots document doc parts_list
    ++ list_slots document doc boxes_list
    ++ list_slots document doc balls_list
