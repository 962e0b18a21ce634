-- The keys of a problem: a table for each kind of table that a document has, in the order of the manual.
use Rattle.std.specs.Prelude.{ℕ, pos, negsuc, Bool, true, false, List, [], ◌∷◌, codes}
use Rattle.samr_problem.specs.declared.keys.Kind.{Kind}
use Rattle.samr_problem.specs.declared.keys.Kind.TheVariants.{Format, Number, Vector, Flags, Ratios, Tile, Values, Factors, Refine, Coarsen, Rules, Probes, Tables, Balls, Size, Low, High}
use Rattle.samr_problem.specs.declared.keys.Row.{Row}

-- a key: its name, whether every such table has it, whether its range is looked at before any length, and what its value is
pub record Key : Type 0 where
  pub name : List ℕ
  pub required : Bool
  pub early : Bool
  pub kind : Kind

-- the key that a row of the program's table is
abbrev pub key_of : Row → Key
key_of r = record { name = r.name.now; required = r.required; early = r.early; kind = r.kind }

-- a key on which all lengths depend, a key that every such table has, and any other
abbrev pub early_key : List ℕ → Kind → Key
early_key name kind = record { name = name; required = true; early = true; kind = kind }

abbrev pub required_key : List ℕ → Kind → Key
required_key name kind = record { name = name; required = true; early = false; kind = kind }

abbrev pub key : List ℕ → Kind → Key
key name kind = record { name = name; required = false; early = false; kind = kind }

-- the keys at the top, up to the lists of tables. A number has its least, its greatest and its default; a vector has
-- a number for each real axis
unfoldable pub top_keys : List Key
top_keys =
    early_key (codes "format") Format
    ∷ early_key (codes "dim") (Number (pos 2) (pos 3) (pos 0))
    ∷ required_key (codes "domain") (Vector (pos 1) (pos 4194304) (pos 1))
    ∷ required_key (codes "periodic") Flags
    ∷ required_key (codes "block") (Vector (pos 4) (pos 4194304) (pos 1))
    ∷ key (codes "ghost") (Vector (pos 0) (pos 8) (pos 0))
    ∷ key (codes "levels") (Number (pos 1) (pos 5) (pos 1))
    ∷ key (codes "ratio") Ratios
    ∷ key (codes "nest") (Vector (pos 1) (pos 8) (pos 1))
    ∷ key (codes "tag_buffer") (Vector (pos 0) (pos 8) (pos 0))
    ∷ key (codes "efficiency") (Number (pos 1) (pos 100) (pos 80))
    ∷ key (codes "smallest") (Number (pos 1) (pos 64) (pos 2))
    ∷ key (codes "largest") (Number (pos 1) (pos 4194304) (pos 64))
    ∷ key (codes "tile") Tile
    ∷ key (codes "regrid") (Number (pos 1) (pos 1000) (pos 1))
    ∷ key (codes "steps") (Number (pos 0) (pos 1000) (pos 0))
    ∷ key (codes "modulus") (Number (pos 2) (pos 2147483647) (pos 1000000))
    ∷ key (codes "init") Values
    ∷ key (codes "update") Factors
    ∷ key (codes "refine") Refine
    ∷ key (codes "coarsen") Coarsen
    ∷ key (codes "boundary") Rules
    ∷ key (codes "probe") Probes
    ∷ []

-- the keys of a `field` table
unfoldable pub field_keys : List Key
field_keys =
    key (codes "ghost") (Vector (pos 0) (pos 8) (pos 0))
    ∷ key (codes "modulus") (Number (pos 2) (pos 2147483647) (pos 1000000))
    ∷ key (codes "init") Values
    ∷ key (codes "update") Factors
    ∷ key (codes "refine") Refine
    ∷ key (codes "coarsen") Coarsen
    ∷ key (codes "boundary") Rules
    ∷ []

-- the keys of a `part` table
unfoldable pub part_keys : List Key
part_keys =
    required_key (codes "lo") Low
    ∷ required_key (codes "hi") High
    ∷ []

-- the keys of a `box` table
unfoldable pub box_keys : List Key
box_keys =
    required_key (codes "lo") (Vector (negsuc 8388607) (pos 8388608) (pos 0))
    ∷ required_key (codes "size") Size
    ∷ key (codes "velocity") (Vector (negsuc 4095) (pos 4096) (pos 0))
    ∷ []

-- the keys of a `ball` table
unfoldable pub ball_keys : List Key
ball_keys =
    required_key (codes "at") (Vector (negsuc 8388607) (pos 8388608) (pos 0))
    ∷ required_key (codes "radius") (Number (pos 0) (pos 4194304) (pos 0))
    ∷ key (codes "velocity") (Vector (negsuc 4095) (pos 4096) (pos 0))
    ∷ []

-- the lists of tables: the list's own key, and the keys of its tables
pub record TableList : Type 0 where
  pub list : Key
  pub keys : List Key

abbrev pub fields_list : TableList
fields_list = record { list = key (codes "field") (Tables 0 3); keys = field_keys }

abbrev pub parts_list : TableList
parts_list = record { list = key (codes "part") (Tables 1 8); keys = part_keys }

abbrev pub boxes_list : TableList
boxes_list = record { list = key (codes "box") (Tables 0 32); keys = box_keys }

abbrev pub balls_list : TableList
balls_list = record { list = key (codes "ball") Balls; keys = ball_keys }
