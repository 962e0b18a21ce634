-- The type that each kind of key asks for.
use Rattle.std.specs.Prelude.{Bool, ◌&&◌, ◌||◌, is_some}
use Rattle.std.specs.List.{list_all}
use Rattle.toml.specs.Data.{Data, as_integer, as_bool, as_array, as_str, as_table}
use Rattle.samr_problem.specs.declared.keys.Kind.{Kind}
use Rattle.samr_problem.specs.declared.keys.Kind.TheVariants.{Format, Number, Vector, Flags, Ratios, Tile, Values, Factors, Refine, Coarsen, Rules, Probes, Tables, Balls, Size, Low, High}
use Rattle.samr_problem.specs.Values.{items_in}

-- a whole number, a truth value, a text, a table
abbrev pub is_number : Data → Bool
is_number d = is_some (as_integer d)

abbrev pub is_flag : Data → Bool
is_flag d = is_some (as_bool d)

abbrev pub is_word : Data → Bool
is_word d = is_some (as_str d)

abbrev pub is_table : Data → Bool
is_table d = is_some (as_table d)

-- a number or a text
abbrev pub is_rule : Data → Bool
is_rule d = is_number d || is_word d

-- an array each of whose items passes
abbrev pub is_array_of : (Data → Bool) → Data → Bool
is_array_of test d = is_some (as_array d) && list_all test (items_in d)

-- a list of numbers
abbrev pub is_vector : Data → Bool
is_vector d = is_array_of is_number d

unfoldable pub has_type : Kind → Data → Bool
has_type Format d = is_number d
has_type (Number low high otherwise) d = is_number d
has_type (Vector low high otherwise) d = is_vector d
has_type Flags d = is_array_of is_flag d
has_type Ratios d = is_array_of is_vector d
has_type Tile d = is_number d
has_type Values d = is_vector d
has_type Factors d = is_vector d
has_type Refine d = is_word d
has_type Coarsen d = is_word d
has_type Rules d = is_array_of is_rule d
has_type Probes d = is_array_of is_vector d
has_type (Tables fewest most) d = is_array_of is_table d
has_type Balls d = is_array_of is_table d
has_type Size d = is_vector d
has_type Low d = is_vector d
has_type High d = is_vector d
