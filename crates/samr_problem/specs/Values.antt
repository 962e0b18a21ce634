-- What a value is read as: total, with a number that stands for what is not there.
use Rattle.std.specs.Prelude.{ℕ, ◌+◌, ℤ, Bool, false, ◌&&◌, ◌||◌, List, [], ◌∷◌, min, unsigned_abs, Option, option_and_then, unwrap_or, ◌==◌, if◌then◌else◌, int_le}
use Rattle.std.specs.List.{filter_map}
use Rattle.std.specs.Option.{option_map_or}
use Rattle.std.specs.Str.{bytes_eq}
use Rattle.samr_box.specs.declared.vector.IVec.{IVec}
use Rattle.samr_box.specs.declared.space.Flags.{Flags}
use Rattle.toml.specs.Data.{Data, Items, no_items, item, Members, at, as_integer, as_bool, as_array, as_str, as_table}

-- the items as a list
abbrev pub list_of : Items → List Data
list_of no_items = []
list_of (item d ds) = d ∷ list_of ds

-- the items of an array, none of another value
abbrev pub items_in : Data → List Data
items_in d = option_map_or list_of (as_array d) []

-- the items of the value, none where there is no value
abbrev pub items_of : Option Data → List Data
items_of value = option_map_or items_in value []

-- the tables among the items of the value
unfoldable pub tables_of : Option Data → List Members
tables_of value = filter_map as_table (items_of value)

-- the whole number that a value is
abbrev pub number_of : Option Data → ℤ → ℤ
number_of value otherwise = unwrap_or (option_and_then as_integer value) otherwise

-- the truth value that a value is
abbrev pub flag_of : Option Data → Bool
flag_of value = unwrap_or (option_and_then as_bool value) false

-- the value is this text
abbrev pub is_text : List ℕ → Option Data → Bool
is_text text value = option_map_or (λ t. bytes_eq t text) (option_and_then as_str value) false

-- the item at a place of the list that a value is
abbrev pub entry_of : ℕ → Option Data → Option Data
entry_of n value = option_and_then (at n) value

-- the numbers of a list, `i` first, from a place on; a two-dimensional problem has the third number given here
unfoldable pub vector_from : ℕ → ℕ → Option Data → ℤ → ℤ → IVec
vector_from place dim value otherwise third = record {
  k = if dim == 2 then third else number_of (entry_of (place + 2) value) otherwise;
  j = number_of (entry_of (place + 1) value) otherwise;
  i = number_of (entry_of place value) otherwise;
}

-- the numbers of a list, one for each real axis
abbrev pub vector_of : ℕ → Option Data → ℤ → ℤ → IVec
vector_of dim value otherwise third = vector_from 0 dim value otherwise third

-- the truth values of a list, `i` first; a third axis that is not real has `false`
unfoldable pub flags_of : ℕ → Option Data → Flags
flags_of dim value = record {
  k = if dim == 2 then false else flag_of (entry_of 2 value);
  j = flag_of (entry_of 1 value);
  i = flag_of (entry_of 0 value);
}

-- a whole number from `low` to `high`
unfoldable pub is_within : ℤ → ℤ → ℤ → Bool
is_within low high z = int_le low z && int_le z high

-- each real axis has a number from `low` to `high`
unfoldable pub axes_within : ℕ → ℤ → ℤ → IVec → Bool
axes_within dim low high v = is_within low high v.i && (is_within low high v.j && (dim == 2 || is_within low high v.k))

-- a number as it is kept, in 32 and in 8 bits: what is accepted fits
abbrev pub word : ℤ → ℕ
word z = min (unsigned_abs z) 4294967295

abbrev pub small : ℤ → ℕ
small z = min (unsigned_abs z) 255
