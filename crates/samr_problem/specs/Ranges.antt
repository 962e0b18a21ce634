-- The length and the range that each kind of key asks for.
use Rattle.std.specs.Prelude.{ℕ, ◌+◌, ℤ, pos, negsuc, Bool, true, not, ◌&&◌, ◌||◌, codes, length, take, unsigned_abs, nat_le, Option, Some, is_none, ◌==◌, int_le, int_lt, if◌then◌else◌}
use Rattle.std.specs.Ordering.{int_eq}
use Rattle.std.specs.List.{list_all}
use Rattle.std.specs.Option.{option_map_or}
use Rattle.samr_box.specs.declared.vector.IVec.{IVec}
use Rattle.samr_box.specs.declared.space.Flags.{Flags as Truths}
use Rattle.samr_box.specs.Vector.{at_most}
use Rattle.toml.specs.Data.{Data, as_integer}
use Rattle.samr_problem.specs.declared.keys.Kind.{Kind}
use Rattle.samr_problem.specs.declared.keys.Kind.TheVariants.{Format, Number, Vector, Flags, Ratios, Tile, Values, Factors, Refine, Coarsen, Rules, Probes, Tables, Balls, Size, Low, High}
use Rattle.samr_problem.specs.declared.context.Document.{Document}
use Rattle.samr_problem.specs.declared.context.Own.{Own}
use Rattle.samr_problem.specs.Lengths.{sizes, lengths_of, has_cell, fits_in}
use Rattle.samr_problem.specs.Values.{items_in, items_of, number_of, is_text, entry_of, vector_of, vector_from, flags_of, is_within, axes_within}

-- a list of so many items
abbrev pub has_items : ℕ → Data → Bool
has_items n d = length (items_in d) == n

-- a list for each level above 0, where `levels` is in range, each with a number for each real axis
unfoldable pub has_ratios : Document → Data → Bool
has_ratios document d =
    (not (is_within (pos 1) (pos 5) document.levels) || (length (items_in d) + 1 == unsigned_abs document.levels))
    && list_all (has_items document.dim) (items_in d)

-- at most 64 lists, each with a level and a number for each real axis
unfoldable pub has_probes : Document → Data → Bool
has_probes document d = nat_le (length (items_in d)) 64 && list_all (has_items (document.dim + 1)) (items_in d)

-- the length that a kind asks for
unfoldable pub has_length : Document → Kind → Data → Bool
has_length document Format d = true
has_length document (Number low high otherwise) d = true
has_length document (Vector low high otherwise) d = has_items document.dim d
has_length document Flags d = has_items document.dim d
has_length document Ratios d = has_ratios document d
has_length document Tile d = true
has_length document Values d = has_items (document.dim + 1) d
has_length document Factors d = has_items 2 d
has_length document Refine d = true
has_length document Coarsen d = true
has_length document Rules d = has_items document.dim d
has_length document Probes d = has_probes document d
has_length document (Tables fewest most) d = nat_le fewest (length (items_in d)) && nat_le (length (items_in d)) most
has_length document Balls d = nat_le (length (items_in d) + document.boxes) 32
has_length document Size d = has_items document.dim d
has_length document Low d = has_items document.dim d
has_length document High d = has_items document.dim d

-- an axis with the truth value true
abbrev pub is_any : Truths → Bool
is_any f = f.i || (f.j || f.k)

-- a first value and a slope for each real axis, from 0 to 2,147,483,646
unfoldable pub values_fit : ℕ → Option Data → Bool
values_fit dim value =
    is_within (pos 0) (pos 2147483646) (number_of (entry_of 0 value) (pos 0))
    && axes_within dim (pos 0) (pos 2147483646) (vector_from 1 dim value (pos 0) (pos 0))

-- the factor of the neighbours needs a ghost cell on each real axis
abbrev pub face_fits : ℕ → IVec → ℤ → Bool
face_fits dim ghosts face = is_within (pos 0) (pos 1000) face && (int_le face (pos 0) || axes_within dim (pos 1) (pos 8) ghosts)

-- the factors of the cell and of its neighbours
unfoldable pub factors_fit : ℕ → IVec → Option Data → Bool
factors_fit dim ghosts value =
    is_within (pos 0) (pos 1000) (number_of (entry_of 0 value) (pos 1))
    && face_fits dim ghosts (number_of (entry_of 1 value) (pos 0))

-- a number from 0 up to the modulus, or one of the two texts
unfoldable pub is_fit_rule : ℤ → Data → Bool
is_fit_rule modulus d =
    option_map_or (λ z. int_le (pos 0) z && int_lt z modulus) (as_integer d)
    (is_text (codes "clamp") (Some d) || is_text (codes "reflect") (Some d))

-- the default is a text
abbrev pub rule_fits : ℤ → Option Data → Bool
rule_fits modulus value = option_map_or (is_fit_rule modulus) value true

-- the rules of the real axes
unfoldable pub rules_fit : ℕ → ℤ → Option Data → Bool
rules_fit dim modulus value =
    rule_fits modulus (entry_of 0 value)
    && (rule_fits modulus (entry_of 1 value) && (dim == 2 || rule_fits modulus (entry_of 2 value)))

-- the number of a rule, -1 where it is a text
abbrev pub rule_number : ℕ → Option Data → ℤ
rule_number n value = number_of (entry_of n value) (negsuc 0)

-- the rules of the real axes are one number
unfoldable pub is_one_number : ℕ → Option Data → Bool
is_one_number dim value =
    int_le (pos 0) (rule_number 0 value)
    && (int_eq (rule_number 0 value) (rule_number 1 value)
    && (dim == 2 || int_eq (rule_number 0 value) (rule_number 2 value)))

-- a level that there is, and a cell of its domain
unfoldable pub probe_fits : Document → Data → Bool
probe_fits document d =
    let level = number_of (entry_of 0 (Some d)) (pos 0) in
    is_within (pos 0) (pos 4) level
    && (int_lt level document.levels
    && has_cell (lengths_of document.domain (take (unsigned_abs level) document.ratios)) (vector_from 1 document.dim (Some d) (pos 0) (pos 0)))

-- the upper corner lies in the domain, and not below the lower one
unfoldable pub high_fits : Document → Own → Bool
high_fits document own = at_most own.lo own.hi && has_cell (sizes document.domain) own.hi

-- the lower corner lies in the domain, and the part meets no earlier one
unfoldable pub low_fits : Document → Own → Bool
low_fits document own = has_cell (sizes document.domain) own.lo && not (high_fits document own && own.meets)

-- the value, or the default where there is none, is in the range that a kind asks for
unfoldable pub in_range : Document → Own → Kind → Option Data → Bool
in_range document own Format value = is_within (if document.has_parts then pos 2 else pos 1) (pos 2) (number_of value (pos 0))
in_range document own (Number low high otherwise) value = is_within low high (number_of value otherwise)
in_range document own (Vector low high otherwise) value = axes_within document.dim low high (vector_of document.dim value otherwise (pos 0))
in_range document own Flags value = not (document.has_parts && is_any (flags_of document.dim value))
in_range document own Ratios value = list_all (axes_within document.dim (pos 2) (pos 4)) document.ratios
in_range document own Tile value = int_eq (number_of value (pos 0)) (pos 0) || is_within (pos 8) (pos 4194304) (number_of value (pos 0))
in_range document own Values value = values_fit document.dim value
in_range document own Factors value = factors_fit document.dim own.ghosts value
in_range document own Refine value = is_none value || (is_text (codes "copy") value || is_text (codes "ramp") value)
in_range document own Coarsen value = is_none value || (is_text (codes "first") value || (is_text (codes "max") value || is_text (codes "sum") value))
in_range document own Rules value = rules_fit document.dim own.modulus value && (not document.has_parts || is_one_number document.dim value)
in_range document own Probes value = list_all (probe_fits document) (items_of value)
in_range document own (Tables fewest most) value = true
in_range document own Balls value = true
in_range document own Size value = fits_in (lengths_of document.domain document.ratios) (vector_of document.dim value (pos 1) (pos 1))
in_range document own Low value = low_fits document own
in_range document own High value = high_fits document own
