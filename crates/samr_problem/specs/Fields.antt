-- A problem as its fields, and what is true of them.
use Rattle.std.specs.Prelude.{ℕ, ◌*◌, ℤ, pos, negsuc, Bool, ◌&&◌, List, ◌∷◌, ◌++◌, codes, map, fold, Option, Some, min, unsigned_abs, ◌==◌, if◌then◌else◌}
use Rattle.std.specs.Option.{option_map_or}
use Rattle.samr_box.specs.declared.vector.IVec.{IVec}
use Rattle.samr_box.specs.declared.space.Flags.{Flags}
use Rattle.samr_box.specs.Corners.{Corners}
use Rattle.samr_box.specs.Vector.{alike, at_most, greatest}
use Rattle.samr_ops.specs.declared.rules.RefineRule.{RefineRule}
use Rattle.samr_ops.specs.declared.rules.RefineRule.TheVariants.{Same, Ramp}
use Rattle.samr_ops.specs.declared.rules.CoarsenRule.{CoarsenRule}
use Rattle.samr_ops.specs.declared.rules.CoarsenRule.TheVariants.{First, Max, Sum}
use Rattle.samr_ops.specs.declared.rules.Rule.{Rule}
use Rattle.samr_ops.specs.declared.rules.Rule.TheVariants.{Fixed, Clamp, Reflect}
use Rattle.samr_shape.specs.declared.shape.Shape.{Shape}
use Rattle.samr_shape.specs.declared.shape.Shape.TheVariants.{Slab, Ball}
use Rattle.toml.specs.Data.{Data, Members, get_member, as_integer}
use Rattle.samr_problem.specs.declared.context.Document.{Document}
use Rattle.samr_ops.specs.declared.rules.Border.{Border}
use Rattle.samr_problem.specs.declared.field.Field.{Field}
use Rattle.samr_problem.specs.declared.field.Init.{Init}
use Rattle.samr_problem.specs.declared.probe.Probe.{Probe}
use Rattle.samr_problem.specs.Contexts.{number_at, document_of, corners_of}
use Rattle.samr_problem.specs.Values.{number_of, is_text, entry_of, items_of, tables_of, vector_of, vector_from, flags_of, word, small}

pub record Fields : Type 0 where
  pub format : ℕ
  pub dim : ℕ
  pub domain : IVec
  pub periodic : Flags
  pub block : IVec
  pub levels : ℕ
  pub ratio : List IVec
  pub nest : IVec
  pub tag_buffer : IVec
  pub efficiency : ℕ
  pub smallest : ℤ
  pub largest : ℤ
  pub tile : ℤ
  pub regrid : ℕ
  pub steps : ℕ
  pub fields : List Field
  pub probes : List Probe
  pub parts : List Corners
  pub shapes : List Shape
  pub width : IVec

-- the numbers at a key, with what stands for a number that is not there and for a third axis that is not real
abbrev pub vector_at : ℕ → Members → List ℕ → ℤ → ℤ → IVec
vector_at dim table name otherwise third = vector_of dim (get_member name table) otherwise third

-- the first value and the slopes
unfoldable pub init_of : ℕ → Option Data → Init
init_of dim value =
    let slopes = vector_from 1 dim value (pos 0) (pos 0) in
    record { first = word (number_of (entry_of 0 value) (pos 0)); i = word slopes.i; j = word slopes.j; k = word slopes.k }

-- the factors of a ratio and the corners of a box are in the range of their types
unfoldable pub is_ratio : IVec → Bool
is_ratio r = at_most (alike (pos 1)) r && at_most r (alike (pos 256))

unfoldable pub is_box : Corners → Bool
is_box b = at_most (alike (negsuc 1073741823)) b.lo && (at_most b.lo b.hi && at_most b.hi (alike (pos 1073741824)))

-- the rule that an entry of `boundary` names
unfoldable pub rule_of : Option Data → Rule
rule_of value =
    if is_text (codes "reflect") value then Reflect
    else option_map_or (λ d. option_map_or (λ z. Fixed (word z)) (as_integer d) Clamp) value Clamp

-- the rules of the axes; a third axis that is not real has no border
unfoldable pub border_of : ℕ → Option Data → Border
border_of dim value = record {
  i = rule_of (entry_of 0 value);
  j = rule_of (entry_of 1 value);
  k = if dim == 2 then Clamp else rule_of (entry_of 2 value);
}

-- the rules that the texts name
unfoldable pub refine_of : Option Data → RefineRule
refine_of value = if is_text (codes "ramp") value then Ramp else Same

unfoldable pub coarsen_of : Option Data → CoarsenRule
coarsen_of value = if is_text (codes "max") value then Max else (if is_text (codes "sum") value then Sum else First)

-- the field that a table is, or the top of the document
unfoldable pub field_of : ℕ → Members → Field
field_of dim table = record {
  ghosts = vector_at dim table (codes "ghost") (pos 0) (pos 0);
  modulus = word (number_at table (codes "modulus") (pos 1000000));
  init = init_of dim (get_member (codes "init") table);
  centre = word (number_of (entry_of 0 (get_member (codes "update") table)) (pos 1));
  face = word (number_of (entry_of 1 (get_member (codes "update") table)) (pos 0));
  refine = refine_of (get_member (codes "refine") table);
  coarsen = coarsen_of (get_member (codes "coarsen") table);
  boundary = border_of dim (get_member (codes "boundary") table);
}

-- the probe that a list is
unfoldable pub probe_of : ℕ → Data → Probe
probe_of dim d = record { level = small (number_of (entry_of 0 (Some d)) (pos 0)); cell = vector_from 1 dim (Some d) (pos 0) (pos 0) }

-- the shape that a `box` or a `ball` table is
unfoldable pub slab_of : ℕ → Members → Shape
slab_of dim table = Slab
    (vector_at dim table (codes "lo") (pos 0) (pos 0))
    (vector_at dim table (codes "size") (pos 1) (pos 1))
    (vector_at dim table (codes "velocity") (pos 0) (pos 0))

unfoldable pub ball_of : ℕ → Members → Shape
ball_of dim table = Ball
    (vector_at dim table (codes "at") (pos 0) (pos 0))
    (number_at table (codes "radius") (pos 0))
    (vector_at dim table (codes "velocity") (pos 0) (pos 0))

-- the greatest ghost widths of some fields
unfoldable pub widest : List Field → IVec
widest fields = fold (λ w f. greatest w f.ghosts) (alike (pos 0)) fields

-- how many cells a domain of these lengths has
unfoldable pub cell_count : IVec → ℕ
cell_count size = unsigned_abs size.i * unsigned_abs size.j * unsigned_abs size.k

-- the width of all connectors
unfoldable pub width_of : ℕ → IVec → IVec → List Field → IVec
width_of levels nest tag_buffer fields =
    if levels == 1 then widest fields else greatest (widest fields) (greatest nest tag_buffer)

-- the tables of a list
abbrev pub tables_at : Members → List ℕ → List Members
tables_at doc name = tables_of (get_member name doc)

-- the fields that a document gives: those at the top first, then those of the `field` tables
unfoldable pub fields_in : ℕ → Members → List Field
fields_in dim doc = field_of dim doc ∷ map (field_of dim) (tables_at doc (codes "field"))

-- the probes and the parts that a document gives
unfoldable pub probes_in : ℕ → Members → List Probe
probes_in dim doc = map (probe_of dim) (items_of (get_member (codes "probe") doc))

unfoldable pub parts_in : ℕ → Members → List Corners
parts_in dim doc = map (corners_of dim) (tables_at doc (codes "part"))

-- the shapes that a document gives: those of the `box` tables, then those of the `ball` tables
unfoldable pub shapes_in : ℕ → Members → List Shape
shapes_in dim doc = map (slab_of dim) (tables_at doc (codes "box")) ++ map (ball_of dim) (tables_at doc (codes "ball"))

-- the fields that a document gives, by what its tests look at and its table
unfoldable pub fields_from : Document → Members → Fields
fields_from document doc =
    let dim = document.dim in
    let levels = small document.levels in
    let nest = vector_at dim doc (codes "nest") (pos 1) (pos 0) in
    let tag_buffer = vector_at dim doc (codes "tag_buffer") (pos 0) (pos 0) in
    let fields = fields_in dim doc in
    record {
      format = small (number_at doc (codes "format") (pos 0));
      dim = min dim 255;
      domain = document.domain;
      periodic = flags_of dim (get_member (codes "periodic") doc);
      block = vector_at dim doc (codes "block") (pos 1) (pos 1);
      levels = levels;
      ratio = document.ratios;
      nest = nest;
      tag_buffer = tag_buffer;
      efficiency = word (number_at doc (codes "efficiency") (pos 80));
      smallest = number_at doc (codes "smallest") (pos 2);
      largest = number_at doc (codes "largest") (pos 64);
      tile = number_at doc (codes "tile") (pos 0);
      regrid = word (number_at doc (codes "regrid") (pos 1));
      steps = word (number_at doc (codes "steps") (pos 0));
      fields = fields;
      probes = probes_in dim doc;
      parts = parts_in dim doc;
      shapes = shapes_in dim doc;
      width = width_of levels nest tag_buffer fields;
    }

-- the fields that a document gives
abbrev pub fields_of : Members → Fields
fields_of doc = fields_from (document_of doc) doc
