-- A document without a fault is a problem.
use Rattle.std.proofs.Common.{◌≡◌, ◌∙◌, ap, sym, refl, ℕ, ◌+◌, ◌-◌, ◌<◌, ◌≤◌, ℤ, pos, negsuc, Bool, true, false, not, ◌&&◌, ◌||◌, ◌==◌, List, [], ◌∷◌, ◌++◌, map, length, min, unsigned_abs, Option, Some, None, codes, arith}
use Rattle.std.proofs.Common.{zero, suc, subst, take, nat_le, nat_lt, ◌<ℤ◌}
use Rattle.std.proofs.lemmas.Bool.{le-leb, lt-leb, lt-ltb, true≢false}
use Rattle.samr_problem.proofs.Steps.{or_true}
use Rattle.std.proofs.lemmas.Float.{T_from_true}
use Rattle.std.specs.Int.Signed.{lt_z_yes}
use Rattle.std.specs.Prelude.{int_lt}
use Rattle.samr_shape.specs.declared.shape.Shape.{Shape}
use Rattle.std.proofs.lemmas.Bool.{and_parts, false≢true, not_from_true, not-false, not-true, or_parts}
use Rattle.std.proofs.lemmas.Int.{ints}
use Rattle.std.proofs.lemmas.List.{length-append, length-map}
use Rattle.std.specs.List.{AllPairs, list_all, flat_map, position_from, range_with_len}
use Rattle.std.specs.Ordering.{int_eq}
use Rattle.std.specs.Prelude.{if◌then◌else◌, int_le, is_some}
use Rattle.samr_box.specs.declared.vector.IVec.{IVec}
use Rattle.samr_box.specs.Corners.{Meet}
use Rattle.samr_box.specs.declared.space.Flags.{Flags}
use Rattle.samr_problem.proofs.Borders.{border_one, border_true, init_true}
use Rattle.samr_problem.proofs.Flat.{all_joined, flat_document}
use Rattle.samr_problem.proofs.Apart.{tables_apart}
use Rattle.samr_problem.proofs.Counts.{balls_few, items_few, probes_few, tables_few, tables_fewer}
use Rattle.samr_box.specs.Vector.{at_most}
use Rattle.toml.specs.Data.{Data, Members, get_member}
use Rattle.samr_problem.specs.declared.context.Document.{Document}
use Rattle.samr_problem.specs.Contexts.{corners_of, document_of, dim_of, finer, meets_any, own_of, number_at, ratio_of, ratios_of}
use Rattle.samr_problem.specs.Faults.{all_faults, fails, fails_at, has_fault, field_faults, refusals_by, domain_if, ghost_name, is_large, is_nested, unnested}
use Rattle.samr_problem.specs.Fields.{Fields, fields_of, fields_from, is_ratio, is_box, parts_in, probes_in, probe_of, shapes_in, slab_of, ball_of, field_of, fields_in}
use Rattle.samr_problem.specs.Keys.{Key, ball_keys, box_keys, field_keys, part_keys, top_keys}
use Rattle.samr_problem.specs.Problems.{IsProblem, SuitsParts, has_one_border, Within, AxesWithin, is_field, is_shape, is_part, is_probe}
use Rattle.samr_problem.specs.Ranges.{face_fits, factors_fit, has_length, high_fits, in_range, is_any, is_one_number, low_fits, probe_fits, rules_fit, values_fit}
use Rattle.samr_problem.specs.Refusals.{first, refusal_at, refusals}
use Rattle.samr_problem.specs.Slots.{slots, table_at, table_slots, tables_slots, top_slot}
use Rattle.samr_problem.specs.Values.{axes_within, entry_of, flags_of, items_of, is_within, number_of, small, vector_from, tables_of, vector_of, word}
use Rattle.samr_problem.specs.Lengths.{has_cell, sizes, lengths_of}
use Rattle.samr_problem.specs.declared.keys.Fault.TheVariants.{Outside}
use Rattle.samr_problem.specs.declared.keys.Kind.TheVariants.{Probes}
use Rattle.samr_problem.proofs.Bounds.{Between, all_made, axes_true, corners_true, count_of_range, factors_true, fewer_cells, flat_all, format_within, lengths_small, small_within, within_true, word_within}
use Rattle.samr_problem.proofs.Passed.{append_none, cond_none, map_none, passed, AllFree, Free, Passed}
use Rattle.samr_problem.proofs.Positions.{first_unnested}
use Rattle.samr_problem.proofs.Ranged.{at_most_true}
use Rattle.samr_problem.specs.declared.field.Field.{Field}

-- the rules of a table are in range, and one number where there are parts
abbrev pub FitBoundary : Document → Members → Type 0
FitBoundary document table =
    (rules_fit document.dim (number_at table (codes "modulus") (pos 1000000)) (get_member (codes "boundary") table)
    && (not document.has_parts || is_one_number document.dim (get_member (codes "boundary") table))) ≡ true

-- the ranges of the keys at the top
pub record TopRanges (document : Document) (doc : Members) : Type 0 where
  pub format : is_within (if document.has_parts then pos 2 else pos 1) (pos 2) (number_at doc (codes "format") (pos 0)) ≡ true
  pub dim : is_within (pos 2) (pos 3) (number_at doc (codes "dim") (pos 0)) ≡ true
  pub domain : axes_within document.dim (pos 1) (pos 4194304) (vector_of document.dim (get_member (codes "domain") doc) (pos 1) (pos 0)) ≡ true
  pub block : axes_within document.dim (pos 4) (pos 4194304) (vector_of document.dim (get_member (codes "block") doc) (pos 1) (pos 0)) ≡ true
  pub levels : is_within (pos 1) (pos 5) (number_at doc (codes "levels") (pos 1)) ≡ true
  pub ratio : list_all (axes_within document.dim (pos 2) (pos 4)) document.ratios ≡ true
  pub nest : axes_within document.dim (pos 1) (pos 8) (vector_of document.dim (get_member (codes "nest") doc) (pos 1) (pos 0)) ≡ true
  pub tag_buffer : axes_within document.dim (pos 0) (pos 8) (vector_of document.dim (get_member (codes "tag_buffer") doc) (pos 0) (pos 0)) ≡ true
  pub efficiency : is_within (pos 1) (pos 100) (number_at doc (codes "efficiency") (pos 80)) ≡ true
  pub smallest : is_within (pos 1) (pos 64) (number_at doc (codes "smallest") (pos 2)) ≡ true
  pub largest : is_within (pos 1) (pos 4194304) (number_at doc (codes "largest") (pos 64)) ≡ true
  pub tile : (int_eq (number_at doc (codes "tile") (pos 0)) (pos 0) || is_within (pos 8) (pos 4194304) (number_at doc (codes "tile") (pos 0))) ≡ true
  pub regrid : is_within (pos 1) (pos 1000) (number_at doc (codes "regrid") (pos 1)) ≡ true
  pub ghost_widths : axes_within document.dim (pos 0) (pos 8) (vector_of document.dim (get_member (codes "ghost") doc) (pos 0) (pos 0)) ≡ true
  pub modulus : is_within (pos 2) (pos 2147483647) (number_at doc (codes "modulus") (pos 1000000)) ≡ true
  pub update : factors_fit document.dim (vector_of document.dim (get_member (codes "ghost") doc) (pos 0) (pos 0)) (get_member (codes "update") doc) ≡ true
  pub periodic : (document.has_parts && is_any (flags_of document.dim (get_member (codes "periodic") doc))) ≡ false
  pub init : values_fit document.dim (get_member (codes "init") doc) ≡ true
  pub boundary : FitBoundary document doc
  pub probe : list_all (probe_fits document) (items_of (get_member (codes "probe") doc)) ≡ true
  pub steps : is_within (pos 0) (pos 1000) (number_at doc (codes "steps") (pos 0)) ≡ true

-- each table of a list makes a box
all_boxes : (dim : ℕ) (tables : List Members) → ((n : ℕ) → n < length tables → is_box (corners_of dim (table_at n tables)) ≡ true) → list_all is_box (map (corners_of dim) tables) ≡ true
all_boxes dim [] each = refl
all_boxes dim (t ∷ ts) each =
    let here : is_box (corners_of dim t) ≡ true = each 0 (omega arith) in
    rw here (all_boxes dim ts (λ n below. each (suc n) (omega arith)))

top_ranges : (document : Document) (doc : Members) → AllFree (map (top_slot document doc) top_keys) → TopRanges document doc
unfolding top_keys fails_at in_range own_of
top_ranges document doc free =
    let (format, (dim, (domain, (periodic, (block, (ghost_width, (levels, (ratio, (nest, (tag_buffer, (efficiency, (smallest, (largest, (tile, (regrid, (steps, (modulus, (init, (update, (refine, (coarsen, (boundary, (probe, _))))))))))))))))))))))) = free.outside in
    record {
      format = not-false _ format;
      dim = not-false _ dim;
      domain = not-false _ domain;
      block = not-false _ block;
      levels = not-false _ levels;
      ratio = not-false _ ratio;
      nest = not-false _ nest;
      tag_buffer = not-false _ tag_buffer;
      efficiency = not-false _ efficiency;
      smallest = not-false _ smallest;
      largest = not-false _ largest;
      tile = not-false _ tile;
      regrid = not-false _ regrid;
      steps = not-false _ steps;
      ghost_widths = not-false _ ghost_width;
      modulus = not-false _ modulus;
      update = not-false _ update;
      periodic = not-true _ (not-false _ periodic);
      init = not-false _ init;
      boundary = not-false _ boundary;
      probe = not-false _ probe;
    }

ratio_fits : (dim : ℕ) (value : Option Data) (n : ℕ) → axes_within dim (pos 2) (pos 4) (ratio_of dim value n) ≡ true → is_ratio (ratio_of dim value n) ≡ true
unfolding axes_within ratio_of vector_from
ratio_fits dim value n passed =
    factors_true (dim == 2) (number_of (entry_of 0 (entry_of n value)) (pos 2)) (number_of (entry_of (0 + 1) (entry_of n value)) (pos 2)) (number_of (entry_of (0 + 2) (entry_of n value)) (pos 2)) passed

pub ratios_sound : (doc : Members) → first (flat_map (refusals_by (slots doc)) all_faults) ≡ None → list_all is_ratio (document_of doc).ratios ≡ true
unfolding document_of ratios_of
ratios_sound doc none =
    let ranges = top_ranges (document_of doc) doc (passed doc none).top in
    let dim = (document_of doc).dim in
    let value = get_member (codes "ratio") doc in
    all_made (axes_within dim (pos 2) (pos 4)) is_ratio (λ n. ratio_of dim value n) (range_with_len 0 (finer (number_at doc (codes "levels") (pos 1))))
    (λ n fits. ratio_fits dim value n fits) ranges.ratio

-- the domain of a document
domain_true : (doc : Members) → TopRanges (document_of doc) doc → AxesWithin (document_of doc).dim (pos 1) (pos 4194304) (document_of doc).domain
unfolding document_of vector_from
domain_true doc ranges =
    let value = get_member (codes "domain") doc in
    axes_true (document_of doc).dim (pos 1) (pos 4194304) (pos 0) (number_of (entry_of 0 value) (pos 1)) (number_of (entry_of (0 + 1) value) (pos 1)) (number_of (entry_of (0 + 2) value) (pos 1)) ranges.domain

second_fails : (a b : Bool) → a ≡ true → (a && b) ≡ false → b ≡ false
second_fails true b holds fails = fails
second_fails false b holds fails = absurd (false≢true holds)

part_true : (document : Document) (list : List ℕ) (tables : List Members) (n : ℕ) → (unsigned_abs document.domain.i ≤ 4194304) × (unsigned_abs document.domain.j ≤ 4194304) × (unsigned_abs document.domain.k ≤ 4194304)
    → Free Outside (table_slots document list part_keys tables n) → is_box (corners_of document.dim (table_at n tables)) ≡ true
unfolding table_slots part_keys fails_at in_range own_of corners_of low_fits high_fits
part_true document list tables n small free =
    let low = not-false _ free.0 in
    let high = not-false _ free.1.0 in
    let corners = corners_of document.dim (table_at n tables) in
    corners_true (sizes document.domain) corners.lo corners.hi small (and_parts _ _ low).0 high

pub parts_sound : (doc : Members) → first (flat_map (refusals_by (slots doc)) all_faults) ≡ None → list_all is_box (parts_in (document_of doc).dim doc) ≡ true
unfolding parts_in tables_slots
parts_sound doc none =
    let all = passed doc none in
    let document = document_of doc in
    let tables = tables_of (get_member (codes "part") doc) in
    let small = lengths_small document.dim document.domain (domain_true doc (top_ranges document doc all.top)) in
    all_boxes document.dim tables
    (λ n below. part_true document (codes "part") tables n small
    (let same : 0 + n ≡ n = omega arith in let F : ℕ → Type 0 = λ m. Free Outside (table_slots document (codes "part") part_keys tables m) in
    subst F same (flat_all (λ s. has_fault Outside s ≡ false) (table_slots document (codes "part") part_keys tables) 0 (length tables) all.parts.outside.1 n below)))

-- what each table of a list is made to passes a test
all_tables : {Y : Type 0} (test : Y → Bool) (f : Members → Y) (tables : List Members) → ((n : ℕ) → n < length tables → test (f (table_at n tables)) ≡ true) → list_all test (map f tables) ≡ true
all_tables test f [] each = refl
all_tables test f (t ∷ ts) each =
    let here : test (f t) ≡ true = each 0 (omega arith) in
    rw here (all_tables test f ts (λ n below. each (suc n) (omega arith)))

-- the places of one table of a list
each_table : (document : Document) (list : List ℕ) (ks : List Key) (tables : List Members) → Free Outside (tables_slots document list ks tables)
    → (n : ℕ) → n < length tables → Free Outside (table_slots document list ks tables n)
unfolding tables_slots
each_table document list ks tables free n below =
    let same : 0 + n ≡ n = omega arith in let F : ℕ → Type 0 = λ m. Free Outside (table_slots document list ks tables m) in
    subst F same (flat_all (λ s. has_fault Outside s ≡ false) (table_slots document list ks tables) 0 (length tables) free n below)

slab_true : (document : Document) (tables : List Members) (n : ℕ) → Free Outside (table_slots document (codes "box") box_keys tables n)
    → is_shape document.dim (lengths_of document.domain document.ratios) (slab_of document.dim (table_at n tables)) ≡ true
unfolding table_slots box_keys fails_at in_range slab_of is_shape
slab_true document tables n free = rw (not-false _ free.0, not-false _ free.1.0, not-false _ free.1.1.0) refl

ball_true : (document : Document) (tables : List Members) (n : ℕ) → Free Outside (table_slots document (codes "ball") ball_keys tables n)
    → is_shape document.dim (lengths_of document.domain document.ratios) (ball_of document.dim (table_at n tables)) ≡ true
unfolding table_slots ball_keys fails_at in_range ball_of is_shape
ball_true document tables n free = rw (not-false _ free.0, not-false _ free.1.0, not-false _ free.1.1.0) refl

shapes_true : (doc : Members) → Passed (document_of doc) doc → list_all (is_shape (document_of doc).dim (lengths_of (document_of doc).domain (document_of doc).ratios)) (shapes_in (document_of doc).dim doc) ≡ true
unfolding shapes_in
shapes_true doc all =
    let document = document_of doc in
    let test : Shape → Bool = is_shape document.dim (lengths_of document.domain document.ratios) in
    let boxes = tables_of (get_member (codes "box") doc) in
    let balls = tables_of (get_member (codes "ball") doc) in
    all_joined test (map (slab_of document.dim) boxes) (map (ball_of document.dim) balls)
    (all_tables test (slab_of document.dim) boxes (λ n below. slab_true document boxes n (each_table document (codes "box") box_keys boxes all.boxes.outside.1 n below)))
    (all_tables test (ball_of document.dim) balls (λ n below. ball_true document balls n (each_table document (codes "ball") ball_keys balls all.balls.outside.1 n below)))

frame_true : (document : Document) (tables : List Members) (n : ℕ) → Free Outside (table_slots document (codes "part") part_keys tables n)
    → is_part document.domain (corners_of document.dim (table_at n tables)) ≡ true
unfolding table_slots part_keys fails_at in_range own_of corners_of low_fits high_fits is_part
frame_true document tables n free =
    let corners = corners_of document.dim (table_at n tables) in
    let both = not-false _ free.0 in
    let low : has_cell (sizes document.domain) corners.lo ≡ true = (and_parts _ _ both).0 in
    let high : (at_most corners.lo corners.hi && has_cell (sizes document.domain) corners.hi) ≡ true = not-false _ free.1.0 in
    rw low high

parts_true : (doc : Members) → Passed (document_of doc) doc → list_all (is_part (document_of doc).domain) (parts_in (document_of doc).dim doc) ≡ true
unfolding parts_in
parts_true doc all =
    let document = document_of doc in
    let tables = tables_of (get_member (codes "part") doc) in
    all_tables (is_part document.domain) (corners_of document.dim) tables
    (λ n below. frame_true document tables n (each_table document (codes "part") part_keys tables all.parts.outside.1 n below))

parts_few : (doc : Members) → Passed (document_of doc) doc → length (parts_in (document_of doc).dim doc) ≤ 8
unfolding parts_in fails_at
parts_few doc all =
    let document = document_of doc in
    let value = get_member (codes "part") doc in
    let size : length (map (corners_of document.dim) (tables_of value)) ≡ length (tables_of value) = length-map (tables_of value) (corners_of document.dim) in
    let few : length (tables_of value) ≤ 8 = tables_few document 1 8 value all.parts.mislong.0 in
    omega (arith, size, few)

fields_few : (doc : Members) → Passed (document_of doc) doc → Within 1 4 (length (fields_in (document_of doc).dim doc))
unfolding fields_in fails_at
fields_few doc all =
    let document = document_of doc in
    let value = get_member (codes "field") doc in
    let size : length (map (field_of document.dim) (tables_of value)) ≡ length (tables_of value) = length-map (tables_of value) (field_of document.dim) in
    let few : length (tables_of value) ≤ 3 = tables_few document 0 3 value all.fields.mislong.0 in
    record { above = omega arith; below = omega (arith, size, few) }

-- the length of the list of probes
probe_length : (document : Document) (doc : Members) → AllFree (map (top_slot document doc) top_keys) → fails (has_length document Probes) (get_member (codes "probe") doc) ≡ false
unfolding top_keys fails_at
probe_length document doc free =
    let (format, (dim, (domain, (periodic, (block, (ghost_width, (levels, (ratio, (nest, (tag_buffer, (efficiency, (smallest, (largest, (tile, (regrid, (steps, (modulus, (init, (update, (refine, (coarsen, (boundary, (probe, _))))))))))))))))))))))) = free.mislong in
    probe

probe_count : (doc : Members) → Passed (document_of doc) doc → length (probes_in (document_of doc).dim doc) ≤ 64
unfolding probes_in
probe_count doc all =
    let document = document_of doc in
    let value = get_member (codes "probe") doc in
    let size : length (map (probe_of document.dim) (items_of value)) ≡ length (items_of value) = length-map (items_of value) (probe_of document.dim) in
    let few : length (items_of value) ≤ 64 = probes_few document value (probe_length document doc all.top) in
    omega (arith, size, few)

boxes_few : (doc : Members) → Passed (document_of doc) doc → (document_of doc).boxes ≤ 32
unfolding document_of fails_at
boxes_few doc all = items_few (document_of doc) 0 32 (get_member (codes "box") doc) all.boxes.mislong.0

boxes_fewer : (doc : Members) → length (tables_of (get_member (codes "box") doc)) ≤ (document_of doc).boxes
unfolding document_of
boxes_fewer doc = tables_fewer (get_member (codes "box") doc)

shapes_few : (doc : Members) → Passed (document_of doc) doc → length (shapes_in (document_of doc).dim doc) ≤ 32
unfolding shapes_in fails_at
shapes_few doc all =
    let document = document_of doc in
    let boxes = tables_of (get_member (codes "box") doc) in
    let balls = tables_of (get_member (codes "ball") doc) in
    let sum : length (map (slab_of document.dim) boxes ++ map (ball_of document.dim) balls) ≡ length (map (slab_of document.dim) boxes) + length (map (ball_of document.dim) balls) = length-append (map (slab_of document.dim) boxes) (map (ball_of document.dim) balls) in
    let front : length (map (slab_of document.dim) boxes) ≡ length boxes = length-map boxes (slab_of document.dim) in
    let back : length (map (ball_of document.dim) balls) ≡ length balls = length-map balls (ball_of document.dim) in
    let fewer : length boxes ≤ document.boxes = boxes_fewer doc in
    let few : length balls + document.boxes ≤ 32 = balls_few document (get_member (codes "ball") doc) (boxes_few doc all) all.balls.mislong.0 in
    omega (arith, sum, front, back, fewer, few)

-- a part meets no earlier one
part_unmet : (document : Document) (tables : List Members) (n : ℕ) → Free Outside (table_slots document (codes "part") part_keys tables n)
    → meets_any document.dim (take n tables) (corners_of document.dim (table_at n tables)) ≡ false
unfolding table_slots part_keys fails_at in_range own_of low_fits
part_unmet document tables n free =
    let own = own_of document.dim (take n tables) (table_at n tables) in
    let (_, unmet) = and_parts (has_cell (sizes document.domain) own.lo) (not (high_fits document own && own.meets)) (not-false _ free.0) in
    let high : high_fits document own ≡ true = not-false _ free.1.0 in
    second_fails (high_fits document own) own.meets high (not-true _ unmet)

parts_apart : (doc : Members) → Passed (document_of doc) doc → AllPairs (λ a b. ¬ Meet a b) (parts_in (document_of doc).dim doc)
unfolding parts_in
parts_apart doc all =
    let document = document_of doc in
    let tables = tables_of (get_member (codes "part") doc) in
    tables_apart document.dim tables (λ n below. part_unmet document tables n (each_table document (codes "part") part_keys tables all.parts.outside.1 n below))

all_items : {Y : Type 0} (test : Data → Bool) (other : Y → Bool) (f : Data → Y) (ds : List Data) → ((d : Data) → test d ≡ true → other (f d) ≡ true) → list_all test ds ≡ true → list_all other (map f ds) ≡ true
all_items test other f [] implies all = refl
all_items test other f (d ∷ ds) implies all =
    let (here, rest) = and_parts (test d) (list_all test ds) all in rw (implies d here) (all_items test other f ds implies rest)

level_exact : (z : ℤ) → is_within (pos 0) (pos 4) z ≡ true → small z ≡ unsigned_abs z
level_exact z passed = exact z (within_true (pos 0) (pos 4) z passed)
  where
    exact : (y : ℤ) → Between (pos 0) (pos 4) y → small y ≡ unsigned_abs y
    exact (pos n) between = let high = between.below in omega (arith, ints)
    exact (negsuc n) between = absurd (let low = between.above in omega (arith, ints))

level_below : (z levels : ℤ) → Between (pos 0) (pos 4) z → Between (pos 1) (pos 5) levels → int_lt z levels ≡ true → nat_lt (small z) (small levels) ≡ true
level_below (pos n) (pos m) between range less =
    let under : pos n <ℤ pos m = lt_z_yes (T_from_true (int_lt (pos n) (pos m)) less) in
    let high = between.below in let top = range.below in
    let low : small (pos n) < small (pos m) = omega (arith, ints) in lt-ltb (small (pos n)) (small (pos m)) low
level_below (pos n) (negsuc m) between range less = absurd (let low = range.above in omega (arith, ints))
level_below (negsuc n) levels between range less = absurd (let low = between.above in omega (arith, ints))

probe_true : (document : Document) (d : Data) → is_within (pos 1) (pos 5) document.levels ≡ true → probe_fits document d ≡ true
    → is_probe (small document.levels) document.domain document.ratios (probe_of document.dim d) ≡ true
unfolding probe_fits probe_of is_probe
probe_true document d levels passed =
    let level = number_of (entry_of 0 (Some d)) (pos 0) in
    let (within, rest) = and_parts _ _ passed in
    let (less, cell) = and_parts _ _ rest in
    rw (level_below level document.levels (within_true (pos 0) (pos 4) level within) (within_true (pos 1) (pos 5) document.levels levels) less, level_exact level within) cell

probes_true : (doc : Members) → TopRanges (document_of doc) doc → is_within (pos 1) (pos 5) (document_of doc).levels ≡ true
    → list_all (is_probe (small (document_of doc).levels) (document_of doc).domain (document_of doc).ratios) (probes_in (document_of doc).dim doc) ≡ true
unfolding probes_in
probes_true doc ranges levels =
    let document = document_of doc in
    all_items (probe_fits document) (is_probe (small document.levels) document.domain document.ratios) (probe_of document.dim) (items_of (get_member (codes "probe") doc))
    (λ d fits. probe_true document d levels fits) ranges.probe

levels_range : (doc : Members) → TopRanges (document_of doc) doc → is_within (pos 1) (pos 5) (document_of doc).levels ≡ true
unfolding document_of
levels_range doc ranges = ranges.levels

le_test : (a b : ℕ) → a ≤ b → nat_le a b ≡ true
le_test a b low = le-leb a b low

or_right : (a b : Bool) → a ≡ false → (a || b) ≡ true → b ≡ true
or_right true b fails holds = absurd (true≢false fails)
or_right false b fails holds = holds

face_some : (dim : ℕ) (ghosts : IVec) (z : ℤ) → Between (pos 0) (pos 1000) z → (int_le z (pos 0) || axes_within dim (pos 1) (pos 8) ghosts) ≡ true → (word z == 0 || axes_within dim (pos 1) (pos 8) ghosts) ≡ true
face_some dim ghosts (pos zero) between passed = refl
face_some dim ghosts (pos (suc n)) between passed = or_true (word (pos (suc n)) == 0) (axes_within dim (pos 1) (pos 8) ghosts)
    (or_right (int_le (pos (suc n)) (pos 0)) (axes_within dim (pos 1) (pos 8) ghosts) (let above : 0 < suc n = omega arith in lt-leb (suc n) 0 above) passed)
face_some dim ghosts (negsuc n) between passed = absurd (let low = between.above in omega (arith, ints))

field_true : (dim : ℕ) (table : Members)
    → axes_within dim (pos 0) (pos 8) (vector_of dim (get_member (codes "ghost") table) (pos 0) (pos 0)) ≡ true
    → is_within (pos 2) (pos 2147483647) (number_at table (codes "modulus") (pos 1000000)) ≡ true
    → factors_fit dim (vector_of dim (get_member (codes "ghost") table) (pos 0) (pos 0)) (get_member (codes "update") table) ≡ true
    → values_fit dim (get_member (codes "init") table) ≡ true
    → rules_fit dim (number_at table (codes "modulus") (pos 1000000)) (get_member (codes "boundary") table) ≡ true
    → is_field dim (field_of dim table) ≡ true
unfolding is_field field_of factors_fit
field_true dim table ghost_widths modulus factors init rules =
    let ghosts = vector_of dim (get_member (codes "ghost") table) (pos 0) (pos 0) in
    let centre_value = number_of (entry_of 0 (get_member (codes "update") table)) (pos 1) in
    let face_value = number_of (entry_of 1 (get_member (codes "update") table)) (pos 0) in
    let (centre, face) = and_parts (is_within (pos 0) (pos 1000) centre_value) (face_fits dim ghosts face_value) factors in
    let (face_range, needs) = and_parts (is_within (pos 0) (pos 1000) face_value) (int_le face_value (pos 0) || axes_within dim (pos 1) (pos 8) ghosts) face in
    let m = word_within 2 2147483647 (number_at table (codes "modulus") (pos 1000000)) (omega arith) modulus in
    let c = word_within 0 1000 centre_value (omega arith) centre in
    let f = word_within 0 1000 face_value (omega arith) face_range in
    rw (
      ghost_widths,
      le_test 2 (word (number_at table (codes "modulus") (pos 1000000))) m.above,
      le_test (word (number_at table (codes "modulus") (pos 1000000))) 2147483647 m.below,
      le_test (word centre_value) 1000 c.below,
      le_test (word face_value) 1000 f.below,
      face_some dim ghosts face_value (within_true (pos 0) (pos 1000) face_value face_range) needs,
      init_true dim (get_member (codes "init") table) init,
    )
    (border_true dim (number_at table (codes "modulus") (pos 1000000)) (get_member (codes "boundary") table) (within_true (pos 2) (pos 2147483647) (number_at table (codes "modulus") (pos 1000000)) modulus) rules)

table_boundary : (document : Document) (tables : List Members) (n : ℕ) → Free Outside (table_slots document (codes "field") field_keys tables n) → FitBoundary document (table_at n tables)
unfolding table_slots field_keys fails_at in_range own_of
table_boundary document tables n free = not-false _ free.1.1.1.1.1.1.0

table_field_true : (document : Document) (tables : List Members) (n : ℕ) → Free Outside (table_slots document (codes "field") field_keys tables n)
    → is_field document.dim (field_of document.dim (table_at n tables)) ≡ true
unfolding table_slots field_keys fails_at in_range own_of
table_field_true document tables n free =
    field_true document.dim (table_at n tables) (not-false _ free.0) (not-false _ free.1.0) (not-false _ free.1.1.1.0) (not-false _ free.1.1.0) (and_parts _ _ (table_boundary document tables n free)).0

fields_true : (doc : Members) → TopRanges (document_of doc) doc → Passed (document_of doc) doc → list_all (is_field (document_of doc).dim) (fields_in (document_of doc).dim doc) ≡ true
unfolding fields_in
fields_true doc ranges all =
    let document = document_of doc in
    let tables = tables_of (get_member (codes "field") doc) in
    rw (field_true document.dim doc ranges.ghost_widths ranges.modulus ranges.update ranges.init (and_parts _ _ ranges.boundary).0)
    (all_tables (is_field document.dim) (field_of document.dim) tables (λ n below. table_field_true document tables n (each_table document (codes "field") field_keys tables all.fields.outside.1 n below)))

-- with parts, the rules of a table are one number
one_border : (document : Document) (table : Members) → document.has_parts ≡ true → FitBoundary document table → has_one_border document.dim (field_of document.dim table) ≡ true
unfolding field_of
one_border document table there passed =
    let value = get_member (codes "boundary") table in
    let (_, one) = and_parts (rules_fit document.dim (number_at table (codes "modulus") (pos 1000000)) value) (not document.has_parts || is_one_number document.dim value) passed in
    border_one document.dim value (or_right (not document.has_parts) (is_one_number document.dim value) (not_from_true document.has_parts there) one)

borders_true : (doc : Members) → TopRanges (document_of doc) doc → Passed (document_of doc) doc → (document_of doc).has_parts ≡ true
    → list_all (has_one_border (document_of doc).dim) (fields_in (document_of doc).dim doc) ≡ true
unfolding fields_in
borders_true doc ranges all there =
    let document = document_of doc in
    let tables = tables_of (get_member (codes "field") doc) in
    rw (one_border document doc there ranges.boundary)
    (all_tables (has_one_border document.dim) (field_of document.dim) tables
    (λ n below. one_border document (table_at n tables) there (table_boundary document tables n (each_table document (codes "field") field_keys tables all.fields.outside.1 n below))))

some_there : (dim : ℕ) (value : Option Data) → 0 < length (map (corners_of dim) (tables_of value)) → is_some value ≡ true
unfolding tables_of
some_there dim None some = absurd (omega (arith, some))
some_there dim (Some d) some = refl

-- parts are there only where their list is
parts_there : (doc : Members) → 0 < length (parts_in (document_of doc).dim doc) → (document_of doc).has_parts ≡ true
unfolding parts_in document_of
parts_there doc some = some_there (document_of doc).dim (get_member (codes "part") doc) some

format_two : (parts : Bool) (z : ℤ) → parts ≡ true → is_within (if parts then pos 2 else pos 1) (pos 2) z ≡ true → small z ≡ 2
format_two false z there passed = absurd (false≢true there)
format_two true z there passed =
    let found = small_within 2 2 z (omega arith) passed in
    let above = found.above in let below = found.below in
    omega (arith, above, below)

-- no axis is periodic
not_periodic : (f : Flags) → is_any f ≡ false → (f.i ≡ false) × (f.j ≡ false) × (f.k ≡ false)
not_periodic f none =
    let (i, rest) = or_parts f.i (f.j || f.k) none in
    let (j, k) = or_parts f.j f.k rest in
    (i, j, k)

parts_suit : (doc : Members) → TopRanges (document_of doc) doc → Passed (document_of doc) doc → min (document_of doc).dim 255 ≡ (document_of doc).dim
    → 0 < length (parts_in (document_of doc).dim doc) → SuitsParts (fields_of doc)
unfolding fields_from
parts_suit doc ranges all same some =
    let document = document_of doc in
    let there = parts_there doc some in
    let flags = not_periodic (flags_of document.dim (get_member (codes "periodic") doc)) (second_fails document.has_parts (is_any (flags_of document.dim (get_member (codes "periodic") doc))) there ranges.periodic) in
    record {
      format = format_two document.has_parts (number_at doc (codes "format") (pos 0)) there ranges.format;
      i = flags.0;
      j = flags.1;
      k = flags.2;
      borders = rw same (borders_true doc ranges all there);
    }

position_none : {X : Type 0} (test : X → Bool) (n : ℕ) (xs : List X) → position_from (λ x. not (test x)) n xs ≡ None → list_all test xs ≡ true
position_none test n [] none = refl
position_none test n (x ∷ xs) none =
    let (here, rest) = cond_none (not (test x)) n (position_from (λ y. not (test y)) (n + 1) xs) none in
    rw (not-false (test x) here) (position_none test (n + 1) xs rest)

nested_true : (ratios : List IVec) (nest : IVec) (fields : List Field) → first (refusals 8 (unnested ratios nest fields)) ≡ None → list_all (is_nested ratios nest) fields ≡ true
nested_true ratios nest fields none =
    position_none (is_nested ratios nest) 0 fields
    (map_none (λ n. refusal_at 8 (ghost_name n)) (position_from (λ f. not (is_nested ratios nest f)) 0 fields) (sym (first_unnested ratios nest fields) ∙ none))

domain_none : (cause : ℕ) (b : Bool) → first (refusals cause (domain_if b)) ≡ None → b ≡ false
domain_none cause true none = absurd (cc)
domain_none cause false none = refl

-- what is not told of the fields together
pub record Together (p : Fields) : Type 0 where
  pub nested : list_all (is_nested p.ratio p.nest) p.fields ≡ true
  pub wide : at_most p.width p.domain ≡ true
  pub finest : is_large p.domain p.ratio ≡ false

together_true : (p : Fields) → first (field_faults p) ≡ None → Together p
unfolding field_faults
together_true p none =
    let (front, large) = append_none (refusals 8 (unnested p.ratio p.nest p.fields) ++ refusals 9 (domain_if (not (at_most p.width p.domain)))) (refusals 10 (domain_if (is_large p.domain p.ratio))) none in
    let (nest, width) = append_none (refusals 8 (unnested p.ratio p.nest p.fields)) (refusals 9 (domain_if (not (at_most p.width p.domain)))) front in
    record {
      nested = nested_true p.ratio p.nest p.fields nest;
      wide = not-false _ (domain_none 9 (not (at_most p.width p.domain)) width);
      finest = domain_none 10 (is_large p.domain p.ratio) large;
    }

count_between : (z : ℤ) → Between (pos 1) (pos 5) z → unsigned_abs z - 1 + 1 ≡ small z
count_between (pos n) between = let low = between.above in let high = between.below in omega (arith, ints)
count_between (negsuc n) between = absurd (let low = between.above in omega (arith, ints))

levels_count : (z : ℤ) → is_within (pos 1) (pos 5) z ≡ true → finer z + 1 ≡ small z
unfolding finer
levels_count z passed = rw passed (count_between z (within_true (pos 1) (pos 5) z passed))

block_true : (doc : Members) → TopRanges (document_of doc) doc → AxesWithin (document_of doc).dim (pos 4) (pos 4194304) (vector_of (document_of doc).dim (get_member (codes "block") doc) (pos 1) (pos 1))
unfolding vector_from
block_true doc ranges =
    let value = get_member (codes "block") doc in
    axes_true (document_of doc).dim (pos 4) (pos 4194304) (pos 0) (number_of (entry_of 0 value) (pos 1)) (number_of (entry_of (0 + 1) value) (pos 1)) (number_of (entry_of (0 + 2) value) (pos 1)) ranges.block

dim_small : (doc : Members) → TopRanges (document_of doc) doc → Within 2 3 (min (document_of doc).dim 255)
unfolding document_of dim_of
dim_small doc ranges = small_within 2 3 (number_at doc (codes "dim") (pos 0)) (omega arith) ranges.dim

ratios_count : (doc : Members) → TopRanges (document_of doc) doc → length (document_of doc).ratios + 1 ≡ small (document_of doc).levels
unfolding document_of ratios_of
ratios_count doc ranges =
    let levels = number_at doc (codes "levels") (pos 1) in
    ap (λ n. n + 1) (count_of_range (λ n. ratio_of (dim_of doc) (get_member (codes "ratio") doc) n) (finer levels)) ∙ levels_count levels ranges.levels

levels_small : (doc : Members) → TopRanges (document_of doc) doc → Within 1 5 (small (document_of doc).levels)
unfolding document_of
levels_small doc ranges = small_within 1 5 (number_at doc (codes "levels") (pos 1)) (omega arith) ranges.levels

pub accepted : (doc : Members) → first (flat_map (refusals_by (slots doc)) all_faults) ≡ None → first (field_faults (fields_of doc)) ≡ None → IsProblem (fields_of doc)
unfolding fields_from
accepted doc none told =
    let document = document_of doc in
    let all = passed doc none in
    let ranges = top_ranges document doc all.top in
    let together = together_true (fields_of doc) told in
    let small_dim = dim_small doc ranges in
    let same : min document.dim 255 ≡ document.dim = let high = small_dim.below in omega (arith, high) in
    record {
      format = format_within document.has_parts _ ranges.format;
      dim = small_dim;
      domain = rw same (domain_true doc ranges);
      block = rw same (block_true doc ranges);
      levels = levels_small doc ranges;
      ratios = ratios_count doc ranges;
      ratio = rw same ranges.ratio;
      nest = rw same ranges.nest;
      tag_buffer = rw same ranges.tag_buffer;
      efficiency = word_within 1 100 _ (omega arith) ranges.efficiency;
      smallest = ranges.smallest;
      largest = ranges.largest;
      tile = ranges.tile;
      regrid = word_within 1 1000 _ (omega arith) ranges.regrid;
      steps = word_within 0 1000 _ (omega arith) ranges.steps;
      fields = rw same (fields_true doc ranges all);
      probes = probes_true doc ranges (levels_range doc ranges);
      parts = parts_true doc all;
      some_field = (fields_few doc all).above;
      few_fields = (fields_few doc all).below;
      few_probes = probe_count doc all;
      with_parts = λ some. parts_suit doc ranges all same some;
      few_shapes = shapes_few doc all;
      few_parts = parts_few doc all;
      apart = parts_apart doc all;
      shapes = rw same (shapes_true doc all);
      flat = λ is. flat_document doc (sym same ∙ is);
      nested = together.nested;
      width = refl;
      wide = at_most_true _ _ together.wide;
      finest = together.finest;
      cells = fewer_cells document.domain document.ratios (ratios_sound doc none) together.finest;
    }
