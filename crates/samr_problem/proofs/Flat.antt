-- The third axis of a two-dimensional problem.
use Rattle.std.proofs.Common.{◌≡◌, sym, refl, subst, ℕ, ℤ, pos, Bool, true, false, ◌==◌, List, [], ◌∷◌, ◌++◌, map, fold, Option, codes}
use Rattle.std.proofs.lemmas.Bool.{and_parts}
use Rattle.std.proofs.lemmas.Bool.Decides.{Decides-int_eq}
use Rattle.std.specs.List.{list_all, range_with_len}
use Rattle.std.specs.Ordering.{int_eq}
use Rattle.std.specs.Prelude.{if◌then◌else◌}
use Rattle.samr_box.specs.declared.vector.IVec.{IVec}
use Rattle.samr_box.specs.Vector.{alike, greatest}
use Rattle.toml.specs.Data.{Data, Members, get_member}
use Rattle.samr_problem.specs.declared.field.Field.{Field}
use Rattle.samr_problem.specs.Contexts.{corners_of, dim_of, document_of, ratio_of, ratios_of}
use Rattle.samr_problem.specs.Fields.{ball_of, field_of, fields_from, fields_in, fields_of, init_of, parts_in, probe_of, probes_in, shapes_in, slab_of, widest, width_of}
use Rattle.samr_problem.specs.Problems.{IsFlat, is_flat_field, is_flat_part, is_flat_probe, is_flat_shape}
use Rattle.samr_problem.specs.Values.{flags_of, items_of, small, tables_of, vector_from}

-- what each item is made to passes a test
all_of : {X Y : Type 0} (test : Y → Bool) (f : X → Y) (xs : List X) → ((x : X) → test (f x) ≡ true) → list_all test (map f xs) ≡ true
all_of test f [] each = refl
all_of test f (x ∷ xs) each = rw (each x) (all_of test f xs each)

-- what all items of two lists pass, all of both pass
pub all_joined : {Y : Type 0} (test : Y → Bool) (xs ys : List Y) → list_all test xs ≡ true → list_all test ys ≡ true → list_all test (xs ++ ys) ≡ true
all_joined test [] ys front back = back
all_joined test (x ∷ xs) ys front back =
    let (here, rest) = and_parts (test x) (list_all test xs) front in rw here (all_joined test xs ys rest back)

flat_ratio : (value : Option Data) (n : ℕ) → int_eq (ratio_of 2 value n).k (pos 1) ≡ true
unfolding ratio_of vector_from
flat_ratio value n = refl

flat_ratios : (dim : ℕ) (value : Option Data) (count : ℕ) → dim ≡ 2 → list_all (λ r. int_eq r.k (pos 1)) (ratios_of dim value count) ≡ true
unfolding ratios_of
flat_ratios dim value count is =
    let P : ℕ → Type 0 = λ n. list_all (λ r. int_eq r.k (pos 1)) (ratios_of n value count) ≡ true in
    subst P (sym is) (all_of (λ r. int_eq r.k (pos 1)) (λ n. ratio_of 2 value n) (range_with_len 0 count) (λ n. flat_ratio value n))

document_ratios : (doc : Members) → (document_of doc).dim ≡ 2 → list_all (λ r. int_eq r.k (pos 1)) (document_of doc).ratios ≡ true
unfolding document_of
document_ratios doc is = flat_ratios (dim_of doc) (get_member (codes "ratio") doc) _ is

flat_field : (table : Members) → is_flat_field (field_of 2 table) ≡ true
unfolding field_of init_of vector_from is_flat_field
flat_field table = refl

flat_fields : (dim : ℕ) (doc : Members) → dim ≡ 2 → list_all is_flat_field (fields_in dim doc) ≡ true
unfolding fields_in
flat_fields dim doc is =
    let P : ℕ → Type 0 = λ n. list_all is_flat_field (fields_in n doc) ≡ true in
    subst P (sym is) (rw (flat_field doc) (all_of is_flat_field (field_of 2) (tables_of (get_member (codes "field") doc)) flat_field))

flat_probe : (d : Data) → is_flat_probe (probe_of 2 d) ≡ true
unfolding probe_of vector_from
flat_probe d = refl

flat_probes : (dim : ℕ) (doc : Members) → dim ≡ 2 → list_all is_flat_probe (probes_in dim doc) ≡ true
unfolding probes_in
flat_probes dim doc is =
    let P : ℕ → Type 0 = λ n. list_all is_flat_probe (probes_in n doc) ≡ true in
    subst P (sym is) (all_of is_flat_probe (probe_of 2) (items_of (get_member (codes "probe") doc)) flat_probe)

flat_part : (table : Members) → is_flat_part (corners_of 2 table) ≡ true
unfolding corners_of vector_from
flat_part table = refl

flat_parts : (dim : ℕ) (doc : Members) → dim ≡ 2 → list_all is_flat_part (parts_in dim doc) ≡ true
unfolding parts_in
flat_parts dim doc is =
    let P : ℕ → Type 0 = λ n. list_all is_flat_part (parts_in n doc) ≡ true in
    subst P (sym is) (all_of is_flat_part (corners_of 2) (tables_of (get_member (codes "part") doc)) flat_part)

flat_slab : (table : Members) → is_flat_shape (slab_of 2 table) ≡ true
unfolding slab_of vector_from
flat_slab table = refl

flat_ball : (table : Members) → is_flat_shape (ball_of 2 table) ≡ true
unfolding ball_of vector_from
flat_ball table = refl

flat_shapes : (dim : ℕ) (doc : Members) → dim ≡ 2 → list_all is_flat_shape (shapes_in dim doc) ≡ true
unfolding shapes_in
flat_shapes dim doc is =
    let boxes = tables_of (get_member (codes "box") doc) in
    let balls = tables_of (get_member (codes "ball") doc) in
    let P : ℕ → Type 0 = λ n. list_all is_flat_shape (shapes_in n doc) ≡ true in
    subst P (sym is) (all_joined is_flat_shape (map (slab_of 2) boxes) (map (ball_of 2) balls) (all_of is_flat_shape (slab_of 2) boxes flat_slab) (all_of is_flat_shape (ball_of 2) balls flat_ball))

flat_vector : (dim : ℕ) (value : Option Data) (otherwise third : ℤ) → dim ≡ 2 → (vector_from 0 dim value otherwise third).k ≡ third
unfolding vector_from
flat_vector dim value otherwise third is = rw is refl

flat_flags : (dim : ℕ) (value : Option Data) → dim ≡ 2 → (flags_of dim value).k ≡ false
unfolding flags_of
flat_flags dim value is = rw is refl

no_ghosts : (f : Field) → is_flat_field f ≡ true → f.ghosts.k ≡ pos 0
unfolding is_flat_field
no_ghosts f flat = (Decides-int_eq f.ghosts.k (pos 0)).0 (and_parts (int_eq f.ghosts.k (pos 0)) (f.init.k == 0) flat).0

flat_widest : (fields : List Field) (w : IVec) → w.k ≡ pos 0 → list_all is_flat_field fields ≡ true → (fold (λ v f. greatest v f.ghosts) w fields).k ≡ pos 0
flat_widest [] w so_far flat = so_far
flat_widest (f ∷ fs) w so_far flat =
    let (here, rest) = and_parts (is_flat_field f) (list_all is_flat_field fs) flat in
    let wider : (greatest w f.ghosts).k ≡ pos 0 = rw (so_far, no_ghosts f here) refl in
    flat_widest fs (greatest w f.ghosts) wider rest

either : (b : Bool) (v w : IVec) → v.k ≡ pos 0 → w.k ≡ pos 0 → (if b then v else w).k ≡ pos 0
either true v w left right = left
either false v w left right = right

flat_width : (levels : ℕ) (nest tag_buffer : IVec) (fields : List Field) → nest.k ≡ pos 0 → tag_buffer.k ≡ pos 0 → list_all is_flat_field fields ≡ true
    → (width_of levels nest tag_buffer fields).k ≡ pos 0
unfolding width_of widest
flat_width levels nest tag_buffer fields nest_flat buffer_flat flat =
    let ghosts : (widest fields).k ≡ pos 0 = flat_widest fields (alike (pos 0)) refl flat in
    either (levels == 1) (widest fields) (greatest (widest fields) (greatest nest tag_buffer)) ghosts (rw (ghosts, nest_flat, buffer_flat) refl)

-- a two-dimensional document has nothing on its third axis
pub flat_document : (doc : Members) → (document_of doc).dim ≡ 2 → IsFlat (fields_of doc)
unfolding fields_from
flat_document doc is =
    let dim = (document_of doc).dim in
    let nest_flat = flat_vector dim (get_member (codes "nest") doc) (pos 1) (pos 0) is in
    let buffer_flat = flat_vector dim (get_member (codes "tag_buffer") doc) (pos 0) (pos 0) is in
    record {
      periodic = flat_flags dim (get_member (codes "periodic") doc) is;
      nest = nest_flat;
      tag_buffer = buffer_flat;
      ratio = document_ratios doc is;
      fields = flat_fields dim doc is;
      probes = flat_probes dim doc is;
      parts = flat_parts dim doc is;
      shapes = flat_shapes dim doc is;
      width = flat_width (small (document_of doc).levels) _ _ (fields_in dim doc) nest_flat buffer_flat (flat_fields dim doc is);
    }
