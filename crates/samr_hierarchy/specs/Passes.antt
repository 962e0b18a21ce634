-- What a step does to a hierarchy: the values of new levels, the update of all levels at once, and coarsening from fine to coarse.
use Rattle.std.specs.Prelude.{ℕ, zero, suc, ◌+◌, ◌-◌, ◌*◌, ◌%◌, ◌==◌, unsigned_abs, sum, List, [], map, length, slice_get, if◌then◌else◌}
use Rattle.samr_box.specs.declared.vector.IVec.{IVec}
use Rattle.samr_level.specs.Refs.{Owned}
use Rattle.samr_ops.specs.declared.rules.Rules.{Rules}
use Rattle.samr_ops.specs.Rules.{updated_value}
use Rattle.samr_fill.specs.Fill.{Filling, value_of}
use Rattle.samr_values.specs.Values.{Renewing, new_value}
use Rattle.samr_values.specs.Coarsen.{is_under, merged}
use Rattle.samr_values.specs.Updating.{faces}
use Rattle.samr_problem.specs.declared.field.Field.{Field}
use Rattle.samr_problem.specs.Fields.{Fields}
use Rattle.samr_mesh.specs.Meshes.{level_at, is_due}
use Rattle.samr_hierarchy.specs.Scales.{rules_of}
use Rattle.samr_hierarchy.specs.Hierarchies.{Hierarchy, Values, for_field, filling, renewing, coarsening}

-- the first value of a cell of level 0
abbrev pub first_value : Field → IVec → ℕ
first_value f x =
    (f.init.first + f.init.i * unsigned_abs x.i + f.init.j * unsigned_abs x.j + f.init.k * unsigned_abs x.k) % f.modulus

-- the values of a new level
abbrev pub renewed : Fields → Renewing → ℕ → IVec → ℕ
renewed p w f x = for_field (slice_get p.fields f) (λ r. new_value w (f, rules_of r) x)

-- those of the levels of step 0: of each level over level 0 from the one below it
abbrev pub first_values : Fields → ℕ → List (List Owned) → Values
first_values p ranks levels zero = λ f x. for_field (slice_get p.fields f) (λ r. first_value r x)
first_values p ranks levels (suc l) =
    renewed p (renewing p ranks l (level_at levels (suc l)) [] (level_at levels l) (λ f x. 0) (first_values p ranks levels l))

abbrev pub first_hierarchy : Fields → ℕ → List (List Owned) → Hierarchy
first_hierarchy p ranks levels = record { levels = levels; values = first_values p ranks levels; seen = λ l f x. 0 }

-- those of the levels that a later regrid made: level 0 keeps its own
abbrev pub renewing_at : Fields → ℕ → Hierarchy → List (List Owned) → ℕ → Renewing
renewing_at p ranks h news l =
    renewing p ranks l (level_at news (suc l)) (level_at h.levels (suc l)) (level_at h.levels l) (h.values (suc l)) (h.values l)

abbrev pub renewed_values : Fields → ℕ → Hierarchy → List (List Owned) → Values
renewed_values p ranks h news zero = h.values 0
renewed_values p ranks h news (suc l) = renewed p (renewing_at p ranks h news l)

-- new patches have zeros in their ghost cells
abbrev pub renewed_seen : Hierarchy → Values
renewed_seen h zero = h.seen 0
renewed_seen h (suc l) = λ f x. 0

abbrev pub regridded : Fields → ℕ → Hierarchy → List (List Owned) → Hierarchy
regridded p ranks h news = record { levels = news; values = renewed_values p ranks h news; seen = renewed_seen h }

-- the hierarchy that a step fills: with new levels where a regrid is due
abbrev pub begun : Fields → ℕ → Hierarchy → List (List Owned) → ℕ → Hierarchy
begun p ranks h news t = record {
  levels = news;
  values = if is_due p t then renewed_values p ranks h news else h.values;
  seen = if is_due p t then renewed_seen h else h.seen;
}

-- the value of a cell after a step
abbrev pub value_after : ℕ → Filling → ℕ × Rules → IVec → ℕ
value_after dim w f x = updated_value f.1 (w.values f.0 x) (sum (map (λ y. value_of w f y) (faces dim x)))

-- all levels at once; ghost cells have what the fill saw
abbrev pub updated_values : Fields → ℕ → Hierarchy → Values
updated_values p ranks h l f x = for_field (slice_get p.fields f) (λ r. value_after p.dim (filling p ranks h l) (f, rules_of r) x)

abbrev pub seen_values : Fields → ℕ → Hierarchy → Values
seen_values p ranks h l f x = for_field (slice_get p.fields f) (λ r. value_of (filling p ranks h l) (f, rules_of r) x)

abbrev pub updated : Fields → ℕ → Hierarchy → Hierarchy
updated p ranks h = record { levels = h.levels; values = updated_values p ranks h; seen = seen_values p ranks h }

-- the values of level l, of which cells under the next finer level get theirs from the cells over them
abbrev pub merged_values : Fields → ℕ → Hierarchy → ℕ → ℕ → IVec → ℕ
merged_values p ranks h l f x =
    if is_under (coarsening p ranks h l) x then for_field (slice_get p.fields f) (λ r. merged (coarsening p ranks h l) (f, (r.coarsen, r.modulus)) x)
    else h.values l f x

abbrev pub with_values : Hierarchy → Values → Hierarchy
with_values h v = record { levels = h.levels; values = v; seen = h.seen }

-- after so many of these, which begin at the second finest level
abbrev pub coarsened_values : Fields → ℕ → Hierarchy → ℕ → Values
coarsened_values p ranks h zero = h.values
coarsened_values p ranks h (suc n) = λ l.
    if l == length h.levels - 2 - n then merged_values p ranks (with_values h (coarsened_values p ranks h n)) l
    else coarsened_values p ranks h n l

abbrev pub coarsened : Fields → ℕ → Hierarchy → ℕ → Hierarchy
coarsened p ranks h n = with_values h (coarsened_values p ranks h n)

-- a step, which ends with the mesh `news`
abbrev pub stepped : Fields → ℕ → Hierarchy → List (List Owned) → ℕ → Hierarchy
stepped p ranks h news t = coarsened p ranks (updated p ranks (begun p ranks h news t)) (length news - 1)

-- the hierarchy after a step, where the mesh after step t is `mesh t`
abbrev pub after : Fields → ℕ → (ℕ → List (List Owned)) → ℕ → Hierarchy
after p ranks mesh zero = first_hierarchy p ranks (mesh 0)
after p ranks mesh (suc t) = stepped p ranks (after p ranks mesh t) (mesh (suc t)) (suc t)
