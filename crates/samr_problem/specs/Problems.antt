-- What is true of an accepted problem.
use Rattle.std.specs.Prelude.{negsuc, Bool, ◌&&◌, List, take, nat_lt, nat_le, ◌≡◌, ℕ, ◌+◌, ◌<◌, ◌≤◌, ℤ, pos, ◌≤ℤ◌, true, false, ◌||◌, length, ◌==◌, if◌then◌else◌}
use Rattle.std.specs.List.{list_all, AllPairs}
use Rattle.std.specs.Ordering.{int_eq}
use Rattle.samr_box.specs.declared.vector.IVec.{IVec}
use Rattle.samr_box.specs.Corners.{Corners, Meet}
use Rattle.samr_box.specs.Vector.{at_most, AtMost}
use Rattle.samr_shape.specs.declared.shape.Shape.{Shape}
use Rattle.samr_shape.specs.declared.shape.Shape.TheVariants.{Slab, Ball}
use Rattle.samr_problem.specs.declared.lengths.Lengths.{Lengths}
use Rattle.samr_ops.specs.declared.rules.Rule.{Rule}
use Rattle.samr_ops.specs.declared.rules.Rule.TheVariants.{Fixed, Clamp, Reflect}
use Rattle.samr_ops.specs.declared.rules.Border.{Border}
use Rattle.samr_problem.specs.declared.field.Field.{Field}
use Rattle.samr_problem.specs.declared.field.Init.{Init}
use Rattle.samr_problem.specs.declared.probe.Probe.{Probe}
use Rattle.samr_problem.specs.Lengths.{sizes, lengths_of, has_cell, fits_in}
use Rattle.samr_problem.specs.Faults.{is_nested, is_large}
use Rattle.samr_problem.specs.Fields.{Fields, cell_count, width_of}
use Rattle.samr_problem.specs.Values.{is_within, axes_within}

-- a number from `low` to `high`
pub record Within (low high n : ℕ) : Type 0 where
  pub above : low ≤ n
  pub below : n ≤ high

-- each real axis has a number from `low` to `high`, and a third axis that is not real has 1
pub record AxesWithin (dim : ℕ) (low high : ℤ) (v : IVec) : Type 0 where
  pub i_low : low ≤ℤ v.i
  pub i_high : v.i ≤ℤ high
  pub j_low : low ≤ℤ v.j
  pub j_high : v.j ≤ℤ high
  pub k_low : (if dim == 2 then pos 1 else low) ≤ℤ v.k
  pub k_high : v.k ≤ℤ (if dim == 2 then pos 1 else high)

-- the places and lengths of a shape, in a finest domain of these lengths
unfoldable pub is_shape : ℕ → Lengths → Shape → Bool
is_shape dim finest (Slab lo size velocity) =
    axes_within dim (negsuc 8388607) (pos 8388608) lo && (fits_in finest size && axes_within dim (negsuc 4095) (pos 4096) velocity)
is_shape dim finest (Ball at radius velocity) =
    axes_within dim (negsuc 8388607) (pos 8388608) at && (is_within (pos 0) (pos 4194304) radius && axes_within dim (negsuc 4095) (pos 4096) velocity)

-- the first value and the slopes are below 2,147,483,647
unfoldable pub is_init : Init → Bool
is_init x = nat_lt x.first 2147483647 && (nat_lt x.i 2147483647 && (nat_lt x.j 2147483647 && nat_lt x.k 2147483647))

-- a number that the rule has is below the modulus
abbrev pub is_below : ℕ → Rule → Bool
is_below modulus (Fixed n) = nat_lt n modulus
is_below modulus Clamp = true
is_below modulus Reflect = true

-- the numbers beyond the borders are below the modulus
unfoldable pub is_border : ℕ → Border → Bool
is_border modulus b = is_below modulus b.i && (is_below modulus b.j && is_below modulus b.k)

-- both rules are one same number
abbrev pub are_one_number : Rule → Rule → Bool
are_one_number (Fixed a) (Fixed b) = a == b
are_one_number _ _ = false

-- one same number stands beyond the borders of all real axes
unfoldable pub is_one_border : ℕ → Border → Bool
is_one_border dim b = are_one_number b.i b.j && (dim == 2 || are_one_number b.i b.k)

-- one same number stands beyond all borders of a field
abbrev pub has_one_border : ℕ → Field → Bool
has_one_border dim f = is_one_border dim f.boundary

-- what a domain made of parts asks for: format 2, no periodic axis, and one number beyond all borders of each field
pub record SuitsParts (p : Fields) : Type 0 where
  pub format : p.format ≡ 2
  pub i : p.periodic.i ≡ false
  pub j : p.periodic.j ≡ false
  pub k : p.periodic.k ≡ false
  pub borders : list_all (has_one_border p.dim) p.fields ≡ true

-- the numbers of a field: a factor for neighbours needs a ghost cell on each real axis
unfoldable pub is_field : ℕ → Field → Bool
is_field dim f =
    axes_within dim (pos 0) (pos 8) f.ghosts
    && (nat_le 2 f.modulus && (nat_le f.modulus 2147483647
    && (nat_le f.centre 1000 && (nat_le f.face 1000 && ((f.face == 0 || axes_within dim (pos 1) (pos 8) f.ghosts)
    && (is_init f.init && is_border f.modulus f.boundary))))))

-- a part of the frame
unfoldable pub is_part : IVec → Corners → Bool
is_part domain b = has_cell (sizes domain) b.lo && (at_most b.lo b.hi && has_cell (sizes domain) b.hi)

-- a level that there is, and a cell of its domain
unfoldable pub is_probe : ℕ → IVec → List IVec → Probe → Bool
is_probe levels domain ratios q = nat_lt q.level levels && has_cell (lengths_of domain (take q.level ratios)) q.cell

-- a field has neither ghosts nor a slope on the third axis
unfoldable pub is_flat_field : Field → Bool
is_flat_field f = int_eq f.ghosts.k (pos 0) && f.init.k == 0

-- the cell of a probe lies at 0 there
abbrev pub is_flat_probe : Probe → Bool
is_flat_probe q = int_eq q.cell.k (pos 0)

-- both corners of a part lie at 0 there
abbrev pub is_flat_part : Corners → Bool
is_flat_part b = int_eq b.lo.k (pos 0) && int_eq b.hi.k (pos 0)

-- a shape lies at 0 there, is 1 long and does not move along it
abbrev pub is_flat_shape : Shape → Bool
is_flat_shape (Slab lo size velocity) = int_eq lo.k (pos 0) && (int_eq size.k (pos 1) && int_eq velocity.k (pos 0))
is_flat_shape (Ball at radius velocity) = int_eq at.k (pos 0) && int_eq velocity.k (pos 0)

-- the third axis of a two-dimensional problem
pub record IsFlat (p : Fields) : Type 0 where
  pub periodic : p.periodic.k ≡ false
  pub nest : p.nest.k ≡ pos 0
  pub tag_buffer : p.tag_buffer.k ≡ pos 0
  pub ratio : list_all (λ r. int_eq r.k (pos 1)) p.ratio ≡ true
  pub fields : list_all is_flat_field p.fields ≡ true
  pub probes : list_all is_flat_probe p.probes ≡ true
  pub parts : list_all is_flat_part p.parts ≡ true
  pub shapes : list_all is_flat_shape p.shapes ≡ true
  pub width : p.width.k ≡ pos 0

-- what is true of an accepted problem
pub record IsProblem (p : Fields) : Type 0 where
  pub format : Within 1 2 p.format
  pub dim : Within 2 3 p.dim
  pub domain : AxesWithin p.dim (pos 1) (pos 4194304) p.domain
  pub block : AxesWithin p.dim (pos 4) (pos 4194304) p.block
  pub levels : Within 1 5 p.levels
  pub ratios : length p.ratio + 1 ≡ p.levels
  pub ratio : list_all (axes_within p.dim (pos 2) (pos 4)) p.ratio ≡ true
  pub nest : axes_within p.dim (pos 1) (pos 8) p.nest ≡ true
  pub tag_buffer : axes_within p.dim (pos 0) (pos 8) p.tag_buffer ≡ true
  pub efficiency : Within 1 100 p.efficiency
  pub smallest : is_within (pos 1) (pos 64) p.smallest ≡ true
  pub largest : is_within (pos 1) (pos 4194304) p.largest ≡ true
  pub tile : (int_eq p.tile (pos 0) || is_within (pos 8) (pos 4194304) p.tile) ≡ true
  pub regrid : Within 1 1000 p.regrid
  pub steps : Within 0 1000 p.steps
  pub fields : list_all (is_field p.dim) p.fields ≡ true
  pub some_field : 1 ≤ length p.fields
  pub few_fields : length p.fields ≤ 4
  pub few_probes : length p.probes ≤ 64
  pub probes : list_all (is_probe p.levels p.domain p.ratio) p.probes ≡ true
  pub parts : list_all (is_part p.domain) p.parts ≡ true
  pub few_parts : length p.parts ≤ 8
  pub apart : AllPairs (λ a b. ¬ Meet a b) p.parts
  pub with_parts : 0 < length p.parts → SuitsParts p
  pub few_shapes : length p.shapes ≤ 32
  pub shapes : list_all (is_shape p.dim (lengths_of p.domain p.ratio)) p.shapes ≡ true
  pub flat : p.dim ≡ 2 → IsFlat p
  pub nested : list_all (is_nested p.ratio p.nest) p.fields ≡ true
  pub width : p.width ≡ width_of p.levels p.nest p.tag_buffer p.fields
  pub wide : AtMost p.width p.domain
  pub finest : is_large p.domain p.ratio ≡ false
  pub cells : cell_count p.domain ≤ 4194304
