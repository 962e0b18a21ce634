-- The lengths of a domain and of its refinements.
use Rattle.std.specs.Prelude.{ℕ, ◌*◌, ℤ, pos, Bool, ◌&&◌, List, fold, unsigned_abs, int_le, nat_lt, nat_le}
use Rattle.samr_box.specs.declared.vector.IVec.{IVec}
use Rattle.samr_problem.specs.declared.lengths.Lengths.{Lengths}

-- the lengths of a domain
abbrev pub sizes : IVec → Lengths
sizes domain = record { i = unsigned_abs domain.i; j = unsigned_abs domain.j; k = unsigned_abs domain.k }

-- the lengths in cells of the next level
abbrev pub refined : Lengths → IVec → Lengths
refined l r = record { i = l.i * unsigned_abs r.i; j = l.j * unsigned_abs r.j; k = l.k * unsigned_abs r.k }

-- the lengths of a domain in cells of the level behind these ratios
unfoldable pub lengths_of : IVec → List IVec → Lengths
lengths_of domain ratios = fold refined (sizes domain) ratios

-- how many cells a domain of these lengths has
abbrev pub cells_in : Lengths → ℕ
cells_in l = l.i * l.j * l.k

-- an axis has the plane
abbrev pub has_plane : ℕ → ℤ → Bool
has_plane length z = int_le (pos 0) z && nat_lt (unsigned_abs z) length

-- a domain of these lengths has the cell
unfoldable pub has_cell : Lengths → IVec → Bool
has_cell l x = has_plane l.i x.i && (has_plane l.j x.j && has_plane l.k x.k)

-- a length is at least 1 and at most another
abbrev pub fits_along : ℕ → ℤ → Bool
fits_along length z = int_le (pos 1) z && nat_le (unsigned_abs z) length

-- each length is at least 1 and at most the domain's
unfoldable pub fits_in : Lengths → IVec → Bool
fits_in l size = fits_along l.i size.i && (fits_along l.j size.j && fits_along l.k size.k)
