-- What the tests of a key look at beside its value: total, from the whole document and from the key's own table.
use Rattle.std.specs.Prelude.{ℕ, ◌-◌, ℤ, pos, Bool, List, map, codes, length, is_some, unsigned_abs, Option, if◌then◌else◌}
use Rattle.std.specs.List.{list_any, range_with_len}
use Rattle.samr_box.specs.declared.vector.IVec.{IVec}
use Rattle.samr_box.specs.Corners.{Corners, meets}
use Rattle.toml.specs.Data.{Data, Members, get_member}
use Rattle.samr_problem.specs.declared.context.Document.{Document}
use Rattle.samr_problem.specs.declared.context.Own.{Own}
use Rattle.samr_problem.specs.Values.{number_of, vector_of, is_within, items_of, entry_of}

-- the whole number at a key
abbrev pub number_at : Members → List ℕ → ℤ → ℤ
number_at table key otherwise = number_of (get_member key table) otherwise

-- how many axes are real
unfoldable pub dim_of : Members → ℕ
dim_of doc = unsigned_abs (number_at doc (codes "dim") (pos 0))

-- how many levels lie above level 0: none where `levels` is out of range
unfoldable pub finer : ℤ → ℕ
finer levels = if is_within (pos 1) (pos 5) levels then unsigned_abs levels - 1 else 0

-- the ratio of a level to the next one
unfoldable pub ratio_of : ℕ → Option Data → ℕ → IVec
ratio_of dim value n = vector_of dim (entry_of n value) (pos 2) (pos 1)

-- the ratios of so many levels
unfoldable pub ratios_of : ℕ → Option Data → ℕ → List IVec
ratios_of dim value count = map (λ n. ratio_of dim value n) (range_with_len 0 count)

-- the document as a whole
unfoldable pub document_of : Members → Document
document_of doc =
    let dim = dim_of doc in
    let levels = number_at doc (codes "levels") (pos 1) in
    record {
      dim = dim;
      levels = levels;
      domain = vector_of dim (get_member (codes "domain") doc) (pos 1) (pos 1);
      ratios = ratios_of dim (get_member (codes "ratio") doc) (finer levels);
      has_parts = is_some (get_member (codes "part") doc);
      boxes = length (items_of (get_member (codes "box") doc));
    }

-- the corners that a table gives
unfoldable pub corners_of : ℕ → Members → Corners
corners_of dim table = record {
  lo = vector_of dim (get_member (codes "lo") table) (pos 0) (pos 0);
  hi = vector_of dim (get_member (codes "hi") table) (pos 0) (pos 0);
}

-- the box of a table has a cell of an earlier one's
unfoldable pub meets_any : ℕ → List Members → Corners → Bool
meets_any dim earlier box = list_any (λ t. meets (corners_of dim t) box) earlier

-- a table by itself, behind these earlier ones
unfoldable pub own_of : ℕ → List Members → Members → Own
own_of dim earlier table =
    let corners = corners_of dim table in
    record {
      modulus = number_at table (codes "modulus") (pos 1000000);
      ghosts = vector_of dim (get_member (codes "ghost") table) (pos 0) (pos 0);
      lo = corners.lo;
      hi = corners.hi;
      meets = meets_any dim earlier corners;
    }
