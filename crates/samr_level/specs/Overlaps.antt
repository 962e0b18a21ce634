-- The true overlaps of two whole levels: all pairs of boxes at all shifts, in edge order, filtered by one test.
use Rattle.std.specs.Prelude.{◌≡◌, ℕ, ℤ, pos, negsuc, Bool, true, false, List, [], ◌∷◌, map, filter, nat_eq}
use Rattle.std.specs.List.{flat_map}
use Rattle.samr_box.specs.declared.vector.IVec.{IVec}
use Rattle.samr_box.specs.declared.space.Flags.{Flags}
use Rattle.samr_box.specs.Vector.{alike, plus, minus, times, greatest, Between, IsRatio}
use Rattle.samr_box.specs.Corners.{Corners, meets, grown}
use Rattle.samr_box.specs.Ratios.{coarse, refined}
use Rattle.samr_box.specs.Space.{Space, finer, image}
use Rattle.samr_box.specs.Lists.{Member}
use Rattle.samr_level.specs.Refs.{Owned, Link, link}

-- how two levels are compared, in the finer of their index spaces: the cells there in a cell of each, the
-- width, and the domain
pub record Scale : Type 0 where
  pub base : IVec
  pub head : IVec
  pub reach : IVec
  pub domain : Space

-- the factors are those of ratios, and the reach is at most 2^46
pub record IsScale (n : Scale) : Type 0 where
  pub base : IsRatio n.base
  pub head : IsRatio n.head
  pub reach : Between (alike (negsuc 70368744177663)) n.reach (alike (pos 70368744177664))

-- of two levels with these ratios from level 0, at a width in cells of the coarser one
abbrev pub scale_in : Space → IVec → IVec → IVec → Scale
scale_in domain width base_ratio head_ratio =
    let base = coarse (greatest base_ratio head_ratio) base_ratio in
    let head = coarse (greatest base_ratio head_ratio) head_ratio in
    record { base = base; head = head; reach = times (times width base) head; domain = domain }

-- the same, over the domain of level 0
abbrev pub scale : Space → IVec → IVec → IVec → Scale
scale frame width base_ratio head_ratio = scale_in (finer frame (greatest base_ratio head_ratio)) width base_ratio head_ratio

-- a cell of the one box lies within the reach of a cell of the image of the other
abbrev pub near : Scale → Corners → Corners → IVec → Bool
near n a b s = meets (grown (refined a n.base) n.reach) (image n.domain (refined b n.head) s)

-- the shifts: -1, 0, 1 on periodic axes and 0 on the others, in shift order
abbrev pub steps : Bool → List ℤ
steps true = negsuc 0 ∷ pos 0 ∷ pos 1 ∷ []
steps false = pos 0 ∷ []

unfoldable pub shifts : Flags → List IVec
shifts periodic =
    flat_map (λ k. flat_map (λ j. map (λ i. record { k = k; j = j; i = i }) (steps periodic.i)) (steps periodic.j)) (steps periodic.k)

-- all edges from a box of the one list to a box of the other, at each shift
abbrev pub all_links : List Owned → List Owned → List IVec → List Link
all_links bases heads ss = flat_map (λ a. flat_map (λ b. map (λ s. link a b s) ss) heads) bases

-- those that are true: at which the boxes are near
abbrev pub is_true : Scale → Link → Bool
is_true n e = near n e.base.bx e.head.bx e.shift

unfoldable pub true_overlaps : Scale → List Owned → List Owned → List Link
true_overlaps n bases heads = filter (λ e. is_true n e) (all_links bases heads (shifts n.domain.periodic))

-- the connector of a rank: the overlaps of its own base boxes
unfoldable pub of_rank : ℕ → List Link → List Link
of_rank rank edges = filter (λ e. nat_eq e.base.owner rank) edges

-- the same, as a fact of one edge
pub record IsTrueOverlap (n : Scale) (bases heads : List Owned) (e : Link) : Type 0 where
  pub is_base : Member e.base bases
  pub is_head : Member e.head heads
  pub is_shift : Member e.shift (shifts n.domain.periodic)
  pub is_near : is_true n e ≡ true

-- a width in cells of a level that is coarser by a ratio, rounded up
abbrev pub rounded_up : IVec → IVec → IVec
rounded_up width r = coarse (plus width (minus r (alike (pos 1)))) r
