-- The owner of a cluster, and the level that the clusters make.
use Rattle.std.specs.Prelude.{◌≡◌, ℕ, nat_eq, nat_lt, max, if◌then◌else◌, Option, Some, None, Bool, true, ◌&&◌, List, map}
use Rattle.std.specs.List.{fold, find, range_with_len}
use Rattle.std.specs.Option.{option_map_or}
use Rattle.samr_box.specs.declared.vector.IVec.{IVec}
use Rattle.samr_box.specs.Corners.{Corners}
use Rattle.samr_boxlist.specs.Covers.{held}
use Rattle.samr_level.specs.Refs.{Owned}
use Rattle.samr_level.specs.RefOrders.{ref_cmp, in_order}
use Rattle.samr_level.specs.Levels.{own_boxes, IsCellIn}
use Rattle.samr_sign.specs.declared.rule.CutRule.{CutRule}
use Rattle.samr_sign.specs.Counts.{tally}
use Rattle.samr_rounds.specs.declared.owner.RankTags.{RankTags}
use Rattle.samr_rounds.specs.Clusters.{clusters}

-- the tags that lie in the boxes of a rank
unfoldable pub own_tags : (IVec → Bool) → List Owned → ℕ → IVec → Bool
own_tags t level rank x = t x && held x (own_boxes rank level)

-- the tags lie in the level
abbrev pub AreTagsOf : List Owned → (IVec → Bool) → Type 0
AreTagsOf level t = (x : IVec) → t x ≡ true → IsCellIn level x

-- the greatest number of tags, and the first rank that has as many
unfoldable pub most : List RankTags → ℕ
most counts = fold (λ n c. max n c.tags) 0 counts

unfoldable pub owner_in : List RankTags → ℕ
owner_in counts = option_map_or (λ c. c.rank) (find (λ c. nat_eq c.tags (most counts)) counts) 0

-- of two, the one with more tags, and the first on a tie: a search for the owner goes from one to the next
abbrev pub better : Option RankTags → RankTags → Option RankTags
better None c = Some c
better (Some b) c = if nat_lt b.tags c.tags then Some c else Some b

-- how many tags in a box each of some ranks has
unfoldable pub counts_of : (IVec → Bool) → List Owned → Corners → List ℕ → List RankTags
counts_of t level b ranks = map (λ r. record { rank = r; tags = tally (own_tags t level r) b }) ranks

-- the owner of a box: of all ranks the first that has the most tags in it
unfoldable pub owner_of : (IVec → Bool) → List Owned → ℕ → Corners → ℕ
owner_of t level ranks b = owner_in (counts_of t level b (range_with_len 0 ranks))

-- the clusters with their owners, in level order
unfoldable pub cluster_level : (IVec → Bool) → CutRule → List Corners → List Owned → ℕ → List Owned
cluster_level t rule roots level ranks =
    in_order ref_cmp (map (λ b. record { owner = owner_of t level ranks b; bx = b }) (clusters t rule roots))
