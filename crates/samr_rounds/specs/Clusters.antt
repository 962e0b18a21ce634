-- The clusters of a set of tags: a box is dropped, accepted or cut in two, and its parts go on by the same rule.
use Rattle.std.specs.Prelude.{ℕ, zero, suc, Bool, List, [], ◌∷◌, ◌++◌}
use Rattle.std.specs.List.{flat_map}
use Rattle.samr_box.specs.declared.vector.IVec.{IVec}
use Rattle.samr_box.specs.Corners.{Corners}
use Rattle.samr_sign.specs.declared.rule.CutRule.{CutRule}
use Rattle.samr_sign.specs.declared.decision.Decision.{Decision}
use Rattle.samr_sign.specs.declared.decision.Decision.TheVariants.{Drop, Accept, Split}
use Rattle.samr_sign.specs.Counts.{sign}
use Rattle.samr_sign.specs.Decide.{decide_of}
use Rattle.samr_sign.specs.Laws.{depth}

-- the box that a decision accepts, and the parts that go on
abbrev pub accepted : Decision → List Corners
accepted Drop = []
accepted (Accept b) = b ∷ []
accepted (Split p q) = []

abbrev pub parts : Decision → List Corners
parts Drop = []
parts (Accept b) = []
parts (Split p q) = p ∷ q ∷ []

-- the decision on a box, from the whole set of tags
unfoldable pub decided : (IVec → Bool) → CutRule → Corners → Decision
decided t rule b = decide_of (sign t b) rule

-- what a box gives where it is cut at most so many times
unfoldable pub cut_up : (IVec → Bool) → CutRule → ℕ → Corners → List Corners
cut_up t rule zero b = []
cut_up t rule (suc n) b = accepted (decided t rule b) ++ flat_map (λ p. cut_up t rule n p) (parts (decided t rule b))

-- the clusters of a box, which can be cut at most `depth` times, and of all roots
unfoldable pub clusters_in : (IVec → Bool) → CutRule → Corners → List Corners
clusters_in t rule b = cut_up t rule (depth b) b

unfoldable pub clusters : (IVec → Bool) → CutRule → List Corners → List Corners
clusters t rule roots = flat_map (λ b. clusters_in t rule b) roots
