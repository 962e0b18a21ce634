-- What is true of the ranks: who is near, what they count, and who owns the clusters.
use Rattle.std.specs.Prelude.{◌≡◌, ◌↔◌, ◌⊎◌, ℕ, ◌<◌, ◌≤◌, pos, Bool, true, false, IsTrue, List, map, filter, sum_by}
use Rattle.std.specs.List.{fold, range_with_len}
use Rattle.samr_box.specs.declared.vector.IVec.{IVec}
use Rattle.samr_box.specs.Vector.{alike, AtMost}
use Rattle.samr_box.specs.Corners.{Corners, IsBox, Holds}
use Rattle.samr_box.specs.Space.{Space}
use Rattle.samr_box.specs.Lists.{Member}
use Rattle.samr_boxlist.specs.Covers.{held, IsDisjoint}
use Rattle.samr_level.specs.Refs.{Owned}
use Rattle.samr_level.specs.Levels.{own_boxes, IsLevel}
use Rattle.samr_level.specs.Regions.{Area, IsCellOf}
use Rattle.samr_sign.specs.declared.rule.CutRule.{CutRule}
use Rattle.samr_sign.specs.Counts.{Sign, sign, sign_sum, tally}
use Rattle.samr_sign.specs.Decide.{shrunk}
use Rattle.samr_rounds.specs.Clusters.{accepted, parts, decided, clusters}
use Rattle.samr_rounds.specs.Rounds.{accepted_of, opened, told}
use Rattle.samr_rounds.specs.Near.{is_near}
use Rattle.samr_rounds.specs.Owners.{own_tags, AreTagsOf, owner_in, counts_of, owner_of, cluster_level}
use Rattle.samr_rounds.specs.Laws.{IsNode, AreNodes}

-- who is near a part of a node, or near the box accepted of it, is near the node
abbrev pub NearGoesDown : Type 0
NearGoesDown = (frame : Space) (width : IVec) (boxes : List Corners) (t : IVec → Bool) (rule : CutRule) (b p : Corners) → IsNode b → Member p (parts (decided t rule b)) ⊎ Member p (accepted (decided t rule b)) → is_near frame width boxes p ≡ true → is_near frame width boxes b ≡ true

-- so a rank that is told only the parts of its near nodes is told all its near nodes
abbrev pub TheNearAreTold : Type 0
TheNearAreTold = (frame : Space) (width : IVec) (boxes : List Corners) (t : IVec → Bool) (rule : CutRule) (roots : List Corners) (q : ℕ) → AreNodes roots → filter (λ b. is_near frame width boxes b) (told (λ b. is_near frame width boxes b) t rule roots q) ≡ filter (λ b. is_near frame width boxes b) (opened t rule roots q)

-- and is told each cluster that it is near, and no box that is no cluster
abbrev pub accepted_near : (Corners → Bool) → (IVec → Bool) → CutRule → List Corners → ℕ → List Corners
accepted_near near t rule roots q = accepted_of t rule (filter near (told near t rule roots q))

abbrev pub NearClustersAreTold : Type 0
NearClustersAreTold = (frame : Space) (width : IVec) (boxes : List Corners) (t : IVec → Bool) (rule : CutRule) (roots : List Corners) (c : Corners) → AreNodes roots → let near = is_near frame width boxes in (Member c (clusters t rule roots) → near c ≡ true → (q : ℕ) × Member c (accepted_near near t rule roots q)) × ((q : ℕ) → Member c (accepted_near near t rule roots q) → Member c (clusters t rule roots))

-- a rank with a tag in a node is near it; one that is not near has none
abbrev pub NearWhereTagged : Type 0
NearWhereTagged = (frame : Space) (width : IVec) (t : IVec → Bool) (level : List Owned) (rank : ℕ) (b : Corners) (x : IVec) → AtMost (alike (pos 0)) width → Holds b x → own_tags t level rank x ≡ true → is_near frame width (own_boxes rank level) b ≡ true

abbrev pub TheFarHaveNone : Type 0
TheFarHaveNone = (frame : Space) (width : IVec) (t : IVec → Bool) (level : List Owned) (rank : ℕ) (b : Corners) → AtMost (alike (pos 0)) width → IsBox b → is_near frame width (own_boxes rank level) b ≡ false → tally (own_tags t level rank) b ≡ 0

-- the counts of all ranks add up to those of all tags, and so do the signatures of the near ranks
abbrev pub OwnCountsAddUp : Type 0
OwnCountsAddUp = (area : Area) (ranks : ℕ) (level : List Owned) (t : IVec → Bool) (b : Corners) → IsLevel area ranks level → AreTagsOf level t → sum_by (λ r. tally (own_tags t level r) b) (range_with_len 0 ranks) ≡ tally t b

abbrev pub near_ranks : Space → IVec → List Owned → ℕ → Corners → List ℕ
near_ranks frame width level ranks b = filter (λ r. is_near frame width (own_boxes r level) b) (range_with_len 0 ranks)

abbrev pub sum_of_signs : Corners → List Sign → Sign
sum_of_signs b signs = fold sign_sum (sign (λ x. false) b) signs

abbrev pub NearSignaturesAddUp : Type 0
NearSignaturesAddUp = (frame : Space) (width : IVec) (area : Area) (ranks : ℕ) (level : List Owned) (t : IVec → Bool) (b : Corners) → AtMost (alike (pos 0)) width → IsBox b → IsLevel area ranks level → AreTagsOf level t → sum_of_signs b (map (λ r. sign (own_tags t level r) b) (near_ranks frame width level ranks b)) ≡ sign t b

-- the shrunk box has all tags of a node, of each rank
abbrev pub CountsStayWhenShrunk : Type 0
CountsStayWhenShrunk = (t own : IVec → Bool) (b : Corners) → IsNode b → 0 < tally t b → ((x : IVec) → own x ≡ true → t x ≡ true) → tally own b ≡ tally own (shrunk (sign t b))

-- the owner of a box is a rank, no rank has more tags in it, and each rank before it has fewer
abbrev pub OwnersHaveMost : Type 0
OwnersHaveMost = (t : IVec → Bool) (level : List Owned) (ranks : ℕ) (b : Corners) (r : ℕ) → r < ranks → let o = owner_of t level ranks b in (o < ranks) × (tally (own_tags t level r) b ≤ tally (own_tags t level o) b) × (r < o → tally (own_tags t level r) b < tally (own_tags t level o) b)

-- the counts that the near ranks have in a node tell the owner of the box accepted of it, and it is one of these
abbrev pub NearCountsTellTheOwner : Type 0
NearCountsTellTheOwner = (frame : Space) (width : IVec) (area : Area) (ranks : ℕ) (level : List Owned) (t : IVec → Bool) (rule : CutRule) (b c : Corners) → AtMost (alike (pos 0)) width → IsNode b → IsLevel area ranks level → AreTagsOf level t → Member c (accepted (decided t rule b)) → let o = owner_of t level ranks c in (owner_in (counts_of t level b (near_ranks frame width level ranks b)) ≡ o) × Member o (near_ranks frame width level ranks b)

-- the clusters with their owners: these and no others, and a level where the roots are disjoint and lie in the domain
abbrev pub TheLevelHasTheClusters : Type 0
TheLevelHasTheClusters = (t : IVec → Bool) (rule : CutRule) (roots : List Corners) (level : List Owned) (ranks : ℕ) (o : Owned) → Member o (cluster_level t rule roots level ranks) ↔ (Member o.bx (clusters t rule roots) × (o.owner ≡ owner_of t level ranks o.bx))

abbrev pub ClustersMakeALevel : Type 0
ClustersMakeALevel = (area : Area) (t : IVec → Bool) (rule : CutRule) (roots : List Corners) (level : List Owned) (ranks : ℕ) → 0 < ranks → AreNodes roots → IsDisjoint roots → ((x : IVec) → IsTrue (held x roots) → IsCellOf area x) → IsLevel area ranks (cluster_level t rule roots level ranks)
