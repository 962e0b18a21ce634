-- What a director tells of a node, and the letters of a Decide round.
use Rattle.std.specs.Prelude.{ℕ, List, [], ◌∷◌, map, nat_eq, Option, if◌then◌else◌}
use Rattle.std.specs.List.{list_any, flat_map}
use Rattle.samr_box.specs.Corners.{Corners}
use Rattle.samr_sign.specs.declared.rule.CutRule.{CutRule}
use Rattle.samr_sign.specs.declared.decision.Decision.{Decision}
use Rattle.samr_sign.specs.declared.decision.Decision.TheVariants.{Drop, Accept, Split}
use Rattle.samr_sign.specs.Decide.{decide_of}
use Rattle.samr_rounds.specs.Sorted.{sorted, corner_less}
use Rattle.samr_rounds.specs.Clusters.{decided}
use Rattle.samr_rounds.specs.Owners.{owner_in}
use Rattle.samr_cluster.specs.declared.accepted.Accepted.{Accepted}
use Rattle.samr_cluster.specs.declared.nodes.Counted.{Counted}
use Rattle.samr_cluster.specs.declared.verdict.Verdict.{Verdict}
use Rattle.samr_cluster.specs.declared.verdict.Verdict.TheVariants.{Dropped, Taken, Parted}
use Rattle.samr_cluster.specs.declared.verdict.Ruling.{Ruling}
use Rattle.samr_cluster.specs.declared.verdict.Judged.{Judged}
use Rattle.samr_cluster.specs.Cluster.{Clustering, near, near_to, owner}
use Rattle.samr_cluster.specs.Rounds.{Round, open_of, near_of}
use Rattle.samr_cluster.specs.SomeRows.{some_row}

-- a decision as it is told, with the owner of each box and the ranks near the node
abbrev pub verdict_of : Decision → (Corners → ℕ) → List ℕ → Verdict
verdict_of Drop owner near = Dropped
verdict_of (Accept b) owner near = Taken (record { bx = b; owner = owner b; near = near })
verdict_of (Split p q) owner near = Parted p q

-- the parts that go on, and the box that is taken
abbrev pub parts_in : Verdict → List Corners
parts_in Dropped = []
parts_in (Taken a) = []
parts_in (Parted p q) = p ∷ q ∷ []

abbrev pub taken_in : Verdict → List Accepted
taken_in Dropped = []
taken_in (Taken a) = a ∷ []
taken_in (Parted p q) = []

-- the parts that go on by the verdicts of a director, in corner order
unfoldable pub parts_on : List Ruling → List Corners
parts_on rulings = sorted corner_less (flat_map (λ v. parts_in v.verdict) rulings)

-- the verdict on a node, and with the node that it is on
unfoldable pub verdict : Clustering → Corners → Verdict
verdict w b = verdict_of (decided w.tags w.rule b) (owner w) (near_to w b)

abbrev pub ruling : Clustering → Corners → Ruling
ruling w b = record { node = b; verdict = verdict w b }

abbrev pub judged_as : Clustering → Corners → Judged
judged_as w b = record { node = b; verdict = verdict w b; near = near_to w b }

-- the same, from the counts
abbrev pub judge : CutRule → Counted → Judged
judge rule c =
    record {
      node = c.node;
      verdict = verdict_of (decide_of c.sum rule) (λ b. owner_in c.tags) (map (λ n. n.rank) c.tags);
      near = map (λ n. n.rank) c.tags;
    }

-- the verdicts on the nodes that a rank is near, each with its node
abbrev pub told_to : ℕ → Judged → List Ruling
told_to r j = if list_any (λ k. nat_eq k r) j.near then record { node = j.node; verdict = j.verdict } ∷ [] else []

unfoldable pub rulings_for : ℕ → List Judged → List Ruling
rulings_for r judged = flat_map (λ j. told_to r j) judged

-- a director tells each rank that is near an open node the verdicts on all such nodes, in corner order
unfoldable pub decide_row : Round → ℕ → ℕ → Option (List Ruling)
decide_row x =
    some_row x.whole.ranks (λ from to. list_any (λ b. near x.whole to b) (open_of x from)) (λ from to. map (λ b. ruling x.whole b) (near_of x from to))
