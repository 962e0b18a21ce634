-- The clusters of one field of tags, with their owners.
use Rattle.std.proofs.Common.{◌≡◌, ℕ, sym, ap, subst, ◌∙◌}
use Rattle.std.specs.Prelude.{Bool, List, map}
use Rattle.std.specs.List.{All}
use Rattle.samr_box.specs.declared.vector.IVec.{IVec}
use Rattle.samr_box.specs.Corners.{Corners}
use Rattle.samr_box.proofs.Members.{All-from_members}
use Rattle.samr_level.specs.Refs.{Owned}
use Rattle.samr_level.specs.RefOrders.{ref_cmp, in_order}
use Rattle.samr_problem.specs.Fields.{Fields}
use Rattle.samr_problem.specs.Problems.{IsProblem}
use Rattle.samr_rounds.specs.Clusters.{clusters}
use Rattle.samr_rounds.specs.Laws.{IsNode}
use Rattle.samr_rounds.specs.Owners.{owner_of, cluster_level}
use Rattle.samr_sign.specs.declared.rule.CutRule.{CutRule}
use std.Path.{fun_ext}
use Rattle.samr_mesh.specs.Domains.{roots_at}
use Rattle.samr_mesh.specs.Passes.{Pass, tags_in, rule_of, clusters_of}
use Rattle.samr_mesh_plain.specs.Making.{CanMake}
use Rattle.samr_mesh_plain.proofs.LevelFacts.{can_run}

pub nodes_are : (p : Fields) (w : Pass) (roots : List Corners) → IsProblem p → CanMake p w → roots ≡ roots_at p w.number → All IsNode roots
nodes_are p w roots is can e =
    let all : All IsNode (roots_at p w.number) = All-from_members IsNode (roots_at p w.number) (can_run p w is can).can.roots.nodes in
    subst (λ (l : List Corners). All IsNode l) (sym e) all

-- boxes with the owners by some tags
abbrev pub owned : (IVec → Bool) → List Owned → ℕ → List Corners → List Owned
owned t level ranks boxes = map (λ b. record { owner = owner_of t level ranks b; bx = b }) boxes

pub clusters_are : (p : Fields) (w : Pass) (t : IVec → Bool) (rule : CutRule) (roots boxes : List Corners) (level : List Owned) (ranks : ℕ) (found all : List Owned)
    → ((x : IVec) → t x ≡ tags_in p w x) → rule ≡ rule_of p → roots ≡ roots_at p w.number → level ≡ w.level → ranks ≡ w.ranks
    → boxes ≡ clusters t rule roots → found ≡ owned t level ranks boxes → all ≡ in_order ref_cmp found → all ≡ clusters_of p w
unfolding clusters_of cluster_level
clusters_are p w t rule roots boxes level ranks found all each e f g h i j k =
    let same : t ≡ tags_in p w = fun_ext each in
    let made : boxes ≡ clusters (tags_in p w) (rule_of p) (roots_at p w.number) =
    i ∙ ap (λ (s : IVec → Bool). clusters s rule roots) same ∙ ap (λ (r : CutRule). clusters (tags_in p w) r roots) e ∙ ap (λ (l : List Corners). clusters (tags_in p w) (rule_of p) l) f in
    k
    ∙ ap (λ (l : List Owned). in_order ref_cmp l)
    (j ∙ ap (λ (s : IVec → Bool). owned s level ranks boxes) same ∙ ap (λ (l : List Owned). owned (tags_in p w) l ranks boxes) g
    ∙ ap (λ (n : ℕ). owned (tags_in p w) w.level n boxes) h ∙ ap (λ (l : List Corners). owned (tags_in p w) w.level w.ranks l) made)
