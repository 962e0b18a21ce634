-- How often a cell lies in the clusters, and what the clusters are.
use Rattle.std.proofs.Common.{◌≡◌, ℕ, zero, suc, ◌+◌, ◌<◌, ◌≤◌, Bool, true, false, List, [], ◌∷◌, refl, sym, ap, ◌∙◌, inl, inr, arith}
use Rattle.std.specs.List.{flat_map}
use Rattle.samr_box.specs.declared.vector.IVec.{IVec}
use Rattle.samr_box.specs.Corners.{Corners, holds}
use Rattle.samr_box.specs.Lists.{Member}
use Rattle.samr_box.proofs.CellSets.{holds-from, Holds-test}
use Rattle.samr_box.proofs.Members.{Member-from_append, Member-from_flat_map}
use Rattle.samr_boxlist.specs.Covers.{cover, held}
use Rattle.samr_boxlist.proofs.Covering.{cover-cons, cover-append, held-cover, cover-held}
use Rattle.samr_bits.specs.Bits.{one}
use Rattle.samr_sign.specs.declared.rule.CutRule.{CutRule}
use Rattle.samr_sign.specs.declared.decision.Decision.{Decision}
use Rattle.samr_sign.specs.declared.decision.Decision.TheVariants.{Drop, Accept, Split}
use Rattle.samr_sign.specs.Counts.{sign, tally}
use Rattle.samr_sign.specs.Decide.{shrunk}
use Rattle.samr_sign.specs.Laws.{depth, IsFate}
use Rattle.samr_sign.proofs.Tallies.{weigh_member}
use Rattle.samr_rounds.specs.Clusters.{accepted, parts, decided, cut_up, clusters_in, clusters}
use Rattle.samr_rounds.specs.Laws.{IsNode, AreNodes}
use Rattle.samr_rounds.proofs.Nodes.{fate_is, total_is, shrunk_node, accepted_shrinks, accepted_tags, part_is, depth_some}

-- lists in place of boxes
flat_most : (x : IVec) (f : Corners → List Corners) (list : List Corners) → ((p : Corners) → Member p list → cover x (f p) ≤ one (holds p x)) → cover x (flat_map f list) ≤ cover x list
flat_most x f [] each = omega arith
flat_most x f (p ∷ list) each =
    omega (arith, cover-append x (f p) (flat_map f list), cover-cons x p list, each p (inl refl), flat_most x f list (λ q m. each q (inr m)))

flat_least : (x : IVec) (f : Corners → List Corners) (list : List Corners) → ((p : Corners) → Member p list → one (holds p x) ≤ cover x (f p)) → cover x list ≤ cover x (flat_map f list)
flat_least x f [] each = omega arith
flat_least x f (p ∷ list) each =
    omega (arith, cover-append x (f p) (flat_map f list), cover-cons x p list, each p (inl refl), flat_least x f list (λ q m. each q (inr m)))

one_less : (a b : Bool) → (a ≡ true → b ≡ true) → one a ≤ one b
one_less true b f = let e = ap one (f refl) in omega (arith, e)
one_less false b f = omega arith

none_tagged : (t : IVec → Bool) (b : Corners) (x : IVec) → tally t b ≡ 0 → holds b x ≡ true → t x ≡ true → ⊥
unfolding tally
none_tagged t b x none h e = let is = ap one e in let m = weigh_member (λ y. one (t y)) b x (Holds-test h) in omega (arith, none, is, m)

-- a cell of a node lies in what is accepted of it and in its parts at most once, and once where it is tagged
once : (t : IVec → Bool) (b : Corners) (x : IVec) (d : Decision) → IsNode b → IsFate (sign t b) d → cover x (accepted d) + cover x (parts d) ≤ one (holds b x)
once t b x Drop h f = omega arith
once t b x (Accept c) h f =
    let s = shrunk_node t b h f.0 in
    let less = one_less (holds (shrunk (sign t b)) x) (holds b x) (λ e. holds-from (s.inside x (Holds-test e))) in
    let is : one (holds c x) ≡ one (holds (shrunk (sign t b)) x) = ap (λ v. one (holds v x)) f.1 in
    omega (arith, cover-cons x c [], less, is)
once t b x (Split p q) h f =
    let s = shrunk_node t b h f.0 in
    let less = one_less (holds (shrunk (sign t b)) x) (holds b x) (λ e. holds-from (s.inside x (Holds-test e))) in
    omega (arith, cover-cons x p (q ∷ []), cover-cons x q [], less, f.1.cells x)

tagged_once : (t : IVec → Bool) (b : Corners) (x : IVec) (d : Decision) → IsNode b → IsFate (sign t b) d → t x ≡ true → one (holds b x) ≤ cover x (accepted d) + cover x (parts d)
tagged_once t b x Drop h f e = none (holds b x) (λ k. none_tagged t b x (sym (total_is t b) ∙ f) k e)
  where
    none : (a : Bool) → (a ≡ true → ⊥) → one a ≤ 0
    none true k = absurd (k refl)
    none false k = omega arith
tagged_once t b x (Accept c) h f e =
    let s = shrunk_node t b h f.0 in
    let less = one_less (holds b x) (holds (shrunk (sign t b)) x) (λ k. holds-from (s.keeps x (Holds-test k) e)) in
    let is : one (holds c x) ≡ one (holds (shrunk (sign t b)) x) = ap (λ v. one (holds v x)) f.1 in
    omega (arith, cover-cons x c [], less, is)
tagged_once t b x (Split p q) h f e =
    let s = shrunk_node t b h f.0 in
    let less = one_less (holds b x) (holds (shrunk (sign t b)) x) (λ k. holds-from (s.keeps x (Holds-test k) e)) in
    omega (arith, cover-cons x p (q ∷ []), cover-cons x q [], less, f.1.cells x)

-- of all clusters of a node
cover_most : (t : IVec → Bool) (rule : CutRule) (x : IVec) (n : ℕ) (b : Corners) → IsNode b → cover x (cut_up t rule n b) ≤ one (holds b x)
unfolding cut_up
cover_most t rule x zero b h = omega arith
cover_most t rule x (suc n) b h =
    let d = decided t rule b in
    let rest = flat_most x (λ p. cut_up t rule n p) (parts d) (λ p m. cover_most t rule x n p (part_is t rule b p h m).node) in
    omega (arith, cover-append x (accepted d) (flat_map (λ p. cut_up t rule n p) (parts d)), rest, once t b x d h (fate_is t rule b h))

cover_least : (t : IVec → Bool) (rule : CutRule) (x : IVec) (n : ℕ) (b : Corners) → IsNode b → depth b ≤ n → t x ≡ true → one (holds b x) ≤ cover x (cut_up t rule n b)
unfolding cut_up
cover_least t rule x zero b h less e = absurd (omega (arith, less, depth_some b h))
cover_least t rule x (suc n) b h less e =
    let d = decided t rule b in
    let rest = flat_least x (λ p. cut_up t rule n p) (parts d)
    (λ p m. let is = part_is t rule b p h m in cover_least t rule x n p is.node (omega (arith, is.less, less)) e) in
    omega (arith, cover-append x (accepted d) (flat_map (λ p. cut_up t rule n p) (parts d)), rest, tagged_once t b x d h (fate_is t rule b h) e)

pub clusters_apart : (t : IVec → Bool) (rule : CutRule) (roots : List Corners) (x : IVec) → AreNodes roots → cover x (clusters t rule roots) ≤ cover x roots
unfolding clusters clusters_in
clusters_apart t rule roots x h = flat_most x (λ b. cut_up t rule (depth b) b) roots (λ b m. cover_most t rule x (depth b) b (h b m))

pub clusters_cover : (t : IVec → Bool) (rule : CutRule) (roots : List Corners) (x : IVec) → AreNodes roots → held x roots ≡ true → t x ≡ true → held x (clusters t rule roots) ≡ true
unfolding clusters clusters_in
clusters_cover t rule roots x h inside e =
    let least = flat_least x (λ b. cut_up t rule (depth b) b) roots (λ b m. cover_least t rule x (depth b) b (h b m) (omega arith) e) in
    cover-held x (clusters t rule roots) (omega (arith, least, held-cover x roots inside))

-- each cluster is a box with a tag
cut_up_is : (t : IVec → Bool) (rule : CutRule) (n : ℕ) (b c : Corners) → IsNode b → Member c (cut_up t rule n b) → IsNode c × (0 < tally t c)
unfolding cut_up
cut_up_is t rule zero b c h m = absurd m
cut_up_is t rule (suc n) b c h m =
    elim (Member-from_append c (accepted (decided t rule b)) (flat_map (λ p. cut_up t rule n p) (parts (decided t rule b))) m) [
      | inl here ↦ ((accepted_shrinks t rule b c h here).node, accepted_tags t rule b c h here)
      | inr later ↦
          let r = Member-from_flat_map (λ p. cut_up t rule n p) c (parts (decided t rule b)) later in
          cut_up_is t rule n r.0 c (part_is t rule b r.0 h r.1).node r.2
    ]

pub cluster_is : (t : IVec → Bool) (rule : CutRule) (roots : List Corners) (c : Corners) → AreNodes roots → Member c (clusters t rule roots) → IsNode c × (0 < tally t c)
unfolding clusters clusters_in
cluster_is t rule roots c h m =
    let r = Member-from_flat_map (λ b. cut_up t rule (depth b) b) c roots m in
    cut_up_is t rule (depth r.0) r.0 c (h r.0 r.1) r.2
