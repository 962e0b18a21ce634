-- The steps of the plain search.
use Rattle.std.proofs.Common.{◌≡◌, ◌<◌, ◌^◌, Bool, List, [], ◌∷◌, ◌++◌, refl, sym, ap, subst, ◌∙◌, inl, inr, append_assoc}
use Rattle.std.proofs.lemmas.List.{append-nil}
use Rattle.std.specs.List.{flat_map}
use Rattle.samr_box.specs.declared.vector.IVec.{IVec}
use Rattle.samr_box.specs.Corners.{Corners, IsBox, cells_of}
use Rattle.samr_sign.specs.declared.rule.CutRule.{CutRule}
use Rattle.samr_sign.specs.declared.decision.Decision.{Decision}
use Rattle.samr_sign.specs.declared.decision.Decision.TheVariants.{Drop, Accept, Split}
use Rattle.samr_sign.specs.Counts.{sign}
use Rattle.samr_sign.specs.Laws.{IsFate}
use Rattle.samr_rounds.specs.Clusters.{accepted, parts, decided, clusters_in}
use Rattle.samr_rounds.specs.Laws.{IsNode}
use Rattle.samr_rounds.proofs.Nodes.{IsPart, part_by, fate_is}
use Rattle.samr_rounds.proofs.Open.{clusters_step}

pub node_from : {a b : Corners} → a ≡ b → IsBox a → cells_of b < 2 ^ 63 → IsNode b
node_from e h few = record { whole = subst IsBox e h; few = few }

abbrev found_of : (IVec → Bool) → CutRule → Decision → List Corners
found_of t rule d = accepted d ++ flat_map (λ p. clusters_in t rule p) (parts d)

clusters_by : (t : IVec → Bool) (rule : CutRule) (b : Corners) (d e : Decision) → IsNode b → d ≡ decided t rule b → d ≡ e → clusters_in t rule b ≡ found_of t rule e
clusters_by t rule b d e h is same = clusters_step t rule b h ∙ ap (found_of t rule) (sym is ∙ same)

pub first_part : (t : IVec → Bool) (rule : CutRule) (b p q : Corners) (d : Decision) → IsNode b → d ≡ decided t rule b → d ≡ Split p q → IsPart b p
first_part t rule b p q d h is same = part_by t b p (Split p q) h (subst (λ v. IsFate (sign t b) v) (sym is ∙ same) (fate_is t rule b h)) (inl refl)

pub second_part : (t : IVec → Bool) (rule : CutRule) (b p q : Corners) (d : Decision) → IsNode b → d ≡ decided t rule b → d ≡ Split p q → IsPart b q
second_part t rule b p q d h is same = part_by t b q (Split p q) h (subst (λ v. IsFate (sign t b) v) (sym is ∙ same) (fate_is t rule b h)) (inr (inl refl))

pub after_drop : (t : IVec → Bool) (rule : CutRule) (b : Corners) (d : Decision) (out : List Corners) → IsNode b → d ≡ decided t rule b → d ≡ Drop → out ≡ out ++ clusters_in t rule b
after_drop t rule b d out h is same = sym (append-nil out) ∙ ap (λ l. out ++ l) (sym (clusters_by t rule b d Drop h is same))

pub after_accept : (t : IVec → Bool) (rule : CutRule) (b c : Corners) (d : Decision) (out after : List Corners) → IsNode b → d ≡ decided t rule b → d ≡ Accept c → after ≡ out ++ c ∷ [] → after ≡ out ++ clusters_in t rule b
after_accept t rule b c d out after h is same e = e ∙ ap (λ l. out ++ l) (sym (clusters_by t rule b d (Accept c) h is same))

pub after_split : (t : IVec → Bool) (rule : CutRule) (b p q : Corners) (d : Decision) (out middle after : List Corners) → IsNode b → d ≡ decided t rule b → d ≡ Split p q
    → middle ≡ out ++ clusters_in t rule p → after ≡ middle ++ clusters_in t rule q → after ≡ out ++ clusters_in t rule b
after_split t rule b p q d out middle after h is same e f =
    f ∙ ap (λ l. l ++ clusters_in t rule q) e
    ∙ append_assoc out (clusters_in t rule p) (clusters_in t rule q)
    ∙ ap (λ l. out ++ (clusters_in t rule p ++ l)) (sym (append-nil (clusters_in t rule q)))
    ∙ ap (λ l. out ++ l) (sym (clusters_by t rule b d (Split p q) h is same))
