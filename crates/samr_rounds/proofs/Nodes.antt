-- What a decision gives: parts that are smaller boxes inside the node, or the shrunk box.
use Rattle.std.proofs.Common.{◌≡◌, ◌+◌, ◌<◌, ◌≤◌, Bool, true, false, refl, sym, subst, ◌∙◌, inl, inr, arith}
use Rattle.std.proofs.lemmas.Int.{ints}
use Rattle.std.proofs.lemmas.Bool.{false≢true}
use Rattle.std.proofs.Math.Nat.{mul-le-mul}
use Rattle.samr_box.specs.declared.vector.Axis.{Axis}
use Rattle.samr_box.specs.declared.vector.Axis.TheVariants.{I, J, K}
use Rattle.samr_box.specs.declared.vector.IVec.{IVec}
use Rattle.samr_box.specs.Vector.{AtMost}
use Rattle.samr_box.specs.Corners.{Corners, IsBox, Holds, holds, span, cells_of}
use Rattle.samr_box.specs.Lists.{Member}
use Rattle.samr_box.proofs.CellSets.{Holds-lo, Holds-hi, holds-from, Holds-test}
use Rattle.samr_bits.specs.Bits.{one}
use Rattle.samr_sign.specs.declared.rule.CutRule.{CutRule}
use Rattle.samr_sign.specs.declared.decision.Decision.{Decision}
use Rattle.samr_sign.specs.declared.decision.Decision.TheVariants.{Drop, Accept, Split}
use Rattle.samr_sign.specs.Counts.{IsSign, sign, total, tally}
use Rattle.samr_sign.specs.Decide.{shrunk}
use Rattle.samr_sign.specs.Laws.{depth, IsFate}
use Rattle.samr_sign.proofs.Tallies.{tally_most, tally_narrow}
use Rattle.samr_sign.proofs.Sums.{sum_planes, IsSign-sign}
use Rattle.samr_sign.proofs.Shrinking.{IsBox-shrunk}
use Rattle.samr_sign.proofs.Fates.{decision_is, shrunk_keeps, shrunk_inside}
use Rattle.samr_rounds.specs.Clusters.{accepted, parts, decided}
use Rattle.samr_rounds.specs.Laws.{IsNode}

-- a box inside another is not longer, and has no more cells
span_part : (axis : Axis) (b p : Corners) → AtMost p.lo p.hi → ((x : IVec) → Holds p x → Holds b x) → span axis p ≤ span axis b
span_part I b p h f = let lo = f p.lo (Holds-lo h) in let hi = f p.hi (Holds-hi h) in omega (arith, ints, lo.low.i, hi.high.i, h.i)
span_part J b p h f = let lo = f p.lo (Holds-lo h) in let hi = f p.hi (Holds-hi h) in omega (arith, ints, lo.low.j, hi.high.j, h.j)
span_part K b p h f = let lo = f p.lo (Holds-lo h) in let hi = f p.hi (Holds-hi h) in omega (arith, ints, lo.low.k, hi.high.k, h.k)

depth_part : (b p : Corners) → AtMost p.lo p.hi → ((x : IVec) → Holds p x → Holds b x) → depth p ≤ depth b
depth_part b p h f = omega (arith, span_part I b p h f, span_part J b p h f, span_part K b p h f)

cells_part : (b p : Corners) → AtMost p.lo p.hi → ((x : IVec) → Holds p x → Holds b x) → cells_of p ≤ cells_of b
cells_part b p h f = mul-le-mul (mul-le-mul (span_part I b p h f) (span_part J b p h f)) (span_part K b p h f)

node_part : (b p : Corners) → IsNode b → IsBox p → ((x : IVec) → Holds p x → Holds b x) → IsNode p
node_part b p h q f = record { whole = q; few = omega (arith, cells_part b p q.order f, h.few) }

-- the signature of a node, and its total
pub node_sign : (t : IVec → Bool) (b : Corners) → IsNode b → IsSign (sign t b)
node_sign t b h = IsSign-sign t b h.whole (omega (arith, tally_most t b, h.few))

pub total_is : (t : IVec → Bool) (b : Corners) → total (sign t b) ≡ tally t b
total_is t b = sum_planes K t b

pub fate_is : (t : IVec → Bool) (rule : CutRule) (b : Corners) → IsNode b → IsFate (sign t b) (decided t rule b)
unfolding decided
fate_is t rule b h = decision_is (sign t b) rule (node_sign t b h)

-- the shrunk box of a node with a tag
pub record Shrinks (t : IVec → Bool) (b c : Corners) : Type 0 where
  pub node : IsNode c
  pub inside : (x : IVec) → Holds c x → Holds b x
  pub keeps : (x : IVec) → Holds b x → t x ≡ true → Holds c x
  pub some : 0 < tally t b
  pub less : depth c ≤ depth b

pub shrunk_node : (t : IVec → Bool) (b : Corners) → IsNode b → 0 < total (sign t b) → Shrinks t b (shrunk (sign t b))
shrunk_node t b h some =
    let c = shrunk (sign t b) in
    let whole = IsBox-shrunk (sign t b) (node_sign t b h) some in
    let inside : (x : IVec) → Holds c x → Holds b x = λ x s. shrunk_inside (sign t b) x (node_sign t b h) s in
    record {
      node = node_part b c h whole inside;
      inside = inside;
      keeps = λ x s e. shrunk_keeps t b x s e;
      some = omega (arith, some, total_is t b);
      less = depth_part b c whole.order inside;
    }

-- a count is the same in the shrunk box
pub tally_shrunk : (t own : IVec → Bool) (b c : Corners) → IsNode b → Shrinks t b c → ((x : IVec) → own x ≡ true → t x ≡ true) → tally own b ≡ tally own c
tally_shrunk t own b c h s less = tally_narrow own b c h.whole.order s.node.whole.order s.inside (λ x p e. s.keeps x p (less x e))

-- the box that is accepted of a node
accepted_by : (t : IVec → Bool) (b c : Corners) (d : Decision) → IsNode b → IsFate (sign t b) d → Member c (accepted d) → Shrinks t b c
accepted_by t b c Drop h f m = absurd m
accepted_by t b c (Accept q) h f (inl e) = subst (λ v. Shrinks t b v) (sym (e ∙ f.1)) (shrunk_node t b h f.0)
accepted_by t b c (Accept q) h f (inr m) = absurd m
accepted_by t b c (Split p q) h f m = absurd m

pub accepted_shrinks : (t : IVec → Bool) (rule : CutRule) (b c : Corners) → IsNode b → Member c (accepted (decided t rule b)) → Shrinks t b c
accepted_shrinks t rule b c h m = accepted_by t b c (decided t rule b) h (fate_is t rule b h) m

pub accepted_tags : (t : IVec → Bool) (rule : CutRule) (b c : Corners) → IsNode b → Member c (accepted (decided t rule b)) → 0 < tally t c
accepted_tags t rule b c h m =
    let s = accepted_shrinks t rule b c h m in
    omega (arith, s.some, tally_shrunk t t b c h s (λ x e. e))

-- a part of a node
pub record IsPart (b p : Corners) : Type 0 where
  pub node : IsNode p
  pub inside : (x : IVec) → Holds p x → Holds b x
  pub less : depth p < depth b

left_less : (a b c : Bool) → one a + one b ≡ one c → a ≡ true → c ≡ true
left_less true true true e t = refl
left_less true true false e t = absurd (omega (arith, e))
left_less true false true e t = refl
left_less true false false e t = absurd (omega (arith, e))
left_less false b c e t = absurd (false≢true t)

right_less : (a b c : Bool) → one a + one b ≡ one c → b ≡ true → c ≡ true
right_less a b c e t = left_less b a c (omega (arith, e)) t

pub part_by : (t : IVec → Bool) (b p : Corners) (d : Decision) → IsNode b → IsFate (sign t b) d → Member p (parts d) → IsPart b p
part_by t b p Drop h f m = absurd m
part_by t b p (Accept q) h f m = absurd m
part_by t b p (Split q r) h f (inl e) =
    let s = shrunk_node t b h f.0 in
    let inside : (x : IVec) → Holds q x → Holds b x = λ x k. s.inside x (Holds-test (left_less (holds q x) (holds r x) (holds (shrunk (sign t b)) x) (f.1.cells x) (holds-from k))) in
    subst (λ v. IsPart b v) (sym e) (record { node = node_part b q h f.1.first inside; inside = inside; less = omega (arith, f.1.first_less, s.less) })
part_by t b p (Split q r) h f (inr (inl e)) =
    let s = shrunk_node t b h f.0 in
    let inside : (x : IVec) → Holds r x → Holds b x = λ x k. s.inside x (Holds-test (right_less (holds q x) (holds r x) (holds (shrunk (sign t b)) x) (f.1.cells x) (holds-from k))) in
    subst (λ v. IsPart b v) (sym e) (record { node = node_part b r h f.1.second inside; inside = inside; less = omega (arith, f.1.second_less, s.less) })
part_by t b p (Split q r) h f (inr (inr m)) = absurd m

pub part_is : (t : IVec → Bool) (rule : CutRule) (b p : Corners) → IsNode b → Member p (parts (decided t rule b)) → IsPart b p
part_is t rule b p h m = part_by t b p (decided t rule b) h (fate_is t rule b h) m

pub depth_some : (b : Corners) → IsNode b → 0 < depth b
depth_some b h = omega (arith, ints, h.whole.order.i)

pub counts_shrunk : (t own : IVec → Bool) (b : Corners) → IsNode b → 0 < tally t b → ((x : IVec) → own x ≡ true → t x ≡ true) → tally own b ≡ tally own (shrunk (sign t b))
counts_shrunk t own b h some less = tally_shrunk t own b (shrunk (sign t b)) h (shrunk_node t b h (omega (arith, some, total_is t b))) less
