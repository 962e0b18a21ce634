use Rattle.std.proofs.Common.{◌≡◌, ◌≤◌, ℕ, ap, sym, ◌∙◌, refl, arith}
use Rattle.samr_box.specs.declared.vector.Axis.TheVariants.{K}
use Rattle.samr_bits.specs.Sums.{sum_below}
use Rattle.samr_bits.proofs.Sums.{sum_member}
use Rattle.samr_sign.specs.Counts.{slice, tally}
use Rattle.samr_sign.specs.Fields.{tagged}
use Rattle.samr_sign.proofs.Slices.{plane_inside}
use Rattle.samr_sign.proofs.Tallies.{tally_planes}
use Rattle.samr_sign.proofs.Rows.{planes_fit}
use Rattle.samr_sign.proofs.field.TagField.count_part.Goals as goal

pub count_plane-count-requires-clause-inside : goal.count_plane-count-requires-clause-inside
count_plane-count-requires-clause-inside c =
    let below = rw c.length-z-end.ensures.value at c.loop-z-test.true in
    plane_inside K c.args.self.now.bx c.args.self.now.bx c.args.part c.slice.result c.loop-z.z c.length-z-end.ensures.whole.order below refl c.slice.ensures c.requires.inside

pub count_plane-count-requires-clause-few : goal.count_plane-count-requires-clause-few
count_plane-count-requires-clause-few c =
    let below = rw c.length-z-end.ensures.value at c.loop-z-test.true in
    let count : ℕ → ℕ = λ p. tally (tagged c.args.self.now) (slice K c.args.part p) in
    let here = ap (tally (tagged c.args.self.now)) c.slice.ensures in
    omega (arith, here, sum_member count _ c.loop-z.z below, tally_planes K (tagged c.args.self.now) c.args.part, c.requires.few)

pub overflow_add-count : goal.overflow_add-count
overflow_add-count c =
    let below = rw c.length-z-end.ensures.value at c.loop-z-test.true in
    let count : ℕ → ℕ = λ p. tally (tagged c.args.self.now) (slice K c.args.part p) in
    let few = rw (tally_planes K (tagged c.args.self.now) c.args.part) at c.requires.few in
    omega (arith, planes_fit count c.loop-z.z _ c.loop-z.count c.count_plane-count.result below few c.loop-z.invariant (c.count_plane-count.ensures ∙ ap (tally (tagged c.args.self.now)) c.slice.ensures))

same_number : (a b : ℕ) → a ≤ b → b ≤ a → a ≡ b
same_number a b p q = omega arith

pub returns : goal.returns
returns c =
    let end = rw c.length-z-end.ensures.value at c.loop-z-test.false in
    let most = rw c.length-z-end.ensures.value at c.loop-z.auto.z-end in
    let all : c.loop-z.z ≡ _ = same_number _ _ most end in
    c.loop-z.invariant ∙ ap (sum_below (λ p. tally (tagged c.args.self.now) (slice K c.args.part p))) all ∙ sym (tally_planes K (tagged c.args.self.now) c.args.part)
