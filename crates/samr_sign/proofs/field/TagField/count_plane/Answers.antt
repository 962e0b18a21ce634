use Rattle.std.proofs.Common.{◌≡◌, ◌≤◌, ℕ, ap, sym, ◌∙◌, refl, arith}
use Rattle.samr_box.specs.declared.vector.Axis.TheVariants.{J}
use Rattle.samr_bits.specs.Sums.{sum_below}
use Rattle.samr_sign.specs.Counts.{slice, tally}
use Rattle.samr_sign.specs.Fields.{tagged}
use Rattle.samr_sign.proofs.Slices.{plane_inside}
use Rattle.samr_sign.proofs.Tallies.{tally_planes}
use Rattle.samr_sign.proofs.Rows.{planes_fit}
use Rattle.samr_sign.proofs.field.TagField.count_plane.Goals as goal

pub count_row-count-requires-clause-inside : goal.count_row-count-requires-clause-inside
count_row-count-requires-clause-inside c =
    let below = rw c.length-y-end.ensures.value at c.loop-y-test.true in
    plane_inside J c.args.self.now.bx c.args.self.now.bx c.args.part c.slice.result c.loop-y.y c.length-y-end.ensures.whole.order below refl c.slice.ensures c.requires.inside

pub overflow_add-count : goal.overflow_add-count
overflow_add-count c =
    let below = rw c.length-y-end.ensures.value at c.loop-y-test.true in
    let count : ℕ → ℕ = λ p. tally (tagged c.args.self.now) (slice J c.args.part p) in
    let few = rw (tally_planes J (tagged c.args.self.now) c.args.part) at c.requires.few in
    omega (arith, planes_fit count c.loop-y.y _ c.loop-y.count c.count_row-count.result below few c.loop-y.invariant (c.count_row-count.ensures ∙ ap (tally (tagged c.args.self.now)) c.slice.ensures))

same_number : (a b : ℕ) → a ≤ b → b ≤ a → a ≡ b
same_number a b p q = omega arith

pub returns : goal.returns
returns c =
    let end = rw c.length-y-end.ensures.value at c.loop-y-test.false in
    let most = rw c.length-y-end.ensures.value at c.loop-y.auto.y-end in
    let all : c.loop-y.y ≡ _ = same_number _ _ most end in
    c.loop-y.invariant ∙ ap (sum_below (λ p. tally (tagged c.args.self.now) (slice J c.args.part p))) all ∙ sym (tally_planes J (tagged c.args.self.now) c.args.part)
