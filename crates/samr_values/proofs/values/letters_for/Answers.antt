use Rattle.std.proofs.Common.{ℕ, ap, ◌∙◌, map, refl, length}
use Rattle.std.proofs.lemmas.List.{take_all}
use Rattle.std.specs.Prelude.{List}
use Rattle.samr_values.specs.ValuesRow.{parcels_by}
use Rattle.samr_values.proofs.Poured.{one_more_letter}
use Rattle.samr_values.proofs.values.letters_for.Goals as goal

pub each-preserved : goal.each-preserved
each-preserved c = λ values coarse_values has under.
    one_more_letter (λ to. parcels_by c.args.step values coarse_values c.args.olds.now c.args.coarser.now (length c.args.patches.now) to)
    c.args.addressees.now c.each.to-index _ c.from_vec.result c.each.letters.items c.push.new.self.items
    c.each-test.true refl (c.from_vec.ensures ∙ c.in_ok-body.ensures values coarse_values has under) (c.each.invariant values coarse_values has under)
    c.in_ok-push.ensures.items

pub returns : goal.returns
returns c = λ values coarse_values has under.
    c.each.invariant values coarse_values has under
    ∙ ap (λ (l : List ℕ). map (λ to. (to, parcels_by c.args.step values coarse_values c.args.olds.now c.args.coarser.now (length c.args.patches.now) to)) l)
    (take_all c.each.to-index c.args.addressees.now c.each-test.false)
