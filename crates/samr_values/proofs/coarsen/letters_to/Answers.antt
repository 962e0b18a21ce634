use Rattle.std.proofs.Common.{ℕ, ap, ◌∙◌, map, refl}
use Rattle.std.proofs.lemmas.List.{take_all}
use Rattle.std.specs.Prelude.{List}
use Rattle.samr_values.specs.Merging.{merged_to}
use Rattle.samr_values.proofs.Poured.{one_more_letter}
use Rattle.samr_values.proofs.coarsen.letters_to.Goals as goal

pub each-preserved : goal.each-preserved
each-preserved c = λ values has.
    one_more_letter (merged_to c.args.merges.now values c.args.edges.now) c.args.addressees.now c.each.to-index _ c.from_vec.result c.each.letters.items c.push.new.self.items
    c.each-test.true refl (c.from_vec.ensures ∙ c.in_ok-body.ensures values has) (c.each.invariant values has) c.in_ok-push.ensures.items

pub returns : goal.returns
returns c = λ values has.
    c.each.invariant values has
    ∙ ap (λ (l : List ℕ). map (λ to. (to, merged_to c.args.merges.now values c.args.edges.now to)) l) (take_all c.each.to-index c.args.addressees.now c.each-test.false)
