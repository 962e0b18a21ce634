use Rattle.std.proofs.Common.{◌∙◌, ap, sym, subst, unsigned_abs, FitsSigned, w64}
use Rattle.std.specs.Prelude.{ℤ, pos, ◌≤ℤ◌}
use Rattle.std.proofs.lemmas.Int.{to_z-of_z}
use Rattle.samr_nest.specs.Nested.{cut_of}
use Rattle.samr_counting.proofs.OwnCuts.{home, width, room, edges_are, some_of, fits_of}
use Rattle.samr_counting.proofs.cutting.cut_one.Goals as goal

pub cut-requires-clause-home : goal.cut-requires-clause-home
cut-requires-clause-home c = home _ _ _ _ _ _ _ c.requires.3 c.args.cluster c.requires.4

pub cut-requires-clause-nest : goal.cut-requires-clause-nest
cut-requires-clause-nest c = width _ _ _ _ _ _ _ c.requires.3 c.args.cluster c.requires.4

pub cut-requires-clause-range : goal.cut-requires-clause-range
cut-requires-clause-range c = room _ _ _ _ _ _ _ c.requires.3 c.args.cluster c.requires.4

pub cut-requires-clause-largest : goal.cut-requires-clause-largest
cut-requires-clause-largest c =
    let fits : FitsSigned w64 c.args.knife.now.largest = fits_of _ _ _ c.args.knife.now.largest _ _ _ c.requires.3 in
    subst (λ (z : ℤ). pos 1 ≤ℤ z) (sym (to_z-of_z w64 c.args.knife.now.largest fits)) (some_of _ _ _ c.args.knife.now.largest _ _ _ c.requires.3)

pub returns : goal.returns
returns c = λ p w r is m.
    let fits : FitsSigned w64 c.args.knife.now.largest = fits_of _ _ _ c.args.knife.now.largest _ _ _ is in
    c.in_ok-left.ensures.value w.level (edges_are _ _ _ _ p w r is c.args.cluster m c.as_slice.result.now (c.as_slice.ensures.value ∙ c.in_ok-near.ensures))
    ∙ ap (λ (z : ℤ). cut_of c.args.knife.now.region w.level c.args.knife.now.nest (unsigned_abs z) c.args.cluster) (to_z-of_z w64 c.args.knife.now.largest fits)
