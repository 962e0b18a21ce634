use Rattle.std.proofs.Common.{◌≡◌, ap, ◌∙◌, subst}
use Rattle.samr_box.specs.Space.{Space, IsSpace, wrapped}
use Rattle.samr_box.specs.Vector.{plus, times}
use Rattle.samr_shape.proofs.Positions.{fits_way, fits_end, wide_position}
use Rattle.samr_shape.proofs.tagging.position.Goals as goal

pub times-way-requires : goal.times-way-requires
times-way-requires c = rw c.steps.ensures (fits_way c.requires.speed c.ranges.step.fits)

pub plus-requires : goal.plus-requires
plus-requires c = rw (c.times-way.ensures, c.steps.ensures) (fits_end c.requires.start c.requires.speed c.ranges.step.fits)

pub returns-clause-value : goal.returns-clause-value
returns-clause-value c =
    c.wrap.ensures.value ∙ ap (wrapped c.args.finest.now) (c.plus.ensures ∙ ap (plus c.args.start) (c.times-way.ensures ∙ ap (times c.args.velocity) c.steps.ensures))

space : (d inside : Space) → inside ≡ d → IsSpace inside → IsSpace d
space d inside is h = subst (λ v. IsSpace v) is h

pub returns-clause-wide : goal.returns-clause-wide
returns-clause-wide c =
    rw (returns-clause-value c) (wide_position c.args.finest.now c.args.start c.args.velocity c.args.step (space c.args.finest.now _ c.finest.view_is c.finest.invariant) c.requires.start c.requires.speed c.ranges.step.fits)
