use Rattle.samr_shape.proofs.Positions.{fits_image, fits_last, fits_last_image}
use Rattle.samr_shape.proofs.tagging.slab_touches.Goals as goal

pub minus-requires : goal.minus-requires
minus-requires c = rw (c.plus.ensures, c.alike.ensures) (fits_last c.requires.place c.requires.size)

pub plus-hi-requires : goal.plus-hi-requires
plus-hi-requires c = rw (c.minus.ensures, c.plus.ensures, c.alike.ensures) (fits_last_image c.requires.place c.requires.size c.offset-offset.ensures.small)

pub plus-requires-2 : goal.plus-requires-2
plus-requires-2 c = fits_image c.requires.place c.offset-offset.ensures.small
