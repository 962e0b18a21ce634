use Rattle.std.proofs.Common.{arith}
use Rattle.samr_data.proofs.PlaceLaws.{parts_below}
use Rattle.samr_data.proofs.places.place.Goals as goal

pub place_at-requires-clause-few : goal.place_at-requires-clause-few
place_at-requires-clause-few c =
    rw (c.offset-k.ensures, c.offset-j.ensures, c.offset-i.ensures, c.length.ensures.value, c.length-2.ensures.value)
    (omega (arith, c.requires.few, parts_below c.args.bx c.args.x c.requires.inside))

pub returns-clause-below : goal.returns-clause-below
returns-clause-below c =
    rw (c.place_at.ensures, c.offset-k.ensures, c.offset-j.ensures, c.offset-i.ensures, c.length.ensures.value, c.length-2.ensures.value)
    (parts_below c.args.bx c.args.x c.requires.inside)
