use Rattle.std.proofs.Common.{arith}
use Rattle.samr_sign.proofs.Places.{place_below}
use Rattle.samr_sign.proofs.field.place.Goals as goal

pub place_at-requires-clause-few : goal.place_at-requires-clause-few
place_at-requires-clause-few c =
    rw (c.offset-k.ensures, c.offset-j.ensures, c.offset-i.ensures, c.length.ensures.value, c.row_words.ensures.value)
    (omega (arith, c.requires.few, place_below c.args.bx c.args.x c.requires.inside))

pub returns-clause-within : goal.returns-clause-within
returns-clause-within c =
    rw (c.place_at.ensures, c.offset-k.ensures, c.offset-j.ensures, c.offset-i.ensures, c.length.ensures.value, c.row_words.ensures.value)
    (place_below c.args.bx c.args.x c.requires.inside)
