-- What the passes of one inbox know, and how each kind of step changes it.
use Rattle.std.specs.Prelude.{◌+◌, [], ◌∷◌, ◌++◌, true, false}
use Rattle.samr_link.specs.declared.inbox.View.{View}

module _ {M : Type 0} where
  -- the fabric's pass of a new inbox, which keeps it and may take
  abbrev pub fresh : View M
  fresh = record { keeps = true; given = 0; known = []; posts = false; from = 0; posted = []; takes = true; taken = [] }

  -- a pass that has gone back
  abbrev pub spent_view : View M
  spent_view = record { keeps = false; given = 0; known = []; posts = false; from = 0; posted = []; takes = false; taken = [] }

  -- a letter was posted
  abbrev pub posts_more : View M → M → View M
  posts_more v x = record v { posted = v.posted ++ x ∷ [] }

  -- a letter was taken
  abbrev pub takes_more : View M → M → View M
  takes_more v x = record v { taken = v.taken ++ x ∷ [] }

  -- the fabric gives out the next sender's pass
  abbrev pub lends : View M → View M
  lends v = record v { given = v.given + 1 }

  abbrev pub poster : View M → View M
  poster v = record { keeps = false; given = 0; known = []; posts = true; from = v.given; posted = []; takes = false; taken = [] }

  -- the fabric gives out the taker's pass
  abbrev pub lends_taking : View M → View M
  lends_taking v = record v { takes = false; taken = [] }

  abbrev pub taker : View M → View M
  taker v = record { keeps = false; given = 0; known = []; posts = false; from = 0; posted = []; takes = true; taken = v.taken }

  -- a sender's pass went back to the fabric
  abbrev pub takes_over : View M → View M → View M
  takes_over v w = record v { known = v.known ++ w.posted ∷ [] }

  -- the taker's pass went back to the fabric
  abbrev pub takes_back : View M → View M → View M
  takes_back v w = record v { takes = true; taken = w.taken }
