-- What the passes of a fabric know, once its ends have gone back.
use Rattle.std.specs.Prelude.{List, [], map, Option, Some, None, Vec}
use Rattle.crossbeam_queue.specs.Passes.{Pass, view}
use Rattle.samr_link.specs.declared.inbox.View.{View}

abbrev pub kept_views : {M Z : Type 0} → Option (Vec (Pass M (View M)) Z) → List (View M)
kept_views None = []
kept_views (Some kept) = map view kept.items
