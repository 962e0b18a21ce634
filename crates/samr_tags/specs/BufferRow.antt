-- The letters of the stage `Buffer`: what its ranks tell each other.
use Rattle.std.specs.Prelude.{ℕ, List, map, Option}
use Rattle.samr_peers.specs.Peers.{peer_row}
use Rattle.samr_tags.specs.declared.seen.Seen.{Seen}
use Rattle.samr_tags.specs.Buffer.{Tagging, space, selves}
use Rattle.samr_tags.specs.Seeing.{seen, told_to}

-- what a rank's boxes have for others, and what it tells a rank of it
abbrev pub all_seen : Tagging → ℕ → List Seen
all_seen w rank = map (λ e. seen (space w) w.buffer w.shape e) (selves w rank)

abbrev pub told_by : Tagging → ℕ → ℕ → List Seen
told_by w from to = told_to to (all_seen w from)

-- a rank tells each other owner of a head of its edges, also where no cell is near
unfoldable pub buffer_row : Tagging → ℕ → ℕ → Option (List Seen)
buffer_row w = peer_row w.ranks (selves w) (told_by w)
