-- Letters of the stages go between two different ranks, and those of the cover from boxes of the fine level.
use Rattle.std.specs.Prelude.{◌≡◌, ◌≢◌, ℕ, ◌<◌, Bool, true, false, not, cond, nat_eq, nat_lt, List, Some, None, is_some, IsTrue, refl}
use Rattle.std.proofs.lemmas.Bool.{and_parts}
use Rattle.samr_box.specs.Lists.{Member}
use Rattle.samr_level.specs.Overlaps.{scale, true_overlaps}
use Rattle.samr_level.specs.Refs.{Owned, Link}
use Rattle.samr_level.proofs.Overlapping.{Member-from_overlaps, Member-from_of_rank}
use Rattle.samr_peers.specs.PeerLaws.{peer_between}
use Rattle.samr_peers.specs.Peers.{owns_head, peer_row}
use Rattle.samr_peers.proofs.PeerRows.{owner_from}
use Rattle.samr_tags.specs.Buffer.{Tagging, selves}
use Rattle.samr_tags.specs.BufferRow.{told_by, buffer_row}
use Rattle.samr_tags.specs.Cover.{Covering, fine_ratio, downs}
use Rattle.samr_tags.specs.CoverRow.{needed_by, cover_row}

pub buffer_between : (w : Tagging) (from to : ℕ) → IsTrue (is_some (buffer_row w from to)) → (from < w.ranks) × (to < w.ranks) × (from ≢ to)
unfolding buffer_row
buffer_between w from to h = peer_between w.ranks (selves w) (told_by w) from to h

pub cover_between : (w : Covering) (from to : ℕ) → IsTrue (is_some (cover_row w from to)) → (from < w.ranks) × (to < w.ranks) × (from ≢ to)
unfolding cover_row
cover_between w from to h = peer_between w.ranks (downs w) (needed_by w) from to h

-- a letter of a peer row goes along an edge of its sender
along : {B : Type 0} (ranks : ℕ) (edges : ℕ → List Link) (body : ℕ → ℕ → B) (from to : ℕ) → IsTrue (is_some (peer_row ranks edges body from to))
    → (e : Link) × Member e (edges from) × (e.head.owner ≡ to)
unfolding peer_row
along ranks edges body from to there =
    let first = and_parts (nat_lt from ranks) _ (passes _ (body from to) there) in
    let second = and_parts (nat_lt to ranks) _ first.1 in
    let third = and_parts (not (nat_eq to from)) (owns_head to (edges from)) second.1 in
    owner_from to (edges from) third.1
  where
    passes : {B : Type 0} (t : Bool) (body : B) → IsTrue (is_some (cond t (Some body) None)) → t ≡ true
    passes true body h = refl
    passes false body h = cc

-- a letter of the cover goes from a rank with a box of the fine level to one with a box of the level
pub cover_above : (w : Covering) (from to : ℕ) → IsTrue (is_some (cover_row w from to))
    → ((b : Owned) × Member b w.fine × (b.owner ≡ from)) × ((a : Owned) × Member a w.level × (a.owner ≡ to))
unfolding cover_row
cover_above w from to there =
    let n = scale w.frame w.width (fine_ratio w) w.ratio in
    let all = true_overlaps n w.fine w.level in
    let e = along w.ranks (downs w) (needed_by w) from to there in
    let mine = Member-from_of_rank from all e.0 e.1 in
    let is = Member-from_overlaps n w.fine w.level e.0 mine.0 in
    ((e.0.base, is.is_base, mine.1), (e.0.head, is.is_head, e.2))
