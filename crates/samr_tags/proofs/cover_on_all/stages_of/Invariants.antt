use Rattle.std.proofs.Common.{◌≡◌, ℕ, length, Some, slice_get}
use Rattle.samr_tags.specs.declared.cover.Cover.{Cover}
use Rattle.samr_tags.specs.Cover.{Covering}
use Rattle.samr_tags.specs.CoverParts.{HasNeeds}
use Rattle.samr_tags.specs.CoverOnAll.{HaveAllCovers}
use Rattle.samr_tags.proofs.cover_on_all.stages_of.Given as goal

abbrev pub invariant-each : goal.invariant-each
invariant-each l =
    (length l.stages.items ≡ l.rank)
    × (length l.yielded ≡ l.rank)
    × ((w : Covering) → HaveAllCovers l.fn.d l.fn.fields.items l.covers l.fn.nest l.fn.upper l.fn.lower w → (k : ℕ) (s : Cover)
    → slice_get l.stages.items k ≡ Some s → HasNeeds s.rank s.needs s.fields s.edges.items s.addressees.items s.senders.items w k)
