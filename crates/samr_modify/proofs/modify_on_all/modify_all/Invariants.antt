use Rattle.std.proofs.Common.{◌≡◌, ℕ, length, Some, slice_get, map}
use Rattle.samr_modify.specs.declared.modify.Modify.{Modify}
use Rattle.samr_modify.specs.Modify.{Modifying}
use Rattle.samr_modify.specs.ModifyParts.{HaveAllParts, HasEntries}
use Rattle.samr_modify.proofs.modify_on_all.modify_all.Given as goal

abbrev pub invariant-each : goal.invariant-each
invariant-each l =
    (length l.stages.items ≡ l.rank)
    × ((w : Modifying) → HaveAllParts l.fn.d l.anchors l.mappings (map (λ v. v.items) l.news) w → (k : ℕ) (s : Modify) → slice_get l.stages.items k ≡ Some s
    → HasEntries s.rank s.width s.anchor_ratio s.old_ratio s.forth s.back s.edges.items s.known.items s.addressees.items s.senders.items w k)
