use Rattle.std.proofs.Common.{◌≡◌, take}
use Rattle.std.specs.Prelude.{sum_by}
use Rattle.samr_sign.specs.Counts.{tally}
use Rattle.samr_sign.specs.Fields.{tagged}
use Rattle.samr_sign.proofs.signature.count_all.Given as goal

abbrev pub invariant-loop-field : goal.invariant-loop-field
invariant-loop-field l = l.count ≡ sum_by (λ f. tally (tagged f) l.region) (take l.field-index l.fields)
