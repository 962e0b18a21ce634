use Rattle.std.proofs.Common.{◌≡◌, length, [], All}
use Rattle.samr_values.proofs.values.empty_fields.Given as goal

abbrev pub invariant-each : goal.invariant-each
invariant-each l = record {
  count : length l.fields.items ≡ l._field;
  empty : All (λ field. field ≡ []) l.fields.items;
}
