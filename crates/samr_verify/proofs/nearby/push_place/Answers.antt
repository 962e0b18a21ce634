use Rattle.std.proofs.Common.{sym, ap, ◌∙◌, ◌++◌}
use Rattle.std.proofs.lemmas.List.{append-nil}
use Rattle.std.proofs.lemmas.Option.{slice_get_past}
use Rattle.std.specs.Prelude.{Option, []}
use Rattle.std.specs.Option.{option_map_or}
use Rattle.samr_level.specs.Refs.{Owned}
use Rattle.samr_verify.specs.Nearby.{edges_between}
use Rattle.samr_verify.proofs.nearby.push_place.Goals as goal

pub returns-in-None : goal.returns-in-None
returns-in-None c =
    let out = c.args.out.now.items in
    let none = slice_get_past c.args.heads.now c.args.place c.in-None.ensures.lookup.3 in
    sym (ap (λ (o : Option Owned). out ++ option_map_or (λ b. edges_between c.args.ruler.now c.args.shifts.now c.args.a b) o []) none ∙ append-nil out)
