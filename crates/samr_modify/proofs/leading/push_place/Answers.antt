use Rattle.std.proofs.Common.{sym, ap, ◌∙◌, ◌++◌}
use Rattle.std.proofs.lemmas.List.{append-nil}
use Rattle.std.proofs.lemmas.Option.{slice_get_past}
use Rattle.std.specs.Prelude.{Option, []}
use Rattle.std.specs.Option.{option_map_or}
use Rattle.samr_modify.specs.declared.entries.Replaced.{Replaced}
use Rattle.samr_modify.specs.Found.{led}
use Rattle.samr_modify.proofs.leading.push_place.Goals as goal

pub returns-in-None : goal.returns-in-None
returns-in-None c =
    let out = c.args.out.now.items in
    let none = slice_get_past c.args.known.now c.args.place c.in-None.ensures.lookup.3 in
    sym (ap (λ (o : Option Replaced). out ++ option_map_or (λ r. led c.args.ruler.now c.args.e r) o []) none ∙ append-nil out)
