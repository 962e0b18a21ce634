use Rattle.std.proofs.Common.{sym, ap, ◌∙◌, ◌++◌}
use Rattle.std.proofs.lemmas.List.{append-nil}
use Rattle.std.proofs.lemmas.Option.{slice_get_past}
use Rattle.std.specs.Prelude.{Option, []}
use Rattle.std.specs.Option.{option_map_or}
use Rattle.samr_box.specs.Corners.{Corners}
use Rattle.samr_verify.specs.Nearby.{if_meets}
use Rattle.samr_verify.proofs.look_up.push_met_at.Goals as goal

pub returns-in-None : goal.returns-in-None
returns-in-None c =
    let out = c.args.out.now.items in
    let none = slice_get_past c.args.boxes.now c.args.place c.in-None.ensures.lookup.3 in
    sym (ap (λ (o : Option Corners). out ++ option_map_or (λ a. if_meets c.args.b a) o []) none ∙ append-nil out)
