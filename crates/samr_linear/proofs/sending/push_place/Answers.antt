use Rattle.std.proofs.lemmas.Option.{slice_get_past}
use Rattle.std.specs.List.{filter_map}
use Rattle.samr_fill.specs.Sending.{copied_from}
use Rattle.samr_fill.proofs.Steps.{nothing_more}
use Rattle.samr_linear.proofs.sending.push_place.Goals as goal

pub returns-in-None : goal.returns-in-None
returns-in-None c =
    nothing_more _ (λ p. filter_map (λ e. copied_from c.args.d.now c.args.to c.args.field p e) c.args.edges.now) c.args.out.now.items (slice_get_past c.args.patches.now c.args.place c.in-None.ensures.lookup.3)
