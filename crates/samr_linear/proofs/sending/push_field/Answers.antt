use Rattle.std.proofs.lemmas.Option.{slice_get_past}
use Rattle.samr_fill.specs.Sending.{place_copies}
use Rattle.samr_fill.proofs.Steps.{nothing_more}
use Rattle.samr_linear.proofs.sending.push_field.Goals as goal

pub returns-in-None : goal.returns-in-None
returns-in-None c =
    nothing_more _ (λ patches. place_copies c.args.d.now c.args.to c.args.field patches c.args.place c.args.edges.now) c.args.out.now.items (slice_get_past c.args.own.now c.args.field c.in-None.ensures.lookup.3)
