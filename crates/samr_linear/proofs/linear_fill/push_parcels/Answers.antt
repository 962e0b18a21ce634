use Rattle.std.proofs.Common.{◌≡◌, ◌∙◌, sym, ap, ◌++◌}
use Rattle.std.proofs.lemmas.Iterator.Adapters.{YieldsList-from_vec}
use Rattle.std.proofs.lemmas.Iterator.Consumers.{YieldsList-end}
use Rattle.std.proofs.lemmas.List.{map-id}
use Rattle.std.specs.Prelude.{List}
use Rattle.samr_data.specs.declared.parcel.Parcel.{Parcel}
use Rattle.samr_linear.proofs.linear_fill.push_parcels.Goals as goal

pub returns : goal.returns
returns c =
    let end = YieldsList-end (YieldsList-from_vec c.args.more.items (cc) (cc)) c.loop-parcel.yielded c.loop-parcel.parcel-iterator c.loop-parcel.yielded_by c.next.result c.next.new.self c.in-None.is c.next.ensures.steps in
    let all : c.loop-parcel.yielded ≡ c.args.more.items = sym (map-id c.loop-parcel.yielded) ∙ end.0 in
    c.loop-parcel.invariant ∙ ap (λ (l : List Parcel). c.args.parcels.now.items ++ l) all
