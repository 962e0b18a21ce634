use Rattle.std.proofs.Common.{◌≡◌, ◌∙◌, sym, ap, ◌++◌}
use Rattle.std.proofs.lemmas.Iterator.Adapters.{YieldsList-from_vec}
use Rattle.std.proofs.lemmas.Iterator.Consumers.{YieldsList-end}
use Rattle.std.proofs.lemmas.List.{map-id}
use Rattle.std.specs.Prelude.{List}
use Rattle.std.specs.List.{flat_map}
use Rattle.samr_stage.specs.declared.stage.Held.{Held}
use Rattle.samr_data.specs.declared.parcel.Parcel.{Parcel}
use Rattle.samr_fill.proofs.Steps.{bodies_more}
use Rattle.samr_linear.proofs.linear_fill.all_parcels.Goals as goal

pub loop-letter-preserved : goal.loop-letter-preserved
loop-letter-preserved c =
    bodies_more (λ (letter : Held (List Parcel)). letter.body) c.args.own.items c.loop-letter.yielded c.in-Some.letter c.loop-letter.all.items _ c.loop-letter.invariant
    (c.in_ok-push_parcels.ensures ∙ ap (λ (l : List Parcel). c.loop-letter.all.items ++ l) c.into_vec.ensures)

pub returns : goal.returns
returns c =
    let end = YieldsList-end (YieldsList-from_vec c.args.held.items (cc) (cc)) c.loop-letter.yielded c.loop-letter.letter-iterator c.loop-letter.yielded_by c.next.result c.next.new.self c.in-None.is c.next.ensures.steps in
    let all : c.loop-letter.yielded ≡ c.args.held.items = sym (map-id c.loop-letter.yielded) ∙ end.0 in
    c.loop-letter.invariant ∙ ap (λ (l : List (Held (List Parcel))). c.args.own.items ++ flat_map (λ letter. letter.body) l) all
