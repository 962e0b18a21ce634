use Rattle.std.proofs.Common.{◌∙◌, ap, ◌++◌, ◌∷◌, []}
use Rattle.samr_find.proofs.BucketChanges.{added}
use Rattle.samr_find.proofs.buckets.add_place.Goals as goal

pub returns : goal.returns
returns c =
    added (λ v. v.items) c.args.buckets.now c.take_places-places.new.buckets c.insert.new.self c.args.number _ c.args.place (c.in_ok-push.ensures.items ∙ ap (λ xs. xs ++ c.args.place ∷ []) c.take_places-places.ensures.taken) c.take_places-places.ensures.others c.in_ok-insert.ensures.updates.0
