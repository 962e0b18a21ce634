use Rattle.std.proofs.Common.{◌∙◌, ap}
use Rattle.std.specs.Prelude.{not}
use Rattle.samr_clustering.proofs.Begun.{has_any_is}
use Rattle.samr_clustering.proofs.any.has_any.Goals as goal

pub returns : goal.returns
returns c = λ d. ap not d.is_empty.ensures ∙ has_any_is d.args.items.now
