use Rattle.std.proofs.Common.{ap, ◌∙◌}
use Rattle.std.proofs.lemmas.List.{take_all}
use Rattle.std.specs.Prelude.{List, cond, ◌∷◌, []}
use Rattle.std.specs.List.{flat_map}
use Rattle.samr_modify.specs.declared.entries.Replaced.{Replaced}
use Rattle.samr_modify.specs.Entries.{concerns, shown}
use Rattle.samr_modify.proofs.Lookups.{told_is}
use Rattle.samr_modify.proofs.letters.told_to.Goals as goal

pub returns : goal.returns
returns c =
    c.from_vec.ensures ∙ c.loop-r.invariant
    ∙ ap (λ (rs : List Replaced). flat_map (λ r. cond (concerns c.args.rank r) (shown c.args.rank r ∷ []) []) rs)
    (take_all c.loop-r.r-index c.args.known.now c.loop-r-test.false)
    ∙ told_is c.args.rank c.args.known.now
