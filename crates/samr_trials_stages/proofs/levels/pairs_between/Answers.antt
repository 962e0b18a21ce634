use Rattle.std.proofs.Common.{◌∙◌, ap, map}
use Rattle.std.specs.Prelude.{List}
use Rattle.std.specs.List.{range_with_len}
use Rattle.samr_level.specs.declared.parts.Pair.{Pair}
use Rattle.samr_level.specs.Refs.{Owned}
use Rattle.samr_level.specs.Pairs.{pair}
use Rattle.samr_trials_stages.proofs.levels.pairs_between.Goals as goal

pub returns : goal.returns
returns c =
    let a = c.args.base.now in
    let b = c.args.head.now in
    let between : List Owned → List Owned → List Pair = λ bases heads. map (λ rank. pair c.args.d.now c.args.width a.ratio b.ratio bases heads rank) (range_with_len 0 c.args.ranks) in
    c.in_ok-pairs.ensures
    ∙ ap (λ (l : List Owned). between l c.as_slice-heads.result.now) c.as_slice-bases.ensures.value
    ∙ ap (λ (l : List Owned). between a.boxes.items l) c.as_slice-heads.ensures.value
