use Rattle.std.proofs.Common.{ℕ, [], ap}
use Rattle.samr_find.proofs.Ranges.{one_more_pushed}
use Rattle.samr_rounds.specs.declared.owner.RankTags.{RankTags}
use Rattle.samr_rounds.specs.Owners.{own_tags}
use Rattle.samr_sign.specs.Counts.{tally}
use Rattle.samr_sign.specs.Fields.{tagged}
use Rattle.samr_mesh_plain.proofs.owners.counts_of.Goals as goal

pub loop-rank-preserved : goal.loop-rank-preserved
loop-rank-preserved c =
    let counted : ℕ → RankTags = λ r. record { rank = r; tags = tally (own_tags (tagged c.args.tags.now) c.args.level.now r) c.args.b } in
    let made : ℕ → RankTags = λ n. record { rank = c.loop-rank.rank; tags = n } in
    one_more_pushed counted c.loop-rank.rank [] _ _ _ c.in_ok-push.ensures.items c.loop-rank.invariant (ap made c.in_ok-tags.ensures)
