use Rattle.std.proofs.Common.{◌≡◌, ℕ, ◌∙◌, ap, arith, subst, map}
use Rattle.std.specs.List.{range_with_len}
use Rattle.samr_level.proofs.Steps.{map_append}
use Rattle.samr_modify.specs.Pieces.{pieces_of}
use Rattle.samr_trials_levels.proofs.Steps.{one_more}
use Rattle.samr_trials_stages.proofs.modifies.all_pieces.Goals as goal

pub each-preserved : goal.each-preserved
each-preserved c =
    one_more (λ rank. pieces_of rank c.args.moves.now) c.each.rank _ _ _ c.each.invariant
    (ap (map (λ own. own.items)) c.in_ok-push.ensures.items ∙ map_append (λ own. own.items) c.each.all.items _)
    c.in_ok-pieces_of.ensures

pub returns : goal.returns
returns c =
    let all : c.each.rank ≡ c.args.ranks = omega (arith, c.each-test.false, c.each.auto.rank-end) in
    subst (λ (n : ℕ). map (λ own. own.items) c.each.all.items ≡ map (λ rank. pieces_of rank c.args.moves.now) (range_with_len 0 n)) all c.each.invariant
