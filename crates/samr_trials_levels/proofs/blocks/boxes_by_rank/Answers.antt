use Rattle.std.proofs.Common.{◌≡◌, ℕ, ◌∙◌, arith, subst, map}
use Rattle.std.specs.List.{range_with_len}
use Rattle.samr_level.specs.Refs.{Owned}
use Rattle.samr_level.specs.Levels.{own}
use Rattle.samr_trials_levels.proofs.Steps.{one_more}
use Rattle.samr_trials_levels.proofs.blocks.boxes_by_rank.Goals as goal

pub each-preserved : goal.each-preserved
each-preserved c =
    one_more (λ rank. map (λ (b : Owned). b.bx) (own rank c.args.level.now)) c.each.rank c.each.all.items c.push.new.self.items c.from_vec.result
    c.each.invariant c.in_ok-push.ensures.items (c.from_vec.ensures ∙ c.in_ok-boxes.ensures)

pub returns : goal.returns
returns c =
    let all : c.each.rank ≡ c.args.ranks = omega (arith, c.each-test.false, c.each.auto.rank-end) in
    subst (λ (n : ℕ). c.each.all.items ≡ map (λ rank. map (λ (b : Owned). b.bx) (own rank c.args.level.now)) (range_with_len 0 n)) all c.each.invariant
