use Rattle.std.proofs.Common.{◌≡◌, ℕ, ◌∙◌, ap, arith, subst, map}
use Rattle.std.specs.List.{range_with_len}
use Rattle.samr_level.specs.declared.parts.Mapping.{Mapping}
use Rattle.samr_level.specs.declared.parts.Move.{Move}
use Rattle.std.specs.Prelude.{List}
use Rattle.samr_modify.specs.Entries.{moves_of}
use Rattle.samr_trials_levels.proofs.Steps.{one_more}
use Rattle.samr_trials_stages.proofs.modifies.mappings_of.Goals as goal

pub each-preserved : goal.each-preserved
each-preserved c =
    let of : ℕ → Mapping = λ rank. record { entries = moves_of rank c.args.moves.now } in
    one_more of c.each.rank c.each.mappings.items c.push.new.self.items _ c.each.invariant c.in_ok-push.ensures.items
    (ap (λ (l : List Move). let m : Mapping = record { entries = l } in m) (c.from_vec.ensures ∙ c.in_ok-moves_of.ensures))

pub returns : goal.returns
returns c =
    let all : c.each.rank ≡ c.args.ranks = omega (arith, c.each-test.false, c.each.auto.rank-end) in
    subst (λ (n : ℕ). c.each.mappings.items ≡ map (λ rank. record { entries = moves_of rank c.args.moves.now }) (range_with_len 0 n)) all c.each.invariant
