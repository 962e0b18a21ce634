use Rattle.std.proofs.Common.{◌≡◌, ℕ, ◌∙◌, ap, arith, subst, map}
use Rattle.std.specs.Prelude.{List}
use Rattle.std.specs.List.{range_with_len}
use Rattle.samr_box.specs.declared.vector.IVec.{IVec}
use Rattle.samr_level.specs.declared.parts.Connector.{Connector}
use Rattle.samr_level.specs.declared.parts.Pair.{Pair}
use Rattle.samr_level.specs.Refs.{Link}
use Rattle.samr_level.specs.Overlaps.{of_rank}
use Rattle.samr_level.specs.Pairs.{pair, connector}
use Rattle.samr_trials_levels.proofs.Steps.{one_more}
use Rattle.samr_trials_levels.proofs.pairs.pairs_of.Goals as goal

same_pair : (a b a' b' : Connector) → a ≡ a' → b ≡ b' → (let p : Pair = record { forth = a; back = b } in p) ≡ record { forth = a'; back = b' }
same_pair a b a' b' e f = rw (e, f)

same_edges : (width base head : IVec) (rank : ℕ) (x : Connector) (edges all : List Link)
    → x ≡ record { width = width; base_ratio = base; head_ratio = head; edges = of_rank rank edges } → edges ≡ all
    → x ≡ record { width = width; base_ratio = base; head_ratio = head; edges = of_rank rank all }
same_edges width base head rank x edges all e f =
    e ∙ ap (λ (l : List Link). let y : Connector = record { width = width; base_ratio = base; head_ratio = head; edges = of_rank rank l } in y) f

pub each-preserved : goal.each-preserved
each-preserved c =
    let a = c.args.base.now in
    let b = c.args.head.now in
    let r = c.args.base_ratio in
    let s = c.args.head_ratio in
    let d = c.args.d.now in
    let width = c.args.width in
    let rank = c.each.rank in
    let there : c.in_ok-there.there ≡ connector d width r s a b rank =
    same_edges width r s rank c.in_ok-there.there _ _ c.in_ok-there.ensures (c.as_slice.ensures.value ∙ c.in_ok-forth.ensures) in
    let here : c.in_ok-here.here ≡ connector d width s r b a rank =
    same_edges width s r rank c.in_ok-here.here _ _ c.in_ok-here.ensures (c.as_slice-in-each.ensures.value ∙ c.in_ok-back.ensures) in
    one_more (λ rank. pair d width r s a b rank) rank c.each.pairs.items c.push.new.self.items _ c.each.invariant c.in_ok-push.ensures.items
    (same_pair c.in_ok-there.there c.in_ok-here.here _ _ there here)

pub returns : goal.returns
returns c =
    let all : c.each.rank ≡ c.args.ranks = omega (arith, c.each-test.false, c.each.auto.rank-end) in
    subst (λ (n : ℕ). c.each.pairs.items ≡ map (λ rank. pair c.args.d.now c.args.width c.args.base_ratio c.args.head_ratio c.args.base.now c.args.head.now rank) (range_with_len 0 n)) all c.each.invariant
