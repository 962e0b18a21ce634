use Rattle.std.proofs.Common.{◌≡◌, ap, ◌∙◌}
use Rattle.std.specs.Prelude.{pos, List}
use Rattle.samr_box.specs.Vector.{alike}
use Rattle.samr_box.specs.Space.{Space}
use Rattle.samr_level.specs.Refs.{Link}
use Rattle.samr_level.specs.declared.parts.Connector.{Connector}
use Rattle.samr_level.specs.declared.parts.Pair.{Pair}
use Rattle.samr_level.specs.Overlaps.{shifts}
use Rattle.samr_level.proofs.Level0Pairs.{found_pair}
use Rattle.samr_level.proofs.blocks.level0_pair.Goals as goal

same_pair : (a a' b b' : Connector) → a ≡ a' → b ≡ b' → (let p : Pair = record { forth = a; back = b } in p) ≡ record { forth = a'; back = b' }
same_pair a a' b b' forth back =
    ap (λ (v : Connector). let p : Pair = record { forth = v; back = b } in p) forth
    ∙ ap (λ (v : Connector). let p : Pair = record { forth = a'; back = v } in p) back

pub returns : goal.returns
returns c =
    let region = c.args.region.now in
    let edges = c.settled-edges.ensures
    ∙ found_pair region c.args.block c.args.ranks c.args.rank c.args.width c.in_ok-layout.layout c.as_slice-2.result.now c.as_slice.result.now c.as_slice-3.result.now
    c.in_ok-edges.field-0.items
    c.in_ok-layout.ensures (c.as_slice-2.ensures.value ∙ c.in_ok-own.ensures) (c.as_slice.ensures.value ∙ c.in_ok-level.ensures.value)
    (c.as_slice-3.ensures.value ∙ c.in_ok-shifts.ensures ∙ ap (λ (d : Space). shifts d.periodic) (c.behind-region.view_is ∙ c.frame.ensures)) c.in_ok-edges.ensures in
    let connector : List Link → Connector = λ es. record { width = c.args.width; base_ratio = alike (pos 1); head_ratio = alike (pos 1); edges = es } in
    same_pair _ _ _ _ (c.to_itself.ensures ∙ ap connector edges) (c.to_itself-2.ensures ∙ ap connector (c.in_ok-back.ensures.items ∙ c.as_slice-4.ensures.value ∙ edges))
