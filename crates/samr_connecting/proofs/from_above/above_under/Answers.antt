use Rattle.std.proofs.Common.{◌≡◌, is_some, option_map, true, false, sym, ap, ◌∙◌}
use Rattle.samr_connecting.proofs.OldLevels.{is_above_some, above_under}
use Rattle.samr_connecting.proofs.from_above.above_under.Goals as goal

differ : false ≡ true → ⊥
differ e = cc

pub unreachable-requires : goal.unreachable-requires
unreachable-requires g c =
    let w = c.requires.0 in
    let r = c.requires.1 in
    let h = c.requires.2 in
    differ (ap is_some (sym c.in-None.is) ∙ is_above_some w r h.0.problem h.1 (λ p. p.now) c.above.result (c.above.ensures w r h) ∙ c.requires.3)

pub returns : goal.returns
returns g c = λ w r h top.
    above_under w r h.0.problem h.1 c.in-Some.above.now (sym (c.above.ensures w r h) ∙ ap (λ o. option_map (λ p. p.now) o) c.in-Some.is)
