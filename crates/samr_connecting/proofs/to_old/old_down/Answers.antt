use Rattle.std.proofs.Common.{◌≡◌, is_some, option_map, Some, true, false, sym, ap, ◌∙◌}
use Rattle.samr_level.specs.declared.parts.Pair.{Pair}
use Rattle.samr_connecting.proofs.OldLevels.{is_old_some, old_down}
use Rattle.samr_connecting.proofs.to_old.old_down.Goals as goal

differ : false ≡ true → ⊥
differ e = cc

some_same : {x y : Pair} → Some x ≡ Some y → x ≡ y
some_same e = cc

pub down_of-requires : goal.down_of-requires
down_of-requires g c =
    let w = c.requires.0 in
    let r = c.requires.1 in
    let h = c.requires.2 in
    let down = old_down w r h.0.problem h.1 c.in-Some.level.now (sym (ap (λ o. option_map (λ p. p.now) o) c.in-Some.is) ∙ c.old_above.ensures w r h) c.requires.3 in
    ap is_some down

pub unreachable-requires : goal.unreachable-requires
unreachable-requires g c =
    let w = c.requires.0 in
    let r = c.requires.1 in
    let h = c.requires.2 in
    differ (ap is_some (sym c.in-None.is) ∙ is_old_some w r h.0.problem h.1 (λ p. p.now) c.old_above.result (c.old_above.ensures w r h) ∙ c.requires.3)

pub returns : goal.returns
returns g c = λ w r h some.
    some_same (sym c.down_of.ensures ∙ old_down w r h.0.problem h.1 c.in-Some.level.now (sym (ap (λ o. option_map (λ p. p.now) o) c.in-Some.is) ∙ c.old_above.ensures w r h) some)
