use Rattle.std.proofs.Common.{◌≡◌, ℕ, ◌∙◌, ap, sym, arith, map, ◌++◌, ◌∷◌, [], ◌+◌}
use Rattle.std.proofs.lemmas.List.FromFn.{map-range_with_len_more}
use Rattle.std.specs.Prelude.{List}
use Rattle.std.specs.List.{range_with_len}
use Rattle.samr_level.specs.declared.parts.Part.{Part}
use Rattle.samr_level.specs.Pairs.{part}
use Rattle.samr_trials_fills.proofs.planning.parts_of.Goals as goal

one_more : (of : ℕ → Part) (rank : ℕ) (old new : List Part) (x : Part) → old ≡ map of (range_with_len 0 rank) → new ≡ old ++ x ∷ [] → x ≡ of rank → new ≡ map of (range_with_len 0 (rank + 1))
one_more of rank old new x e f g =
    f ∙ ap (λ (l : List Part). l ++ x ∷ []) e ∙ ap (λ (p : Part). map of (range_with_len 0 rank) ++ p ∷ []) g ∙ sym (map-range_with_len_more of 0 rank rank (omega arith))

pub each-preserved : goal.each-preserved
each-preserved c =
    one_more (λ rank. part c.args.level.now rank) c.each.rank c.each.parts.items c.push.new.self.items c.in_ok-level_part.field-0 c.each.invariant c.in_ok-push.ensures.items c.in_ok-level_part.ensures
