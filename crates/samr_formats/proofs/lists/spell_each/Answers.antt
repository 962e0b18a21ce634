use Rattle.std.proofs.Common.{subst, sym, arith}
use Rattle.std.proofs.lemmas.Grind.{common_steps}
use Rattle.std.proofs.lemmas.List.Elements.{All-from_recursion}
use Rattle.samr_formats.proofs.Fitting.{one_more_fits}
use Rattle.samr_formats.proofs.lists.spell_each.Goals as goal

pub spell-requires : goal.spell-requires
spell-requires g c = subst (λ x. g.T.Format.writable x) (sym c.one-item.is) (All-from_recursion _ _ c.requires c.loop-one.one-index _ c.loop-one-test.true)

pub loop-one-preserved : goal.loop-one-preserved
loop-one-preserved g c = record {
  spelled = grind (arith, common_steps);
  fits = one_more_fits g.T.Format.fits c.args.list.now c.loop-one.one-index c.one-item.result c.loop-one-test.true c.one-item.is c.loop-one.invariant.fits c.in_ok-spell.ensures.fits;
}
