use Rattle.std.proofs.Common.{sym, subst}
use Rattle.std.proofs.lemmas.List.Elements.{All-get_or}
use Rattle.samr_box.specs.Lists.{Member}
use Rattle.samr_level.specs.Refs.{Owned}
use Rattle.samr_mesh_plain.proofs.covered.some_covers.Goals as goal

pub covers-requires-clause-fine : goal.covers-requires-clause-fine
covers-requires-clause-fine c =
    subst (λ (b : Owned). Member b c.args.w.now.above) (sym c.b-item.is)
    (All-get_or (λ (b : Owned). Member b c.args.w.now.above) c.args.fine.now c.loop-b.b-index c.b-item.result c.loop-b-test.true c.requires.fine)
