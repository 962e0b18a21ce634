use Rattle.std.proofs.Common.{sym, subst, List}
use Rattle.std.specs.List.{All}
use Rattle.samr_box.specs.Lists.{Member}
use Rattle.samr_box.proofs.Members.{All-from_members}
use Rattle.samr_level.specs.Refs.{Owned}
use Rattle.samr_mesh_plain.proofs.TagFacts.{covered_is}
use Rattle.samr_mesh_plain.proofs.covered.is_covered.Goals as goal

pub some_covers-requires-clause-fine : goal.some_covers-requires-clause-fine
some_covers-requires-clause-fine c =
    let fine : List Owned = c.args.w.now.above in
    subst (λ (l : List Owned). All (λ b. Member b fine) l) (sym c.fine-fine.ensures) (All-from_members (λ b. Member b fine) fine (λ b m. m))

pub returns : goal.returns
returns c = covered_is c.args.problem.now c.args.w.now c.args.x c.fine-fine.result.now c.some_covers.result c.fine-fine.ensures c.some_covers.ensures
