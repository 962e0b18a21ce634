use Rattle.std.proofs.Common.{◌≡◌, None, sym, subst}
use Rattle.toml.specs.View.{table_view}
use Rattle.samr_problem.specs.declared.context.Document.{Document}
use Rattle.samr_problem.specs.Faults.{field_faults}
use Rattle.samr_problem.specs.Fields.{fields_from}
use Rattle.samr_problem.specs.Problems.{IsProblem}
use Rattle.samr_problem.specs.Refusals.{first}
use Rattle.samr_problem.proofs.Accepted.{accepted, ratios_sound, parts_sound}
use Rattle.samr_problem.proofs.document.read_fields.Goals as goal

pub of-requires-clause-ratios : goal.of-requires-clause-ratios
of-requires-clause-ratios c = rw c.requires.document (ratios_sound (table_view c.args.doc.now) c.requires.passed)

pub of-requires-clause-parts : goal.of-requires-clause-parts
of-requires-clause-parts c = rw c.requires.document (parts_sound (table_view c.args.doc.now) c.requires.passed)

pub problem_of-requires-clause-sound : goal.problem_of-requires-clause-sound
problem_of-requires-clause-sound c =
    let Sound : Document → Type 0 = λ d. first (field_faults (fields_from d (table_view c.args.doc.now))) ≡ None → IsProblem (fields_from d (table_view c.args.doc.now)) in
    subst Sound (sym c.requires.document) (accepted (table_view c.args.doc.now) c.requires.passed) c.in_ok-check_lists.ensures
