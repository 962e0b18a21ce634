use Rattle.std.proofs.Common.{◌∙◌, ap, map}
use Rattle.toml.specs.View.{table_view}
use Rattle.samr_problem.specs.Findings.{least}
use Rattle.samr_problem.specs.Keys.{top_keys}
use Rattle.samr_problem.specs.Slots.{slot}
use Rattle.samr_problem.proofs.walk.find_top.Goals as goal

pub returns : goal.returns
unfolding top_keys
returns c =
    c.find_in_rows.ensures
    ∙ ap (λ own. least (map (slot (λ name. name) c.args.document.now own (table_view c.args.doc.now)) top_keys)) c.requires
