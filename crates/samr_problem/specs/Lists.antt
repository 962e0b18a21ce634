-- The lists of a problem, as the program gathers them.
use Rattle.std.specs.Prelude.{◌≡◌}
use Rattle.toml.specs.Data.{Members}
use Rattle.samr_problem.specs.declared.context.Document.{Document}
use Rattle.samr_problem.specs.declared.lists.Lists.{Lists}
use Rattle.samr_problem.specs.Fields.{fields_in, probes_in, parts_in, shapes_in}

pub record HasLists (lists : Lists) (document : Document) (doc : Members) : Type 0 where
  pub ratio : lists.ratio ≡ document.ratios
  pub fields : lists.fields ≡ fields_in document.dim doc
  pub probes : lists.probes ≡ probes_in document.dim doc
  pub parts : lists.parts ≡ parts_in document.dim doc
  pub shapes : lists.shapes ≡ shapes_in document.dim doc
