-- The tables of each list, as the program holds them.
use Rattle.std.specs.Prelude.{◌≡◌, map, codes}
use Rattle.toml.specs.Data.{Members, get_member}
use Rattle.toml.specs.View.{table_view}
use Rattle.samr_problem.specs.declared.tables.Tables.{Tables}
use Rattle.samr_problem.specs.Values.{tables_of}

pub record AreTables (tables : Tables) (doc : Members) : Type 0 where
  pub fields : map (λ t. table_view t.now) tables.fields.items ≡ tables_of (get_member (codes "field") doc)
  pub parts : map (λ t. table_view t.now) tables.parts.items ≡ tables_of (get_member (codes "part") doc)
  pub boxes : map (λ t. table_view t.now) tables.boxes.items ≡ tables_of (get_member (codes "box") doc)
  pub balls : map (λ t. table_view t.now) tables.balls.items ≡ tables_of (get_member (codes "ball") doc)
