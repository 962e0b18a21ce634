use Rattle.std.proofs.Common.{refl}
use Rattle.toml.specs.View.{table_view}
use Rattle.samr_problem.proofs.Assembled.{assembled, kept, sound_along, wide}
use Rattle.samr_problem.proofs.document.problem_of.Goals as goal

pub returns : goal.returns
returns c = assembled c.args.document.now (table_view c.args.doc.now) _ (record {
  format = c.small_at.ensures;
  dim = c.small_dim.ensures;
  domain = refl;
  periodic = c.flags_at.ensures;
  block = c.vector_at.ensures;
  levels = c.levels_of-levels.ensures;
  ratio = c.requires.lists.ratio;
  nest = c.vector_at-nest.ensures;
  tag_buffer = c.vector_at-tag_buffer.ensures;
  efficiency = c.word_at.ensures;
  smallest = kept (record { sfits = c.number_at.type_inv }) c.number_at.ensures;
  largest = kept (record { sfits = c.number_at-2.type_inv }) c.number_at-2.ensures;
  tile = kept (record { sfits = c.number_at-3.type_inv }) c.number_at-3.ensures;
  regrid = c.word_at-2.ensures;
  steps = c.word_at-3.ensures;
  fields = c.requires.lists.fields;
  probes = c.requires.lists.probes;
  parts = c.requires.lists.parts;
  shapes = c.requires.lists.shapes;
  width = wide _ _ _ _ _ _ c.width_of-width.ensures c.as_slice.ensures;
})

pub invariant_of-result : goal.invariant_of-result
invariant_of-result c = sound_along _ _ (returns c) c.requires.sound
