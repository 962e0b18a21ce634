use Rattle.samr_verify.proofs.MeaningLaws.{means_box, means_edge, means_level, means_step, means_first, means_copy, means_coarse, means_outside, means_sum, means_probe, means_silent, means}
use Rattle.samr_verify.proofs.meaning.meaning.Goals as goal

pub returns-in-Some : goal.returns-in-Some
returns-in-Some c = means_box c.args.most c.args.text.now c.in-Some.line c.in-Some.ensures

pub returns-in-Some-edge_line : goal.returns-in-Some-edge_line
returns-in-Some-edge_line c = means_edge c.args.most c.args.text.now c.in-Some-edge_line.line c.in-Some-edge_line.ensures

pub returns-in-Some-level_line : goal.returns-in-Some-level_line
returns-in-Some-level_line c = means_level c.args.most c.args.text.now c.in-Some-level_line.line c.in-Some-level_line.ensures

pub returns-in-Some-step_line : goal.returns-in-Some-step_line
returns-in-Some-step_line c = means_step c.args.most c.args.text.now c.in-Some-step_line.line c.in-Some-step_line.ensures

pub returns-in-Some-first_line : goal.returns-in-Some-first_line
returns-in-Some-first_line c = means_first c.args.most c.args.text.now c.in-Some-first_line.line c.in-Some-first_line.ensures

pub returns-in-Some-copy_line : goal.returns-in-Some-copy_line
returns-in-Some-copy_line c = means_copy c.args.most c.args.text.now c.in-Some-copy_line.line c.in-Some-copy_line.ensures

pub returns-in-Some-coarse_line : goal.returns-in-Some-coarse_line
returns-in-Some-coarse_line c = means_coarse c.args.most c.args.text.now c.in-Some-coarse_line.line c.in-Some-coarse_line.ensures

pub returns-in-Some-outside_line : goal.returns-in-Some-outside_line
returns-in-Some-outside_line c = means_outside c.args.most c.args.text.now c.in-Some-outside_line.line c.in-Some-outside_line.ensures

pub returns-in-Some-sum_line : goal.returns-in-Some-sum_line
returns-in-Some-sum_line c = means_sum c.args.most c.args.text.now c.in-Some-sum_line.line c.in-Some-sum_line.ensures

pub returns-in-Some-probe_line : goal.returns-in-Some-probe_line
returns-in-Some-probe_line c = means_probe c.args.most c.args.text.now c.in-Some-probe_line.line c.in-Some-probe_line.ensures

pub returns-in-Some-silent_line : goal.returns-in-Some-silent_line
returns-in-Some-silent_line c = means_silent c.args.most c.args.text.now c.in-Some-silent_line.line c.in-Some-silent_line.ensures

pub returns : goal.returns
returns c =
    means c.args.most c.args.text.now
    (record {
      box_none = c.in_default.ensures;
      edge_none = c.in_default-edge_line.ensures;
      level_none = c.in_default-level_line.ensures;
      step_none = c.in_default-step_line.ensures;
      first_none = c.in_default-first_line.ensures;
      copy_none = c.in_default-copy_line.ensures;
      coarse_none = c.in_default-coarse_line.ensures;
      outside_none = c.in_default-outside_line.ensures;
      sum_none = c.in_default-sum_line.ensures;
      probe_none = c.in_default-probe_line.ensures;
      silent_none = c.in_default-silent_line.ensures;
    }) c.end_line.result c.end_line.ensures
