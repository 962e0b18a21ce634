use Rattle.std.proofs.Common.{subst, sym, arith, ◌<◌, ◌^◌}
use Rattle.std.specs.List.{All}
use Rattle.samr_box.specs.Vector.{InRange}
use Rattle.samr_box.specs.Corners.{cells_of}
use Rattle.samr_cluster.specs.declared.nodes.Told.{Told}
use Rattle.samr_cluster.proofs.ToldLaws.{told_few}
use Rattle.samr_msg.specs.PassStops.{clusters_at}
use Rattle.samr_wholes.proofs.PassStages.{is_clustering}
use Rattle.samr_mesh.specs.Domains.{area_at}
use Rattle.samr_clustering.proofs.Apart.{fields_apart}
use Rattle.samr_clustering.proofs.Begun.{wide, space}
use Rattle.samr_clustering.proofs.reporting.report.Goals as goal

pub start-requires-clause-width : goal.start-requires-clause-width
start-requires-clause-width c = λ d.
    let w = d.requires.0.at in
    let h = d.requires.2 in
    subst InRange (sym (d.width.ensures w d.requires.1 h)) (wide w.at.setting.problem w.pass h.1.can)

pub start-requires-clause-frame : goal.start-requires-clause-frame
start-requires-clause-frame c = λ d.
    let w = d.requires.0.at in
    let h = d.requires.2 in
    rw (d.frame.ensures w d.requires.1 h, d.ratio_of.ensures w d.requires.1 h) (space w.at.setting.problem w.pass h.1.can)

pub start-requires-clause-apart : goal.start-requires-clause-apart
start-requires-clause-apart c = λ d.
    let w = d.requires.0.at in
    fields_apart (area_at w.at.setting.problem w.pass.number) w.pass.ranks w.pass.level d.requires.1 _ d.requires.2.1.can.is_level d.requires.3.same_boxes

pub start-requires-clause-few : goal.start-requires-clause-few
start-requires-clause-few c = λ d.
    let w = d.requires.0 in
    let h = d.requires.2 in
    let within : d.requires.1 < w.at.pass.ranks = omega (arith, h.0.within, h.1.same_ranks) in
    subst (λ l. All (λ (t : Told). cells_of t.node < 2 ^ 63) l) (sym d.requires.4.same_told) (told_few (clusters_at w) (is_clustering w.at.at.setting.problem w.at.pass h.1.can) d.requires.1 within)

pub returns : goal.returns
returns c = λ d w r h tags has. d.in_ok-stage.ensures (clusters_at w) r (record {
  is = is_clustering w.at.at.setting.problem w.at.pass h.1.can;
  same_rank = d.rank.ensures w.at r h;
  within = omega (arith, h.0.within, h.1.same_ranks);
  same_frame = d.frame.ensures w.at r h;
  same_tags = tags;
  same_told = has.same_told;
  same_directed = has.same_directed;
  same_width = d.width.ensures w.at r h;
  same_ratio = d.ratio_of.ensures w.at r h;
})
