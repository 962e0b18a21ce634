use Rattle.std.proofs.Common.{subst, sym, ap, ◌∙◌, arith}
use Rattle.samr_box.specs.Vector.{InRange}
use Rattle.samr_level.specs.Levels.{own_boxes}
use Rattle.samr_level.specs.Refs.{Owned}
use Rattle.std.specs.Prelude.{List}
use Rattle.samr_regrid.specs.declared.level.Level.{Level}
use Rattle.samr_wholes.proofs.PassStages.{is_clustering}
use Rattle.samr_clustering.specs.Rounds.{whole_of}
use Rattle.samr_clustering.proofs.Begun.{wide, space}
use Rattle.samr_clustering.proofs.edging.edges.Goals as goal

pub start-requires-clause-width : goal.start-requires-clause-width
start-requires-clause-width c = λ d.
    let w = d.requires.0 in
    let h = d.requires.2 in
    subst InRange (sym (d.width.ensures w d.requires.1 h)) (wide w.at.setting.problem w.pass h.1.can)

pub start-requires-clause-frame : goal.start-requires-clause-frame
start-requires-clause-frame c = λ d.
    let w = d.requires.0 in
    let h = d.requires.2 in
    rw (d.frame.ensures w d.requires.1 h, d.ratio_of.ensures w d.requires.1 h) (space w.at.setting.problem w.pass h.1.can)

pub returns : goal.returns
returns c = λ d w r h all. d.in_ok-stage.ensures (whole_of w) r (record {
  is = is_clustering w.at.setting.problem w.pass h.1.can;
  same_rank = d.rank.ensures w r h;
  within = omega (arith, h.0.within, h.1.same_ranks);
  same_frame = d.frame.ensures w r h;
  same_boxes = d.as_slice.ensures ∙ ap (λ (l : Level). l.boxes) (d.old.ensures w r h) ∙ ap (λ (l : List Owned). own_boxes r l) h.1.same_level;
  same_accepted = all;
  same_width = d.width.ensures w r h;
  same_ratio = d.ratio_of.ensures w r h;
})
