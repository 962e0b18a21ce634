use Rattle.std.proofs.Common.{refl, ap}
use Rattle.samr_level.specs.Refs.{Link}
use Rattle.samr_verify.specs.declared.line.Line.TheVariants.{EdgeOf}
use Rattle.std.specs.Prelude.{codes}
use Rattle.samr_verify.specs.Reading.{and_then, behind_word, level, joined}
use Rattle.samr_verify.proofs.ReadLaws.{both_read, first_lacks, lacks, lacks_none, second_lacks}
use Rattle.samr_verify.proofs.PartLaws.{edge_tail, joined_parts}
use Rattle.samr_verify.proofs.LineLaws.{tells_lacks, tells_made}
use Rattle.samr_verify.proofs.meaning.edge_line.Goals as goal

pub returns-in_err-level : goal.returns-in_err-level
returns-in_err-level c =
    tells_lacks _ c.from_residual.ensures
    (first_lacks (behind_word (codes "edge") (level c.args.most)) (and_then (level c.args.most) joined) c.args.text.now (edge_tail c.args.most) (lacks _ _ c.level_behind.ensures c.in_err-level.was))

pub returns-in_err-to_level : goal.returns-in_err-to_level
returns-in_err-to_level c =
    tells_lacks _ c.from_residual-in_err-to_level.ensures
    (second_lacks (behind_word (codes "edge") (level c.args.most)) (and_then (level c.args.most) joined) c.args.text.now (edge_tail c.args.most) c.in_ok-level.level.0 c.in_ok-level.level.1.now c.in_ok-level.ensures
    (first_lacks (level c.args.most) joined c.in_ok-level.level.1.now joined_parts (lacks _ _ c.level_first.ensures c.in_err-to_level.was)))

pub returns-in_default : goal.returns-in_default
returns-in_default c =
    tells_lacks _ refl
    (second_lacks (behind_word (codes "edge") (level c.args.most)) (and_then (level c.args.most) joined) c.args.text.now (edge_tail c.args.most) c.in_ok-level.level.0 c.in_ok-level.level.1.now c.in_ok-level.ensures
    (second_lacks (level c.args.most) joined c.in_ok-level.level.1.now joined_parts c.in_ok-to_level.to_level.0 c.in_ok-to_level.to_level.1.now c.in_ok-to_level.ensures
    (lacks_none c.in_default.ensures)))

pub returns : goal.returns
returns c =
    tells_made (c.in_ok-level.level.0, (c.in_ok-to_level.to_level.0, (c.in-Some.ends.0, (c.in-Some.ends.1, c.in-Some.ends.2)))) c.in-Some.ends.3.now c.ended.result _ (ap (λ (e : Link). EdgeOf c.in_ok-level.level.0 c.in_ok-to_level.to_level.0 e) c.edge_of.ensures)
    (both_read (behind_word (codes "edge") (level c.args.most)) (and_then (level c.args.most) joined) c.args.text.now (edge_tail c.args.most) c.in_ok-level.level.0 c.in_ok-level.level.1.now c.in_ok-level.ensures (c.in_ok-to_level.to_level.0, (c.in-Some.ends.0, (c.in-Some.ends.1, c.in-Some.ends.2))) c.in-Some.ends.3.now
    (both_read (level c.args.most) joined c.in_ok-level.level.1.now joined_parts c.in_ok-to_level.to_level.0 c.in_ok-to_level.to_level.1.now c.in_ok-to_level.ensures (c.in-Some.ends.0, (c.in-Some.ends.1, c.in-Some.ends.2)) c.in-Some.ends.3.now
    c.in-Some.ensures))
    c.ended.ensures.some c.ended.ensures.each
