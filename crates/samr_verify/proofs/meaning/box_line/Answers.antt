use Rattle.std.proofs.Common.{refl}
use Rattle.std.specs.Prelude.{codes}
use Rattle.samr_verify.specs.Reading.{behind_word, count, boxed}
use Rattle.samr_verify.proofs.ReadLaws.{both_read, first_lacks, lacks, lacks_none, second_lacks}
use Rattle.samr_verify.proofs.PartLaws.{boxed_parts}
use Rattle.samr_verify.proofs.LineLaws.{tells_lacks, tells_ended}
use Rattle.samr_verify.proofs.meaning.box_line.Goals as goal

pub returns-in_err-level : goal.returns-in_err-level
returns-in_err-level c =
    tells_lacks _ c.from_residual.ensures
    (first_lacks (behind_word (codes "box") count) boxed c.args.text.now boxed_parts (lacks _ _ c.count_behind.ensures c.in_err-level.was))

pub returns-in_default : goal.returns-in_default
returns-in_default c =
    tells_lacks _ refl
    (second_lacks (behind_word (codes "box") count) boxed c.args.text.now boxed_parts c.in_ok-level.level.0 c.in_ok-level.level.1.now c.in_ok-level.ensures
    (lacks_none c.in_default.ensures))

pub returns : goal.returns
returns c =
    tells_ended (c.in_ok-level.level.0, c.in-Some.at.0) c.in-Some.at.1.now c.ended.result
    (both_read (behind_word (codes "box") count) boxed c.args.text.now boxed_parts c.in_ok-level.level.0 c.in_ok-level.level.1.now c.in_ok-level.ensures c.in-Some.at.0 c.in-Some.at.1.now
    c.in-Some.ensures)
    c.ended.ensures.some c.ended.ensures.each
