use Rattle.std.specs.Prelude.{codes}
use Rattle.samr_verify.specs.Reading.{and_then, behind_word, count, wide}
use Rattle.samr_verify.proofs.ReadLaws.{both_read, first_lacks, lacks, second_lacks}
use Rattle.samr_verify.proofs.PartLaws.{first_tail, width_tail}
use Rattle.samr_verify.proofs.LineLaws.{tells_lacks, tells_ended}
use Rattle.samr_verify.proofs.meaning.first_line.Goals as goal

pub returns-in_err-ranks : goal.returns-in_err-ranks
returns-in_err-ranks c =
    tells_lacks _ c.from_residual.ensures
    (first_lacks (behind_word (codes "samr ranks") count) (and_then (behind_word (codes " levels") count) (behind_word (codes " width") wide)) c.args.text.now first_tail (lacks _ _ c.count_behind.ensures c.in_err-ranks.was))

pub returns-in_err-levels : goal.returns-in_err-levels
returns-in_err-levels c =
    tells_lacks _ c.from_residual-in_err-levels.ensures
    (second_lacks (behind_word (codes "samr ranks") count) (and_then (behind_word (codes " levels") count) (behind_word (codes " width") wide)) c.args.text.now first_tail c.in_ok-ranks.ranks.0 c.in_ok-ranks.ranks.1.now c.in_ok-ranks.ensures
    (first_lacks (behind_word (codes " levels") count) (behind_word (codes " width") wide) c.in_ok-ranks.ranks.1.now width_tail (lacks _ _ c.count_behind-2.ensures c.in_err-levels.was)))

pub returns-in_err-width : goal.returns-in_err-width
returns-in_err-width c =
    tells_lacks _ c.from_residual-in_err-width.ensures
    (second_lacks (behind_word (codes "samr ranks") count) (and_then (behind_word (codes " levels") count) (behind_word (codes " width") wide)) c.args.text.now first_tail c.in_ok-ranks.ranks.0 c.in_ok-ranks.ranks.1.now c.in_ok-ranks.ensures
    (second_lacks (behind_word (codes " levels") count) (behind_word (codes " width") wide) c.in_ok-ranks.ranks.1.now width_tail c.in_ok-levels.levels.0 c.in_ok-levels.levels.1.now c.in_ok-levels.ensures
    (lacks _ _ c.width_behind.ensures c.in_err-width.was)))

pub returns : goal.returns
returns c =
    tells_ended (c.in_ok-ranks.ranks.0, (c.in_ok-levels.levels.0, c.in_ok-width.width.0)) c.in_ok-width.width.1.now c.ended.result
    (both_read (behind_word (codes "samr ranks") count) (and_then (behind_word (codes " levels") count) (behind_word (codes " width") wide)) c.args.text.now first_tail c.in_ok-ranks.ranks.0 c.in_ok-ranks.ranks.1.now c.in_ok-ranks.ensures (c.in_ok-levels.levels.0, c.in_ok-width.width.0) c.in_ok-width.width.1.now
    (both_read (behind_word (codes " levels") count) (behind_word (codes " width") wide) c.in_ok-ranks.ranks.1.now width_tail c.in_ok-levels.levels.0 c.in_ok-levels.levels.1.now c.in_ok-levels.ensures c.in_ok-width.width.0 c.in_ok-width.width.1.now
    c.in_ok-width.ensures))
    c.ended.ensures.some c.ended.ensures.each
