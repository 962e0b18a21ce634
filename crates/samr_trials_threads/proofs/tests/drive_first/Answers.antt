use Rattle.std.proofs.Common.{◌≡◌, ◌<◌, length, sym, ap, ◌∙◌, arith}
use Rattle.samr_link.proofs.Returning.{end_at}
use Rattle.samr_stage.proofs.RunLemmas.{ranks-composed}
use Rattle.samr_tree.specs.TreeSum.{tree_course, tree_fragments}
use Rattle.samr_trials_threads.proofs.tests.drive_first.Goals as goal

pub drive-answer-requires : goal.drive-answer-requires
unfolding tree_course
drive-answer-requires g c =
    let ends = c.in_ok-ends.ends.items in
    let made = c.in_ok-ends.ensures.ends in
    let value = c.swap_remove-end.ensures.value in
    let inside : 0 < length ends = omega (arith, c.in_ok-ends.ensures.count, c.len-ranks.ensures, c.requires.ranks, c.requires.summable.few) in
    let end = end_at (λ e. e.rank) (λ e. length e.making) (λ e. e.making) _ 0 ends 0 c.swap_remove-end.result made.each inside in
    let begins = c.in_ok-machine.ensures.begins in
    let few : c.len-ranks.result ≡ length c.args.values.items = omega (arith, c.args.values.ok.0, c.len-ranks.ensures) in
    let run = begins.same_run ∙ (c.in_ok-new.ensures.run ∙ ap (λ v. v.items) c.in_ok-run.ensures.ok) in
    record {
      fits = record {
        rank = ap (λ e. e.rank) value ∙ (end.is_rank ∙ sym (begins.same_rank ∙ c.in_ok-new.ensures.rank));
        ends = ap (λ e. length e.making) value
            ∙ (end.is_ends
            ∙ (sym made.count ∙ (c.in_ok-ends.ensures.count ∙ (few ∙ sym (ap (λ v. (tree_course v).ranks) run ∙ ranks-composed (length c.args.values.items) (tree_fragments c.args.values.items))))));
      };
    }
