use Rattle.std.proofs.Common.{◌<◌, ◌≤◌, sym, ap, ◌∙◌, arith}
use Rattle.std.proofs.lemmas.List.Elements.{All-push}
use Rattle.std.specs.Prelude.{pos, ◌+ℤ◌, ◌++◌}
use Rattle.samr_box.specs.Corners.{IsBox, span}
use Rattle.samr_box.specs.Vector.{at}
use Rattle.samr_box.proofs.Vectors.{AtMost-at}
use Rattle.samr_boxlist.proofs.Chopping.{span_less, pieces-go_on, pieces-last, IsBox-piece, cover-go_on, split-cover}
use Rattle.samr_boxlist.proofs.chop.push_pieces.Goals as goal
use Rattle.samr_boxlist.proofs.chop.push_pieces.Goals.{In_ok-push, In_ok-push-2}

more : (c : In_ok-push) → c.args.most < span c.args.axis c.loop-axis.rest
more c = omega (arith, c.length.ensures.value, c.loop-axis-test.true)

few : (c : In_ok-push-2) → span c.args.axis c.loop-axis.rest ≤ c.args.most
few c = omega (arith, c.length.ensures.value, c.loop-axis-test.false)

pub loop-axis-smaller : goal.loop-axis-smaller
loop-axis-smaller c =
    span_less c.args.axis c.loop-axis.rest c.split_after-first.result.0 c.split_after-first.result.1 c.args.most c.requires
    c.length.ensures.whole (more c) c.split_after-first.ensures.before c.split_after-first.ensures.from

pub loop-axis-preserved : goal.loop-axis-preserved
loop-axis-preserved c = record {
  items =
      pieces-go_on c.args.axis c.loop-axis.rest c.split_after-first.result.0 c.split_after-first.result.1 c.args.most c.requires
      c.length.ensures.whole (more c) c.split_after-first.ensures.before c.split_after-first.ensures.from
      c.loop-axis.parts.items c.push.new.self.items _ c.in_ok-push.ensures.items c.loop-axis.invariant.items;
  cells = λ x.
      cover-go_on x c.loop-axis.rest c.split_after-first.result.0 c.split_after-first.result.1 c.loop-axis.parts.items c.push.new.self.items _
      (split-cover x c.args.axis c.loop-axis.rest c.split_after-first.result.0 c.split_after-first.result.1
      (at c.args.axis c.loop-axis.rest.lo +ℤ pos c.args.most)
      (c.split_after-first.ensures.cells_before x) (c.split_after-first.ensures.cells_from x))
      c.in_ok-push.ensures.items (c.loop-axis.invariant.cells x);
  boxes = λ old.
      rw c.in_ok-push.ensures.items
      (All-push IsBox c.loop-axis.parts.items c.split_after-first.result.0 (c.loop-axis.invariant.boxes old)
      (IsBox-piece c.args.axis c.loop-axis.rest c.split_after-first.result.0 c.split_after-first.result.1 c.args.most c.requires
      c.length.ensures.whole (more c) c.split_after-first.ensures.before c.split_after-first.ensures.from));
}

pub returns-clause-value : goal.returns-clause-value
returns-clause-value c =
    c.in_ok-push-2.ensures.items
    ∙ ap (λ l. c.loop-axis.parts.items ++ l)
    (sym (pieces-last c.args.axis c.loop-axis.rest c.args.most (AtMost-at c.args.axis c.length.ensures.whole.order) (few c)))
    ∙ c.loop-axis.invariant.items

pub returns-clause-boxes : goal.returns-clause-boxes
returns-clause-boxes c =
    λ old. rw c.in_ok-push-2.ensures.items
    (All-push IsBox c.loop-axis.parts.items c.loop-axis.rest (c.loop-axis.invariant.boxes old) c.length.ensures.whole)
