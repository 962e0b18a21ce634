use Rattle.std.proofs.Common.{◌∙◌}
use Rattle.samr_values.proofs.ValuesStart.{has_packed}
use Rattle.samr_values.proofs.values.made.Goals as goal

pub returns : goal.returns
returns g c = λ w r h. (
  has_packed c.args.rank c.args.news.now c.args.olds.now c.args.old_back.now c.args.coarser.now c.args.coarse_back.now c.args.step c.args.patches.now
      c.args.coarse_patches.now c.args.strategies.now w r h c.requires.fields
      c.as_slice.result.now c.as_slice-3.result.now c.as_slice-2.result.now c.in_ok-senders.senders.items c.in_ok-boxes.boxes.items c.in_ok-letters.letters.items c.in_ok-own.own.items
      (c.as_slice.ensures.value ∙ c.in_ok-sent.ensures) (c.as_slice-3.ensures.value ∙ c.in_ok-heard.ensures) (c.as_slice-2.ensures.value ∙ c.in_ok-addressees.ensures)
      c.in_ok-senders.ensures c.in_ok-boxes.ensures.items c.in_ok-letters.ensures c.in_ok-own.ensures,
  c.requires.few,
)
