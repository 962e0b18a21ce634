use Rattle.std.proofs.Common.{◌≡◌, rules}
use Rattle.std.proofs.lemmas.Fn.{always_returns_same}
use Rattle.std.specs.declared.cmp.Ordering.{Ordering}
use Rattle.samr_box.specs.Orders.{corner_cmp}
use Rattle.samr_data.specs.Grids.{Grid}
use Rattle.samr_fill.proofs.BoxSearch.{searchable, found_there, found_nowhere}
use Rattle.samr_linear.proofs.sending.patch_of.Goals as goal

pub returns-in-Ok : goal.returns-in-Ok
returns-in-Ok c = λ sorted.
    let order : Grid → Ordering = λ p. corner_cmp p.bx c.args.b in
    let at = c.in-Ok.ensures.position order (always_returns_same _ (λ a r. r ≡ order a.0.now) _ (λ a r f' k. (search rules, search rules))) in
    found_there c.args.patches.now c.args.b c.in-Ok.place c.index-patches-place.result sorted c.in-Ok.ensures.bound at c.index-patches-place.is

pub returns-in-Err : goal.returns-in-Err
returns-in-Err c = λ sorted.
    let order : Grid → Ordering = λ p. corner_cmp p.bx c.args.b in
    let point = c.in-Err.ensures.position order (always_returns_same _ (λ a r. r ≡ order a.0.now) _ (λ a r f' k. (search rules, search rules))) in
    found_nowhere c.args.patches.now c.args.b c.in-Err.field-0 (point (searchable c.args.patches.now c.args.b sorted))
