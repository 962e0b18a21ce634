use Rattle.std.proofs.Common.{◌≡◌, ap, ◌∙◌, rules}
use Rattle.std.proofs.lemmas.Fn.{always_returns_same}
use Rattle.std.specs.declared.cmp.Ordering.{Ordering}
use Rattle.samr_box.specs.Orders.{corner_cmp}
use Rattle.samr_data.specs.Grids.{Grid}
use Rattle.samr_values.proofs.Written.{item_member}
use Rattle.samr_values.proofs.Search.{searchable, found, not_missed}
use Rattle.samr_values.proofs.packing.patch_of.Goals as goal

pub unreachable-requires : goal.unreachable-requires
unreachable-requires c =
    let order : Grid → Ordering = λ p. corner_cmp p.bx c.args.b in
    let point = c.in-Err.ensures.position order (always_returns_same _ (λ a r. r ≡ order a.0.now) _ (λ a r f' k. (search rules, search rules))) in
    not_missed c.args.patches.now c.args.b c.in-Err.field-0 c.requires.there (point (searchable c.args.patches.now c.args.b c.requires.order))

pub returns-clause-bx : goal.returns-clause-bx
returns-clause-bx c =
    let order : Grid → Ordering = λ p. corner_cmp p.bx c.args.b in
    let at = c.in-Ok.ensures.position order (always_returns_same _ (λ a r. r ≡ order a.0.now) _ (λ a r f' k. (search rules, search rules))) in
    ap (λ (p : Grid). p.bx) c.index-patches-place.is ∙ found c.args.patches.now c.args.b c.in-Ok.place c.index-patches-place.result at

pub returns-clause-member : goal.returns-clause-member
returns-clause-member c = item_member c.args.patches.now c.in-Ok.place c.index-patches-place.result c.index-patches-place.result c.in-Ok.ensures.bound c.index-patches-place.is
