use Rattle.std.proofs.Common.{ap, ◌∙◌, cond, rules}
use Rattle.samr_box.specs.Corners.{IsBox}
use Rattle.samr_boxlist.specs.Covers.{cover, held}
use Rattle.samr_boxlist.proofs.Cutting.{covers-means, All_single}
use Rattle.samr_boxlist.proofs.cover.covers.Goals as goal

pub returns : goal.returns
returns c =
    let whole : IsBox c.args.b = search rules in
    rw (c.is_empty.ensures, c.as_slice-2.ensures.value)
    (covers-means c.args.b c.args.list.now c.in_ok-left.left.items whole.order
    (c.in_ok-left.ensures.boxes (rw (c.in_ok-from_slice.ensures.items, c.as_slice.ensures) (All_single c.args.b whole)))
    (λ x. c.in_ok-left.ensures.cells x
    ∙ ap (λ l. cond (held x c.args.list.now) 0 (cover x l)) (c.in_ok-from_slice.ensures.items ∙ c.as_slice.ensures)))
