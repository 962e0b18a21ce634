use Rattle.std.proofs.Common.{◌≡◌, ℕ, ◌++◌, subst, arith}
use Rattle.std.specs.List.{flat_map, range_with_len}
use Rattle.samr_box.specs.declared.vector.Axis.TheVariants.{J}
use Rattle.samr_level.specs.Cuts.{Cut, IsSpan, row_in, along, plane_in}
use Rattle.samr_level.proofs.BlockRows.{range_start, range_end, range_more, row_below, row_above}
use Rattle.samr_level.proofs.cut.Cut.push_plane.Goals as goal

pub loop-y-init : goal.loop-y-init
loop-y-init c =
    let first = c.span-first.result.0 in
    let end = c.span-first.result.1 in
    let s : IsSpan J c.args.self.block c.args.self.bx c.args.window first end = subst (λ (u : Cut). IsSpan J u.block u.bx c.args.window first end) c.self.view_is c.span-first.ensures in
    range_start (λ y. row_in c.args.window c.args.self y c.args.z) first c.args.out.now.items (λ n h. row_below c.args.window c.args.self first end c.args.z n s h)

pub loop-y-preserved : goal.loop-y-preserved
loop-y-preserved c = range_more (λ y. row_in c.args.window c.args.self y c.args.z) c.loop-y.y _ _ _ c.in_ok-push_row.ensures c.loop-y.invariant

pub returns : goal.returns
unfolding plane_in
returns c =
    let first = c.span-first.result.0 in
    let end = c.span-first.result.1 in
    let s : IsSpan J c.args.self.block c.args.self.bx c.args.window first end = subst (λ (u : Cut). IsSpan J u.block u.bx c.args.window first end) c.self.view_is c.span-first.ensures in
    let up = s.order in
    let last : c.loop-y.y ≡ end = omega (arith, up) in
    range_end (λ y. row_in c.args.window c.args.self y c.args.z) end (along J c.args.self) _ _ s.within (λ n h g. row_above c.args.window c.args.self first end c.args.z n s h g)
    (let Upto : ℕ → Type 0 = λ n. c.loop-y.out.items ≡ c.args.out.now.items ++ flat_map (λ y. row_in c.args.window c.args.self y c.args.z) (range_with_len 0 n) in subst Upto last c.loop-y.invariant)
