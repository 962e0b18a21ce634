use Rattle.std.proofs.Common.{◌≡◌, ℕ, ◌++◌, subst, arith}
use Rattle.std.specs.List.{flat_map, range_with_len}
use Rattle.samr_box.specs.declared.vector.Axis.TheVariants.{K}
use Rattle.samr_level.specs.Cuts.{Cut, IsSpan, plane_in, along, members_in}
use Rattle.samr_level.proofs.BlockRows.{range_start, range_end, range_more, plane_below, plane_above}
use Rattle.samr_level.proofs.cut.Cut.push_members.Goals as goal

pub loop-z-init : goal.loop-z-init
loop-z-init c =
    let first = c.span-first.result.0 in
    let end = c.span-first.result.1 in
    let s : IsSpan K c.args.self.block c.args.self.bx c.args.window first end = subst (λ (u : Cut). IsSpan K u.block u.bx c.args.window first end) c.self.view_is c.span-first.ensures in
    range_start (λ z. plane_in c.args.window c.args.self z) first c.args.out.now.items (λ n h. plane_below c.args.window c.args.self first end n s h)

pub loop-z-preserved : goal.loop-z-preserved
loop-z-preserved c = range_more (λ z. plane_in c.args.window c.args.self z) c.loop-z.z _ _ _ c.in_ok-push_plane.ensures c.loop-z.invariant

pub returns : goal.returns
unfolding members_in
returns c =
    let first = c.span-first.result.0 in
    let end = c.span-first.result.1 in
    let s : IsSpan K c.args.self.block c.args.self.bx c.args.window first end = subst (λ (u : Cut). IsSpan K u.block u.bx c.args.window first end) c.self.view_is c.span-first.ensures in
    let up = s.order in
    let last : c.loop-z.z ≡ end = omega (arith, up) in
    range_end (λ z. plane_in c.args.window c.args.self z) end (along K c.args.self) _ _ s.within (λ n h g. plane_above c.args.window c.args.self first end n s h g)
    (let Upto : ℕ → Type 0 = λ n. c.loop-z.out.items ≡ c.args.out.now.items ++ flat_map (λ z. plane_in c.args.window c.args.self z) (range_with_len 0 n) in subst Upto last c.loop-z.invariant)
