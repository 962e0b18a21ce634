use Rattle.std.proofs.Common.{◌≡◌, ℕ, ◌++◌, ap, subst, ◌∙◌, arith}
use Rattle.std.specs.List.{flat_map, range_with_len}
use Rattle.std.specs.Prelude.{[], ◌∷◌, filter}
use Rattle.samr_box.specs.Corners.{meets}
use Rattle.samr_box.specs.declared.vector.Axis.TheVariants.{I}
use Rattle.samr_level.specs.Cuts.{Cut, IsSpan, along, row_in}
use Rattle.samr_level.proofs.BlockRows.{range_start, range_end, range_more, member_in, member_below, member_above}
use Rattle.samr_level.proofs.cut.Cut.push_row.Goals as goal

pub loop-x-init : goal.loop-x-init
loop-x-init c =
    let first = c.span-first.result.0 in
    let end = c.span-first.result.1 in
    let s : IsSpan I c.args.self.block c.args.self.bx c.args.window first end = subst (λ (u : Cut). IsSpan I u.block u.bx c.args.window first end) c.self.view_is c.span-first.ensures in
    range_start (member_in c.args.window c.args.self c.args.y c.args.z) first c.args.out.now.items (λ n h. member_below c.args.window c.args.self first end c.args.y c.args.z n s h)

pub loop-x-preserved : goal.loop-x-preserved
loop-x-preserved c = range_more (member_in c.args.window c.args.self c.args.y c.args.z) c.loop-x.x _ _ _ (c.in_ok-push_met.ensures ∙ ap (λ b. c.loop-x.out.items ++ filter (λ m. meets c.args.window m.bx) (b ∷ [])) c.member.ensures) c.loop-x.invariant

pub returns : goal.returns
unfolding row_in
returns c =
    let first = c.span-first.result.0 in
    let end = c.span-first.result.1 in
    let s : IsSpan I c.args.self.block c.args.self.bx c.args.window first end = subst (λ (u : Cut). IsSpan I u.block u.bx c.args.window first end) c.self.view_is c.span-first.ensures in
    let up = s.order in
    let last : c.loop-x.x ≡ end = omega (arith, up) in
    range_end (member_in c.args.window c.args.self c.args.y c.args.z) end (along I c.args.self) _ _ s.within (λ n h g. member_above c.args.window c.args.self first end c.args.y c.args.z n s h g)
    (let Upto : ℕ → Type 0 = λ n. c.loop-x.out.items ≡ c.args.out.now.items ++ flat_map (member_in c.args.window c.args.self c.args.y c.args.z) (range_with_len 0 n) in subst Upto last c.loop-x.invariant)
