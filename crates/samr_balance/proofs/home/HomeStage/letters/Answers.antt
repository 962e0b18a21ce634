use Rattle.std.proofs.Common.{arith, ap, ◌∙◌, ◌≡◌, ◌++◌, []}
use Rattle.std.specs.Prelude.{ℕ, List}
use Rattle.std.specs.List.{cons_option}
use Rattle.std.specs.Option.{option_map}
use Rattle.samr_stage.specs.Row.{told}
use Rattle.samr_load.specs.Pieces.{Placed}
use Rattle.samr_balance.specs.HomeRow.{Cutting, told_of, weight, line_of}
use Rattle.samr_balance.proofs.HomeRowLaws.{line_small, line_more, line_none, letters_are}
use Rattle.samr_balance.proofs.home.HomeStage.letters.Goals as goal

pub each-init : goal.each-init
each-init c =
    let s = c.args.self.now in
    line_none (line_of s.pieces.items s.rank) c.new-letters.result.items c.new-letters.ensures.items

pub push_line-requires : goal.push_line-requires
push_line-requires c =
    let s = c.args.self.now in
    let same = ap (λ (l : List Placed). weight (told_of c.each.to l)) c.as_slice.ensures.value in
    omega (arith, same, line_small s.rank s.ranks s.pieces.items s.olds.items c.requires.0 c.requires.1 c.requires.2 c.each.to)

pub each-preserved : goal.each-preserved
each-preserved c =
    let s = c.args.self.now in
    line_more (line_of s.pieces.items s.rank) c.each.to c.each.letters.items _ c.each.invariant
    (c.in_ok-push_line.ensures
    ∙ ap (λ (l : List Placed). c.each.letters.items ++ cons_option (option_map (λ body. let p : ℕ × List Cutting = (c.each.to, body) in p) (line_of l s.rank c.each.to)) []) c.as_slice.ensures.value)

pub returns-clause-letters : goal.returns-clause-letters
returns-clause-letters c = λ w rank is.
    let s = c.args.self.now in
    let last : c.each.to ≡ s.ranks = omega arith in
    letters_are s.rank s.ranks s.pieces.items s.olds.items w rank is c.each.letters.items
    (c.each.invariant ∙ ap (λ (n : ℕ). told (line_of s.pieces.items s.rank) n) last)
