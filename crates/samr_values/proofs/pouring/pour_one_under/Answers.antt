use Rattle.std.proofs.Common.{◌≡◌, ◌∙◌, sym, ap, subst}
use Rattle.std.proofs.lemmas.Bool.{false≢true}
use Rattle.std.specs.Prelude.{true}
use Rattle.samr_box.specs.Corners.{Corners, Holds, holds_box}
use Rattle.samr_data.specs.Grids.{Grid, IsGrid}
use Rattle.samr_values.specs.Parcels.{has_coarse}
use Rattle.samr_values.proofs.Written.{inside_over}
use Rattle.samr_values.proofs.Over.{under_none, under_poured}
use Rattle.samr_values.proofs.pouring.pour_one_under.Goals as goal

pub returns-then-not-has_coarse-clause-values : goal.returns-then-not-has_coarse-clause-values
returns-then-not-has_coarse-clause-values g c = λ v agree.
    let is = subst (λ (p : Grid). IsGrid p) c.patch.view_is c.patch.invariant in
    let box = ap (λ (p : Grid). p.bx) c.patch.view_is in
    under_none c.args.patch.now c.patch.inside.bx c.args.field c.args.step c.args.q.now is box v
    (λ x h t k. false≢true (sym c.if-not-has_coarse.true ∙ c.has_coarse.ensures ∙ subst (λ (b : Corners). has_coarse c.args.field b c.args.q.now ≡ true) (sym box) t))

pub refine_part-requires-clause-inside : goal.refine_part-requires-clause-inside
refine_part-requires-clause-inside g c =
    let is = subst (λ (p : Grid). IsGrid p) c.patch.view_is c.patch.invariant in
    let box = ap (λ (p : Grid). p.bx) c.patch.view_is in
    let inside = rw c.in-Some.is at c.over_region.ensures.inside in
    inside_over c.args.patch.now c.in-Some.part is (subst (λ (b : Corners). holds_box b c.in-Some.part ≡ true) box inside)

pub refine_part-requires-clause-cells : goal.refine_part-requires-clause-cells
refine_part-requires-clause-cells g c =
    let cells = rw c.in-Some.is at c.over_region.ensures.cells in
    λ x h. ((cells x).0 h).1

pub refine_part-requires-clause-fits : goal.refine_part-requires-clause-fits
refine_part-requires-clause-fits g c =
    let box = ap (λ (p : Grid). p.bx) c.patch.view_is in
    λ d h. c.requires.fits d (subst (λ (b : Corners). has_coarse c.args.field b c.args.q.now ≡ true) box (sym c.has_coarse.ensures ∙ c.if-not-has_coarse.false)) h

pub returns-in-Some-clause-values : goal.returns-in-Some-clause-values
returns-in-Some-clause-values g c = λ v agree.
    let is = subst (λ (p : Grid). IsGrid p) c.patch.view_is c.patch.invariant in
    let box = ap (λ (p : Grid). p.bx) c.patch.view_is in
    let cells = rw c.in-Some.is at c.over_region.ensures.cells in
    c.refine_part.ensures
    ∙ under_poured c.args.patch.now c.patch.inside.bx c.args.field c.args.step c.args.q.now is box c.in-Some.part c.args.strategy.now v
    (sym c.has_coarse.ensures ∙ c.if-not-has_coarse.false) cells agree

pub returns-in_default-clause-values : goal.returns-in_default-clause-values
returns-in_default-clause-values g c = λ v agree.
    let is = subst (λ (p : Grid). IsGrid p) c.patch.view_is c.patch.invariant in
    let box = ap (λ (p : Grid). p.bx) c.patch.view_is in
    let none = rw c.in_default.is at c.over_region.ensures.none in
    under_none c.args.patch.now c.patch.inside.bx c.args.field c.args.step c.args.q.now is box v
    (λ x h t k. none x (subst (λ (b : Corners). Holds b x) (sym box) h) k)
