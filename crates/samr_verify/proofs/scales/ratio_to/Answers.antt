use Rattle.std.proofs.Common.{◌≡◌, suc, ◌≤◌, refl, arith, sym, add-one, ap, ◌∙◌}
use Rattle.samr_mesh.specs.Domains.{ratio_to}
use Rattle.samr_mesh.proofs.Grounding.{domain}
use Rattle.samr_verify.proofs.scales.ratio_to.Goals as goal

pub product-r-requires : goal.product-r-requires
product-r-requires c =
    let few : suc (suc c.loop-i.i) ≤ c.args.problem.now.levels = omega arith in
    rw (c.loop-i.invariant, c.step_of.ensures) (domain c.args.problem.now c.requires.is (suc c.loop-i.i) few).ratio

pub loop-i-preserved : goal.loop-i-preserved
loop-i-preserved c =
    let now : c.product-r.result ≡ ratio_to c.args.problem.now (suc c.loop-i.i) = rw (c.product-r.ensures, c.loop-i.invariant, c.step_of.ensures) refl in
    now ∙ ap (λ n. ratio_to c.args.problem.now n) (sym (add-one c.loop-i.i))
