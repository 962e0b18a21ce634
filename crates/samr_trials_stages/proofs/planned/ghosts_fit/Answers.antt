use Rattle.std.proofs.Common.{subst}
use Rattle.std.proofs.lemmas.List.{take_all}
use Rattle.std.proofs.lemmas.List.Elements.{All-more}
use Rattle.std.specs.Prelude.{pos}
use Rattle.std.specs.List.{All}
use Rattle.samr_box.specs.declared.vector.IVec.{IVec}
use Rattle.samr_box.specs.Vector.{alike, AtMost}
use Rattle.samr_box.specs.Corners.{IsBox, grown}
use Rattle.samr_trials_stages.proofs.planned.ghosts_fit.Goals as goal

pub loop-rim-preserved : goal.loop-rim-preserved
loop-rim-preserved c =
    let P : IVec → Type 0 = λ g. AtMost g c.args.width × All (λ b. IsBox (grown b.bx g)) c.args.level.now in
    All-more P c.args.ghosts.now c.loop-rim.rim-index (alike (pos 0)) c.loop-rim-test.true c.loop-rim.invariant (c.ghost_fits.ensures c.if-not-ghost_fits.false)

pub returns : goal.returns
returns c = λ t.
    let P : IVec → Type 0 = λ g. AtMost g c.args.width × All (λ b. IsBox (grown b.bx g)) c.args.level.now in
    subst (All P) (take_all c.loop-rim.rim-index c.args.ghosts.now c.loop-rim-test.false) c.loop-rim.invariant
