use Rattle.std.proofs.Common.{◌≡◌, take, map}
use Rattle.samr_tags.specs.Seeing.{seen}
use Rattle.samr_tags.proofs.scan.all_seen.Given as goal

abbrev pub invariant-loop-e : goal.invariant-loop-e
invariant-loop-e g l = l.all.items ≡ map (λ e. seen l.fn.frame l.fn.buffer (g.T.Given.is_tagged l.fn.given l.fn.level l.fn.step) e) (take l.e-index l.edges)
