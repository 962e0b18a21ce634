use Rattle.samr_sign.proofs.Sums.{sign_plus}
use Rattle.samr_sign.proofs.signature.signatures_add_up.Goals as goal

pub returns : goal.returns
returns c = λ t u v e b. sign_plus t u v e b
