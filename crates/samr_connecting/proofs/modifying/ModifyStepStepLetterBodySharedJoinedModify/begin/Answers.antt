use Rattle.std.proofs.Common.{refl, sym, subst, List}
use Rattle.samr_modify.specs.Pieces.{Piece}
use Rattle.samr_modify.specs.ModifyParts.{ArePieces}
use Rattle.samr_wholes.specs.Wholes.{modifying}
use Rattle.samr_wholes.proofs.Moves.{is_modifying}
use Rattle.samr_connecting.proofs.modifying.ModifyStepStepLetterBodySharedJoinedModify.begin.Goals as goal

pub returns-clause-plays : goal.returns-clause-plays
returns-clause-plays g c = λ w rank holds visits. record {
  whole = modifying w.at.setting.problem w.pass;
  part = c.in_ok-stage.ensures w rank holds.0 holds.1 holds.2 (subst (λ (l : List Piece). ArePieces (modifying w.at.setting.problem w.pass) rank l) (sym c.as_slice-2.ensures) holds.3);
  same_ranks = refl;
  same_row = λ from to. refl;
  same_result = λ out gives. gives (is_modifying w.at.setting.problem w.pass holds.0.1.can);
}

pub returns-clause-keeps : goal.returns-clause-keeps
returns-clause-keeps g c = λ w rank holds visits.
    (holds.0, c.in_ok-boxes.ensures w rank holds.0 (subst (λ (l : List Piece). ArePieces (modifying w.at.setting.problem w.pass) rank l) (sym c.as_slice.ensures) holds.3))
