use Rattle.std.proofs.Common.{◌∙◌, sym, refl, eq-eqb, eqb-true}
use Rattle.samr_trials_engine.specs.Telling.{told, telling_course, telling_is_course}
use Rattle.samr_stage.proofs.HeldLetters.{ready_by_count, count_by_ready}
use Rattle.samr_trials_engine.proofs.TellingLemmas.{count_awaited}
use Rattle.samr_trials_engine.proofs.teller.TellerProgram.ready.Goals as goal

pub returns : goal.returns
returns c =
    let self = c.args.self.now in
    let count = count_awaited self.number self.rank self.left c.requires.here in (
      λ same. ready_by_count (λ x. x.number) (λ _. told) (λ x. x.number) telling_course (λ _. refl) self.number (telling_is_course self.number) _ _ c.args.held.now c.requires.held (eqb-true _ _ same ∙ c.from.ensures ∙ sym count),
      λ all. eq-eqb _ _ (count_by_ready (λ _. told) (telling_course self.number) _ _ c.args.held.now all ∙ count ∙ sym c.from.ensures),
    )
