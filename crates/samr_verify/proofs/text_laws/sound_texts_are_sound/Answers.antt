use Rattle.samr_verify.proofs.SoundTexts.{sound_text}
use Rattle.samr_verify.proofs.text_laws.sound_texts_are_sound.Goals as goal

pub returns : goal.returns
returns c = λ p text m b e problem v. sound_text p text m b e problem v
