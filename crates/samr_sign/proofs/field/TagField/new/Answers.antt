use Rattle.samr_sign.proofs.Places.{none_tagged}
use Rattle.samr_sign.proofs.field.TagField.new.Goals as goal

pub returns-in_ok-words-in-Some-clause-none : goal.returns-in_ok-words-in-Some-clause-none
returns-in_ok-words-in-Some-clause-none c = none_tagged _ _ (c.in_ok-words-in-Some.ensures.items_if_clones_equal (λ y e. e))
