use Rattle.std.proofs.Common.{arith}
use Rattle.std.proofs.lemmas.Int.{ints}
use Rattle.samr_box.proofs.ibox.IBox.length.Goals as goal

pub returns-in-I-clause-value : goal.returns-in-I-clause-value
returns-in-I-clause-value c = rw (← c.self.view_is, c.in-I.is) (omega (arith, ints))

pub returns-in-J-clause-value : goal.returns-in-J-clause-value
returns-in-J-clause-value c = rw (← c.self.view_is, c.in-J.is) (omega (arith, ints))

pub returns-in-K-clause-value : goal.returns-in-K-clause-value
returns-in-K-clause-value c = rw (← c.self.view_is, c.in-K.is) (omega (arith, ints))
