use Rattle.std.proofs.Common.{inl, inr, refl}
use Rattle.torture.proofs.run.Goals as goal

pub returns-in-Ok-read_words-clause-had : goal.returns-in-Ok-read_words-clause-had
returns-in-Ok-read_words-clause-had g c =
    rw c.in-Ok.is (inl (c.in-Ok-read_words.asked, (rw c.deref.ensures.value at c.in-Ok-read_words.ensures.said), c.execute.ensures.executes))

pub returns-clause-had : goal.returns-clause-had
returns-clause-had g c =
    let error = c.in-Err-read_words.fault.error in
    rw c.in-Ok.is (inr ((error, (rw c.deref.ensures.value at c.in-Err-read_words.ensures.refused), c.tell.ensures.ends, c.tell.ensures.mistake), refl))
