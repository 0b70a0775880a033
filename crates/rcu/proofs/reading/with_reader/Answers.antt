use Rattle.rcu.proofs.Cited.{◌∙◌, []}
use Rattle.rcu.proofs.Hearing.{still_known}
use Rattle.rcu.proofs.reading.with_reader.Goals as goal

pub returns-in-Ok-clause-heard : goal.returns-in-Ok-clause-heard
returns-in-Ok-clause-heard g c =
    let same = c.in_ok-reader.ensures.same in let split = c.split-known.ensures.told in let told = c.inform.ensures.told in let later = c.in-Ok.ensures.kept.after_heard in
    (still_known (split.0 ∙ same.0.0.0.0) told.0 later, still_known (split.1 ∙ same.1) told.1 later)

pub returns-clause-heard : goal.returns-clause-heard
returns-clause-heard g c =
    let same = c.in_ok-reader.ensures.same in let split = c.split-known.ensures.told in let told = c.inform.ensures.told in let is = c.in-Err.ensures.busy.3.1 in
    (still_known (split.0 ∙ same.0.0.0.0) told.0 ([], is), still_known (split.1 ∙ same.1) told.1 ([], is))
