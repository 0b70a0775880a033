use Rattle.judging.proofs.Cited.{List, ◌++◌, subst, Event, HasTaken}
use Rattle.judging.specs.declared.judging.Judging.{Judging}
use Rattle.judging.proofs.Judgings.{judged_on}
use Rattle.judging.proofs.judging.Judging.feed.Goals as goal

pub returns : goal.returns
returns c = λ fed j.
    let new : Judging = record { answers = c.feed-fed.new.self; events = c.feed-fed.new.log; judge = c.take_all.new.judge } in
    judged_on c.args.self.now new fed c.args.piece.now c.clear.new.self.items c.feed-fed.new.log.items j c.clear.ensures.items
    (λ log t. subst (λ (es : List Event). HasTaken c.take_all.new.judge (log ++ es)) c.deref.ensures.value (c.in_ok-take_all.ensures.taken log t))
    c.feed-fed.result c.feed-fed.ensures
