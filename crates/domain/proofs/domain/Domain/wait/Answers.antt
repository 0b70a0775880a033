use Rattle.domain.proofs.Cited.{List, [], ◌∷◌, sym, refl, ap, ◌∙◌, subst, Log, Begins, HaveEnded}
use Rattle.domain.proofs.domain.Domain.wait.Goals as goal

pub returns-clause-ended : goal.returns-clause-ended
returns-clause-ended g c =
    let seat = c.args.seat.now.me.0 in
    let asked = c.ask.new.seat.me.0.seen in
    let looked = c.ask.ensures.looked.1 in
    record {
      asked = asked;
      loads_since = c.answer.new.seat.me.0.seen ∷ [];
      first_load = c.answer.ensures.load.0 ∙ ap (λ (ls : List Log). c.answer.new.seat.me.0.seen ∷ ls) (ap (λ m. m.0.loads) c.ask.ensures.looked.0);
      after = record { after_seen = subst (Begins seat.seen) (sym looked.1) looked.2; after_heard = subst (Begins seat.heard) (sym looked.1) looked.3; run = looked.4 };
      low = c.in_ok-asked.ensures.taken.0 refl;
      later = c.answer.ensures.later.0;
      run = c.answer.ensures.later.1;
      ended = subst (λ (log : Log). HaveEnded log c.answer.new.seat.me.0.seen) c.in_ok-asked.ensures.ask.0 c.answer.ensures.ended;
    }
