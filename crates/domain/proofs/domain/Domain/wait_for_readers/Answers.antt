use Rattle.domain.proofs.Cited.{rules, [], ◌∷◌, IfErr, sym, refl, ap, ◌∙◌, subst, Result, Ok, Err, Log, Begins, HaveEnded, View}
use Rattle.domain.specs.Working.{GoesOn}
use Rattle.domain.proofs.Running.{goes_loaded, goes_trans, line_longer}
use Rattle.domain.proofs.domain.Domain.wait_for_readers.Goals as goal

if_err : {A B : Type 0} (r : Result A B) (X : Type 0) → X → IfErr r (λ _. X)
if_err (Ok a) X x = tt
if_err (Err e) X x = x

pub returns-in_err-asked-clause-seat : goal.returns-in_err-asked-clause-seat
returns-in_err-asked-clause-seat g c =
    let e = c.ask.ensures in
    (goes_loaded g.P.GracePlan.QSBR g.K.ChainRule.allows c.args.seat.now c.ask.new.seat e.seat e.looked, ap (λ m. m.0.work) e.looked.0, ap (λ m. m.0.looks) e.looked.0)

pub returns-in_err-asked-clause-refused : goal.returns-in_err-asked-clause-refused
returns-in_err-asked-clause-refused g c =
    let e = c.ask.ensures in
    let old : View = c.args.seat.now.me.0 in
    let new : View = c.ask.new.seat.me.0 in
    if_err c.from_residual.result _ (record {
      at = new.seen;
      earlier = [];
      last_load = ap (λ m. m.0.loads) e.looked.0;
      after = subst (Begins old.seen) (sym e.looked.1.1) e.looked.1.2;
      before = ([], refl);
      used_up = search rules;
    })

pub returns-clause-seat : goal.returns-clause-seat
returns-clause-seat g c =
    let qsbr = g.P.GracePlan.QSBR in
    let allows = g.K.ChainRule.allows in
    let asked = c.ask.ensures in
    let e = c.answer.ensures in
    let answered : GoesOn qsbr allows c.ask.new.seat c.answer.new.seat = record {
      keeps = e.seat.0;
      own = e.seat.1;
      sizes = e.rights.0;
      later = e.later.0;
      run = e.later.1;
      finds = (([], e.load.1), (c.answer.new.seat.me.0.seen ∷ [], e.load.0));
    } in (
      goes_trans qsbr allows c.args.seat.now c.ask.new.seat c.answer.new.seat (goes_loaded qsbr allows c.args.seat.now c.ask.new.seat asked.seat asked.looked) answered,
      e.rights.1 ∙ ap (λ m. m.0.work) asked.looked.0,
      e.load.1 ∙ ap (λ m. m.0.looks) asked.looked.0,
    )

pub returns-clause-due : goal.returns-clause-due
returns-clause-due g c q =
    let looked = c.ask.ensures.looked.1 in
    let seen : Log = c.args.seat.now.me.0.seen in
    let mark : Log = c.ask.new.seat.me.0.seen in (
      mark,
      c.answer.ensures.later.0,
      subst (λ (log : Log). HaveEnded log c.answer.new.seat.me.0.seen) c.in_ok-asked.ensures.ask.0 c.answer.ensures.ended,
      line_longer seen mark q (subst (Begins seen) (sym looked.1) looked.2),
    )
