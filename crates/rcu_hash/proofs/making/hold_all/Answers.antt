use Rattle.rcu_hash.proofs.Cited.{AreFrom, Each, IsAlone, IsEmpty, ◌≡◌, ℕ, ◌+◌, [], ◌∷◌, ◌∙◌, ◌++◌, length, sym, ap, subst, arith, map, map-append, length-append, length-map, err_from_is_err_and, each_last, from_last, held_none, held_more, held_taken, looked_then, refl}
use Rattle.rcu_hash.proofs.making.hold_all.Goals as goal

pub loop-number-init : goal.loop-number-init
loop-number-init g c = record {
  some = held_none g.W.Caller g.P.GracePlan.QSBR g.B.Site.sizes c.args.first c.args.caller.now;
  room = refl;
  held = λ room. rw c.requires.none (refl, tt, tt, tt);
}

pub loop-number-preserved : goal.loop-number-preserved
loop-number-preserved g c =
    let i = c.loop-number.invariant in let e = c.in_ok-hold_empty.ensures in let k = c.keep.ensures in
    let had = c.loop-number.chains.items in let one = c.in_ok-hold_empty.field-0 in let first = c.args.first in let view = map (λ c. c.seat.me.0) had in record {
      some = held_more g.W.Caller g.P.GracePlan.QSBR g.B.Site.sizes first c.args.caller.now c.loop-number.number c.loop-number.caller c.hold_empty.new.caller i.some e.heard e.same.0 e.same.1 e.unused;
      room = k.same ∙ i.room;
      held = λ room.
          let was = i.held room in
          let items = k.kept (let low = c.loop-number-test.true in let same = i.room in let ok = c.loop-number.chains.ok.0 in let many = was.0 in omega arith) in
          let views : map (λ c. c.seat.me.0) c.keep.new.values.items ≡ view ++ one.seat.me.0 ∷ [] = ap (map (λ c. c.seat.me.0)) items ∙ map-append (λ c. c.seat.me.0) had (one ∷ []) in (
            ap length items ∙ (length-append had (one ∷ []) ∙ (let many = was.0 in omega arith)),
            subst (AreFrom first) (sym views) (from_last first view one.seat.me.0 was.1 (one.owns.2 ∙ (e.held.0 ∙ ap (λ (n : ℕ). first + n) (sym (length-map had (λ c. c.seat.me.0) ∙ was.0))))),
            subst (Each IsEmpty) (sym views) (each_last IsEmpty view one.seat.me.0 was.2 e.held.1),
            subst (Each IsAlone) (sym views) (each_last IsAlone view one.seat.me.0 was.3 e.held.2),
          );
    }

pub returns-in_err-hold_empty-clause-same : goal.returns-in_err-hold_empty-clause-same
returns-in_err-hold_empty-clause-same g c = looked_then c.loop-number.invariant.some.0 c.hold_empty.ensures.same.0

pub returns-in_err-hold_empty-clause-refused : goal.returns-in_err-hold_empty-clause-refused
returns-in_err-hold_empty-clause-refused g c =
    let p = err_from_is_err_and c.from_residual.result c.from_residual.ensures.1 in let no = c.in_err-hold_empty.ensures.refused in
    rw p.1 (p.2 ∙ no.0, held_taken g.W.Caller g.P.GracePlan.QSBR g.B.Site.sizes c.args.first c.args.caller.now c.loop-number.number c.loop-number.caller c.hold_empty.new.caller c.loop-number.invariant.some c.args.many c.loop-number-test.true no.1)

pub returns-clause-held : goal.returns-clause-held
returns-clause-held g c room =
    let held = c.loop-number.invariant.held room in let end : c.loop-number.number ≡ c.args.many = let over = c.loop-number-test.false in let most = c.loop-number.auto.number-end in omega arith in
    (c.loop-number.chains.ok.0 ∙ (held.0 ∙ end), held.1, held.2, held.3)
