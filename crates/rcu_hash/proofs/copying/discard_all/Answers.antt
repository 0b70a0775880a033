use Rattle.rcu_hash.proofs.Cited.{GivesUp, cell_in, object_in, ◌≡◌, [], ◌∷◌, sym, subst, arith, map, nil_from_length, gives_up_less}
use Rattle.rcu_hash.proofs.copying.discard_all.Goals as goal

pub loop-init : goal.loop-init
loop-init g c = record {
  left = let len = c.into_iter-rest.ensures.len in omega arith;
  undone = λ start logs e h. (logs, subst (λ l. GivesUp g.W.Caller g.B.Site.sizes (map (λ c. cell_in c.owned.seat.me.0.object) l) logs e start c.args.caller.now) (sym c.into_iter-rest.ensures.rest) h);
}

pub loop-preserved : goal.loop-preserved
loop-preserved g c =
    let w = g.W.Caller in let i = c.loop.invariant in let d = c.discard.ensures in let rest = map (λ c. cell_in c.owned.seat.me.0.object) c.next.new.self.rest.items in record {
      left = let more = c.in-Some.ensures.cases.1 in let was = i.left in omega arith;
      undone = λ start logs e h.
          let was = i.undone start logs e h in
          let first = subst (λ l. GivesUp w g.B.Site.sizes (map (λ c. cell_in c.owned.seat.me.0.object) l) was.0 e start c.loop.caller) c.in-Some.ensures.cases.0 was.1 in
          (d.loads.0 ∷ was.0, gives_up_less (cell_in c.in-Some.copied.owned.seat.me.0.object) (object_in c.in-Some.copied.owned.seat.me.0.object).0 rest was.0 d.loads.0 e start c.loop.caller c.discard.new.caller first d.same d.heard.0.after_heard d.loads.1 d.freed);
    }

pub returns : goal.returns
returns g c = record {
  same = λ start logs e h.
      let i = c.loop.invariant in let was = i.undone start logs e h in
      let none : c.loop.rest.rest.items ≡ [] = nil_from_length c.loop.rest.rest.items (let left = i.left in let end = c.loop-test.false in let most = c.loop.auto.counter-end in let ok = c.loop.rest.rest.ok.0 in omega arith) in
      (was.0, subst (λ l. GivesUp g.W.Caller g.B.Site.sizes (map (λ c. cell_in c.owned.seat.me.0.object) l) was.0 e start c.loop.caller) none was.1);
}
