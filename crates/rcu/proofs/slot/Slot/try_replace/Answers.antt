use Rattle.rcu.proofs.Cited.{◌%◌, rules, ◌≡◌, ◌≢◌, ◌∙◌, ℕ, List, [], Some, length, ap, arith, inl, inr, subst, ⊎_elim, first_of, Object, Push, Replace, objects_of, View, cell_in, object_in, own_in, payload_in, stays_makes, list_in, push_by, replace_by, RefusesRetirement, HandsOver, gives_back}
use Rattle.rcu.specs.Slots.{PutsValue, any_change}
use Rattle.rcu.proofs.Hearing.{stays_on, still_after, went_on}
use Rattle.rcu.proofs.Putting.{after_all, first_replaced, none_first, pushed_words, queued_later, replaced_words, was_first, was_listed}
use Rattle.rcu.proofs.Refused.{went_refused}
use Rattle.rcu.proofs.slot.Slot.try_replace.Goals as goal

pub returns-then-len-eq0-clause-pushed : goal.returns-then-len-eq0-clause-pushed
returns-then-len-eq0-clause-pushed g c =
    let qsbr = g.P.GracePlan.QSBR in let w = g.W.Caller in
    let old = c.args.caller.now in let told = c.chain.new.caller in let ready = c.alloc.new.caller in let put = c.push.new.caller in
    let v : View = c.in-Ok.writer.seat.me.0 in let new : View = c.push.new.self.seat.me.0 in let u : View = c.in-Ok-alloc.owned.seat.me.0 in
    let p = c.push.ensures.pushed in let chain : ℕ = c.args.self.now.chain in
    let had = went_on w qsbr any_change old told ready (c.in-Ok.ensures.same.0.0, c.in-Ok.ensures.heard c.args.self.now.low) (c.alloc.ensures.same.0.0, c.alloc.ensures.heard) in
    let stays = stays_on w old told ready c.in-Ok.ensures.same.0 c.alloc.ensures.same.0 in
    let words : payload_in u.object ≡ c.pack.result = c.in-Ok-alloc.ensures.owned.0 in
    let packed : payload_in u.object ≡ g.T.Words.packed c.args.value = words ∙ c.pack.ensures in
    let four : length (payload_in u.object) ≡ 4 = ap length words ∙ search rules in
    let number : (own_in v.chains).chain ≡ chain = c.in-Ok.writer.owns.2 ∙ c.in-Ok.ensures.held.0 in
    let now = c.push.new.self.owns.2 ∙ c.push.ensures.list.3 ∙ c.in-Ok.ensures.held.0 in
    let puts : PutsValue w qsbr old put chain (g.T.Words.packed c.args.value) = record {
      at = new.seen;
      event = push_by v u;
      before = p.before;
      wrote = p.wrote;
      after = still_after qsbr any_change (w.seen old) (w.heard old) (w.seen ready) (w.heard ready) new.seen had.0 had.1.after_heard (after_all qsbr any_change v (w.seen ready) (w.heard ready) u.seen (push_by v u) new.seen p);
      told = ([], c.push.ensures.heard);
      made = stays_makes w old ready put new.seen stays c.push.ensures.same.0;
      object = object_in u.object;
      first = subst (λ (d : ℕ). first_of ((objects_of new.seen).chain d) ≡ Some (object_in u.object)) now (ap first_of (c.push.new.self.owns.1.0 ∙ c.push.ensures.list.0) ∙ ap Some c.push.ensures.object);
      has = pushed_words qsbr any_change v (w.seen ready) (w.heard ready) u.seen (own_in v.chains).chain (object_in u.object) (cell_in u.object) (payload_in u.object) new.seen four p ∙ packed;
    } in record {
      puts = puts;
      cell = cell_in u.object;
      is = ap (λ (d : ℕ). Object (Push d (object_in u.object) (cell_in u.object) (payload_in u.object))) number ∙ ap (λ (l : List ℕ). Object (Push chain (object_in u.object) (cell_in u.object) l)) packed;
      none = ap first_of (was_listed p.before v chain c.in-Ok.writer.owns.0 number p.known) ∙ none_first (list_in v) (search rules);
    }

pub returns-in-Ok-replace_retire-clause-replaced : goal.returns-in-Ok-replace_retire-clause-replaced
returns-in-Ok-replace_retire-clause-replaced g c =
    let qsbr = g.P.GracePlan.QSBR in let w = g.W.Caller in
    let old = c.args.caller.now in let told = c.chain.new.caller in let ready = c.alloc.new.caller in let put = c.replace_retire.new.caller in
    let v : View = c.in-Ok.writer.seat.me.0 in let new : View = c.replace_retire.new.chain.seat.me.0 in let u : View = c.in-Ok-alloc.owned.seat.me.0 in
    let r = c.in-Ok-replace_retire.ensures.retired in let p = r.published in let chain : ℕ = c.args.self.now.chain in
    let had = went_on w qsbr any_change old told ready (c.in-Ok.ensures.same.0.0, c.in-Ok.ensures.heard c.args.self.now.low) (c.alloc.ensures.same.0.0, c.alloc.ensures.heard) in
    let stays = stays_on w old told ready c.in-Ok.ensures.same.0 c.alloc.ensures.same.0 in
    let words : payload_in u.object ≡ c.pack.result = c.in-Ok-alloc.ensures.owned.0 in
    let packed : payload_in u.object ≡ g.T.Words.packed c.args.value = words ∙ c.pack.ensures in
    let four : length (payload_in u.object) ≡ 4 = ap length words ∙ search rules in
    let number : (own_in v.chains).chain ≡ chain = c.in-Ok.writer.owns.2 ∙ c.in-Ok.ensures.held.0 in
    let now = c.replace_retire.new.chain.owns.2 ∙ c.in-Ok-replace_retire.ensures.same.1 ∙ c.in-Ok.ensures.held.0 in
    let puts : PutsValue w qsbr old put chain (g.T.Words.packed c.args.value) = record {
      at = new.seen;
      event = replace_by r.object v u;
      before = p.before;
      wrote = p.wrote;
      after = still_after qsbr any_change (w.seen old) (w.heard old) (w.seen ready) (w.heard ready) new.seen had.0 had.1.after_heard (after_all qsbr any_change v (w.seen ready) (w.heard ready) u.seen (replace_by r.object v u) new.seen p);
      told = queued_later qsbr any_change new.seen r.object _ r.given _ (w.heard put) r.queued;
      made = stays_makes w old ready put new.seen stays c.in-Ok-replace_retire.ensures.same.0.0;
      object = object_in u.object;
      first = subst (λ (d : ℕ). first_of ((objects_of new.seen).chain d) ≡ Some (object_in u.object)) now (ap first_of (c.replace_retire.new.chain.owns.1.0 ∙ r.left) ∙ first_replaced r.object (object_in u.object) (list_in v) r.was);
      has = replaced_words qsbr any_change v (w.seen ready) (w.heard ready) u.seen (own_in v.chains).chain r.object (object_in u.object) (cell_in u.object) (payload_in u.object) new.seen four p ∙ packed;
    } in record {
      puts = puts;
      left = r.object;
      cell = cell_in u.object;
      is = ap (λ (d : ℕ). Object (Replace d r.object (object_in u.object) (cell_in u.object) (payload_in u.object))) number ∙ ap (λ (l : List ℕ). Object (Replace chain r.object (object_in u.object) (cell_in u.object) l)) packed;
      was = was_first p.before v chain r.object c.in-Ok.writer.owns.0 number p.known r.was;
      handed = subst (λ (n : ℕ). HandsOver qsbr any_change r.object (n % g.B.Site.sizes.queues) c.in-Ok-replace_retire.ticket.0 (g.row.D.coded.code c.args.callback) new.seen (w.heard put)) c.in-Ok.ensures.held.0 (record { given = r.given; turn = r.turn; queued = r.queued });
    }

pub returns-then-len-eq0-clause-took : goal.returns-then-len-eq0-clause-took
returns-then-len-eq0-clause-took g c =
    let h = c.in-Ok.ensures in let t = c.in-Ok-alloc.ensures.took in let p = c.push.ensures.same in (
      c.chain.new.caller,
      record { looks = h.held.2; loads = h.same.1; stays = h.same.0; later = (h.heard c.args.self.now.low).after_heard },
      (p.2 ∙ c.alloc.ensures.same.1, (c.in-Ok-alloc.owned.seat.me.0.object, (t.0, p.1 ∙ t.1, t.2))),
    )

pub returns-in-Ok-replace_retire-clause-took : goal.returns-in-Ok-replace_retire-clause-took
returns-in-Ok-replace_retire-clause-took g c =
    let h = c.in-Ok.ensures in let t = c.in-Ok-alloc.ensures.took in let p = c.in-Ok-replace_retire.ensures.same.0 in (
      c.chain.new.caller,
      record { looks = h.held.2; loads = h.same.1; stays = h.same.0; later = (h.heard c.args.self.now.low).after_heard },
      (p.2 ∙ c.alloc.ensures.same.1, (c.in-Ok-alloc.owned.seat.me.0.object, (t.0, p.1 ∙ t.1, t.2))),
    )

pub returns-in-Err-alloc-clause-heard : goal.returns-in-Err-alloc-clause-heard
returns-in-Err-alloc-clause-heard g c =
    let w = g.W.Caller in
    (went_on w g.P.GracePlan.QSBR any_change c.args.caller.now c.chain.new.caller c.alloc.new.caller (c.in-Ok.ensures.same.0.0, c.in-Ok.ensures.heard c.args.self.now.low) (c.alloc.ensures.same.0.0, c.alloc.ensures.heard)).1

pub returns-clause-heard : goal.returns-clause-heard
returns-clause-heard g c =
    let w = g.W.Caller in let qsbr = g.P.GracePlan.QSBR in
    let before = c.args.caller.now in let ready = c.alloc.new.caller in let refused = c.replace_retire.new.caller in
    let had = went_on w qsbr any_change before c.chain.new.caller ready (c.in-Ok.ensures.same.0.0, c.in-Ok.ensures.heard c.args.self.now.low) (c.alloc.ensures.same.0.0, c.alloc.ensures.heard) in
    (went_on w qsbr any_change before refused c.discard.new.caller (went_refused w qsbr any_change before ready refused had c.in-Err-replace_retire.ensures.refused) (c.discard.ensures.same.0, c.discard.ensures.heard.0)).1

pub returns-in-Err-clause-why : goal.returns-in-Err-clause-why
returns-in-Err-clause-why g c = let low = c.args.self.now.low in ⊎_elim (λ n. let none = n.1 in absurd (omega arith)) (λ b. inl (b.0, (b.2, c.in-Err.ensures.same.1))) c.in-Err.ensures.refused

pub returns-in-Err-alloc-clause-why : goal.returns-in-Err-alloc-clause-why
returns-in-Err-alloc-clause-why g c = let h = c.in-Ok.ensures in let l = c.in-Err-alloc.ensures.looks in
    inr (
      c.chain.new.caller,
      record { looks = h.held.2; loads = h.same.1; stays = h.same.0; later = (h.heard c.args.self.now.low).after_heard },
      inl (record { is = l.2.0; found = l.0; looks = l.1; why = l.2.1; after = c.alloc.ensures.heard; same = c.alloc.ensures.same }),
    )

pub returns-clause-why : goal.returns-clause-why
returns-clause-why g c =
    let w = g.W.Caller in let qsbr = g.P.GracePlan.QSBR in let sizes = g.B.Site.sizes in let h = c.in-Ok.ensures in let a = c.alloc.ensures in let d = c.discard.ensures in
    let told = c.chain.new.caller in let ready = c.alloc.new.caller in let refused = c.replace_retire.new.caller in let e = c.in-Err-replace_retire.refusal in
    let some : length (list_in c.in-Ok.writer.seat.me.0) ≢ 0 = search rules in
    inr (
      told,
      record { looks = h.held.2; loads = h.same.1; stays = h.same.0; later = (h.heard c.args.self.now.low).after_heard },
      inr (⊎_elim (λ n. let none = n.1 in absurd (omega (arith, some, none)))
          (λ r. gives_back w qsbr any_change sizes told ready refused c.discard.new.caller e (c.args.self.now.chain % sizes.queues) c.in-Ok-alloc.owned.seat.me.0.object c.in-Err-replace_retire.owned.seat.me.0.object
          (ap (λ o. o.seat.me.0.object) c.in-Err-replace_retire.ensures.back.0) a.same.0 a.same.1 a.heard.after_heard c.in-Ok-alloc.ensures.took
          (subst (λ (n : ℕ). RefusesRetirement w qsbr any_change sizes (n % sizes.queues) ready refused e) h.held.0 r.1) d.freed d.heard.0 d.loads d.same)
          c.in-Err-replace_retire.ensures.refused),
    )
