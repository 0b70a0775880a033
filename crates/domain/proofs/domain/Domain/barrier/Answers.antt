use Rattle.domain.proofs.Cited.{◌≡◌, ◌++◌, ◌∙◌, [], List, ap, append_assoc, sym, Log, begins_trans, Look}
use Rattle.domain.proofs.domain.Domain.barrier.Goals as goal

-- what was looked at since then, after one more look
one_more : (since first start mid end since' : List Look) → mid ≡ since ++ (first ++ start) → end ≡ since' ++ mid → end ≡ (since' ++ since) ++ (first ++ start)
one_more since first start mid end since' a b = b ∙ (ap (λ (l : List Look). since' ++ l) a ∙ sym (append_assoc since' since (first ++ start)))

pub loop-init : goal.loop-init
loop-init g c =
    let e = c.barrier_start-mark.ensures in
    (e.same.0, e.same.1, e.asked.2, e.heard, ([], e.noted.0, e.noted.1, e.noted.2))

pub returns-then-barrier_done-clause-barred : goal.returns-then-barrier_done-clause-barred
returns-then-barrier_done-clause-barred g c =
    let i = c.loop.invariant in let e = c.barrier_done.ensures.heard in let a = c.barrier_start-mark.ensures.asked in
    let seen : Log = g.W.Caller.seen c.args.caller.now in let heard : Log = g.W.Caller.heard c.args.caller.now in
    let asked : Log = c.barrier_start-mark.result.asked.value.me.0.seen in
    let mid : Log = g.W.Caller.heard c.loop.caller in let end : Log = g.W.Caller.heard c.barrier_done.new.caller in
    record {
      asked = asked;
      after = a.0;
      after_heard = a.1;
      later = record { after_seen = begins_trans seen mid end i.3.after_seen e.after_heard; after_heard = begins_trans heard mid end i.3.after_heard e.after_heard; run = e.run };
      since = begins_trans asked mid end i.2 e.after_heard;
      run = c.barrier_done.ensures.passed c.if-barrier_done.true a.3 i.2;
      counts = c.barrier_start-mark.result.counts;
      first_looks = i.4.1;
      looks_since = c.barrier_done.ensures.exact.0 ++ i.4.0;
      looked = one_more i.4.0 i.4.1 (g.W.Caller.looks c.args.caller.now) (g.W.Caller.looks c.loop.caller) (g.W.Caller.looks c.barrier_done.new.caller) c.barrier_done.ensures.exact.0 i.4.2 c.barrier_done.ensures.exact.1;
      noted = i.4.3;
      run_as_counted = c.barrier_done.ensures.run c.if-barrier_done.true;
    }

pub loop-preserved : goal.loop-preserved
loop-preserved g c =
    let i = c.loop.invariant in let e = c.barrier_done.ensures.heard in let s = c.barrier_done.ensures.same in
    let seen : Log = g.W.Caller.seen c.args.caller.now in let heard : Log = g.W.Caller.heard c.args.caller.now in
    let asked : Log = c.barrier_start-mark.result.asked.value.me.0.seen in
    let mid : Log = g.W.Caller.heard c.loop.caller in let end : Log = g.W.Caller.heard c.barrier_done.new.caller in (
      (s.0.0 ∙ i.0.0, s.0.1 ∙ i.0.1, λ x. s.0.2 (i.0.2 x), s.0.3 ∙ i.0.3),
      s.1 ∙ i.1,
      begins_trans asked mid end i.2 e.after_heard,
      record { after_seen = begins_trans seen mid end i.3.after_seen e.after_heard; after_heard = begins_trans heard mid end i.3.after_heard e.after_heard; run = e.run },
      (
        c.barrier_done.ensures.exact.0 ++ i.4.0,
        i.4.1,
        one_more i.4.0 i.4.1 (g.W.Caller.looks c.args.caller.now) (g.W.Caller.looks c.loop.caller) (g.W.Caller.looks c.barrier_done.new.caller) c.barrier_done.ensures.exact.0 i.4.2 c.barrier_done.ensures.exact.1,
        i.4.3,
      ),
    )
