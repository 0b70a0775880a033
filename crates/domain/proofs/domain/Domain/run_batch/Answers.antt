use Rattle.domain.proofs.Cited.{rules, ◌<◌, ℕ, List, [], ◌∷◌, length, reverse, refl, sym, ap, ◌∙◌, subst, inl, arith, length-reverse, reverse-reverse, Item, Log, Begins, line_of, begins_trans, Loaded, View, finished_at, queued_at, InOrder, JobValue, IsDue}
use Rattle.domain.specs.Working.{FoundUsedUp, Looks}
use Rattle.domain.proofs.Running.{goes_counted, goes_trans, line_longer, list_later, order_later, used_up_since}
use Rattle.domain.proofs.domain.Domain.run_batch.Goals as goal

pub returns-then-is_err-clause-seat : goal.returns-then-is_err-clause-seat
returns-then-is_err-clause-seat g c =
    let least = c.in-Ok.ensures.least in
    let other = c.if-given-finished.false in
    let took = c.in-Ok.ensures.taken (omega (arith, least, other)) in
    goes_trans g.P.GracePlan.QSBR g.K.ChainRule.allows c.args.seat.now c.take_batch-taken.new.worker c.wait_for_readers.new.seat (goes_counted g.P.GracePlan.QSBR g.K.ChainRule.allows g.B.Site.sizes c.args.queue _ c.args.seat.now c.take_batch-taken.new.worker took.counts) c.wait_for_readers.ensures.seat.0

pub returns-then-is_err-clause-list : goal.returns-then-is_err-clause-list
returns-then-is_err-clause-list g c =
    let waited = returns-then-is_err-clause-seat g c in
    list_later g.row.D.coded.code g.D.Deleter.answers g.P.GracePlan.QSBR g.K.ChainRule.allows c.args.queue c.args.seat.now.me.0.seen c.wait_for_readers.new.seat.me.0.seen c.args.first c.args.finished c.args.list.now.items c.take_batch-taken.new.list.items waited.later waited.run c.take_batch-taken.ensures.list c.requires.list

pub returns-then-is_err-clause-left : goal.returns-then-is_err-clause-left
returns-then-is_err-clause-left g c =
    let least = c.in-Ok.ensures.least in
    let other = c.if-given-finished.false in
    let took = c.in-Ok.ensures.taken (omega (arith, least, other)) in
    let seen : Log = c.wait_for_readers.new.seat.me.0.seen in
    (order_later c.args.queue took.counts.at seen c.args.finished c.take_batch-taken.new.batch.items (begins_trans took.counts.at c.take_batch-taken.new.worker.me.0.seen seen took.counts.before c.wait_for_readers.ensures.seat.0.later) took.batch.placed, λ no. absurd (no refl))

pub returns-then-is_err-clause-whole : goal.returns-then-is_err-clause-whole
returns-then-is_err-clause-whole g c _ =
    let least = c.in-Ok.ensures.least in
    let other = c.if-given-finished.false in
    let low : c.args.finished < c.in-Ok.given = omega (arith, least, other) in
    let took = c.in-Ok.ensures.taken low in
    let seen : Log = c.wait_for_readers.new.seat.me.0.seen in
    let count = took.batch.count in
    let most = took.batch.known low in
    let all = took.batch.all in
    record {
      taken = took.counts.at;
      after = took.counts.after;
      before = begins_trans took.counts.at c.take_batch-taken.new.worker.me.0.seen seen took.counts.before c.wait_for_readers.ensures.seat.0.later;
      ran = list_later g.row.D.coded.code g.D.Deleter.answers g.P.GracePlan.QSBR g.K.ChainRule.allows c.args.queue c.args.seat.now.me.0.seen took.counts.at c.args.first c.args.finished c.args.list.now.items c.take_batch-taken.new.list.items took.counts.after took.counts.run_at c.take_batch-taken.ensures.list c.requires.list;
      all = omega (arith, count, most, all);
      some = omega (arith, count, low);
    }

pub returns-then-is_err-clause-round : goal.returns-then-is_err-clause-round
returns-then-is_err-clause-round g c =
    let least = c.in-Ok.ensures.least in
    let other = c.if-given-finished.false in
    let low : c.args.finished < c.in-Ok.given = omega (arith, least, other) in
    let took = c.in-Ok.ensures.taken low in
    let count = took.batch.count in
    let most = took.batch.known low in
    let all = took.batch.all in
    let old : Looks = c.args.seat.now.me.0.looks in (
      c.wait_for_readers.ensures.seat.2
          ∙ (ap (λ m. m.0.looks) took.counts.view ∙ ap (λ (n : ℕ). Loaded (finished_at g.B.Site.sizes c.args.queue) c.args.finished ∷ Loaded (queued_at g.B.Site.sizes c.args.queue) n ∷ old) (omega (arith, count, most, all))),
      refl,
    )

pub returns-clause-round : goal.returns-clause-round
returns-clause-round g c =
    let least = c.in-Ok.ensures.least in
    let other = c.if-given-finished.false in
    let low : c.args.finished < c.in-Ok.given = omega (arith, least, other) in
    let took = c.in-Ok.ensures.taken low in
    let most = took.batch.known low in
    let all = took.batch.all in
    let old : Looks = c.args.seat.now.me.0.looks in (
      c.run_all.ensures.looks
          ∙ (c.wait_for_readers.ensures.seat.2
          ∙ (ap (λ m. m.0.looks) took.counts.view ∙ ap (λ (n : ℕ). Loaded (finished_at g.B.Site.sizes c.args.queue) c.args.finished ∷ Loaded (queued_at g.B.Site.sizes c.args.queue) n ∷ old) (omega (arith, most, all)))),
      least,
    )

pub run_all-requires-clause-due : goal.run_all-requires-clause-due
run_all-requires-clause-due g c =
    let q : ℕ = c.args.queue in
    let seen : Log = c.take_batch-taken.new.worker.me.0.seen in
    let due : (r : ℕ) → IsDue r (length (line_of seen r)) c.wait_for_readers.new.seat.me.0.seen = search rules in
    let least = c.in-Ok.ensures.least in
    let other = c.if-given-finished.false in
    let low : c.args.finished < c.in-Ok.given = omega (arith, least, other) in
    let took = c.in-Ok.ensures.taken low in
    let most = took.batch.known low in
    let longer = line_longer took.counts.at seen q took.counts.before in
    let now = due q in
    let long = now.3 in
    ((now.0, now.1, now.2, omega (arith, most, longer, long)), c.wait_for_readers.ensures.seat.0.run)

pub run_all-requires-clause-list : goal.run_all-requires-clause-list
run_all-requires-clause-list g c =
    let qsbr = g.P.GracePlan.QSBR in
    let allows = g.K.ChainRule.allows in
    let least = c.in-Ok.ensures.least in
    let other = c.if-given-finished.false in
    let took = c.in-Ok.ensures.taken (omega (arith, least, other)) in
    let waited = goes_trans qsbr allows c.args.seat.now c.take_batch-taken.new.worker c.wait_for_readers.new.seat (goes_counted qsbr allows g.B.Site.sizes c.args.queue _ c.args.seat.now c.take_batch-taken.new.worker took.counts) c.wait_for_readers.ensures.seat.0 in
    (list_later g.row.D.coded.code g.D.Deleter.answers qsbr allows c.args.queue c.args.seat.now.me.0.seen c.wait_for_readers.new.seat.me.0.seen c.args.first c.args.finished c.args.list.now.items c.take_batch-taken.new.list.items waited.later waited.run c.take_batch-taken.ensures.list c.requires.list, c.in-Ok.ensures.room)

pub run_all-requires-clause-batch : goal.run_all-requires-clause-batch
run_all-requires-clause-batch g c =
    let least = c.in-Ok.ensures.least in
    let other = c.if-given-finished.false in
    let took = c.in-Ok.ensures.taken (omega (arith, least, other)) in
    let at : Log = took.counts.at in
    let seen : Log = c.wait_for_readers.new.seat.me.0.seen in
    let items = c.take_batch-taken.new.batch.items in
    let count = took.batch.count in
    let turned = c.reverse.ensures.items in
    let same = ap (λ (l : List (Item (JobValue g.row.D.Denot))). length l) turned ∙ length-reverse items in
    let again = ap reverse turned ∙ reverse-reverse items in
    let later : Begins at seen = begins_trans at c.take_batch-taken.new.worker.me.0.seen seen took.counts.before c.wait_for_readers.ensures.seat.0.later in
    (subst (InOrder c.args.queue seen c.args.finished) (sym again) (order_later c.args.queue at seen c.args.finished items later took.batch.placed), omega (arith, count, same))

pub returns-clause-seat : goal.returns-clause-seat
returns-clause-seat g c =
    let qsbr = g.P.GracePlan.QSBR in
    let allows = g.K.ChainRule.allows in
    let least = c.in-Ok.ensures.least in
    let other = c.if-given-finished.false in
    let took = c.in-Ok.ensures.taken (omega (arith, least, other)) in
    goes_trans qsbr allows c.args.seat.now c.take_batch-taken.new.worker c.run_all.new.seat (goes_counted qsbr allows g.B.Site.sizes c.args.queue _ c.args.seat.now c.take_batch-taken.new.worker took.counts)
    (goes_trans qsbr allows c.take_batch-taken.new.worker c.wait_for_readers.new.seat c.run_all.new.seat c.wait_for_readers.ensures.seat.0 c.run_all.ensures.seat)

pub returns-in_default-clause-seat : goal.returns-in_default-clause-seat
returns-in_default-clause-seat g c = goes_counted g.P.GracePlan.QSBR g.K.ChainRule.allows g.B.Site.sizes c.args.queue [] c.args.seat.now c.take_batch-taken.new.worker c.in_default.ensures.refused.1.0

pub returns-in_default-clause-list : goal.returns-in_default-clause-list
returns-in_default-clause-list g c =
    let n = c.in_default.ensures.refused.1.0 in
    list_later g.row.D.coded.code g.D.Deleter.answers g.P.GracePlan.QSBR g.K.ChainRule.allows c.args.queue c.args.seat.now.me.0.seen c.take_batch-taken.new.worker.me.0.seen c.args.first c.args.finished c.args.list.now.items c.take_batch-taken.new.list.items (begins_trans c.args.seat.now.me.0.seen n.at c.take_batch-taken.new.worker.me.0.seen n.after n.before) n.run c.take_batch-taken.ensures.list c.requires.list

pub returns-in_default-clause-round : goal.returns-in_default-clause-round
returns-in_default-clause-round g c = ((_, ap (λ m. m.0.looks) c.in_default.ensures.refused.1.0.view), refl)

pub returns-in_default-clause-memory : goal.returns-in_default-clause-memory
returns-in_default-clause-memory g c _ =
    let more = c.in_default.ensures.refused.1.1 in
    let n = c.in_default.ensures.refused.1.0 in
    let longer = line_longer n.at c.take_batch-taken.new.worker.me.0.seen c.args.queue n.before in
    inl (omega (arith, more, longer))

pub returns-then-given-finished-clause-seat : goal.returns-then-given-finished-clause-seat
returns-then-given-finished-clause-seat g c = let f = c.in-Ok.ensures.found (search rules) in goes_counted g.P.GracePlan.QSBR g.K.ChainRule.allows g.B.Site.sizes c.args.queue [] c.args.seat.now c.take_batch-taken.new.worker f.0

pub returns-then-given-finished-clause-list : goal.returns-then-given-finished-clause-list
returns-then-given-finished-clause-list g c =
    let f = c.in-Ok.ensures.found (search rules) in
    let n = f.0 in
    list_later g.row.D.coded.code g.D.Deleter.answers g.P.GracePlan.QSBR g.K.ChainRule.allows c.args.queue c.args.seat.now.me.0.seen c.take_batch-taken.new.worker.me.0.seen c.args.first c.args.finished c.args.list.now.items c.take_batch-taken.new.list.items (begins_trans c.args.seat.now.me.0.seen n.at c.take_batch-taken.new.worker.me.0.seen n.after n.before) n.run c.take_batch-taken.ensures.list c.requires.list

pub returns-then-given-finished-clause-round : goal.returns-then-given-finished-clause-round
returns-then-given-finished-clause-round g c = let f = c.in-Ok.ensures.found (search rules) in ((_, ap (λ m. m.0.looks) f.0.view), refl)

pub returns-then-is_err-clause-exhausted : goal.returns-then-is_err-clause-exhausted
returns-then-is_err-clause-exhausted g c _ =
    let old : View = c.args.seat.now.me.0 in
    let now : View = c.take_batch-taken.new.worker.me.0 in
    let new : View = c.wait_for_readers.new.seat.me.0 in
    let least = c.in-Ok.ensures.least in
    let other = c.if-given-finished.false in
    let took = c.in-Ok.ensures.taken (omega (arith, least, other)) in
    let x : FoundUsedUp now.seen new.seen now.loads new.loads = search rules in
    used_up_since old.seen now.seen new.seen old.loads now.loads new.loads (begins_trans old.seen took.counts.at now.seen took.counts.after took.counts.before) [] (ap (λ m. m.0.loads) took.counts.view) x
