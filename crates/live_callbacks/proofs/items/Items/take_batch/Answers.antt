use Rattle.live_callbacks.proofs.Cited.{rules, ◌≡◌, ℕ, List, ◌+◌, length, sym, ap, ◌∙◌, subst, Item, given_of, Log, Begins, Sizes, finished_at, queued_at, Went, looked_view}
use Rattle.live_callbacks.specs.Items.{IsBatch, IsUnderLock, JobValue}
use Rattle.live_callbacks.proofs.Counting.{finds_more, finds_none, takes}
use Rattle.live_callbacks.proofs.Orders.{batch_of}
use Rattle.live_callbacks.proofs.items.Items.take_batch.Goals as goal

pub returns-then-queued-finished-clause-found : goal.returns-then-queued-finished-clause-found
returns-then-queued-finished-clause-found g c _ =
    let told = c.tell.ensures.4 in
    let x = c.load_queued-queued.ensures in
    let looked = subst (λ (k : Sizes). Went g.P.GracePlan.QSBR g.K.ChainRule.allows (looked_view (queued_at k c.args.queue) c.load_queued-queued.result c.learn.new.seat.me.0) c.learn.new.seat.me c.load_queued-queued.new.seat.me) c.requires.site.1 x.looked in
    finds_none g.P.GracePlan.QSBR g.K.ChainRule.allows g.B.Site.sizes c.args.queue c.load_queued-queued.result c.args.finished c.args.worker.now c.learn.new.seat c.load_queued-queued.new.seat c.tell.result.me.0 c.learn.ensures (ap (λ m. m.0.looks) told) (ap (λ m. m.0.loads) told) x.seat looked x.count.0 (search rules)

pub returns-then-given-queued-clause-refused : goal.returns-then-given-queued-clause-refused
returns-then-given-queued-clause-refused g c =
    let told = c.tell.ensures.4 in
    let x = c.load_queued-queued.ensures in
    let looked = subst (λ (k : Sizes). Went g.P.GracePlan.QSBR g.K.ChainRule.allows (looked_view (queued_at k c.args.queue) c.load_queued-queued.result c.learn.new.seat.me.0) c.learn.new.seat.me c.load_queued-queued.new.seat.me) c.requires.site.1 x.looked in
    (search rules, finds_more g.P.GracePlan.QSBR g.K.ChainRule.allows g.B.Site.sizes c.args.queue c.load_queued-queued.result c.args.finished c.args.worker.now c.learn.new.seat c.load_queued-queued.new.seat c.tell.result.me.0 c.learn.ensures (ap (λ m. m.0.looks) told) (ap (λ m. m.0.loads) told) x.seat looked x.count.0 (search rules))

pub returns-then-is_err-clause-refused : goal.returns-then-is_err-clause-refused
returns-then-is_err-clause-refused g c =
    let told = c.tell.ensures.4 in
    let x = c.load_queued-queued.ensures in
    let looked = subst (λ (k : Sizes). Went g.P.GracePlan.QSBR g.K.ChainRule.allows (looked_view (queued_at k c.args.queue) c.load_queued-queued.result c.learn.new.seat.me.0) c.learn.new.seat.me c.load_queued-queued.new.seat.me) c.requires.site.1 x.looked in
    (search rules, finds_more g.P.GracePlan.QSBR g.K.ChainRule.allows g.B.Site.sizes c.args.queue c.load_queued-queued.result c.args.finished c.args.worker.now c.learn.new.seat c.load_queued-queued.new.seat c.tell.result.me.0 c.learn.ensures (ap (λ m. m.0.looks) told) (ap (λ m. m.0.loads) told) x.seat looked x.count.0 (search rules))

pub returns-clause-taken : goal.returns-clause-taken
returns-clause-taken g c _ =
    let q : ℕ = c.args.queue in
    let key : Sizes = g.B.Site.sizes in
    let told = c.tell.ensures.4 in
    let x = c.load_queued-queued.ensures in
    let looked = subst (λ (k : Sizes). Went g.P.GracePlan.QSBR g.K.ChainRule.allows (looked_view (queued_at k c.args.queue) c.load_queued-queued.result c.learn.new.seat.me.0) c.learn.new.seat.me c.load_queued-queued.new.seat.me) c.requires.site.1 x.looked in
    let y = c.load_finished-finished.ensures in
    let again = subst (λ (k : Sizes). Went g.P.GracePlan.QSBR g.K.ChainRule.allows (looked_view (finished_at k q) c.load_finished-finished.result c.load_queued-queued.new.seat.me.0) c.load_queued-queued.new.seat.me c.load_finished-finished.new.seat.me) c.requires.site.1 y.looked in
    let jobs = c.self.inside.queue in
    let number : c.self.inside.number ≡ q = ap (λ z. z.2) c.self.view_is ∙ c.requires.queue in
    let under = subst (λ (n : ℕ). IsUnderLock key jobs c.self.inside.seat.me.0 n) number c.self.invariant.2 in
    let later : Begins c.self.inside.seat.me.0.seen c.load_queued-queued.new.seat.me.0.seen = subst (λ (l : Log). Begins l c.load_queued-queued.new.seat.me.0.seen) (ap (λ m. m.0.heard) c.learn.ensures.2 ∙ ap (λ m. m.0.seen) told) x.looked.2.1 in
    let count : c.args.finished + length jobs.fresh ≡ c.load_queued-queued.result = search rules in
    let given : given_of jobs ≡ c.load_queued-queued.result = search rules in
    let out : c.take_waiting.new.list.items ≡ jobs.fresh = search rules in
    takes g.P.GracePlan.QSBR g.K.ChainRule.allows g.B.Site.sizes c.args.queue c.load_queued-queued.result c.args.finished c.args.worker.now c.learn.new.seat c.load_queued-queued.new.seat c.tell.result.me.0 c.learn.ensures (ap (λ m. m.0.looks) told) (ap (λ m. m.0.loads) told) x.seat looked x.count.0 c.load_finished-finished.result c.load_queued-queued.result c.load_finished-finished.new.seat c.take_waiting.new.list.items y.seat again (y.own c.args.finished (search rules))
    (subst (λ (items : List (Item (JobValue g.row.C.Denot))). IsBatch q c.load_queued-queued.new.seat.me.0.seen c.args.finished c.load_queued-queued.result items) (sym out)
    (batch_of key jobs c.self.inside.seat.me.0 q c.load_queued-queued.new.seat.me.0.seen c.args.finished c.load_queued-queued.result under later count given (sym x.count.0)))
