use Rattle.live_write.proofs.Cited.{◌∙◌, ◌-◌, Some, arith, ap, Sizes, View}
use Rattle.live_write.proofs.Walking.{here_word, may_read, goes_on}
use Rattle.live_write.proofs.walk.count.Goals as goal

pub load_link-link-requires : goal.load_link-link-requires
load_link-link-requires g c =
    let i = c.loop-passed.invariant in let s = i.1.1 in
    let h = here_word g.P.GracePlan.QSBR g.K.ChainRule.allows c.args.seat.now.me c.requires.right.0 c.loop-passed.seat.me c.loop-passed.passed i.1.0 c.loop-passed.link s c.if-link-eq0.false in
    let low = h.low in let sized = c.args.table.now.sized.6 in let sizes = ap (λ (k : Sizes). k.pool) c.requires.seat.1 in
    (i.0.0 ∙ c.requires.seat.0, ap (λ (u : View). u.sizes) s.went.1 ∙ c.requires.seat.1, omega arith)

pub loop-passed-preserved : goal.loop-passed-preserved
loop-passed-preserved g c =
    let i = c.loop-passed.invariant in let s = i.1.1 in let e = c.load_link-link.ensures in
    let qsbr = g.P.GracePlan.QSBR in let allows = g.K.ChainRule.allows in let old = c.args.seat.now.me in let own = c.requires.right.0 in let m = c.loop-passed.seat.me in let n = c.loop-passed.passed in let word = c.loop-passed.link in
    let h = here_word qsbr allows old own m n i.1.0 word s c.if-link-eq0.false in
    ((e.seat.0 ∙ i.0.0, e.seat.1 ∙ i.0.1), (Some (word - 1), goes_on qsbr allows old own m n i.1.0 word s h c.load_link-link.new.seat.me c.load_link-link.result e.looked e.known.0 (e.next h.object (may_read qsbr allows old own m n i.1.0 word s h))))
