use Rattle.live_write.proofs.Cited.{◌≡◌, ℕ, ◌∙◌, ◌-◌, ◌<◌, IfSome, arith, ap, sym, subst, slice_get, Some, Sizes, View, own_in}
use Rattle.live_write.proofs.Walking.{here_index, may_read, goes_on, is_before, low_before}
use Rattle.live_write.proofs.walk.find.Goals as goal

pub load_link-link-requires : goal.load_link-link-requires
load_link-link-requires g c =
    let i = c.loop-passed.invariant in let s = i.1 in let more = c.loop-passed-test.true in let index = c.requires.index in
    let h = here_index g.P.GracePlan.QSBR g.K.ChainRule.allows c.args.seat.now.me c.requires.right.0 c.loop-passed.seat.me c.loop-passed._passed c.loop-passed.before c.loop-passed.link s (omega arith) in
    let low = h.low in let sized = c.args.table.now.sized.6 in let sizes = ap (λ (k : Sizes). k.pool) c.requires.seat.1 in
    (i.0.0 ∙ c.requires.seat.0, ap (λ (u : View). u.sizes) s.went.1 ∙ c.requires.seat.1, omega arith)

pub loop-passed-preserved : goal.loop-passed-preserved
loop-passed-preserved g c =
    let i = c.loop-passed.invariant in let s = i.1 in let e = c.load_link-link.ensures in let more = c.loop-passed-test.true in let index = c.requires.index in
    let qsbr = g.P.GracePlan.QSBR in let allows = g.K.ChainRule.allows in let old = c.args.seat.now.me in let own = c.requires.right.0 in let m = c.loop-passed.seat.me in let n = c.loop-passed._passed in let word = c.loop-passed.link in
    let h = here_index qsbr allows old own m n c.loop-passed.before word s (omega arith) in
    ((e.seat.0 ∙ i.0.0, e.seat.1 ∙ i.0.1), goes_on qsbr allows old own m n c.loop-passed.before word s h c.load_link-link.new.seat.me c.load_link-link.result e.looked e.known.0 (e.next h.object (may_read qsbr allows old own m n c.loop-passed.before word s h)))

pub returns-clause-low : goal.returns-clause-low
returns-clause-low g c =
    let s = c.loop-passed.invariant.1 in let done = c.loop-passed-test.false in let most = c.loop-passed.auto._passed-end in let index = c.requires.index in
    let h = here_index g.P.GracePlan.QSBR g.K.ChainRule.allows c.args.seat.now.me c.requires.right.0 c.loop-passed.seat.me c.loop-passed._passed c.loop-passed.before c.loop-passed.link s (omega arith) in
    let pool : c.args.seat.now.me.0.sizes.pool ≡ c.args.table.now.pool = ap (λ (k : Sizes). k.pool) c.requires.seat.1 ∙ sym c.args.table.now.sized.6 in
    (subst (λ (n : ℕ). IfSome c.loop-passed.before (λ j. j < n)) pool (low_before g.P.GracePlan.QSBR g.K.ChainRule.allows c.args.seat.now.me c.requires.right.0 c.loop-passed.seat.me c.loop-passed._passed c.loop-passed.before c.loop-passed.link s), subst (λ (n : ℕ). c.loop-passed.link - 1 < n) pool h.low)

pub returns-clause-found : goal.returns-clause-found
returns-clause-found g c =
    let s = c.loop-passed.invariant.1 in let done = c.loop-passed-test.false in let most = c.loop-passed.auto._passed-end in let index = c.requires.index in
    let qsbr = g.P.GracePlan.QSBR in let allows = g.K.ChainRule.allows in let old = c.args.seat.now.me in let own = c.requires.right.0 in let m = c.loop-passed.seat.me in let n = c.loop-passed._passed in let word = c.loop-passed.link in
    let h = here_index qsbr allows old own m n c.loop-passed.before word s (omega arith) in
    let all : n ≡ c.args.index = omega arith in
    (s.place, h.object, subst (λ (k : ℕ). slice_get (own_in old.0.chains).objects k ≡ Some h.object) all h.at, s.there, is_before qsbr allows old own m n c.loop-passed.before word s h, h.cell)
