use Rattle.live_read.proofs.Cited.{rules, ◌≡◌, ℕ, sym, refl, ap, subst, IsOpen, state_of, section, count_in, View}
use Rattle.live_read.proofs.Finding.{stands, looks, first_some}
use Rattle.live_read.proofs.reader_core.ReaderCore.first.Goals as goal

pub returns-then-word-eq0-clause-looked : goal.returns-then-word-eq0-clause-looked
returns-then-word-eq0-clause-looked g c = let q = g.P.GracePlan.QSBR in let a = g.K.ChainRule.allows in let r = c.args.self.now in
    (search rules, looks q a r _ refl refl refl refl c.load_head-word.ensures.looked.1 c.load_head-word.ensures.looked.2 (c.load_head-word.ensures.known.1 _ _ (stands q a r refl c.requires)))

pub returns-clause-looked : goal.returns-clause-looked
returns-clause-looked g c = let q = g.P.GracePlan.QSBR in let a = g.K.ChainRule.allows in let r = c.args.self.now in
    (search rules, looks q a r _ refl refl refl refl c.load_head-word.ensures.looked.1 c.load_head-word.ensures.looked.2 (c.load_head-word.ensures.known.1 _ _ (stands q a r refl c.requires)))

pub returns-clause-some : goal.returns-clause-some
returns-clause-some g c = let q = g.P.GracePlan.QSBR in let a = g.K.ChainRule.allows in let r = c.args.self.now in let word = c.load_head-word in
    let same : count_in word.new.seat.me.0.slot ≡ count_in r.seat.me.0.slot = ap (λ (v : View). count_in v.slot) word.ensures.looked.1 in
    first_some q a _ c.args.chain word.result r.seat.me.0.sizes.pool (ap (λ (v : View). v.sizes.pool) (sym word.ensures.looked.1))
    (subst (λ (n : ℕ). IsOpen (state_of word.new.seat.me.0.seen) (section r.slot n)) (sym same) (word.ensures.known.1 _ _ (stands q a r refl c.requires)))
    word.ensures.first.0 c.if-word-eq0.false (λ o f. (word.ensures.first.1 o f).0)
