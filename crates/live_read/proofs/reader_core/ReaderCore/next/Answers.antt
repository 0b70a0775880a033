use Rattle.live_read.proofs.Cited.{refl, ap, View}
use Rattle.live_read.proofs.Finding.{stands, held_on, looks, next_none, next_some}
use Rattle.live_read.proofs.reader_core.ReaderCore.next.Goals as goal

pub returns-then-word-eq0-clause-looked : goal.returns-then-word-eq0-clause-looked
returns-then-word-eq0-clause-looked g c = let q = g.P.GracePlan.QSBR in let a = g.K.ChainRule.allows in let r = c.args.self.now in looks q a r _ refl refl refl refl c.load_link-word.ensures.looked.1 c.load_link-word.ensures.looked.2 (c.load_link-word.ensures.known.1 _ _ (stands q a r refl c.requires.open_section))

pub returns-clause-looked : goal.returns-clause-looked
returns-clause-looked g c = let q = g.P.GracePlan.QSBR in let a = g.K.ChainRule.allows in let r = c.args.self.now in looks q a r _ refl refl refl refl c.load_link-word.ensures.looked.1 c.load_link-word.ensures.looked.2 (c.load_link-word.ensures.known.1 _ _ (stands q a r refl c.requires.open_section))

pub returns-then-word-eq0-clause-still : goal.returns-then-word-eq0-clause-still
returns-then-word-eq0-clause-still g c = let q = g.P.GracePlan.QSBR in let a = g.K.ChainRule.allows in let r = c.args.self.now in held_on q a r _ _ (looks q a r _ refl refl refl refl c.load_link-word.ensures.looked.1 c.load_link-word.ensures.looked.2 (c.load_link-word.ensures.known.1 _ _ (stands q a r refl c.requires.open_section))) c.requires.held

pub returns-clause-still : goal.returns-clause-still
returns-clause-still g c = let q = g.P.GracePlan.QSBR in let a = g.K.ChainRule.allows in let r = c.args.self.now in held_on q a r _ _ (looks q a r _ refl refl refl refl c.load_link-word.ensures.looked.1 c.load_link-word.ensures.looked.2 (c.load_link-word.ensures.known.1 _ _ (stands q a r refl c.requires.open_section))) c.requires.held

pub returns-then-word-eq0-clause-none : goal.returns-then-word-eq0-clause-none
returns-then-word-eq0-clause-none g c = let q = g.P.GracePlan.QSBR in let a = g.K.ChainRule.allows in let r = c.args.self.now in next_none q a r c.load_link-word.new.seat.me.0 c.load_link-word.result c.args.held.cell refl c.requires.open_section c.load_link-word.ensures.next c.if-word-eq0.true

pub returns-clause-some : goal.returns-clause-some
returns-clause-some g c = let q = g.P.GracePlan.QSBR in let a = g.K.ChainRule.allows in let r = c.args.self.now in next_some q a r c.load_link-word.new.seat.me.0 c.load_link-word.result c.args.held.cell refl c.requires.open_section c.load_link-word.ensures.next _ refl (ap (λ (v : View). v.sizes) c.load_link-word.ensures.looked.1) (looks q a r _ refl refl refl refl c.load_link-word.ensures.looked.1 c.load_link-word.ensures.looked.2 (c.load_link-word.ensures.known.1 _ _ (stands q a r refl c.requires.open_section))) c.if-word-eq0.false

pub returns-clause-held : goal.returns-clause-held
returns-clause-held g c = let q = g.P.GracePlan.QSBR in let a = g.K.ChainRule.allows in let r = c.args.self.now in
    let x = next_some q a r c.load_link-word.new.seat.me.0 c.load_link-word.result c.args.held.cell refl c.requires.open_section c.load_link-word.ensures.next _ refl (ap (λ (v : View). v.sizes) c.load_link-word.ensures.looked.1) (looks q a r _ refl refl refl refl c.load_link-word.ensures.looked.1 c.load_link-word.ensures.looked.2 (c.load_link-word.ensures.known.1 _ _ (stands q a r refl c.requires.open_section))) c.if-word-eq0.false c.requires.held.object c.requires.held.holds in
    record { object = x.0; holds = x.2 }
