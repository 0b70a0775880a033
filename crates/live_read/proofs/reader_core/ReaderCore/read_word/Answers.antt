use Rattle.std.proofs.Common.{refl}
use Rattle.live_read.proofs.Finding.{stands, held_on, looks, may_read}
use Rattle.live_read.proofs.reader_core.ReaderCore.read_word.Goals as goal

pub returns-clause-looked : goal.returns-clause-looked
returns-clause-looked g c = let q = g.P.GracePlan.QSBR in let a = g.K.ChainRule.allows in let r = c.args.self.now in looks q a r _ refl refl refl refl c.load_word.ensures.looked.1 c.load_word.ensures.looked.2 (c.load_word.ensures.known.1 _ _ (stands q a r refl c.requires.open_section.0))

pub returns-clause-still : goal.returns-clause-still
returns-clause-still g c = let q = g.P.GracePlan.QSBR in let a = g.K.ChainRule.allows in let r = c.args.self.now in held_on q a r _ _ (looks q a r _ refl refl refl refl c.load_word.ensures.looked.1 c.load_word.ensures.looked.2 (c.load_word.ensures.known.1 _ _ (stands q a r refl c.requires.open_section.0))) c.requires.held

pub returns-clause-word : goal.returns-clause-word
returns-clause-word g c o x = let q = g.P.GracePlan.QSBR in let a = g.K.ChainRule.allows in let r = c.args.self.now in c.load_word.ensures.word o (may_read q a r o c.args.held.cell refl c.requires.open_section.0 x)
