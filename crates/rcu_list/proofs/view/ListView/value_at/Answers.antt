use Rattle.rcu_list.proofs.Cited.{ℕ, List, ◌∙◌, ap, sym, slice_index_or, looks_twice}
use Rattle.rcu_list.proofs.view.ListView.value_at.Goals as goal

pub returns-clause-looked : goal.returns-clause-looked
returns-clause-looked g c = looks_twice g.P.GracePlan.QSBR g.K.ChainRule.allows c.args.section.now.reader.now.core c.read_word.new.self.reader.now.core c.read_word-2.new.self.reader.now.core c.read_word.ensures.looked c.read_word-2.ensures.looked

pub returns-clause-some : goal.returns-clause-some
returns-clause-some g c o held = let keeps = c.read_word.ensures.looked.keeps in
    (sym (c.read_word.ensures.word o held) ∙ c.if-read_word-key.false, ap (λ (x : ℕ × List ℕ). slice_index_or x.1 1 0) (sym (keeps.notes o c.args.held.cell held)) ∙ sym (c.read_word-2.ensures.word o (keeps.held o c.args.held.cell held)))
