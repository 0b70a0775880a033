use Rattle.rcu_list.proofs.Cited.{ℕ, List, ◌∙◌, ap, sym, slice_index_or, looks_twice}
use Rattle.rcu_list.proofs.view.ListView.entry_at.Goals as goal

pub returns-clause-looked : goal.returns-clause-looked
returns-clause-looked g c = looks_twice g.P.GracePlan.QSBR g.K.ChainRule.allows c.args.section.now.reader.now.core c.read_word-key.new.self.reader.now.core c.read_word-value.new.self.reader.now.core c.read_word-key.ensures.looked c.read_word-value.ensures.looked

pub returns-clause-entry : goal.returns-clause-entry
returns-clause-entry g c o held = let keeps = c.read_word-key.ensures.looked.keeps in
    (sym (c.read_word-key.ensures.word o held), ap (λ (x : ℕ × List ℕ). slice_index_or x.1 1 0) (sym (keeps.notes o c.args.held.cell held)) ∙ sym (c.read_word-value.ensures.word o (keeps.held o c.args.held.cell held)))
