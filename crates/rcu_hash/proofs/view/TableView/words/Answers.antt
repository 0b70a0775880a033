use Rattle.rcu_hash.proofs.Cited.{tabled, looks_twice, ℕ, ◌∙◌, List, ap, slice_index_or}
use Rattle.rcu_hash.proofs.view.TableView.words.Goals as goal

pub returns-clause-looked : goal.returns-clause-looked
returns-clause-looked g c =
    let q = g.P.GracePlan.QSBR in let r = c.args.section.now.reader.now.core in let s = c.read_word-kind.new.self.reader.now.core in let t = c.read_word-first.new.self.reader.now.core in let u = c.read_word-buckets.new.self.reader.now.core in
    looks_twice q tabled r t u (looks_twice q tabled r s t c.read_word-kind.ensures.looked c.read_word-first.ensures.looked) c.read_word-buckets.ensures.looked

pub returns-clause-words : goal.returns-clause-words
returns-clause-words g c o held =
    let a = c.read_word-kind.ensures in let b = c.read_word-first.ensures in
    let then = a.looked.keeps.held o c.args.held.cell held in let last = b.looked.keeps.held o c.args.held.cell then in
    let one = a.looked.keeps.notes o c.args.held.cell held in let two = b.looked.keeps.notes o c.args.held.cell then ∙ one in (
      a.word o held,
      b.word o then ∙ ap (λ (x : ℕ × List ℕ). slice_index_or x.1 0 0) one,
      c.read_word-buckets.ensures.word o last ∙ ap (λ (x : ℕ × List ℕ). slice_index_or x.1 1 0) two,
    )
