use Rattle.rcu_hash.proofs.Cited.{tabled, looks_twice, ◌∙◌, false, answers_nowhere, leads_words, value_answers}
use Rattle.rcu_hash.proofs.view.TableView.look.Goals as goal

pub returns-in_default-clause-window : goal.returns-in_default-clause-window
returns-in_default-clause-window g c =
    let f = c.requires.first in let r = c.args.section.now.reader.now.core in let w = c.words-kind.ensures in
    answers_nowhere g.P.GracePlan.QSBR c.args.self.chains c.args.self.directory r c.words-kind.new.section.reader.now.core r f.0 f.1 c.args.key
    (leads_words g.P.GracePlan.QSBR c.args.self.chains c.args.self.directory r f.0 f.1 c.words-kind.result.0 c.words-kind.result.1 c.words-kind.result.2 (w.words f.0 f.2) c.args.key false c.in_default.ensures.none) w.looked.later.after_seen

pub returns-clause-looked : goal.returns-clause-looked
returns-clause-looked g c = looks_twice g.P.GracePlan.QSBR tabled c.args.section.now.reader.now.core c.words-kind.new.section.reader.now.core c.get.new.section.reader.now.core c.words-kind.ensures.looked c.get.ensures.looked

pub returns-clause-window : goal.returns-clause-window
returns-clause-window g c =
    let f = c.requires.first in let r = c.args.section.now.reader.now.core in let w = c.words-kind.ensures in let some = c.in-Some.ensures.some in
    value_answers g.P.GracePlan.QSBR c.args.self.chains c.args.self.directory r f.0 f.1 c.words-kind.result.0 c.words-kind.result.1 c.words-kind.result.2 (w.words f.0 f.2) c.words-kind.new.section.reader.now.core c.get.new.section.reader.now.core c.requires.inside w.looked c.get.ensures.looked
    c.args.key c.at.result.chain c.get.result some.0 (c.at.ensures ∙ some.1) c.get.ensures.window
