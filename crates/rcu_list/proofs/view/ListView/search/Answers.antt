use Rattle.rcu_list.proofs.Cited.{◌≡◌, sym, ap, ◌∙◌, subst, arith, rank_of, record_of, log_of, looks_twice}
use Rattle.rcu_list.specs.Maps.{AnswersBetween}
use Rattle.rcu_list.proofs.Looking.{answers_next, answers_none, stands_first, stands_next}
use Rattle.rcu_list.proofs.view.ListView.search.Goals as goal

pub read_word-most-requires-clause-held : goal.read_word-most-requires-clause-held
read_word-most-requires-clause-held g c = let f = c.requires.first in record { object = f.0; holds = c.value_at.ensures.looked.keeps.held f.0 c.args.first.cell f.2 }

pub loop-passed-init : goal.loop-passed-init
loop-passed-init g c =
    let f = c.requires.first in let start = c.args.section.now.reader.now.core in let mid = c.value_at.new.section.reader.now.core in let now = c.read_word-most.new.self.reader.now.core in let e = c.in_default.ensures in let m = c.read_word-most.ensures in
    let looked = looks_twice g.P.GracePlan.QSBR g.K.ChainRule.allows start mid now e.looked m.looked in
    let held = e.looked.keeps.held f.0 c.args.first.cell f.2 in
    record {
      reader = m.reader ∙ e.reader;
      object = f.0;
      stands = stands_first g.P.GracePlan.QSBR g.K.ChainRule.allows c.args.self.chain c.args.key start (g.met.K.MapRule.maps g.P.GracePlan.QSBR) now f.0 c.args.first.cell looked f.1 f.2 (e.none f.0 f.2);
      low = let most : c.read_word-most.result ≡ rank_of (record_of (log_of mid) f.0) = m.word f.0 held in
          let same : rank_of (record_of (log_of now) f.0) ≡ rank_of (record_of (log_of mid) f.0) = ap rank_of (m.looked.keeps.notes f.0 c.args.first.cell held) in omega arith;
    }

pub returns-in_err-held-clause-looked : goal.returns-in_err-held-clause-looked
returns-in_err-held-clause-looked g c = looks_twice g.P.GracePlan.QSBR g.K.ChainRule.allows c.args.section.now.reader.now.core c.loop-passed.section.reader.now.core c.next.new.self.reader.now.core c.loop-passed.invariant.stands.looked c.next.ensures.looked

pub returns-in_err-held-clause-window : goal.returns-in_err-held-clause-window
returns-in_err-held-clause-window g c =
    let i = c.loop-passed.invariant in let start = c.args.section.now.reader.now.core in let now = c.next.new.self.reader.now.core in
    subst (AnswersBetween (log_of start) (log_of start) (log_of now) c.args.self.chain c.args.key) (sym c.from_residual.ensures)
    (answers_none g.P.GracePlan.QSBR g.K.ChainRule.allows c.args.self.chain c.args.key start (g.met.K.MapRule.maps g.P.GracePlan.QSBR) c.loop-passed.section.reader.now.core now i.object c.loop-passed.held.cell i.stands c.next.ensures.looked (c.in_err-held.ensures.none i.object i.stands.holds))

pub returns-in-Some-value_at-clause-looked : goal.returns-in-Some-value_at-clause-looked
returns-in-Some-value_at-clause-looked g c =
    let start = c.args.section.now.reader.now.core in let mid = c.next.new.self.reader.now.core in
    looks_twice g.P.GracePlan.QSBR g.K.ChainRule.allows start mid c.value_at-in-loop-passed.new.section.reader.now.core
    (looks_twice g.P.GracePlan.QSBR g.K.ChainRule.allows start c.loop-passed.section.reader.now.core mid c.loop-passed.invariant.stands.looked c.next.ensures.looked) c.value_at-in-loop-passed.ensures.looked

pub returns-in-Some-value_at-clause-window : goal.returns-in-Some-value_at-clause-window
returns-in-Some-value_at-clause-window g c =
    let i = c.loop-passed.invariant in let e = c.in-Some-value_at.ensures in let n = c.in_ok-held.ensures.some i.object i.stands.holds in let is = e.some n.0 n.2 in
    answers_next g.P.GracePlan.QSBR g.K.ChainRule.allows c.args.self.chain c.args.key c.args.section.now.reader.now.core (g.met.K.MapRule.maps g.P.GracePlan.QSBR) c.loop-passed.section.reader.now.core c.next.new.self.reader.now.core i.object c.loop-passed.held.cell i.stands c.next.ensures.looked n.0 n.1
    c.value_at-in-loop-passed.new.section.reader.now.core c.in-Some-value_at.value e.looked is.0 is.1

pub loop-passed-preserved : goal.loop-passed-preserved
loop-passed-preserved g c =
    let i = c.loop-passed.invariant in let e = c.in_default-value_at.ensures in let n = c.in_ok-held.ensures.some i.object i.stands.holds in
    let next = stands_next g.P.GracePlan.QSBR g.K.ChainRule.allows c.args.self.chain c.args.key c.args.section.now.reader.now.core (g.met.K.MapRule.maps g.P.GracePlan.QSBR) c.loop-passed.section.reader.now.core c.next.new.self.reader.now.core i.object c.loop-passed.held.cell i.stands c.next.ensures.looked n.0 n.1
    c.value_at-in-loop-passed.new.section.reader.now.core c.in_ok-held.held.cell n.2 e.looked (e.none n.0 n.2) in
    record {
      reader = e.reader ∙ (c.next.ensures.reader ∙ i.reader);
      object = n.0;
      stands = next.0;
      low = let lower = next.1 in let low = i.low in omega arith;
    }
