use Rattle.rcu_hash.proofs.Cited.{tabled, looks_twice, log_of, [], ◌∙◌, ◌<◌, ◌++◌, refl, arith, folds_both, went_nowhere, went_on, HadThrough, through_later, bucket_answers, walk_stops, walk_ends}
use Rattle.rcu_hash.proofs.view.TableView.walk.Goals as goal

pub loop-number-init : goal.loop-number-init
loop-number-init g c =
    let f = c.requires.first in let r = c.args.section.now.reader.now.core in let w = c.words-kind.ensures in record {
      reader = w.reader;
      looked = w.looked;
      callable = c.requires.callable;
      met = [];
      went = went_nowhere c.words-kind.result.2 (HadThrough g.P.GracePlan.QSBR c.args.self.chains c.args.self.directory r f.0 f.1 c.words-kind.result.0 c.words-kind.result.1 c.words-kind.result.2 (w.words f.0 f.2)) (log_of c.words-kind.new.section.reader.now.core);
      ran = refl;
    }

pub loop-number-preserved : goal.loop-number-preserved
loop-number-preserved g c =
    let q = g.P.GracePlan.QSBR in let chains = c.args.self.chains in let d = c.args.self.directory in let f = c.requires.first in let r = c.args.section.now.reader.now.core in let w = c.words-kind.ensures in
    let kind = c.words-kind.result.0 in let first = c.words-kind.result.1 in let many = c.words-kind.result.2 in let words = w.words f.0 f.2 in let number = c.loop-number.number in
    let i = c.loop-number.invariant in let e = c.for_each_of.ensures in let m = e.met in let s = c.loop-number.section.reader.now.core in let t = c.for_each_of.new.section.reader.now.core in let some = c.in-Some.ensures.some in
    let below : number < many = c.loop-number-test.true in record {
      reader = e.reader ∙ i.reader;
      looked = looks_twice q tabled r s t i.looked e.looked;
      callable = e.callable;
      met = i.met ++ m.0;
      went = went_on many (HadThrough q chains d r f.0 f.1 kind first many words) (through_later q chains d r f.0 f.1 kind first many words) (log_of s) s.seat.me.0.heard (log_of t) number c.at.result.chain i.met m.0
          (bucket_answers q chains d r f.0 f.1 kind first many words s t c.requires.inside i.looked e.looked number c.at.result.chain below some.0 (c.at.ensures ∙ some.1)) e.looked.later.after_seen i.went m.1;
      ran = folds_both (λ f' y h. goal.F-step g f' y.0 y.1 tt h) c.args.visit.now c.loop-number.visit c.for_each_of.new.visit i.met m.0 i.ran m.2;
    }

pub returns-in_default-clause-met : goal.returns-in_default-clause-met
returns-in_default-clause-met g c =
    let f = c.requires.first in let r = c.args.section.now.reader.now.core in let i = c.loop-number.invariant in (
      i.met,
      walk_stops g.P.GracePlan.QSBR c.args.self.chains c.args.self.directory r f.0 f.1 c.words-kind.result.0 c.words-kind.result.1 c.words-kind.result.2 (c.words-kind.ensures.words f.0 f.2) (log_of c.loop-number.section.reader.now.core) i.looked.later.after_seen c.loop-number.number i.met i.went c.loop-number-test.true c.in_default.ensures.none,
      i.ran,
    )

pub returns-clause-met : goal.returns-clause-met
returns-clause-met g c =
    let f = c.requires.first in let r = c.args.section.now.reader.now.core in let i = c.loop-number.invariant in let all = c.loop-number-test.false in let end = c.loop-number.auto.number-end in (
      i.met,
      walk_ends g.P.GracePlan.QSBR c.args.self.chains c.args.self.directory r f.0 f.1 c.words-kind.result.0 c.words-kind.result.1 c.words-kind.result.2 (c.words-kind.ensures.words f.0 f.2) (log_of c.loop-number.section.reader.now.core) i.looked.later.after_seen c.loop-number.number i.met i.went (omega arith),
      i.ran,
    )
