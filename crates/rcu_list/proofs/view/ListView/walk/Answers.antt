use Rattle.rcu_list.proofs.Cited.{◌≡◌, ℕ, ◌%◌, [], ◌∷◌, ◌++◌, refl, sym, ap, ◌∙◌, subst, ⊎_elim, arith, FoldsTo, FoldsTo-push, rank_of, record_of, log_of, looks_twice}
use Rattle.rcu_list.proofs.Going.{goes_by, goes_first, goes_first_by, goes_last, goes_lower, goes_next, goes_none}
use Rattle.rcu_list.proofs.view.ListView.walk.Goals as goal

pub read_word-rank-requires-clause-held : goal.read_word-rank-requires-clause-held
read_word-rank-requires-clause-held g c = let f = c.requires.first in record { object = f.0; holds = c.entry_at-entry.ensures.looked.keeps.held f.0 c.args.first.cell f.2 }

pub loop-passed-init : goal.loop-passed-init
loop-passed-init g c =
    let qsbr = g.P.GracePlan.QSBR in let allows = g.K.ChainRule.allows in let maps = g.met.K.MapRule.maps qsbr in
    let f = c.requires.first in let start = c.args.section.now.reader.now.core in let mid = c.entry_at-entry.new.section.reader.now.core in let now = c.read_word-rank.new.self.reader.now.core in
    let e = c.entry_at-entry.ensures in let m = c.read_word-rank.ensures in let entry = c.entry_at-entry.result in
    let wanted : ℕ → Type 0 = λ key. key % c.args.buckets ≡ c.args.bucket in
    let looked = looks_twice qsbr allows start mid now e.looked m.looked in
    let held = e.looked.keeps.held f.0 c.args.first.cell f.2 in let is = e.entry f.0 f.2 in
    let most : c.read_word-rank.result ≡ rank_of (record_of (log_of mid) f.0) = m.word f.0 held in
    let same : rank_of (record_of (log_of now) f.0) ≡ rank_of (record_of (log_of mid) f.0) = ap rank_of (m.looked.keeps.notes f.0 c.args.first.cell held) in
    ⊎_elim
    (λ x. record {
      reader = m.reader ∙ e.reader;
      callable = c.meet.ensures.callable;
      object = f.0;
      met = (entry.0, entry.1) ∷ [];
      goes = goes_first qsbr allows maps wanted c.args.self.chain start now f.0 c.args.first.cell looked f.1 f.2 entry.0 entry.1 is.0 is.1 x.0;
      low = omega arith;
      ran = (c.meet.new.visit, x.1, refl);
    })
    (λ x. record {
      reader = m.reader ∙ e.reader;
      callable = c.meet.ensures.callable;
      object = f.0;
      met = [];
      goes = goes_first_by qsbr allows maps wanted c.args.self.chain start now f.0 c.args.first.cell looked f.1 f.2 entry.0 entry.1 is.0 is.1 x.0;
      low = omega arith;
      ran = sym x.1;
    })
    c.meet.ensures.met

pub returns-in_default-clause-looked : goal.returns-in_default-clause-looked
returns-in_default-clause-looked g c = looks_twice g.P.GracePlan.QSBR g.K.ChainRule.allows c.args.section.now.reader.now.core c.loop-passed.section.reader.now.core c.next.new.self.reader.now.core c.loop-passed.invariant.goes.looked c.next.ensures.looked

pub returns-in_default-clause-met : goal.returns-in_default-clause-met
returns-in_default-clause-met g c =
    let qsbr = g.P.GracePlan.QSBR in let i = c.loop-passed.invariant in (
      i.met,
      goes_none qsbr g.K.ChainRule.allows (g.met.K.MapRule.maps qsbr) (λ key. key % c.args.buckets ≡ c.args.bucket) c.args.self.chain c.args.section.now.reader.now.core c.loop-passed.section.reader.now.core c.next.new.self.reader.now.core i.object c.loop-passed.held.cell i.met i.goes c.next.ensures.looked (c.in_default.ensures.none i.object i.goes.holds),
      i.ran,
    )

pub loop-passed-preserved : goal.loop-passed-preserved
loop-passed-preserved g c =
    let qsbr = g.P.GracePlan.QSBR in let allows = g.K.ChainRule.allows in let maps = g.met.K.MapRule.maps qsbr in
    let i = c.loop-passed.invariant in let start = c.args.section.now.reader.now.core in let r = c.loop-passed.section.reader.now.core in let s = c.next.new.self.reader.now.core in let t = c.entry_at-entry-in-loop-passed.new.section.reader.now.core in
    let e = c.entry_at-entry-in-loop-passed.ensures in let entry = c.entry_at-entry-in-loop-passed.result in let n = c.in-Some.ensures.some i.object i.goes.holds in let is = e.entry n.0 n.2 in
    let wanted : ℕ → Type 0 = λ key. key % c.args.buckets ≡ c.args.bucket in
    let lower = goes_lower qsbr allows maps wanted c.args.self.chain start r s i.object c.loop-passed.held.cell i.met i.goes c.next.ensures.looked n.0 n.1 t c.in-Some.next.cell n.2 e.looked entry.0 entry.1 is.0 is.1 in
    let low = i.low in
    ⊎_elim
    (λ x. record {
      reader = e.reader ∙ (c.next.ensures.reader ∙ i.reader);
      callable = c.meet-in-loop-passed.ensures.callable;
      object = n.0;
      met = i.met ++ (entry.0, entry.1) ∷ [];
      goes = goes_next qsbr allows maps wanted c.args.self.chain start r s i.object c.loop-passed.held.cell i.met i.goes c.next.ensures.looked n.0 n.1 t c.in-Some.next.cell n.2 e.looked entry.0 entry.1 is.0 is.1 x.0;
      low = omega arith;
      ran = FoldsTo-push (λ f y h. goal.F-step g f y.0 y.1 tt h) c.args.visit.now i.met c.loop-passed.visit (entry.0, entry.1) c.meet-in-loop-passed.new.visit i.ran x.1;
    })
    (λ x. record {
      reader = e.reader ∙ (c.next.ensures.reader ∙ i.reader);
      callable = c.meet-in-loop-passed.ensures.callable;
      object = n.0;
      met = i.met;
      goes = goes_by qsbr allows maps wanted c.args.self.chain start r s i.object c.loop-passed.held.cell i.met i.goes c.next.ensures.looked n.0 n.1 t c.in-Some.next.cell n.2 e.looked entry.0 entry.1 is.0 is.1 x.0;
      low = omega arith;
      ran = subst (λ f. FoldsTo (λ f' y h. goal.F-step g f' y.0 y.1 tt h) c.args.visit.now i.met f) (sym x.1) i.ran;
    })
    c.meet-in-loop-passed.ensures.met

pub returns-clause-met : goal.returns-clause-met
returns-clause-met g c =
    let qsbr = g.P.GracePlan.QSBR in let i = c.loop-passed.invariant in let low = i.low in let all = c.loop-passed-test.false in (
      i.met,
      goes_last qsbr g.K.ChainRule.allows (g.met.K.MapRule.maps qsbr) (λ key. key % c.args.buckets ≡ c.args.bucket) c.args.self.chain c.args.section.now.reader.now.core c.loop-passed.section.reader.now.core i.object c.loop-passed.held.cell i.met i.goes (omega arith),
      i.ran,
    )
