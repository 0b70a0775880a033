use Rattle.domain.proofs.Cited.{rules, ◌≡◌, ℕ, List, ◌∷◌, ◌++◌, ◌+◌, length, refl, sym, ap, ◌∙◌, subst, arith, ObjectId, Log, Begins, begins_trans, closed_stays, Look, Loaded, Stored, Sizes, View, finished_at, work_at, finished_in, TookNoMore}
use Rattle.domain.specs.Working.{Looks, left_by}
use Rattle.domain.proofs.Running.{began, list_later, more_known, order_later, ran_through, took_since}
use Rattle.domain.proofs.domain.Domain.employ.Goals as goal

pub leave-requires-clause-ran : goal.leave-requires-clause-ran
unfolding began
leave-requires-clause-ran g c other =
    let q = c.args.queue in
    let sizes = g.B.Site.sizes in
    let first : ℕ = c.in_ok-first.first in
    let n : ℕ = c.work_until-stop.result.0 in
    let w = c.work_until-stop.ensures in
    let v : View = c.work_until-stop.new.seat.me.0 in
    let key : c.deref.result.now.words.shared.key ≡ sizes = search rules in
    let many : n + length c.work_until-stop.new.left.items ≡ n = let none = ap (λ xs. length xs) (w.left.1 other) in omega (arith, none) in
    let looks : v.looks ≡ w.rounds.found ++ began sizes q first =
    w.rounds.looks ∙ ap (λ (l : Looks). w.rounds.found ++ l) (c.in_ok-first.ensures.begun.6 ∙ (ap (λ (l : Looks). Loaded (finished_at c.deref.result.now.words.shared.key q) first ∷ Stored (work_at c.deref.result.now.words.shared.key q) 1 ∷ Loaded (work_at c.deref.result.now.words.shared.key q) 0 ∷ l) c.requires.fresh ∙ ap (λ (k : Sizes). began k q first) key)) in
    subst (TookNoMore sizes q (finished_in v.work)) (sym looks)
    (subst (λ (k : ℕ). TookNoMore sizes q k (w.rounds.found ++ began sizes q first)) (many ∙ sym (ap finished_in w.work)) (took_since sizes q (n + length c.work_until-stop.new.left.items) first w.rounds.found w.rounds.took))

pub returns-clause-worked : goal.returns-clause-worked
returns-clause-worked g c =
    let q = c.args.queue in
    let old : View = c.args.seat.now.me.0 in
    let start : Log = c.begin_work.new.seat.me.0.seen in
    let between : Log = c.work_until-stop.new.seat.me.0.seen in
    let last : Log = c.leave.new.seat.me.0.seen in
    let first : ℕ = c.in_ok-first.first in
    let n : ℕ = c.work_until-stop.result.0 in
    let items = c.work_until-stop.new.list.items in
    let begun = c.in_ok-first.ensures.begun in
    let w = c.work_until-stop.ensures in
    let left = c.leave.ensures.left in
    let rounds = w.rounds in
    let key : c.deref.result.now.words.shared.key ≡ g.B.Site.sizes = search rules in
    let look : Look = Stored (work_at g.B.Site.sizes q) (left_by c.work_until-stop.result.1) in
    let more : Begins between last = left.2.0 in
    let later : Begins start last = begins_trans start between last w.seat.later more in
    let lists = list_later g.row.D.coded.code g.D.Deleter.answers g.P.GracePlan.QSBR g.K.ChainRule.allows q between last first n items items more left.2.2 refl w.list in
    record {
      start = start;
      first = first;
      last = n;
      looks_since = rounds.found;
      low = search rules;
      after_seen = begun.4.0;
      after_heard = begun.4.1;
      counted = begun.2;
      queued = begun.3;
      later = later;
      run = left.2.2;
      lists = lists;
      through = ran_through g.row.D.coded.code g.D.Deleter.answers q start last first n items later begun.3 begun.2 lists;
      left = order_later q between last n c.work_until-stop.new.left.items more w.left.0;
      nothing = w.left.1;
      whole = λ x. let u = w.whole x in record { taken = u.taken; after = u.after; before = begins_trans u.taken between last u.before more; ran = u.ran; all = u.all; some = u.some };
      kept = rounds.kept;
      ran = rounds.ran;
      took = rounds.took;
      closed = λ x. let e = (w.closed x).0 in let k = closed_stays g.P.GracePlan.QSBR g.K.ChainRule.allows between last q more left.2.2 e.0 in (k.0, ap (λ (l : List ObjectId). length l) k.1 ∙ e.1);
      served = λ x. (w.served x).0;
      memory = λ x. more_known q n c.work_until-stop.new.seat.me.0 last more left.2.1 (w.memory x);
      exhausted = λ x. let u = w.exhausted x in record {
        at = u.at;
        earlier = u.earlier;
        last_load = ap (λ (v : View). v.loads) left.1 ∙ (u.last_load ∙ ap (λ (l : List Log). u.at ∷ (u.earlier ++ l)) c.begin_work.ensures.seat.3);
        after = u.after;
        before = begins_trans u.at between last u.before more;
        used_up = u.used_up;
      };
      looks = ap (λ (v : View). v.looks) left.1
          ∙ ap (λ (l : Looks). look ∷ l) (rounds.looks ∙ ap (λ (l : Looks). rounds.found ++ l) (begun.6 ∙ ap (λ (k : Sizes). Loaded (finished_at k q) first ∷ Stored (work_at k q) 1 ∷ Loaded (work_at k q) 0 ∷ old.looks) key));
    }
