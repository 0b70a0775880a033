use Rattle.domain_tests.proofs.Cited.{rules, ◌≡◌, ◌∷◌, ℕ, List, refl, ap, ◌∙◌, Some, subst, sym, ObjectId, Object, Push, Begins, Has, Log, payload_of, words_in, cell_in, object_in, own_in, MayHold, log_of, FindsFirst, list_in, push_by}
use Rattle.domain_tests.proofs.Published.{four_words, none_so, own_words, so_some, some_so, written}
use Rattle.domain_tests.proofs.readings.publishes.Goals as goal
use Rattle.domain_tests.proofs.readings.publishes.Goals.{in-Some, in-None}

pub returns-clause-writer : goal.returns-clause-writer
returns-clause-writer g c =
    let q = g.P.GracePlan.QSBR in let v = c.in_ok-writer.writer.seat.me.0 in let u = c.in_ok-owned.owned.seat.me.0 in let p = c.push.ensures.pushed in
    let o : ObjectId = object_in u.object in let words : List ℕ = c.args.words in let log : Log = c.get-own.new.self.seat.me.0.seen in
    let at : (own_in v.chains).chain ≡ c.args.chain = c.in_ok-writer.writer.owns.2 ∙ c.in_ok-writer.ensures.held.0 in
    let event : push_by v u ≡ Object (Push c.args.chain o (cell_in u.object) words) = (λ i. Object (Push (at i) o (cell_in u.object) (c.in_ok-owned.ensures.owned.0 i))) in
    own_words c.get-own.result words o (list_in c.push.new.self.seat.me.0) (list_in v) (payload_of log) _ _ (c.push.ensures.list.0 ∙ ap (λ (x : ObjectId). x ∷ list_in v) c.push.ensures.object)
    (λ walk. ap (λ (z : ℕ × List ℕ). words_in z.1) (c.published_words_stay.ensures.pushed q log c.args.chain o (cell_in u.object) words walk.1.2.2
    (written (push_by v u) (Object (Push c.args.chain o (cell_in u.object) words)) p.before c.push.new.self.seat.me.0.seen c.push.new.self.seat.me.0.seen log event p.wrote refl walk.1.2.0)) ∙ four_words words (search rules))
    c.get-own.ensures.some c.get-own.ensures.walked c.get-own.ensures.none

pub returns-clause-found : goal.returns-clause-found
returns-clause-found g c =
    let q = g.P.GracePlan.QSBR in let v = c.in_ok-writer.writer.seat.me.0 in let u = c.in_ok-owned.owned.seat.me.0 in let p = c.push.ensures.pushed in
    let r = c.first.new.self.reader.now.core in let o : ObjectId = object_in u.object in let words : List ℕ = c.args.words in let log : Log = log_of r in let looked = c.in_ok-held.ensures.looked.1 in
    let at : (own_in v.chains).chain ≡ c.args.chain = c.in_ok-writer.writer.owns.2 ∙ c.in_ok-writer.ensures.held.0 in
    let event : push_by v u ≡ Object (Push c.args.chain o (cell_in u.object) words) = (λ i. Object (Push (at i) o (cell_in u.object) (c.in_ok-owned.ensures.owned.0 i))) in
    let has : Has (Object (Push c.args.chain o (cell_in u.object) words)) log = written (push_by v u) (Object (Push c.args.chain o (cell_in u.object) words)) p.before c.push.new.self.seat.me.0.seen c.push.new.caller.core.seat.me.0.heard log event p.wrote c.push.ensures.heard looked.later.after_heard in
    let payload : payload_of log o ≡ words = ap (λ (z : ℕ × List ℕ). words_in z.1) (c.published_words_stay.ensures.pushed q log c.args.chain o (cell_in u.object) words looked.later.run has) ∙ four_words words (search rules) in
    elim c.match-branch-4.branch [
      | in-Some w ↦
          let f = some_so c.in_ok-held.field-0 w.in-Some.held (λ h. (o : ObjectId) × FindsFirst r c.args.chain (Some o) × MayHold r o h.cell) w.in-Some.is c.in_ok-held.ensures.some in
          so_some c.match-branch-4.read _ _ w.read-is (log, o, f.0, cell_in u.object, looked.later.run, subst (λ s. Begins log (log_of s.reader.now.core)) (sym w.section-is) w.read.ensures.looked.later.after_seen, has, f.1, w.read.ensures.payload f.0 f.2, λ same. w.read.ensures.payload f.0 f.2 ∙ (ap (payload_of log) same ∙ payload))
      | in-None w ↦ none_so c.match-branch-4.read _ w.read-is
    ]
