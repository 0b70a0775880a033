use Rattle.rcu_hash.proofs.Cited.{begins_trans, has_since, Log, Begins, tabled, CountsLeft, IsRest, IsStopped, chains_in, numbers_of, IsLeft, IsRecord, IsQueueAmong, Each, lengths_of, rights_of, Naming, object_in, Unlinked, none_some, ◌≡◌, ℕ, ◌∙◌, ◌<◌, List, sym, ap, subst, inl, inr, Option, map, ⊎_elim, option_map, IfSome, rules, numbers_are, counts_since, stopped_on, waited_later, cleared_since, rest_less, rest_none, some_there, not_none, none_so, IfSome_then, UsesUp, uses_up_heard, uses_up_on, uses_up_hears}
use Rattle.rcu_hash.proofs.table.RcuHash.retire_behind.Goals as goal

pub retire_left-answer-requires : goal.retire_left-answer-requires
retire_left-answer-requires g c =
    let w = g.W.Caller in let n = c.args.naming in let l = c.tell-left.result in let vs = map (λ x. x.seat.me.0) l.chains.items in
    let was : c.take-place.result.1.naming ≡ n = search rules in let same : l.naming ≡ n = c.tell-left.ensures.left.0 ∙ was in (
      search rules,
      (
        waited_later n.directory n.object (w.heard c.args.caller.now) (w.heard c.tell-left.new.caller) c.tell-left.ensures.heard.after_heard c.requires.waited,
        (
          subst (λ (m : Naming). IfSome l.unlinked (λ u. IsRecord m.directory u.chain u.seat.me.0)) same l.replaced,
          (l.some, subst (λ (m : Naming). Each (IsLeft m.directory m.first m.buckets) vs) same l.left),
        ),
      ),
    )

-- what is left is what was, but for what was cleared and retired since
pub set_down-old-requires : goal.set_down-old-requires
set_down-old-requires g c =
    let l = c.tell-left.result in let n = c.args.naming in let was : c.take-place.result.1.naming ≡ n = search rules in let same : l.naming ≡ n = c.tell-left.ensures.left.0 ∙ was in (
      search rules,
      (
        search rules,
        (
          ⊎_elim
              (λ none. subst (λ (r : Option (Unlinked g.row.B.Denot g.B.Site)). IfSome r (λ u. IsRecord n.directory u.chain u.seat.me.0)) (sym none) tt)
              (λ kept. subst (λ (r : Option (Unlinked g.row.B.Denot g.B.Site)). IfSome r (λ u. IsRecord n.directory u.chain u.seat.me.0)) (sym kept) (subst (λ (m : Naming). IfSome l.unlinked (λ u. IsRecord m.directory u.chain u.seat.me.0)) same l.replaced))
              c.retire_left-answer.ensures.kept,
          (
            search rules,
            λ log b run linked.
                let q = g.P.GracePlan.QSBR in let w = g.W.Caller in let t = c.tell-left.ensures in let old = c.take-place.result.1 in let r = c.retire_left-answer.ensures in
                let w1 : Log = w.heard c.tell-left.new.caller in let w2 : Log = w.heard c.retire_left-answer.new.caller in
                let goes : Begins w1 log = begins_trans w1 w2 log (uses_up_heard r.uses) b in
                let first = subst (λ ch. IsRest old.naming.directory old.naming.object (map (λ x. x.seat.me.0) ch.items) (option_map (λ u. object_in u.seat.me.0.object) old.unlinked) w1) (sym t.left.1) t.rest in
                let second = subst (λ un. IsRest old.naming.directory old.naming.object (map (λ x. x.seat.me.0) l.chains.items) (option_map (λ u. object_in u.seat.me.0.object) un) w1) (sym t.left.2) first in
                let known = subst (λ (m : Naming). IsRest m.directory m.object (map (λ x. x.seat.me.0) l.chains.items) (option_map (λ u. object_in u.seat.me.0.object) l.unlinked) w1) was second in
                rest_less q n.directory n.object (map (λ x. x.seat.me.0) l.chains.items) _ (option_map (λ u. object_in u.seat.me.0.object) l.unlinked) _ w1 log goes run linked r.row
                (λ p is. ⊎_elim (λ none. absurd (none_some p (sym (ap (option_map (λ u. object_in u.seat.me.0.object)) none) ∙ is))) (λ same. sym (ap (option_map (λ u. object_in u.seat.me.0.object)) same) ∙ is) r.kept)
                (λ k h. ⊎_elim (λ z. inl (cleared_since w1 w2 log k b z)) (λ kept. inr kept) (r.cleared k h))
                (λ p is. ⊎_elim (λ z. inl (has_since _ w2 log b z)) (λ kept. inr kept) (r.told p is)) known,
          ),
        ),
      ),
    )

-- what it used, between what the caller heard of before it and after it
pub returns-in-Ok-clause-uses : goal.returns-in-Ok-clause-uses
returns-in-Ok-clause-uses g c =
    let w0 = c.args.caller.now in let w3 = c.set_down-old.new.caller in let jobs = c.args.jobs.items in let t = c.tell-left.ensures in let o = c.set_down-old.ensures in
    subst (λ (v : _). UsesUp g.P.GracePlan.QSBR g.B.Site.sizes c.args.naming.directory g.W.Caller g.row.D.coded.code w0 w3 jobs v.items) (sym c.done.ensures.2)
    (uses_up_on (uses_up_hears w0 c.tell-left.new.caller jobs t.same t.heard.after_heard) (uses_up_on c.retire_left-answer.ensures.uses (uses_up_hears c.retire_left-answer.new.caller w3 c.retire_left-answer.new.jobs.items o.same o.heard.after_heard)))

pub returns-clause-uses : goal.returns-clause-uses
returns-clause-uses g c =
    let w0 = c.args.caller.now in let w3 = c.set_down-old.new.caller in let w4 = c.count-old.new.caller in let jobs = c.args.jobs.items in let left = c.retire_left-answer.new.jobs.items in let t = c.tell-left.ensures in let o = c.set_down-old.ensures in let k = c.count-old.ensures in
    subst (λ (v : _). UsesUp g.P.GracePlan.QSBR g.B.Site.sizes c.args.naming.directory g.W.Caller g.row.D.coded.code w0 w4 jobs v.items) (sym c.stopped.ensures.2)
    (uses_up_on (uses_up_hears w0 c.tell-left.new.caller jobs t.same t.heard.after_heard) (uses_up_on c.retire_left-answer.ensures.uses
    (uses_up_on (uses_up_hears c.retire_left-answer.new.caller w3 left o.same o.heard.after_heard) (uses_up_hears w3 w4 left k.same.0 k.heard.after_heard))))

pub returns-in-Ok-clause-done : goal.returns-in-Ok-clause-done
returns-in-Ok-clause-done g c =
    let n = c.args.naming in let d = c.in-Ok.ensures.done in let log : Log = g.W.Caller.heard c.set_down-old.new.caller in
    none_so c.done.result.stop _ (c.done.ensures.1, rest_none n.directory n.object _ _ log (ap (map (λ x. x.seat.me.0)) d.0) (λ p is. not_none c.retire_left-answer.new.replaced d.1 (some_there _ c.retire_left-answer.new.replaced p is)) c.set_down-old.ensures.rest)

pub returns-clause-stopped : goal.returns-clause-stopped
returns-clause-stopped g c =
    let q = g.P.GracePlan.QSBR in let w = g.W.Caller in let sizes = g.B.Site.sizes in let n = c.args.naming in let d = c.stopped.ensures in let o = c.set_down-old.ensures.old in let k = c.count-old.ensures in
    let w0 = c.args.caller.now in let w1 = c.tell-left.new.caller in let w2 = c.retire_left-answer.new.caller in let w3 = c.set_down-old.new.caller in let w4 = c.count-old.new.caller in
    let u = c.retire_left-answer.ensures.uses in let b = c.set_down-old.ensures.heard in
    let goes : Begins (w.heard w0) (w.heard w3) = begins_trans (w.heard w0) (w.heard w1) (w.heard w3) c.tell-left.ensures.heard.after_heard
    (begins_trans (w.heard w1) (w.heard w2) (w.heard w3) (uses_up_heard u) b.after_heard) in
    let seen = c.set_down-old.ensures.same.0.0.0 ∙ (u.uses.made.made.0 ∙ c.tell-left.ensures.same.0.0.0) in
    let on : Begins (w.heard w2) (w.heard w4) = begins_trans (w.heard w2) (w.heard w3) (w.heard w4) b.after_heard k.heard.after_heard in
    let chains = lengths_of (rights_of (map (λ x. x.seat.me.0) c.set_down-old.result.chains.items)) in
    let numbers : chains_in (map (λ x. x.seat.me.0) c.retire_left-answer.new.chains.items) ≡ numbers_of chains = sym (numbers_are (map (λ x. x.seat.me.0) c.set_down-old.result.chains.items) ∙ ap (λ v. chains_in (map (λ x. x.seat.me.0) v.items)) o.1) in
    let counted = counts_since w q tabled w0 w3 w4 n.directory chains c.count-old.result.1 seen goes (subst (λ (m : Naming). CountsLeft w q tabled w3 w4 m.directory chains c.count-old.result.1) o.0 k.counted) in
    let stops = stopped_on w q tabled w2 w4 _ c.retire_left-answer.new.jobs.items c.in-Err.refusal on k.heard.run (subst (λ (cs : List ℕ). IsStopped w w2 (IsQueueAmong sizes n.directory cs) c.retire_left-answer.new.jobs.items c.in-Err.refusal) numbers c.in-Err.ensures.stopped.1) in
    IfSome_then c.stopped.result.stop d.4 (λ e h. (
      subst (λ (m : ℕ). 0 < m) (sym d.1) h.1,
      (
        chains,
        subst (CountsLeft w q tabled w0 w4 n.directory chains) (sym d.1) counted,
        subst (λ (v : _). IsStopped w w4 (IsQueueAmong sizes n.directory (numbers_of chains)) v.items e) (sym d.2) (subst (IsStopped w w4 (IsQueueAmong sizes n.directory (numbers_of chains)) c.retire_left-answer.new.jobs.items) (sym h.0) stops),
      ),
    ))
