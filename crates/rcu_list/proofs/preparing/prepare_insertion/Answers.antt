use Rattle.rcu_list.proofs.Cited.{◌≡◌, ℕ, Option, Some, None, true, false, is_some, inl, inr, refl, ap, sym, ◌∙◌, subst, In, key_of, Log, record_of, ChainRight, list_in, went_both}
use Rattle.std.proofs.Common.{IfNone, IfSome}
use Rattle.rcu_list.specs.Maps.{HasLastRank}
use Rattle.rcu_list.proofs.Writing.{found_there, if_err, if_ok, last_rank, note_walked, same_own, walked_missing}
use Rattle.rcu_list.proofs.preparing.prepare_insertion.Goals as goal

some_there : (r : Option ℕ) (P : ℕ → Type 0) → is_some r ≡ true → IfSome r P → (x : ℕ) × P x
some_there None P is h = cc
some_there (Some x) P is h = (x, h)

none_there : (r : Option ℕ) (P : Type 0) → is_some r ≡ false → IfNone r P → P
none_there None P is h = h
none_there (Some x) P is h = cc

pub returns-then-is_some-clause-refused : goal.returns-then-is_some-clause-refused
returns-then-is_some-clause-refused g c =
    let e = c.index_of.ensures in let old = c.args.chain.now in let f = some_there c.index_of.result _ (sym c.is_some.ensures ∙ c.if-is_some.true) e.found in
    inl (refl, found_there g.P.GracePlan.QSBR g.K.ChainRule.allows (g.met.K.MapRule.maps g.P.GracePlan.QSBR) old.number old.seat.me c.index_of.new.self.seat.me e.walked.1 old.owns.1 old.owns.2 c.args.key f.0 f.1, refl)

pub returns-in_default-clause-refused : goal.returns-in_default-clause-refused
returns-in_default-clause-refused g c =
    let e = c.index_of.ensures in let f = c.in_default.ensures in let old = c.args.chain.now in let mid = c.index_of.new.self in let new = c.fresh_rank.new.chain in
    let qsbr = g.P.GracePlan.QSBR in
    let none = none_there c.index_of.result _ (sym c.is_some.ensures ∙ c.if-is_some.false) e.none in
    let went = went_both qsbr g.K.ChainRule.allows old.seat.me mid.seat.me new.seat.me e.walked.1 f.looked.1 in
    inr (walked_missing qsbr g.K.ChainRule.allows (g.met.K.MapRule.maps g.P.GracePlan.QSBR) old.number old.seat.me mid.seat.me e.walked.1 old.owns.1 old.owns.2 c.args.key none, inl (refl, last_rank qsbr g.K.ChainRule.allows (g.met.K.MapRule.maps g.P.GracePlan.QSBR) old.number old.seat.me new.seat.me went old.owns.1 old.owns.2 new.owns.1 (subst (HasLastRank new.seat.me.0.seen) e.walked.2 f.none), refl))

pub returns-in_default-clause-looked : goal.returns-in_default-clause-looked
returns-in_default-clause-looked g c =
    let e = c.index_of.ensures in let f = c.in_default.ensures in let old = c.args.chain.now in let mid = c.index_of.new.self in let new = c.fresh_rank.new.chain in
    ((f.looked.0.0 ∙ e.walked.0.0, f.looked.0.1 ∙ e.walked.0.1), went_both g.P.GracePlan.QSBR g.K.ChainRule.allows old.seat.me mid.seat.me new.seat.me e.walked.1 f.looked.1, f.looked.2 ∙ e.walked.2, f.looked.3 ∙ e.walked.3)

pub returns-clause-looked : goal.returns-clause-looked
returns-clause-looked g c =
    let e = c.index_of.ensures in let f = c.in-Some.ensures in let old = c.args.chain.now in let mid = c.index_of.new.self in let new = c.fresh_rank.new.chain in
    ((f.looked.0.0 ∙ e.walked.0.0, f.looked.0.1 ∙ e.walked.0.1), went_both g.P.GracePlan.QSBR g.K.ChainRule.allows old.seat.me mid.seat.me new.seat.me e.walked.1 f.looked.1, f.looked.2 ∙ e.walked.2, f.looked.3 ∙ e.walked.3)

pub returns-clause-refused : goal.returns-clause-refused
returns-clause-refused g c =
    let e = c.index_of.ensures in let old = c.args.chain.now in
    let none = none_there c.index_of.result _ (sym c.is_some.ensures ∙ c.if-is_some.false) e.none in
    let missing = walked_missing g.P.GracePlan.QSBR g.K.ChainRule.allows (g.met.K.MapRule.maps g.P.GracePlan.QSBR) old.number old.seat.me c.index_of.new.self.seat.me e.walked.1 old.owns.1 old.owns.2 c.args.key none in
    let a = c.alloc.ensures in let l = a.looks in
    if_err c.alloc.result _ _ _ (λ x why same. inr (missing, inr (record { is = why.0; found = l.0; looks = l.1; why = why.1; after = a.heard; same = a.same }))) l.2 l.2

pub returns-clause-ready : goal.returns-clause-ready
returns-clause-ready g c =
    let e = c.index_of.ensures in let f = c.in-Some.ensures in let old = c.args.chain.now in let mid = c.index_of.new.self in let new = c.fresh_rank.new.chain in
    let qsbr = g.P.GracePlan.QSBR in let allows = g.K.ChainRule.allows in let maps = g.met.K.MapRule.maps qsbr in
    let none = none_there c.index_of.result _ (sym c.is_some.ensures ∙ c.if-is_some.false) e.none in
    let missing = walked_missing qsbr allows maps old.number old.seat.me mid.seat.me e.walked.1 old.owns.1 old.owns.2 c.args.key none in
    let first = same_own qsbr allows maps old.number old.seat.me mid.seat.me e.walked.1 old.owns.1 old.owns.2 in
    let then = same_own qsbr allows maps mid.number mid.seat.me new.seat.me f.looked.1 mid.owns.1 mid.owns.2 in
    let seen : Log = new.seat.me.0.seen in
    if_ok c.alloc.result _ _ _ (λ o a b. (
      record {
        rank = c.in-Some.rank;
        words = a.0;
        next = f.next;
        others = λ q h.
            let had : In (list_in mid.seat.me.0) q = subst (λ (x : ChainRight). In x.objects q) then h in
            let note : record_of seen q ≡ record_of mid.seat.me.0.seen q = note_walked qsbr allows maps mid.number mid.seat.me new.seat.me f.looked.1 mid.owns.1 mid.owns.2 q had in
            (λ same. none q (subst (λ (x : ChainRight). In x.objects q) first had) (ap key_of (sym note) ∙ same), f.above.1 q had);
      },
      f.above.0,
      missing,
    ))
    c.alloc.ensures.owned c.alloc.ensures.owned
