use Rattle.rcu_hash.proofs.Cited.{cell_in, object_in, in_left, In, ◌≡◌, ℕ, [], ◌∷◌, ◌∙◌, List, sym, ap, subst, map, rules, map-append, in_behind, err_from_is_err_and, looked_none, looked_more, took_one, took_none, gives_up_more, gives_up_other}
use Rattle.rcu_hash.proofs.copying.copy_key.Goals as goal

pub returns-clause-cells : goal.returns-clause-cells
returns-clause-cells g c i was =
    let kept : c.args.copied.now.items ≡ c.reserve.new.self.items = search rules in
    let all = ap (map (λ x. cell_in x.owned.seat.me.0.object)) c.push_reserved.ensures.items ∙ map-append (λ x. cell_in x.owned.seat.me.0.object) c.reserve.new.self.items _ in
    subst (λ (l : List ℕ). In l i) (sym all) (in_left (map (λ x. cell_in x.owned.seat.me.0.object) c.reserve.new.self.items) _ i (subst (λ l. In (map (λ x. cell_in x.owned.seat.me.0.object) l) i) kept was))

pub returns-then-is_err-clause-same : goal.returns-then-is_err-clause-same
returns-then-is_err-clause-same g c = gives_up_other (λ z. cc) (looked_more (λ i none. absurd none) (looked_none c.args.caller.now))

pub returns-in_err-owned-clause-same : goal.returns-in_err-owned-clause-same
returns-in_err-owned-clause-same g c =
    let p = err_from_is_err_and c.from_residual.result c.from_residual.ensures.1 in let e = c.alloc.ensures in let l = c.in_err-owned.ensures.looks in
    rw p.1 (gives_up_more (λ i none. absurd none) (took_none p.0 c.args.caller.now c.alloc.new.caller e.same e.heard.after_heard l.0 l.1 l.2.1))

pub returns-clause-same : goal.returns-clause-same
returns-clause-same g c =
    let t = c.in_ok-owned.ensures.took in let x = c.in_ok-owned.owned.seat.me.0.object in let e = c.alloc.ensures in
    let all = ap (map (λ x. cell_in x.owned.seat.me.0.object)) c.push_reserved.ensures.items ∙ map-append (λ x. cell_in x.owned.seat.me.0.object) c.reserve.new.self.items _ in (
      looked_more (λ i one. subst (λ (l : List ℕ). In l i) (sym all) (in_behind (map (λ x. cell_in x.owned.seat.me.0.object) c.reserve.new.self.items) (cell_in x ∷ []) i one))
          (took_one (cell_in x) (object_in x).0 c.args.caller.now c.alloc.new.caller e.same e.heard.after_heard t.0 t.1 t.2),
      tt,
    )
