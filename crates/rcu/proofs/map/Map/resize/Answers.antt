use Rattle.rcu.proofs.Cited.{copied, rules, ◌≡◌, inl, subst, sym, IfErr-weaker, IfOk-weaker, err_from_is_err_and, Busy}
use Rattle.rcu.specs.Resizing.{IsNotResized, IsNotTaken, IsResized}
use Rattle.rcu.proofs.Moving.{moves_none, moves_on, refused_moves, untidied_busy, untidied_grown}
use Rattle.rcu.proofs.map.Map.resize.Given.{Over}
use Rattle.rcu.proofs.map.Map.resize.Goals.{After-tidy}
use Rattle.rcu.proofs.map.Map.resize.Goals as goal

pub loop-init : goal.loop-init
loop-init g c = moves_none g.W.Caller g.P.GracePlan.QSBR g.B.Site.sizes c.args.self.now.table.directory (copied 2 g.row.F) c.args.caller.now

pub loop-preserved : goal.loop-preserved
loop-preserved g c =
    let old = c.args.caller.now in let was = c.loop.caller in let mid = c.grow.new.caller in let new = c.tidy-in-Err-2.new.caller in let k = c.in-Err-2.ensures in
    moves_on g.W.Caller g.P.GracePlan.QSBR g.B.Site.sizes c.args.self.now.table.directory (copied 2 g.row.F) old mid new (moves_on g.W.Caller g.P.GracePlan.QSBR g.B.Site.sizes c.args.self.now.table.directory (copied 2 g.row.F) old was mid c.loop.invariant (refused_moves g.W.Caller g.P.GracePlan.QSBR g.B.Site.sizes c.args.self.now.table.directory (copied 2 g.row.F) was mid k.changes k.heard k.looks.0 k.looks.1 k.looks.3.1 k.loads.0)) c.tidy-in-Err-2.ensures.moves

-- the map grew, and was tidied
module _ (g : Over) (c : After-tidy g) where
  resized : IsResized g.W.Caller g.P.GracePlan.QSBR g.B.Site.sizes c.args.self.now.table.directory (copied 2 g.row.F) c.args.caller.now c.tidy.new.caller c.args.first c.args.buckets
  resized = let k = c.in-Ok.ensures in record {
    from = c.loop.caller;
    to = c.grow.new.caller;
    left = c.in-Ok.field-0;
    found = k.looks.0;
    before = c.loop.invariant;
    grown = k.grown;
    looks = k.looks.1;
    took = k.looks.2;
    loads = k.loads.1;
    after = c.tidy.ensures.moves;
  }

pub returns-in-Ok-clause-resized : goal.returns-in-Ok-clause-resized
returns-in-Ok-clause-resized g c = IfOk-weaker c.tidy.result _ _ (λ _ _. resized g (goal.at.returns-in-Ok-clause-resized g c).After-tidy) c.tidy.ensures.tidied

pub returns-in-Ok-clause-refused : goal.returns-in-Ok-clause-refused
returns-in-Ok-clause-refused g c =
    let old = c.args.caller.now in let was = c.loop.caller in let mid = c.grow.new.caller in let new = c.tidy.new.caller in let k = c.in-Ok.ensures in
    IfErr-weaker c.tidy.result _ _ (λ e r. untidied_grown g.W.Caller g.P.GracePlan.QSBR g.B.Site.sizes c.args.self.now.table.directory (copied 2 g.row.F) old was mid new c.args.first c.args.buckets c.loop.invariant c.tidy.ensures.moves e r
    (resized g (goal.at.returns-in-Ok-clause-refused g c).After-tidy)
    (record { same = k.grown.4.made.0; later = k.heard; found = k.looks.0; looks = k.looks.1; loaded = k.loads.0.0; loads = k.loads.0.1 }))
    c.tidy.ensures.refused

pub returns-in_err-tidy-in-Err-2-clause-refused : goal.returns-in_err-tidy-in-Err-2-clause-refused
returns-in_err-tidy-in-Err-2-clause-refused g c =
    let old = c.args.caller.now in let was = c.loop.caller in let mid = c.grow.new.caller in let new = c.tidy-in-Err-2.new.caller in let k = c.in-Err-2.ensures in
    let busy : c.in-Err-2.field-0 ≡ Busy = search rules in
    let p = err_from_is_err_and c.from_residual.result c.from_residual.ensures.1 in
    rw p.1 (subst (λ e. IsNotResized g.W.Caller g.P.GracePlan.QSBR g.B.Site.sizes c.args.self.now.table.directory (copied 2 g.row.F) old new c.args.first c.args.buckets e) (sym p.2)
    (untidied_busy g.W.Caller g.P.GracePlan.QSBR g.B.Site.sizes c.args.self.now.table.directory (copied 2 g.row.F) old was mid new c.args.first c.args.buckets c.loop.invariant c.tidy-in-Err-2.ensures.moves c.in_err-tidy-in-Err-2.field-0.0 c.in_err-tidy-in-Err-2.ensures.refused c.in-Err-2.field-0 busy (refused_moves g.W.Caller g.P.GracePlan.QSBR g.B.Site.sizes c.args.self.now.table.directory (copied 2 g.row.F) was mid k.changes k.heard k.looks.0 k.looks.1 k.looks.3.1 k.loads.0) k.refused))

pub returns-in-Err-clause-refused : goal.returns-in-Err-clause-refused
returns-in-Err-clause-refused g c = let k = c.in-Err.ensures in
    inl (subst (λ e. IsNotTaken g.W.Caller g.P.GracePlan.QSBR g.B.Site.sizes c.args.self.now.table.directory (copied 2 g.row.F) c.args.caller.now c.grow.new.caller c.args.first c.args.buckets e) (search rules) (record {
      last = c.loop.caller;
      moves = c.loop.invariant;
      hears = record { same = k.changes.0; later = k.heard; found = k.looks.0; looks = k.looks.1; loaded = k.loads.0.0; loads = k.loads.0.1 };
      stays = k.changes;
      keeps = k.looks.3;
      refused = k.refused;
      known = search rules;
    }))
