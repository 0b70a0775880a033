use Rattle.world.proofs.Cited.{refl, sym, subst, ◌≡◌, ℕ, rules, List, Some, Action, Starts, step_of, slice_get, WorkerState, SyncCore, WorkerCore, SyncStep}
use Rattle.world.proofs.board.Board.work_on.Goals as goal

-- where a grace period is to begin, it starts
starts_by_begin : {P C : Type 0} (action : P → Action) (sync : SyncCore P) → ((cookie : ℕ) → sync ≡ Starts cookie → C) → step_of action sync ≡ SyncStep.Begin → C
starts_by_begin action (Starts cookie) then due = then cookie refl
starts_by_begin action _ then due = search rules

pub sync_on-requires-clause-start : goal.sync_on-requires-clause-start
sync_on-requires-clause-start g c =
    let there = subst (λ (xs : List (WorkerState _)). slice_get xs c.args.worker ≡ Some c.in-Some.state.now) c.deref.ensures.value (sym c.in-Some.ensures) in
    starts_by_begin _ c.in-Syncs.sync (λ cookie starts. c.requires.worker_starts c.args.worker c.in-Some.state.now cookie c.in-Syncs.tickets there (subst (λ (sync : SyncCore _). c.in-Some.state.now.core ≡ WorkerCore.Syncs sync c.in-Syncs.tickets) starts c.in-Syncs.is))

pub sync_on-requires-clause-groups : goal.sync_on-requires-clause-groups
sync_on-requires-clause-groups g c =
    let there = subst (λ (xs : List (WorkerState _)). slice_get xs c.args.worker ≡ Some c.in-Some.state.now) c.deref.ensures.value (sym c.in-Some.ensures) in
    c.requires.worker_plans_run c.args.worker c.in-Some.state.now c.in-Syncs.sync c.in-Syncs.tickets there c.in-Syncs.is

pub run-requires-clause-next : goal.run-requires-clause-next
run-requires-clause-next g c = λ first found.
    let there = subst (λ (xs : List (WorkerState _)). slice_get xs c.args.worker ≡ Some c.in-Some.state.now) c.deref.ensures.value (sym c.in-Some.ensures) in
    c.requires.pops c.args.worker c.in-Some.state.now c.in-Pops.tickets first there c.in-Pops.is found
