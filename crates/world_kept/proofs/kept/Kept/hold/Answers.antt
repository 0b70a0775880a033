use Rattle.world_kept.proofs.Cited.{subst, inr, List, slice_get, rules, QueueState, NeedsPlace, changed, Hold}
use Rattle.world_kept.specs.Kept.{shown, Grows}
use Rattle.world_kept.proofs.Reserving.{reserves}
use Rattle.world_kept.proofs.kept.Kept.hold.Goals as goal

pub returns-in_err-hold_queue-clause-memory : goal.returns-in_err-hold_queue-clause-memory
returns-in_err-hold_queue-clause-memory g c =
    let refused = c.in_err-hold_queue.ensures.err in
    let needs = subst (λ (qs : List QueueState). NeedsPlace (slice_get qs c.args.queue)) c.deref_mut.ensures.value refused.1 in
    let grows : Grows (shown c.args.self.now) (changed (shown c.args.self.now) (Hold c.args.updater c.args.state c.args.queue)) = inr (inr (reserves c.args.self.now.queues.items c.args.queue c.args.updater needs)) in
    search rules
