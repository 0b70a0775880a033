-- The steps of a retirement, in their order: what each stores and tells.
use Rattle.std.specs.Prelude.{◌≡◌, ℕ, ◌+◌, List, get_or, Option, Some, None, Ok}
use Rattle.rcu_model.specs.declared.event.Event.TheVariants as events
use Rattle.rcu_model.specs.declared.event.ObjectId.{ObjectId}
use Rattle.world_state.specs.declared.line.Answer.{Answer}
use Rattle.world_state.specs.declared.line.Answer.TheVariants.{Events, Quiet}
use Rattle.world_state.specs.declared.line.Line.TheVariants.{Updater}
use Rattle.world_state.specs.declared.line.UpdaterVerb.TheVariants as verb
use Rattle.callback_queue.specs.Queue.{pushed}
use Rattle.world_state.specs.declared.object.Life.{Life}
use Rattle.world_state.specs.declared.object.Life.TheVariants as life
use Rattle.world_state.specs.declared.object.ObjectState.{ObjectState}
use Rattle.world_state.specs.declared.queue.QueueState.{QueueState}
use Rattle.world_state.specs.declared.updater.RetireStep.{RetireStep}
use Rattle.world_state.specs.declared.updater.RetireStep.TheVariants.{Mark, Count, Push, Free}
use Rattle.world_state.specs.declared.updater.UpdaterPlace.{UpdaterPlace}
use Rattle.world_state.specs.declared.updater.UpdaterPlace.TheVariants.{Retires}
use Rattle.world_state.specs.Objects.{marked_life}
use Rattle.world_state.specs.Queues.{empty_queue_state, item_of}
use Rattle.world_state.specs.View.{Plans, BoardView, idle}
use Rattle.world.specs.Lines.{Outcome, outcome_of}
use Rattle.world.specs.Locks.{lock_of}
use Rattle.world.specs.Queues.{queue_of}
use Rattle.world.specs.Steps.{WorldView, OfMemb, OfQsbr, memb_plans, qsbr_plans}

-- the object that an updater retires, and the step that is due
pub record Due : Type 0 where
  pub object : ObjectId
  pub step : RetireStep

module _ {P : Type 0} where
  abbrev pub due_at : UpdaterPlace P → Option Due
  due_at (Retires o step) = Some (record { object = o; step = step })
  due_at place = None

  abbrev pub due_of : BoardView P → ℕ → Option Due
  due_of w u = due_at (get_or w.updaters u idle).place

  abbrev pub queue_in : BoardView P → ℕ → QueueState
  queue_in w q = get_or w.queues q empty_queue_state

  -- this is answered, that step is due next, and the objects and the queue are these
  pub record Makes (u q : ℕ) (outcome : Outcome P) (answer : Answer) (next : Option Due) (objects : List ObjectState) (queue : QueueState) : Type 0 where
    pub answered : outcome.answer ≡ Ok answer
    pub due : due_of outcome.world u ≡ next
    pub headers : outcome.world.objects ≡ objects
    pub stored : queue_in outcome.world q ≡ queue

  -- the objects with this header of one of them
  abbrev pub with_header : BoardView P → ObjectId → Life → List ObjectState
  with_header w o life = marked_life w.objects (Some (record { object = o; life = life }))

  -- the header is stored and told first; then the queued count is raised; then the item is pushed and told; and last
  -- the lock is freed
  abbrev pub DoesItsStep : BoardView P → ℕ → ℕ → Outcome P → ObjectId → RetireStep → Type 0
  DoesItsStep w u q outcome o Mark = Makes u q outcome (Events (events.Retire o) None) (Some (record { object = o; step = Count })) (with_header w o life.Retired) (queue_in w q)
  DoesItsStep w u q outcome o Count = Makes u q outcome Quiet (Some (record { object = o; step = Push })) w.objects (record (queue_in w q) { queued = (queue_in w q).queued + 1 })
  DoesItsStep w u q outcome o Push = Makes u q outcome (Events (events.Queue o q) None) (Some (record { object = o; step = Free })) (with_header w o life.Queued) (record (queue_in w q) { items = pushed (queue_in w q).items (item_of o) })
  DoesItsStep w u q outcome o Free = Makes u q outcome Quiet None w.objects (record (queue_in w q) { holder = None })

  -- a retirement begins with the free lock of the updater's queue, and does its steps in this order
  pub record RetiresInOrder (plans : Plans P) (w : BoardView P) (u : ℕ) : Type 0 where
    pub begins : (o : ObjectId) → (outcome_of plans w (Updater u (verb.Retire o))).answer ≡ Ok Quiet →
        (lock_of w (queue_of w u) ≡ None)
        × (lock_of (outcome_of plans w (Updater u (verb.Retire o))).world (queue_of w u) ≡ Some u)
        × (due_of (outcome_of plans w (Updater u (verb.Retire o))).world u ≡ Some (record { object = o; step = Mark }))
    pub goes_on : (due : Due) → due_of w u ≡ Some due → DoesItsStep w u (queue_of w u) (outcome_of plans w (Updater u verb.GoOn)) due.object due.step

abbrev pub RetirementsGoInOrder : WorldView → ℕ → Type 0
RetirementsGoInOrder (OfMemb w) u = RetiresInOrder memb_plans w u
RetirementsGoInOrder (OfQsbr w) u = RetiresInOrder qsbr_plans w u
