-- What the world keeps, and what a change makes of it.
use Rattle.std.specs.Prelude.{ℕ, Bool, List, [], ◌∷◌, ◌++◌, slice_set, replicate, option_to_list, Option, None}
use Rattle.rcu_model.specs.declared.event.Event.{Event}
use Rattle.rcu_model.specs.declared.event.ObjectId.{ObjectId}
use Rattle.reader_word.specs.declared.layout.Layout.{Layout}
use Rattle.gp_memb.specs.declared.plan.Action.{Action}
use Rattle.gp_memb.specs.declared.plan.Turn.{Turn}
use Rattle.world_state.specs.declared.config.Config.{Config}
use Rattle.world_state.specs.declared.line.Answer.{Answer}
use Rattle.world_state.specs.declared.line.Answer.TheVariants.{Events, Quiet, Wait, Blocked, Idle as NothingThere}
use Rattle.world_state.specs.declared.reader.ReaderState.{ReaderState}
use Rattle.world_state.specs.declared.object.ObjectState.{ObjectState}
use Rattle.world_state.specs.declared.updater.UpdaterPlace.TheVariants.{Idle}
use Rattle.world_state.specs.declared.updater.UpdaterState.{UpdaterState}
use Rattle.world_state.specs.declared.updater.GraceState.{GraceState}
use Rattle.world_state.specs.declared.change.Change.{Change}
use Rattle.world_state.specs.declared.queue.QueueState.{QueueState}
use Rattle.world_state.specs.declared.worker.WorkerState.{WorkerState}
use Rattle.world_state.specs.declared.change.Change.TheVariants.{Read, Begin, Publish, Grace, Hold, Retire, Bar, Work, Stay}
use Rattle.world_state.specs.Readers.{new_reader}
use Rattle.world_state.specs.Objects.{fresh_object, spliced_heads, spliced_objects, marked_life}
use Rattle.world_state.specs.Queues.{new_worker, empty_queue_state, held_at, acted_at}

-- the words of a plan of grace periods
pub record Plans (P : Type 0) : Type 0 where
  pub qsbr : Bool
  pub made : Layout → ℕ → ℕ → ℕ → P
  pub action : P → Action
  pub turn : P → ℕ → Turn
  pub taken : P → ℕ → P

pub record BoardView (P : Type 0) : Type 0 where
  pub layout : Layout
  pub readers : List ReaderState
  pub updaters : List (UpdaterState P)
  pub workers : List (WorkerState P)
  pub queues : List QueueState  -- by the workers' numbers
  pub barriers : ℕ  -- how many were begun
  pub grace : GraceState
  pub heads : List (Option ObjectId)  -- by the chains' numbers
  pub objects : List ObjectState  -- by their numbers; at 0 stands one that is none
  pub log : List Event

-- an updater in no operation
abbrev pub idle : {P : Type 0} → UpdaterState P
idle = record { place = Idle; started = None }

-- a world in which nothing has happened, and whose sequence numbers begin here
abbrev pub fresh_at : {P : Type 0} → Config → ℕ → BoardView P
fresh_at config seq =
    record {
      layout = config.layout;
      readers = replicate config.readers new_reader;
      updaters = replicate config.updaters idle;
      workers = replicate config.workers new_worker;
      queues = replicate config.workers empty_queue_state;
      barriers = 0;
      grace = record { seq = seq; word = 0; holder = None; asks = 0 };
      heads = replicate config.chains None;
      objects = fresh_object 0 None ∷ [];
      log = [];
    }

-- the events of an answer
abbrev pub told : Answer → List Event
told (Events first second) = first ∷ option_to_list second
told Quiet = []
told Wait = []
told Blocked = []
told NothingThere = []

abbrev pub answer_of : {P : Type 0} → Change P → Answer
answer_of (Read r step) = step.answer
answer_of (Begin u x object) = Quiet
answer_of (Publish u x splice event) = Events event None
answer_of (Grace u x grace answer) = answer
answer_of (Hold u x q) = Quiet
answer_of (Retire u x q act mark answer) = answer
answer_of (Bar u x barriers answer) = answer
answer_of (Work k x grace act mark answer) = answer
answer_of (Stay answer) = answer

abbrev pub changed : {P : Type 0} → BoardView P → Change P → BoardView P
changed w (Read r step) = record w { readers = slice_set w.readers r step.state; log = w.log ++ told step.answer }
changed w (Begin u x object) = record w { updaters = slice_set w.updaters u x; objects = w.objects ++ object ∷ [] }
changed w (Publish u x splice event) =
    record w {
      updaters = slice_set w.updaters u x;
      heads = spliced_heads w.heads splice;
      objects = spliced_objects w.objects splice;
      log = w.log ++ event ∷ [];
    }
changed w (Grace u x grace answer) = record w { updaters = slice_set w.updaters u x; grace = grace; log = w.log ++ told answer }
changed w (Hold u x q) = record w { updaters = slice_set w.updaters u x; queues = held_at w.queues q u }
changed w (Retire u x q act mark answer) =
    record w {
      updaters = slice_set w.updaters u x;
      queues = acted_at w.queues q act;
      objects = marked_life w.objects mark;
      log = w.log ++ told answer;
    }
changed w (Bar u x barriers answer) = record w { updaters = slice_set w.updaters u x; barriers = barriers; log = w.log ++ told answer }
changed w (Work k x grace act mark answer) =
    record w {
      workers = slice_set w.workers k x;
      queues = acted_at w.queues k act;
      objects = marked_life w.objects mark;
      grace = grace;
      log = w.log ++ told answer;
    }
changed w (Stay answer) = w

abbrev pub plans_of : {P : Type 0} → Bool → (Layout → ℕ → ℕ → ℕ → P) → (P → Action) → (P → ℕ → Turn) → (P → ℕ → P) → Plans P
plans_of qsbr made action turn taken = record { qsbr = qsbr; made = made; action = action; turn = turn; taken = taken }
