-- What the world keeps of retired objects, queues, workers and barriers beside the machine.
use Rattle.world.proofs.Cited.{get_or_from_slice_get, new_worker, grows, Item, mod_below, slice_get_within, ◌≡◌, ◌≢◌, ◌⊎◌, inl, inr, ℕ, ◌+◌, ◌%◌, ◌<◌, ◌≤◌, Bool, true, false, List, [], ◌∷◌, ◌++◌, length, get_or, slice_get, Option, Some, None, sym, ap, ◌∙◌, subst, arith, Event, Open, Close, First, Next, Retire, Queue, Run, Ask, Clear, ObjectId, SectionId, without_section, at_number, State, IsAllowed, after, In, has_number_in, without_section_has, has_without_section, at_number_other, given_of, SyncCore, WorkerCore, Life, ObjectState, QueueState, BarrierStep, Note, Check, RetireStep, UpdaterPlace, Retires, Bars, UpdaterState, WorkerState, changed_at, BoardView, stage_of, chain_of, decide_number, life_of, Items, Has, InQueue, queue_at, changed_here, changed_else, refl, items_of, Mark, marked_life, life_else, stage_marked, chain_marked, Stands, changed_length, slice_set, Result, Ok, Err, length-set, Refusal, AreAllowed, after_all, Layout, ReaderState, Change, Read, Begin, Publish, Grace, Stay, spliced_objects, Plans, told, changed, within, grown_same, spliced_chain, stage_grown, life_within, life_grown, life_spliced, Stage}
use Rattle.callback_queue.specs.Queue.{Queue as ItemQueue}
use Rattle.world.proofs.State.{updater_at, worker_at, told_by, Kept, Owes, at_updaters}
use Rattle.world.proofs.Fence.{Laws}
use Rattle.world.proofs.Rows.{Copies, Nests, Unnests, Announces, ReaderRows}
use Rattle.world.proofs.KeptReaders.{longer}

-- what was done with an object, in the table and in the machine
abbrev pub LifeKept : Life → ObjectId → List ObjectId → List ObjectId → List ObjectId → Type 0
LifeKept Life.Kept o retired queued reclaimed = (¬ In retired o) × (¬ In queued o) × (¬ In reclaimed o)
LifeKept Life.Retired o retired queued reclaimed = In retired o × (¬ In queued o) × (¬ In reclaimed o)
LifeKept Life.Queued o retired queued reclaimed = In retired o × In queued o × (¬ In reclaimed o)
LifeKept Life.Reclaimed o retired queued reclaimed = In retired o × In queued o × In reclaimed o

-- it stands in a queue
abbrev pub Found : List QueueState → ObjectId → Type 0
Found qs o = (j : ℕ) × (t : ℕ) × (j < length qs) × InQueue (queue_at qs j) t o

-- objects and the items of queues: who is queued stands in one queue, at one place
pub record ItemsKept (os : List ObjectState) (qs : List QueueState) (retired queued reclaimed : List ObjectId) : Type 0 where
  pub lives : (o : ObjectId) → LifeKept (life_of os o) o retired queued reclaimed
  pub found : (o : ObjectId) → life_of os o ≡ Life.Queued → Found qs o
  pub there : (j t : ℕ) (o : ObjectId) → InQueue (queue_at qs j) t o → life_of os o ≡ Life.Queued
  pub one_place : (i j s t : ℕ) (o : ObjectId) → InQueue (queue_at qs i) s o → InQueue (queue_at qs j) t o → (i ≡ j) × (s ≡ t)

-- what was done with an object that lives so
pub lives_as : {os : List ObjectState} {qs : List QueueState} {retired queued reclaimed : List ObjectId} → ItemsKept os qs retired queued reclaimed → (o : ObjectId) {l : Life} → life_of os o ≡ l → LifeKept l o retired queued reclaimed
lives_as {retired = retired} {queued = queued} {reclaimed = reclaimed} k o is = subst (λ (l : Life). LifeKept l o retired queued reclaimed) is (k.lives o)

-- a queue: its counts, and what is ready awaits nobody
pub record QueueKept (q : QueueState) (logged : ℕ) (awaited : ObjectId → List SectionId) : Type 0 where
  pub is_open : q.items.closed ≡ false
  pub given_low : given_of q.items ≤ logged
  pub announced : given_of q.items ≤ q.queued
  pub at_rest : q.holder ≡ None → q.queued ≡ given_of q.items
  pub ready_free : (o : ObjectId) → Has q.items.ready o → awaited o ≡ []

-- an updater between two steps of a retirement, beside what its queue says
abbrev pub DueKept : List ObjectState → Bool → ℕ → ℕ → ℕ → ℕ → ObjectId → RetireStep → Type 0
DueKept os reserved queued given count u o RetireStep.Mark = (stage_of os o ≡ Stage.Cut) × (life_of os o ≡ Life.Kept) × (chain_of os o % count ≡ u) × (reserved ≡ true) × (queued ≡ given)
DueKept os reserved queued given count u o RetireStep.Count = (life_of os o ≡ Life.Retired) × (chain_of os o % count ≡ u) × (reserved ≡ true) × (queued ≡ given)
DueKept os reserved queued given count u o RetireStep.Push = (life_of os o ≡ Life.Retired) × (chain_of os o % count ≡ u) × (reserved ≡ true) × (queued ≡ given + 1)
DueKept os reserved queued given count u o RetireStep.Free = queued ≡ given

-- it holds the queue's lock
abbrev pub Retiring : List ObjectState → QueueState → ℕ → ℕ → ObjectId → RetireStep → Type 0
Retiring os q count u o d = (q.holder ≡ Some u) × DueKept os q.items.reserved q.queued (given_of q.items) count u o d

abbrev pub RetireKept : {P : Type 0} → List ObjectState → List QueueState → ℕ → ℕ → UpdaterPlace P → Type 0
RetireKept os qs count u (Retires o d) = Retiring os (queue_at qs (u % length qs)) count u o d
RetireKept os qs count u _ = Unit {0}

-- the sections that an object awaits are awaited by the ask
abbrev pub Covered : (ObjectId → List SectionId) → (ℕ → List SectionId) → ObjectId → ℕ → Type 0
Covered awaited asked_sections o a = (s : SectionId) → In (awaited o) s → In (asked_sections a) s

-- a batch that waits for the answer of an ask with this cookie
pub record BatchWaits (ready waiting : Items) (noted : Option ℕ) (asked : List ℕ) (awaited : ObjectId → List SectionId) (asked_sections : ℕ → List SectionId) (ask tickets cookie : ℕ) : Type 0 where
  pub none_ready : ready ≡ []
  pub count : tickets ≡ length waiting
  pub some : 1 ≤ tickets
  pub is_noted : noted ≡ Some cookie
  pub was_asked : In asked ask
  pub covered : (o : ObjectId) → Has waiting o → Covered awaited asked_sections o ask

abbrev pub BatchKept : {P : Type 0} → Items → Items → Option ℕ → List ℕ → (ObjectId → List SectionId) → (ℕ → List SectionId) → ℕ → ℕ → SyncCore P → Type 0
BatchKept ready waiting noted asked awaited asked_sections ask tickets SyncCore.Asks = (ready ≡ []) × (tickets ≡ length waiting) × (1 ≤ tickets)
BatchKept ready waiting noted asked awaited asked_sections ask tickets (SyncCore.Waits c) = BatchWaits ready waiting noted asked awaited asked_sections ask tickets c
BatchKept ready waiting noted asked awaited asked_sections ask tickets (SyncCore.Checks c) = BatchWaits ready waiting noted asked awaited asked_sections ask tickets c
BatchKept ready waiting noted asked awaited asked_sections ask tickets (SyncCore.Starts c) = BatchWaits ready waiting noted asked awaited asked_sections ask tickets c
BatchKept ready waiting noted asked awaited asked_sections ask tickets (SyncCore.Runs c p) = BatchWaits ready waiting noted asked awaited asked_sections ask tickets c
BatchKept ready waiting noted asked awaited asked_sections ask tickets SyncCore.Frees = (waiting ≡ []) × (tickets ≡ length ready) × (1 ≤ tickets)
BatchKept ready waiting noted asked awaited asked_sections ask tickets SyncCore.Done = ⊥

-- a worker, beside what its queue says
abbrev pub WorkKept : {P : Type 0} → Items → Items → Option ℕ → ℕ → ℕ → List ℕ → (ObjectId → List SectionId) → (ℕ → List SectionId) → ℕ → WorkerCore P Unit → Type 0
WorkKept ready waiting noted gone finished asked awaited asked_sections ask WorkerCore.Idle = (ready ≡ []) × (waiting ≡ []) × (finished ≡ gone)
WorkKept ready waiting noted gone finished asked awaited asked_sections ask (WorkerCore.Syncs place tickets) = BatchKept ready waiting noted asked awaited asked_sections ask tickets.left place × (finished ≡ gone) × (tickets.last.0 ≡ gone + tickets.left)
WorkKept ready waiting noted gone finished asked awaited asked_sections ask (WorkerCore.Pops tickets) = (waiting ≡ []) × (tickets.left ≡ length ready) × (1 ≤ tickets.left) × (finished ≡ gone) × (tickets.last.0 ≡ gone + tickets.left)
WorkKept ready waiting noted gone finished asked awaited asked_sections ask (WorkerCore.Runs tickets ticket item) = ⊥
WorkKept ready waiting noted gone finished asked awaited asked_sections ask (WorkerCore.Ran tickets ticket item) = (waiting ≡ []) × (tickets.left ≡ length ready + 1) × (finished + 1 ≡ gone) × (tickets.last.0 + 1 ≡ gone + tickets.left)
WorkKept ready waiting noted gone finished asked awaited asked_sections ask (WorkerCore.Counts tickets ticket) = ⊥

abbrev pub WorkAt : {P : Type 0} → QueueState → List ℕ → (ObjectId → List SectionId) → (ℕ → List SectionId) → WorkerState P → Type 0
WorkAt q asked awaited asked_sections x = WorkKept q.items.ready q.items.waiting q.items.cookie q.items.gone q.finished asked awaited asked_sections x.ask x.core

-- what a barrier still waits for is ahead of it: in a queue that it has not checked, and below the count that it noted
abbrev pub Facing : BarrierStep → List ℕ → ℕ → ℕ → Type 0
Facing (Note q) counts j t = j < q → t ≤ get_or counts j 0
Facing (Check q) counts j t = (q ≤ j) × (t ≤ get_or counts j 0)

abbrev pub Faces : List QueueState → List ℕ → BarrierStep → ObjectId → Type 0
Faces qs counts due o = (j : ℕ) × (t : ℕ) × (j < length qs) × InQueue (queue_at qs j) t o × Facing due counts j t

abbrev pub IsAt : BarrierStep → ℕ → Type 0
IsAt (Note q) n = q < n
IsAt (Check q) n = q < n

abbrev pub BarKept : {P : Type 0} → List QueueState → List ℕ → List ℕ → (ℕ → List ObjectId) → UpdaterPlace P → Type 0
BarKept qs noted cleared noted_objects (Bars b) =
    In noted b.number × (¬ In cleared b.number) × (length qs ≤ length b.counts) × IsAt b.due (length qs) × ((o : ObjectId) → In (noted_objects b.number) o → Faces qs b.counts b.due o)
BarKept qs noted cleared noted_objects _ = Unit {0}

-- the barrier of this number is under way there
abbrev pub Barring : {P : Type 0} → UpdaterPlace P → ℕ → Type 0
Barring (Bars b) n = b.number ≡ n
Barring _ n = ⊥

-- the updater is idle or retires: no barrier of it is under way
abbrev pub BarsNone : {P : Type 0} → UpdaterPlace P → Type 0
BarsNone (Bars b) = ⊥
BarsNone _ = Unit {0}

pub bars_none : {P : Type 0} (p : UpdaterPlace P) (n : ℕ) → BarsNone p → ¬ Barring p n
bars_none (Bars b) n h c = h
bars_none _ n h b = b

pub bars_kept : {P : Type 0} (qs : List QueueState) (noted cleared : List ℕ) (noted_objects : ℕ → List ObjectId) (p : UpdaterPlace P) → BarsNone p → BarKept qs noted cleared noted_objects p
bars_kept qs noted cleared noted_objects (Bars b) h = absurd h
bars_kept qs noted cleared noted_objects _ h = tt

-- the updater is idle or waits for all
abbrev pub RetiresNone : {P : Type 0} → UpdaterPlace P → Type 0
RetiresNone (Retires o d) = ⊥
RetiresNone _ = Unit {0}

pub retires_none : {P : Type 0} (os : List ObjectState) (qs : List QueueState) (count u : ℕ) (p : UpdaterPlace P) → RetiresNone p → RetireKept os qs count u p
retires_none os qs count u (Retires o d) h = absurd h
retires_none os qs count u _ h = tt

-- there is a queue for each worker, and few of them
pub record Sizes {P : Type 0} (qs : List QueueState) (workers : List (WorkerState P)) : Type 0 where
  pub some : 1 ≤ length qs
  pub few : length qs ≤ 8
  pub manned : length workers ≡ length qs

pub sizes_over : {P : Type 0} {qs qs' : List QueueState} {workers workers' : List (WorkerState P)} → length qs' ≡ length qs → length workers' ≡ length workers → Sizes qs workers → Sizes qs' workers'
sizes_over queues same s = record { some = subst (λ n. 1 ≤ n) (sym queues) s.some; few = subst (λ n. n ≤ 8) (sym queues) s.few; manned = same ∙ s.manned ∙ sym queues }

-- an updater has a queue, and so has a worker
pub own_queue : {P : Type 0} {qs : List QueueState} {workers : List (WorkerState P)} (u : ℕ) → Sizes qs workers → u % length qs < length qs
own_queue {qs = qs} u s = let some = s.some in mod_below u (length qs) (omega (arith, some))

pub its_queue : {P : Type 0} {qs : List QueueState} {workers : List (WorkerState P)} (k : ℕ) (x : WorkerState P) → Sizes qs workers → slice_get workers k ≡ Some x → k < length qs
its_queue {workers = workers} k x s was = subst (λ n. k < n) s.manned (slice_get_within workers k x was)

-- what was noted has a number, and nothing else was cleared
pub record Numbers (barriers logged : ℕ) (noted cleared : List ℕ) : Type 0 where
  pub noted_low : (b : ℕ) → In noted b → b ≤ barriers
  pub cleared_noted : (b : ℕ) → In cleared b → In noted b
  pub barriers_low : barriers ≤ logged

pub numbers_over : {barriers logged logged' : ℕ} {noted cleared : List ℕ} → logged ≤ logged' → Numbers barriers logged noted cleared → Numbers barriers logged' noted cleared
numbers_over longer n = record { noted_low = n.noted_low; cleared_noted = n.cleared_noted; barriers_low = let low = n.barriers_low in omega (arith, low, longer) }

pub record CallbacksKept {P : Type 0} (os : List ObjectState) (qs : List QueueState) (updaters : List (UpdaterState P)) (workers : List (WorkerState P)) (barriers logged : ℕ) (now : State) : Type 0 where
  pub sizes : Sizes qs workers
  pub items : ItemsKept os qs now.retired now.queued now.reclaimed
  pub queues : (j : ℕ) → QueueKept (queue_at qs j) logged now.awaited
  pub retiring : (u : ℕ) → RetireKept os qs (length updaters) u (updater_at updaters u).place
  pub working : (k : ℕ) → WorkAt (queue_at qs k) now.asked now.awaited now.asked_sections (worker_at workers k)
  pub barring : (u : ℕ) → BarKept qs now.noted now.cleared now.noted_objects (updater_at updaters u).place
  pub one_barrier : (u v n : ℕ) → Barring (updater_at updaters u).place n → Barring (updater_at updaters v).place n → u ≡ v
  pub numbers : Numbers barriers logged now.noted now.cleared

abbrev pub Callbacks : {P : Type 0} → BoardView P → State → Type 0
Callbacks w now = CallbacksKept w.objects w.queues w.updaters w.workers w.barriers (length w.log) now

-- a worker whose state is so now, beside what its queue says
pub its_work : {P : Type 0} (w : BoardView P) (now : State) → Callbacks w now → (k : ℕ) (x : WorkerState P) {core : WorkerCore P Unit} → slice_get w.workers k ≡ Some x → x.core ≡ core → WorkAt (queue_at w.queues k) now.asked now.awaited now.asked_sections (record x { core = core })
its_work w now c k x there is = subst (λ (core : WorkerCore _ Unit). WorkAt (queue_at w.queues k) now.asked now.awaited now.asked_sections (record x { core = core })) is
    (subst (λ (y : WorkerState _). WorkAt (queue_at w.queues k) now.asked now.awaited now.asked_sections y) (get_or_from_slice_get w.workers k x new_worker there) (c.working k))

-- one queue changes, and what holds of each still holds
pub at_queues : (F : ℕ → QueueState → Type 0) (f : QueueState → QueueState) (qs : List QueueState) (j : ℕ) → j < length qs → F j (f (queue_at qs j)) → ((i : ℕ) → i ≢ j → F i (queue_at qs i)) → (i : ℕ) → F i (queue_at (changed_at f qs j (slice_get qs j)) i)
at_queues F f qs j inside mine others i = by (decide_number i j)
  where
    by : (i ≡ j) ⊎ (i ≢ j) → F i (queue_at (changed_at f qs j (slice_get qs j)) i)
    by (inl e) = subst (λ n. F n (queue_at (changed_at f qs j (slice_get qs j)) n)) (sym e) (subst (F j) (sym (changed_here f qs j inside)) mine)
    by (inr n) = subst (F i) (sym (changed_else f qs j i n)) (others i n)

-- what a batch and a worker keep where sections end and asks are made
module _ (asked asked' : List ℕ) (awaited awaited' : ObjectId → List SectionId) (asked_sections asked_sections' : ℕ → List SectionId) (asks : (a : ℕ) → In asked a → In asked' a) where
  abbrev pub Covers : Items → Type 0
  Covers waiting = (o : ObjectId) (a : ℕ) → Has waiting o → In asked a → Covered awaited asked_sections o a → Covered awaited' asked_sections' o a

  batch_waits : (ready waiting : Items) (noted : Option ℕ) (ask tickets cookie : ℕ) → Covers waiting → BatchWaits ready waiting noted asked awaited asked_sections ask tickets cookie → BatchWaits ready waiting noted asked' awaited' asked_sections' ask tickets cookie
  batch_waits ready waiting noted ask tickets cookie covers b = assumption (asks ask b.was_asked, λ (o : ObjectId) (h : Has waiting o). covers o ask h b.was_asked (b.covered o h))

  batch_kept : {P : Type 0} (ready waiting : Items) (noted : Option ℕ) (ask tickets : ℕ) (place : SyncCore P) → Covers waiting → BatchKept ready waiting noted asked awaited asked_sections ask tickets place → BatchKept ready waiting noted asked' awaited' asked_sections' ask tickets place
  batch_kept ready waiting noted ask tickets (SyncCore.Waits c) covers b = batch_waits ready waiting noted ask tickets c covers b
  batch_kept ready waiting noted ask tickets (SyncCore.Checks c) covers b = batch_waits ready waiting noted ask tickets c covers b
  batch_kept ready waiting noted ask tickets (SyncCore.Starts c) covers b = batch_waits ready waiting noted ask tickets c covers b
  batch_kept ready waiting noted ask tickets (SyncCore.Runs c p) covers b = batch_waits ready waiting noted ask tickets c covers b
  batch_kept ready waiting noted ask tickets _ covers b = b

  work_kept : {P : Type 0} (ready waiting : Items) (noted : Option ℕ) (gone finished ask : ℕ) (place : WorkerCore P Unit) → Covers waiting → WorkKept ready waiting noted gone finished asked awaited asked_sections ask place → WorkKept ready waiting noted gone finished asked' awaited' asked_sections' ask place
  work_kept ready waiting noted gone finished ask (WorkerCore.Syncs place tickets) covers b = (batch_kept ready waiting noted ask tickets.left place covers b.0, b.1, b.2)
  work_kept ready waiting noted gone finished ask _ covers b = b

  pub work_at : {P : Type 0} (q : QueueState) (x : WorkerState P) → Covers q.items.waiting → WorkAt q asked awaited asked_sections x → WorkAt q asked' awaited' asked_sections' x
  work_at q x covers b = work_kept q.items.ready q.items.waiting q.items.cookie q.items.gone q.finished x.ask x.core covers b

-- a queue where more was logged
pub queue_more : {q : QueueState} {logged logged' : ℕ} {awaited : ObjectId → List SectionId} → logged ≤ logged' → QueueKept q logged awaited → QueueKept q logged' awaited
queue_more {q} {logged' = logged'} more k = let low : given_of q.items ≤ logged' = omega (arith, k.given_low, more) in assumption (low, k)

-- and one where fewer sections are awaited
queue_frees : {q : QueueState} {logged : ℕ} {awaited : ObjectId → List SectionId} (awaited' : ObjectId → List SectionId) → ((o : ObjectId) → awaited o ≡ [] → awaited' o ≡ []) → QueueKept q logged awaited → QueueKept q logged awaited'
queue_frees {q} awaited' frees k = assumption (k, λ (o : ObjectId) (h : Has q.items.ready o). frees o (k.ready_free o h))

-- a queue with other items, as many of which were given, where what is ready is free
pub items_kept : (q : QueueState) (items : ItemQueue (Item Unit)) (logged : ℕ) (awaited : ObjectId → List SectionId) → QueueKept q logged awaited → items.closed ≡ q.items.closed → given_of items ≡ given_of q.items → ((o : ObjectId) → Has items.ready o → awaited o ≡ []) →
    QueueKept (record q { items = items }) logged awaited
items_kept q items logged awaited k same given free =
    record { is_open = same ∙ k.is_open; given_low = subst (λ n. n ≤ logged) (sym given) k.given_low; announced = subst (λ n. n ≤ q.queued) (sym given) k.announced; at_rest = λ e. k.at_rest e ∙ sym given; ready_free = free }

-- events of readers, of those who publish and of those who ask
abbrev pub IsOther : Event → Type 0
IsOther (Retire o) = ⊥
IsOther (Queue o q) = ⊥
IsOther (Run o) = ⊥
IsOther (Event.Bar b) = ⊥
IsOther (Clear b) = ⊥
IsOther _ = Unit {0}

module _ {P : Type 0} (w : BoardView P) (now : State) (k : Callbacks w now) where
  over_sections : (sections' : List SectionId) (awaited' : ObjectId → List SectionId) (asked' : List ℕ) (asked_sections' : ℕ → List SectionId) →
      ((o : ObjectId) → now.awaited o ≡ [] → awaited' o ≡ []) → ((a : ℕ) → In now.asked a → In asked' a) →
      ((o : ObjectId) (a : ℕ) → In now.asked a → Covered now.awaited now.asked_sections o a → Covered awaited' asked_sections' o a) →
      Callbacks w (record now { sections = sections'; awaited = awaited'; asked = asked'; asked_sections = asked_sections' })
  over_sections sections' awaited' asked' asked_sections' frees asks covers = assumption (
    λ (j : ℕ). queue_frees awaited' frees (k.queues j),
    λ (j : ℕ). work_at now.asked asked' now.awaited awaited' now.asked_sections asked_sections' asks (queue_at w.queues j) (worker_at w.workers j) (λ o a h. covers o a) (k.working j),
  )

  -- what such an event keeps
  pub over_event : (e : Event) → IsOther e → IsAllowed now e → Callbacks w (after now e)
  over_event (Open s) is allowed = assumption (over_sections (now.sections ++ s ∷ []) now.awaited now.asked now.asked_sections (λ o e. e) (λ a h. h) (λ o a h c. c))
  over_event (Close s) is allowed = assumption (over_sections (without_section s now.sections) (λ o. without_section s (now.awaited o)) now.asked (λ a. without_section s (now.asked_sections a))
      (λ o e. ap (without_section s) e) (λ a h. h)
      (λ o a h c t g. let had = without_section_has s (now.awaited o) t g in has_without_section s (now.asked_sections a) t (c t had.0) had.1))
  over_event (Retire o) is allowed = absurd is
  over_event (Queue o q) is allowed = absurd is
  over_event (Run o) is allowed = absurd is
  over_event (Ask a) is allowed = assumption (over_sections now.sections now.awaited (a ∷ now.asked) (at_number a now.sections now.asked_sections) (λ o e. e) (λ b h. inr h)
      (λ o b h c t g. subst (λ (l : List SectionId). In l t) (sym (at_number_other a b now.sections now.asked_sections (λ e. allowed (has_number_in now.asked a (subst (In now.asked) e h))))) (c t g)))
  over_event (Event.Bar b) is allowed = absurd is
  over_event (Clear b) is allowed = absurd is
  over_event (First s c None) is allowed = assumption k
  over_event (Next s o None) is allowed = assumption k
  over_event _ is allowed = assumption k

-- ---- what a change of one queue keeps of items, of other updaters and of barriers

-- a retirement keeps its place where the table keeps what it looks at
due_over : (os os' : List ObjectState) (reserved : Bool) (queued given count u : ℕ) (o : ObjectId) (d : RetireStep) → ((life_of os o ≡ Life.Kept) ⊎ (life_of os o ≡ Life.Retired) → chain_of os o % count ≡ u → life_of os' o ≡ life_of os o) →
    (o.0 < length os → chain_of os' o ≡ chain_of os o) → (stage_of os o ≡ Stage.Cut → stage_of os' o ≡ Stage.Cut) → DueKept os reserved queued given count u o d → DueKept os' reserved queued given count u o d
due_over os os' reserved queued given count u o d lives chains cuts h = by d h
  where
    home : o.0 < length os → chain_of os o % count ≡ u → chain_of os' o % count ≡ u
    home inside e = ap (λ c. c % count) (chains inside) ∙ e

    by : (d : RetireStep) → DueKept os reserved queued given count u o d → DueKept os' reserved queued given count u o d
    by RetireStep.Mark h = (cuts h.0, lives (inl h.1) h.2 ∙ h.1, home (within os o (λ e. cc (sym h.0 ∙ e))) h.2, h.3, h.4)
    by RetireStep.Count h = (lives (inr h.0) h.1 ∙ h.0, home (life_within os o (λ e. cc (sym h.0 ∙ e))) h.1, h.2, h.3)
    by RetireStep.Push h = (lives (inr h.0) h.1 ∙ h.0, home (life_within os o (λ e. cc (sym h.0 ∙ e))) h.1, h.2, h.3)
    by RetireStep.Free h = h

retire_over : {P : Type 0} (os os' : List ObjectState) (qs : List QueueState) (count u : ℕ) (p : UpdaterPlace P) → ((o : ObjectId) → (life_of os o ≡ Life.Kept) ⊎ (life_of os o ≡ Life.Retired) → chain_of os o % count ≡ u → life_of os' o ≡ life_of os o) →
    ((o : ObjectId) → o.0 < length os → chain_of os' o ≡ chain_of os o) → ((o : ObjectId) → stage_of os o ≡ Stage.Cut → stage_of os' o ≡ Stage.Cut) → RetireKept os qs count u p → RetireKept os' qs count u p
retire_over os os' qs count u (Retires o d) lives chains cuts h =
    let q = queue_at qs (u % length qs) in (h.0, due_over os os' q.items.reserved q.queued (given_of q.items) count u o d (lives o) (chains o) (cuts o) h.1)
retire_over os os' qs count u _ lives chains cuts h = tt

-- so it does where a header is stored that it does not look at
pub retire_marked : {P : Type 0} (os : List ObjectState) (m : Mark) (qs : List QueueState) (count v : ℕ) (p : UpdaterPlace P) →
    ((o : ObjectId) → (life_of os o ≡ Life.Kept) ⊎ (life_of os o ≡ Life.Retired) → chain_of os o % count ≡ v → o ≢ m.object) → RetireKept os qs count v p → RetireKept (marked_life os (Some m)) qs count v p
retire_marked os m qs count v p apart = retire_over os (marked_life os (Some m)) qs count v p (λ o is home. life_else os m o (apart o is home)) (λ o _. chain_marked os (Some m) o) (λ o e. stage_marked os (Some m) o ∙ e)

-- who stands in a queue stands in one of others, where each place is kept
pub found_over : (qs qs' : List QueueState) (o : ObjectId) → length qs' ≡ length qs → ((j t : ℕ) → InQueue (queue_at qs j) t o → InQueue (queue_at qs' j) t o) → Found qs o → Found qs' o
found_over qs qs' o same stays (j, t, low, here) = (j, t, subst (λ n. j < n) (sym same) low, stays j t here)

-- a barrier over other queues, in which each object that it waits for keeps its place
pub bar_over : {P : Type 0} (qs qs' : List QueueState) (noted cleared : List ℕ) (noted_objects noted_objects' : ℕ → List ObjectId) (p : UpdaterPlace P) → length qs' ≡ length qs →
    ((b : ℕ) (o : ObjectId) → In (noted_objects' b) o → In (noted_objects b) o × ((j t : ℕ) → InQueue (queue_at qs j) t o → InQueue (queue_at qs' j) t o)) →
    BarKept qs noted cleared noted_objects p → BarKept qs' noted cleared noted_objects' p
bar_over qs qs' noted cleared noted_objects noted_objects' (Bars b) same stays h = (
  h.0,
  h.1,
  subst (λ n. n ≤ length b.counts) (sym same) h.2,
  subst (IsAt b.due) (sym same) h.3,
  λ o g. let was = stays b.number o g in let f = h.4 o was.0 in (f.0, f.1, subst (λ n. f.0 < n) (sym same) f.2, was.1 f.0 f.1 f.3, f.4),
)
bar_over qs qs' noted cleared noted_objects noted_objects' _ same stays h = tt

module _ (qs : List QueueState) (j : ℕ) (f : QueueState → QueueState) (inside : j < length qs) where
  abbrev pub qs' : List QueueState
  qs' = changed_at f qs j (slice_get qs j)

  abbrev q : QueueState
  q = queue_at qs j

  -- a retirement goes on where it does so in the queue that changes
  retire_at : (os : List ObjectState) (count v : ℕ) (o : ObjectId) (d : RetireStep) → (Retiring os q count v o d → Retiring os (f q) count v o d) → Retiring os (queue_at qs (v % length qs)) count v o d → Retiring os (queue_at qs' (v % length qs')) count v o d
  retire_at os count v o d goes h = subst (λ n. Retiring os (queue_at qs' (v % n)) count v o d) (sym (changed_length f qs j))
      (at_queues (λ i r. v % length qs ≡ i → Retiring os r count v o d) f qs j inside (λ e. goes (subst (λ n. Retiring os (queue_at qs n) count v o d) e h)) (λ i apart e. subst (λ n. Retiring os (queue_at qs n) count v o d) e h) (v % length qs) refl)

  -- who does not hold the queue's lock is not concerned
  pub retire_apart : {P : Type 0} (os : List ObjectState) (count v : ℕ) (p : UpdaterPlace P) → (q.holder ≢ Some v) → RetireKept os qs count v p → RetireKept os qs' count v p
  retire_apart os count v (Retires o d) other h = retire_at os count v o d (λ was. absurd (other was.0)) h
  retire_apart os count v _ other h = tt

  -- nor is anybody where lock, place and counts stay
  pub retire_through : {P : Type 0} (os : List ObjectState) (count v : ℕ) (p : UpdaterPlace P) → (f q).holder ≡ q.holder → (f q).items.reserved ≡ q.items.reserved → (f q).queued ≡ q.queued → given_of (f q).items ≡ given_of q.items →
      RetireKept os qs count v p → RetireKept os qs' count v p
  retire_through os count v (Retires o d) lock place count_same given h = retire_at os count v o d (λ was. (
    lock ∙ was.0,
    subst (λ r. DueKept os r (f q).queued (given_of (f q).items) count v o d) (sym place)
        (subst (λ n. DueKept os q.items.reserved n (given_of (f q).items) count v o d) (sym count_same) (subst (λ n. DueKept os q.items.reserved q.queued n count v o d) (sym given) was.1)),
  )) h
  retire_through os count v _ lock place count_same given h = tt

  -- the updater that holds the lock
  pub retire_here : (os : List ObjectState) (count u : ℕ) (o : ObjectId) (d : RetireStep) → u % length qs ≡ j → Retiring os (f q) count u o d → Retiring os (queue_at qs' (u % length qs')) count u o d
  retire_here os count u o d is h =
      subst (λ (r : QueueState). Retiring os r count u o d)
      (sym (ap (λ n. queue_at qs' (u % n)) (changed_length f qs j) ∙ ap (λ n. queue_at qs' n) is ∙ changed_here f qs j inside)) h

  -- items that stay where they are
  module _ (gone : (f q).items.gone ≡ q.items.gone) (items : items_of (f q).items ≡ items_of q.items) where
    pub stays : (i t : ℕ) (o : ObjectId) → InQueue (queue_at qs i) t o → InQueue (queue_at qs' i) t o
    stays i t o =
        at_queues (λ i r. InQueue (queue_at qs i) t o → InQueue r t o) f qs j inside
        (λ h. subst (λ n. Stands n (items_of (f q).items) t o) (sym gone) (subst (λ l. Stands q.items.gone l t o) (sym items) h)) (λ i n h. h) i

    pub was_there : (i t : ℕ) (o : ObjectId) → InQueue (queue_at qs' i) t o → InQueue (queue_at qs i) t o
    was_there i t o =
        at_queues (λ i r. InQueue r t o → InQueue (queue_at qs i) t o) f qs j inside
        (λ h. subst (λ l. Stands q.items.gone l t o) items (subst (λ n. Stands n (items_of (f q).items) t o) gone h)) (λ i n h. h) i

    pub items_stay : {os : List ObjectState} {retired queued reclaimed : List ObjectId} → ItemsKept os qs retired queued reclaimed → ItemsKept os qs' retired queued reclaimed
    items_stay k = record {
      lives = k.lives;
      found = λ o e. found_over qs qs' o (changed_length f qs j) (λ i t. stays i t o) (k.found o e);
      there = λ i t o h. k.there i t o (was_there i t o h);
      one_place = λ a b s t o g h. k.one_place a b s t o (was_there a s o g) (was_there b t o h);
    }

-- ---- what lines that retire nothing, await no barrier and are no worker's keep of callbacks

-- the updater neither retires nor waits for all
abbrev pub IsPlain : {P : Type 0} → UpdaterPlace P → Type 0
IsPlain p = BarsNone p × RetiresNone p

-- what updaters keep of callbacks
pub record UpdatersKept {P : Type 0} (os : List ObjectState) (qs : List QueueState) (updaters : List (UpdaterState P)) (noted cleared : List ℕ) (noted_objects : ℕ → List ObjectId) : Type 0 where
  pub retiring : (u : ℕ) → RetireKept os qs (length updaters) u (updater_at updaters u).place
  pub barring : (u : ℕ) → BarKept qs noted cleared noted_objects (updater_at updaters u).place
  pub one_barrier : (u v n : ℕ) → Barring (updater_at updaters u).place n → Barring (updater_at updaters v).place n → u ≡ v

-- one updater is set, whose barrier is no other's
pub updaters_set : {P : Type 0} (os : List ObjectState) (qs : List QueueState) (updaters : List (UpdaterState P)) (noted cleared : List ℕ) (noted_objects : ℕ → List ObjectId) (u : ℕ) (x : UpdaterState P) → u < length updaters →
    RetireKept os qs (length updaters) u x.place → ((v : ℕ) → v ≢ u → RetireKept os qs (length updaters) v (updater_at updaters v).place) → BarKept qs noted cleared noted_objects x.place → ((v : ℕ) → v ≢ u → BarKept qs noted cleared noted_objects (updater_at updaters v).place) →
    ((n v : ℕ) → v ≢ u → Barring x.place n → Barring (updater_at updaters v).place n → ⊥) → ((u v n : ℕ) → Barring (updater_at updaters u).place n → Barring (updater_at updaters v).place n → u ≡ v) → UpdatersKept os qs (slice_set updaters u x) noted cleared noted_objects
updaters_set os qs updaters noted cleared noted_objects u x inside retires retire bars bar alone one = record {
  retiring = subst (λ n. (v : ℕ) → RetireKept os qs n v (updater_at (slice_set updaters u x) v).place) (sym (length-set updaters u x)) (at_updaters (λ v y. RetireKept os qs (length updaters) v y.place) updaters u x inside retires retire);
  barring = at_updaters (λ v y. BarKept qs noted cleared noted_objects y.place) updaters u x inside bars bar;
  one_barrier = λ i j n. at_updaters (λ i y. Barring y.place n → Barring (updater_at (slice_set updaters u x) j).place n → i ≡ j) updaters u x inside
      (λ a. at_updaters (λ j y. Barring y.place n → u ≡ j) updaters u x inside (λ b. refl) (λ v apart b. absurd (alone n v apart a b)) j)
      (λ i apart a. at_updaters (λ j y. Barring y.place n → i ≡ j) updaters u x inside (λ b. absurd (alone n i apart b a)) (λ v other b. one i v n a b) j) i;
}

module _ {P : Type 0} (w : BoardView P) (now : State) (k : Callbacks w now) where
  -- only readers, chains and grace periods change
  over_table : (os' : List ObjectState) (u : ℕ) (x : UpdaterState P) (logged' : ℕ) → u < length w.updaters → IsPlain x.place → length w.log ≤ logged' →
      ((o : ObjectId) → life_of os' o ≡ life_of w.objects o) → ((o : ObjectId) → o.0 < length w.objects → chain_of os' o ≡ chain_of w.objects o) → ((o : ObjectId) → stage_of w.objects o ≡ Stage.Cut → stage_of os' o ≡ Stage.Cut) →
      CallbacksKept os' w.queues (slice_set w.updaters u x) w.workers w.barriers logged' now
  over_table os' u x logged' inside plain more lives chains cuts = let items : ItemsKept os' w.queues now.retired now.queued now.reclaimed = record {
    lives = λ o. subst (λ (l : Life). LifeKept l o now.retired now.queued now.reclaimed) (sym (lives o)) (k.items.lives o);
    found = λ o e. k.items.found o (sym (lives o) ∙ e);
    there = λ j t o h. lives o ∙ k.items.there j t o h;
    one_place = k.items.one_place;
  } in assumption (
    items,
    λ (j : ℕ). queue_more more (k.queues j),
    updaters_set os' w.queues w.updaters now.noted now.cleared now.noted_objects u x inside (retires_none os' w.queues (length w.updaters) u x.place plain.1)
        (λ v apart. retire_over w.objects os' w.queues (length w.updaters) v (updater_at w.updaters v).place (λ o _ _. lives o) chains cuts (k.retiring v))
        (bars_kept w.queues now.noted now.cleared now.noted_objects x.place plain.0) (λ v apart. k.barring v) (λ n v apart b. absurd (bars_none x.place n plain.0 b)) k.one_barrier,
    numbers_over more k.numbers,
  )

-- more is logged
pub logged_more : {P : Type 0} {os : List ObjectState} {qs : List QueueState} {updaters : List (UpdaterState P)} {workers : List (WorkerState P)} {barriers logged : ℕ} {now : State} (logged' : ℕ) → logged ≤ logged' →
    CallbacksKept os qs updaters workers barriers logged now → CallbacksKept os qs updaters workers barriers logged' now
logged_more logged' more k = assumption (λ (j : ℕ). queue_more more (k.queues j), numbers_over more k.numbers)

abbrev pub AreOther : List Event → Type 0
AreOther [] = Unit {0}
AreOther (e ∷ es) = IsOther e × AreOther es

-- a reader's step tells of no queue and no barrier
pub other_reads : {P : Type 0} (qsbr : Bool) (layout : Layout) (w : BoardView P) (r : ℕ) (v : ReaderState) → ReaderRows qsbr layout w r v (λ step. AreOther (told step.answer))
other_reads qsbr layout w r v _ (Copies none zero) = tt
other_reads qsbr layout w r v _ (Nests word none flavour more is) = tt
other_reads qsbr layout w r v _ (Unnests word none flavour is more) = tt
other_reads qsbr layout w r v _ (Announces copied has flavour online) = (tt, (tt, tt))
other_reads qsbr layout w r v _ _ = (tt, tt)

over_events : {P : Type 0} (w : BoardView P) (now : State) (es : List Event) → AreOther es → AreAllowed now es → Callbacks w now → Callbacks w (after_all now es)
over_events w now [] is allowed k = k
over_events w now (e ∷ es) is allowed k = over_events w (after now e) es is.1 allowed.1 (over_event w now k e is.0 allowed.0)

-- changes that callbacks do not notice
abbrev pub PlainChange : {P : Type 0} → BoardView P → Change P → Type 0
PlainChange w (Read r step) = AreOther (told step.answer)
PlainChange w (Begin u x y) = (u < length w.updaters) × IsPlain x.place × (y.life ≡ Life.Kept) × (y.stage ≡ Stage.Fresh)
PlainChange w (Publish u x s e) = (u < length w.updaters) × IsPlain x.place × IsOther e
PlainChange w (Grace u x grace answer) = (u < length w.updaters) × IsPlain x.place × AreOther (told answer)
PlainChange w (Stay answer) = Unit {0}
PlainChange w _ = ⊥

module _ {P : Type 0} {plans : Plans P} {layout : Layout} {slots : ℕ} {laws : Laws plans layout slots} {w : BoardView P} {now : State} (kept : Kept plans layout slots laws w now) (k : Callbacks w now) where
  -- what a change owes, with its callbacks
  abbrev pub OwesAll : Result (Change P) Refusal → Type 0
  OwesAll (Err e) = Unit {0}
  OwesAll (Ok change) = AreAllowed now (told_by change) × Kept plans layout slots laws (changed w change) (after_all now (told_by change)) × Callbacks (changed w change) (after_all now (told_by change))

  pub plainly : (change : Change P) → PlainChange w change → Owes plans layout slots laws w now (Ok change) → OwesAll (Ok change)
  plainly (Read r step) is owed = (owed.0, owed.1, logged_more (length (w.log ++ told step.answer)) (longer w.log (told step.answer)) (over_events w now (told step.answer) is owed.0 k))
  plainly (Begin u x y) is owed = (
    owed.0,
    owed.1,
    over_table w now k (w.objects ++ y ∷ []) u x (length w.log) is.0 is.1 (omega arith) (λ o. life_grown w.objects y o is.2)
        (λ o inside. ap (λ (z : ObjectState). z.chain) (grown_same w.objects y o inside)) (λ o e. stage_grown w.objects y is.3 o ∙ e),
  )
  plainly (Publish u x s e) is owed = (
    owed.0,
    owed.1,
    over_table w (after now e) (over_event w now k e is.2 owed.0.0) (spliced_objects w.objects s) u x (length (w.log ++ e ∷ [])) is.0 is.1 (longer w.log (e ∷ [])) (life_spliced w.objects s)
        (λ o inside. spliced_chain w.objects s o) (λ o was. (owed.1.links_kept.was_cut o ((grows now e).cut o (kept.links_kept.cuts o was))).0),
  )
  plainly (Grace u x grace answer) is owed = (
    owed.0,
    owed.1,
    over_table w (after_all now (told answer)) (over_events w now (told answer) is.2 owed.0 k) w.objects u x (length (w.log ++ told answer)) is.0 is.1 (longer w.log (told answer)) (λ o. refl) (λ o inside. refl) (λ o e. e),
  )
  plainly (Stay answer) is owed = (owed.0, owed.1, k)
  plainly _ is owed = absurd is
