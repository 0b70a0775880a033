-- What the world keeps beside the machine: one record of parts.
use Rattle.world.proofs.Cited.{◌≡◌, ◌≢◌, ◌⊎◌, inl, inr, ⊎_elim, ℕ, ◌+◌, ◌-◌, ◌^◌, ◌<◌, ◌≤◌, ◌==◌, Bool, true, false, List, [], ◌∷◌, ◌++◌, length, get_or, slice_set, Option, Some, None, Result, Ok, Err, refl, sym, ap, subst, arith, true≢false, append-nil, get_or-set_other, get_or-set_same, not-true, eqb-false, Event, ObjectId, Refusal, State, AreAllowed, after_all, Layout, count_of, phase_in, number, Shows, SyncCore, ReaderState, ObjectState, Holder, UpdaterPlace, Publishes, Syncs, Started, UpdaterState, Change, Read, Begin, Publish, Grace, Hold, Bar, Stay, WorkerCore, WorkerState, new_worker, Plans, BoardView, idle, told, changed, is_open_in, LinksKept, PlaceKept, decide_number, reader_at, ReadersKept, reader_there, get_or_from_slice_get, slice_get, ◌∙◌}
use Rattle.world.proofs.Fence.{Work, Rests, Waits, Checks, Starts, Runs, Frees, Laws, Sets, Part, Marks}

-- who may ask: an updater by `sync`, an updater by `start`, a worker
pub data Asker : Type 0 where
  Syncing : ℕ → Asker
  Polling : ℕ → Asker
  Working : ℕ → Asker

pub decide_asker : (x y : Asker) → (x ≡ y) ⊎ (x ≢ y)
decide_asker (Syncing u) (Syncing v) = ⊎_elim (λ (e : u ≡ v). inl (ap Syncing e)) (λ (n : u ≢ v). inr (λ e. n (cc))) (decide_number u v)
decide_asker (Polling u) (Polling v) = ⊎_elim (λ (e : u ≡ v). inl (ap Polling e)) (λ (n : u ≢ v). inr (λ e. n (cc))) (decide_number u v)
decide_asker (Working u) (Working v) = ⊎_elim (λ (e : u ≡ v). inl (ap Working e)) (λ (n : u ≢ v). inr (λ e. n (cc))) (decide_number u v)
decide_asker _ _ = inr (λ e. cc)

-- what each does
abbrev pub core_work : {P : Type 0} → ℕ → SyncCore P → Work P
core_work ask SyncCore.Asks = Rests
core_work ask (SyncCore.Waits cookie) = Waits ask cookie
core_work ask (SyncCore.Checks cookie) = Checks ask cookie
core_work ask (SyncCore.Starts cookie) = Starts ask cookie
core_work ask (SyncCore.Runs cookie plan) = Runs ask cookie plan
core_work ask SyncCore.Frees = Frees
core_work ask SyncCore.Done = Rests

abbrev pub place_work : {P : Type 0} → UpdaterPlace P → Work P
place_work (Syncs ask core) = core_work ask core
place_work _ = Rests

abbrev pub worker_work : {P : Type 0} → ℕ → WorkerCore P Unit → Work P
worker_work ask (WorkerCore.Syncs core tickets) = core_work ask core
worker_work ask _ = Rests

abbrev pub started_work : {P : Type 0} → Option Started → Work P
started_work None = Rests
started_work (Some s) = Waits s.ask s.cookie

abbrev pub updater_at : {P : Type 0} → List (UpdaterState P) → ℕ → UpdaterState P
updater_at updaters u = get_or updaters u idle

abbrev pub worker_at : {P : Type 0} → List (WorkerState P) → ℕ → WorkerState P
worker_at workers k = get_or workers k new_worker

abbrev pub work_of : {P : Type 0} → List (UpdaterState P) → List (WorkerState P) → Asker → Work P
work_of updaters workers (Syncing u) = place_work (updater_at updaters u).place
work_of updaters workers (Polling u) = started_work (updater_at updaters u).started
work_of updaters workers (Working k) = worker_work (worker_at workers k).ask (worker_at workers k).core

abbrev pub asker_of : Holder → Asker
asker_of (Holder.Updater u) = Syncing u
asker_of (Holder.Worker k) = Working k

abbrev pub holder_of : Option Holder → Option Asker
holder_of None = None
holder_of (Some h) = Some (asker_of h)

abbrev pub word_at : List ReaderState → ℕ → ℕ
word_at readers r = (reader_at readers r).word

-- one of a list is set, and what holds of each still holds
pub at_each : {X : Type 0} (d : X) (F : ℕ → X → Type 0) (xs : List X) (u : ℕ) (x : X) → u < length xs → F u x → ((v : ℕ) → v ≢ u → F v (get_or xs v d)) → (v : ℕ) → F v (get_or (slice_set xs u x) v d)
at_each d F xs u x inside mine others v = by (decide_number v u)
  where
    by : (v ≡ u) ⊎ (v ≢ u) → F v (get_or (slice_set xs u x) v d)
    by (inl e) = subst (λ n. F n (get_or (slice_set xs u x) n d)) (sym e) (subst (F u) (sym (get_or-set_same xs u x d inside)) mine)
    by (inr n) = subst (F v) (sym (get_or-set_other xs u v x d n)) (others v n)

pub at_updaters : {P : Type 0} (F : ℕ → UpdaterState P → Type 0) (updaters : List (UpdaterState P)) (u : ℕ) (x : UpdaterState P) → u < length updaters → F u x → ((v : ℕ) → v ≢ u → F v (updater_at updaters v)) → (v : ℕ) → F v (updater_at (slice_set updaters u x) v)
at_updaters = at_each idle

pub at_workers : {P : Type 0} (F : ℕ → WorkerState P → Type 0) (workers : List (WorkerState P)) (u : ℕ) (x : WorkerState P) → u < length workers → F u x → ((v : ℕ) → v ≢ u → F v (worker_at workers v)) → (v : ℕ) → F v (worker_at (slice_set workers u x) v)
at_workers = at_each new_worker

-- a grace period that rests between two lines was asked for, and is not done
abbrev pub IsUnderWay : {P : Type 0} → SyncCore P → Type 0
IsUnderWay SyncCore.Asks = ⊥
IsUnderWay SyncCore.Done = ⊥
IsUnderWay _ = Unit {0}

-- where an updater stands between two steps of its operation
abbrev pub UpdaterKept : {P : Type 0} → List (Option ObjectId) → List ObjectState → ℕ → ℕ → UpdaterPlace P → Type 0
UpdaterKept heads os n u (Publishes what) = PlaceKept heads os n u what
UpdaterKept heads os n u (Syncs ask core) = IsUnderWay core
UpdaterKept heads os n u _ = Unit {0}

-- what a change tells
abbrev pub told_by : {P : Type 0} → Change P → List Event
told_by (Read r step) = told step.answer
told_by (Publish u x splice event) = event ∷ []
told_by (Grace u x grace answer) = told answer
told_by (Change.Retire u x q act mark answer) = told answer
told_by (Bar u x barriers answer) = told answer
told_by (Change.Work k x grace act mark answer) = told answer
told_by _ = []

pub log_after : {P : Type 0} (w : BoardView P) (change : Change P) → (changed w change).log ≡ w.log ++ told_by change
log_after w (Begin u x object) = sym (append-nil w.log)
log_after w (Hold u x q) = sym (append-nil w.log)
log_after w (Stay answer) = sym (append-nil w.log)
log_after w _ = refl

-- a world's layout and readers are those that its plans are made for
pub record Shape (layout : Layout) (slots : ℕ) (mine : Layout) (readers : List ReaderState) : Type 0 where
  pub laid : mine ≡ layout
  pub sized : length readers ≡ slots
  pub some_slot : 1 ≤ slots

module _ {P : Type 0} (plans : Plans P) (layout : Layout) (slots : ℕ) (laws : Laws plans layout slots) where
  pub record Kept (w : BoardView P) (now : State) : Type 0 where
    pub shape : Shape layout slots w.layout w.readers
    pub links_kept : LinksKept w.heads w.objects now.chain now.used now.cut now.successor
    pub places_kept : (u : ℕ) → UpdaterKept w.heads w.objects (length w.updaters) u (updater_at w.updaters u).place
    pub readers_kept : ReadersKept plans.qsbr layout w.readers w.grace.word w.objects now.sections now.seen now.held
    pub part : Part plans layout slots laws (holder_of w.grace.holder) (work_of w.updaters w.workers) (word_at w.readers) w.grace.asks w.grace.seq w.grace.word now.asked now.answered now.asked_sections now.sections
    pub ordinals : (r : ℕ) → (reader_at w.readers r).ordinal ≤ length w.log
    pub asks_low : w.grace.asks ≤ length w.log
    pub seq_low : w.grace.seq ≤ 2 ^ 62 + 2
    pub phase_low : plans.qsbr ≡ false → w.grace.word ≤ 1

  -- what a change owes
  abbrev pub Owes : BoardView P → State → Result (Change P) Refusal → Type 0
  Owes w now (Err e) = Unit {0}
  Owes w now (Ok change) = AreAllowed now (told_by change) × Kept (changed w change) (after_all now (told_by change))

  -- an open section's word shows a mark
  mark_shown : (b : Bool) (n word : ℕ) → is_open_in b layout word ≡ true → (b ≡ true → word ≤ n + 1) → (mark : ℕ) × Shows b layout mark word × (b ≡ true → mark ≤ n)
  mark_shown true n word is low = (word - 1, (let some = eqb-false word 0 (not-true (word == 0) is) in omega (arith, some)), λ _. let l = low refl in omega (arith, l))
  mark_shown false n word is low = (number (phase_in layout word), (eqb-false (count_of layout word) 0 (not-true (count_of layout word == 0) is), same (phase_in layout word)), λ e. absurd (true≢false (sym e)))
    where
      same : (b : Bool) → b ≡ (number b == 1)
      same true = refl
      same false = refl

  pub marks_of : (w : BoardView P) (now : State) → Kept w now → Marks plans layout slots laws (word_at w.readers) w.grace.word now.sections
  marks_of w now k s h =
      let mine = k.readers_kept s.reader in (
        subst (λ n. s.reader < n) k.shape.sized (reader_there plans.qsbr layout w.readers w.grace.word w.objects now.sections now.seen now.held k.readers_kept s h),
        mark_shown plans.qsbr w.grace.word (word_at w.readers s.reader) (mine.opens s.ordinal h).1 mine.marked,
      )

module _ {P : Type 0} where
  -- where an actor stands, whose state is so now
  pub stands_at : (updaters : List (UpdaterState P)) (u : ℕ) (x : UpdaterState P) {place : UpdaterPlace P} → slice_get updaters u ≡ Some x → x.place ≡ place → (updater_at updaters u).place ≡ place
  stands_at updaters u x there is = ap (λ (y : UpdaterState P). y.place) (get_or_from_slice_get updaters u x idle there) ∙ is

  pub works_at : (workers : List (WorkerState P)) (n : ℕ) (x : WorkerState P) {core : WorkerCore P Unit} → slice_get workers n ≡ Some x → x.core ≡ core → worker_work (worker_at workers n).ask (worker_at workers n).core ≡ worker_work x.ask core
  works_at workers n x there is = ap (λ (y : WorkerState P). worker_work y.ask y.core) (get_or_from_slice_get workers n x new_worker there) ∙ ap (worker_work x.ask) is

  -- one updater's place is set
  pub work_set : (updaters : List (UpdaterState P)) (workers : List (WorkerState P)) (u : ℕ) (x : UpdaterState P) → u < length updaters → x.started ≡ (updater_at updaters u).started → Sets (work_of updaters workers) (work_of (slice_set updaters u x) workers) (Syncing u) (place_work x.place)
  work_set updaters workers u x inside same = record {
    here = ap (λ (y : UpdaterState P). place_work y.place) (get_or-set_same updaters u x idle inside);
    others = others;
  }
    where
      others : (y : Asker) → y ≢ Syncing u → work_of (slice_set updaters u x) workers y ≡ work_of updaters workers y
      others (Syncing v) apart = ap (λ (y : UpdaterState P). place_work y.place) (get_or-set_other updaters u v x idle (λ e. apart (ap Syncing e)))
      others (Polling v) apart = ap started_work (at_updaters (λ v y. y.started ≡ (updater_at updaters v).started) updaters u x inside same (λ v other. refl) v)
      others (Working v) apart = refl

  -- one updater's cookie is set
  pub started_set : (updaters : List (UpdaterState P)) (workers : List (WorkerState P)) (u : ℕ) (x : UpdaterState P) → u < length updaters → x.place ≡ (updater_at updaters u).place → Sets (work_of updaters workers) (work_of (slice_set updaters u x) workers) (Polling u) (started_work x.started)
  started_set updaters workers u x inside same = record {
    here = ap (λ (y : UpdaterState P). started_work y.started) (get_or-set_same updaters u x idle inside);
    others = others;
  }
    where
      others : (y : Asker) → y ≢ Polling u → work_of (slice_set updaters u x) workers y ≡ work_of updaters workers y
      others (Syncing v) apart = ap place_work (at_updaters (λ v y. y.place ≡ (updater_at updaters v).place) updaters u x inside same (λ v other. refl) v)
      others (Polling v) apart = ap (λ (y : UpdaterState P). started_work y.started) (get_or-set_other updaters u v x idle (λ e. apart (ap Polling e)))
      others (Working v) apart = refl
