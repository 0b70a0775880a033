-- What the steps of grace periods keep, and that what they tell may come, whoever asks.
use Rattle.world.proofs.Cited.{none-some, ◌≡◌, ◌≢◌, ⊎_elim, ℕ, true≢false, ◌+◌, ◌^◌, ◌<◌, ◌≤◌, ltb, Bool, true, false, List, [], ◌∷◌, ◌++◌, length, slice_get, Option, Some, None, Result, Ok, Err, refl, sym, ap, ◌∙◌, subst, arith, ltb-true, leb-true, leb-false, cond_both, decide_number, SectionId, Refusal, Exhausted, at_number, State, AreAllowed, In, in_numbers, has_number_in, at_number_same, at_number_other, Layout, Action, Load, LoadGroup, StorePhase, StoreSeq, Finished, IsPresent, StoresInOrder, MayStore, present_after, even_below, cookie_for, SyncCore, is_finished, Answer, Events, Quiet, GraceState, Holder, new_reader, Plans, BoardView, told, after_all, nat_le, slice_set, Started, UpdaterState, UpdaterPlace, Idle, Change, Grace, changed, reader_at, readers_over, SyncStep, step_of, Event, GraceStep, loaded_word, action_effect, plan_now, grace_row, is_blocked, is_waiting, sync_place, place_at, grace_change}
use Rattle.world.proofs.Fence.{Work, Rests, Waits, Checks, Starts, Runs, Frees, Pending, RunsNone, Laws, Sets, Running, runs_no_group, cookie_fits, Holds, StartsNone, asks_set, asks_answered, holding, first_second, Part, Marks, reached_empty, part_asked, part_turned, part_begun, part_ended, ended_empty, part_set, same_ask}
use Rattle.world.proofs.State.{Asker, decide_asker, asker_of, core_work, work_of, holder_of, word_at, Kept, marks_of, Syncing, Polling, place_work, started_work, UpdaterKept, work_set, started_set}
use Rattle.world.proofs.KeptReaders.{entry_is, log_longer, log_one}
use Rattle.world.proofs.Rows.{next, TurnRow, tells, effect, Asking, Blocking, Standing, Locking, Finding, Needing, Going, Begins, GoesOn, Ending, Freeing, Resting, turn_of}
use Rattle.world.proofs.Callbacks.{Callbacks, IsPlain, OwesAll, plainly, AreOther}
use Rattle.world.proofs.KeptPublishing.{There, places_set}

module _ {P : Type 0} {plans : Plans P} {layout : Layout} {slots : ℕ} {laws : Laws plans layout slots} {w : BoardView P} {now : State} (k : Kept plans layout slots laws w now) where
  abbrev words : ℕ → ℕ
  words = word_at w.readers

  abbrev works : Asker → Work P
  works = work_of w.updaters w.workers

  abbrev pub PartOf : Option Asker → (Asker → Work P) → ℕ → ℕ → ℕ → List ℕ → List ℕ → (ℕ → List SectionId) → Type 0
  PartOf held works' asks seq number asked answered awaited = Part plans layout slots laws held works' words asks seq number asked answered awaited now.sections

  marks : Marks plans layout slots laws words w.grace.word now.sections
  marks = marks_of plans layout slots laws w now k

  -- the machine behind what is told
  abbrev pub later : Answer → State
  later answer = after_all now (told answer)

  -- the asker's work is set, with what is kept of grace periods
  pub record StepKept (y : Asker) (work : Work P) (grace : GraceState) (answer : Answer) : Type 0 where
    pub allowed : AreAllowed now (told answer)
    pub rises : plans.qsbr ≡ true → w.grace.word ≤ grace.word
    pub phase_low : plans.qsbr ≡ false → grace.word ≤ 1
    pub seq_low : grace.seq ≤ 2 ^ 62 + 2
    pub asks_low : grace.asks ≤ length (w.log ++ told answer)
    pub part : (works' : Asker → Work P) → Sets works works' y work → PartOf (holder_of grace.holder) works' grace.asks grace.seq grace.word (later answer).asked (later answer).answered (later answer).asked_sections

  steady : plans.qsbr ≡ true → w.grace.word ≤ w.grace.word
  steady q = omega arith

  pending_at : (y : Asker) (v : Work P) (a c : ℕ) → works y ≡ v → Pending v a c → Pending (works y) a c
  pending_at y v a c is h = subst (λ (z : Work P). Pending z a c) (sym is) h

  -- an ask may be answered
  answer_allowed : (y : Asker) (ask c : ℕ) → Pending (works y) ask c → now.asked_sections ask ≡ [] → AreAllowed now (Event.Answer ask ∷ [])
  answer_allowed y ask c pending none =
      let p = k.part.asks_kept.pending y ask c pending in
      ((has_number_in now.asked ask p.0, (λ h. p.1 (in_numbers now.answered ask h)), none), tt)

  -- an ask is made, with the cookie of the present sequence number
  abbrev Asked : Asker → ℕ → Type 0
  Asked y c = StepKept y (Waits (w.grace.asks + 1) c) (record w.grace { asks = w.grace.asks + 1 }) (Events (Event.Ask (w.grace.asks + 1)) None)

  asked_kept : (y : Asker) → RunsNone (works y) → w.grace.seq < 2 ^ 62 → Asked y (even_below (w.grace.seq + 3))
  asked_kept y none below =
      let seq : ℕ = w.grace.seq in
      record {
        allowed = ((λ h. fresh (in_numbers now.asked ask h)), tt);
        rises = steady;
        phase_low = k.phase_low;
        seq_low = k.seq_low;
        asks_low = let l = log_one w.log (Event.Ask ask) [] w.grace.asks k.asks_low in omega (arith, l);
        part = λ works' s. part_asked decide_asker k.part s none (cookie_fits seq below) (λ a n. at_number_other ask a now.sections now.asked_sections n) opens;
      }
    where
      ask : ℕ
      ask = w.grace.asks + 1

      fresh : ¬ In now.asked ask
      fresh h = let low = k.part.asks_kept.asked_low ask h in omega (arith, low)

      awaited : ℕ → List SectionId
      awaited = at_number ask now.sections now.asked_sections

      opens : (a : ℕ) (s : SectionId) → In (awaited a) s → In now.sections s
      opens a s h = ⊎_elim
          (λ (e : a ≡ ask). subst (λ (l : List SectionId). In l s) (ap awaited e ∙ at_number_same ask now.sections now.asked_sections) h)
          (λ (n : a ≢ ask). k.part.awaited_open a s (subst (λ (l : List SectionId). In l s) (at_number_other ask a now.sections now.asked_sections n) h))
          (decide_number a ask)

  -- with whatever cookie the present sequence number gives
  pub asked_with : (y : Asker) → RunsNone (works y) → (c : ℕ) → cookie_for w.grace.seq ≡ Ok c → Asked y c
  asked_with y none c is = cond_both (ltb w.grace.seq (2 ^ 62)) (Ok (even_below (w.grace.seq + 3))) (Err Exhausted) (λ (r : Result ℕ Refusal). r ≡ Ok c → Asked y c)
      (λ below e. let same : even_below (w.grace.seq + 3) ≡ c = cc in subst (Asked y) same (asked_kept y none (ltb-true w.grace.seq (2 ^ 62) below)))
      (λ late e. absurd (cc)) is

  -- from one work to another with the same ask or with none, neither of which runs a plan
  moved : (held : Option Asker) (y : Asker) (v u : Work P) → works y ≡ v → RunsNone v → RunsNone u → ((a c : ℕ) → Pending u a c → Pending v a c) → ((b d : ℕ) → u ≡ Starts b d → w.grace.seq < d) → (Holds u → held ≡ Some y) →
      ((z : Asker) → z ≢ y → Holds (works z) → held ≡ Some z) → (works' : Asker → Work P) → Sets works works' y u → PartOf held works' w.grace.asks w.grace.seq w.grace.word now.asked now.answered now.asked_sections
  moved held y v u is from to less starts mine others works' s =
      part_set decide_asker k.part s is from to less starts mine others (asks_set decide_asker s (same_ask works y v u is less) k.part.asks_kept)

  -- an ask whose cookie is reached is answered
  pub reached_none : (y : Asker) (v : Work P) (ask c : ℕ) → works y ≡ v → Pending v ask c → c ≤ w.grace.seq → now.asked_sections ask ≡ []
  reached_none y v ask c is pending up = reached_empty (now.asked_sections ask) (λ s h. (k.part.fenced y ask c s (pending_at y v ask c is pending) h).0) up

  pub reached_kept : (y : Asker) (v u : Work P) (ask c : ℕ) → works y ≡ v → RunsNone v → RunsNone u → ((a d : ℕ) → ¬ Pending u a d) → StartsNone u → (Holds u → holder_of w.grace.holder ≡ Some y) → Pending v ask c → c ≤ w.grace.seq →
      StepKept y u w.grace (Events (Event.Answer ask) None)
  reached_kept y v u ask c is from to none starts mine pending up = record {
    allowed = answer_allowed y ask c (pending_at y v ask c is pending) (reached_none y v ask c is pending up);
    rises = steady;
    phase_low = k.phase_low;
    seq_low = k.seq_low;
    asks_low = log_longer w.log (Event.Answer ask ∷ []) w.grace.asks k.asks_low;
    part = λ works' s.
        part_set decide_asker k.part s is from to (λ a d h. absurd (none a d h)) (λ a d e. absurd (starts a d e)) mine (λ z _. k.part.grace_kept.held z)
        (asks_answered decide_asker ask c s none (pending_at y v ask c is pending) k.part.asks_kept);
  }

  -- the present phase is one, or the present number is any
  pub is_present : IsPresent plans.qsbr w.grace.word
  is_present = (elim plans.qsbr as (λ b. plans.qsbr ≡ b → IsPresent b w.grace.word) [ true ↦ λ q. tt | false ↦ k.phase_low ]) refl

  finished_from : (a : Action) → is_finished a ≡ true → a ≡ Finished
  finished_from Finished e = refl
  finished_from _ e = absurd (true≢false (sym e))

  module _ (me : Holder) (ask : ℕ) where
    abbrev y : Asker
    y = asker_of me

    -- a step that tells nothing
    quietly : (work : Work P) (grace : GraceState) → (plans.qsbr ≡ true → w.grace.word ≤ grace.word) → (plans.qsbr ≡ false → grace.word ≤ 1) → grace.seq ≤ 2 ^ 62 + 2 → grace.asks ≡ w.grace.asks →
        ((works' : Asker → Work P) → Sets works works' y work → PartOf (holder_of grace.holder) works' grace.asks grace.seq grace.word now.asked now.answered now.asked_sections) →
        StepKept y work grace Quiet
    quietly work grace rises phase low same part = record {
      allowed = tt;
      rises = rises;
      phase_low = phase;
      seq_low = low;
      asks_low = subst (λ n. n ≤ length (w.log ++ told Quiet)) (sym same) (log_longer w.log [] w.grace.asks k.asks_low);
      part = part;
    }

    -- the first turn
    module _ (c : ℕ) (is : works y ≡ Starts ask c) where
      abbrev p : P
      p = plan_now plans w

      same : plan_now plans w ≡ plans.made layout slots w.grace.seq w.grace.word
      same = ap (λ l. plans.made l (length w.readers) w.grace.seq w.grace.word) k.shape.laid ∙ ap (λ n. plans.made layout n w.grace.seq w.grace.word) k.shape.sized

      order : StoresInOrder plans.action plans.taken w.grace.seq p
      order = laws.all.keeps.order w.grace.seq w.grace.word p (subst (laws.begun w.grace.seq w.grace.word) (sym same) (laws.all.made w.grace.seq w.grace.word))

      -- which is not the last one
      pub begun_goes : (loaded : ℕ) → is_finished (plans.action (plans.taken p loaded)) ≡ true → ⊥
      begun_goes loaded e = first_second w.grace.seq (sym order.first ∙ (order.last [] loaded (λ f. cc (sym order.first ∙ f))).0 (finished_from (plans.action (plans.taken p loaded)) e))

      low : w.grace.seq + 1 ≤ 2 ^ 62 + 2
      low = omega (arith, k.part.grace_kept.starts y ask c is, (k.part.asks_kept.pending y ask c (pending_at y (Starts ask c) ask c is (refl, refl))).4)

      begun : StepKept y (Runs ask c (next plans w p)) (effect plans w p).grace Quiet
      begun = subst (λ a. StepKept y (Runs ask c (plans.taken p (action_effect {P = P} w a).loaded)) (action_effect {P = P} w a).grace Quiet) (sym order.first)
          (quietly (Runs ask c (plans.taken p 0)) (record w.grace { seq = w.grace.seq + 1 }) steady k.phase_low low refl
          (λ works' s. part_begun decide_asker k.part (subst (λ (z : P). Sets works works' y (Runs ask c (plans.taken z 0))) same s) is marks is_present))

    module _ (c : ℕ) (p : P) (is : works y ≡ Runs ask c p) where
      running : Running plans layout slots laws w.grace.seq w.grace.word c p
      running = k.part.grace_kept.running y ask c p is

      -- the last turn alone stores the second number
      last : (loaded : ℕ) → is_finished (plans.action (plans.taken p loaded)) ≡ true → plans.action p ≡ StoreSeq (running.from + 2)
      last loaded e =
          let r = running in
          let l = (laws.all.keeps.order r.from r.word r.plan r.begun).last (r.load ∷ r.loads) loaded (λ f. r.goes_on (ap plans.action r.is ∙ f)) in
          ap plans.action r.is ∙ l.0 (ap (λ q. plans.action (plans.taken q loaded)) (sym r.is) ∙ finished_from (plans.action (plans.taken p loaded)) e)

      stores_last : (value : ℕ) → plans.action p ≡ StoreSeq value → plans.action (plans.taken p 0) ≡ Finished
      stores_last value stores =
          let r = running in
          let l = (laws.all.keeps.order r.from r.word r.plan r.begun).last (r.load ∷ r.loads) 0 (λ f. r.goes_on (ap plans.action r.is ∙ f)) in
          let which = (laws.all.keeps.order r.from r.word r.plan r.begun).second r.load value r.loads (ap plans.action (sym r.is) ∙ stores) in
          ap (λ q. plans.action (plans.taken q 0)) r.is ∙ l.1 (ap plans.action (sym r.is) ∙ stores ∙ ap StoreSeq which)

      -- a turn that stores no sequence number
      turns_on : (word loaded : ℕ) → ((value : ℕ) → plans.action p ≢ StoreSeq value) → ((slot : ℕ) → plans.action p ≡ Load slot → loaded ≡ words slot) → word ≡ present_after w.grace.word (plans.action p) →
          (plans.qsbr ≡ true → w.grace.word ≤ word) → (plans.qsbr ≡ true → word ≤ w.grace.seq) → (plans.qsbr ≡ false → word ≤ 1) → StepKept y (Runs ask c (plans.taken p loaded)) (record w.grace { word = word }) Quiet
      turns_on word loaded none loads stored rises low phase = quietly (Runs ask c (plans.taken p loaded)) (record w.grace { word = word }) rises phase k.seq_low refl
          (λ works' s. part_turned decide_asker loaded k.part s is none loads stored low)

      middle : (a : Action) → plans.action p ≡ a → is_finished (plans.action (plans.taken p (action_effect {P = P} w a).loaded)) ≡ false → StepKept y (Runs ask c (plans.taken p (action_effect {P = P} w a).loaded)) (action_effect {P = P} w a).grace Quiet
      middle (Load slot) does more = turns_on w.grace.word (loaded_word (slice_get w.readers slot)) (λ v e. cc (sym does ∙ e)) (λ s e. entry_is loaded_word w.readers slot new_reader refl ∙ ap words (cc (sym does ∙ e)))
          (sym (ap (present_after w.grace.word) does)) steady (λ q. k.part.grace_kept.number_low q) k.phase_low
      middle (StorePhase value) does more = turns_on value 0 (λ v e. cc (sym does ∙ e)) (λ s e. cc (sym does ∙ e)) (sym (ap (present_after w.grace.word) does)) (λ q. subst (λ n. n ≤ value) running.present (laws.all.keeps.rises p value q does))
          (λ q. let next = may true q in let l = (running.low q).0 in omega (arith, next, l, running.odd)) (may false)
        where
          may : (b : Bool) → plans.qsbr ≡ b → MayStore b running.word value
          may b q = let r = running in subst (λ (b : Bool). MayStore b r.word value) q (laws.all.keeps.stores r.from r.word r.plan r.begun (r.load ∷ r.loads) value (ap plans.action (sym r.is) ∙ does))
      middle (StoreSeq value) does more = absurd (true≢false (sym (ap is_finished (stores_last value does)) ∙ more))
      middle (LoadGroup group) does more = absurd (runs_no_group running group does)
      middle Finished does more = absurd (running.goes_on does)

      -- the last turn
      ended : (a : Action) → plans.action p ≡ a → is_finished (plans.action (plans.taken p (action_effect {P = P} w a).loaded)) ≡ true →
          (now.asked_sections ask ≡ []) × (c ≤ (action_effect {P = P} w a).grace.seq) × StepKept y Frees (action_effect {P = P} w a).grace (Events (Event.Answer ask) None)
      ended (StoreSeq value) does e =
          let pending : Pending (works y) ask c = pending_at y (Runs ask c p) ask c is (refl, refl) in
          let which : value ≡ running.from + 2 = cc (sym does ∙ last 0 e) in
          let none : now.asked_sections ask ≡ [] = ended_empty decide_asker k.part y ask c p value is does (stores_last value does) marks in (
            none,
            omega (arith, running.cookie, which),
            record {
              allowed = answer_allowed y ask c pending none;
              rises = steady;
              phase_low = k.phase_low;
              seq_low = omega (arith, (k.part.asks_kept.pending y ask c pending).4, running.cookie, which);
              asks_low = log_longer w.log (Event.Answer ask ∷ []) w.grace.asks k.asks_low;
              part = part_ended decide_asker k.part y ask c p value is does (stores_last value does) marks;
            },
          )
      ended _ does e = absurd (cc (sym does ∙ last _ e))

      pub ends : is_finished (plans.action (next plans w p)) ≡ true → (now.asked_sections ask ≡ []) × (c ≤ (effect plans w p).grace.seq) × StepKept y Frees (effect plans w p).grace (Events (Event.Answer ask) None)
      ends = ended (plans.action p) refl

    -- the ask is the next one, or was made and is not done with
    abbrev pub IsDue : SyncCore P → Type 0
    IsDue SyncCore.Asks = ask ≡ w.grace.asks + 1
    IsDue SyncCore.Done = ⊥
    IsDue _ = Unit {0}

    -- any step of a grace period that neither waits nor is blocked
    pub kept_turn : (sync : SyncCore P) (step : GraceStep P) → works y ≡ core_work ask sync → IsDue sync → TurnRow plans w me ask sync (Ok step) → is_blocked step.answer ≡ false → is_waiting step.answer ≡ false → StepKept y (core_work ask step.core) step.grace step.answer
    kept_turn _ _ is due (Asking c fits) goes on = subst (λ n. StepKept y (Waits n c) (record w.grace { asks = n }) (Events (Event.Ask n) None)) (sym due) (asked_with y (λ a d p e. cc (sym is ∙ e)) c fits)
    kept_turn _ _ is due (Blocking c other held) goes on = absurd (true≢false goes)
    kept_turn _ _ is due (Standing from c p takes) goes on = absurd (true≢false on)
    kept_turn _ _ is due (Locking c free) goes on = quietly (Checks ask c) (record w.grace { holder = Some me }) steady k.phase_low k.seq_low refl
        (moved (Some y) y (Waits ask c) (Checks ask c) is (λ b d p e. cc) (λ b d p e. cc) (λ b d h. h) (λ b d e. cc) (λ _. refl) (λ z _ h. absurd (none-some z (sym (ap holder_of free) ∙ k.part.grace_kept.held z h))))
    kept_turn _ _ is due (Finding c up) goes on =
        reached_kept y (Checks ask c) Frees ask c is (λ b d p e. cc) (λ b d p e. cc) (λ b d h. h) (λ b d e. cc) (λ _. k.part.grace_kept.held y (holding (works y) (Checks ask c) is tt)) (refl, refl) (leb-true c w.grace.seq up)
    kept_turn _ _ is due (Needing c low) goes on = quietly (Starts ask c) w.grace steady k.phase_low k.seq_low refl
        (moved (holder_of w.grace.holder) y (Checks ask c) (Starts ask c) is (λ b d p e. cc) (λ b d p e. cc) (λ b d h. h) (λ b d e. subst (λ n. w.grace.seq < n) (cc) (leb-false c w.grace.seq low))
        (λ _. k.part.grace_kept.held y (holding (works y) (Checks ask c) is tt)) (λ z _ h. k.part.grace_kept.held z h))
    kept_turn _ _ is due (Going _ _ _ (Begins c) turn more) goes on = begun c is
    kept_turn _ _ is due (Going _ _ _ (GoesOn c p) turn more) goes on = middle c p is (plans.action p) refl more
    kept_turn _ _ is due (Ending _ _ _ (Begins c) done) goes on = absurd (begun_goes c is _ done)
    kept_turn _ _ is due (Ending _ _ _ (GoesOn c p) done) goes on = (ends c p is done).2
    kept_turn _ _ is due Freeing goes on = quietly Rests (record w.grace { holder = None }) steady k.phase_low k.seq_low refl
        (moved None y Frees Rests is (λ b d p e. cc) (λ b d p e. cc) (λ b d h. h) (λ b d e. cc) (λ h. absurd h)
        (λ z apart h. absurd (apart (cc (k.part.grace_kept.held z h, k.part.grace_kept.held y (holding (works y) Frees is tt))))))
    kept_turn _ _ is due Resting goes on = absurd due

    -- a grace period tells of asks alone
    pub asks_alone : (sync : SyncCore P) (step : GraceStep P) → grace_row plans w me ask sync ≡ Ok step →
        later step.answer ≡ record now { asked = (later step.answer).asked; answered = (later step.answer).answered; asked_sections = (later step.answer).asked_sections }
    asks_alone = tells plans w me ask (λ es. after_all now es ≡ record now { asked = (after_all now es).asked; answered = (after_all now es).answered; asked_sections = (after_all now es).asked_sections }) refl refl refl

-- ---- what the lines `sync`, `start` and `poll` keep, and that what they tell may come

module _ {P : Type 0} {plans : Plans P} {layout : Layout} {slots : ℕ} {laws : Laws plans layout slots} {w : BoardView P} {now : State} (k : Kept plans layout slots laws w now) where
  abbrev Step : Asker → Work P → GraceState → Answer → Type 0
  Step y work grace answer = StepKept k y work grace answer

  abbrev after : Answer → State
  after answer = later k answer

  -- the updater's state is set, with what is kept of grace periods
  kept_grace : (u : ℕ) (x x' : UpdaterState P) (y : Asker) (work : Work P) (grace : GraceState) (answer : Answer) → There k u x → UpdaterKept w.heads w.objects (length w.updaters) u x'.place →
      Sets (work_of w.updaters w.workers) (work_of (slice_set w.updaters u x') w.workers) y work → Step y work grace answer →
      Kept plans layout slots laws (changed w (Grace u x' grace answer)) (record now { asked = (after answer).asked; answered = (after answer).answered; asked_sections = (after answer).asked_sections })
  kept_grace u x x' y work grace answer t place sets s = assumption (
    places_set k w.heads w.objects u x' t.inside place (λ v p _ h. h),
    readers_over plans.qsbr layout w.readers w.grace.word grace.word w.objects w.objects now.sections now.seen now.held s.rises (λ o known. known) k.readers_kept,
    s.part (work_of (slice_set w.updaters u x') w.workers) sets,
    λ (r : ℕ). log_longer w.log (told answer) (reader_at w.readers r).ordinal (k.ordinals r),
  )

  -- where an updater stands behind a step of its grace period
  place_stands : (me : Holder) (ask u : ℕ) (sync : SyncCore P) (step : GraceStep P) → TurnRow plans w me ask sync (Ok step) → UpdaterKept w.heads w.objects (length w.updaters) u (sync_place plans ask step.core)
  place_stands me ask u _ _ (Asking c is) = tt
  place_stands me ask u _ _ _ = tt

  place_plain : (ask : ℕ) (core : SyncCore P) (step : SyncStep) → IsPlain (place_at ask core step)
  place_plain ask core SyncStep.Nothing = (tt, tt)
  place_plain ask core _ = (tt, tt)

  place_works : (ask : ℕ) (sync : SyncCore P) → place_work (sync_place plans ask sync) ≡ core_work ask sync
  place_works ask SyncCore.Done = refl
  place_works ask _ = refl

  module _ (c : Callbacks w now) (u : ℕ) (x : UpdaterState P) (t : There k u x) where
    abbrev Owed : Change P → Type 0
    Owed change = OwesAll k c (Ok change)

    -- a step of a grace period of the updater
    pub owes_turn : (ask : ℕ) (sync : SyncCore P) (step : GraceStep P) → place_work x.place ≡ core_work ask sync → IsDue k (Holder.Updater u) ask sync → grace_row plans w (Holder.Updater u) ask sync ≡ Ok step →
        is_blocked step.answer ≡ false → is_waiting step.answer ≡ false → Owed (grace_change plans u x ask step)
    owes_turn ask sync step works due is goes on =
        let x' : UpdaterState P = record x { place = sync_place plans ask step.core } in
        let row : TurnRow plans w (Holder.Updater u) ask sync (Ok step) = turn_of plans w (Holder.Updater u) ask sync step is in
        let s : Step (Syncing u) (core_work ask step.core) step.grace step.answer = kept_turn k (Holder.Updater u) ask sync step (ap (λ (y : UpdaterState P). place_work y.place) t.is ∙ works) due row goes on in
        plainly k c (grace_change plans u x ask step)
        (t.inside, place_plain ask step.core (step_of plans.action step.core), tells plans w (Holder.Updater u) ask AreOther tt (tt, tt) (tt, tt) sync step is) (
          s.allowed,
          subst (Kept plans layout slots laws (changed w (grace_change plans u x ask step))) (sym (asks_alone k (Holder.Updater u) ask sync step is)) (
              kept_grace u x x' (Syncing u) (place_work x'.place) step.grace step.answer t (place_stands (Holder.Updater u) ask u sync step row)
              (work_set w.updaters w.workers u x' t.inside (sym (ap (λ (y : UpdaterState P). y.started) t.is))) (subst (λ (v : Work P). Step (Syncing u) v step.grace step.answer) (sym (place_works ask step.core)) s)
              ),
        )

    -- the cookies of `start` and `poll`
    started_is : work_of w.updaters w.workers (Polling u) ≡ started_work x.started
    started_is = ap (λ (y : UpdaterState P). started_work y.started) t.is

    started_runs : (s : Option Started) → RunsNone {P = P} (started_work s)
    started_runs None a d p e = cc
    started_runs (Some s) a d p e = cc

    -- it is noted, or spent
    noted : (s : Option Started) (grace : GraceState) (answer : Answer) → Step (Polling u) (started_work s) grace answer →
        Kept plans layout slots laws (changed w (Grace u (record x { started = s }) grace answer)) (record now { asked = (after answer).asked; answered = (after answer).answered; asked_sections = (after answer).asked_sections })
    noted s grace answer step = kept_grace u x (record x { started = s }) (Polling u) (started_work s) grace answer t t.mine
        (started_set w.updaters w.workers u (record x { started = s }) t.inside (sym (ap (λ (y : UpdaterState P). y.place) t.is))) step

    pub owes_start : (cookie : ℕ) → x.place ≡ Idle → cookie_for w.grace.seq ≡ Ok cookie →
        Owed (Grace u (record x { started = Some (record { ask = w.grace.asks + 1; cookie = cookie }) }) (record w.grace { asks = w.grace.asks + 1 }) (Events (Event.Ask (w.grace.asks + 1)) None))
    owes_start cookie was is =
        let s = asked_with k (Polling u) (subst (λ (v : Work P). RunsNone v) (sym started_is) (started_runs x.started)) cookie is in
        plainly k c (Grace u (record x { started = Some (record { ask = w.grace.asks + 1; cookie = cookie }) }) (record w.grace { asks = w.grace.asks + 1 }) (Events (Event.Ask (w.grace.asks + 1)) None))
        (t.inside, subst (λ (p : UpdaterPlace P). IsPlain p) (sym was) (tt, tt), (tt, tt)) (s.allowed, noted (Some (record { ask = w.grace.asks + 1; cookie = cookie })) _ _ s)

    pub owes_poll : (s : Started) → x.place ≡ Idle → x.started ≡ Some s → nat_le s.cookie w.grace.seq ≡ true → Owed (Grace u (record x { started = None }) w.grace (Events (Event.Answer s.ask) None))
    owes_poll s was is up =
        let step = reached_kept k (Polling u) (Waits s.ask s.cookie) Rests s.ask s.cookie (started_is ∙ ap started_work is) (λ b d p e. cc) (λ b d p e. cc) (λ b d h. h) (λ b d e. cc) (λ h. absurd h) (refl, refl) (leb-true s.cookie w.grace.seq up) in
        plainly k c (Grace u (record x { started = None }) w.grace (Events (Event.Answer s.ask) None)) (t.inside, subst (λ (p : UpdaterPlace P). IsPlain p) (sym was) (tt, tt), (tt, tt)) (step.allowed, noted None w.grace _ step)
