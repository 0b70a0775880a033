-- The machine's events of a log: they are a run of the machine, which opens sections as the log does.
use Rattle.live_log.proofs.Cited.{Bool, ◌≡◌, ◌≢◌, ℕ, ◌+◌, ◌≤◌, List, [], ◌∷◌, ◌++◌, cond, sym, refl, ap, ◌∙◌, subst, inl, inr, ⊎_elim, arith, eq-eqb, ne_eqb, append_assoc, true, false, dite, some, none, some-injective, some-ne-none, ℕ_discrete, SectionId, ObjectId, State, after, state_back, IsRunBack, In, HasObject, same_object, object_tells, in_sections, has_section_in, has_object_in, in_left, in_last, in_more, without_section_has, has_without_section, Kept, kept_back, open_back, open_seen_back, Grows, grows_back, open_between_back}
use Rattle.rcu_model.specs.declared.event.Event as machine
use Rattle.rcu_model.specs.declared.event.Event.TheVariants as seen
use Rattle.live_log.specs.declared.event.ObjectEvent.{ObjectEvent}
use Rattle.live_log.specs.declared.event.ObjectEvent.TheVariants.{Push, Replace, Cut, Retire, Queue, Run}
use Rattle.live_log.specs.declared.event.LiveEvent.{LiveEvent}
use Rattle.live_log.specs.declared.event.LiveEvent.TheVariants.{Open, Close, SeqOdd, SeqEven, Present, ChainNote, CloseQueue, Object}
use Rattle.live_log.specs.Log.{Log, Has, Begins, section, event_of, machine_log, state_of, open_of, sections_of, IsOpenSection, IsLiveRun}
use Rattle.live_log.proofs.Runs.{last_opened}

pub begins_trans : (a b c : Log) → Begins a b → Begins b c → Begins a c
begins_trans a b c x y = (y.0 ++ x.0, y.1 ∙ (ap (λ l. y.0 ++ l) x.1 ∙ sym (append_assoc y.0 x.0 a)))

-- two objects are one, or are not
pub by_object : {A : Type 0} (o p : ObjectId) → (o ≡ p → A) → (o ≢ p → A) → A
by_object o p hit off = ⊎_elim (λ (y : (same_object o p ≡ true) × (o ≡ p)). hit y.1) (λ (n : (same_object o p ≡ false) × (o ≢ p)). off n.1) (object_tells o p)

pub not_has : (xs : List ObjectId) (o : ObjectId) → ¬ HasObject xs o → ¬ In xs o
not_has xs o f h = f (has_object_in xs o h)

-- the machine's events of two logs, one after the other
pub more_events : (since old : Log) → machine_log (since ++ old) ≡ machine_log since ++ machine_log old
more_events [] old = refl
more_events (Open r n m ∷ es) old = ap (λ (l : List machine.Event). seen.Open (section r n) ∷ l) (more_events es old)
more_events (Close r n ∷ es) old = ap (λ (l : List machine.Event). seen.Close (section r n) ∷ l) (more_events es old)
more_events (Object d ∷ es) old = ap (λ (l : List machine.Event). event_of d ∷ l) (more_events es old)
more_events (SeqOdd ∷ es) old = more_events es old
more_events (SeqEven ∷ es) old = more_events es old
more_events (Present p ∷ es) old = more_events es old
more_events (ChainNote c x ∷ es) old = more_events es old
more_events (CloseQueue q ∷ es) old = more_events es old

pub events_since : (old log : Log) (b : Begins old log) → machine_log log ≡ machine_log b.0 ++ machine_log old
events_since old log b = ap machine_log b.1 ∙ more_events b.0 old

-- the slot and the ordinal of an event of sections
abbrev section_of : LiveEvent → ℕ × ℕ
section_of (Open q n m) = (q, n)
section_of (Close q n) = (q, n)
section_of _ = (0, 0)

-- a section's Close is one of the machine's events
pub close_there : (log : Log) (r n : ℕ) → Has (Close r n) log → In (machine_log log) (seen.Close (section r n))
close_there [] r n h = absurd h
close_there (Close q i ∷ es) r n (inl e) = inl (ap (λ (x : LiveEvent). seen.Close (section (section_of x).0 (section_of x).1)) e)
close_there (Close q i ∷ es) r n (inr h) = inr (close_there es r n h)
close_there (Open q i j ∷ es) r n (inl e) = cc
close_there (Open q i j ∷ es) r n (inr h) = inr (close_there es r n h)
close_there (SeqOdd ∷ es) r n (inl e) = cc
close_there (SeqOdd ∷ es) r n (inr h) = close_there es r n h
close_there (SeqEven ∷ es) r n (inl e) = cc
close_there (SeqEven ∷ es) r n (inr h) = close_there es r n h
close_there (Present p ∷ es) r n (inl e) = cc
close_there (Present p ∷ es) r n (inr h) = close_there es r n h
close_there (ChainNote c x ∷ es) r n (inl e) = cc
close_there (ChainNote c x ∷ es) r n (inr h) = close_there es r n h
close_there (CloseQueue q ∷ es) r n (inl e) = cc
close_there (CloseQueue q ∷ es) r n (inr h) = close_there es r n h
close_there (Object d ∷ es) r n (inl e) = cc
close_there (Object d ∷ es) r n (inr h) = inr (close_there es r n h)

-- no event of objects opens or closes a section
pub same_sections : (now : State) (d : ObjectEvent) → ((after now (event_of d)).sections ≡ now.sections) × ((after now (event_of d)).seen ≡ now.seen)
same_sections now (Push c o i w) = (refl, refl)
same_sections now (Replace c p o i w) = (refl, refl)
same_sections now (Cut c o) = (refl, refl)
same_sections now (Retire o) = (refl, refl)
same_sections now (Queue o q n) = (refl, refl)
same_sections now (Run o) = (refl, refl)

-- the open section of a slot is open in the machine
pub open_inside : (log : Log) (r n m : ℕ) → open_of r log ≡ some (n, m) → In (state_of log).sections (section r n)
open_inside [] r n m at = absurd (some-ne-none (n, m) (sym at))
open_inside (Open q i j ∷ es) r n m at = dite (ℕ_discrete q r)
    (λ same. let b = eq-eqb q r same in let z : (i, j) ≡ (n, m) = some-injective _ _ (subst (λ b. cond b (some (i, j)) (open_of r es) ≡ some (n, m)) b at) in
    subst (In ((state_of es).sections ++ section q i ∷ [])) (λ k. section (same k) ((z k).0)) (in_last (state_of es).sections (section q i)))
    (λ other. in_left (state_of es).sections (section q i ∷ []) (section r n) (open_inside es r n m (subst (λ b. cond b (some (i, j)) (open_of r es) ≡ some (n, m)) (ne_eqb q r other) at)))
open_inside (Close q i ∷ es) r n m at = dite (ℕ_discrete q r)
    (λ same. absurd (some-ne-none (n, m) (sym (subst (λ b. cond b none (open_of r es) ≡ some (n, m)) (eq-eqb q r same) at))))
    (λ other. has_without_section (section q i) (state_of es).sections (section r n) (open_inside es r n m (subst (λ b. cond b none (open_of r es) ≡ some (n, m)) (ne_eqb q r other) at)) (λ e. other (sym (ap (λ (s : SectionId). s.reader) e))))
open_inside (SeqOdd ∷ es) r n m at = open_inside es r n m at
open_inside (SeqEven ∷ es) r n m at = open_inside es r n m at
open_inside (Present _ ∷ es) r n m at = open_inside es r n m at
open_inside (ChainNote _ _ ∷ es) r n m at = open_inside es r n m at
open_inside (CloseQueue _ ∷ es) r n m at = open_inside es r n m at
open_inside (Object d ∷ es) r n m at = subst (λ l. In l (section r n)) (sym (same_sections (state_of es) d).0) (open_inside es r n m at)

module _ (qsbr : Bool) (allows : Log → LiveEvent → Type 0) where
  pub run_of : (old log : Log) → Begins old log → IsLiveRun qsbr allows log → IsLiveRun qsbr allows old
  run_of old log b run = part b.0 old (subst (IsLiveRun qsbr allows) b.1 run)
    where
      part : (since old : Log) → IsLiveRun qsbr allows (since ++ old) → IsLiveRun qsbr allows old
      part [] old run = run
      part (e ∷ es) old run = part es old run.1

  -- a section that was opened is counted
  seen_low : (log : Log) (s : SectionId) → IsLiveRun qsbr allows log → In (state_of log).seen s → s.ordinal ≤ sections_of s.reader log
  seen_low [] s run h = absurd h
  seen_low (Open q i j ∷ es) s run h = dite (ℕ_discrete q s.reader)
      (λ same. subst (λ b. s.ordinal ≤ cond b (sections_of s.reader es + 1) (sections_of s.reader es)) (sym (eq-eqb q s.reader same))
      (let count : i ≡ sections_of s.reader es + 1 = run.0.1 ∙ ap (λ z. sections_of z es + 1) same in
      ⊎_elim (λ e. let o : i ≡ s.ordinal = ap (λ (t : SectionId). t.ordinal) e in omega arith) (λ z. let l = seen_low es s run.1 z in omega arith) h))
      (λ other. subst (λ b. s.ordinal ≤ cond b (sections_of s.reader es + 1) (sections_of s.reader es)) (sym (ne_eqb q s.reader other))
      (⊎_elim (λ e. absurd (other (ap (λ (t : SectionId). t.reader) e))) (λ z. seen_low es s run.1 z) h))
  seen_low (Close q i ∷ es) s run h = seen_low es s run.1 h
  seen_low (SeqOdd ∷ es) s run h = seen_low es s run.1 h
  seen_low (SeqEven ∷ es) s run h = seen_low es s run.1 h
  seen_low (Present _ ∷ es) s run h = seen_low es s run.1 h
  seen_low (ChainNote _ _ ∷ es) s run h = seen_low es s run.1 h
  seen_low (CloseQueue _ ∷ es) s run h = seen_low es s run.1 h
  seen_low (Object d ∷ es) s run h = seen_low es s run.1 (subst (λ l. In l s) (same_sections (state_of es) d).1 h)

  pub fresh_section : (log : Log) (r n m : ℕ) → IsLiveRun qsbr allows (Open r n m ∷ log) → ¬ In (state_of log).seen (section r n)
  fresh_section log r n m run h = let l = seen_low log (section r n) run.1 h in let c = run.0.1 in omega arith

  -- the log without its notes is a run of the machine
  pub is_machine_run : (log : Log) → IsLiveRun qsbr allows log → IsRunBack (machine_log log)
  is_machine_run [] run = tt
  is_machine_run (Open r n m ∷ es) run = (is_machine_run es run.1, λ h. fresh_section es r n m run (in_sections (state_of es).seen (section r n) h))
  is_machine_run (Close r n ∷ es) run = (is_machine_run es run.1, has_section_in (state_of es).sections (section r n) (open_inside es r n run.0.0 run.0.1))
  is_machine_run (Object d ∷ es) run = (is_machine_run es run.1, run.0.0)
  is_machine_run (SeqOdd ∷ es) run = is_machine_run es run.1
  is_machine_run (SeqEven ∷ es) run = is_machine_run es run.1
  is_machine_run (Present p ∷ es) run = is_machine_run es run.1
  is_machine_run (ChainNote c x ∷ es) run = is_machine_run es run.1
  is_machine_run (CloseQueue q ∷ es) run = is_machine_run es run.1

  pub kept_log : (log : Log) → IsLiveRun qsbr allows log → Kept (state_of log)
  kept_log log run = kept_back (machine_log log) (is_machine_run log run)

  pub run_since : (old log : Log) (b : Begins old log) → IsLiveRun qsbr allows log → IsRunBack (machine_log b.0 ++ machine_log old)
  run_since old log b run = subst IsRunBack (events_since old log b) (is_machine_run log run)

  pub inside_seen : (log : Log) (s : SectionId) → IsLiveRun qsbr allows log → In (state_of log).sections s → In (state_of log).seen s
  inside_seen log s run h = open_seen_back (machine_log log) (is_machine_run log run) s h

  -- a section that had been opened and is open was open
  pub inside_between : (old log : Log) (s : SectionId) → Begins old log → IsLiveRun qsbr allows log → In (state_of old).seen s → In (state_of log).sections s → In (state_of old).sections s
  inside_between old log s b run was h = open_between_back (machine_log b.0) (machine_log old) (run_since old log b run) s was (subst (λ (l : List machine.Event). In (state_back l).sections s) (events_since old log b) h)

  -- a section that is open in the machine is the open one of its slot
  pub inside_open : (log : Log) (s : SectionId) → IsLiveRun qsbr allows log → In (state_of log).sections s → (m : ℕ) × (open_of s.reader log ≡ some (s.ordinal, m))
  inside_open [] s run h = absurd h
  inside_open (Open q i j ∷ es) s run h = ⊎_elim
      (λ (z : In (state_of es).sections s). let o = inside_open es s run.1 z in
      (o.0, ap (λ b. cond b (some (i, j)) (open_of s.reader es)) (ne_eqb q s.reader (λ e. some-ne-none (s.ordinal, o.0) (sym o.1 ∙ (ap (λ t. open_of t es) (sym e) ∙ run.0.0)))) ∙ o.1))
      (λ (e : section q i ≡ s). let r = ap (λ (t : SectionId). t.reader) e in let n = ap (λ (t : SectionId). t.ordinal) e in
      (j, ap (λ b. cond b (some (i, j)) (open_of s.reader es)) (eq-eqb q s.reader r) ∙ (λ k. some (n k, j))))
      (in_more (state_of es).sections (section q i) s h)
  inside_open (Close q i ∷ es) s run h = let w = without_section_has (section q i) (state_of es).sections s h in let o = inside_open es s run.1 w.0 in (
    o.0,
    ap (λ b. cond b none (open_of s.reader es)) (ne_eqb q s.reader (λ e.
        let z : (s.ordinal, o.0) ≡ (i, run.0.0) = some-injective _ _ (sym o.1 ∙ (ap (λ t. open_of t es) (sym e) ∙ run.0.1)) in w.1 (λ k. record { reader = sym e k; ordinal = (z k).0 }))) ∙ o.1,
  )
  inside_open (SeqOdd ∷ es) s run h = inside_open es s run.1 h
  inside_open (SeqEven ∷ es) s run h = inside_open es s run.1 h
  inside_open (Present _ ∷ es) s run h = inside_open es s run.1 h
  inside_open (ChainNote _ _ ∷ es) s run h = inside_open es s run.1 h
  inside_open (CloseQueue _ ∷ es) s run h = inside_open es s run.1 h
  inside_open (Object d ∷ es) s run h = inside_open es s run.1 (subst (λ l. In l s) (same_sections (state_of es) d).0 h)

  -- an open section's Open is in the log, and its Close is not
  pub is_open : (log : Log) (r n m : ℕ) → IsLiveRun qsbr allows log → open_of r log ≡ some (n, m) → IsOpenSection r n log
  is_open log r n m run at = let last = last_opened qsbr allows log r n m run at in
      ((m, last.1), (λ h. ((open_back (machine_log log) (section r n) (is_machine_run log run)).0 (open_inside log r n m at)).1 (close_there log r n h)), last.0)

-- what was put into a chain, cut, retired, queued or run stays so
pub grows_log : (old log : Log) → Begins old log → Grows (state_of old) (state_of log)
grows_log old log b = subst (λ (l : List machine.Event). Grows (state_of old) (state_back l)) (sym (events_since old log b)) (grows_back (machine_log b.0) (machine_log old))
