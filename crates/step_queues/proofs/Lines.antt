-- A store of a queue's word, and what its loads tell.
use Rattle.step_queues.proofs.Cited.{◌≡◌, ◌≢◌, ℕ, ◌+◌, ◌<◌, ◌≤◌, Bool, length, get_or, set, sym, refl, ap, ◌∙◌, subst, arith, get_or-set_other, get_or-set_same, dite, ℕ_discrete, get_elem?, State, Me, step, keeps, Allows, LiveEvent, Log, chain_note, line_of, HaveRun, IsLiveRun, Objects, objects_of, Sizes, View, head_at, hold_at, note_at, queued_at, closed_at, finished_at, work_at, QueueWords, HoldWords, WorkRight, work, ClaimsWork, KnowsWork, KeepsRule, looks, Calm, lines_far, guards_far, QueueStep, WorkStep, chains_kept, stores_beside, look_all, looked_view}
use mathlib.Core.Option as lists
use Rattle.live_rule.specs.declared.rights.WorkRight.TheVariants as work_right
use Rattle.step_queues.specs.Queues.{looked}

module _ {S : Type 0} (qsbr : Bool) (allows : Log → LiveEvent → Type 0) (key : Sizes) where
  abbrev Rule : State S View → Type 0
  Rule = KeepsRule qsbr allows key

  -- the word k of the queue q
  module _ (s : State S View) (q k x : ℕ) (low : q < key.queues) (small : k < 32) where
    pub far : (i : ℕ) → i ≢ queued_at key q + k → get_or (set s.words (queued_at key q + k) x) i 0 ≡ get_or s.words i 0
    far i ne = get_or-set_other s.words (queued_at key q + k) i x 0 ne

  -- the notes and the lines, where the log says the same of them and the word is neither a count nor a closed word
  pub lines_stay : (s : State S View) (r : Rule s) (q x : ℕ) → q < key.queues → QueueWords key r.log (set s.words (queued_at key q + 17) x)
  lines_stay s r q x low = lines_far key r.log r.log s.words (set s.words (queued_at key q + 17) x) (λ c l. (far s q 17 x low (omega arith) (note_at key c) (λ z. omega arith), refl))
      (λ e l. (far s q 17 x low (omega arith) (queued_at key e) (λ z. omega arith), far s q 17 x low (omega arith) (closed_at key e) (λ z. omega arith), far s q 17 x low (omega arith) (finished_at key e) (λ z. omega arith))) (λ _. (refl, refl)) (λ _ h. h) r.agree.lines

  pub guards_work : (s : State S View) (r : Rule s) (q x : ℕ) → q < key.queues → x ≤ 2 → HoldWords key (set s.words (queued_at key q + 17) x)
  guards_work s r q x low small = let wide = r.wide in record {
    hold = λ c l. subst (λ (z : ℕ). z ≤ 1) (sym (far s q 17 x low (omega arith) (hold_at key c) (λ z. omega arith))) (r.agree.holds.hold c l);
    work = λ e l. dite (ℕ_discrete e q) (λ same. subst (λ (d : ℕ). get_or (set s.words (queued_at key q + 17) x) (work_at key d) 0 ≤ 2) (sym same) (let z = get_or-set_same s.words (queued_at key q + 17) x 0 (omega arith) in omega arith))
        (λ ne. subst (λ (z : ℕ). z ≤ 2) (sym (far s q 17 x low (omega arith) (work_at key e) (λ z. ne (omega arith)))) (r.agree.holds.work e l));
  }

  -- and where another word of a queue is stored
  pub guards_stay : (s : State S View) (r : Rule s) (q k x : ℕ) → q < key.queues → k < 17 → HoldWords key (set s.words (queued_at key q + k) x)
  guards_stay s r q k x low small = guards_far key s.words (set s.words (queued_at key q + k) x) (λ c l. far s q k x low (omega arith) (hold_at key c) (λ z. omega arith)) (λ e l. far s q k x low (omega arith) (work_at key e) (λ z. omega arith)) r.agree.holds

  -- a store of a queue's word, with no event of objects
  pub own_word : (s : State S View) (r : Rule s) (id q k x : ℕ) (v w : View) (log : Log) (at : get_elem? s.views id ≡ lists.some v) → q < key.queues → k < 32 → Calm r.log log → IsLiveRun qsbr allows log → (w.seen ≡ log) × (w.heard ≡ v.heard) × (w.slot ≡ v.slot) × (w.grace ≡ v.grace) → (w.object ≡ v.object) × (w.chains ≡ v.chains)
      → objects_of log ≡ objects_of r.log → ((c : ℕ) → chain_note c log ≡ chain_note c r.log) → QueueWords key log (set s.words (queued_at key q + k) x) → HoldWords key (set s.words (queued_at key q + k) x)
      → QueueStep qsbr allows key s r id (queued_at key q + k) x v w log at → WorkStep qsbr allows key s r id (queued_at key q + k) x v w log at
      → Rule record { words = set s.words (queued_at key q + k) x; homes = s.homes; views = set s.views id w }
  own_word s r id q k x v w log at low small calm run same other objects notes lines guards queues works =
      stores_beside qsbr allows key s r id (queued_at key q + k) x v w log at calm run (omega arith) (omega arith) (λ c l e. omega arith) same other.0 objects lines guards
      (chains_kept qsbr allows key s r id (queued_at key q + k) x v w log at other.1 (λ c l. (far s q k x low small (hold_at key c) (λ z. omega arith), far s q k x low small (head_at key c) (λ z. omega arith), ap (λ (o : Objects). o.chain c) objects, notes c)))
      queues works

  pub looks_queue : (slots id : ℕ) (me : Me S View) (a : ℕ) → me.0.sizes ≡ key → Allows Rule slots id me a (λ n. n) (looked qsbr allows (step slots a 0 0 lists.none) me)
  looks_queue slots id me a sizes s r deep at fits = let v : View = me.0 in let w : View = record (looked_view a (get_or s.words a 0) v) { seen = r.log } in let b = r.seen id v at in (
    w,
    keeps,
    tt,
    looks qsbr allows key s r id a v w at refl refl (look_all qsbr allows key s r id v w at (refl, refl, refl, refl, refl, refl)),
    (
      (refl, refl, (b.0, b.1, r.run)),
      (λ q high. r.agree.lines.beyond q (subst (λ (k : Sizes). k.queues ≤ q) sizes high)),
      λ q low. let low' : q < key.queues = subst (λ (k : Sizes). q < k.queues) sizes low in let word = λ (place : Sizes → ℕ) (e : a ≡ place me.0.sizes). ap (λ i. get_or s.words i 0) (e ∙ ap place sizes) in record {
        queued = λ e. word (λ k. queued_at k q) e ∙ r.agree.lines.queued q low';
        closed = λ e. word (λ k. closed_at k q) e ∙ r.agree.lines.closed q low';
        finished = λ e. subst (λ (n : ℕ). HaveRun q n r.log × (n ≤ length (line_of r.log q))) (sym (word (λ k. finished_at k q) e)) (r.agree.lines.done q low', r.agree.lines.few q low');
      },
      λ q k e works. let own : KnowsWork qsbr key r.log s.words (work_right.Works q k) = subst (KnowsWork qsbr key r.log s.words) works (r.knows (work q) id v at (subst (λ (y : WorkRight). ClaimsWork y q) (sym works) refl)) in
          ap (λ i. get_or s.words i 0) (e ∙ ap (λ (z : Sizes). finished_at z q) sizes) ∙ own.2,
    ),
  )
