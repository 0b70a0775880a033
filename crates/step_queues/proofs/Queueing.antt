-- Queueing an object and closing a queue keep the rule.
use Rattle.step_queues.proofs.Cited.{◌≡◌, ◌≢◌, ℕ, ◌+◌, ◌<◌, ◌≤◌, List, [], ◌∷◌, ◌++◌, Bool, ◌==◌, cond, length, get_or, set, sym, refl, ap, ◌∙◌, subst, inl, inr, ⊎_elim, arith, get_or-set_other, get_or-set_same, eq-eqb, ne_eqb, Option, dite, ℕ_discrete, get_elem?, length-append, either, State, Me, step, stepped, keeps, Allows, at_last, ObjectId, In, in_objects, has_object_in, at_number_same, at_number_other, CallbackId, LiveEvent, CloseQueue, Object, Queue, Log, state_of, closed_of, line_of, IsLiveRun, Objects, objects_of, Spot, head, link, Leads, Sizes, View, RecordRight, QueueRight, head_at, hold_at, note_at, queued_at, closed_at, finished_at, work_at, numbers_stay, cell_at, object, queue, ClaimsObject, ClaimsQueue, KnowsObject, KnowsQueue, KeepsRule, at_end, calm_object, calm_close, queue_part, header_same, heap_beside, guards_far, object_stays, chains_kept, works_kept, stores, cell_in, object_in, IsRetired, queue_in, queued_in, closed_in, IsInQueue}
use mathlib.Core.Option as lists
use Rattle.live_rule.specs.declared.rights.RecordRight.TheVariants as record_right
use Rattle.live_rule.specs.declared.rights.QueueRight.TheVariants as queue_right
use Rattle.step_queues.specs.Queues.{queued_view, closed_view, queued, closed}
use Rattle.step_queues.proofs.Lines.{far, guards_stay, own_word}

leads_queued : (log : Log) (o : ObjectId) (q : ℕ) (callback : CallbackId) (t : Spot) (found : Option ObjectId) → Leads (objects_of (Object (Queue o q callback) ∷ log)) t found → Leads (objects_of log) t found
leads_queued log o q callback (head c) found f = f
leads_queued log o q callback (link p) found f = f

in_queue : (key : Sizes) (v : View) → IsInQueue v → (q : ℕ) → queue_in v.queue ≡ q → ClaimsQueue key v.queue q
in_queue key v is q e = subst (λ (y : QueueRight). ClaimsQueue key y q) (sym is) e

module _ {S : Type 0} (qsbr : Bool) (allows : Log → LiveEvent → Type 0) (key : Sizes) where
  abbrev Rule : State S View → Type 0
  Rule = KeepsRule qsbr allows key

  queue_now : (s : State S View) (r : Rule s) (id : ℕ) (v : View) → get_elem? s.views id ≡ lists.some v → IsInQueue v → KnowsQueue qsbr key r.log s.words (queue_right.Owns (queue_in v.queue) (queued_in v.queue) (closed_in v.queue)) (queue_in v.queue)
  queue_now s r id v at is = subst (λ (y : QueueRight). KnowsQueue qsbr key r.log s.words y (queue_in v.queue)) is (r.knows (queue (queue_in v.queue)) id v at (in_queue key v is (queue_in v.queue) refl))

  pub shuts : (slots id : ℕ) (me : Me S View) (a : ℕ) → IsInQueue me.0 → a ≡ closed_at key (queue_in me.0.queue) → Allows Rule slots id me a (λ _. 1) (λ _. closed qsbr allows (step slots a 1 0 lists.none) me 1)
  shuts slots id me a is a_is s r deep at fits =
      let v : View = me.0 in
      let q : ℕ = queue_in v.queue in
      let k = queue_now s r id v at is in
      let low = k.0 in
      let wide = r.wide in
      let b = r.seen id v at in
      let W : List ℕ = set s.words (queued_at key q + 1) 1 in
      let log : Log = CloseQueue q ∷ r.log in
      let run : IsLiveRun qsbr allows log = (tt, r.run) in
      let w : View = record (closed_view v) { seen = log } in
      let here : get_or W (closed_at key q) 0 ≡ 1 = get_or-set_same s.words (queued_at key q + 1) 1 0 (omega arith) in (
        w,
        keeps,
        tt,
        subst (λ (i : ℕ). Rule record { words = set s.words i 1; homes = s.homes; views = set s.views id w }) (sym a_is)
            (own_word qsbr allows key s r id q 1 1 v w log at low (omega arith) (calm_close q r.log) run (refl, refl, refl, refl) (refl, refl) refl (λ _. refl)
            (record {
              notes = λ c l. far qsbr allows key s q 1 1 low (omega arith) (note_at key c) (λ z. omega arith) ∙ r.agree.lines.notes c l;
              queued = λ e l. far qsbr allows key s q 1 1 low (omega arith) (queued_at key e) (λ z. omega arith) ∙ r.agree.lines.queued e l;
              closed = λ e l. dite (ℕ_discrete e q)
                  (λ same. subst (λ (z : ℕ). get_or W (closed_at key z) 0 ≡ closed_of z log) (sym same) (here ∙ sym (ap (λ t. cond t 1 (closed_of q r.log)) (eq-eqb q q refl))))
                  (λ ne. far qsbr allows key s q 1 1 low (omega arith) (closed_at key e) (λ z. ne (omega arith)) ∙ (r.agree.lines.closed e l ∙ sym (ap (λ t. cond t 1 (closed_of e r.log)) (ne_eqb q e (λ i. ne (sym i))))));
              done = λ e l j o below f. r.agree.lines.done e l j o (subst (λ (z : ℕ). j < z) (far qsbr allows key s q 1 1 low (omega arith) (finished_at key e) (λ z. omega arith)) below) f;
              few = λ e l. subst (λ (z : ℕ). z ≤ length (line_of r.log e)) (sym (far qsbr allows key s q 1 1 low (omega arith) (finished_at key e) (λ z. omega arith))) (r.agree.lines.few e l);
              beyond = r.agree.lines.beyond;
            })
            (guards_stay qsbr allows key s r q 1 1 low (omega arith))
            (record {
              others = λ e y claim ne k. let other : e ≢ q = λ e_is. ne (in_queue key v is e (sym e_is)) in
                  queue_part qsbr key r.log log s.words W y e claim (λ l. (far qsbr allows key s q 1 1 low (omega arith) (queued_at key e) (λ z. omega arith), far qsbr allows key s q 1 1 low (omega arith) (closed_at key e) (λ z. other (omega arith)))) k;
              mine = λ e claim. ((low, far qsbr allows key s q 1 1 low (omega arith) (queued_at key q) (λ z. omega arith) ∙ k.1, here), inl (in_queue key v is e claim));
            })
            (works_kept qsbr allows key s r id (queued_at key q + 1) 1 v w log at refl (λ e l. (far qsbr allows key s q 1 1 low (omega arith) (work_at key e) (λ z. omega arith), far qsbr allows key s q 1 1 low (omega arith) (finished_at key e) (λ z. omega arith))))),
        (refl, refl, (r.log, refl, b.0, b.1, run)),
      )

  queues_one : (slots id : ℕ) (me : Me S View) (a x : ℕ) (callback : CallbackId) → IsInQueue me.0 → closed_in me.0.queue ≡ 0 → IsRetired me.0 → a ≡ queued_at key (queue_in me.0.queue) → x ≡ queued_in me.0.queue + 1 → Allows Rule slots id me a (λ _. x) (λ _. queued qsbr allows callback (step slots a x 0 lists.none) me x)
  queues_one slots id me a x callback is not_shut doomed a_is x_is s r deep at fits =
      let v : View = me.0 in
      let q : ℕ = queue_in v.queue in
      let n : ℕ = queued_in v.queue in
      let i : ℕ = cell_in v.object in
      let o : ObjectId = object_in v.object in
      let k = queue_now s r id v at is in
      let ko : KnowsObject qsbr key r.log s.words (objects_of r.log) (record_right.Retired i o) = subst (KnowsObject qsbr key r.log s.words (objects_of r.log)) doomed (r.knows (object o) id v at (subst (λ (y : RecordRight). ClaimsObject y o) (sym doomed) refl)) in
      let low = k.0 in
      let wide = r.wide in
      let b = r.seen id v at in
      let was : Objects = objects_of r.log in
      let log : Log = Object (Queue o q callback) ∷ r.log in
      let now : Objects = objects_of log in
      let shut_no : closed_of q r.log ≡ 0 = sym (r.agree.lines.closed q low) ∙ (k.2 ∙ not_shut) in
      let run : IsLiveRun qsbr allows log = (((has_object_in was.retired o ko.0, λ h. ko.1 (in_objects was.queued o h)), shut_no), r.run) in
      let a0 : ℕ = queued_at key q in
      let W : List ℕ = set s.words a0 x in
      let keep : (j : ℕ) → j ≢ a0 → get_or W j 0 ≡ get_or s.words j 0 = λ j ne. get_or-set_other s.words a0 j x 0 ne in
      let here : get_or W (queued_at key q) 0 ≡ x = get_or-set_same s.words a0 x 0 (omega arith) in
      let count : length (line_of r.log q) ≡ n = sym (r.agree.lines.queued q low) ∙ k.1 in
      let line_here : line_of log q ≡ line_of r.log q ++ o ∷ [] = at_number_same q (line_of r.log q ++ o ∷ []) (line_of r.log) in
      let line_else : (e : ℕ) → e ≢ q → line_of log e ≡ line_of r.log e = λ e ne. at_number_other q e (line_of r.log q ++ o ∷ []) (line_of r.log) ne in
      let longer : length (line_of log q) ≡ n + 1 = ap length line_here ∙ (length-append (line_of r.log q) (o ∷ []) ∙ ap (λ (z : ℕ). z + 1) count) in
      let cells : (j m : ℕ) → get_or W (cell_at key j m) 0 ≡ get_or s.words (cell_at key j m) 0 = λ j m. keep (cell_at key j m) (λ z. omega arith) in
      let w : View = record (queued_view v) { seen = log } in (
        w,
        keeps,
        tt,
        subst (λ (m : ℕ). Rule record { words = set s.words m x; homes = s.homes; views = set s.views id w }) (sym a_is)
            (stores qsbr allows key s r id a0 x v w log at (calm_object (Queue o q callback) r.log) run (omega arith) (refl, refl, refl, refl)
            (heap_beside key was now s.words W (record {
              leads = leads_queued r.log o q callback;
              note = λ _. refl;
              used = λ _ u. u;
              alive = λ _ u. u;
              numbers = numbers_stay key was s.words W r.agree.heap (λ i. cells i 0);
              heads = λ c l. keep (head_at key c) (λ z. omega arith);
              cells = λ p al m _ _. cells (was.note p).0 m;
              header = λ p al. header_same was now p (get_or s.words (cell_at key (was.note p).0 0) 0) (get_or W (cell_at key (was.note p).0 0) 0) (λ h. h) (λ h. h) (cells (was.note p).0 0) (r.agree.heap.header p al);
            }) r.agree.heap)
            (record {
              notes = λ c l. keep (note_at key c) (λ z. omega arith) ∙ r.agree.lines.notes c l;
              queued = λ e l. dite (ℕ_discrete e q) (λ same. subst (λ (z : ℕ). get_or W (queued_at key z) 0 ≡ length (line_of log z)) (sym same) (here ∙ (x_is ∙ sym longer)))
                  (λ ne. keep (queued_at key e) (λ z. ne (omega arith)) ∙ (r.agree.lines.queued e l ∙ ap length (sym (line_else e ne))));
              closed = λ e l. keep (closed_at key e) (λ z. omega arith) ∙ r.agree.lines.closed e l;
              done = λ e l j p below f. let below' : j < get_or s.words (finished_at key e) 0 = subst (λ (z : ℕ). j < z) (keep (finished_at key e) (λ z. omega arith)) below in old_done s r o q callback e l j p below' f;
              few = λ e l. subst (λ (z : ℕ). z ≤ length (line_of log e)) (sym (keep (finished_at key e) (λ z. omega arith))) (few_more s r o q callback e l);
              beyond = λ e l. line_else e (λ z. omega arith) ∙ r.agree.lines.beyond e l;
            })
            (guards_far key s.words W (λ c l. keep (hold_at key c) (λ z. omega arith)) (λ e l. keep (work_at key e) (λ z. omega arith)) r.agree.holds)
            (chains_kept qsbr allows key s r id a0 x v w log at refl (λ c l. (keep (hold_at key c) (λ z. omega arith), keep (head_at key c) (λ z. omega arith), refl, refl)))
            (record {
              others = λ p y claim ne kn. let other : p ≢ o = λ e. ne (subst (λ (z : RecordRight). ClaimsObject z p) (sym doomed) (sym e)) in
                  object_stays qsbr allows key s r id a0 x v w log at y p claim
                  (record { used = λ u. u; cut = λ u. u; note = λ _. refl; retired = λ u. u; retired_still = λ u. u; queued = λ h. ⊎_elim (λ (e : o ≡ p). absurd (other (sym e))) (λ (z : In was.queued p). z) h; queued_still = inr; reclaimed = λ u. u })
                  (λ j _ _ _ m _. cells j m) kn;
              mine = λ p claim. ((ko.0, inl refl, ko.2, ko.3), inl (subst (λ (z : RecordRight). ClaimsObject z p) (sym doomed) claim));
            })
            (record {
              others = λ e y claim ne k. let other : e ≢ q = λ e_is. ne (in_queue key v is e (sym e_is)) in
                  queue_part qsbr key r.log log s.words W y e claim (λ l. (keep (queued_at key e) (λ z. other (omega arith)), keep (closed_at key e) (λ z. omega arith))) k;
              mine = λ e claim. ((low, here ∙ x_is, keep (closed_at key q) (λ z. omega arith) ∙ k.2), inl (in_queue key v is e claim));
            })
            (works_kept qsbr allows key s r id a0 x v w log at refl (λ e l. (keep (work_at key e) (λ z. omega arith), keep (finished_at key e) (λ z. omega arith))))),
        ((refl, refl, (r.log, refl, b.0, b.1, run)), (ap (λ (l : List ObjectId). get_elem? l n) line_here ∙ at_last (line_of r.log q) o n count, longer)),
      )
    where
      -- a queue that got one more has run as many
      old_done : (s : State S View) (r : Rule s) (o : ObjectId) (q : ℕ) (callback : CallbackId) (e : ℕ) → e < key.queues → (j : ℕ) (p : ObjectId) → j < get_or s.words (finished_at key e) 0 → get_elem? (line_of (Object (Queue o q callback) ∷ r.log) e) j ≡ lists.some p → In (state_of r.log).reclaimed p
      old_done s r o q callback e l j p below f = dite (ℕ_discrete e q)
          (λ same. r.agree.lines.done e l j p below (subst (λ (z : ℕ). get_elem? (line_of r.log z) j ≡ lists.some p) (sym same) (⊎_elim (λ z. z) (λ (t : (j ≡ length (line_of r.log q)) × (o ≡ p)). absurd (let z = r.agree.lines.few q (subst (λ (m : ℕ). m < key.queues) same l) in let y : j < get_or s.words (finished_at key q) 0 = subst (λ (m : ℕ). j < get_or s.words (finished_at key m) 0) same below in let w = t.0 in omega arith))
          (at_end (line_of r.log q) o p j (ap (λ (z : List ObjectId). get_elem? z j) (sym (at_number_same q (line_of r.log q ++ o ∷ []) (line_of r.log)) ∙ ap (line_of (Object (Queue o q callback) ∷ r.log)) (sym same)) ∙ f)))))
          (λ ne. r.agree.lines.done e l j p below (ap (λ (z : List ObjectId). get_elem? z j) (sym (at_number_other q e (line_of r.log q ++ o ∷ []) (line_of r.log) ne)) ∙ f))

      few_more : (s : State S View) (r : Rule s) (o : ObjectId) (q : ℕ) (callback : CallbackId) (e : ℕ) → e < key.queues → get_or s.words (finished_at key e) 0 ≤ length (line_of (Object (Queue o q callback) ∷ r.log) e)
      few_more s r o q callback e l = let z = r.agree.lines.few e l in dite (ℕ_discrete e q)
          (λ same. subst (λ (m : ℕ). get_or s.words (finished_at key e) 0 ≤ m) (sym (ap (λ (m : ℕ). length (line_of (Object (Queue o q callback) ∷ r.log) m)) same ∙ (ap length (at_number_same q (line_of r.log q ++ o ∷ []) (line_of r.log)) ∙ length-append (line_of r.log q) (o ∷ []))))
          (let y : length (line_of r.log e) ≡ length (line_of r.log q) = ap (λ (m : ℕ). length (line_of r.log m)) same in omega arith))
          (λ ne. subst (λ (m : List ObjectId). get_or s.words (finished_at key e) 0 ≤ length m) (sym (at_number_other q e (line_of r.log q ++ o ∷ []) (line_of r.log) ne)) z)

  -- whoever has the right to the queue knows the count, so that its exchange finds what it expects
  pub queues : (slots id : ℕ) (me : Me S View) (a x p : ℕ) (callback : CallbackId) (said : lists.Option S) → IsInQueue me.0 → closed_in me.0.queue ≡ 0 → IsRetired me.0 → a ≡ queued_at key (queue_in me.0.queue) → x ≡ queued_in me.0.queue + 1 → p + 1 ≡ x
      → Allows Rule slots id me a (λ n. either (n == p) x n) (queued qsbr allows callback (step slots a p x said) me)
  queues slots id me a x p callback said is not_shut doomed a_is x_is p_is s r deep at fits =
      let one = queues_one slots id me a x callback is not_shut doomed a_is x_is s r deep at fits in
      let found : get_or s.words a 0 ≡ queued_in me.0.queue = ap (λ (i : ℕ). get_or s.words i 0) a_is ∙ (queue_now s r id me.0 at is).1 in
      let same : either (get_or s.words a 0 == p) x (get_or s.words a 0) ≡ x = ap (λ (b : Bool). either b x (get_or s.words a 0)) (eq-eqb (get_or s.words a 0) p (omega (arith, found, x_is, p_is))) in
      (one.0, one.1, one.2, subst (λ (y : ℕ). Rule (stepped s a y id me.1 one.0 one.1)) (sym same) one.3, one.4)
