-- Taking, doing and giving back a queue's work keep the rule.
use Rattle.step_queues.proofs.Cited.{◌≡◌, ◌≢◌, ℕ, ◌+◌, ◌<◌, ◌≤◌, List, Bool, ◌==◌, length, get_or, set, sym, refl, ap, ◌∙◌, subst, inl, inr, ⊎_elim, arith, get_or-set_same, dite, ℕ_discrete, get_elem?, either, State, Me, Act, step, keeps, stepped, Valid, carried_after, Allows, exchanged, at_longer, ObjectId, In, LiveEvent, Log, state_of, line_of, HaveRun, Begins, line_grows, below, grows_log, Sizes, View, WorkRight, note_at, queued_at, closed_at, finished_at, work_at, work, ClaimsWork, KnowsWork, KeepsRule, but_work, looks, calm_same, work_part, queues_kept, look_all, work_in, finished_in, IsWorker, IsKnown, exchanged_view, looked_view, stored_view}
use mathlib.Core.Option as lists
use Rattle.live_rule.specs.declared.rights.WorkRight.TheVariants as work_right
use Rattle.step_queues.specs.Queues.{finished_view, HasRunAt, held, finished, freed}
use Rattle.step_queues.proofs.Lines.{far, lines_stay, guards_work, guards_stay, own_word}

-- a turn that was run stays so
turn_later : (q n : ℕ) (old log : Log) → Begins old log → HasRunAt q n old → HasRunAt q n log
turn_later q n old log b t = let grown = line_grows old log q b in
    (t.0, ap (λ (l : List ObjectId). get_elem? l n) grown.1 ∙ at_longer (line_of old q) grown.0 n t.0 t.1, (grows_log old log b).reclaimed t.0 t.2)

-- whoever works for a queue holds its word
work_is : (qsbr : Bool) (key : Sizes) (y : WorkRight) (q : ℕ) (log : Log) (words : List ℕ) → ClaimsWork y q → KnowsWork qsbr key log words y → get_or words (work_at key q) 0 ≡ 1
work_is qsbr key work_right.Nothing q log words claim k = absurd claim
work_is qsbr key (work_right.Works d n) q log words claim k = subst (λ (e : ℕ). get_or words (work_at key e) 0 ≡ 1) claim k.1

at_work : (v : View) → IsWorker v → (q : ℕ) → work_in v.work ≡ q → ClaimsWork v.work q
at_work v is q e = subst (λ (y : WorkRight). ClaimsWork y q) (sym is) e

module _ {S : Type 0} (qsbr : Bool) (allows : Log → LiveEvent → Type 0) (key : Sizes) where
  abbrev Rule : State S View → Type 0
  Rule = KeepsRule qsbr allows key

  pub employs : (slots id : ℕ) (me : Me S View) (a q : ℕ) → q < key.queues → a ≡ work_at key q → me.0.sizes ≡ key → Allows Rule slots id me a (λ n. either (n == 0) 1 n) (held qsbr allows (step slots a 0 1 lists.none) me)
  employs slots id me a q low a_is sizes s r deep at fits =
      let v : View = me.0 in
      let m : ℕ = get_or s.words a 0 in
      let b = r.seen id v at in
      let wide = r.wide in
      let guard : m ≤ 2 = subst (λ (i : ℕ). get_or s.words i 0 ≤ 2) (sym a_is) (r.agree.holds.work q low) in
      exchanged m 0 1 (λ x. (w : View) × (act : Act S) × Valid s.homes me.1 act × Rule (stepped s a x id me.1 w act) × held qsbr allows (step slots a 0 1 lists.none) me m (w, carried_after me.1 act))
      (λ found.
      let f : ℕ = get_or s.words (finished_at key q) 0 in
      let w : View = record (exchanged_view a m 1 v) { seen = r.log; work = work_right.Works q f } in
      let zero : get_or s.words (work_at key q) 0 ≡ 0 = ap (λ (i : ℕ). get_or s.words i 0) (sym a_is) ∙ found in
      let free : (y : WorkRight) → ClaimsWork y q → KnowsWork qsbr key r.log s.words y → ⊥ = λ y claim k. let one = work_is qsbr key y q r.log s.words claim k in omega arith in (
        w,
        keeps,
        tt,
        subst (λ (i : ℕ). Rule record { words = set s.words i 1; homes = s.homes; views = set s.views id w }) (sym a_is)
            (own_word qsbr allows key s r id q 17 1 v w r.log at low (omega arith) (calm_same r.log) r.run (refl, refl, refl, refl) (refl, refl) refl (λ _. refl) (lines_stay qsbr allows key s r q 1 low) (guards_work qsbr allows key s r q 1 low (omega arith))
            (queues_kept qsbr allows key s r id (queued_at key q + 17) 1 v w r.log at refl (λ e l. (far qsbr allows key s q 17 1 low (omega arith) (queued_at key e) (λ z. omega arith), far qsbr allows key s q 17 1 low (omega arith) (closed_at key e) (λ z. omega arith))))
            (record {
              others = λ e y claim _ k. let ne : e ≢ q = λ is. free y (subst (ClaimsWork y) is claim) k in
                  work_part qsbr key r.log r.log s.words (set s.words (queued_at key q + 17) 1) y e claim (λ l. (far qsbr allows key s q 17 1 low (omega arith) (work_at key e) (λ z. ne (omega arith)), far qsbr allows key s q 17 1 low (omega arith) (finished_at key e) (λ z. omega arith))) k;
              mine = λ e claim. (
                (low, get_or-set_same s.words (queued_at key q + 17) 1 0 (omega arith), far qsbr allows key s q 17 1 low (omega arith) (finished_at key q) (λ z. omega arith)),
                inr (λ j y far' at_j claim_j. free y.work (subst (ClaimsWork y.work) (sym claim) claim_j) (r.knows (work e) j y at_j claim_j)),
              );
            })),
        ((λ _ e l is. let same : q ≡ e = same_queue e is in ((refl, (λ i. record (exchanged_view a m 1 v) { seen = r.log; work = work_right.Works (same i) f }), (b.0, b.1, r.run)), subst (λ (n : ℕ). HaveRun n f r.log) same (r.agree.lines.done q low))), (λ ne. absurd (ne found)), guard),
      ))
      (λ ne. let w : View = record (looked_view a m v) { seen = r.log } in
      (w, keeps, tt, looks qsbr allows key s r id a v w at refl refl (look_all qsbr allows key s r id v w at (refl, refl, refl, refl, refl, refl)), ((λ found. absurd (ne found)), (λ _. (refl, refl, (b.0, b.1, r.run))), guard)))
    where
      same_queue : (e : ℕ) → a ≡ work_at me.0.sizes e → q ≡ e
      same_queue e is = let z : a ≡ work_at key e = is ∙ ap (λ (k : Sizes). work_at k e) sizes in omega arith

  works_now : (s : State S View) (r : Rule s) (id : ℕ) (v : View) → get_elem? s.views id ≡ lists.some v → IsWorker v → KnowsWork qsbr key r.log s.words (work_right.Works (work_in v.work) (finished_in v.work))
  works_now s r id v at is = subst (KnowsWork qsbr key r.log s.words) is (r.knows (work (work_in v.work)) id v at (at_work v is (work_in v.work) refl))

  pub leaves : (slots id : ℕ) (me : Me S View) (a x : ℕ) → x ≤ 2 → IsWorker me.0 → a ≡ work_at key (work_in me.0.work) → Allows Rule slots id me a (λ _. x) (λ _. freed qsbr allows (step slots a x 0 lists.none) me x)
  leaves slots id me a x small is a_is s r deep at fits =
      let v : View = me.0 in
      let q : ℕ = work_in v.work in
      let k = works_now s r id v at is in
      let low = k.0 in
      let b = r.seen id v at in
      let w : View = record (stored_view a x (but_work v)) { seen = r.log } in (
        w,
        keeps,
        tt,
        subst (λ (i : ℕ). Rule record { words = set s.words i x; homes = s.homes; views = set s.views id w }) (sym a_is)
            (own_word qsbr allows key s r id q 17 x v w r.log at low (omega arith) (calm_same r.log) r.run (refl, refl, refl, refl) (refl, refl) refl (λ _. refl) (lines_stay qsbr allows key s r q x low) (guards_work qsbr allows key s r q x low small)
            (queues_kept qsbr allows key s r id (queued_at key q + 17) x v w r.log at refl (λ e l. (far qsbr allows key s q 17 x low (omega arith) (queued_at key e) (λ z. omega arith), far qsbr allows key s q 17 x low (omega arith) (closed_at key e) (λ z. omega arith))))
            (record {
              others = λ e y claim ne k. let other : e ≢ q = λ e_is. ne (at_work v is e (sym e_is)) in
                  work_part qsbr key r.log r.log s.words (set s.words (queued_at key q + 17) x) y e claim (λ l. (far qsbr allows key s q 17 x low (omega arith) (work_at key e) (λ z. other (omega arith)), far qsbr allows key s q 17 x low (omega arith) (finished_at key e) (λ z. omega arith))) k;
              mine = λ e claim. absurd claim;
            })),
        (refl, refl, (b.0, b.1, r.run)),
      )

  pub finishes : (slots id : ℕ) (me : Me S View) (a x : ℕ) → IsWorker me.0 → IsKnown (HasRunAt (work_in me.0.work) (finished_in me.0.work)) me.0 → a ≡ finished_at key (work_in me.0.work) → x ≡ finished_in me.0.work + 1 → Allows Rule slots id me a (λ _. x) (λ _. finished qsbr allows (step slots a x 0 lists.none) me x)
  finishes slots id me a x is told a_is x_is s r deep at fits =
      let v : View = me.0 in
      let q : ℕ = work_in v.work in
      let n : ℕ = finished_in v.work in
      let k = works_now s r id v at is in
      let low = k.0 in
      let wide = r.wide in
      let b = r.seen id v at in
      let W : List ℕ = set s.words (queued_at key q + 16) x in
      let w : View = record (finished_view v) { seen = r.log } in
      let here : get_or W (finished_at key q) 0 ≡ x = get_or-set_same s.words (queued_at key q + 16) x 0 (omega arith) in
      let next : HasRunAt q n r.log = ⊎_elim (turn_later q n v.seen r.log b.0) (turn_later q n v.heard r.log b.1) told in
      let now_next : (lists.some next.0) ≡ get_elem? (line_of r.log q) n = sym next.1 in
      let has_run : In (state_of r.log).reclaimed next.0 = next.2 in (
        w,
        keeps,
        tt,
        subst (λ (i : ℕ). Rule record { words = set s.words i x; homes = s.homes; views = set s.views id w }) (sym a_is)
            (own_word qsbr allows key s r id q 16 x v w r.log at low (omega arith) (calm_same r.log) r.run (refl, refl, refl, refl) (refl, refl) refl (λ _. refl)
            (record {
              notes = λ c l. far qsbr allows key s q 16 x low (omega arith) (note_at key c) (λ z. omega arith) ∙ r.agree.lines.notes c l;
              queued = λ e l. far qsbr allows key s q 16 x low (omega arith) (queued_at key e) (λ z. omega arith) ∙ r.agree.lines.queued e l;
              closed = λ e l. far qsbr allows key s q 16 x low (omega arith) (closed_at key e) (λ z. omega arith) ∙ r.agree.lines.closed e l;
              done = λ e l. dite (ℕ_discrete e q)
                  (λ same. subst (λ (z : ℕ). HaveRun z (get_or W (finished_at key z) 0) r.log) (sym same) (subst (λ (z : ℕ). HaveRun q z r.log) (sym here)
                  (λ j o below f. dite (ℕ_discrete j n)
                  (λ at_n. subst (In (state_of r.log).reclaimed) (lists.some-injective next.0 o (now_next ∙ (ap (get_elem? (line_of r.log q)) (sym at_n) ∙ f))) has_run)
                  (λ ne. let was : get_or s.words (finished_at key q) 0 ≡ n = k.2 in r.agree.lines.done q low j o (omega arith) f))))
                  (λ ne. subst (λ (z : ℕ). HaveRun e z r.log) (sym (far qsbr allows key s q 16 x low (omega arith) (finished_at key e) (λ z. ne (omega arith)))) (r.agree.lines.done e l));
              few = λ e l. dite (ℕ_discrete e q)
                  (λ same. subst (λ (z : ℕ). get_or W (finished_at key z) 0 ≤ length (line_of r.log z)) (sym same) (let z = here in let y = below (line_of r.log q) n next.0 (sym now_next) in omega arith))
                  (λ ne. subst (λ (z : ℕ). z ≤ length (line_of r.log e)) (sym (far qsbr allows key s q 16 x low (omega arith) (finished_at key e) (λ z. ne (omega arith)))) (r.agree.lines.few e l));
              beyond = r.agree.lines.beyond;
            })
            (guards_stay qsbr allows key s r q 16 x low (omega arith))
            (queues_kept qsbr allows key s r id (queued_at key q + 16) x v w r.log at refl (λ e l. (far qsbr allows key s q 16 x low (omega arith) (queued_at key e) (λ z. omega arith), far qsbr allows key s q 16 x low (omega arith) (closed_at key e) (λ z. omega arith))))
            (record {
              others = λ e y claim ne k. let other : e ≢ q = λ e_is. ne (at_work v is e (sym e_is)) in
                  work_part qsbr key r.log r.log s.words W y e claim (λ l. (far qsbr allows key s q 16 x low (omega arith) (work_at key e) (λ z. omega arith), far qsbr allows key s q 16 x low (omega arith) (finished_at key e) (λ z. other (omega arith)))) k;
              mine = λ e claim. ((low, far qsbr allows key s q 16 x low (omega arith) (work_at key q) (λ z. omega arith) ∙ k.1, here ∙ x_is), inl (at_work v is e claim));
            })),
        (refl, refl, (b.0, b.1, r.run)),
      )
