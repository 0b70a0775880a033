-- The steps on a chain's hold word and note keep the rule.
use Rattle.step_chains.proofs.Cited.{◌≡◌, ◌≢◌, ◌⊎◌, ℕ, ◌+◌, ◌<◌, ◌≤◌, List, [], ◌∷◌, Bool, ◌==◌, cond, length, get_or, set, sym, refl, ap, ◌∙◌, subst, inl, inr, ⊎_elim, arith, get_or-set_other, get_or-set_same, eq-eqb, ne_eqb, dite, ℕ_discrete, get_elem?, either, State, Me, Act, step, keeps, stepped, Valid, carried_after, Allows, exchanged, ObjectId, In, first_of, LiveEvent, ChainNote, Log, line_of, chain_note, IsLiveRun, Objects, objects_of, head, Sizes, View, ChainRight, RecordRight, head_at, hold_at, note_at, queued_at, closed_at, finished_at, work_at, ref, QueueWords, HoldWords, chain, object, ClaimsChain, ClaimsObject, KnowsOwned, KnowsChain, KnowsObject, lent_chains, KeepsRule, Unclaimed, looks, Calm, calm_same, calm_note, chain_part, lines_far, guards_far, queues_kept, works_kept, stores_beside, look_all, exchanged_view, looked_view, stored_view, AreAsKnown, IsFresh, own_in, object_in, IsWriter, unclaimed, all_known, claims_own, knows_first, knows_own}
use mathlib.Core.Option as lists
use Rattle.step_chains.specs.Chains.{MayNote, held_view, noted_view, freed_view, noted, held, freed}
use Rattle.step_chains.proofs.Writers.{own_changes}

-- whoever has the right to a chain holds it
hold_is : (qsbr : Bool) (key : Sizes) (xs : List ChainRight) (c : ℕ) (log : Log) (words : List ℕ) → ClaimsChain xs c → KnowsChain qsbr key log words xs c → get_or words (hold_at key c) 0 ≡ 1
hold_is qsbr key [] c log words claim k = absurd claim
hold_is qsbr key (x ∷ xs) c log words (inl e) k = subst (λ (d : ℕ). get_or words (hold_at key d) 0 ≡ 1) e (k.0 e).0.1
hold_is qsbr key (x ∷ xs) c log words (inr h) k = hold_is qsbr key xs c log words h k.1

module _ {S : Type 0} (qsbr : Bool) (allows : Log → LiveEvent → Type 0) (key : Sizes) where
  abbrev Rule : State S View → Type 0
  Rule = KeepsRule qsbr allows key

  -- a store of a chain's own word beside its head
  own_word : (s : State S View) (r : Rule s) (id c n x : ℕ) (v w : View) (log : Log) (at : get_elem? s.views id ≡ lists.some v) → c < key.chains → (n ≡ 1) ⊎ (n ≡ 2) → Calm r.log log → IsLiveRun qsbr allows log → (w.seen ≡ log) × (w.heard ≡ v.heard) × (w.slot ≡ v.slot) × (w.grace ≡ v.grace) → (w.object ≡ v.object) × (w.queue ≡ v.queue) × (w.work ≡ v.work)
      → objects_of log ≡ objects_of r.log → QueueWords key log (set s.words (head_at key c + n) x) → HoldWords key (set s.words (head_at key c + n) x)
      → ((e : ℕ) (y : List ChainRight) → ClaimsChain y e → ¬ ClaimsChain v.chains e → KnowsChain qsbr key r.log s.words y e → (e ≢ c) × (chain_note e log ≡ chain_note e r.log))
      → ((e : ℕ) → ClaimsChain w.chains e → KnowsChain qsbr key log (set s.words (head_at key c + n) x) w.chains e × (ClaimsChain v.chains e ⊎ Unclaimed key s.views id (chain e)))
      → Rule record { words = set s.words (head_at key c + n) x; homes = s.homes; views = set s.views id w }
  own_word s r id c n x v w log at low one calm run same other objects lines guards others mine =
      let a : ℕ = head_at key c + n in
      let small : (1 ≤ n) × (n ≤ 2) = ⊎_elim (λ (e : n ≡ 1). let z : 1 ≤ n = omega arith in let y : n ≤ 2 = omega arith in (z, y)) (λ (e : n ≡ 2). let z : 1 ≤ n = omega arith in let y : n ≤ 2 = omega arith in (z, y)) one in
      let s0 = small.0 in let s1 = small.1 in
      let far : (i : ℕ) → i ≢ a → get_or (set s.words a x) i 0 ≡ get_or s.words i 0 = λ i ne. get_or-set_other s.words a i x 0 ne in
      stores_beside qsbr allows key s r id a x v w log at calm run (omega arith) (omega arith) (λ d l e. omega arith) same other.0 objects lines guards
      (record {
        others = λ e y claim ne k. let o = others e y claim ne k in chain_part qsbr key r.log log s.words (set s.words a x) y e
            (λ l. let ne' : e ≢ c = o.0 in (far (hold_at key e) (λ z. ne' (omega arith)), far (head_at key e) (λ z. omega arith), ap (λ (q : Objects). q.chain e) objects, o.1)) k;
        mine = mine;
      })
      (queues_kept qsbr allows key s r id a x v w log at other.1 (λ q l. (far (queued_at key q) (λ e. omega arith), far (closed_at key q) (λ e. omega arith))))
      (works_kept qsbr allows key s r id a x v w log at other.2 (λ q l. (far (work_at key q) (λ e. omega arith), far (finished_at key q) (λ e. omega arith))))

  -- notes and queues, where no such word changes
  lines_hold : (s : State S View) (r : Rule s) (c x : ℕ) → c < key.chains → QueueWords key r.log (set s.words (head_at key c + 1) x)
  lines_hold s r c x low = lines_far key r.log r.log s.words (set s.words (head_at key c + 1) x) (λ e l. (get_or-set_other s.words (head_at key c + 1) (note_at key e) x 0 (λ z. omega arith), refl))
      (λ q l. (get_or-set_other s.words (head_at key c + 1) (queued_at key q) x 0 (λ z. omega arith), get_or-set_other s.words (head_at key c + 1) (closed_at key q) x 0 (λ z. omega arith), get_or-set_other s.words (head_at key c + 1) (finished_at key q) x 0 (λ z. omega arith)))
      (λ q. (refl, refl)) (λ o b. b) r.agree.lines

  guards_hold : (s : State S View) (r : Rule s) (c x : ℕ) → c < key.chains → x ≤ 1 → HoldWords key (set s.words (head_at key c + 1) x)
  guards_hold s r c x low small = let wide = r.wide in record {
    hold = λ e l. dite (ℕ_discrete e c) (λ same. subst (λ (d : ℕ). get_or (set s.words (head_at key c + 1) x) (hold_at key d) 0 ≤ 1) (sym same) (let z = get_or-set_same s.words (head_at key c + 1) x 0 (omega arith) in omega arith))
        (λ ne. subst (λ (z : ℕ). z ≤ 1) (sym (get_or-set_other s.words (head_at key c + 1) (hold_at key e) x 0 (λ z. ne (omega arith)))) (r.agree.holds.hold e l));
    work = λ q l. subst (λ (z : ℕ). z ≤ 2) (sym (get_or-set_other s.words (head_at key c + 1) (work_at key q) x 0 (λ z. omega arith))) (r.agree.holds.work q l);
  }

  pub holds : (slots id : ℕ) (me : Me S View) (c a : ℕ) → c < key.chains → a ≡ hold_at key c → me.0.sizes ≡ key → Allows Rule slots id me a (λ n. either (n == 0) 1 n) (held qsbr allows (step slots a 0 1 lists.none) me)
  holds slots id me c a low a_is sizes s r deep at fits =
      let v : View = me.0 in
      let found : ℕ = get_or s.words a 0 in
      let b = r.seen id v at in
      let wide = r.wide in
      let small : found ≤ 1 = subst (λ (i : ℕ). get_or s.words i 0 ≤ 1) (sym a_is) (r.agree.holds.hold c low) in
      exchanged found 0 1 (λ x. (w : View) × (act : Act S) × Valid s.homes me.1 act × Rule (stepped s a x id me.1 w act) × held qsbr allows (step slots a 0 1 lists.none) me found (w, carried_after me.1 act))
      (λ zero.
      let h : ℕ = get_or s.words (head_at key c) 0 in
      let os : List ObjectId = (objects_of r.log).chain c in
      let x : ChainRight = record { chain = c; head = h; objects = os; note = chain_note c r.log } in
      let w : View = record (held_view x (exchanged_view a found 1 v)) { seen = r.log } in
      let clear : get_or s.words (hold_at key c) 0 ≡ 0 = ap (λ (i : ℕ). get_or s.words i 0) (sym a_is) ∙ zero in
      let free : (y : List ChainRight) → ClaimsChain y c → KnowsChain qsbr key r.log s.words y c → ⊥ = λ y claim k. let one = hold_is qsbr key y c r.log s.words claim k in omega arith in
      let none : ¬ ClaimsChain v.chains c = λ claim. free v.chains claim (r.knows (chain c) id v at claim) in
      let far : (i : ℕ) → i ≢ hold_at key c → get_or (set s.words (hold_at key c) 1) i 0 ≡ get_or s.words i 0 = λ i ne. get_or-set_other s.words (hold_at key c) i 1 0 ne in
      let owned : KnowsOwned qsbr key r.log (set s.words (hold_at key c) 1) x = (low, get_or-set_same s.words (hold_at key c) 1 0 (omega arith), far (head_at key c) (λ z. omega arith), refl, refl) in (
        w,
        keeps,
        tt,
        subst (λ (i : ℕ). Rule record { words = set s.words i 1; homes = s.homes; views = set s.views id w }) (sym a_is)
            (own_word s r id c 1 1 v w r.log at low (inl refl) (calm_same r.log) r.run (refl, refl, refl, refl) (refl, refl, refl) refl (lines_hold s r c 1 low) (guards_hold s r c 1 low (omega arith))
            (λ e y claim _ k. ((λ is. free y (subst (ClaimsChain y) is claim) (subst (KnowsChain qsbr key r.log s.words y) is k)), refl))
            (λ e. ⊎_elim
            (λ (is : c ≡ e). let gone : ¬ ClaimsChain v.chains e = subst (λ (d : ℕ). ¬ ClaimsChain v.chains d) is none in (
              ((λ _. (owned, gone)), unclaimed qsbr key r.log (set s.words (hold_at key c) 1) e v.chains gone),
              inr (λ j y _ at_j claim. let there = subst (ClaimsChain y.chains) (sym is) claim in free y.chains there (r.knows (chain c) j y at_j there)),
            ))
            (λ (there : ClaimsChain v.chains e). let other : e ≢ c = λ is. none (subst (ClaimsChain v.chains) is there) in (
              ((λ is. absurd (other (sym is))), chain_part qsbr key r.log r.log s.words (set s.words (hold_at key c) 1) v.chains e (λ l. (far (hold_at key e) (λ z. other (omega arith)), far (head_at key e) (λ z. omega arith), refl, refl)) (r.knows (chain e) id v at there)),
              inl there,
            )))),
        ((λ _ d l is. ((refl, refl, (b.0, b.1, r.run)), (refl, same_chain d is, (refl, r.agree.heap.leads (head c) low (first_of os) refl, refl)))), (λ ne. absurd (ne zero)), small),
      ))
      (λ ne. let w : View = record (looked_view a found v) { seen = r.log } in
      (w, keeps, tt, looks qsbr allows key s r id a v w at refl refl (look_all qsbr allows key s r id v w at (refl, refl, refl, refl, refl, refl)), ((λ zero. absurd (ne zero)), (λ _. (refl, refl, (b.0, b.1, r.run))), small)))
    where
      same_chain : (d : ℕ) → a ≡ hold_at me.0.sizes d → c ≡ d
      same_chain d is = let z : a ≡ hold_at key d = is ∙ ap (λ (k : Sizes). hold_at k d) sizes in omega arith

  -- what the seat knows of its other chains
  given_up : (s : State S View) (r : Rule s) (id : ℕ) (v : View) (at : get_elem? s.views id ≡ lists.some v) (own : IsWriter v) (e : ℕ) → ClaimsChain (lent_chains v.chains) e
      → KnowsChain qsbr key r.log (set s.words (hold_at key (own_in v.chains).chain) 0) (lent_chains v.chains) e × (ClaimsChain v.chains e ⊎ Unclaimed key s.views id (chain e))
  given_up s r id v at own e claim =
      let c : ℕ = (own_in v.chains).chain in
      let claims : ClaimsChain v.chains e = subst (λ (l : List ChainRight). ClaimsChain l e) (sym own) (inr claim) in
      let k = knows_first qsbr allows key s r id v at own e claims in
      let other : e ≢ c = λ is. (k.0 (sym is)).1 claim in
      let far : (i : ℕ) → i ≢ hold_at key c → get_or (set s.words (hold_at key c) 0) i 0 ≡ get_or s.words i 0 = λ i ne. get_or-set_other s.words (hold_at key c) i 0 0 ne in
      (chain_part qsbr key r.log r.log s.words (set s.words (hold_at key c) 0) (lent_chains v.chains) e (λ l. (far (hold_at key e) (λ z. other (omega arith)), far (head_at key e) (λ z. omega arith), refl, refl)) k.1, inl claims)

  pub frees : (slots id : ℕ) (me : Me S View) (a : ℕ) → IsWriter me.0 → a ≡ hold_at key (own_in me.0.chains).chain → Allows Rule slots id me a (λ _. 0) (λ _. freed qsbr allows (step slots a 0 0 lists.none) me 0)
  frees slots id me a own a_is s r deep at fits =
      let v : View = me.0 in
      let c : ℕ = (own_in v.chains).chain in
      let kc = knows_own qsbr allows key s r id v at own in
      let b = r.seen id v at in
      let w : View = record (stored_view a 0 (freed_view v)) { seen = r.log } in (
        w,
        keeps,
        tt,
        subst (λ (i : ℕ). Rule record { words = set s.words i 0; homes = s.homes; views = set s.views id w }) (sym a_is)
            (own_word s r id c 1 0 v w r.log at kc.0 (inl refl) (calm_same r.log) r.run (refl, refl, refl, refl) (refl, refl, refl) refl (lines_hold s r c 0 kc.0) (guards_hold s r c 0 kc.0 (omega arith))
            (λ e y claim far k. ((λ is. far (claims_own qsbr allows key s r id v at own e (sym is))), refl))
            (λ e claim. given_up s r id v at own e claim)),
        (refl, refl, (b.0, b.1, r.run)),
      )

  pub notes : (slots id : ℕ) (me : Me S View) (a x : ℕ) → IsWriter me.0 → a ≡ note_at key (own_in me.0.chains).chain → MayNote qsbr allows me.0 x → Allows Rule slots id me a (λ _. x) (λ _. noted qsbr allows (step slots a x 0 lists.none) me x)
  notes slots id me a x own a_is may s r deep at fits =
      let v : View = me.0 in
      let c : ℕ = (own_in v.chains).chain in
      let kc = knows_own qsbr allows key s r id v at own in
      let b = r.seen id v at in
      let log : Log = ChainNote c x ∷ r.log in
      let known : AreAsKnown r.log v.chains = all_known qsbr key r.log s.words v.chains (λ d. r.knows (chain d) id v at) in
      let fresh : IsFresh v → ¬ In (objects_of r.log).used (object_in v.object) = λ is. (subst (λ (z : RecordRight). KnowsObject qsbr key r.log s.words (objects_of r.log) z) is (r.knows (object (object_in v.object)) id v at (subst (λ (z : RecordRight). ClaimsObject z (object_in v.object)) (sym is) refl))).0 in
      let run : IsLiveRun qsbr allows log = (may r.log b.0 b.1 r.run known fresh, r.run) in
      let w : View = record (noted_view x v) { seen = log } in
      let wide = r.wide in
      let low = kc.0 in
      let here : get_or (set s.words (note_at key c) x) (note_at key c) 0 ≡ x = get_or-set_same s.words (note_at key c) x 0 (omega arith) in
      let now : chain_note c log ≡ x = ap (λ z. cond z x (chain_note c r.log)) (eq-eqb c c refl) in
      let else : (e : ℕ) → e ≢ c → chain_note e log ≡ chain_note e r.log = λ e ne. ap (λ z. cond z x (chain_note e r.log)) (ne_eqb c e (λ i. ne (sym i))) in
      let far : (i : ℕ) → i ≢ note_at key c → get_or (set s.words (note_at key c) x) i 0 ≡ get_or s.words i 0 = λ i ne. get_or-set_other s.words (note_at key c) i x 0 ne in (
        w,
        keeps,
        tt,
        subst (λ (i : ℕ). Rule record { words = set s.words i x; homes = s.homes; views = set s.views id w }) (sym a_is)
            (own_word s r id c 2 x v w log at kc.0 (inr refl) (calm_note c x r.log) run (refl, refl, refl, refl) (refl, refl, refl) refl
            (record {
              notes = λ e l. dite (ℕ_discrete e c) (λ is. subst (λ (z : ℕ). get_or (set s.words (note_at key c) x) (note_at key z) 0 ≡ chain_note z log) (sym is) (here ∙ sym now))
                  (λ ne. far (note_at key e) (λ z. ne (omega arith)) ∙ (r.agree.lines.notes e l ∙ sym (else e ne)));
              queued = λ q l. far (queued_at key q) (λ z. omega arith) ∙ r.agree.lines.queued q l;
              closed = λ q l. far (closed_at key q) (λ z. omega arith) ∙ r.agree.lines.closed q l;
              done = λ q l k o b' f. r.agree.lines.done q l k o (subst (λ (z : ℕ). k < z) (far (finished_at key q) (λ z. omega arith)) b') f;
              few = λ q l. subst (λ (z : ℕ). z ≤ length (line_of r.log q)) (sym (far (finished_at key q) (λ z. omega arith))) (r.agree.lines.few q l);
              beyond = r.agree.lines.beyond;
            })
            (guards_far key s.words (set s.words (note_at key c) x) (λ e l. far (hold_at key e) (λ z. omega arith)) (λ q l. far (work_at key q) (λ z. omega arith)) r.agree.holds)
            (λ e y claim ne k. let other : e ≢ c = λ is. ne (claims_own qsbr allows key s r id v at own e (sym is)) in (other, else e other))
            (λ e claim. let m = own_changes qsbr allows key s r id v at own log (set s.words (note_at key c) x) (record (own_in v.chains) { note = x }) refl
            (kc.0, far (hold_at key c) (λ z. omega arith) ∙ kc.1, far (head_at key c) (λ z. omega arith) ∙ kc.2, kc.3, now)
            (λ d l ne. (far (hold_at key d) (λ z. omega arith), far (head_at key d) (λ z. omega arith), refl, else d ne)) e claim in (m.0, inl m.1))),
        ((refl, refl, (r.log, refl, b.0, b.1, run), known), (kc.3, sym kc.2 ∙ (r.agree.heap.leads (head c) kc.0 (first_of ((objects_of r.log).chain c)) refl ∙ ap (λ (l : List ObjectId). ref (objects_of r.log) (first_of l)) kc.3), now)),
      )
