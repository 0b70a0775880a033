-- Each step on a record keeps the rule.
use Rattle.step_records.proofs.Cited.{◌≡◌, ◌≢◌, ◌⊎◌, ⊎_elim, ℕ, zero, suc, ◌+◌, ◌/◌, ◌%◌, ◌<◌, ◌≤◌, add-mod_left, add-mod_right, mod-eq_of_lt, Objects, Header, IsFreeWord, IsOwnNumber, NumbersGo, free_word, fresh_word, last_in, next_number, records_from, List, [], ◌∷◌, Bool, ◌==◌, get_or, set, sym, refl, ap, ◌∙◌, subst, inl, inr, arith, length-set, get_or-set_other, get_or-set_same, dite, ℕ_discrete, get_elem?, either, State, Me, Act, step, keeps, stepped, Valid, carried_after, Allows, exchanged, ObjectId, In, LiveEvent, Log, state_of, record_of, chain_note, closed_of, line_of, IsLiveRun, objects_of, kept_log, Sizes, View, RecordRight, Nothing, Fresh, Unlinked, Retired, Queued, head_at, hold_at, note_at, queued_at, closed_at, finished_at, work_at, cell_at, IsAlive, ObjectWords, object, ClaimsObject, KnowsObject, KeepsRule, Unclaimed, looks, Calm, calm_same, same_object_all, heap_far, lines_far, guards_far, apart, ObjectStep, object_stays, chains_kept, queues_kept, works_kept, stores, look_all, cell_in, object_in, link_in, payload_in, IsFresh, exchanged_view, looked_view, stored_view, goes_on, but_object}
use mathlib.Core.Option as lists
use Rattle.step_records.specs.Records.{linked_view, worded_view, HasRecord, looked, looked_fresh, numbered, took, linked, worded, discarded}

-- four words of a record, as they are
abbrev pub four : Sizes → List ℕ → ℕ → List ℕ
four key words i = get_or words (cell_at key i 2) 0 ∷ get_or words (cell_at key i 3) 0 ∷ get_or words (cell_at key i 4) 0 ∷ get_or words (cell_at key i 5) 0 ∷ []

at_place : (words : List ℕ) (i j : ℕ) → i ≡ j → get_or words i 0 ≡ get_or words j 0
at_place words i j e = ap (λ (n : ℕ). get_or words n 0) e

of_four : (key : Sizes) (words : List ℕ) (i k : ℕ) → k < 4 → get_or words (cell_at key i (k + 2)) 0 ≡ get_or (four key words i) k 0
of_four key words i zero b = at_place words _ _ (omega arith)
of_four key words i (suc zero) b = at_place words _ _ (omega arith)
of_four key words i (suc (suc zero)) b = at_place words _ _ (omega arith)
of_four key words i (suc (suc (suc zero))) b = at_place words _ _ (omega arith)
of_four key words i (suc (suc (suc (suc k)))) b = absurd (omega arith)

pub number_is : (o p : ObjectId) → o.0 ≡ p.0 → o ≡ p
number_is o p e i = record { 0 = e i }

-- the next number is above the last one, and the record's own
next_is : (key : Sizes) (i n : ℕ) → i < key.pool → IsOwnNumber key i n → (n < next_number key i n) × (next_number key i n % key.pool ≡ i)
next_is key i zero low own = (omega arith, add-mod_left key.pool i ∙ mod-eq_of_lt low)
next_is key i (suc n) low own = (omega arith, add-mod_right (suc n) key.pool ∙ ⊎_elim (λ (none : suc n ≡ 0). absurd (omega arith)) (λ (is : suc n % key.pool ≡ i). is) own)

-- the record of an object that is alive is not free
busy : (w : Objects) (o : ObjectId) (word : ℕ) → Header w o word → ¬ IsFreeWord word
busy w o word h free = let fresh : ¬ In w.retired o = λ g. (let e = h.retired g in omega arith) in let e = h.fresh fresh in omega arith

module _ {S : Type 0} (qsbr : Bool) (allows : Log → LiveEvent → Type 0) (key : Sizes) where
  abbrev Rule : State S View → Type 0
  Rule = KeepsRule qsbr allows key

  -- a store of a word of a record, with no event but of retiring or running
  pub own_record : (s : State S View) (r : Rule s) (id a x : ℕ) (v w : View) (log : Log) (at : get_elem? s.views id ≡ lists.some v) → Calm r.log log → IsLiveRun qsbr allows log → records_from key ≤ a → (w.seen ≡ log) × (w.heard ≡ v.heard) × (w.slot ≡ v.slot) × (w.grace ≡ v.grace) → (w.chains ≡ v.chains) × (w.queue ≡ v.queue) × (w.work ≡ v.work)
      → ((c : ℕ) → ((objects_of log).chain c ≡ (objects_of r.log).chain c) × (chain_note c log ≡ chain_note c r.log)) → ((q : ℕ) → (line_of log q ≡ line_of r.log q) × (closed_of q log ≡ closed_of q r.log)) → ((o : ObjectId) → In (state_of r.log).reclaimed o → In (state_of log).reclaimed o)
      → ObjectWords key (objects_of log) (set s.words a x) → ObjectStep qsbr allows key s r id a x v w log at → Rule record { words = set s.words a x; homes = s.homes; views = set s.views id w }
  own_record s r id a x v w log at calm run above same other chains lines back heap objects =
      let far : (i : ℕ) → i < records_from key → get_or (set s.words a x) i 0 ≡ get_or s.words i 0 = λ i low. get_or-set_other s.words a i x 0 (λ e. omega arith) in
      stores qsbr allows key s r id a x v w log at calm run (omega arith) same heap
      (lines_far key r.log log s.words (set s.words a x) (λ c l. (far (note_at key c) (omega arith), (chains c).1)) (λ q l. (far (queued_at key q) (omega arith), far (closed_at key q) (omega arith), far (finished_at key q) (omega arith))) lines back r.agree.lines)
      (guards_far key s.words (set s.words a x) (λ c l. far (hold_at key c) (omega arith)) (λ q l. far (work_at key q) (omega arith)) r.agree.holds)
      (chains_kept qsbr allows key s r id a x v w log at other.0 (λ c l. (far (hold_at key c) (omega arith), far (head_at key c) (omega arith), (chains c).0, (chains c).1)))
      objects
      (queues_kept qsbr allows key s r id a x v w log at other.1 (λ q l. (far (queued_at key q) (omega arith), far (closed_at key q) (omega arith))))
      (works_kept qsbr allows key s r id a x v w log at other.2 (λ q l. (far (work_at key q) (omega arith), far (finished_at key q) (omega arith))))

  pub knew : (s : State S View) (r : Rule s) (id : ℕ) (v : View) (y : RecordRight) → get_elem? s.views id ≡ lists.some v → v.object ≡ y → ClaimsObject y (object_in y) → KnowsObject qsbr key r.log s.words (objects_of r.log) y
  knew s r id v y at is claim = subst (KnowsObject qsbr key r.log s.words (objects_of r.log)) is (r.knows (object (object_in y)) id v at (subst (λ (z : RecordRight). ClaimsObject z (object_in y)) (sym is) claim))

  -- a number of a record's own above that of its last object is nobody's
  new_free : (s : State S View) (r : Rule s) (id i : ℕ) (o : ObjectId) → o.0 % key.pool ≡ i → last_in key s.words i < o.0 → Unclaimed key s.views id (object o)
  new_free s r id i o own above j y far at_j claim = no y.object claim (r.knows (object o) j y at_j claim)
    where
      used : (p : ObjectId) → p ≡ o → In (state_of r.log).used p → ⊥
      used p e u = let b : o.0 ≤ last_in key s.words i = subst (λ (n : ℕ). o.0 ≤ last_in key s.words n) own (r.agree.heap.numbers o (subst (In (state_of r.log).used) e u)).1 in omega arith

      no : (x : RecordRight) → ClaimsObject x o → KnowsObject qsbr key r.log s.words (objects_of r.log) x → ⊥
      no Nothing c k = c
      no (Fresh j p l w) c k =
          let z : p.0 ≡ o.0 = ap (λ (q : ObjectId). q.0) c in
          let last : last_in key s.words j ≡ o.0 = (let header = k.3 in omega arith) in
          ⊎_elim (λ (none : last_in key s.words j ≡ 0). let up = k.1 in omega arith)
          (λ (is : last_in key s.words j % key.pool ≡ j). let same : j ≡ i = sym is ∙ (ap (λ (n : ℕ). n % key.pool) last ∙ own) in let here : last_in key s.words i ≡ o.0 = subst (λ (n : ℕ). last_in key s.words n ≡ o.0) same last in omega arith)
          (r.agree.heap.own j)
      no (Unlinked i p) c k = used p c ((kept_log qsbr allows r.log r.run).linking.cut_used p k.0)
      no (Retired i p) c k = let l = (kept_log qsbr allows r.log r.run).linking in used p c (l.cut_used p (l.retired_cut p k.0))
      no (Queued i p) c k = let l = (kept_log qsbr allows r.log r.run).linking in used p c (l.cut_used p (l.retired_cut p k.0))

  -- the records of other objects than the one whose number is in this header
  module _ (s : State S View) (r : Rule s) (i m : ℕ) (last : last_in key s.words i ≡ m) where
    pub alive_far : (q : ObjectId) → IsAlive (objects_of r.log) q → q.0 ≢ m → (record_of r.log q).0 ≢ i
    alive_far q alive ne = apart key (objects_of r.log) s.words r.agree.heap q i m alive last ne

    pub fresh_far : (j : ℕ) (q : ObjectId) → get_or s.words (cell_at key j 0) 0 ≡ fresh_word q.0 → q.0 ≢ m → j ≢ i
    fresh_far j q header ne e = let z : last_in key s.words j ≡ m = ap (last_in key s.words) e ∙ last in ne (omega arith)

  -- a word of the record i is stored
  module _ (s : State S View) (r : Rule s) (i k x : ℕ) (small : k < 6) where
    pub cell_far : (j n : ℕ) → j ≢ i → n < 6 → get_or (set s.words (cell_at key i k) x) (cell_at key j n) 0 ≡ get_or s.words (cell_at key j n) 0
    cell_far j n ne l = get_or-set_other s.words (cell_at key i k) (cell_at key j n) x 0 (λ z. ne (omega arith))

    pub head_same : (c : ℕ) → c < key.chains → get_or (set s.words (cell_at key i k) x) (head_at key c) 0 ≡ get_or s.words (head_at key c) 0
    head_same c l = get_or-set_other s.words (cell_at key i k) (head_at key c) x 0 (λ z. omega arith)

    -- where it is the header, its number is the record's own, and not below the last one
    pub numbers_go : i < key.pool → (k ≡ 0 → (last_in key s.words i ≤ x / 4) × IsOwnNumber key i (x / 4)) → NumbersGo key s.words (set s.words (cell_at key i k) x)
    numbers_go low header j = dite (ℕ_discrete j i) (λ e. dite (ℕ_discrete k 0) (λ z. stored e z (header z)) (λ nz. stays (λ w. nz (omega arith)))) (λ ne. stays (λ w. ne (omega arith)))
      where
        stays : cell_at key j 0 ≢ cell_at key i k → (last_in key s.words j ≤ last_in key (set s.words (cell_at key i k) x) j) × IsOwnNumber key j (last_in key (set s.words (cell_at key i k) x) j)
        stays far = let e = get_or-set_other s.words (cell_at key i k) (cell_at key j 0) x 0 far in (omega arith, subst (IsOwnNumber key j) (ap (λ (z : ℕ). z / 4) (sym e)) (r.agree.heap.own j))

        stored : j ≡ i → k ≡ 0 → (last_in key s.words i ≤ x / 4) × IsOwnNumber key i (x / 4) → (last_in key s.words j ≤ last_in key (set s.words (cell_at key i k) x) j) × IsOwnNumber key j (last_in key (set s.words (cell_at key i k) x) j)
        stored e z h =
            let wide = r.wide in
            let here : last_in key (set s.words (cell_at key i k) x) i ≡ x / 4 = ap (λ (n : ℕ). n / 4) (ap (λ (n : ℕ). get_or (set s.words (cell_at key i k) x) n 0) (λ t. cell_at key i (sym z t)) ∙ get_or-set_same s.words (cell_at key i k) x 0 (omega arith)) in
            subst (λ (n : ℕ). (last_in key s.words n ≤ last_in key (set s.words (cell_at key i k) x) n) × IsOwnNumber key n (last_in key (set s.words (cell_at key i k) x) n)) (sym e)
            (subst (λ (n : ℕ). (last_in key s.words i ≤ n) × IsOwnNumber key i n) (sym here) h)

    -- a store that writes no event, in a record of which no object is alive
    own_cell : (id : ℕ) (v w : View) (at : get_elem? s.views id ≡ lists.some v) → (w.seen ≡ r.log) × (w.heard ≡ v.heard) × (w.slot ≡ v.slot) × (w.grace ≡ v.grace) → (w.chains ≡ v.chains) × (w.queue ≡ v.queue) × (w.work ≡ v.work)
        → NumbersGo key s.words (set s.words (cell_at key i k) x) → ((q : ObjectId) → IsAlive (objects_of r.log) q → (record_of r.log q).0 ≢ i) → ((j : ℕ) (q : ObjectId) → get_or s.words (cell_at key j 0) 0 ≡ fresh_word q.0 → ¬ ClaimsObject v.object q → j ≢ i)
        → ((o : ObjectId) → ClaimsObject w.object o → KnowsObject qsbr key r.log (set s.words (cell_at key i k) x) (objects_of r.log) w.object × (ClaimsObject v.object o ⊎ Unclaimed key s.views id (object o)))
        → Rule record { words = set s.words (cell_at key i k) x; homes = s.homes; views = set s.views id w }
    own_cell id v w at same other numbers dead others mine = own_record s r id (cell_at key i k) x v w r.log at (calm_same r.log) r.run (omega arith) same other (λ _. (refl, refl)) (λ _. (refl, refl)) (λ _ h. h)
        (heap_far key (objects_of r.log) s.words (set s.words (cell_at key i k) x) numbers head_same (λ q alive n l. cell_far (record_of r.log q).0 n (dead q alive) l) r.agree.heap)
        (record {
          others = λ q y claim ne kn. object_stays qsbr allows key s r id (cell_at key i k) x v w r.log at y q claim (same_object_all (objects_of r.log) q) (λ j _ _ header n l. cell_far j n (others j q header ne) l) kn;
          mine = mine;
        })

  pub takes : (slots id : ℕ) (me : Me S View) (a i h n : ℕ) → i < key.pool → a ≡ cell_at key i 0 → me.0.sizes ≡ key → IsFreeWord h → n ≡ next_number key i (h / 4)
      → Allows Rule slots id me a (λ m. either (m == h) (fresh_word n) m) (took qsbr allows (step slots a h (fresh_word n) lists.none) me)
  takes slots id me a i h n low a_is sizes free next s r deep at fits =
      let v : View = me.0 in
      let o : ObjectId = record { 0 = n } in
      let m : ℕ = get_or s.words a 0 in
      let wide = r.wide in
      let b = r.seen id v at in
      let x : ℕ = fresh_word n in
      exchanged m h x (λ z. (w : View) × (act : Act S) × Valid s.homes me.1 act × Rule (stepped s a z id me.1 w act) × took qsbr allows (step slots a h x lists.none) me m (w, carried_after me.1 act))
      (λ found.
      let header : get_or s.words (cell_at key i 0) 0 ≡ h = ap (λ (j : ℕ). get_or s.words j 0) (sym a_is) ∙ found in
      let its = next_is key i (h / 4) low (subst (IsOwnNumber key i) (ap (λ (z : ℕ). z / 4) header) (r.agree.heap.own i)) in
      let above : last_in key s.words i < n = (let up = its.0 in omega arith) in
      let own : n % key.pool ≡ i = ap (λ (z : ℕ). z % key.pool) next ∙ its.1 in
      let l : ℕ = get_or s.words (cell_at key i 1) 0 in
      let p : List ℕ = four key s.words i in
      let w : View = record (exchanged_view a m x v) { seen = r.log; object = Fresh i o l p } in
      let quarter : x / 4 ≡ n = omega arith in
      let far : (k : ℕ) → 0 < k → k < 6 → get_or (set s.words (cell_at key i 0) x) (cell_at key i k) 0 ≡ get_or s.words (cell_at key i k) 0 = λ k up l. get_or-set_other s.words (cell_at key i 0) (cell_at key i k) x 0 (λ z. omega arith) in
      let unused : ¬ In (state_of r.log).used o = λ u. (let e : n ≤ last_in key s.words i = subst (λ (j : ℕ). n ≤ last_in key s.words j) own (r.agree.heap.numbers o u).1 in omega arith) in (
        w,
        keeps,
        tt,
        subst (λ (j : ℕ). Rule record { words = set s.words j x; homes = s.homes; views = set s.views id w }) (sym a_is)
            (own_cell s r i 0 x (omega arith) id v w at (refl, refl, refl, refl) (refl, refl, refl)
            (numbers_go s r i 0 x (omega arith) low (λ _. (omega arith, inr (ap (λ (z : ℕ). z % key.pool) quarter ∙ own))))
            (λ q alive e. busy (objects_of r.log) q h (subst (Header (objects_of r.log) q) (ap (λ (j : ℕ). get_or s.words (cell_at key j 0) 0) e ∙ header) (r.agree.heap.header q alive)) free)
            (λ j q fresh _ e. let z : get_or s.words (cell_at key i 0) 0 ≡ fresh_word q.0 = ap (λ (k : ℕ). get_or s.words (cell_at key k 0) 0) (sym e) ∙ fresh in omega arith)
            (λ q claim. (
              (unused, omega arith, low, get_or-set_same s.words (cell_at key i 0) x 0 (omega arith), far 1 (omega arith) (omega arith), refl, λ j c. far (j + 2) (omega arith) (omega arith) ∙ of_four key s.words i j c),
              inr (subst (λ (z : ObjectId). Unclaimed key s.views id (object z)) claim (new_free s r id i o own above)),
            ))),
        (
          (λ _ j number same is. let e : i ≡ j = same_cell j same in let f : n ≡ number = omega arith in ((refl, (λ t. record (exchanged_view a m x v) { seen = r.log; object = Fresh (e t) (record { 0 = f t }) l p }), (b.0, b.1, r.run)), refl)),
          λ ne. absurd (ne found),
        ),
      ))
      (λ ne. let w : View = record (looked_view a m v) { seen = r.log } in
      (w, keeps, tt, looks qsbr allows key s r id a v w at refl refl (look_all qsbr allows key s r id v w at (refl, refl, refl, refl, refl, refl)), ((λ found. absurd (ne found)), λ _. (refl, refl, (b.0, b.1, r.run)))))
    where
      same_cell : (j : ℕ) → a ≡ cell_at me.0.sizes j 0 → i ≡ j
      same_cell j is = let z : a ≡ cell_at key j 0 = is ∙ ap (λ (k : Sizes). cell_at k j 0) sizes in omega arith

  -- what the seat of a fresh record stores in it
  module _ (s : State S View) (r : Rule s) (id : ℕ) (v : View) (at : get_elem? s.views id ≡ lists.some v) (is : IsFresh v) where
    fresh_now : KnowsObject qsbr key r.log s.words (objects_of r.log) (Fresh (cell_in v.object) (object_in v.object) (link_in v.object) (payload_in v.object))
    fresh_now = knew s r id v (Fresh (cell_in v.object) (object_in v.object) (link_in v.object) (payload_in v.object)) at is refl

    fresh_mine : (o : ObjectId) → object_in v.object ≡ o → ClaimsObject v.object o
    fresh_mine o e = subst (λ (y : RecordRight). ClaimsObject y o) (sym is) e

    fresh_store : (k x : ℕ) (w : View) → k < 6 → (k ≡ 0 → x ≡ free_word (object_in v.object).0) → (w.seen ≡ r.log) × (w.heard ≡ v.heard) × (w.slot ≡ v.slot) × (w.grace ≡ v.grace) → (w.chains ≡ v.chains) × (w.queue ≡ v.queue) × (w.work ≡ v.work)
        → ((o : ObjectId) → ClaimsObject w.object o → KnowsObject qsbr key r.log (set s.words (cell_at key (cell_in v.object) k) x) (objects_of r.log) w.object × (object_in v.object ≡ o))
        → Rule record { words = set s.words (cell_at key (cell_in v.object) k) x; homes = s.homes; views = set s.views id w }
    fresh_store k x w small freed same other mine =
        let o : ObjectId = object_in v.object in
        let i : ℕ = cell_in v.object in
        let f = fresh_now in
        let last : last_in key s.words i ≡ o.0 = (let header = f.3 in omega arith) in
        own_cell s r i k x small id v w at same other
        (numbers_go s r i k x small f.2 (λ z. let e = freed z in let quarter : x / 4 ≡ last_in key s.words i = omega arith in (omega arith, subst (IsOwnNumber key i) (sym quarter) (r.agree.heap.own i))))
        (λ q alive. alive_far s r i o.0 last q alive (λ e. f.0 (subst (In (state_of r.log).used) (number_is q o e) alive.0))) (λ j q header ne. fresh_far s r i o.0 last j q header (λ e. ne (fresh_mine q (sym (number_is q o e)))))
        (λ q claim. let m = mine q claim in (m.0, inl (fresh_mine q m.1)))

    fresh_far_word : (k n x : ℕ) → n ≢ k → get_or (set s.words (cell_at key (cell_in v.object) k) x) (cell_at key (cell_in v.object) n) 0 ≡ get_or s.words (cell_at key (cell_in v.object) n) 0
    fresh_far_word k n x ne = get_or-set_other s.words (cell_at key (cell_in v.object) k) (cell_at key (cell_in v.object) n) x 0 (λ z. ne (omega arith))

  pub stores_link : (slots id : ℕ) (me : Me S View) (a x : ℕ) → me.0.sizes ≡ key → IsFresh me.0 → a ≡ cell_at key (cell_in me.0.object) 1 → Allows Rule slots id me a (λ _. x) (λ _. linked qsbr allows (step slots a x 0 lists.none) me x)
  stores_link slots id me a x sizes is a_is s r deep at fits =
      let v : View = me.0 in
      let b = r.seen id v at in
      let f = fresh_now s r id v at is in
      let low = f.2 in
      let wide = r.wide in
      let i : ℕ = cell_in v.object in
      let w : View = record (linked_view x v) { seen = r.log } in
      let far = λ (n : ℕ) (ne : n ≢ 1). fresh_far_word s r id v at is 1 n x ne in (
        w,
        keeps,
        tt,
        subst (λ (n : ℕ). Rule record { words = set s.words n x; homes = s.homes; views = set s.views id w }) (sym a_is)
            (fresh_store s r id v at is 1 x w (omega arith) (λ z. absurd (omega arith)) (refl, refl, refl, refl) (refl, refl, refl)
            (λ o claim. ((f.0, f.1, f.2, far 0 (λ e. omega arith) ∙ f.3, get_or-set_same s.words (cell_at key i 1) x 0 (omega arith), f.5, λ k l. far (k + 2) (λ e. omega arith) ∙ f.6 k l), claim))),
        ((refl, refl, (b.0, b.1, r.run)), goes_on qsbr allows key s r id v at sizes),
      )

  pub stores_word : (slots id : ℕ) (me : Me S View) (a j x : ℕ) → j < 4 → me.0.sizes ≡ key → IsFresh me.0 → a ≡ cell_at key (cell_in me.0.object) (j + 2) → Allows Rule slots id me a (λ _. x) (λ _. worded qsbr allows (step slots a x 0 lists.none) me x)
  stores_word slots id me a j x four' sizes is a_is s r deep at fits =
      let v : View = me.0 in
      let b = r.seen id v at in
      let f = fresh_now s r id v at is in
      let low = f.2 in
      let wide = r.wide in
      let i : ℕ = cell_in v.object in
      let p : List ℕ = payload_in v.object in
      let long = f.5 in
      let w : View = record (worded_view j x v) { seen = r.log } in
      let far = λ (n : ℕ) (ne : n ≢ j + 2). fresh_far_word s r id v at is (j + 2) n x ne in (
        w,
        keeps,
        tt,
        subst (λ (n : ℕ). Rule record { words = set s.words n x; homes = s.homes; views = set s.views id w }) (sym a_is)
            (fresh_store s r id v at is (j + 2) x w (omega arith) (λ z. absurd (omega arith)) (refl, refl, refl, refl) (refl, refl, refl)
            (λ o claim. (
              (
                f.0,
                f.1,
                f.2,
                far 0 (λ e. omega arith) ∙ f.3,
                far 1 (λ e. omega arith) ∙ f.4,
                length-set p j x ∙ f.5,
                λ k l. dite (ℕ_discrete k j)
                    (λ e. subst (λ (n : ℕ). get_or (set s.words (cell_at key i (j + 2)) x) (cell_at key i (n + 2)) 0 ≡ get_or (set p j x) n 0) (sym e) (get_or-set_same s.words (cell_at key i (j + 2)) x 0 (omega arith) ∙ sym (get_or-set_same p j x 0 (omega arith))))
                    (λ ne. far (k + 2) (λ e. ne (omega arith)) ∙ (f.6 k l ∙ sym (get_or-set_other p j k x 0 ne))),
              ),
              claim,
            ))),
        (λ n l same. let e : j ≡ n = same_word n same in ((refl, (λ q. record (worded_view (e q) x v) { seen = r.log }), (b.0, b.1, r.run)), goes_on qsbr allows key s r id v at sizes)),
      )
    where
      same_word : (n : ℕ) → a ≡ cell_at me.0.sizes (cell_in me.0.object) (n + 2) → j ≡ n
      same_word n is = let z : a ≡ cell_at key (cell_in me.0.object) (n + 2) = is ∙ ap (λ (k : Sizes). cell_at k (cell_in me.0.object) (n + 2)) sizes in omega arith

  pub discards : (slots id : ℕ) (me : Me S View) (a x : ℕ) → IsFresh me.0 → a ≡ cell_at key (cell_in me.0.object) 0 → x ≡ free_word (object_in me.0.object).0 → Allows Rule slots id me a (λ _. x) (λ _. discarded qsbr allows (step slots a x 0 lists.none) me x)
  discards slots id me a x is a_is x_is s r deep at fits =
      let v : View = me.0 in
      let b = r.seen id v at in
      let w : View = record (stored_view a x (but_object v)) { seen = r.log } in (
        w,
        keeps,
        tt,
        subst (λ (n : ℕ). Rule record { words = set s.words n x; homes = s.homes; views = set s.views id w }) (sym a_is)
            (fresh_store s r id v at is 0 x w (omega arith) (λ _. x_is) (refl, refl, refl, refl) (refl, refl, refl) (λ o claim. absurd claim)),
        (refl, refl, (b.0, b.1, r.run)),
      )

  -- the header of a record whose object is not retired
  header_is : (s : State S View) (r : Rule s) (id : ℕ) (v : View) → get_elem? s.views id ≡ lists.some v → HasRecord v → get_or s.words (cell_at key (cell_in v.object) 0) 0 ≡ fresh_word (object_in v.object).0
  header_is s r id v at (inl is) = (fresh_now s r id v at is).3
  header_is s r id v at (inr is) =
      let o : ObjectId = object_in v.object in
      let k = knew s r id v (Unlinked (cell_in v.object) o) at is refl in
      let log = kept_log qsbr allows r.log r.run in
      let h = r.agree.heap.header o (log.linking.cut_used o k.0, λ back. k.1 (log.run o back).0) in
      subst (λ (i : ℕ). get_or s.words (cell_at key i 0) 0 ≡ fresh_word o.0) k.2 (h.fresh k.1)

  pub looks_number : (slots id : ℕ) (me : Me S View) (a : ℕ) → HasRecord me.0 → a ≡ cell_at key (cell_in me.0.object) 0 → Allows Rule slots id me a (λ n. n) (numbered qsbr allows (step slots a 0 0 lists.none) me)
  looks_number slots id me a is a_is s r deep at fits = let v : View = me.0 in let b = r.seen id v at in let n : ℕ = get_or s.words a 0 in let w : View = record (looked_view a n v) { seen = r.log } in (
    w,
    keeps,
    tt,
    looks qsbr allows key s r id a v w at refl refl (look_all qsbr allows key s r id v w at (refl, refl, refl, refl, refl, refl)),
    ((refl, refl, (b.0, b.1, r.run)), at_place s.words a (cell_at key (cell_in v.object) 0) a_is ∙ header_is s r id v at is),
  )

  pub looks_fresh : (slots id : ℕ) (me : Me S View) (a : ℕ) → me.0.sizes ≡ key → IsFresh me.0 → Allows Rule slots id me a (λ n. n) (looked_fresh qsbr allows (step slots a 0 0 lists.none) me)
  looks_fresh slots id me a sizes is s r deep at fits = let v : View = me.0 in let b = r.seen id v at in let f = fresh_now s r id v at is in let w : View = record v { seen = r.log } in (
    w,
    keeps,
    tt,
    looks qsbr allows key s r id a v w at refl refl (look_all qsbr allows key s r id v w at (refl, refl, refl, refl, refl, refl)),
    (
      (refl, refl, (b.0, b.1, r.run)),
      goes_on qsbr allows key s r id v at sizes,
      λ same. at_place s.words a (cell_at key (cell_in v.object) 1) (same ∙ ap (λ (k : Sizes). cell_at k (cell_in v.object) 1) sizes) ∙ f.4,
      λ j low same. at_place s.words a (cell_at key (cell_in v.object) (j + 2)) (same ∙ ap (λ (k : Sizes). cell_at k (cell_in v.object) (j + 2)) sizes) ∙ f.6 j low,
    ),
  )

  pub looks_word : (slots id : ℕ) (me : Me S View) (a : ℕ) → Allows Rule slots id me a (λ n. n) (looked qsbr allows (step slots a 0 0 lists.none) me)
  looks_word slots id me a s r deep at fits = let v : View = me.0 in let b = r.seen id v at in let n : ℕ = get_or s.words a 0 in let w : View = record (looked_view a n v) { seen = r.log } in
      (w, keeps, tt, looks qsbr allows key s r id a v w at refl refl (look_all qsbr allows key s r id v w at (refl, refl, refl, refl, refl, refl)), (refl, refl, (b.0, b.1, r.run)))
