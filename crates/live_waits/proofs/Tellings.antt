-- What a plan was told, and why it is not finished while a section stays open.
use Rattle.live_waits.proofs.Cited.{◌≡◌, ℕ, ◌+◌, ◌≤◌, List, [], ◌∷◌, ◌++◌, Bool, true, false, sym, refl, ap, ◌∙◌, subst, inr, ⊎_elim, arith, true≢false, append_assoc, append-nil, Wide, Action, Load, LoadGroup, StorePhase, StoreSeq, Finished, ShowsOpen, EachLoadShows, EachLoadShowsSince, from_seq, after_loads, WaitsForOpen, StoresInOrder, Log, present_of, MayCopy, Shown, group_at, slot_at, ShownAll, TellsAllEnded, SeqOdd}
use Rattle.live_waits.specs.Answers.{Gained, stored_by, stores_of}
use Rattle.live_waits.specs.Going.{In, IsLogged, Logged, WasTold}

shown_in : (qsbr : Bool) (looks : List (ℕ × ℕ)) (r m : ℕ) (x : ℕ × ℕ) → ShownAll qsbr looks r m → In x looks → Shown qsbr x r m
shown_in qsbr [] r m x all inside = absurd inside
shown_in qsbr (y ∷ ys) r m x all inside = ⊎_elim (λ (e : y ≡ x). subst (λ (z : ℕ × ℕ). Shown qsbr z r m) e all.0) (λ i. shown_in qsbr ys r m x all.1 i) inside

-- what was logged tells of the section, where all that was loaded does
tells_of : (qsbr : Bool) (looks : List (ℕ × ℕ)) (r m : ℕ) → ShownAll qsbr looks r m → (a : Action) (word : ℕ) → IsLogged looks a word → ShowsOpen qsbr Wide r m a word
tells_of qsbr looks r m all (Load k) word i = λ same. (shown_in qsbr looks r m (slot_at k, word) all i).0 (ap slot_at same)
tells_of qsbr looks r m all (LoadGroup g) word i = λ same. (shown_in qsbr looks r m (group_at g, word) all i).1 (ap group_at same)
tells_of qsbr looks r m all (StorePhase value) word i = tt
tells_of qsbr looks r m all (StoreSeq value) word i = tt
tells_of qsbr looks r m all Finished word i = tt

more_logged : (looks : List (ℕ × ℕ)) (x : ℕ × ℕ) (a : Action) (word : ℕ) → IsLogged looks a word → IsLogged (x ∷ looks) a word
more_logged looks x (Load k) word i = inr i
more_logged looks x (LoadGroup g) word i = inr i
more_logged looks x (StorePhase value) word i = tt
more_logged looks x (StoreSeq value) word i = tt
more_logged looks x Finished word i = tt

module _ {P : Type 0} (action : P → Action) (taken : P → ℕ → P) where
  each_shows : (qsbr : Bool) (looks : List (ℕ × ℕ)) (r m : ℕ) → ShownAll qsbr looks r m → (plan : P) (words : List ℕ) → Logged action taken looks plan words → EachLoadShows action taken (ShowsOpen qsbr Wide r m) plan words
  each_shows qsbr looks r m all plan [] logged = tt
  each_shows qsbr looks r m all plan (w ∷ ws) logged = (tells_of qsbr looks r m all (action plan) w logged.0, each_shows qsbr looks r m all (taken plan w) ws logged.1)

  longer : (looks : List (ℕ × ℕ)) (x : ℕ × ℕ) (plan : P) (words : List ℕ) → Logged action taken looks plan words → Logged action taken (x ∷ looks) plan words
  longer looks x plan [] logged = tt
  longer looks x plan (w ∷ ws) logged = (more_logged looks x (action plan) w logged.0, longer looks x (taken plan w) ws logged.1)

  one_more : (looks : List (ℕ × ℕ)) (plan : P) (words : List ℕ) (word : ℕ) → Logged action taken looks plan words → IsLogged looks (action (after_loads taken plan words)) word → Logged action taken looks plan (words ++ word ∷ [])
  one_more looks plan [] word logged here = (here, tt)
  one_more looks plan (w ∷ ws) word logged here = (logged.0, one_more looks (taken plan w) ws word logged.1 here)

  after_more : (plan : P) (words : List ℕ) (word : ℕ) → after_loads taken plan (words ++ word ∷ []) ≡ taken (after_loads taken plan words) word
  after_more plan [] word = refl
  after_more plan (w ∷ ws) word = after_more (taken plan w) ws word

  stored_more : (plan : P) (words : List ℕ) (word : ℕ) → stored_by action taken plan (words ++ word ∷ []) ≡ stores_of (action (after_loads taken plan words)) ++ stored_by action taken plan words
  stored_more plan [] word = sym (append-nil (stores_of (action plan)))
  stored_more plan (w ∷ ws) word =
      ap (λ (es : Log). es ++ stores_of (action plan)) (stored_more (taken plan w) ws word) ∙ append_assoc (stores_of (action (after_loads taken (taken plan w) ws))) (stored_by action taken (taken plan w) ws) (stores_of (action plan))

  -- what stands in the log, once a turn was taken
  all_stored : (plan : P) (words : List ℕ) (word : ℕ) {a : Action} → a ≡ action (after_loads taken plan words) → stores_of a ++ (stored_by action taken plan words ++ SeqOdd ∷ []) ≡ stored_by action taken plan (words ++ word ∷ []) ++ SeqOdd ∷ []
  all_stored plan words word is =
      ap (λ (x : Action). stores_of x ++ (stored_by action taken plan words ++ SeqOdd ∷ [])) is
      ∙ (sym (append_assoc (stores_of (action (after_loads taken plan words))) (stored_by action taken plan words) (SeqOdd ∷ [])) ∙ ap (λ (es : Log). es ++ SeqOdd ∷ []) (sym (stored_more plan words word)))

  module _ (seq : ℕ) (begun : P) (order : StoresInOrder action taken seq begun) where
    store_is : (a b : ℕ) → StoreSeq a ≡ StoreSeq b → a ≡ b
    store_is a b e = cc

    -- the first turn was taken
    pub told_first : (old log : Log) → Gained (SeqOdd ∷ []) old log → WasTold action taken begun (taken begun 0) [] old log
    told_first old log odd = record { words = []; is = refl; logged = tt; stored = odd; unfinished = λ f. let s = (order.last [] 0 (λ g. finished g)).0 f in let e : seq + 1 ≡ seq + 2 = store_is (seq + 1) (seq + 2) (sym order.first ∙ s) in omega arith }
      where
        finished : action begun ≡ Finished → ⊥
        finished g = let e : StoreSeq (seq + 1) ≡ Finished = sym order.first ∙ g in cc

    abbrev Ended : P → Type 0
    Ended plan = action plan ≡ StoreSeq (seq + 2)

    -- a further turn, which is not the last one
    pub told_more : (plan : P) (looks : List (ℕ × ℕ)) {old log : Log} (t : WasTold action taken begun plan looks old log) (looks' : List (ℕ × ℕ)) (word : ℕ) → Logged action taken looks' (taken begun 0) t.words → IsLogged looks' (action plan) word
        → (Ended plan → ⊥) → (log' : Log) → Gained (stores_of (action plan) ++ (stored_by action taken (taken begun 0) t.words ++ SeqOdd ∷ [])) old log' → WasTold action taken begun (taken plan word) looks' old log'
    told_more plan looks {old} t looks' word logged here goes log' holds = record {
      words = t.words ++ word ∷ [];
      is = ap (λ p. taken p word) t.is ∙ sym (after_more (taken begun 0) t.words word);
      logged = one_more looks' (taken begun 0) t.words word logged (subst (λ p. IsLogged looks' (action p) word) t.is here);
      unfinished = λ f. goes (ap action t.is ∙ (order.last (0 ∷ t.words) word (λ g. t.unfinished (ap action t.is ∙ g))).0 (subst (λ p. action (taken p word) ≡ Finished) t.is f));
      stored = subst (λ (es : Log). Gained es old log') (all_stored (taken begun 0) t.words word (ap action t.is)) holds;
    }

    -- a turn that loaded a word
    pub told_load : (plan : P) (looks : List (ℕ × ℕ)) {old log : Log} (t : WasTold action taken begun plan looks old log) (x : ℕ × ℕ) → IsLogged (x ∷ looks) (action plan) x.1 → (Ended plan → ⊥)
        → (log' : Log) → Gained (stores_of (action plan) ++ (stored_by action taken (taken begun 0) t.words ++ SeqOdd ∷ [])) old log' → WasTold action taken begun (taken plan x.1) (x ∷ looks) old log'
    told_load plan looks t x here goes log' holds = told_more plan looks t (x ∷ looks) x.1 (longer looks x (taken begun 0) t.words t.logged) here goes log' holds

    pub told_store : (plan : P) (looks : List (ℕ × ℕ)) {old log : Log} (t : WasTold action taken begun plan looks old log) → IsLogged looks (action plan) 0 → (Ended plan → ⊥)
        → (log' : Log) → Gained (stores_of (action plan) ++ (stored_by action taken (taken begun 0) t.words ++ SeqOdd ∷ [])) old log' → WasTold action taken begun (taken plan 0) looks old log'
    told_store plan looks t here goes log' holds = told_more plan looks t looks 0 t.logged here goes log' holds

    -- the even number that is stored
    pub even_is : (plan : P) (looks : List (ℕ × ℕ)) → {old log : Log} → WasTold action taken begun plan looks old log → (value : ℕ) → action plan ≡ StoreSeq value → value ≡ seq + 2
    even_is plan looks t value is = order.second 0 value t.words (ap action (sym t.is) ∙ is)

    -- its turns, up to the last store
    pub all_turns : (plan : P) (looks : List (ℕ × ℕ)) {old log : Log} (t : WasTold action taken begun plan looks old log) → after_loads taken begun (0 ∷ (t.words ++ 0 ∷ [])) ≡ taken plan 0
    all_turns plan looks t = after_more (taken begun 0) t.words 0 ∙ ap (λ p. taken p 0) (sym t.is)

    -- what they stored as the phase or number
    pub all_stores : (plan : P) (looks : List (ℕ × ℕ)) {old log : Log} (t : WasTold action taken begun plan looks old log) → Ended plan → stored_by action taken begun (0 ∷ (t.words ++ 0 ∷ [])) ≡ stored_by action taken (taken begun 0) t.words
    all_stores plan looks t ends = let ws : List ℕ = t.words in
        ap (λ (a : Action). stored_by action taken (taken begun 0) (ws ++ 0 ∷ []) ++ stores_of a) order.first
        ∙ (append-nil (stored_by action taken (taken begun 0) (ws ++ 0 ∷ [])) ∙ (stored_more (taken begun 0) ws 0 ∙ ap (λ (a : Action). stores_of a ++ stored_by action taken (taken begun 0) ws) (ap action (sym t.is) ∙ ends)))

    -- by the last store the plan is finished
    pub told_last : (plan : P) (looks : List (ℕ × ℕ)) → {old log : Log} → WasTold action taken begun plan looks old log → Ended plan → action (taken plan 0) ≡ Finished
    told_last plan looks t ends = subst (λ p. action (taken p 0) ≡ Finished) (sym t.is) ((order.last (0 ∷ t.words) 0 (λ g. t.unfinished (ap action t.is ∙ g))).1 (ap action (sym t.is) ∙ ends))

    -- before the last store all that was loaded tells of no section
    pub refutes : (qsbr : Bool) (slots first : ℕ) → WaitsForOpen qsbr action taken Wide slots first begun → (plan : P) (looks : List (ℕ × ℕ)) → {old log : Log} → WasTold action taken begun plan looks old log → Ended plan
        → (mark : Log) → present_of mark ≡ first → TellsAllEnded qsbr slots mark looks
    refutes qsbr slots first waits plan looks t ends mark is r m low note all =
        let ws : List ℕ = t.words ++ 0 ∷ [] in
        let logged : Logged action taken looks (taken begun 0) ws = one_more looks (taken begun 0) t.words 0 t.logged (subst (λ a. IsLogged looks a 0) (sym (ap action (sym t.is) ∙ ends)) tt) in
        let since : EachLoadShowsSince action taken (ShowsOpen qsbr Wide r m) begun (0 ∷ ws) =
        subst (λ a. from_seq a (EachLoadShows action taken (ShowsOpen qsbr Wide r m) (taken begun 0) ws) (EachLoadShowsSince action taken (ShowsOpen qsbr Wide r m) (taken begun 0) ws)) (sym order.first) (each_shows qsbr looks r m all (taken begun 0) ws logged) in
        waits r m (0 ∷ ws) low (λ q. subst (λ (z : ℕ). m ≤ z) is (at_most qsbr (present_of mark) m note q)) since
        (ap action (after_more (taken begun 0) t.words 0) ∙ (order.last (0 ∷ t.words) 0 (λ g. t.unfinished (ap action t.is ∙ g))).1 (ap action (sym t.is) ∙ ends))
      where
        at_most : (b : Bool) (number m : ℕ) → MayCopy b number m → b ≡ true → m ≤ number
        at_most true number m n q = n
        at_most false number m n q = absurd (true≢false (sym q))
