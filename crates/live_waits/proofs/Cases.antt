-- What each turn of the loop keeps.
use Rattle.live_waits.proofs.Cited.{◌≡◌, ℕ, ◌+◌, ◌≤◌, ◌^◌, List, [], ◌∷◌, ◌++◌, Bool, true, false, sym, refl, ap, ◌∙◌, subst, inl, arith, true≢false, le_prop, ×_prop, Me, Action, Load, LoadGroup, StorePhase, StoreSeq, Finished, StoresInOrder, IsPresent, present_after, LiveEvent, Log, MayBePresent, View, Works, group_at, slot_at, looks_in, before_in, seq_in, present_in, Present, SeqOdd, IsBound}
use Rattle.live_waits.specs.Answers.{Gained, stored_by, stores_of}
use Rattle.live_waits.specs.Going.{Going, InLoop, IsLogged, Begun, WasTold}
use Rattle.live_waits.proofs.Tellings.{told_load, told_store}

-- the action loads the word at this place
abbrev pub Loads : Action → ℕ → Type 0
Loads (Load k) place = place ≡ slot_at k
Loads (LoadGroup g) place = place ≡ group_at g
Loads _ place = ⊥

same_present : (a : Action) (place : ℕ) → Loads a place → (n : ℕ) → present_after n a ≡ n
same_present (Load k) place loads n = refl
same_present (LoadGroup g) place loads n = refl
same_present (StorePhase value) place loads n = absurd loads
same_present (StoreSeq value) place loads n = absurd loads
same_present Finished place loads n = absurd loads

pub logged : (a : Action) (place : ℕ) → Loads a place → (word : ℕ) (looks : List (ℕ × ℕ)) → IsLogged ((place, word) ∷ looks) a word
logged (Load k) place loads word looks = inl (ap (λ (i : ℕ). (i, word)) loads)
logged (LoadGroup g) place loads word looks = inl (ap (λ (i : ℕ). (i, word)) loads)
logged (StorePhase value) place loads word looks = absurd loads
logged (StoreSeq value) place loads word looks = absurd loads
logged Finished place loads word looks = absurd loads

no_store : (a : Action) (place : ℕ) → Loads a place → (value : ℕ) → a ≡ StoreSeq value → ⊥
no_store (Load k) place loads value e = cc
no_store (LoadGroup g) place loads value e = cc
no_store (StorePhase other) place loads value e = absurd loads
no_store (StoreSeq other) place loads value e = absurd loads
no_store Finished place loads value e = absurd loads

no_stores : (a : Action) (place : ℕ) → Loads a place → stores_of a ≡ []
no_stores (Load k) place loads = refl
no_stores (LoadGroup g) place loads = refl
no_stores (StorePhase value) place loads = absurd loads
no_stores (StoreSeq value) place loads = absurd loads
no_stores Finished place loads = absurd loads

module _ {P : Type 0} (is_begun : P → Type 0) (action : P → Action) (taken : P → ℕ → P) (present : P → ℕ) (seq : ℕ) where
  -- the laws of the plan that the loop uses
  pub record Laws : Type 0 where
    pub order : (start : P) → is_begun start → StoresInOrder action taken seq start
    pub presents : (plan : P) (word : ℕ) → present (taken plan word) ≡ present_after (present plan) (action plan)

  module _ (laws : Laws) (plan new : P) (looks : List (ℕ × ℕ)) (old log log' : Log) (b : Begun is_begun action taken plan looks old log) where
    abbrev After : List (ℕ × ℕ) → ℕ → Type 0
    After looks' number = (number ≡ present new) × Begun is_begun action taken new looks' old log'

    pub after_look : (a : Action) (place word : ℕ) → action plan ≡ a → Loads a place → new ≡ taken plan word → ((es : Log) → Gained es old log → Gained es old log') → After ((place, word) ∷ looks) (present plan)
    after_look a place word is loads next weaves = (
      sym (ap present next ∙ (laws.presents plan word ∙ (ap (present_after (present plan)) is ∙ same_present a place loads (present plan)))),
      record {
        start = b.start;
        begun = b.begun;
        told = subst (λ p. WasTold action taken b.start p ((place, word) ∷ looks) old log') (sym next)
            (told_load action taken seq b.start (laws.order b.start b.begun) plan looks b.told (place, word) (subst (λ x. IsLogged ((place, word) ∷ looks) x word) (sym is) (logged a place loads word looks)) (λ e. no_store a place loads (seq + 2) (sym is ∙ e))
            log' (subst (λ (ev : Log). Gained (ev ++ (stored_by action taken (taken b.start 0) b.told.words ++ SeqOdd ∷ [])) old log') (sym (ap stores_of is ∙ no_stores a place loads)) (weaves (stored_by action taken (taken b.start 0) b.told.words ++ SeqOdd ∷ []) b.told.stored)));
      },
    )

    pub after_store : (value : ℕ) → action plan ≡ StorePhase value → new ≡ taken plan 0 → ((es : Log) → Gained es old log → Gained (Present value ∷ es) old log') → After looks value
    after_store value is next weaves = (
      sym (ap present next ∙ (laws.presents plan 0 ∙ ap (present_after (present plan)) is)),
      record {
        start = b.start;
        begun = b.begun;
        told = subst (λ p. WasTold action taken b.start p looks old log') (sym next)
            (told_store action taken seq b.start (laws.order b.start b.begun) plan looks b.told (subst (λ a. IsLogged looks a 0) (sym is) tt) (λ e. let f : StorePhase value ≡ StoreSeq (seq + 2) = sym is ∙ e in cc)
            log' (subst (λ (ev : Log). Gained (ev ++ (stored_by action taken (taken b.start 0) b.told.words ++ SeqOdd ∷ [])) old log') (sym (ap stores_of is)) (weaves (stored_by action taken (taken b.start 0) b.told.words ++ SeqOdd ∷ []) b.told.stored)));
      },
    )

  -- a turn that led the seat on, and the plan
  pub in_loop : {S : Type 0} (qsbr : Bool) (allows : Log → LiveEvent → Type 0) (old : Me S View) (first number : ℕ) (looks : List (ℕ × ℕ)) (plan : P) (now : Me S View)
      → Going qsbr allows old (seq + 1) first number looks now → number ≡ present plan → Begun is_begun action taken plan looks (before_in now.0.grace) now.0.seen → IsBound qsbr (seq + 1) number → InLoop is_begun action taken present seq qsbr allows old first plan now
  in_loop qsbr allows old first number looks plan now go is b low = let same : looks_in now.0.grace ≡ looks = ap looks_in go.is in
      (subst (λ (z : ℕ × List (ℕ × ℕ)). Going qsbr allows old (seq + 1) first z.0 z.1 now) (λ i. (is i, sym same i)) go, subst (λ (ls : List (ℕ × ℕ)). Begun is_begun action taken plan ls (before_in now.0.grace) now.0.seen) (sym same) b, subst (IsBound qsbr (seq + 1)) is low)

  -- the seat's right, as the steps name it
  pub named : {S : Type 0} (qsbr : Bool) (allows : Log → LiveEvent → Type 0) (old : Me S View) (first number : ℕ) (looks : List (ℕ × ℕ)) (now : Me S View) → Going qsbr allows old (seq + 1) first number looks now
      → (x : ℕ × ℕ) → Works (seq_in now.0.grace) (present_in now.0.grace) (before_in now.0.grace) (x ∷ looks_in now.0.grace) ≡ Works (seq + 1) number (before_in now.0.grace) (x ∷ looks)
  named qsbr allows old first number looks now go x = λ i. Works (ap seq_in go.is i) (ap present_in go.is i) (before_in now.0.grace) (x ∷ ap looks_in go.is i)

pub may_start : (qsbr : Bool) (seq number : ℕ) → IsBound qsbr seq number → IsPresent qsbr number
may_start false seq number b = omega arith
may_start true seq number b = tt

pub bound_next : (qsbr : Bool) (seq number : ℕ) → IsBound qsbr seq number → IsBound qsbr (seq + 1) number
bound_next false seq number b = b
bound_next true seq number b = omega arith

pub bound_turn : (qsbr : Bool) (seq number value : ℕ) → MayBePresent qsbr seq number value → IsBound qsbr seq value
bound_turn false seq number value t = t
bound_turn true seq number value t = t.1

pub may_prop : (qsbr : Bool) (seq present p : ℕ) → IsProp (MayBePresent qsbr seq present p)
may_prop false seq present p = le_prop
may_prop true seq present p = ×_prop le_prop le_prop

pub at_most : (qsbr : Bool) (seq number : ℕ) → IsBound qsbr seq number → qsbr ≡ true → number ≤ seq
at_most true seq number b q = b
at_most false seq number b q = absurd (true≢false (sym q))

pub turn_low : (qsbr : Bool) (seq number : ℕ) → seq ≤ 2 ^ 62 → IsBound qsbr seq number → number ≤ 2 ^ 62
turn_low false seq number low b = omega arith
turn_low true seq number low b = omega arith
