-- Asks, the grace lock and the running plan, whoever asks; and the fence: no pending ask's cookie is reached while a
-- section that it awaits is open, and a running plan that would reach it waits for that section.
use Rattle.world.proofs.Cited.{◌≡◌, ◌≢◌, ◌⊎◌, inl, inr, ⊎_elim, ℕ, ◌+◌, ◌-◌, ◌%◌, ◌^◌, ◌<◌, ◌≤◌, true, List, ◌∷◌, Option, Some, sym, ap, ◌∙◌, subst, arith, SectionId, In, Layout, Load, LoadGroup, Finished, Shows, after_loads, MayBe, may_turn, shows_slot, Plans, leb, false, [], ◌++◌, refl, leb_tells, empty_from, StoreSeq, StoresInOrder, present_after, IsPresent, after_snoc, may_begin, never_finished}
use Rattle.world.specs.PlanLaws.{WorldPlanLaws}

-- what an asker does: it rests, waits with an ask and its cookie, holds the grace lock and checks, is about to begin a
-- plan, runs one, or is about to free the lock
pub data Work (P : Type 0) : Type 0 where
  Rests : Work P
  Waits : (ask cookie : ℕ) → Work P
  Checks : (ask cookie : ℕ) → Work P
  Starts : (ask cookie : ℕ) → Work P
  Runs : (ask cookie : ℕ) (plan : P) → Work P
  Frees : Work P

-- it waits for an answer to this ask, with this cookie
abbrev pub Pending : {P : Type 0} → Work P → ℕ → ℕ → Type 0
Pending Rests a c = ⊥
Pending (Waits b d) a c = (b ≡ a) × (d ≡ c)
Pending (Checks b d) a c = (b ≡ a) × (d ≡ c)
Pending (Starts b d) a c = (b ≡ a) × (d ≡ c)
Pending (Runs b d p) a c = (b ≡ a) × (d ≡ c)
Pending Frees a c = ⊥

abbrev pub Holds : {P : Type 0} → Work P → Type 0
Holds Rests = ⊥
Holds (Waits b d) = ⊥
Holds _ = Unit {0}

pub holding : {P : Type 0} (w v : Work P) → w ≡ v → Holds v → Holds w
holding {P} w v is h = subst (λ (u : Work P). Holds u) (sym is) h

abbrev pub RunsNone : {P : Type 0} → Work P → Type 0
RunsNone {P} w = (a c : ℕ) (p : P) → w ≢ Runs a c p

abbrev pub StartsNone : {P : Type 0} → Work P → Type 0
StartsNone w = (a c : ℕ) → w ≢ Starts a c

-- what the plans of a world keep
pub record Laws {P : Type 0} (plans : Plans P) (layout : Layout) (slots : ℕ) : Type 1 where
  pub begun : ℕ → ℕ → P → Type 0
  pub present : P → ℕ
  pub all : WorldPlanLaws plans layout slots begun present

abbrev pub laws_of : {P : Type 0} {plans : Plans P} {layout : Layout} {slots : ℕ} {begun : ℕ → ℕ → P → Type 0} {present : P → ℕ} → WorldPlanLaws plans layout slots begun present → Laws plans layout slots
laws_of {begun} {present} l = record { begun = begun; present = present; all = l }

-- one asker's work is set
pub record Sets {A P : Type 0} (works works' : A → Work P) (x : A) (w : Work P) : Type 0 where
  pub here : works' x ≡ w
  pub others : (y : A) → y ≢ x → works' y ≡ works y

pub record AsksKept {A P : Type 0} (works : A → Work P) (asks seq : ℕ) (asked answered : List ℕ) : Type 0 where
  pub asked_low : (a : ℕ) → In asked a → a ≤ asks
  pub answered_asked : (a : ℕ) → In answered a → In asked a
  pub pending : (x : A) (a c : ℕ) → Pending (works x) a c → In asked a × (¬ In answered a) × (c ≤ seq + 3) × (c % 2 ≡ 0) × (c ≤ 2 ^ 62 + 2)
  pub one_each : (x y : A) (a c d : ℕ) → Pending (works x) a c → Pending (works y) a d → x ≡ y

-- the cookie of a sequence number
pub cookie_fits : (seq : ℕ) → seq < 2 ^ 62 → (seq + 1 < (seq + 3) - (seq + 3) % 2) × ((seq + 3) - (seq + 3) % 2 ≤ seq + 3) × (((seq + 3) - (seq + 3) % 2) % 2 ≡ 0) × ((seq + 3) - (seq + 3) % 2 ≤ 2 ^ 62 + 2)
cookie_fits seq below = omega arith

-- who asks goes from one work to another with the same ask
pub same_ask : {A P : Type 0} (works : A → Work P) (x : A) (w v : Work P) → works x ≡ w → ((a c : ℕ) → Pending v a c → Pending w a c) → (a c : ℕ) → Pending v a c → Pending (works x) a c
same_ask works x w v is less a c h = subst (λ (u : Work _). Pending u a c) (sym is) (less a c h)

-- a larger sequence number
asks_later : {A P : Type 0} {works : A → Work P} {asks seq seq' : ℕ} {asked answered : List ℕ} → seq ≤ seq' → AsksKept works asks seq asked answered → AsksKept works asks seq' asked answered
asks_later up k = record { asked_low = k.asked_low; answered_asked = k.answered_asked; one_each = k.one_each; pending = λ x a c h. let p = k.pending x a c h in (p.0, p.1, omega (arith, p.2, up), p.3, p.4) }

module _ {A : Type 0} (decide : (x y : A) → (x ≡ y) ⊎ (x ≢ y)) {P : Type 0} where
  -- what holds of the work that is set, and of each other as it was, holds of each
  set_each : {works works' : A → Work P} {x : A} {w : Work P} → Sets works works' x w → (F : A → Work P → Type 0) → F x w → ((y : A) → y ≢ x → F y (works y)) → (y : A) → F y (works' y)
  set_each {works} {works'} {x} s F mine others y = ⊎_elim
      (λ (e : y ≡ x). subst (λ z. F z (works' z)) (sym e) (subst (F x) (sym s.here) mine))
      (λ (n : y ≢ x). subst (F y) (sym (s.others y n)) (others y n))
      (decide y x)

  -- a work that is set to what it was leaves all works
  pub set_same : {works works' : A → Work P} {x : A} {w : Work P} → Sets works works' x w → works x ≡ w → works ≡ works'
  set_same {works} s is = λ i y. set_each s (λ y v. works y ≡ v) is (λ y n. refl) y i

  -- who waits for an answer once a work is set, did before
  pending_was : {works works' : A → Work P} {x : A} {w : Work P} → Sets works works' x w → ((a c : ℕ) → Pending w a c → Pending (works x) a c) → (y : A) (a c : ℕ) → Pending (works' y) a c → Pending (works y) a c
  pending_was {works} s less = set_each s (λ y v. (a c : ℕ) → Pending v a c → Pending (works y) a c) less (λ y n a c h. h)

  -- who runs a plan once a work is set that runs none, did before
  runs_was : {works works' : A → Work P} {x : A} {w : Work P} → Sets works works' x w → RunsNone w → (y : A) (a c : ℕ) (p : P) → works' y ≡ Runs a c p → works y ≡ Runs a c p
  runs_was {works} s none = set_each s (λ y v. (a c : ℕ) (p : P) → v ≡ Runs a c p → works y ≡ Runs a c p) (λ a c p e. absurd (none a c p e)) (λ y n a c p e. e)

  -- a work that is set to one with the same ask, or with none
  pub asks_set : {works works' : A → Work P} {asks seq : ℕ} {asked answered : List ℕ} {x : A} {w : Work P} → Sets works works' x w → ((a c : ℕ) → Pending w a c → Pending (works x) a c) →
      AsksKept works asks seq asked answered → AsksKept works' asks seq asked answered
  asks_set s less k = record {
    asked_low = k.asked_low;
    answered_asked = k.answered_asked;
    pending = λ y a c h. k.pending y a c (pending_was s less y a c h);
    one_each = λ y z a c d h i. k.one_each y z a c d (pending_was s less y a c h) (pending_was s less z a d i);
  }

  -- a new ask
  asks_asked : {works works' : A → Work P} {asks seq c : ℕ} {asked answered : List ℕ} {x : A} → Sets works works' x (Waits (asks + 1) c) → (c ≤ seq + 3) × (c % 2 ≡ 0) × (c ≤ 2 ^ 62 + 2) →
      AsksKept works asks seq asked answered → AsksKept works' (asks + 1) seq ((asks + 1) ∷ asked) answered
  asks_asked {works} {works'} {asks} {seq} {c} {asked} {answered} {x} s fine k = let fresh : ¬ In asked (asks + 1) = λ h. let low = k.asked_low (asks + 1) h in omega (arith, low) in record {
    asked_low = λ a h. ⊎_elim (λ (e : asks + 1 ≡ a). omega arith) (λ (o : In asked a). let low = k.asked_low a o in omega (arith, low)) h;
    answered_asked = λ a h. inr (k.answered_asked a h);
    pending = set_each s (λ y v. (a d : ℕ) → Pending v a d → In ((asks + 1) ∷ asked) a × (¬ In answered a) × (d ≤ seq + 3) × (d % 2 ≡ 0) × (d ≤ 2 ^ 62 + 2))
        (λ a d e. (inl e.0, (λ done. fresh (subst (In asked) (sym e.0) (k.answered_asked a done))), subst (λ n. n ≤ seq + 3) e.1 fine.0, subst (λ n. n % 2 ≡ 0) e.1 fine.1, subst (λ n. n ≤ 2 ^ 62 + 2) e.1 fine.2))
        (λ y n a d o. let p = k.pending y a d o in (inr p.0, p.1, p.2, p.3, p.4));
    one_each = λ y z a d e h i. set_each s (λ y v. Pending v a d → y ≡ z)
        (λ mine. set_each s (λ z v. Pending v a e → x ≡ z) (λ _. refl) (λ z n o. absurd (fresh (subst (In asked) (sym mine.0) (k.pending z a e o).0))) z i)
        (λ y n o. set_each s (λ z v. Pending v a e → y ≡ z) (λ mine. absurd (fresh (subst (In asked) (sym mine.0) (k.pending y a d o).0))) (λ z m p. k.one_each y z a d e o p) z i) y h;
  }

  -- an ask that is answered, and the asker's work is one without an ask
  pub asks_answered : {works works' : A → Work P} {asks seq : ℕ} {asked answered : List ℕ} {x : A} {w : Work P} (a c : ℕ) → Sets works works' x w → ((b d : ℕ) → ¬ Pending w b d) →
      Pending (works x) a c → AsksKept works asks seq asked answered → AsksKept works' asks seq asked (a ∷ answered)
  asks_answered {works} {works'} {answered = answered} {x = x} a c s none mine k =
      let was : (y : A) (b d : ℕ) → Pending (works' y) b d → (y ≢ x) × Pending (works y) b d = set_each s (λ y v. (b d : ℕ) → Pending v b d → (y ≢ x) × Pending (works y) b d) (λ b d i. absurd (none b d i)) (λ y n b d h. (n, h)) in record {
        asked_low = k.asked_low;
        answered_asked = λ b h. ⊎_elim (λ (e : a ≡ b). subst (In _) e (k.pending x a c mine).0) (λ (o : In answered b). k.answered_asked b o) h;
        pending = λ y b d h. let o = was y b d h in let p = k.pending y b d o.1 in
            (p.0, (λ done. ⊎_elim (λ (e : a ≡ b). o.0 (k.one_each y x b d c o.1 (subst (λ n. Pending (works x) n c) e mine))) (λ (r : In answered b). p.1 r) done), p.2, p.3, p.4);
        one_each = λ y z b d e h i. k.one_each y z b d e (was y b d h).1 (was z b e i).1;
      }

module _ {P : Type 0} (plans : Plans P) (layout : Layout) (slots : ℕ) (laws : Laws plans layout slots) where
  abbrev shows : ℕ → ℕ → Type 0
  shows mark word = Shows plans.qsbr layout mark word

  -- the plan may stand so while a section of the slot stays open whose words show the mark
  abbrev pub MayStand : P → ℕ → ℕ → Type 0
  MayStand p slot mark = MayBe plans.qsbr plans.action plans.taken layout laws.begun p slot mark

  -- a turn of a plan that loads no group word
  slot_turn : (p : P) (slot mark loaded : ℕ) → MayStand p slot mark → ((group : ℕ) → plans.action p ≢ LoadGroup group) → (plans.action p ≡ Load slot → shows mark loaded) → MayStand (plans.taken p loaded) slot mark
  slot_turn p slot mark loaded m none shown =
      may_turn plans.qsbr plans.action plans.taken layout laws.begun p slot mark loaded m (shows_slot plans.qsbr layout slot mark (plans.action p) loaded none shown)

  -- a section that the running plan waits for
  abbrev pub Old : P → SectionId → (ℕ → ℕ) → Type 0
  Old p s words = (mark : ℕ) × MayStand p s.reader mark × shows mark (words s.reader)

  -- which does not go by how the plan is named
  old_as : (t : SectionId) (words : ℕ → ℕ) (a c : ℕ) (q : P) → Old q t words → (b d : ℕ) (p : P) → Runs a c q ≡ Runs b d p → Old p t words
  old_as t words a c q o b d p e = let same : q ≡ p = cc in subst (λ u. Old u t words) same o

  -- a grace period that runs, for an ask with this cookie
  pub record Running (seq number c : ℕ) (p : P) : Type 0 where
    pub from : ℕ
    pub word : ℕ
    pub plan : P
    pub made : plan ≡ plans.made layout slots from word
    pub begun : laws.begun from word plan
    pub load : ℕ
    pub loads : List ℕ
    pub is : p ≡ after_loads plans.taken plan (load ∷ loads)
    pub even : from % 2 ≡ 0
    pub odd : seq ≡ from + 1
    pub goes_on : plans.action p ≢ Finished
    pub cookie : c ≡ from + 2
    pub present : laws.present p ≡ number
    pub low : plans.qsbr ≡ true → (word ≤ from) × (number ≤ from + 1)

  pub record GraceKept {A : Type 0} (holder : Option A) (works : A → Work P) (seq number : ℕ) : Type 0 where
    pub held : (x : A) → Holds (works x) → holder ≡ Some x
    pub starts : (x : A) (a c : ℕ) → works x ≡ Starts a c → seq < c
    pub running : (x : A) (a c : ℕ) (p : P) → works x ≡ Runs a c p → Running seq number c p
    pub even : ((x : A) → RunsNone (works x)) → seq % 2 ≡ 0
    pub number_low : plans.qsbr ≡ true → number ≤ seq

  abbrev pub Fenced : {A : Type 0} → (A → Work P) → (ℕ → ℕ) → ℕ → (ℕ → List SectionId) → Type 0
  Fenced {A} works words seq awaited =
      (x : A) (a c : ℕ) (s : SectionId) → Pending (works x) a c → In (awaited a) s →
      (seq < c) × ((y : A) (b d : ℕ) (p : P) → works y ≡ Runs b d p → c ≤ seq + 1 → Old p s words)

  -- the part of what the world keeps that is about grace periods
  pub record Part {A : Type 0} (holder : Option A) (works : A → Work P) (words : ℕ → ℕ) (asks seq number : ℕ) (asked answered : List ℕ) (awaited : ℕ → List SectionId) (sections : List SectionId) : Type 0 where
    pub asks_kept : AsksKept works asks seq asked answered
    pub grace_kept : GraceKept holder works seq number
    pub fenced : Fenced works words seq awaited
    pub awaited_open : (a : ℕ) (s : SectionId) → In (awaited a) s → In sections s

  -- what may be told of an open section: a mark that its word shows
  abbrev pub Marks : (ℕ → ℕ) → ℕ → List SectionId → Type 0
  Marks words number sections = (s : SectionId) → In sections s → (s.reader < slots) × ((mark : ℕ) × Shows plans.qsbr layout mark (words s.reader) × (plans.qsbr ≡ true → mark ≤ number))

-- ---- what each step of a grace period keeps of asks, the lock, the plan and the fence

-- the two numbers that a plan stores
pub first_second : (seq : ℕ) → StoreSeq (seq + 1) ≢ StoreSeq (seq + 2)
first_second seq e = let same : seq + 1 ≡ seq + 2 = cc in omega (arith, same)

-- an ask whose cookie is reached awaits nobody
pub reached_empty : {seq c : ℕ} (l : List SectionId) → ((s : SectionId) → In l s → seq < c) → c ≤ seq → l ≡ []
reached_empty l above reached = empty_from l (λ s h. let g = above s h in omega (arith, g, reached))

module _ {P : Type 0} {plans : Plans P} {layout : Layout} {slots : ℕ} {laws : Laws plans layout slots} where
  -- the plan of a running grace period loads no group word
  pub runs_no_group : {seq number c : ℕ} {p : P} → Running plans layout slots laws seq number c p → (group : ℕ) → plans.action p ≢ LoadGroup group
  runs_no_group r group e = laws.all.loads_no_group r.from r.word r.plan r.begun (r.load ∷ r.loads) group (ap plans.action (sym r.is) ∙ e)

  -- a turn that stores no sequence number
  running_turn : {seq number number' c : ℕ} {p : P} (loaded : ℕ) → Running plans layout slots laws seq number c p → ((value : ℕ) → plans.action p ≢ StoreSeq value) → number' ≡ present_after number (plans.action p) → (plans.qsbr ≡ true → number' ≤ seq) →
      Running plans layout slots laws seq number' c (plans.taken p loaded)
  running_turn {number = number} {p = p} loaded r none stored low = record {
    from = r.from;
    word = r.word;
    plan = r.plan;
    made = r.made;
    begun = r.begun;
    load = r.load;
    loads = r.loads ++ loaded ∷ [];
    is = ap (λ q. plans.taken q loaded) r.is ∙ sym (after_snoc plans.taken (plans.taken r.plan r.load) r.loads loaded);
    even = r.even;
    odd = r.odd;
    goes_on = λ e.
        let l = (laws.all.keeps.order r.from r.word r.plan r.begun).last (r.load ∷ r.loads) loaded (λ f. r.goes_on (ap plans.action r.is ∙ f)) in
        none (r.from + 2) (ap plans.action r.is ∙ l.0 (ap (λ q. plans.action (plans.taken q loaded)) (sym r.is) ∙ e));
    cookie = r.cookie;
    present = laws.all.keeps.presents p loaded ∙ ap (λ n. present_after n (plans.action p)) r.present ∙ sym stored;
    low = λ is. let l = low is in ((r.low is).0, omega (arith, l, r.odd));
  }

  -- a plan that runs is the one that the work names
  run_as : {seq number a c : ℕ} {q : P} → Running plans layout slots laws seq number c q → (b d : ℕ) (p : P) → Runs a c q ≡ Runs b d p → Running plans layout slots laws seq number d p
  run_as {seq} {number} {a} {c} {q} r b d p e =
      let one : c ≡ d = cc in let two : q ≡ p = cc in subst (λ n. Running plans layout slots laws seq number n p) one (subst (Running plans layout slots laws seq number c) two r)

  module _ {A : Type 0} {holder : Option A} {works : A → Work P} {seq number : ℕ} (k : GraceKept plans layout slots laws holder works seq number) (x : A) (mine : Holds (works x)) where
    -- nobody else holds the lock
    alone : (y : A) → y ≢ x → (v : Work P) → works y ≡ v → ¬ Holds v
    alone y apart v is h = apart (cc (k.held y (holding (works y) v is h), k.held x mine))

    -- who holds the lock and runs no plan leaves the sequence number even
    pub even_at : RunsNone (works x) → seq % 2 ≡ 0
    even_at none = k.even (λ y a c p e. let same : y ≡ x = cc (k.held y (holding (works y) (Runs a c p) e tt), k.held x mine) in none a c p (ap works (sym same) ∙ e))

  -- readers' steps
  pub part_words : {A : Type 0} {holder : Option A} {works : A → Work P} {words words' : ℕ → ℕ} {asks seq number : ℕ} {asked answered : List ℕ} {awaited awaited' : ℕ → List SectionId} {sections sections' : List SectionId} →
      Part plans layout slots laws holder works words asks seq number asked answered awaited sections →
      ((a : ℕ) (s : SectionId) → In (awaited' a) s → In sections s → In (awaited a) s × In sections' s × ((mark : ℕ) → Shows plans.qsbr layout mark (words s.reader) → Shows plans.qsbr layout mark (words' s.reader))) →
      ((a : ℕ) (s : SectionId) → In (awaited' a) s → In (awaited a) s) → Part plans layout slots laws holder works words' asks seq number asked answered awaited' sections'
  part_words k others less = record {
    asks_kept = k.asks_kept;
    grace_kept = k.grace_kept;
    fenced = λ x a c s pending has. let o = others a s has (k.awaited_open a s (less a s has)) in let f = k.fenced x a c s pending o.0 in (f.0, λ y b d p run low. let old = f.1 y b d p run low in (old.0, old.1, o.2 old.0 old.2));
    awaited_open = λ a s h. (others a s h (k.awaited_open a s (less a s h))).1;
  }

  module _ {A : Type 0} (decide : (x y : A) → (x ≡ y) ⊎ (x ≢ y)) where
    -- a work that is set to one that runs no plan, from one that ran none
    grace_set : {holder holder' : Option A} {works works' : A → Work P} {seq number : ℕ} {x : A} {w : Work P} → GraceKept plans layout slots laws holder works seq number → Sets works works' x w → RunsNone (works x) → RunsNone w →
        ((a c : ℕ) → w ≡ Starts a c → seq < c) → (Holds w → holder' ≡ Some x) → ((y : A) → y ≢ x → Holds (works y) → holder' ≡ Some y) → GraceKept plans layout slots laws holder' works' seq number
    grace_set {holder' = holder'} {works = works} {seq = seq} {number = number} k s was is start mine others = record {
      held = set_each decide s (λ y v. Holds v → holder' ≡ Some y) mine others;
      starts = set_each decide s (λ y v. (a c : ℕ) → v ≡ Starts a c → seq < c) start (λ y n. k.starts y);
      running = set_each decide s (λ y v. (a c : ℕ) (p : P) → v ≡ Runs a c p → Running plans layout slots laws seq number c p) (λ a c p e. absurd (is a c p e)) (λ y n. k.running y);
      even = λ none. k.even (λ y. set_each decide s (λ z v. RunsNone v → RunsNone (works z)) (λ _. was) (λ z n h. h) y (none y));
      number_low = k.number_low;
    }

    -- the ask
    pub part_asked : {holder : Option A} {works works' : A → Work P} {words : ℕ → ℕ} {asks seq number c : ℕ} {asked answered : List ℕ} {awaited awaited' : ℕ → List SectionId} {sections : List SectionId} {x : A} →
        Part plans layout slots laws holder works words asks seq number asked answered awaited sections → Sets works works' x (Waits (asks + 1) c) → RunsNone (works x) → (seq + 1 < c) × (c ≤ seq + 3) × (c % 2 ≡ 0) × (c ≤ 2 ^ 62 + 2) →
        ((a : ℕ) → a ≢ asks + 1 → awaited' a ≡ awaited a) → ((a : ℕ) (s : SectionId) → In (awaited' a) s → In sections s) → Part plans layout slots laws holder works' words (asks + 1) seq number ((asks + 1) ∷ asked) answered awaited' sections
    part_asked {works' = works'} {words = words} {asks = asks} {seq = seq} {awaited' = awaited'} k s rests fine others opens = record {
      asks_kept = asks_asked decide s (fine.1, fine.2, fine.3) k.asks_kept;
      grace_kept = grace_set k.grace_kept s rests (λ b d p e. cc) (λ a d e. cc) (λ h. absurd h) (λ y _. k.grace_kept.held y);
      fenced = set_each decide s (λ y v. (a d : ℕ) (t : SectionId) → Pending v a d → In (awaited' a) t → (seq < d) × ((z : A) (b e : ℕ) (p : P) → works' z ≡ Runs b e p → d ≤ seq + 1 → Old plans layout slots laws p t words))
          (λ a d t i has. let up : seq + 1 < d = subst (λ n. seq + 1 < n) i.1 fine.0 in (omega (arith, up), λ z b e p run low. absurd (omega (arith, up, low))))
          (λ y _ a d t o has.
          let low = k.asks_kept.asked_low a (k.asks_kept.pending y a d o).0 in
          let g = k.fenced y a d t o (subst (λ (l : List SectionId). In l t) (others a (λ e. omega (arith, low, e))) has) in
          (g.0, λ z b e p run l. g.1 z b e p (runs_was decide s (λ b d p e. cc) z b e p run) l));
      awaited_open = opens;
    }

    -- from one work to another, neither of which runs a plan
    pub part_set : {holder holder' : Option A} {works works' : A → Work P} {words : ℕ → ℕ} {asks seq number : ℕ} {asked answered answered' : List ℕ} {awaited : ℕ → List SectionId} {sections : List SectionId} {x : A} {v u : Work P} →
        Part plans layout slots laws holder works words asks seq number asked answered awaited sections → Sets works works' x u → works x ≡ v → RunsNone v → RunsNone u → ((a c : ℕ) → Pending u a c → Pending v a c) → ((b d : ℕ) → u ≡ Starts b d → seq < d) →
        (Holds u → holder' ≡ Some x) → ((y : A) → y ≢ x → Holds (works y) → holder' ≡ Some y) → AsksKept works' asks seq asked answered' → Part plans layout slots laws holder' works' words asks seq number asked answered' awaited sections
    part_set {works = works} {x = x} {v = v} {u = u} k s is from to less starts held others kept = record {
      asks_kept = kept;
      grace_kept = grace_set k.grace_kept s (λ a c p e. from a c p (sym is ∙ e)) to starts held others;
      fenced = λ y a c t h has. let f = k.fenced y a c t (pending_was decide s (same_ask works x v u is less) y a c h) has in (f.0, λ z b d p run. f.1 z b d p (runs_was decide s to z b d p run));
      awaited_open = k.awaited_open;
    }

    -- the turns of the plan: the lock's holder goes from one work to another that holds the lock, with the ask that it
    -- had or with none
    grace_turn : {holder : Option A} {works works' : A → Work P} {seq seq' number number' : ℕ} {x : A} {v : Work P} → GraceKept plans layout slots laws holder works seq number → Sets works works' x v → Holds (works x) → StartsNone v →
        ((a c : ℕ) (p : P) → v ≡ Runs a c p → Running plans layout slots laws seq' number' c p) → (RunsNone v → seq' % 2 ≡ 0) → (plans.qsbr ≡ true → number' ≤ seq') → GraceKept plans layout slots laws holder works' seq' number'
    grace_turn {holder = holder} {seq' = seq'} {number' = number'} {x = x} k s mine starts runs even low = record {
      held = set_each decide s (λ y v. Holds v → holder ≡ Some y) (λ _. k.held x mine) (λ y _. k.held y);
      starts = set_each decide s (λ y v. (b d : ℕ) → v ≡ Starts b d → seq' < d) (λ b d e. absurd (starts b d e)) (λ y n b d e. absurd (alone k x mine y n (Starts b d) e tt));
      running = set_each decide s (λ y v. (b d : ℕ) (p : P) → v ≡ Runs b d p → Running plans layout slots laws seq' number' d p) runs (λ y n b d p e. absurd (alone k x mine y n (Runs b d p) e tt));
      even = λ none. even (λ a c p e. none x a c p (s.here ∙ e));
      number_low = low;
    }

    fenced_turn : {holder : Option A} {works works' : A → Work P} {seq number : ℕ} {x : A} {v : Work P} (words : ℕ → ℕ) (seq' : ℕ) (awaited : ℕ → List SectionId) → GraceKept plans layout slots laws holder works seq number → Sets works works' x v → Holds (works x) →
        ((b d : ℕ) → Pending v b d → Pending (works x) b d) →
        ((y : A) (b d : ℕ) (s : SectionId) → Pending (works y) b d → In (awaited b) s → (seq' < d) × (d ≤ seq' + 1 → (a c : ℕ) (p : P) → v ≡ Runs a c p → Old plans layout slots laws p s words)) → Fenced plans layout slots laws works' words seq' awaited
    fenced_turn {x = x} words seq' awaited k s mine same still y b d t pending has =
        let g = still y b d t (pending_was decide s same y b d pending) has in
        (g.0, λ z a c p run low. set_each decide s (λ z v. (a c : ℕ) (p : P) → v ≡ Runs a c p → Old plans layout slots laws p t words) (g.1 low) (λ z n a c p e. absurd (alone k x mine z n (Runs a c p) e tt)) z a c p run)

    pub part_turned : {holder : Option A} {works works' : A → Work P} {words : ℕ → ℕ} {asks seq number number' : ℕ} {asked answered : List ℕ} {awaited : ℕ → List SectionId} {sections : List SectionId} {x : A} {a c : ℕ} {p : P} (loaded : ℕ) →
        Part plans layout slots laws holder works words asks seq number asked answered awaited sections → Sets works works' x (Runs a c (plans.taken p loaded)) → works x ≡ Runs a c p → ((value : ℕ) → plans.action p ≢ StoreSeq value) →
        ((slot : ℕ) → plans.action p ≡ Load slot → loaded ≡ words slot) → number' ≡ present_after number (plans.action p) → (plans.qsbr ≡ true → number' ≤ seq) → Part plans layout slots laws holder works' words asks seq number' asked answered awaited sections
    part_turned {works = works} {words = words} {seq = seq} {number = number} {awaited = awaited} {x = x} {a = a} {c = c} {p = p} loaded k s is none loads stored low =
        let runs = k.grace_kept.running x a c p is in
        let mine : Holds (works x) = holding (works x) (Runs a c p) is tt in
        let same = same_ask works x (Runs a c p) (Runs a c (plans.taken p loaded)) is (λ b d h. h) in record {
          asks_kept = asks_set decide s same k.asks_kept;
          grace_kept = grace_turn k.grace_kept s mine (λ b d e. cc) (run_as (running_turn loaded runs none stored low)) (λ n. absurd (n a c (plans.taken p loaded) refl)) low;
          fenced = fenced_turn words seq awaited k.grace_kept s mine same (λ y b d t pending has.
              let f = k.fenced y b d t pending has in (
                f.0,
                λ below. let o = f.1 x a c p is below in old_as plans layout slots laws t words a c (plans.taken p loaded)
                    (o.0, slot_turn plans layout slots laws p t.reader o.0 loaded o.1 (runs_no_group runs) (λ l. subst (Shows plans.qsbr layout o.0) (sym (loads t.reader l)) o.2), o.2),
              ));
          awaited_open = k.awaited_open;
        }

    -- a plan is made, and takes its first turn: every open section is waited for from here on
    pub part_begun : {holder : Option A} {works works' : A → Work P} {words : ℕ → ℕ} {asks seq number : ℕ} {asked answered : List ℕ} {awaited : ℕ → List SectionId} {sections : List SectionId} {x : A} {a c : ℕ} →
        Part plans layout slots laws holder works words asks seq number asked answered awaited sections → Sets works works' x (Runs a c (plans.taken (plans.made layout slots seq number) 0)) → works x ≡ Starts a c →
        Marks plans layout slots laws words number sections → IsPresent plans.qsbr number → Part plans layout slots laws holder works' words asks (seq + 1) number asked answered awaited sections
    part_begun {works = works} {words = words} {seq = seq} {number = number} {awaited = awaited} {sections = sections} {x = x} {a = a} {c = c} k s is marks now = record {
      asks_kept = asks_set decide s same (asks_later (omega arith) k.asks_kept);
      grace_kept = grace_turn k.grace_kept s mine (λ b d e. cc) (run_as running) (λ n. absurd (n a c taken refl)) (λ q. let l = k.grace_kept.number_low q in omega (arith, l));
      fenced = fenced_turn words (seq + 1) awaited k.grace_kept s mine same (λ y b d t pending has.
          let f = k.fenced y b d t pending has in
          let q = k.asks_kept.pending y b d pending in
          (omega (arith, f.0, q.3, even), λ low. old_as plans layout slots laws t words a c taken (old t (k.awaited_open b t has))));
      awaited_open = k.awaited_open;
    }
      where
        p : P
        p = plans.made layout slots seq number

        taken : P
        taken = plans.taken p 0

        mine : Holds (works x)
        mine = holding (works x) (Starts a c) is tt

        same : (b d : ℕ) → Pending (Runs a c taken) b d → Pending (works x) b d
        same = same_ask works x (Starts a c) (Runs a c taken) is (λ b d h. h)

        even : seq % 2 ≡ 0
        even = even_at k.grace_kept x mine (λ b d p e. cc (sym is ∙ e))

        order : StoresInOrder plans.action plans.taken seq p
        order = laws.all.keeps.order seq number p (laws.all.made seq number)

        running : Running plans layout slots laws (seq + 1) number c taken
        running = record {
          from = seq;
          word = number;
          plan = p;
          made = refl;
          begun = laws.all.made seq number;
          load = 0;
          loads = [];
          is = refl;
          even = even;
          odd = refl;
          goes_on = λ e. first_second seq (sym order.first ∙ (order.last [] 0 (λ f. cc (sym order.first ∙ f))).0 e);
          cookie = let q = k.asks_kept.pending x a c (subst (λ (u : Work P). Pending u a c) (sym is) (refl, refl)) in let l = k.grace_kept.starts x a c is in omega (arith, q.2, q.3, l, even);
          present = laws.all.keeps.presents p 0 ∙ ap (present_after (laws.present p)) order.first ∙ laws.all.keeps.begins seq number p (laws.all.made seq number) now;
          low = λ q. let l = k.grace_kept.number_low q in (l, omega (arith, l));
        }

        old : (t : SectionId) → In sections t → Old plans layout slots laws taken t words
        old t h =
            let m = marks t h in (
              m.1.0,
              slot_turn plans layout slots laws p t.reader m.1.0 0
                  (may_begin plans.qsbr plans.action plans.taken layout laws.begun seq number p t.reader m.1.0 (laws.all.made seq number) m.1.2)
                  (laws.all.loads_no_group seq number p (laws.all.made seq number) [])
                  (λ l. cc (sym order.first ∙ l)),
              m.1.1,
            )

    -- the last turn: the ask is answered, which awaits nobody
    module _ {holder : Option A} {works : A → Work P} {words : ℕ → ℕ} {asks seq number : ℕ} {asked answered : List ℕ} {awaited : ℕ → List SectionId} {sections : List SectionId} (k : Part plans layout slots laws holder works words asks seq number asked answered awaited sections)
        (x : A) (a c : ℕ) (p : P) (value : ℕ) (is : works x ≡ Runs a c p) (stores : plans.action p ≡ StoreSeq value) (done : plans.action (plans.taken p 0) ≡ Finished) (marks : Marks plans layout slots laws words number sections) where
      r : Running plans layout slots laws seq number c p
      r = k.grace_kept.running x a c p is

      pending : Pending (works x) a c
      pending = subst (λ (u : Work P). Pending u a c) (sym is) (refl, refl)

      which : value ≡ r.from + 2
      which =
          let l = (laws.all.keeps.order r.from r.word r.plan r.begun).last (r.load ∷ r.loads) 0 (λ f. r.goes_on (ap plans.action r.is ∙ f)) in
          cc (sym stores ∙ ap plans.action r.is ∙ l.0 (ap (λ q. plans.action (plans.taken q 0)) (sym r.is) ∙ done))

      -- whoever awaits a section has a cookie above
      fence : (y : A) (b d : ℕ) (t : SectionId) → Pending (works y) b d → In (awaited b) t → value < d
      fence y b d t waits has =
          ⊎_elim
          (λ (l : (leb d (seq + 1) ≡ true) × (d ≤ seq + 1)).
          let o = (k.fenced y b d t waits has).1 x a c p is l.1 in
          absurd (never_finished plans.qsbr plans.action plans.taken layout laws.begun slots laws.all.keeps.waits (plans.taken p 0) t.reader o.0 (marks t (k.awaited_open b t has)).0
          (slot_turn plans layout slots laws p t.reader o.0 0 o.1 (runs_no_group r) (λ e. cc (sym stores ∙ e))) done))
          (λ (m : (leb d (seq + 1) ≡ false) × (seq + 1 < d)). let q = k.asks_kept.pending y b d waits in let up = m.1 in omega (arith, up, q.3, r.odd, r.even, which))
          (leb_tells d (seq + 1))

      pub ended_empty : awaited a ≡ []
      ended_empty = reached_empty (awaited a) (λ t h. fence x a c t pending h) (omega (arith, r.cookie, which))

      pub part_ended : (works' : A → Work P) → Sets works works' x Frees → Part plans layout slots laws holder works' words asks value number asked (a ∷ answered) awaited sections
      part_ended works' s = let mine : Holds (works x) = holding (works x) (Runs a c p) is tt in record {
        asks_kept = asks_answered decide a c s (λ b d h. h) pending (asks_later (omega (arith, r.odd, which)) k.asks_kept);
        grace_kept = grace_turn k.grace_kept s mine (λ b d e. cc) (λ b d q e. absurd (cc)) (λ _. omega (arith, which, r.even)) (λ q. let l = (r.low q).1 in omega (arith, l, which));
        fenced = fenced_turn words value awaited k.grace_kept s mine (λ b d h. absurd h) (λ y b d t waits has. (fence y b d t waits has, λ low b' d' q e. absurd (cc)));
        awaited_open = k.awaited_open;
      }
