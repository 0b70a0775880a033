-- What the steps of `retire` and `barrier` keep, and that what they tell may come.
use Rattle.world.proofs.Cited.{◌≡◌, ◌≢◌, ◌⊎◌, ⊎_elim, ℕ, true≢false, inl, inr, ◌+◌, ◌%◌, ◌<◌, ◌≤◌, ◌&&◌, is_some, true, false, List, [], ◌∷◌, ◌++◌, length, slice_get, slice_set, Option, Some, None, Result, Ok, refl, sym, ap, ◌∙◌, subst, arith, length-append, length-set, eqb-true, and_parts, mod_below, get_or_from_slice_get, ObjectId, SectionId, Refusal, at_object, State, In, has_object_in, in_objects, at_object_other, decide, none_some, some_is, Layout, items_of, given_of, Life, Stage, Mark, ObjectState, QueueState, RetireStep, Idle, Retires, UpdaterState, WorkerState, Change, Hold, marked_life, empty_queue_state, item_of, held_by, acted, changed_at, acted_at, held_at, Plans, BoardView, no_object, stage_of, chain_of, within, life_of, life_within, life_marked, life_else, chain_marked, Items, Has, Stands, InQueue, queue_at, has_left, has_right, has_stands, stands_left, stands_last, stands_more, changed_here, changed_length, items_pushed, nat_le, nat_lt, ltb, not, get_or, replicate, get_or-set_other, get_or-set_same, leb-true, ltb-true, ltb-false, cond_both, has_object, at_number, not_run, has_number_in, in_numbers, empty_from, at_number_same, at_number_other, filter_has, WorkerCore, Quiet, Barrier, BarrierStep, Note, Check, UpdaterPlace, Bars, Bar, decide_number, stands_above, stands_within, Event, QueueAct, writes, queue_of, at_place, is_cut, is_kept, may_retire, retire_on, queued_in, finished_in, after_note, noted_at, barrier_row, one}
use Rattle.world.proofs.Fence.{Laws}
use Rattle.world.proofs.Rows.{none_is}
use Rattle.world.proofs.State.{place_work, updater_at, worker_at, Kept}
use Rattle.world.proofs.KeptPublishing.{There, kept_updater}
use Rattle.world.proofs.KeptReaders.{longer, log_longer, log_one, entry_is}
use Rattle.world.proofs.Callbacks.{Found, LifeKept, ItemsKept, lives_as, QueueKept, Retiring, RetireKept, WorkAt, BarKept, CallbacksKept, Callbacks, at_queues, work_at, queue_more, sizes_over, numbers_over, found_over, retire_marked, retire_apart, retire_here, bar_over, stays, items_stay, BarsNone, bars_kept, bars_none, OwesAll, logged_more, updaters_set, WorkKept, Faces, IsAt, Barring, RetiresNone, retires_none}

-- who is ready or waits stands in the queue
batch_there : (q : QueueState) (o : ObjectId) → Has (q.items.ready ++ q.items.waiting) o → (t : ℕ) × InQueue q t o
batch_there q o h = has_stands q.items.gone (items_of q.items) o (has_left (q.items.ready ++ q.items.waiting) q.items.fresh o h)

-- one more object is retired, or queued, or reclaimed: the others are as before
in_other : (o p : ObjectId) (os : List ObjectId) → p ≢ o → In (o ∷ os) p → In os p
in_other o p os apart (inl e) = absurd (apart (sym e))
in_other o p os apart (inr h) = h

more_retired : (l : Life) (o p : ObjectId) (r q c : List ObjectId) → p ≢ o → LifeKept l p r q c → LifeKept l p (o ∷ r) q c
more_retired Life.Kept o p r q c apart h = ((λ i. h.0 (in_other o p r apart i)), h.1, h.2)
more_retired _ o p r q c apart h = (inr h.0, h.1, h.2)

more_queued : (l : Life) (o p : ObjectId) (r q c : List ObjectId) → p ≢ o → LifeKept l p r q c → LifeKept l p r (o ∷ q) c
more_queued Life.Kept o p r q c apart h = (h.0, (λ i. h.1 (in_other o p q apart i)), h.2)
more_queued Life.Retired o p r q c apart h = (h.0, (λ i. h.1 (in_other o p q apart i)), h.2)
more_queued Life.Queued o p r q c apart h = (h.0, inr h.1, h.2)
more_queued Life.Reclaimed o p r q c apart h = (h.0, inr h.1, h.2)

pub more_reclaimed : (l : Life) (o p : ObjectId) (r q c : List ObjectId) → p ≢ o → LifeKept l p r q c → LifeKept l p r q (o ∷ c)
more_reclaimed Life.Reclaimed o p r q c apart h = (h.0, h.1, inr h.2)
more_reclaimed _ o p r q c apart h = (h.0, h.1, (λ i. h.2 (in_other o p c apart i)))

-- a header is stored: its object lives as it says, and the others as before
pub lives_marked : (os : List ObjectState) (m : Mark) (r q c r' q' c' : List ObjectId) → m.object.0 < length os → LifeKept m.life m.object r' q' c' → ((p : ObjectId) → p ≢ m.object → LifeKept (life_of os p) p r q c → LifeKept (life_of os p) p r' q' c') →
    ((p : ObjectId) → LifeKept (life_of os p) p r q c) → (p : ObjectId) → LifeKept (life_of (marked_life os (Some m)) p) p r' q' c'
lives_marked os m r q c r' q' c' inside mine others lives p = by (decide p m.object)
  where
    by : (p ≡ m.object) ⊎ (p ≢ m.object) → LifeKept (life_of (marked_life os (Some m)) p) p r' q' c'
    by (inl e) = subst (λ (z : ObjectId). LifeKept (life_of (marked_life os (Some m)) z) z r' q' c') (sym e) (subst (λ (l : Life). LifeKept l m.object r' q' c') (sym (life_marked os m inside)) mine)
    by (inr n) = subst (λ (l : Life). LifeKept l p r' q' c') (sym (life_else os m p n)) (others p n (lives p))

-- the header says that the object is retired
items_retired : (os : List ObjectState) (qs : List QueueState) (r q c : List ObjectId) (o : ObjectId) → o.0 < length os → life_of os o ≡ Life.Kept → ItemsKept os qs r q c →
    ItemsKept (marked_life os (Some (record { object = o; life = Life.Retired }))) qs (o ∷ r) q c
items_retired os qs r q c o inside was k =
    let mine = lives_as k o was in
    record {
      lives = lives_marked os m r q c (o ∷ r) q c inside (inl refl, mine.1, mine.2) (λ p. more_retired (life_of os p) o p r q c) k.lives;
      found = λ p e. k.found p (queued p (decide p o) e);
      there = λ j t p h. let is = k.there j t p h in life_else os m p (λ e. cc (sym was ∙ ap (life_of os) (sym e) ∙ is)) ∙ is;
      one_place = k.one_place;
    }
  where
    m : Mark
    m = record { object = o; life = Life.Retired }

    queued : (p : ObjectId) → (p ≡ o) ⊎ (p ≢ o) → life_of (marked_life os (Some m)) p ≡ Life.Queued → life_of os p ≡ Life.Queued
    queued p (inl e) is = cc (sym (life_marked os m inside) ∙ ap (life_of (marked_life os (Some m))) (sym e) ∙ is)
    queued p (inr n) is = sym (life_else os m p n) ∙ is

-- who stands in a queue stands there when an item is pushed
pushed_stays : (qs : List QueueState) (j : ℕ) (o : ObjectId) → j < length qs → (i t : ℕ) (p : ObjectId) → InQueue (queue_at qs i) t p → InQueue (queue_at (changed_at (acted (QueueAct.Push o)) qs j (slice_get qs j)) i) t p
pushed_stays qs j o at i t p = at_queues (λ i r. InQueue (queue_at qs i) t p → InQueue r t p) (acted (QueueAct.Push o)) qs j at
    (λ h. let z = (queue_at qs j).items in subst (λ (l : Items). Stands z.gone l t p) (sym (items_pushed z (item_of o))) (stands_left z.gone (items_of z) (item_of o ∷ []) t p h)) (λ i n h. h) i

-- its item is pushed
items_queued : (os : List ObjectState) (qs : List QueueState) (j : ℕ) (r q c : List ObjectId) (o : ObjectId) → j < length qs → o.0 < length os → life_of os o ≡ Life.Retired → ItemsKept os qs r q c →
    ItemsKept (marked_life os (Some (record { object = o; life = Life.Queued }))) (changed_at (acted (QueueAct.Push o)) qs j (slice_get qs j)) r (o ∷ q) c
items_queued os qs j r q c o at inside was k =
    let mine = lives_as k o was in
    record {
      lives = lives_marked os m r q c r (o ∷ q) c inside (mine.0, inl refl, mine.2) (λ p. more_queued (life_of os p) o p r q c) k.lives;
      found = λ p e. found p (decide p o) e;
      there = λ i t p h. there p (shape i t p h);
      one_place = λ a b s t p g h. places a b s t p (shape a s p g) (shape b t p h);
    }
  where
    m : Mark
    m = record { object = o; life = Life.Queued }

    f : QueueState → QueueState
    f = acted (QueueAct.Push o)

    z : QueueState
    z = queue_at qs j

    last : ℕ
    last = z.items.gone + length (items_of z.items) + 1

    new : InQueue (queue_at (changed_at f qs j (slice_get qs j)) j) last o
    new = subst (λ (y : QueueState). InQueue y last o) (sym (changed_here f qs j at))
        (subst (λ (l : Items). Stands z.items.gone l last o) (sym (items_pushed z.items (item_of o))) (stands_last z.items.gone (items_of z.items) (item_of o)))

    found : (p : ObjectId) → (p ≡ o) ⊎ (p ≢ o) → life_of (marked_life os (Some m)) p ≡ Life.Queued → Found (changed_at f qs j (slice_get qs j)) p
    found p (inl e) is = (j, last, subst (λ n. j < n) (sym (changed_length f qs j)) at, subst (λ (y : ObjectId). InQueue (queue_at (changed_at f qs j (slice_get qs j)) j) last y) (sym e) new)
    found p (inr n) is = found_over qs _ p (changed_length f qs j) (λ i t. pushed_stays qs j o at i t p) (k.found p (sym (life_else os m p n) ∙ is))

    -- what stands in a queue stood there, or is the new item
    shape : (i t : ℕ) (p : ObjectId) → InQueue (queue_at (changed_at f qs j (slice_get qs j)) i) t p → InQueue (queue_at qs i) t p ⊎ ((i ≡ j) × (t ≡ last) × (p ≡ o))
    shape i t p = at_queues (λ i y. InQueue y t p → InQueue (queue_at qs i) t p ⊎ ((i ≡ j) × (t ≡ last) × (p ≡ o))) f qs j at
        (λ h. ⊎_elim
        (λ (l : InQueue z t p). inl l)
        (λ (y : (t ≡ last) × (o ≡ p)). inr (refl, y.0, sym y.1))
        (stands_more z.items.gone (items_of z.items) (item_of o) t p (subst (λ (l : Items). Stands z.items.gone l t p) (items_pushed z.items (item_of o)) h)))
        (λ i n h. inl h) i

    there : (p : ObjectId) → {i t : ℕ} → InQueue (queue_at qs i) t p ⊎ ((i ≡ j) × (t ≡ last) × (p ≡ o)) → life_of (marked_life os (Some m)) p ≡ Life.Queued
    there p {i = i} {t = t} (inl h) = let is = k.there i t p h in life_else os m p (λ e. cc (sym was ∙ ap (life_of os) (sym e) ∙ is)) ∙ is
    there p (inr y) = ap (life_of (marked_life os (Some m))) y.2 ∙ life_marked os m inside

    none_old : (i t : ℕ) (p : ObjectId) → p ≡ o → InQueue (queue_at qs i) t p → ⊥
    none_old i t p e h = cc (sym was ∙ ap (life_of os) (sym e) ∙ k.there i t p h)

    places : (a b s t : ℕ) (p : ObjectId) → InQueue (queue_at qs a) s p ⊎ ((a ≡ j) × (s ≡ last) × (p ≡ o)) → InQueue (queue_at qs b) t p ⊎ ((b ≡ j) × (t ≡ last) × (p ≡ o)) → (a ≡ b) × (s ≡ t)
    places a b s t p (inl g) (inl h) = k.one_place a b s t p g h
    places a b s t p (inl g) (inr y) = absurd (none_old a s p y.2 g)
    places a b s t p (inr y) (inl h) = absurd (none_old b t p y.2 h)
    places a b s t p (inr y) (inr z) = (y.0 ∙ sym z.0, y.1 ∙ sym z.1)

-- no more was finished than has left the queue
pub finished_low : {P : Type 0} (ready waiting : Items) (noted : Option ℕ) (gone finished : ℕ) (asked : List ℕ) (awaited : ObjectId → List SectionId) (asked_sections : ℕ → List SectionId) (ask : ℕ) (place : WorkerCore P Unit) →
    WorkKept ready waiting noted gone finished asked awaited asked_sections ask place → finished ≤ gone
finished_low ready waiting noted gone finished asked awaited asked_sections ask WorkerCore.Idle h = omega arith
finished_low ready waiting noted gone finished asked awaited asked_sections ask _ h = omega arith

-- a barrier where the machine's barriers change beside it
bar_beside : {P : Type 0} (qs : List QueueState) (noted noted' cleared cleared' : List ℕ) (noted_objects noted_objects' : ℕ → List ObjectId) (p : UpdaterPlace P) →
    ((n : ℕ) → Barring p n → In noted n → In noted' n × (¬ In cleared n → ¬ In cleared' n) × ((o : ObjectId) → In (noted_objects' n) o → In (noted_objects n) o)) →
    BarKept qs noted cleared noted_objects p → BarKept qs noted' cleared' noted_objects' p
bar_beside qs noted noted' cleared cleared' noted_objects noted_objects' (Bars b) f h =
    let g = f b.number refl h.0 in (g.0, g.1 h.1, h.2, h.3, λ o i. h.4 o (g.2 o i))
bar_beside qs noted noted' cleared cleared' noted_objects noted_objects' _ f h = tt

barring_noted : {P : Type 0} (qs : List QueueState) (noted cleared : List ℕ) (noted_objects : ℕ → List ObjectId) (p : UpdaterPlace P) (n : ℕ) → BarKept qs noted cleared noted_objects p → Barring p n → In noted n
barring_noted qs noted cleared noted_objects (Bars c) n h b = subst (In noted) b h.0
barring_noted qs noted cleared noted_objects _ n h b = absurd b

module _ {P : Type 0} {plans : Plans P} {layout : Layout} {slots : ℕ} {laws : Laws plans layout slots} {w : BoardView P} {now : State} (kept : Kept plans layout slots laws w now) (k : Callbacks w now)
    (u : ℕ) (x : UpdaterState P) (t : There kept u x) where
  abbrev qs : List QueueState
  qs = w.queues

  abbrev j : ℕ
  j = queue_of w u

  abbrev q : QueueState
  q = queue_at qs j

  abbrev count : ℕ
  count = length w.updaters

  abbrev Owed : Result (Change P) Refusal → Type 0
  Owed r = OwesAll kept k r

  inside : j < length qs
  inside = let some = k.sizes.some in mod_below u (length qs) (omega (arith, some))

  other_holder : q.holder ≡ Some u → (v : ℕ) → v ≢ u → q.holder ≢ Some v
  other_holder mine v apart e = apart (some_is v u (sym e ∙ mine))

  module _ (f : QueueState → QueueState) where
    abbrev after : List QueueState
    after = changed_at f qs j (slice_get qs j)

    -- a step that changes the queue of the updater, and stores a header or none
    queue_step : {logged : ℕ} (x' : UpdaterState P) (mark : Option Mark) (retired queued : List ObjectId) (awaited : ObjectId → List SectionId) → length w.log ≤ logged → ItemsKept (marked_life w.objects mark) after retired queued now.reclaimed →
        ((i : ℕ) → QueueKept (queue_at after i) logged awaited) →
        RetireKept (marked_life w.objects mark) after count u x'.place → ((v : ℕ) → v ≢ u → RetireKept (marked_life w.objects mark) after count v (updater_at w.updaters v).place) →
        ((i : ℕ) → WorkAt (queue_at after i) now.asked awaited now.asked_sections (worker_at w.workers i)) → BarsNone x'.place → ((i s : ℕ) (o : ObjectId) → InQueue (queue_at qs i) s o → InQueue (queue_at after i) s o) →
        CallbacksKept (marked_life w.objects mark) after (slice_set w.updaters u x') w.workers w.barriers logged (record now { retired = retired; queued = queued; awaited = awaited })
    queue_step x' mark retired queued awaited more items queues mine others works none stay = assumption (
      sizes_over (changed_length f qs j) refl k.sizes,
      updaters_set (marked_life w.objects mark) after w.updaters now.noted now.cleared now.noted_objects u x' t.inside mine others (bars_kept after now.noted now.cleared now.noted_objects x'.place none)
          (λ v apart. bar_over qs after now.noted now.cleared now.noted_objects now.noted_objects (updater_at w.updaters v).place (changed_length f qs j) (λ b o h. (h, λ i s. stay i s o)) (k.barring v))
          (λ n v apart b. absurd (bars_none x'.place n none b)) k.one_barrier,
      numbers_over more k.numbers,
    )

    -- one that leaves items and objects where they are
    lock_step : (x' : UpdaterState P) → (f q).items.gone ≡ q.items.gone → items_of (f q).items ≡ items_of q.items → QueueKept (f q) (length w.log) now.awaited → ((v : ℕ) → v ≢ u → q.holder ≢ Some v) →
        RetireKept w.objects after count u x'.place → BarsNone x'.place → ((n : ℕ) (y : WorkerState P) → WorkAt q now.asked now.awaited now.asked_sections y → WorkAt (f q) now.asked now.awaited now.asked_sections y) →
        CallbacksKept w.objects after (slice_set w.updaters u x') w.workers w.barriers (length w.log) now
    lock_step x' gone items mine others place none works =
        queue_step x' None now.retired now.queued now.awaited (omega arith) (items_stay qs j f inside gone items k.items)
        (at_queues (λ i r. QueueKept r (length w.log) now.awaited) f qs j inside mine (λ i apart. k.queues i))
        place (λ v apart. retire_apart qs j f inside w.objects count v (updater_at w.updaters v).place (others v apart) (k.retiring v))
        (at_queues (λ i r. WorkAt r now.asked now.awaited now.asked_sections (worker_at w.workers i)) f qs j inside (works j (worker_at w.workers j) (k.working j)) (λ i apart. k.working i)) none (stays qs j f inside gone items)

  -- the first step: the lock is taken
  cut_tells : (s : Stage) → is_cut s ≡ true → s ≡ Stage.Cut
  cut_tells Stage.Cut e = refl
  cut_tells _ e = absurd (true≢false (sym e))

  kept_tells : (l : Life) → is_kept l ≡ true → l ≡ Life.Kept
  kept_tells Life.Kept e = refl
  kept_tells _ e = absurd (true≢false (sym e))

  may_go : (o : ObjectId) (y : Option ObjectState) → slice_get w.objects o.0 ≡ y → may_retire w u y ≡ true → (stage_of w.objects o ≡ Stage.Cut) × (life_of w.objects o ≡ Life.Kept) × (chain_of w.objects o % count ≡ u)
  may_go o None at_o e = absurd (true≢false (sym e))
  may_go o (Some y) at_o e =
      let is = get_or_from_slice_get w.objects o.0 y no_object at_o in
      let a = and_parts (is_cut y.stage) (is_kept y.life && writes w u y.chain) e in
      let b = and_parts (is_kept y.life) (writes w u y.chain) a.1 in
      (ap (λ (z : ObjectState). z.stage) is ∙ cut_tells y.stage a.0, ap (λ (z : ObjectState). z.life) is ∙ kept_tells y.life b.0, ap (λ (z : ObjectState). z.chain % count) is ∙ eqb-true (y.chain % count) u b.1)

  pub owes_hold : (o : ObjectId) → x.place ≡ Idle → may_retire w u (slice_get w.objects o.0) ≡ true → (r : QueueState) → slice_get qs j ≡ Some r → is_some r.holder ≡ false → Owed (Ok (Hold u (at_place x (Retires o RetireStep.Mark)) j))
  owes_hold o was may r at_r unheld =
      let x' : UpdaterState P = at_place x (Retires o RetireStep.Mark) in
      let g = may_go o (slice_get w.objects o.0) refl may in
      let free : q.holder ≡ None = ap (λ (z : QueueState). z.holder) (get_or_from_slice_get qs j r empty_queue_state at_r) ∙ none_is r.holder unheld in (
        tt,
        kept_updater kept u x x' (held_at qs j u) None w.barriers w.log t (omega arith) (λ os. tt) refl (ap place_work was) refl,
        lock_step (held_by u) x' refl refl
            (record { is_open = (k.queues j).is_open; given_low = (k.queues j).given_low; announced = (k.queues j).announced; at_rest = λ e. absurd (none_some u (sym e)); ready_free = (k.queues j).ready_free })
            (λ v apart e. none_some v (sym free ∙ e))
            (retire_here qs j (held_by u) inside w.objects count u o RetireStep.Mark refl (refl, (g.0, g.1, g.2, refl, (k.queues j).at_rest free))) tt (λ n y h. h),
      )

  none_holds : q.holder ≡ Some u → q.holder ≡ None → ⊥
  none_holds mine free = none_some u (sym free ∙ mine)

  module _ (o : ObjectId) where
    abbrev Mine : RetireStep → Type 0
    Mine d = Retiring w.objects q count u o d

    -- another updater retires another object
    other_object : chain_of w.objects o % count ≡ u → (v : ℕ) → v ≢ u → (p : ObjectId) → (life_of w.objects p ≡ Life.Kept) ⊎ (life_of w.objects p ≡ Life.Retired) → chain_of w.objects p % count ≡ v → p ≢ o
    other_object home v apart p lives is e = apart (sym is ∙ ap (λ (z : ObjectId). chain_of w.objects z % count) e ∙ home)

    -- the header is stored
    owes_mark : x.place ≡ Retires o RetireStep.Mark → Mine RetireStep.Mark → Owed (Ok (retire_on w u x o RetireStep.Mark))
    owes_mark was g =
        let f : QueueState → QueueState = acted QueueAct.Leave in
        let m : Mark = record { object = o; life = Life.Retired } in
        let x' : UpdaterState P = at_place x (Retires o RetireStep.Count) in
        let within_o : o.0 < length w.objects = within w.objects o (λ e. cc (sym g.1.0 ∙ e)) in (
          ((has_object_in now.cut o (kept.links_kept.cuts o g.1.0), (λ h. (lives_as k.items o g.1.1).0 (in_objects now.retired o h))), tt),
          assumption (kept_updater kept u x x' (after f) (Some m) w.barriers (w.log ++ Event.Retire o ∷ []) t (longer w.log (Event.Retire o ∷ [])) (λ os. tt) refl (ap place_work was) refl),
          queue_step f x' (Some m) (o ∷ now.retired) now.queued awaited' (longer w.log (Event.Retire o ∷ []))
              (items_retired w.objects (after f) now.retired now.queued now.reclaimed o within_o g.1.1 (items_stay qs j f inside refl refl k.items))
              (at_queues (λ i r. QueueKept r (length (w.log ++ Event.Retire o ∷ [])) awaited') f qs j inside (queue j) (λ i apart. queue i))
              (retire_here qs j f inside (marked_life w.objects (Some m)) count u o RetireStep.Count refl (g.0, (life_marked w.objects m within_o, ap (λ c. c % count) (chain_marked w.objects (Some m) o) ∙ g.1.2, g.1.3, g.1.4)))
              (λ v apart. retire_marked w.objects m (after f) count v (updater_at w.updaters v).place (other_object g.1.2 v apart) (retire_apart qs j f inside w.objects count v (updater_at w.updaters v).place (other_holder g.0 v apart) (k.retiring v)))
              (at_queues (λ i r. WorkAt r now.asked awaited' now.asked_sections (worker_at w.workers i)) f qs j inside (work j) (λ i apart. work i)) tt (stays qs j f inside refl refl),
        )
      where
        awaited' : ObjectId → List SectionId
        awaited' = at_object o now.sections now.awaited

        -- who stands in a queue is another object
        other : (i s : ℕ) (p : ObjectId) → InQueue (queue_at qs i) s p → p ≢ o
        other i s p h e = cc (sym g.1.1 ∙ ap (life_of w.objects) (sym e) ∙ k.items.there i s p h)

        same_awaited : (p : ObjectId) → p ≢ o → awaited' p ≡ now.awaited p
        same_awaited p n = at_object_other o p now.sections now.awaited n

        queue : (i : ℕ) → QueueKept (queue_at qs i) (length (w.log ++ Event.Retire o ∷ [])) awaited'
        queue i = assumption (
          k.queues i,
          log_longer w.log (Event.Retire o ∷ []) (given_of (queue_at qs i).items) (k.queues i).given_low,
          λ (p : ObjectId) (h : Has (queue_at qs i).items.ready p). let s = batch_there (queue_at qs i) p (has_left (queue_at qs i).items.ready (queue_at qs i).items.waiting p h) in same_awaited p (other i s.0 p s.1) ∙ (k.queues i).ready_free p h,
        )

        work : (i : ℕ) → WorkAt (queue_at qs i) now.asked awaited' now.asked_sections (worker_at w.workers i)
        work i = work_at now.asked now.asked now.awaited awaited' now.asked_sections now.asked_sections (λ a h. h) (queue_at qs i) (worker_at w.workers i)
            (λ p a h asked c s g'. let at = batch_there (queue_at qs i) p (has_right (queue_at qs i).items.ready (queue_at qs i).items.waiting p h) in c s (subst (λ (l : List SectionId). In l s) (same_awaited p (other i at.0 p at.1)) g')) (k.working i)

    -- the count is stored, and the lock is freed
    owes_count : x.place ≡ Retires o RetireStep.Count → Mine RetireStep.Count → Owed (Ok (retire_on w u x o RetireStep.Count))
    owes_count was g = let x' : UpdaterState P = at_place x (Retires o RetireStep.Push) in (
      tt,
      kept_updater kept u x x' (acted_at qs j QueueAct.Count) None w.barriers (w.log ++ []) t (longer w.log []) (λ os. tt) refl (ap place_work was) refl,
      logged_more (length (w.log ++ [])) (longer w.log [])
          (lock_step (acted QueueAct.Count) x' refl refl
          (record { is_open = (k.queues j).is_open; given_low = (k.queues j).given_low; announced = let low = (k.queues j).announced in omega (arith, low); at_rest = λ e. absurd (none_holds g.0 e); ready_free = (k.queues j).ready_free })
          (other_holder g.0) (retire_here qs j (acted QueueAct.Count) inside w.objects count u o RetireStep.Push refl (g.0, (g.1.0, g.1.1, g.1.2, ap (λ n. n + 1) g.1.3))) tt (λ n y h. h)),
    )

    owes_unlock : x.place ≡ Retires o RetireStep.Free → Mine RetireStep.Free → Owed (Ok (retire_on w u x o RetireStep.Free))
    owes_unlock was g = let x' : UpdaterState P = at_place x Idle in (
      tt,
      kept_updater kept u x x' (acted_at qs j QueueAct.Free) None w.barriers (w.log ++ []) t (longer w.log []) (λ os. tt) refl (ap place_work was) refl,
      logged_more (length (w.log ++ [])) (longer w.log [])
          (lock_step (acted QueueAct.Free) x' refl refl
          (record { is_open = (k.queues j).is_open; given_low = (k.queues j).given_low; announced = (k.queues j).announced; at_rest = λ e. g.1; ready_free = (k.queues j).ready_free })
          (other_holder g.0) tt tt (λ n y h. h)),
    )

    -- the item is pushed
    owes_push : x.place ≡ Retires o RetireStep.Push → Mine RetireStep.Push → Owed (Ok (retire_on w u x o RetireStep.Push))
    owes_push was g =
        let m : Mark = record { object = o; life = Life.Queued } in
        let x' : UpdaterState P = at_place x (Retires o RetireStep.Free) in
        let mine = lives_as k.items o g.1.0 in (
          ((has_object_in now.retired o mine.0, (λ h. mine.1 (in_objects now.queued o h))), tt),
          assumption (kept_updater kept u x x' (after f) (Some m) w.barriers (w.log ++ Event.Queue o j ∷ []) t (longer w.log (Event.Queue o j ∷ [])) (λ os. tt) refl (ap place_work was) refl),
          queue_step f x' (Some m) now.retired (o ∷ now.queued) now.awaited (longer w.log (Event.Queue o j ∷ []))
              (items_queued w.objects qs j now.retired now.queued now.reclaimed o inside (life_within w.objects o (λ e. cc (sym g.1.0 ∙ e))) g.1.0 k.items)
              (at_queues (λ i r. QueueKept r (length (w.log ++ Event.Queue o j ∷ [])) now.awaited) f qs j inside pushed_kept
              (λ i apart. queue_more (longer w.log (Event.Queue o j ∷ [])) (k.queues i)))
              (retire_here qs j f inside (marked_life w.objects (Some m)) count u o RetireStep.Free refl (g.0, g.1.3 ∙ sym given))
              (λ v apart. retire_marked w.objects m (after f) count v (updater_at w.updaters v).place (other_object g.1.1 v apart) (retire_apart qs j f inside w.objects count v (updater_at w.updaters v).place (other_holder g.0 v apart) (k.retiring v)))
              (at_queues (λ i r. WorkAt r now.asked now.awaited now.asked_sections (worker_at w.workers i)) f qs j inside (k.working j) (λ i apart. k.working i)) tt (pushed_stays qs j o inside),
        )
      where
        f : QueueState → QueueState
        f = acted (QueueAct.Push o)

        given : given_of (f q).items ≡ given_of q.items + 1
        given = let l = length-append (items_of q.items) (item_of o ∷ []) in ap (λ (is : Items). q.items.gone + length is) (items_pushed q.items (item_of o)) ∙ (omega (arith, l))

        pushed_kept : QueueKept (f q) (length (w.log ++ Event.Queue o j ∷ [])) now.awaited
        pushed_kept = record {
          is_open = (k.queues j).is_open;
          given_low = subst (λ n. n ≤ length (w.log ++ Event.Queue o j ∷ [])) (sym given) (log_one w.log (Event.Queue o j) [] (given_of q.items) (k.queues j).given_low);
          announced = subst (λ n. n ≤ q.queued) (sym given) (let is = g.1.3 in omega (arith, is));
          at_rest = λ e. absurd (none_holds g.0 e);
          ready_free = (k.queues j).ready_free;
        }

    pub owes_on : (d : RetireStep) → x.place ≡ Retires o d → Owed (Ok (retire_on w u x o d))
    owes_on d was = by d was (subst (RetireKept w.objects qs count u) (ap (λ (y : UpdaterState P). y.place) t.is ∙ was) (k.retiring u))
      where
        by : (d : RetireStep) → x.place ≡ Retires o d → Mine d → Owed (Ok (retire_on w u x o d))
        by RetireStep.Mark was g = owes_mark was g
        by RetireStep.Count was g = owes_count was g
        by RetireStep.Push was g = owes_push was g
        by RetireStep.Free was g = owes_unlock was g

  -- ---- the steps of `barrier`

  abbrev queues : ℕ
  queues = length qs

  abbrev place_of : ℕ → UpdaterPlace P
  place_of v = (updater_at w.updaters v).place

  -- only the updater and the machine's barriers change
  bar_step : (x' : UpdaterState P) (barriers' logged' : ℕ) (noted' cleared' : List ℕ) (noted_objects' : ℕ → List ObjectId) → length w.log ≤ logged' → RetiresNone x'.place →
      BarKept qs noted' cleared' noted_objects' x'.place → ((v : ℕ) → v ≢ u → BarKept qs noted' cleared' noted_objects' (place_of v)) → ((n v : ℕ) → v ≢ u → Barring x'.place n → Barring (place_of v) n → ⊥) →
      ((b : ℕ) → In noted' b → b ≤ barriers') → ((b : ℕ) → In cleared' b → In noted' b) → barriers' ≤ logged' →
      CallbacksKept w.objects qs (slice_set w.updaters u x') w.workers barriers' logged' (record now { noted = noted'; cleared = cleared'; noted_objects = noted_objects' })
  bar_step x' barriers' logged' noted' cleared' noted_objects' more none mine others alone low known bound = assumption (
    λ (j : ℕ). queue_more more (k.queues j),
    updaters_set w.objects qs w.updaters noted' cleared' noted_objects' u x' t.inside (retires_none w.objects qs (length w.updaters) u x'.place none) (λ v apart. k.retiring v) mine others alone k.one_barrier,
  )

  -- a count is noted, and the barrier faces the same objects
  note_faces : (counts : List ℕ) (i : ℕ) (o : ObjectId) → queues ≤ length counts → i < queues → Faces qs counts (Note i) o → Faces qs (noted_at w counts i) (after_note w i) o
  note_faces counts i o room at (j, s, low, here, facing) = cond_both (ltb (i + 1) queues) (Note (i + 1)) (Check 0) (λ d. Faces qs (noted_at w counts i) d o)
      (λ more. (j, s, low, here, noted))
      (λ e. let last = ltb-false (i + 1) queues e in (j, s, low, here, (omega arith, noted (omega (arith, low, last)))))
    where
      noted : j < i + 1 → s ≤ get_or (noted_at w counts i) j 0
      noted up = at_count (decide_number j i)
        where
          at_count : (j ≡ i) ⊎ (j ≢ i) → s ≤ get_or (noted_at w counts i) j 0
          at_count (inl e) =
              let inside : i < length counts = omega (arith, at, room) in
              let is : get_or (noted_at w counts i) j 0 ≡ (queue_at qs j).queued = ap (λ n. get_or (noted_at w counts i) n 0) e ∙ get_or-set_same counts i (queued_in (slice_get qs i)) 0 inside ∙ entry_is queued_in qs i empty_queue_state refl ∙ ap (λ n. (queue_at qs n).queued) (sym e) in
              let given = stands_within (queue_at qs j).items.gone (items_of (queue_at qs j).items) s o here in
              let announced = (k.queues j).announced in
              subst (λ n. s ≤ n) (sym is) (omega (arith, given, announced))
          at_count (inr n) = subst (λ m. s ≤ m) (sym (get_or-set_other counts i j (queued_in (slice_get qs i)) 0 n)) (facing (omega (arith, up, n)))

  note_at : (i : ℕ) → IsAt (after_note w i) queues
  note_at i = cond_both (ltb (i + 1) queues) (Note (i + 1)) (Check 0) (λ d. IsAt d queues) (λ e. ltb-true (i + 1) queues e) (λ e. let some = k.sizes.some in omega (arith, some))

  -- who is queued and was not run stands in a queue
  facing_all : (o : ObjectId) → In (not_run now) o → Faces qs (replicate 8 0) (Note 0) o
  facing_all o h = from (k.items.found o (queued (life_of w.objects o) refl))
    where
      has : In now.queued o × (not (has_object now.reclaimed o) ≡ true)
      has = filter_has (λ (p : ObjectId). not (has_object now.reclaimed p)) now.queued o h

      queued : (l : Life) → life_of w.objects o ≡ l → life_of w.objects o ≡ Life.Queued
      queued Life.Queued e = e
      queued Life.Reclaimed e = absurd (true≢false (sym has.1 ∙ ap not (has_object_in now.reclaimed o (lives_as k.items o e).2)))
      queued _ e = absurd ((lives_as k.items o e).1 has.0)

      from : (j : ℕ) × (s : ℕ) × (j < queues) × InQueue (queue_at qs j) s o → Faces qs (replicate 8 0) (Note 0) o
      from (j, s, low, here) = (j, s, low, here, λ below. absurd (omega (arith, below)))

  -- the first step
  pub owes_barrier : x.place ≡ Idle → Owed (Ok (barrier_row w u x))
  owes_barrier was =
      let x' : UpdaterState P = at_place x (Bars (record { number = b; counts = noted_at w (replicate 8 0) 0; due = after_note w 0 })) in
      let noted_objects' : ℕ → List ObjectId = at_number b (not_run now) now.noted_objects in
      let at_zero : 0 < queues = let some = k.sizes.some in omega (arith, some) in
      let room : queues ≤ length (replicate 8 (let z : ℕ = 0 in z)) = k.sizes.few in
      let room' : queues ≤ length (noted_at w (replicate 8 0) 0) = subst (λ n. queues ≤ n) (sym (length-set (replicate 8 0) 0 (queued_in (slice_get qs 0)))) room in (
        ((λ h. fresh (in_numbers now.noted b h)), tt),
        assumption (kept_updater kept u x x' qs None b (w.log ++ Event.Bar b ∷ []) t (longer w.log (Event.Bar b ∷ [])) (λ os. tt) refl (ap place_work was) refl),
        bar_step x' b (length (w.log ++ Event.Bar b ∷ [])) (b ∷ now.noted) now.cleared noted_objects' (longer w.log (Event.Bar b ∷ [])) tt
            (inl refl, (λ h. fresh (k.numbers.cleared_noted b h)), room', note_at 0, λ o h. note_faces (replicate 8 0) 0 o room at_zero (facing_all o (subst (λ (l : List ObjectId). In l o) (at_number_same b (not_run now) now.noted_objects) h)))
            (λ v apart. bar_beside qs now.noted (b ∷ now.noted) now.cleared now.cleared now.noted_objects noted_objects' (place_of v)
            (λ n g h. (inr h, (λ c. c), λ o i. subst (λ (l : List ObjectId). In l o) (at_number_other b n (not_run now) now.noted_objects (λ e. fresh (subst (In now.noted) e h))) i)) (k.barring v))
            (λ n v apart mine theirs. fresh (subst (In now.noted) (sym mine) (barring_noted qs now.noted now.cleared now.noted_objects (place_of v) n (k.barring v) theirs)))
            (λ n h. ⊎_elim (λ (e : b ≡ n). omega (arith, e)) (λ (g : In now.noted n). let low = k.numbers.noted_low n g in omega (arith, low)) h)
            (λ n h. inr (k.numbers.cleared_noted n h))
            (log_one w.log (Event.Bar b) [] w.barriers k.numbers.barriers_low),
      )
    where
      b : ℕ
      b = w.barriers + 1

      fresh : ¬ In now.noted b
      fresh h = let low = k.numbers.noted_low b h in omega (arith, low)

  module _ (b : Barrier) (was : x.place ≡ Bars b) where
    mine : BarKept {P = P} qs now.noted now.cleared now.noted_objects (Bars b)
    mine = subst (BarKept qs now.noted now.cleared now.noted_objects) (ap (λ (y : UpdaterState P). y.place) t.is ∙ was) (k.barring u)

    -- another barrier has another number
    alone : (n v : ℕ) → v ≢ u → b.number ≡ n → Barring (place_of v) n → ⊥
    alone n v apart e theirs = apart (k.one_barrier v u n theirs (subst (λ (p : UpdaterPlace P). Barring p n) (sym (ap (λ (y : UpdaterState P). y.place) t.is ∙ was)) e))

    -- the barrier goes on
    goes_on : (b' : Barrier) → b'.number ≡ b.number → queues ≤ length b'.counts → IsAt b'.due queues → ((o : ObjectId) → In (now.noted_objects b.number) o → Faces qs b'.counts b'.due o) →
        Owed (Ok (Bar u (at_place x (Bars b')) w.barriers Quiet))
    goes_on b' same room at faces = (
      tt,
      kept_updater kept u x (at_place x (Bars b')) qs None w.barriers (w.log ++ []) t (longer w.log []) (λ os. tt) refl (ap place_work was) refl,
      bar_step (at_place x (Bars b')) w.barriers (length (w.log ++ [])) now.noted now.cleared now.noted_objects (longer w.log []) tt
          (subst (In now.noted) (sym same) mine.0, (λ h. mine.1 (subst (In now.cleared) same h)), room, at, λ o h. faces o (subst (λ n. In (now.noted_objects n) o) same h))
          (λ v apart. k.barring v)
          (λ n v apart e theirs. alone n v apart (sym same ∙ e) theirs) k.numbers.noted_low k.numbers.cleared_noted (let low = k.numbers.barriers_low in let more = longer w.log [] in omega (arith, low, more)),
    )

    -- a count is noted
    pub owes_note : (i : ℕ) → b.due ≡ Note i → Owed (Ok (Bar u (at_place x (Bars (record b { counts = noted_at w b.counts i; due = after_note w i }))) w.barriers Quiet))
    owes_note i is = goes_on (record b { counts = noted_at w b.counts i; due = after_note w i }) refl
        (subst (λ n. queues ≤ n) (sym (length-set b.counts i (queued_in (slice_get qs i)))) mine.2) (note_at i)
        (λ o h. note_faces b.counts i o mine.2 (subst (λ (d : BarrierStep). IsAt d queues) is mine.3) (subst (λ (d : BarrierStep). Faces qs b.counts d o) is (mine.4 o h)))

    -- a queue has finished what was noted
    passed : (i : ℕ) → get_or b.counts i 0 ≤ finished_in (slice_get qs i) → (o : ObjectId) → Faces qs b.counts (Check i) o → Faces qs b.counts (Check (i + 1)) o
    passed i done o (j, s, low, here, facing) = (j, s, low, here, (omega (arith, facing.0, not_here), facing.1))
      where
        not_here : j ≢ i
        not_here e =
            let finished : get_or b.counts j 0 ≤ (queue_at qs j).finished = subst (λ n. get_or b.counts n 0 ≤ (queue_at qs n).finished) (sym e) (subst (λ n. get_or b.counts i 0 ≤ n) (entry_is finished_in qs i empty_queue_state refl) done) in
            let q = queue_at qs j in
            let gone = finished_low q.items.ready q.items.waiting q.items.cookie q.items.gone q.finished now.asked now.awaited now.asked_sections (worker_at w.workers j).ask (worker_at w.workers j).core (k.working j) in
            let above = stands_above q.items.gone (items_of q.items) s o here in
            omega (arith, finished, gone, above, facing.1)

    module _ (i : ℕ) (is : b.due ≡ Check i) (reached : nat_le (get_or b.counts i 0) (finished_in (slice_get qs i)) ≡ true) where
      done : get_or b.counts i 0 ≤ finished_in (slice_get qs i)
      done = leb-true (get_or b.counts i 0) (finished_in (slice_get qs i)) reached

      facing : (o : ObjectId) → In (now.noted_objects b.number) o → Faces qs b.counts (Check i) o
      facing o h = subst (λ (d : BarrierStep). Faces qs b.counts d o) is (mine.4 o h)

      pub owes_check : nat_lt (i + 1) queues ≡ true → Owed (Ok (Bar u (at_place x (Bars (record b { due = Check (i + 1) }))) w.barriers Quiet))
      owes_check more = goes_on (record b { due = Check (i + 1) }) refl mine.2 (ltb-true (i + 1) queues more) (λ o h. passed i done o (facing o h))

      pub owes_clear : nat_lt (i + 1) queues ≡ false → Owed (Ok (Bar u (at_place x Idle) w.barriers (one (Event.Clear b.number))))
      owes_clear last = (
        ((has_number_in now.noted b.number mine.0, (λ h. mine.1 (in_numbers now.cleared b.number h)), empty_from (now.noted_objects b.number) none), tt),
        assumption (kept_updater kept u x (at_place x Idle) qs None w.barriers (w.log ++ Event.Clear b.number ∷ []) t (longer w.log (Event.Clear b.number ∷ [])) (λ os. tt) refl (ap place_work was) refl),
        bar_step (at_place x Idle) w.barriers (length (w.log ++ Event.Clear b.number ∷ [])) now.noted (b.number ∷ now.cleared) now.noted_objects (longer w.log (Event.Clear b.number ∷ [])) tt tt
            (λ v apart. bar_beside qs now.noted now.noted now.cleared (b.number ∷ now.cleared) now.noted_objects now.noted_objects (place_of v)
            (λ n g h. (h, (λ c d. ⊎_elim (λ (e : b.number ≡ n). alone n v apart e g) (λ (i : In now.cleared n). c i) d), λ o i. i)) (k.barring v))
            (λ n v apart e theirs. e) k.numbers.noted_low (λ n h. ⊎_elim (λ (e : b.number ≡ n). subst (In now.noted) e mine.0) (λ (g : In now.cleared n). k.numbers.cleared_noted n g) h)
            (let low = k.numbers.barriers_low in let more = longer w.log (Event.Clear b.number ∷ []) in omega (arith, low, more)),
      )
        where
          past : (o : ObjectId) → Faces qs b.counts (Check (i + 1)) o → ⊥
          past o (j, s, low, here, facing') = let up = facing'.0 in let end = ltb-false (i + 1) queues last in omega (arith, low, up, end)

          none : (o : ObjectId) → ¬ In (now.noted_objects b.number) o
          none o h = past o (passed i done o (facing o h))
