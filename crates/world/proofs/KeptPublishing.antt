-- What the steps of updaters that publish, replace and cut keep, and that what they tell may come.
use Rattle.world.proofs.Cited.{cond_some, ◌≡◌, ◌≢◌, ◌⊎◌, at_number, ⊎_elim, ℕ, true≢false, inl, inr, ◌<◌, ◌%◌, ◌&&◌, true, false, List, [], ◌∷◌, ◌++◌, length, slice_get, slice_set, Option, Some, None, Ok, refl, sym, ap, ◌∙◌, subst, arith, length-set, eqb-true, and_parts, none-some, slice_get_within, get_or_from_slice_get, Event, Push, Replace, Cut, ObjectId, without_object, next_of, replaced, at_object, State, IsAllowed, after, In, in_objects, has_object_in, at_number_same, at_number_other, at_object_same, at_object_other, follows, some_is, none_some, Spliced, push_splices, cut_splices, replace_splices, Layout, Stage, Fresh, Linked, ObjectState, Splice, Publishing, UpdaterState, UpdaterPlace, Idle, Publishes, Syncs, Begin, Publish, fresh_object, is_linked, spliced_heads, spliced_objects, Plans, BoardView, idle, changed, no_object, object_at, head_of, link_of, before_of, stage_of, chain_of, grown_same, LinksKept, FreshIn, PlaceKept, Fits, Follows, monotone, links_spliced, place_spliced, new_object, new_within, stage_grown, links_grown, place_grown, reader_at, readers_over, ◌+◌, ◌^◌, ◌≤◌, get_or-set_other, get_or-set_same, SectionId, Mark, QueueState, GraceState, WorkerState, marked_life, new_worker, links_marked, place_marked, stage_marked, writes, next_object, linked_by}
use Rattle.world.proofs.Fence.{Work, Rests, Laws, Sets, Part, set_same}
use Rattle.world.proofs.State.{Asker, Syncing, decide_asker, place_work, updater_at, work_of, holder_of, word_at, UpdaterKept, Kept, Owes, work_set, at_updaters, Polling, Working, worker_work, worker_at}
use Rattle.world.proofs.KeptReaders.{log_longer}

module _ {P : Type 0} {plans : Plans P} {layout : Layout} {slots : ℕ} {laws : Laws plans layout slots} {w : BoardView P} {now : State} (k : Kept plans layout slots laws w now) where
  abbrev links : LinksKept w.heads w.objects now.chain now.used now.cut now.successor
  links = k.links_kept

  abbrev count : ℕ
  count = length w.updaters

  abbrev PartBy : (Asker → Work P) → Type 0
  PartBy works = Part plans layout slots laws (holder_of w.grace.holder) works (word_at w.readers) w.grace.asks w.grace.seq w.grace.word now.asked now.answered now.asked_sections now.sections

  -- the state of an updater that is there
  pub record There (u : ℕ) (x : UpdaterState P) : Type 0 where
    pub inside : u < count
    pub is : updater_at w.updaters u ≡ x
    pub mine : UpdaterKept w.heads w.objects count u x.place

  pub there : (u : ℕ) (x : UpdaterState P) → slice_get w.updaters u ≡ Some x → There u x
  there u x is =
      let same = get_or_from_slice_get w.updaters u x idle is in
      record {
        inside = slice_get_within w.updaters u x is;
        is = same;
        mine = subst (λ (y : UpdaterState P). UpdaterKept w.heads w.objects count u y.place) same (k.places_kept u);
      }

  -- an updater that rests goes on resting
  pub rests_still : (u : ℕ) (x x' : UpdaterState P) → There u x → x'.started ≡ x.started → place_work x.place ≡ Rests → place_work x'.place ≡ Rests → PartBy (work_of (slice_set w.updaters u x') w.workers)
  rests_still u x x' t polls was is =
      subst PartBy (set_same decide_asker (work_set w.updaters w.workers u x' t.inside (polls ∙ sym (ap (λ (y : UpdaterState P). y.started) t.is))) (ap (λ (z : UpdaterState P). place_work z.place) t.is ∙ was ∙ sym is)) k.part

  -- a state is set, and the others are as before
  pub places_set : (heads' : List (Option ObjectId)) (os' : List ObjectState) (u : ℕ) (x' : UpdaterState P) → u < count → UpdaterKept heads' os' count u x'.place →
      ((v : ℕ) (p : UpdaterPlace P) → v ≢ u → UpdaterKept w.heads w.objects count v p → UpdaterKept heads' os' count v p) →
      (v : ℕ) → UpdaterKept heads' os' (length (slice_set w.updaters u x')) v (updater_at (slice_set w.updaters u x') v).place
  places_set heads' os' u x' inside mine others v = subst (λ n. UpdaterKept heads' os' n v (updater_at (slice_set w.updaters u x') v).place) (sym (length-set w.updaters u x'))
      (at_updaters (λ v y. UpdaterKept heads' os' count v y.place) w.updaters u x' inside mine (λ v apart. others v (updater_at w.updaters v).place apart (k.places_kept v)) v)

  -- the same over places that publish nothing
  pub over_places : (heads' : List (Option ObjectId)) (os' : List ObjectState) (v : ℕ) → ((p : Publishing) → PlaceKept w.heads w.objects count v p → PlaceKept heads' os' count v p) →
      (p : UpdaterPlace P) → UpdaterKept w.heads w.objects count v p → UpdaterKept heads' os' count v p
  over_places heads' os' v f (Publishes p) h = f p h
  over_places heads' os' v f (Syncs ask core) h = h
  over_places heads' os' v f _ h = tt

  -- an operation begins
  owes_begin : (u : ℕ) (x x' : UpdaterState P) (y : ObjectState) → There u x → x'.started ≡ x.started → place_work x.place ≡ Rests → place_work x'.place ≡ Rests → y.stage ≡ Fresh → UpdaterKept w.heads (w.objects ++ y ∷ []) count u x'.place →
      Owes plans layout slots laws w now (Ok (Begin u x' y))
  owes_begin u x x' y t polls was is new mine = (
    tt,
    assumption (
      links_grown w.objects y new w.heads now.chain now.used now.cut now.successor links,
      places_set w.heads (w.objects ++ y ∷ []) u x' t.inside mine (λ v p _ h. over_places w.heads (w.objects ++ y ∷ []) v (λ q. place_grown w.objects y new w.heads count v q) p h),
      readers_over plans.qsbr layout w.readers w.grace.word w.grace.word w.objects (w.objects ++ y ∷ []) now.sections now.seen now.held (λ _. omega arith) (λ o known e. known (sym (stage_grown w.objects y new o) ∙ e)) k.readers_kept,
      rests_still u x x' t polls was is,
    ),
  )

  pub owes_push : (u : ℕ) (x : UpdaterState P) (c : ℕ) (head : Option ObjectId) → There u x → place_work x.place ≡ Rests → slice_get w.heads c ≡ Some head → writes w u c ≡ true →
      Owes plans layout slots laws w now (Ok (Begin u (record x { place = Publishes (Publishing.Push (next_object w)) }) (fresh_object c head)))
  owes_push u x c head t was at_c mine =
      let y : ObjectState = fresh_object c head in
      let m : ObjectId = next_object w in
      let is : object_at (w.objects ++ y ∷ []) m ≡ y = new_object w.objects y refl m refl in
      owes_begin u x (record x { place = Publishes (Publishing.Push m) }) y t refl was refl refl (
        (ap (λ (o : ObjectState). o.stage) is, new_within w.objects y refl m refl),
        subst (λ (o : ObjectState). o.chain % count ≡ u) (sym is) (eqb-true (c % count) u mine),
        subst (λ (o : ObjectState). o.chain < length w.heads) (sym is) (slice_get_within w.heads c head at_c),
        subst (λ (o : ObjectState). o.link ≡ head_of w.heads o.chain) (sym is) (sym (get_or_from_slice_get w.heads c head None at_c)),
      )

  -- an object that may go
  record MayGo (u : ℕ) (o : ObjectId) (y : ObjectState) : Type 0 where
    inside : o.0 < length w.objects
    is : object_at w.objects o ≡ y
    linked : stage_of w.objects o ≡ Linked
    home : chain_of w.objects o % count ≡ u

  linked_tells : (s : Stage) → is_linked s ≡ true → s ≡ Linked
  linked_tells Fresh e = absurd (true≢false (sym e))
  linked_tells Linked e = refl
  linked_tells Stage.Cut e = absurd (true≢false (sym e))

  may_go : (u : ℕ) (o : ObjectId) (z : Option ObjectState) → slice_get w.objects o.0 ≡ z → (y : ObjectState) → linked_by w u z ≡ Some y → MayGo u o y
  may_go u o None at_o y e = absurd (none-some y e)
  may_go u o (Some z) at_o y e =
      let at_z = get_or_from_slice_get w.objects o.0 z no_object at_o in
      let may = cond_some (is_linked z.stage && writes w u z.chain) z y e in
      let b = and_parts (is_linked z.stage) (writes w u z.chain) may.0 in
      record {
        inside = slice_get_within w.objects o.0 z at_o;
        is = at_z ∙ may.1;
        linked = ap (λ (q : ObjectState). q.stage) at_z ∙ linked_tells z.stage b.0;
        home = ap (λ (q : ObjectState). q.chain % count) at_z ∙ eqb-true (z.chain % count) u b.1;
      }

  pub owes_replace : (u : ℕ) (x : UpdaterState P) (o : ObjectId) (z : ObjectState) → There u x → place_work x.place ≡ Rests → linked_by w u (slice_get w.objects o.0) ≡ Some z →
      Owes plans layout slots laws w now (Ok (Begin u (record x { place = Publishes (Publishing.Replace o (next_object w)) }) (fresh_object z.chain z.link)))
  owes_replace u x o z t was e =
      let g : MayGo u o z = may_go u o (slice_get w.objects o.0) refl z e in
      let y : ObjectState = fresh_object z.chain z.link in
      let m : ObjectId = next_object w in
      let is : object_at (w.objects ++ y ∷ []) m ≡ y = new_object w.objects y refl m refl in
      let at_o : object_at (w.objects ++ y ∷ []) o ≡ object_at w.objects o = grown_same w.objects y o g.inside in
      owes_begin u x (record x { place = Publishes (Publishing.Replace o m) }) y t refl was refl refl (
        (ap (λ (q : ObjectState). q.stage) is, new_within w.objects y refl m refl),
        ap (λ (q : ObjectState). q.chain % count) is ∙ ap (λ (q : ObjectState). q.chain % count) (sym g.is) ∙ g.home,
        ap (λ (q : ObjectState). q.stage) at_o ∙ g.linked,
        ap (λ (q : ObjectState). q.chain) (at_o ∙ g.is) ∙ sym (ap (λ (q : ObjectState). q.chain) is),
        ap (λ (q : ObjectState). q.link) is ∙ sym (ap (λ (q : ObjectState). q.link) (at_o ∙ g.is)),
      )

  -- a store into a chain
  owes_publish : (u : ℕ) (x x' : UpdaterState P) (s : Splice) (e : Event) (ys : List ObjectId) → There u x → x'.started ≡ x.started → place_work x.place ≡ Rests → x'.place ≡ Idle → s.chain % count ≡ u → Fits w.heads w.objects now.chain s ys →
      IsAllowed now e → (chain' : ℕ → List ObjectId) (used' cut' : List ObjectId) (successor' : ObjectId → Option ObjectId) → Follows now.chain chain' now.used used' now.cut cut' now.successor successor' s ys →
      after now e ≡ record now { chain = chain'; used = used'; cut = cut'; successor = successor' } → Owes plans layout slots laws w now (Ok (Publish u x' s e))
  owes_publish u x x' s e ys t polls was is home fits allowed chain' used' cut' successor' follows same = (
    (allowed, tt),
    subst (Kept plans layout slots laws (changed w (Publish u x' s e))) (sym same)
        (assumption (
          links_spliced w.heads w.objects now.chain now.used now.cut now.successor s ys links fits chain' used' cut' successor' follows,
          places_set (spliced_heads w.heads s) (spliced_objects w.objects s) u x' t.inside
              (subst (UpdaterKept (spliced_heads w.heads s) (spliced_objects w.objects s) count u) (sym is) tt)
              (λ v p apart h. over_places (spliced_heads w.heads s) (spliced_objects w.objects s) v (λ q. place_spliced w.heads w.objects now.chain now.used now.cut now.successor s ys links fits count u v q home apart) p h),
          readers_over plans.qsbr layout w.readers w.grace.word w.grace.word w.objects (spliced_objects w.objects s) now.sections now.seen now.held (λ _. omega arith)
              (monotone w.heads w.objects now.chain now.used now.cut now.successor s ys links fits) k.readers_kept,
          rests_still u x x' t polls was (ap place_work is),
          λ (r : ℕ). log_longer w.log (e ∷ []) (reader_at w.readers r).ordinal (k.ordinals r),
          log_longer w.log (e ∷ []) w.grace.asks k.asks_low,
        )),
  )

  -- what leaves a chain is linked in it
  module _ (o : ObjectId) (linked : stage_of w.objects o ≡ Linked) where
    abbrev c : ℕ
    c = chain_of w.objects o

    abbrev xs : List ObjectId
    xs = now.chain c

    abbrev s : Option ObjectId → Splice
    s enters = record { chain = c; before = before_of w.objects o; after = link_of w.objects o; leaves = Some o; enters = enters }

    h : In xs o
    h = links.links o linked

    link : link_of w.objects o ≡ next_of xs o
    link = (links.chains c).words (Some o) h

    -- whether another enters in its place or none
    leaves_kept : (u : ℕ) (x x' : UpdaterState P) (enters : Option ObjectId) (e : Event) (ys used' : List ObjectId) → There u x → x'.started ≡ x.started → place_work x.place ≡ Rests → x'.place ≡ Idle → c % count ≡ u →
        Spliced xs ys (before_of w.objects o) (next_of xs o) (Some o) enters → ((m : ObjectId) → enters ≡ Some m → FreshIn w.objects m × (chain_of w.objects m ≡ c) × (link_of w.objects m ≡ link_of w.objects o)) →
        ((p : ObjectId) → In used' p → (enters ≡ Some p) ⊎ In now.used p) → IsAllowed now e → after now e ≡ record now { chain = at_number c ys now.chain; used = used'; cut = o ∷ now.cut; successor = at_object o (next_of xs o) now.successor } →
        Owes plans layout slots laws w now (Ok (Publish u x' (s enters) e))
    leaves_kept u x x' enters e ys used' t polls was is home spliced fresh used allowed same = owes_publish u x x' (s enters) e ys t polls was is home
        (record { spliced = subst (λ (n : Option ObjectId). Spliced xs ys (before_of w.objects o) n (Some o) enters) (sym link) spliced; in_chains = (links.linked c o h).2; fresh = fresh })
        allowed _ _ _ _
        (record {
          chain_is = at_number_same c ys now.chain;
          chain_else = λ d apart. at_number_other c d ys now.chain apart;
          used_is = used;
          cut_is = λ p h. ⊎_elim (λ (e : o ≡ p). inl (ap Some e)) (λ (g : In now.cut p). inr g) h;
          cut_on = λ p h. inr h;
          cut_new = λ p e. let same = some_is o p e in (inl same, subst (λ (q : ObjectId). at_object o (next_of xs o) now.successor q ≡ link_of w.objects o) same (at_object_same o (next_of xs o) now.successor ∙ sym link));
          successor_else = λ p apart. at_object_other o p (next_of xs o) now.successor (λ e. apart (ap Some (sym e)));
        })
        same

  pub owes_cut : (u : ℕ) (x : UpdaterState P) (o : ObjectId) (z : ObjectState) → There u x → x.place ≡ Idle → linked_by w u (slice_get w.objects o.0) ≡ Some z →
      Owes plans layout slots laws w now (Ok (Publish u x (record { chain = z.chain; before = z.before; after = z.link; leaves = Some o; enters = None }) (Cut z.chain o)))
  owes_cut u x o z t was e =
      let g = may_go u o (slice_get w.objects o.0) refl z e in
      let xs = now.chain (chain_of w.objects o) in
      let ck = links.chains (chain_of w.objects o) in
      let h : In xs o = links.links o g.linked in
      subst (λ (y : ObjectState). Owes plans layout slots laws w now (Ok (Publish u x (record { chain = y.chain; before = y.before; after = y.link; leaves = Some o; enters = None }) (Cut y.chain o)))) g.is
      (leaves_kept o g.linked u x x None (Cut (chain_of w.objects o) o) (without_object o xs) now.used t refl (ap place_work was) was g.home
      (cut_splices xs o (before_of w.objects o) ck.once h (ck.befores o h).0 (ck.befores o h).1) (λ m e. absurd (none_some m e)) (λ p h. inr h) (has_object_in xs o h) refl)

  -- the second step of `push`
  pub owes_pushed : (u : ℕ) (x : UpdaterState P) (m : ObjectId) (z : ObjectState) → There u x → place_work x.place ≡ Rests → PlaceKept w.heads w.objects count u (Publishing.Push m) → slice_get w.objects m.0 ≡ Some z →
      Owes plans layout slots laws w now (Ok (Publish u (record x { place = Idle }) (record { chain = z.chain; before = None; after = z.link; leaves = None; enters = Some m }) (Push z.chain m)))
  owes_pushed u x m z t was mine at_m =
      let c = chain_of w.objects m in
      let xs = now.chain c in
      let ck = links.chains c in
      let new : ¬ In xs m = λ h. cc (sym (links.linked c m h).0 ∙ mine.0.0) in
      subst (λ (y : ObjectState). Owes plans layout slots laws w now (Ok (Publish u (record x { place = Idle }) (record { chain = y.chain; before = None; after = y.link; leaves = None; enters = Some m }) (Push y.chain m)))) (get_or_from_slice_get w.objects m.0 z no_object at_m)
      (owes_publish u x (record x { place = Idle }) (record { chain = c; before = None; after = link_of w.objects m; leaves = None; enters = Some m }) (Push c m) (m ∷ xs) t refl was refl mine.1
      (record {
        spliced = subst (λ (n : Option ObjectId). Spliced xs (m ∷ xs) None n None (Some m)) (sym (mine.3 ∙ ck.words None tt)) (push_splices xs m ck.once new);
        in_chains = mine.2;
        fresh = λ o e. subst (λ (q : ObjectId). FreshIn w.objects q × (chain_of w.objects q ≡ c) × (link_of w.objects q ≡ link_of w.objects m)) (some_is m o e) (mine.0, refl, refl);
      })
      (λ h. links.used_known m (in_objects now.used m h) mine.0.0) _ _ _ _
      (record {
        chain_is = at_number_same c (m ∷ xs) now.chain;
        chain_else = λ d apart. at_number_other c d (m ∷ xs) now.chain apart;
        used_is = λ p h. ⊎_elim (λ (e : m ≡ p). inl (ap Some e)) (λ (g : In now.used p). inr g) h;
        cut_is = λ p h. inr h;
        cut_on = λ p h. h;
        cut_new = λ p e. absurd (none_some p e);
        successor_else = λ p apart. refl;
      })
      refl)

  -- the second step of `replace`
  pub owes_replaced : (u : ℕ) (x : UpdaterState P) (o m : ObjectId) (z : ObjectState) → There u x → place_work x.place ≡ Rests → PlaceKept w.heads w.objects count u (Publishing.Replace o m) → slice_get w.objects o.0 ≡ Some z →
      Owes plans layout slots laws w now (Ok (Publish u (record x { place = Idle }) (record { chain = z.chain; before = z.before; after = z.link; leaves = Some o; enters = Some m }) (Replace z.chain o m)))
  owes_replaced u x o m z t was mine at_o =
      let xs = now.chain (chain_of w.objects o) in
      let ck = links.chains (chain_of w.objects o) in
      let h : In xs o = links.links o mine.2 in
      let new : ¬ In xs m = λ g. cc (sym (links.linked (chain_of w.objects o) m g).0 ∙ mine.0.0) in
      subst (λ (y : ObjectState). Owes plans layout slots laws w now (Ok (Publish u (record x { place = Idle }) (record { chain = y.chain; before = y.before; after = y.link; leaves = Some o; enters = Some m }) (Replace y.chain o m)))) (get_or_from_slice_get w.objects o.0 z no_object at_o)
      (leaves_kept o mine.2 u x (record x { place = Idle }) (Some m) (Replace (chain_of w.objects o) o m) (replaced o m xs) (m ∷ now.used) t refl was refl (ap (λ d. d % count) mine.3 ∙ mine.1)
      (replace_splices xs o m (before_of w.objects o) ck.once new h (ck.befores o h).0 (ck.befores o h).1)
      (λ p e. subst (λ (q : ObjectId). FreshIn w.objects q × (chain_of w.objects q ≡ chain_of w.objects o) × (link_of w.objects q ≡ link_of w.objects o)) (some_is m p e) (mine.0, sym mine.3, mine.4))
      (λ p h. ⊎_elim (λ (e : m ≡ p). inl (ap Some e)) (λ (g : In now.used p). inr g) h) (has_object_in xs o h, λ g. links.used_known m (in_objects now.used m g) mine.0.0) refl)

-- ---- what steps with queues, objects' headers and barriers leave of all else

module _ {P : Type 0} {plans : Plans P} {layout : Layout} {slots : ℕ} {laws : Laws plans layout slots} {w : BoardView P} {now : State} (k : Kept plans layout slots laws w now) where
  pub kept_updater : (u : ℕ) (x x' : UpdaterState P) (queues' : List QueueState) (mark : Option Mark) (barriers' : ℕ) (log' : List Event) → There k u x → length w.log ≤ length log' →
      ((os : List ObjectState) → UpdaterKept w.heads os (length w.updaters) u x'.place) → x'.started ≡ x.started → place_work x.place ≡ Rests → place_work x'.place ≡ Rests →
      Kept plans layout slots laws (record w { updaters = slice_set w.updaters u x'; queues = queues'; objects = marked_life w.objects mark; barriers = barriers'; log = log' }) now
  kept_updater u x x' queues' mark barriers' log' t longer place polls was is =
      let low : (r : ℕ) → (reader_at w.readers r).ordinal ≤ length log' = λ r. omega (arith, k.ordinals r, longer) in
      let asks : w.grace.asks ≤ length log' = omega (arith, k.asks_low, longer) in assumption (
        links_marked w.objects mark w.heads now.chain now.used now.cut now.successor k.links_kept,
        places_set k w.heads (marked_life w.objects mark) u x' t.inside (place (marked_life w.objects mark))
            (λ v p _ h. over_places k w.heads (marked_life w.objects mark) v (λ q. place_marked w.objects mark w.heads (length w.updaters) v q) p h),
        readers_over plans.qsbr layout w.readers w.grace.word w.grace.word w.objects (marked_life w.objects mark) now.sections now.seen now.held (λ _. omega arith) (λ o known e. known (sym (stage_marked w.objects mark o) ∙ e)) k.readers_kept,
        rests_still k u x x' t polls was is,
      )

  -- one worker's work is set
  pub worker_set : (n : ℕ) (x : WorkerState P) → n < length w.workers → Sets (work_of w.updaters w.workers) (work_of w.updaters (slice_set w.workers n x)) (Working n) (worker_work x.ask x.core)
  worker_set n x inside = record {
    here = ap (λ (y : WorkerState P). worker_work y.ask y.core) (get_or-set_same w.workers n x new_worker inside);
    others = others;
  }
    where
      others : (y : Asker) → y ≢ Working n → work_of w.updaters (slice_set w.workers n x) y ≡ work_of w.updaters w.workers y
      others (Syncing v) apart = refl
      others (Polling v) apart = refl
      others (Working m) apart = ap (λ (y : WorkerState P). worker_work y.ask y.core) (get_or-set_other w.workers n m x new_worker (λ e. apart (ap Working e)))

  -- a worker's step, with what it makes of grace periods
  pub kept_work : (n : ℕ) (x : WorkerState P) (queues' : List QueueState) (mark : Option Mark) (grace : GraceState) (log' : List Event) (asked answered : List ℕ) (awaited : ℕ → List SectionId) → length w.log ≤ length log' →
      (plans.qsbr ≡ true → w.grace.word ≤ grace.word) → (plans.qsbr ≡ false → grace.word ≤ 1) → grace.seq ≤ 2 ^ 62 + 2 → grace.asks ≤ length log' →
      Part plans layout slots laws (holder_of grace.holder) (work_of w.updaters (slice_set w.workers n x)) (word_at w.readers) grace.asks grace.seq grace.word asked answered awaited now.sections →
      Kept plans layout slots laws (record w { workers = slice_set w.workers n x; queues = queues'; objects = marked_life w.objects mark; grace = grace; log = log' }) (record now { asked = asked; answered = answered; asked_sections = awaited })
  kept_work n x queues' mark grace log' asked answered awaited longer rises phase low asks part =
      let ordinals : (r : ℕ) → (reader_at w.readers r).ordinal ≤ length log' = λ r. omega (arith, k.ordinals r, longer) in assumption (
        links_marked w.objects mark w.heads now.chain now.used now.cut now.successor k.links_kept,
        λ (v : ℕ). over_places k w.heads (marked_life w.objects mark) v (λ q. place_marked w.objects mark w.heads (length w.updaters) v q) (updater_at w.updaters v).place (k.places_kept v),
        readers_over plans.qsbr layout w.readers w.grace.word grace.word w.objects (marked_life w.objects mark) now.sections now.seen now.held rises (λ o known e. known (sym (stage_marked w.objects mark o) ∙ e)) k.readers_kept,
      )

  -- and a step that does nothing with grace periods
  pub kept_worker : (n : ℕ) (x : WorkerState P) (queues' : List QueueState) (mark : Option Mark) (log' : List Event) → n < length w.workers → length w.log ≤ length log' →
      worker_work (worker_at w.workers n).ask (worker_at w.workers n).core ≡ Rests → worker_work x.ask x.core ≡ Rests →
      Kept plans layout slots laws (record w { workers = slice_set w.workers n x; queues = queues'; objects = marked_life w.objects mark; log = log' }) now
  kept_worker n x queues' mark log' inside longer was is =
      kept_work n x queues' mark w.grace log' now.asked now.answered now.asked_sections longer (λ q. omega arith) k.phase_low k.seq_low (let low = k.asks_low in omega (arith, low, longer))
      (subst (PartBy k) (set_same decide_asker (worker_set n x inside) (was ∙ sym is)) k.part)
