-- What the steps of readers keep, and that what they tell may come.
use Rattle.world.proofs.Cited.{get_or, ◌≡◌, ◌≢◌, inl, ⊎_elim, ℕ, ◌+◌, ◌<◌, ◌≤◌, ◌==◌, not, Bool, true, false, List, [], ◌∷◌, ◌++◌, length, slice_get, slice_set, Option, Some, None, Ok, refl, sym, ap, ◌∙◌, subst, arith, true≢false, length-append, length-set, eqb-true, eqb-false, ne_eqb, slice_get_within, get_or_from_slice_get, Event, Open, Close, First, Next, Touch, ObjectId, SectionId, without_section, at_section, first_of, next_of, State, got, IsSuccessor, In, in_sections, has_section_in, in_objects, has_object_in, in_left, in_last, in_more, without_section_has, has_without_section, at_section_same, at_section_other, some_is, none_some, first_has, follows_has, Layout, count_of, phase_in, is_open_of, left_of, announced, entered_of-nests, entered_of-opens, left_of-nests, Shows, Answer, Events, Quiet, ReaderState, ReaderStep, ObjectState, Stage, Fresh, Linked, Read, Plans, BoardView, told, changed, section_of, new_reader, is_open_in, quietly, telling, with_word, opened, closed, with_cursor, found_row, no_object, link_of, stage_of, chain_of, LinksKept, reader_at, ReaderKept, readers_set}
use Rattle.world.proofs.Fence.{Laws, Part, part_words}
use Rattle.world.proofs.Rows.{Copies, Nests, Unnests, Unlocks, Leaves, Enters, GoesOnline, Announces, Firsts, Nexts, Touches, ReaderRows, not_false, by_entry}
use Rattle.world.proofs.State.{at_each, holder_of, work_of, word_at, Kept, Owes}

-- what is read of an entry of a list, there or past its end
pub entry_is : {X Y : Type 0} (f : Option X → Y) (xs : List X) (i : ℕ) (d : X) → f None ≡ f (Some d) → f (slice_get xs i) ≡ f (Some (get_or xs i d))
entry_is f xs i d none = by_entry (λ o x. f o ≡ f (Some x)) xs i d none (λ x is. refl)

-- a log with more behind it is longer
pub longer : (log es : List Event) → length log ≤ length (log ++ es)
longer log es = omega (arith, length-append log es)

pub log_longer : (log : List Event) (es : List Event) (n : ℕ) → n ≤ length log → n ≤ length (log ++ es)
log_longer log es n low = omega (arith, low, length-append log es)

pub log_one : (log : List Event) (e : Event) (es : List Event) (n : ℕ) → n ≤ length log → n + 1 ≤ length (log ++ (e ∷ es))
log_one log e es n low = omega (arith, low, length-append log (e ∷ es))

module _ {P : Type 0} {plans : Plans P} {layout : Layout} {slots : ℕ} {laws : Laws plans layout slots} {w : BoardView P} {now : State} (k : Kept plans layout slots laws w now) where
  abbrev pub number : ℕ
  number = w.grace.word

  abbrev pub is_in : ℕ → Bool
  is_in word = is_open_in plans.qsbr layout word

  abbrev pub shows : ℕ → ℕ → Type 0
  shows mark word = Shows plans.qsbr layout mark word

  abbrev pub Mine : ℕ → ReaderState → Type 0
  Mine r v = ReaderKept plans.qsbr layout r v number w.objects now.sections now.seen now.held

  -- the state of a reader that is there
  pub record There (r : ℕ) (v : ReaderState) : Type 0 where
    pub inside : r < length w.readers
    pub is : reader_at w.readers r ≡ v
    pub mine : Mine r v
    pub ordinal : v.ordinal ≤ length w.log

  pub there : (r : ℕ) (v : ReaderState) → slice_get w.readers r ≡ Some v → There r v
  there r v is =
      let same = get_or_from_slice_get w.readers r v new_reader is in
      record {
        inside = slice_get_within w.readers r v is;
        is = same;
        mine = subst (Mine r) same (k.readers_kept r);
        ordinal = subst (λ (x : ReaderState). x.ordinal ≤ length w.log) same (k.ordinals r);
      }

  -- a reader changes, and sections with it
  record Changes (r : ℕ) (v v' : ReaderState) (seen' sections' : List SectionId) (held' : SectionId → List ObjectId) (asked' : ℕ → List SectionId) : Type 0 where
    mine : ReaderKept plans.qsbr layout r v' number w.objects sections' seen' held'
    sees : (x n : ℕ) → x ≢ r → In seen' (section_of x n) → In now.seen (section_of x n)
    opens : (x n : ℕ) → x ≢ r → In now.sections (section_of x n) → In sections' (section_of x n)
    closes : (x n : ℕ) → x ≢ r → In sections' (section_of x n) → In now.sections (section_of x n)
    holds : (x n : ℕ) (o : ObjectId) → x ≢ r → In (now.held (section_of x n)) o → In (held' (section_of x n)) o
    awaits : (a : ℕ) (s : SectionId) → In (asked' a) s → In (now.asked_sections a) s
    marks : (a : ℕ) (s : SectionId) → In (asked' a) s → In now.sections s → s.reader ≡ r → In sections' s × ((mark : ℕ) → shows mark v.word → shows mark v'.word)

  kept_read : (r : ℕ) (v v' : ReaderState) (answer : Answer) (seen' sections' : List SectionId) (held' : SectionId → List ObjectId) (awaited' : ObjectId → List SectionId) (asked' : ℕ → List SectionId) →
      There r v → Changes r v v' seen' sections' held' asked' → v'.ordinal ≤ length (w.log ++ told answer) →
      Kept plans layout slots laws (changed w (Read r (record { state = v'; answer = answer }))) (record now { seen = seen'; sections = sections'; held = held'; awaited = awaited'; asked_sections = asked' })
  kept_read r v v' answer seen' sections' held' awaited' asked' t c ordinal =
      let part : Part plans layout slots laws (holder_of w.grace.holder) (work_of w.updaters w.workers) (word_at (slice_set w.readers r v')) w.grace.asks w.grace.seq number now.asked now.answered asked' sections' = part_words k.part words c.awaits in assumption (
        part,
        length-set w.readers r v' ∙ k.shape.sized,
        readers_set plans.qsbr layout w.readers number w.objects now.sections sections' now.seen seen' now.held held' r v' t.inside c.mine c.sees c.opens c.closes c.holds k.readers_kept,
        at_each new_reader (λ x y. y.ordinal ≤ length (w.log ++ told answer)) w.readers r v' t.inside ordinal (λ x apart. log_longer w.log (told answer) (reader_at w.readers x).ordinal (k.ordinals x)),
        log_longer w.log (told answer) w.grace.asks k.asks_low,
      )
    where
      words : (a : ℕ) (s : SectionId) → In (asked' a) s → In now.sections s → In (now.asked_sections a) s × In sections' s × ((mark : ℕ) → shows mark (word_at w.readers s.reader) → shows mark (word_at (slice_set w.readers r v') s.reader))
      words a s h o = at_each new_reader (λ n y. s.reader ≡ n → In (now.asked_sections a) s × In sections' s × ((mark : ℕ) → shows mark (word_at w.readers n) → shows mark y.word)) w.readers r v' t.inside
          (λ e. let m = c.marks a s h o e in (c.awaits a s h, m.0, λ mark shown. m.1 mark (subst (shows mark) (ap (λ (x : ReaderState). x.word) t.is) shown)))
          (λ n apart e. (c.awaits a s h, c.opens s.reader s.ordinal (λ f. apart (sym e ∙ f)) o, λ mark shown. shown)) s.reader refl

  abbrev pub OwesRead : ℕ → ReaderStep → Type 0
  OwesRead r step = Owes plans layout slots laws w now (Ok (Read r step))

  -- nothing of the sections changes but what they hold
  same_sections : (r : ℕ) (v v' : ReaderState) (answer : Answer) (held' : SectionId → List ObjectId) → There r v → ReaderKept plans.qsbr layout r v' number w.objects now.sections now.seen held' →
      ((x n : ℕ) (o : ObjectId) → x ≢ r → In (now.held (section_of x n)) o → In (held' (section_of x n)) o) → ((mark : ℕ) (s : SectionId) → In now.sections s → s.reader ≡ r → shows mark v.word → shows mark v'.word) → v'.ordinal ≡ v.ordinal →
      Kept plans layout slots laws (changed w (Read r (record { state = v'; answer = answer }))) (record now { held = held' })
  same_sections r v v' answer held' t mine holds marks same =
      kept_read r v v' answer now.seen now.sections held' now.awaited now.asked_sections t
      (record {
        mine = mine;
        sees = λ x n _ h. h;
        opens = λ x n _ h. h;
        closes = λ x n _ h. h;
        holds = holds;
        awaits = λ a s h. h;
        marks = λ a s h o e. (o, λ mark. marks mark s o e);
      })
      (subst (λ n. n ≤ length (w.log ++ told answer)) (sym same) (log_longer w.log (told answer) v.ordinal t.ordinal))

  -- a phase or number is loaded
  owes_copy : (r : ℕ) (v : ReaderState) → There r v → (plans.qsbr ≡ false → is_in v.word ≡ false) → OwesRead r (quietly (record v { copy = Some number }))
  owes_copy r v t idle = (
    tt,
    same_sections r v (record v { copy = Some number }) Quiet now.held t
        (let copying : (copy : ℕ) → Some number ≡ Some copy → (plans.qsbr ≡ false → is_in v.word ≡ false) × (plans.qsbr ≡ true → copy ≤ number) = λ copy e. let same : number ≡ copy = some_is number copy e in (idle, λ _. omega (arith, same)) in assumption (copying, t.mine))
        (λ x n o _ h. h) (λ mark s _ _ h. h) refl,
  )

  -- the word changes while its section stays open
  owes_word : (r : ℕ) (v : ReaderState) (word : ℕ) → There r v → is_in v.word ≡ true → is_in word ≡ true → ((mark : ℕ) → shows mark v.word → shows mark word) → (plans.qsbr ≡ true → word ≤ number + 1) →
      OwesRead r (quietly (with_word v word))
  owes_word r v word t was is marks low = (
    tt,
    same_sections r v (with_word v word) Quiet now.held t
        (record {
          low = t.mine.low;
          opened = λ _. t.mine.opened was;
          opens = λ n h. ((t.mine.opens n h).0, is);
          holds = λ o e. let h = t.mine.holds o e in (is, h.1, h.2);
          copying = λ copy e. let c = t.mine.copying copy e in ((λ f. absurd (true≢false (sym was ∙ c.0 f))), c.1);
          marked = low;
        })
        (λ x n o _ h. h) (λ mark s _ _ h. marks mark h) refl,
  )

  module _ (r : ℕ) (v : ReaderState) (t : There r v) where
    -- a section that begins is none that was seen, and no other reader's
    abbrev new : SectionId
    new = section_of r (v.ordinal + 1)

    not_seen : ¬ In now.seen new
    not_seen h = let l = t.mine.low (v.ordinal + 1) h in omega (arith, l)

    not_new : (x n : ℕ) → x ≢ r → new ≢ section_of x n
    not_new x n apart e = apart (sym (ap (λ (s : SectionId). s.reader) e))

    sees_new : (x n : ℕ) → x ≢ r → In (new ∷ now.seen) (section_of x n) → In now.seen (section_of x n)
    sees_new x n apart h = ⊎_elim (λ (e : new ≡ section_of x n). absurd (not_new x n apart e)) (λ (o : In now.seen (section_of x n)). o) h

    other_open : (sections : List SectionId) (x n : ℕ) → x ≢ r → In (sections ++ new ∷ []) (section_of x n) → In sections (section_of x n)
    other_open sections x n apart h = ⊎_elim (λ (o : In sections (section_of x n)). o) (λ (e : new ≡ section_of x n). absurd (not_new x n apart e)) (in_more sections new (section_of x n) h)

    opened_kept : (word : ℕ) (sections : List SectionId) (held : SectionId → List ObjectId) → is_in word ≡ true → (plans.qsbr ≡ true → word ≤ number + 1) → ((n : ℕ) → ¬ In sections (section_of r n)) →
        ReaderKept plans.qsbr layout r (opened v word) number w.objects (sections ++ new ∷ []) (new ∷ now.seen) held
    opened_kept word sections held is low none = record {
      low = λ n h. ⊎_elim (λ (e : new ≡ section_of r n). let m : v.ordinal + 1 ≡ n = ap (λ (s : SectionId). s.ordinal) e in omega (arith, m)) (λ (o : In now.seen (section_of r n)). let m = t.mine.low n o in omega (arith, m)) h;
      opened = λ _. in_last sections new;
      opens = λ n h. (⊎_elim (λ (o : In sections (section_of r n)). absurd (none n o)) (λ (e : new ≡ section_of r n). sym (ap (λ (s : SectionId). s.ordinal) e)) (in_more sections new (section_of r n) h), is);
      holds = λ o e. absurd (none_some o e);
      copying = λ copy e. cc;
      marked = low;
    }

    -- a section opens
    owes_open : (word : ℕ) → is_in v.word ≡ false → is_in word ≡ true → (plans.qsbr ≡ true → word ≤ number + 1) → OwesRead r (telling (Open (section_of r (v.ordinal + 1))) (opened v word))
    owes_open word was is low = (
      ((λ h. not_seen (in_sections now.seen new h)), tt),
      kept_read r v (opened v word) (Events (Open new) None) (new ∷ now.seen) (now.sections ++ new ∷ []) now.held now.awaited now.asked_sections t
          (record {
            mine = opened_kept word now.sections now.held is low none_open;
            sees = sees_new;
            opens = λ x n _ h. in_left now.sections (new ∷ []) (section_of x n) h;
            closes = other_open now.sections;
            holds = λ x n o _ h. h;
            awaits = λ a s h. h;
            marks = λ a s h o e. absurd (none_open s.ordinal (subst (λ n. In now.sections (section_of n s.ordinal)) e o));
          })
          (log_one w.log (Open new) [] v.ordinal t.ordinal),
    )
      where
        none_open : (n : ℕ) → ¬ In now.sections (section_of r n)
        none_open n o = true≢false (sym (t.mine.opens n o).1 ∙ was)

    -- what a close leaves
    module _ (was : is_in v.word ≡ true) where
      abbrev gone : SectionId
      gone = section_of r v.ordinal

      elsewhere : (x n : ℕ) → x ≢ r → section_of x n ≢ gone
      elsewhere x n apart e = apart (ap (λ (s : SectionId). s.reader) e)

      abbrev left : List SectionId
      left = without_section gone now.sections

      none_left : (n : ℕ) → ¬ In left (section_of r n)
      none_left n h = let o = without_section_has gone now.sections (section_of r n) h in o.1 (ap (section_of r) (t.mine.opens n o.0).0)

      abbrev asked_left : ℕ → List SectionId
      asked_left a = without_section gone (now.asked_sections a)

      abbrev awaited_left : ObjectId → List SectionId
      awaited_left o = without_section gone (now.awaited o)

      -- no open section of the reader is left, and those of others are as before
      left_changes : (v' : ReaderState) (seen' sections' : List SectionId) → ReaderKept plans.qsbr layout r v' number w.objects sections' seen' (at_section gone [] now.held) →
          ((x n : ℕ) → x ≢ r → In seen' (section_of x n) → In now.seen (section_of x n)) → ((s : SectionId) → In left s → In sections' s) → ((x n : ℕ) → x ≢ r → In sections' (section_of x n) → In left (section_of x n)) →
          Changes r v v' seen' sections' (at_section gone [] now.held) asked_left
      left_changes v' seen' sections' mine sees stays other = record {
        mine = mine;
        sees = sees;
        opens = λ x n apart h. stays (section_of x n) (has_without_section gone now.sections (section_of x n) h (elsewhere x n apart));
        closes = λ x n apart h. (without_section_has gone now.sections (section_of x n) (other x n apart h)).0;
        holds = λ x n o apart h. subst (λ (os : List ObjectId). In os o) (sym (at_section_other gone (section_of x n) [] now.held (elsewhere x n apart))) h;
        awaits = λ a s h. (without_section_has gone (now.asked_sections a) s h).0;
        marks = λ a s h o e. absurd (none_left s.ordinal (subst (λ n. In left (section_of n s.ordinal)) e (has_without_section gone now.sections s o (without_section_has gone (now.asked_sections a) s h).1)));
      }

      owes_close : (word : ℕ) → is_in word ≡ false → (plans.qsbr ≡ true → word ≤ number + 1) → OwesRead r (telling (Close (section_of r v.ordinal)) (closed v word))
      owes_close word is low = (
        (has_section_in now.sections gone (t.mine.opened was), tt),
        kept_read r v (closed v word) (Events (Close gone) None) now.seen left (at_section gone [] now.held) awaited_left asked_left t
            (left_changes (closed v word) now.seen left
            (record {
              low = t.mine.low;
              opened = λ e. absurd (true≢false (sym e ∙ is));
              opens = λ n h. absurd (none_left n h);
              holds = λ o e. absurd (none_some o e);
              copying = λ copy e. let c = t.mine.copying copy e in ((λ f. is), c.1);
              marked = low;
            })
            (λ x n _ h. h) (λ s h. h) (λ x n _ h. h))
            (log_longer w.log (Close gone ∷ []) v.ordinal t.ordinal),
      )

      -- one section closes and the next one opens
      owes_announce : (word : ℕ) → is_in word ≡ true → (plans.qsbr ≡ true → word ≤ number + 1) →
          OwesRead r (record { state = opened v word; answer = Events (Close (section_of r v.ordinal)) (Some (Open (section_of r (v.ordinal + 1)))) })
      owes_announce word is low = (
        (has_section_in now.sections gone (t.mine.opened was), ((λ h. not_seen (in_sections now.seen new h)), tt)),
        kept_read r v (opened v word) (Events (Close gone) (Some (Open new))) (new ∷ now.seen) (left ++ new ∷ []) (at_section gone [] now.held) awaited_left asked_left t
            (left_changes (opened v word) (new ∷ now.seen) (left ++ new ∷ []) (opened_kept word left (at_section gone [] now.held) is low none_left) sees_new (λ s h. in_left left (new ∷ []) s h) (other_open left))
            (log_one w.log (Close gone) (Open new ∷ []) v.ordinal t.ordinal),
      )

  -- what was found is held
  kept_got : (r : ℕ) (v : ReaderState) (e : Event) (found : Option ObjectId) → There r v → is_in v.word ≡ true → ((o : ObjectId) → found ≡ Some o → stage_of w.objects o ≢ Fresh) →
      Kept plans layout slots laws (changed w (Read r (telling e (with_cursor v found)))) (got now (section_of r v.ordinal) found)
  kept_got r v e None t is known = same_sections r v (with_cursor v None) (Events e None) now.held t
      (record { low = t.mine.low; opened = t.mine.opened; opens = t.mine.opens; holds = t.mine.holds; copying = t.mine.copying; marked = t.mine.marked })
      (λ x n o _ h. h) (λ mark s _ _ h. h) refl
  kept_got r v e (Some f) t is known = let s : SectionId = section_of r v.ordinal in same_sections r v (with_cursor v (Some f)) (Events e None) (at_section s (f ∷ now.held s) now.held) t
      (record {
        low = t.mine.low;
        opened = t.mine.opened;
        opens = t.mine.opens;
        holds = λ o g. let same = some_is f o g in (is, subst (λ (os : List ObjectId). In os o) (sym (at_section_same s (f ∷ now.held s) now.held)) (inl same), known o g);
        copying = t.mine.copying;
        marked = t.mine.marked;
      })
      (λ x n o apart h. subst (λ (os : List ObjectId). In os o) (sym (at_section_other s (section_of x n) (f ∷ now.held s) now.held (λ g. apart (ap (λ (u : SectionId). u.reader) g)))) h) (λ mark u _ _ h. h) refl

  owes_first : (r : ℕ) (v : ReaderState) (c : ℕ) (head : Option ObjectId) → There r v → is_in v.word ≡ true → slice_get w.heads c ≡ Some head → OwesRead r (found_row v head (First (section_of r v.ordinal) c head))
  owes_first r v c head t is at_c =
      let first : first_of (now.chain c) ≡ head = sym ((k.links_kept.chains c).words None tt) ∙ get_or_from_slice_get w.heads c head None at_c in (
        ((has_section_in now.sections (section_of r v.ordinal) (t.mine.opened is), first), tt),
        kept_got r v (First (section_of r v.ordinal) c head) head t is
            (λ o e f. cc (sym (k.links_kept.linked c o (first_has (now.chain c) o (first ∙ e))).0 ∙ f)),
      )

  -- the link of a known object is its successor, and leads to a known one
  successor_at : (o : ObjectId) → stage_of w.objects o ≢ Fresh → IsSuccessor now o (link_of w.objects o) × ((f : ObjectId) → link_of w.objects o ≡ Some f → stage_of w.objects f ≢ Fresh)
  successor_at o known = by (stage_of w.objects o) refl
    where
      links : LinksKept w.heads w.objects now.chain now.used now.cut now.successor
      links = k.links_kept

      in_its_chain : (c : ℕ) → In (now.chain c) o → next_of (now.chain c) o ≡ link_of w.objects o
      in_its_chain c h = sym ((links.chains c).words (Some o) h)

      once : In now.cut o → now.successor o ≡ link_of w.objects o
      once h = sym (links.was_cut o h).1

      next : IsSuccessor now o (link_of w.objects o)
      next = record {
        while_linked = λ c h. in_its_chain c (in_objects (now.chain c) o h);
        once_cut = λ h. once (in_objects now.cut o h);
      }

      by : (s : Stage) → stage_of w.objects o ≡ s → IsSuccessor now o (link_of w.objects o) × ((f : ObjectId) → link_of w.objects o ≡ Some f → stage_of w.objects f ≢ Fresh)
      by Fresh is = absurd (known is)
      by Linked is =
          let h = links.links o is in
          (next, λ f e s. cc (sym (links.linked (chain_of w.objects o) f (follows_has (now.chain (chain_of w.objects o)) (Some o) f (in_its_chain (chain_of w.objects o) h ∙ e))).0 ∙ s))
      by Stage.Cut is = (next, λ f e. links.targets o f is e)

  owes_next : (r : ℕ) (v : ReaderState) (o : ObjectId) (x : ObjectState) → There r v → is_in v.word ≡ true → v.cursor ≡ Some o → slice_get w.objects o.0 ≡ Some x → OwesRead r (found_row v x.link (Next (section_of r v.ordinal) o x.link))
  owes_next r v o x t is from at_o =
      let same : link_of w.objects o ≡ x.link = ap (λ (y : ObjectState). y.link) (get_or_from_slice_get w.objects o.0 x no_object at_o) in
      let held = t.mine.holds o from in
      let next = successor_at o held.2 in (
        ((has_section_in now.sections (section_of r v.ordinal) (t.mine.opened is), has_object_in (now.held (section_of r v.ordinal)) o held.1, subst (IsSuccessor now o) same next.0), tt),
        kept_got r v (Next (section_of r v.ordinal) o x.link) x.link t is (λ f g. next.1 f (same ∙ g)),
      )

  owes_touch : (r : ℕ) (v : ReaderState) (o : ObjectId) → There r v → is_in v.word ≡ true → v.cursor ≡ Some o → OwesRead r (telling (Touch (section_of r v.ordinal) o) v)
  owes_touch r v o t is from = (
    ((has_section_in now.sections (section_of r v.ordinal) (t.mine.opened is), has_object_in (now.held (section_of r v.ordinal)) o (t.mine.holds o from).1), tt),
    same_sections r v v (Events (Touch (section_of r v.ordinal) o) None) now.held t t.mine (λ x n o _ h. h) (λ mark s _ _ h. h) refl,
  )

  -- the two flavours, by what the word functions give
  open_count : (word : ℕ) → count_of layout word ≢ 0 → is_open_of layout word ≡ true
  open_count word n = ap not (ne_eqb (count_of layout word) 0 n)

  in_flavour : {q : Bool} (word : ℕ) (b : Bool) → plans.qsbr ≡ q → is_open_in q layout word ≡ b → is_in word ≡ b
  in_flavour word b f e = subst (λ (q : Bool). is_open_in q layout word ≡ b) (sym f) e

  memb_only : plans.qsbr ≡ false → (n m : ℕ) → plans.qsbr ≡ true → m ≤ n + 1
  memb_only f n m q = absurd (true≢false (sym q ∙ f))

  -- a word that nests one deeper shows the same mark
  memb_marks : (word deeper : ℕ) → plans.qsbr ≡ false → phase_in layout deeper ≡ phase_in layout word → count_of layout deeper ≢ 0 → (mark : ℕ) → shows mark word → shows mark deeper
  memb_marks word deeper f same more mark shown =
      subst (λ (q : Bool). Shows q layout mark deeper) (sym f)
      (let s = subst (λ (q : Bool). Shows q layout mark word) f shown in (more, same ∙ s.1))

  -- what is owed of each step of a reader
  module _ (r : ℕ) (v : ReaderState) (t : There r v) where
    was_open : (word : ℕ) → plans.qsbr ≡ false → left_of layout v.word ≡ Ok word → is_in v.word ≡ true
    was_open word f is = let d = left_of-nests layout v.word word is in in_flavour v.word true f (open_count v.word (λ e. let c = d.count in omega (arith, c, e)))

    announced_low : (copied : ℕ) → v.copy ≡ Some copied → plans.qsbr ≡ true → announced copied ≤ number + 1
    announced_low copied has e = let l = (t.mine.copying copied has).1 e in omega (arith, l)

    announced_open : (copied : ℕ) → plans.qsbr ≡ true → is_in (announced copied) ≡ true
    announced_open copied q = in_flavour (announced copied) true q
        (ap not (ne_eqb (copied + 1) 0 (λ e. omega (arith, e))))

    pub owes_reads : ReaderRows plans.qsbr layout w r v (OwesRead r)
    owes_reads _ (Copies none zero) = owes_copy r v t (λ f. in_flavour v.word false f (ap not (zero f)))
    owes_reads _ (Nests word none f more is) =
        let d = entered_of-nests layout v.word false word (eqb-false (count_of layout v.word) 0 more) is in
        let deeper : count_of layout word ≢ 0 = λ e. let c = d.count in omega (arith, c, e) in
        owes_word r v word t (in_flavour v.word true f (ap not more)) (in_flavour word true f (open_count word deeper)) (memb_marks v.word word f d.phase deeper) (memb_only f number word)
    owes_reads _ (Unnests word none f is more) =
        owes_word r v word t (was_open word f is) (in_flavour word true f (ap not more)) (memb_marks v.word word f (sym (left_of-nests layout v.word word is).phase) (eqb-false (count_of layout word) 0 more)) (memb_only f number word)
    owes_reads _ (Unlocks word none f is zero) = owes_close r v t (was_open word f is) word (in_flavour word false f (ap not zero)) (memb_only f number word)
    owes_reads _ (Leaves none q online) = owes_close r v t (in_flavour v.word true q online) 0 (in_flavour 0 false q refl) (λ _. omega arith)
    owes_reads _ (Enters copied word has f is) =
        let idle = subst (λ (q : Bool). is_open_in q layout v.word ≡ false) f ((t.mine.copying copied has).0 f) in
        let o = entered_of-opens layout v.word (copied == 1) word (eqb-true (count_of layout v.word) 0 (not_false idle)) is in
        owes_open r v t word (in_flavour v.word false f idle) (in_flavour word true f (open_count word (λ e. let one = o.0 in omega (arith, one, e)))) (memb_only f number word)
    owes_reads _ (GoesOnline copied has q offline) = owes_open r v t (announced copied) (in_flavour v.word false q offline) (announced_open copied q) (announced_low copied has)
    owes_reads _ (Announces copied has q online) = owes_announce r v t (in_flavour v.word true q online) (announced copied) (announced_open copied q) (announced_low copied has)
    owes_reads _ (Firsts c head none is at_c) = owes_first r v c head t is at_c
    owes_reads _ (Nexts o x none is from at_o) = owes_next r v o x t is from at_o
    owes_reads _ (Touches o none is from) = owes_touch r v o t is from
