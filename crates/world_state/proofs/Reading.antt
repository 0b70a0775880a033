-- Readers and their sections, and what a change of one reader keeps.
use Rattle.world_state.proofs.Cited.{◌≡◌, ◌≢◌, ◌⊎◌, inl, inr, ℕ, ◌+◌, ◌<◌, ◌≤◌, Bool, true, false, List, length, get_or, slice_set, Some, sym, ap, ◌∙◌, subst, get_or-set_other, get_or-set_same, refl, true≢false, arith, ObjectId, SectionId, In, Layout, Narrow, Wide}
use Rattle.world_state.specs.declared.object.Stage.TheVariants.{Fresh}
use Rattle.world_state.specs.declared.object.ObjectState.{ObjectState}
use Rattle.world_state.specs.declared.reader.ReaderState.{ReaderState}
use Rattle.world_state.specs.Readers.{section_of, new_reader, is_open_in}
use Rattle.world_state.proofs.Writes.{stage_of, get_past, past_or_within}
use Rattle.world_state.proofs.Linking.{decide_number}

abbrev pub reader_at : List ReaderState → ℕ → ReaderState
reader_at readers r = get_or readers r new_reader

-- what a reader's state says, of the flavour and the layout, beside the present number
pub record ReaderKept (qsbr : Bool) (layout : Layout) (r : ℕ) (v : ReaderState) (number : ℕ) (os : List ObjectState) (sections seen : List SectionId) (held : SectionId → List ObjectId) : Type 0 where
  pub low : (n : ℕ) → In seen (section_of r n) → n ≤ v.ordinal
  pub opened : is_open_in qsbr layout v.word ≡ true → In sections (section_of r v.ordinal)
  pub opens : (n : ℕ) → In sections (section_of r n) → (n ≡ v.ordinal) × (is_open_in qsbr layout v.word ≡ true)
  pub holds : (o : ObjectId) → v.cursor ≡ Some o → (is_open_in qsbr layout v.word ≡ true) × In (held (section_of r v.ordinal)) o × (stage_of os o ≢ Fresh)
  pub copying : (copy : ℕ) → v.copy ≡ Some copy → (qsbr ≡ false → is_open_in qsbr layout v.word ≡ false) × (qsbr ≡ true → copy ≤ number)
  pub marked : qsbr ≡ true → v.word ≤ number + 1

module _ (qsbr : Bool) (layout : Layout) where
  abbrev pub ReadersKept : List ReaderState → ℕ → List ObjectState → List SectionId → List SectionId → (SectionId → List ObjectId) → Type 0
  ReadersKept readers number os sections seen held = (r : ℕ) → ReaderKept qsbr layout r (reader_at readers r) number os sections seen held

  -- the objects that are known stay so, and the number does not fall
  pub readers_over : (readers : List ReaderState) (number number' : ℕ) (os os' : List ObjectState) (sections seen : List SectionId) (held : SectionId → List ObjectId) →
      (qsbr ≡ true → number ≤ number') → ((o : ObjectId) → stage_of os o ≢ Fresh → stage_of os' o ≢ Fresh) →
      ReadersKept readers number os sections seen held → ReadersKept readers number' os' sections seen held
  readers_over readers number number' os os' sections seen held rises grows k r = record {
    low = (k r).low;
    opened = (k r).opened;
    opens = (k r).opens;
    holds = λ o e. let h = (k r).holds o e in (h.0, h.1, grows o h.2);
    copying = λ copy e. let c = (k r).copying copy e in (c.0, λ is. let low = c.1 is in let up = rises is in omega (arith, low, up));
    marked = λ is. let low = (k r).marked is in let up = rises is in omega (arith, low, up);
  }

  -- one reader changes, and what the others' states say stays
  pub readers_set : (readers : List ReaderState) (number : ℕ) (os : List ObjectState) (sections sections' seen seen' : List SectionId) (held held' : SectionId → List ObjectId) (r : ℕ) (v : ReaderState) →
      r < length readers → ReaderKept qsbr layout r v number os sections' seen' held' →
      ((q n : ℕ) → q ≢ r → In seen' (section_of q n) → In seen (section_of q n)) →
      ((q n : ℕ) → q ≢ r → In sections (section_of q n) → In sections' (section_of q n)) →
      ((q n : ℕ) → q ≢ r → In sections' (section_of q n) → In sections (section_of q n)) →
      ((q n : ℕ) (o : ObjectId) → q ≢ r → In (held (section_of q n)) o → In (held' (section_of q n)) o) →
      ReadersKept readers number os sections seen held → ReadersKept (slice_set readers r v) number os sections' seen' held'
  readers_set readers number os sections sections' seen seen' held held' r v inside mine sees opens closes holds k q = by (decide_number q r)
    where
      by : (q ≡ r) ⊎ (q ≢ r) → ReaderKept qsbr layout q (reader_at (slice_set readers r v) q) number os sections' seen' held'
      by (inl e) =
          subst (λ n. ReaderKept qsbr layout n (reader_at (slice_set readers r v) n) number os sections' seen' held') (sym e)
          (subst (λ (x : ReaderState). ReaderKept qsbr layout r x number os sections' seen' held') (sym (get_or-set_same readers r v new_reader inside)) mine)
      by (inr apart) =
          subst (λ (x : ReaderState). ReaderKept qsbr layout q x number os sections' seen' held') (sym (get_or-set_other readers r q v new_reader apart))
          (record {
            low = λ n h. (k q).low n (sees q n apart h);
            opened = λ e. opens q _ apart ((k q).opened e);
            opens = λ n h. (k q).opens n (closes q n apart h);
            holds = λ o e. let h = (k q).holds o e in (h.0, holds q _ o apart h.1, h.2);
            copying = (k q).copying;
            marked = (k q).marked;
          })

  pub not_new : is_open_in qsbr layout 0 ≡ false
  not_new = by qsbr layout
    where
      by : (b : Bool) (l : Layout) → is_open_in b l 0 ≡ false
      by true l = refl
      by false Narrow = refl
      by false Wide = refl

  -- an open section is one of a reader that is there
  pub reader_there : (readers : List ReaderState) (number : ℕ) (os : List ObjectState) (sections seen : List SectionId) (held : SectionId → List ObjectId) →
      ReadersKept readers number os sections seen held → (s : SectionId) → In sections s → s.reader < length readers
  reader_there readers number os sections seen held k s h = by (past_or_within readers s.reader)
    where
      is : is_open_in qsbr layout (reader_at readers s.reader).word ≡ true
      is = ((k s.reader).opens s.ordinal h).1

      by : (s.reader < length readers) ⊎ (length readers ≤ s.reader) → s.reader < length readers
      by (inl l) = l
      by (inr g) =
          absurd (true≢false (sym is ∙ ap (λ (v : ReaderState). is_open_in qsbr layout v.word) (get_past readers s.reader new_reader g) ∙ not_new))
