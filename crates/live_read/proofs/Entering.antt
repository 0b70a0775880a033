-- What the steps on a reader's word tell of its section.
use Rattle.gp_memb.specs.declared.plan.GracePlan as plan
use Rattle.live_read.proofs.Cited.{◌≡◌, ◌≢◌, ℕ, zero, suc, ◌+◌, ◌-◌, Bool, true, false, [], Ok, sym, refl, ap, ◌∙◌, subst, arith, true≢false, Option, none, some, unary_clauses, Me, Wide, count_of, entered_of, left_of, entered_of-nests, entered_of-opens, left_of-nests, LiveEvent, has_section_in, Log, IsOpenSection, open_of, sections_of, state_of, is_open, open_inside, CallbackId, View, Fits, IsClosed, count_in, Announced, Closed, CopiedBefore, Nested, Opened, announces, opens}
use Rattle.live_words.specs.step_readers.Sections.{Stored}
use Rattle.live_read.specs.declared.reader_core.ReaderCore.{ReaderCore}
use Rattle.live_read.specs.Holding.{KeepsHeld, log_of, ordinal, section_of}
use Rattle.live_read.specs.Sections.{IsIn, Enters, Leaves, GoesOnline, Announces}
use Rattle.live_read.proofs.Leaving.{wrote_later}
use Rattle.live_read.proofs.Staying.{held_later}

-- a word that is not closed fits an open section
fits_some : (b : Bool) (w : ℕ) (o : Option (ℕ × ℕ)) → Fits b w o → (IsClosed b w → ⊥) → (x : ℕ × ℕ) × (o ≡ some x)
fits_some b w none f z = absurd (z f)
fits_some b w (some x) f z = (x, refl)

locked : (b : Bool) → b ≡ false → (w : ℕ) → count_of Wide w ≢ 0 → IsClosed b w → ⊥
locked false e w n z = n z
locked true e w n z = absurd (true≢false e)

online : (b : Bool) → b ≡ true → (w : ℕ) → w ≢ 0 → IsClosed b w → ⊥
online true e w n z = n z
online false e w n z = absurd (true≢false (sym e))

pub deeper : (w new d : ℕ) (phase : Bool) → count_of Wide w ≡ d → entered_of Wide w phase ≡ Ok new → count_of Wide new ≡ d + 1
deeper w new zero phase e made = (entered_of-opens Wide w phase new e made).0
deeper w new (suc d) phase e made = (entered_of-nests Wide w phase new (λ z. absurd (omega arith)) made).count ∙ ap (λ n. n + 1) e

module _ {P K : Type 0} {g : plan.Ghosts P} (qsbr : Bool) (allows : Log → LiveEvent → Type 0) where
  -- the reader is in the section that the word which it stored stands for
  stored_in : (s : ReaderCore P K g) (q x count : ℕ) (events : Log) (m : Me CallbackId View) → s.slot ≡ q → Stored qsbr allows q x count events m s.seat.me → (IsClosed qsbr x → ⊥) → IsIn s
  stored_in s q x count events m slot st stands =
      let at = subst (λ (z : ℕ). Fits qsbr x (open_of z (log_of s))) (sym slot) st.2.0 in
      let o = fits_some qsbr x (open_of s.slot (log_of s)) at stands in
      let inside : IsOpenSection s.slot o.0.0 (log_of s) = is_open qsbr allows (log_of s) s.slot o.0.0 o.0.1 st.1.4 o.1 in
      let counted : o.0.0 ≡ ordinal s = sym inside.2 ∙ (ap (λ (z : ℕ). sections_of z (log_of s)) slot ∙ (st.2.1 ∙ sym (ap (λ (me : Me CallbackId View). count_in me.0.slot) st.0))) in
      let at_last : open_of s.slot (log_of s) ≡ some (ordinal s, o.0.1) = o.1 ∙ ap (λ (n : ℕ). some (n, o.0.1)) counted in
      record {
        note = o.0.1;
        stands = at_last;
        inside = subst (λ (n : ℕ). IsOpenSection s.slot n (log_of s)) counted inside;
        is_open = has_section_in (state_of (log_of s)).sections (section_of s) (open_inside (log_of s) s.slot (ordinal s) o.0.1 at_last);
      }

  -- an inner lock leaves what is held
  nested_keeps : (r s : ReaderCore P K g) → s.slot ≡ r.slot → Nested qsbr allows r.slot s.word r.seat.me s.seat.me → KeepsHeld r s
  nested_keeps r s slot st =
      let count : ordinal s ≡ ordinal r = simp unary_clauses at (ap (λ (me : Me CallbackId View). count_in me.0.slot) st.0) in
      held_later qsbr allows r s slot (ap (λ (me : Me CallbackId View). me.0.sizes) st.0) count (wrote_later qsbr allows r.seat.me.0 [] (log_of s) st.1) st.1.4

  pub enters : (r s : ReaderCore P K g) → qsbr ≡ false → s.slot ≡ r.slot → s.depth ≡ r.depth + 1 → count_of Wide r.word ≡ r.depth → (phase : Bool) → entered_of Wide r.word phase ≡ Ok s.word
      → (count_of Wide r.word ≡ 0 → Opened qsbr allows r.slot s.word r.seat.me s.seat.me)
      → (count_of Wide r.word ≡ 0 → CopiedBefore qsbr allows r.slot s.word r.seat.me s.seat.me (opens qsbr r.slot (ordinal r) s.word))
      → (count_of Wide r.word ≢ 0 → Nested qsbr allows r.slot s.word r.seat.me s.seat.me) → Enters qsbr allows r s
  enters r s flavour slot depth counted phase made outermost copied inner = record {
    slot = slot;
    depth = depth;
    outermost = λ e. (outermost (counted ∙ e), copied (counted ∙ e));
    inner = λ n. inner (λ e. n (sym counted ∙ e));
    keeps = λ l. nested_keeps r s slot (inner (λ z. absurd (omega arith)));
    inside = by_depth r.depth refl;
  }
    where
      stands : IsClosed qsbr s.word → ⊥
      stands = let c = deeper r.word s.word r.depth phase counted made in locked qsbr flavour s.word (λ e. absurd (omega arith))

      by_depth : (d : ℕ) → r.depth ≡ d → IsIn s
      by_depth zero e = stored_in s r.slot s.word (ordinal r + 1) (opens qsbr r.slot (ordinal r) s.word) r.seat.me slot (outermost (counted ∙ e)) stands
      by_depth (suc d) e = stored_in s r.slot s.word (ordinal r + 0) [] r.seat.me slot (inner (λ z. absurd (omega arith))) stands

  pub leaves : (r s : ReaderCore P K g) → qsbr ≡ false → s.slot ≡ r.slot → s.depth ≡ r.depth - 1 → count_of Wide r.word ≡ r.depth → left_of Wide r.word ≡ Ok s.word
      → (count_of Wide s.word ≡ 0 → Closed qsbr allows r.slot s.word r.seat.me s.seat.me)
      → (count_of Wide s.word ≢ 0 → Nested qsbr allows r.slot s.word r.seat.me s.seat.me) → Leaves qsbr allows r s
  leaves r s flavour slot depth counted made outermost inner =
      let c = (left_of-nests Wide r.word s.word made).count in
      record {
        slot = slot;
        depth = depth;
        outermost = λ e. outermost (omega arith);
        keeps = λ l. nested_keeps r s slot (inner (λ z. absurd (omega arith)));
        inner = λ l. let n : count_of Wide s.word ≢ 0 = λ z. absurd (omega arith) in (inner n, stored_in s r.slot s.word (ordinal r + 0) [] r.seat.me slot (inner n) (locked qsbr flavour s.word n));
      }

  pub goes_online : (r s : ReaderCore P K g) → qsbr ≡ true → r.word ≡ 0 → s.slot ≡ r.slot → s.depth ≡ r.depth → s.locks ≡ r.locks → s.word ≢ 0
      → Opened qsbr allows r.slot s.word r.seat.me s.seat.me
      → CopiedBefore qsbr allows r.slot s.word r.seat.me s.seat.me (opens qsbr r.slot (ordinal r) s.word) → GoesOnline qsbr allows r s
  goes_online r s flavour was slot depth locks word opened copied = record {
    same = (slot, depth, locks);
    was_offline = (flavour, was);
    online = word;
    opened = (opened, copied);
    inside = stored_in s r.slot s.word (ordinal r + 1) (opens qsbr r.slot (ordinal r) s.word) r.seat.me slot opened (online qsbr flavour s.word word);
  }

  pub announces_now : (r s : ReaderCore P K g) → qsbr ≡ true → r.word ≢ 0 → r.depth ≡ 0 → s.slot ≡ r.slot → s.depth ≡ r.depth → s.locks ≡ r.locks → s.word ≢ 0
      → Announced qsbr allows r.slot s.word r.seat.me s.seat.me
      → CopiedBefore qsbr allows r.slot s.word r.seat.me s.seat.me (announces qsbr r.slot (ordinal r) s.word) → Announces qsbr allows r s
  announces_now r s flavour was none_open slot depth locks word announced copied = record {
    same = (slot, depth, locks);
    was_online = (flavour, was, none_open);
    online = word;
    announced = (announced, copied);
    inside = stored_in s r.slot s.word (ordinal r + 1) (announces qsbr r.slot (ordinal r) s.word) r.seat.me slot announced (online qsbr flavour s.word word);
  }
