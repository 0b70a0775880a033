-- What a load tells a reader in a section.
use Rattle.gp_memb.specs.declared.plan.GracePlan as plan
use Rattle.live_read.proofs.Cited.{◌≡◌, ℕ, ◌-◌, ◌<◌, Bool, true, false, Some, None, sym, refl, ap, ◌∙◌, subst, inl, arith, some, ObjectId, SectionId, IsOpen, first_of, in_sections, Wide, count_of, LiveEvent, Log, Begins, WasLinked, Objects, Follows, open_of, section, state_of, record_of, objects_of, begins_trans, first_linked, inside_open, is_open, Sizes, View, ref, IsClosed, count_in, IsNow, IsLater, IsInSection, IsNext, MayRead}
use Rattle.std.proofs.Common.{Option}
use Rattle.live_read.specs.declared.reader_core.ReaderCore.{ReaderCore}
use Rattle.live_read.specs.Holding.{MayHold, MayHoldIn, log_of, ordinal, section_of}
use Rattle.live_read.specs.Reads.{FindsFirst, FindsNext, Looks}
use Rattle.live_read.proofs.Staying.{held_in, held_later}

ref_none : (w : Objects) (found : Option ObjectId) (n : ℕ) → n ≡ ref w found → n ≡ 0 → found ≡ None
ref_none w None n e z = refl
ref_none w (Some o) n e z = absurd (omega arith)

ref_some : (w : Objects) (found : Option ObjectId) (n : ℕ) → n ≡ ref w found → (n ≡ 0 → ⊥) → (o : ObjectId) × (found ≡ Some o) × ((w.note o).0 ≡ n - 1)
ref_some w None n e z = absurd (z e)
ref_some w (Some o) n e z = (o, refl, omega arith)

-- the word of a reader with a section or a lock is not closed
stands_open : (qsbr site : Bool) (w d : ℕ) → qsbr ≡ site → (site ≡ false → count_of Wide w ≡ d) → (site ≡ true → w ≡ 0 → d ≡ 0) → 0 < d → IsClosed qsbr w → ⊥
stands_open false site w d e general quiet above closed = let c = general (sym e) in omega arith
stands_open true site w d e general quiet above closed = let c = quiet (sym e) closed in omega arith

module _ {P K : Type 0} {g : plan.Ghosts P} (qsbr : Bool) (allows : Log → LiveEvent → Type 0) where
  -- the reader's word stands for its section
  pub stands : (r : ReaderCore P K g) → qsbr ≡ g.QSBR → 0 < r.depth → IsInSection qsbr r.seat.me.0 r.slot (ordinal r)
  stands r e above = (r.owns.0, subst (λ (w : ℕ). IsClosed qsbr w → ⊥) (sym r.owns.1) (stands_open qsbr g.QSBR r.word r.depth e r.counted.0 r.counted.1 above), refl)

  pub may_read : (r : ReaderCore P K g) (o : ObjectId) (cell : ℕ) → qsbr ≡ g.QSBR → 0 < r.depth → MayHold r o cell → MayRead qsbr r.seat.me.0 o cell
  may_read r o cell e above x = (x.lies, inl (r.slot, ordinal r, stands r e above, x.was_linked))

  pub looks : (r s : ReaderCore P K g) → s.slot ≡ r.slot → s.word ≡ r.word → s.depth ≡ r.depth → s.locks ≡ r.locks → IsNow r.seat.me.0 s.seat.me.0 → IsLater qsbr allows r.seat.me.0 s.seat.me.0 → IsOpen (state_of (log_of s)) (section_of r) → Looks qsbr allows r s
  looks r s slot word depth locks now later is =
      let number : ordinal s ≡ ordinal r = ap (λ (v : View). count_in v.slot) now in
      let one : section_of s ≡ section_of r = (λ i. section (slot i) (number i)) in
      let here = inside_open qsbr allows (log_of s) (section_of r) later.2 (in_sections (state_of (log_of s)).sections (section_of r) is) in
      let at : open_of s.slot (log_of s) ≡ some (ordinal s, here.0) = ap (λ (q : ℕ). open_of q (log_of s)) slot ∙ (here.1 ∙ ap (λ (n : ℕ). some (n, here.0)) (sym number)) in
      record {
        same = (slot, word, depth, locks, number);
        later = record { after_seen = later.0; after_heard = later.1; run = later.2 };
        heard = ap (λ (v : View). v.heard) now;
        inside = record {
          note = here.0;
          stands = at;
          inside = is_open qsbr allows (log_of s) s.slot (ordinal s) here.0 later.2 at;
          is_open = subst (λ (t : SectionId). IsOpen (state_of (log_of s)) t) (sym one) is;
        };
        keeps = held_later qsbr allows r s slot (ap (λ (v : View). v.sizes) now) number later.0 later.2;
      }

  -- one load after another
  pub looks_twice : (r s t : ReaderCore P K g) → Looks qsbr allows r s → Looks qsbr allows s t → Looks qsbr allows r t
  looks_twice r s t a b = record {
    same = (b.same.0 ∙ a.same.0, b.same.1 ∙ a.same.1, b.same.2 ∙ a.same.2, b.same.3 ∙ a.same.3, b.same.4 ∙ a.same.4);
    later = record {
      after_seen = begins_trans (log_of r) (log_of s) (log_of t) a.later.after_seen b.later.after_seen;
      after_heard = subst (λ (l : Log). Begins l (log_of t)) a.heard b.later.after_heard;
      run = b.later.run;
    };
    heard = b.heard ∙ a.heard;
    inside = b.inside;
    keeps = record {
      held = λ o cell x. b.keeps.held o cell (a.keeps.held o cell x);
      notes = λ o cell x. b.keeps.notes o cell (a.keeps.held o cell x) ∙ a.keeps.notes o cell x;
    };
  }

  pub held_on : (r s : ReaderCore P K g) (cell : ℕ) → Looks qsbr allows r s → MayHoldIn r cell → MayHoldIn s cell
  held_on r s cell l = held_in r s cell l.keeps

  pub first_none : (s : ReaderCore P K g) (c n : ℕ) → n ≡ ref (objects_of (log_of s)) (first_of ((objects_of (log_of s)).chain c)) → n ≡ 0 → FindsFirst s c None
  first_none s c n e z = ref_none (objects_of (log_of s)) (first_of ((objects_of (log_of s)).chain c)) n e z

  pub first_some : (s : ReaderCore P K g) (c n pool : ℕ) → pool ≡ s.seat.me.0.sizes.pool → IsOpen (state_of (log_of s)) (section_of s) → n ≡ ref (objects_of (log_of s)) (first_of ((objects_of (log_of s)).chain c)) → (n ≡ 0 → ⊥)
      → ((o : ObjectId) → first_of ((objects_of (log_of s)).chain c) ≡ Some o → (record_of (log_of s) o).0 < pool) → (o : ObjectId) × FindsFirst s c (Some o) × MayHold s o (n - 1)
  first_some s c n pool size is e z low =
      let x = ref_some (objects_of (log_of s)) (first_of ((objects_of (log_of s)).chain c)) n e z in
      (x.0, x.1, record { was_linked = first_linked (log_of s) (section_of s) c x.0 is x.1; lies = x.2; low = subst (λ (k : ℕ). n - 1 < k) size (subst (λ (k : ℕ). k < pool) x.2 (low x.0 x.1)) })

  module _ (r : ReaderCore P K g) (w : View) (n cell : ℕ) (e : qsbr ≡ g.QSBR) (above : 0 < r.depth)
      (tells : (o : ObjectId) → MayRead qsbr r.seat.me.0 o cell → (found : Option ObjectId) × IsNext qsbr r.seat.me.0 w o n found) where
    pub next_none : n ≡ 0 → (o : ObjectId) → MayHold r o cell → Follows (objects_of w.seen) o None
    next_none z o x = let y = tells o (may_read r o cell e above x) in subst (λ (found : Option ObjectId). Follows (objects_of w.seen) o found) (ref_none (objects_of w.seen) y.0 n y.1.1 z) y.1.0

    pub next_some : (s : ReaderCore P K g) → s.seat.me.0 ≡ w → s.seat.me.0.sizes ≡ r.seat.me.0.sizes → Looks qsbr allows r s → (n ≡ 0 → ⊥) → (o : ObjectId) → MayHold r o cell → (m : ObjectId) × FindsNext s o (Some m) × MayHold s m (n - 1)
    next_some s same sizes l z o x =
        let y = tells o (may_read r o cell e above x) in
        let m = ref_some (objects_of w.seen) y.0 n y.1.1 z in
        let t = y.1.2 m.0 m.1 in
        let one : section_of s ≡ section_of r = (λ i. section (l.same.0 i) (l.same.4 i)) in
        let log : w.seen ≡ log_of s = ap (λ (v : View). v.seen) (sym same) in (
          m.0,
          subst (λ (x : Log). Follows (objects_of x) o (Some m.0)) log (subst (λ (found : Option ObjectId). Follows (objects_of w.seen) o found) m.1 y.1.0),
          record {
            was_linked = subst (λ (u : SectionId). WasLinked u m.0 (log_of s)) (sym one) (subst (WasLinked (section_of r) m.0) log (t.1 _ _ (stands r e above) x.was_linked));
            lies = ap (λ (x : Log). (record_of x m.0).0) (sym log) ∙ m.2;
            low = subst (λ (z : Sizes). n - 1 < z.pool) (sym sizes) (subst (λ (k : ℕ). k < r.seat.me.0.sizes.pool) m.2 t.0);
          },
        )
