-- What a reader keeps of its section while it hears of something, nests or looks.
use Rattle.gp_memb.specs.declared.plan.GracePlan as plan
use Rattle.live_read.proofs.Cited.{◌≡◌, ℕ, ◌<◌, Bool, List, sym, ap, ◌∙◌, subst, some, ObjectId, SectionId, IsOpen, LiveEvent, Log, Begins, IsLiveRun, IsOpenSection, WasLinked, record_of, open_of, section, state_of, note_stays, run_of, was_later, was_used, Sizes}
use Rattle.live_read.specs.declared.reader.Reader.{Reader}
use Rattle.live_read.specs.declared.site.Site.{Ghosts}
use Rattle.live_read.specs.declared.reader_core.ReaderCore.{ReaderCore}
use Rattle.live_read.specs.Holding.{KeepsHeld, MayHoldIn, log_of, ordinal, section_of}
use Rattle.live_read.specs.Sections.{IsIn}
use Rattle.live_read.specs.Standings.{Standing}

module _ {P K : Type 0} {g : plan.Ghosts P} where
  pub stays_in : (r s : ReaderCore P K g) → s.slot ≡ r.slot → log_of s ≡ log_of r → ordinal s ≡ ordinal r → IsIn r → IsIn s
  stays_in r s slot log count i = record {
    note = i.note;
    stands = ap (λ (x : ℕ). open_of x (log_of s)) slot ∙ (ap (open_of r.slot) log ∙ (i.stands ∙ ap (λ (n : ℕ). some (n, i.note)) (sym count)));
    inside = subst (λ (x : ℕ). IsOpenSection x (ordinal s) (log_of s)) (sym slot) (subst (λ (n : ℕ). IsOpenSection r.slot n (log_of s)) (sym count) (subst (IsOpenSection r.slot (ordinal r)) (sym log) i.inside));
    is_open = subst (λ (t : SectionId). IsOpen (state_of (log_of s)) t) (λ k. section (sym slot k) (sym count k)) (subst (λ (l : Log). IsOpen (state_of l) (section_of r)) (sym log) i.is_open);
  }

  -- what it has seen has not grown
  pub held_stays : (r s : ReaderCore P K g) → s.slot ≡ r.slot → s.seat.me.0.sizes ≡ r.seat.me.0.sizes → log_of s ≡ log_of r → ordinal s ≡ ordinal r → KeepsHeld r s
  held_stays r s slot sizes log count = record {
    held = λ o cell x. record {
      was_linked = subst (λ (t : SectionId). WasLinked t o (log_of s)) (λ k. section (sym slot k) (sym count k)) (subst (WasLinked (section_of r) o) (sym log) x.was_linked);
      lies = ap (λ (l : Log). (record_of l o).0) log ∙ x.lies;
      low = subst (λ (z : Sizes). cell < z.pool) (sym sizes) x.low;
    };
    notes = λ o cell x. ap (λ (l : Log). record_of l o) log;
  }

  -- it has seen more
  pub held_later : (qsbr : Bool) (allows : Log → LiveEvent → Type 0) (r s : ReaderCore P K g) → s.slot ≡ r.slot → s.seat.me.0.sizes ≡ r.seat.me.0.sizes → ordinal s ≡ ordinal r → Begins (log_of r) (log_of s) → IsLiveRun qsbr allows (log_of s) → KeepsHeld r s
  held_later qsbr allows r s slot sizes count later run = record {
    held = λ o cell x. record {
      was_linked = subst (λ (t : SectionId). WasLinked t o (log_of s)) (λ k. section (sym slot k) (sym count k)) (was_later (log_of r) (log_of s) (section_of r) o later x.was_linked);
      lies = ap (λ (z : ℕ × List ℕ). z.0) (stays o x.was_linked) ∙ x.lies;
      low = subst (λ (z : Sizes). cell < z.pool) (sym sizes) x.low;
    };
    notes = λ o cell x. stays o x.was_linked;
  }
    where
      stays : (o : ObjectId) → WasLinked (section_of r) o (log_of r) → record_of (log_of s) o ≡ record_of (log_of r) o
      stays o was = note_stays qsbr allows (log_of r) (log_of s) o later run (was_used qsbr allows (log_of r) (section_of r) o (run_of qsbr allows (log_of r) (log_of s) later run) was)

  pub held_in : (r s : ReaderCore P K g) (cell : ℕ) → KeepsHeld r s → MayHoldIn r cell → MayHoldIn s cell
  held_in r s cell keeps x = record { object = x.object; holds = keeps.held x.object cell x.holds }

  abbrev standing : ReaderCore P K g → Standing
  standing r = record { slot = r.slot; word = r.word; ordinal = ordinal r; depth = r.depth; locks = r.locks }

  -- a call was made for the one that bears its table's name, as a caller: it has heard of something, has seen no more,
  -- and stands as it stood
  pub held_across : {B : Type 0} {site : Ghosts B} (r s : Reader P K B g site) → log_of s.core ≡ log_of r.core → standing s.core ≡ standing r.core → KeepsHeld r.core s.core
  held_across r s log same = held_stays r.core s.core (ap (λ (x : Standing). x.slot) same) (s.named.1 ∙ sym r.named.1) log (ap (λ (x : Standing). x.ordinal) same)
