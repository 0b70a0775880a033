-- The readings of a section, reading by reading.
use Rattle.gp_memb.specs.declared.plan.GracePlan as plan
use Rattle.live_read.proofs.Cited.{◌++◌, append-nil, ◌≡◌, Bool, [], refl, sym, ap, ◌∙◌, subst, ObjectId, SectionId, IsOpen, LiveEvent, Log, Begins, IsLiveRun, section, state_of, Reading, log_more, AreFitted, FitIn, HoldsIn, IsSoIn, Readings, ReadsOn, StartsHeld, StaysOpen, later, log_in}
use Rattle.live_read.specs.declared.reader_core.ReaderCore.{ReaderCore}
use Rattle.live_read.specs.Holding.{log_of, section_of}
use Rattle.live_read.specs.Readings.{HasRead, HasReadMore, HasReadNoMore}
use Rattle.live_read.specs.Reads.{Looks}
use Rattle.live_read.specs.Sections.{IsIn}

module _ {P K : Type 0} {g : plan.Ghosts P} (qsbr : Bool) (allows : Log → LiveEvent → Type 0) where
  pub reads_nothing : (r : ReaderCore P K g) → (IsLiveRun qsbr allows (log_in (later (log_of r) [])) → AreFitted [] → AreFitted (later (log_of r) [])) → IsIn r → IsLiveRun qsbr allows (log_of r) → HasRead (section_of r) (later (log_of r) []) r
  reads_nothing r fitted inside run =
      let log : log_in (later (log_of r) []) ≡ log_of r = log_more (log_of r) [] ∙ append-nil (log_of r) in
      record { same = refl; inside = inside; fit = (log, fitted (subst (IsLiveRun qsbr allows) (sym log) run) tt) }

  pub waits : ((since : Log) (m : Readings) → IsLiveRun qsbr allows (log_in (later since m)) → AreFitted m → AreFitted (later since m))
      → ((since : Log) (m : Readings) (s : SectionId) (o : ObjectId) → IsLiveRun qsbr allows (log_in (later since m)) → IsOpen (state_of (log_in m)) s → IsOpen (state_of (log_in (later since m))) s → HoldsIn m s o → HoldsIn (later since m) s o)
      → (r t : ReaderCore P K g) (s : SectionId) (m : Readings) → HasRead s m r → IsIn t → section_of t ≡ s → Begins (log_of r) (log_of t) → IsLiveRun qsbr allows (log_of t) → HasReadNoMore s m t
  waits fitted held r t s m has inside same later_log run =
      let since : Log = later_log.0 in
      let log : log_in (later since m) ≡ log_of t = log_more since m ∙ (ap (λ (l : Log). since ++ l) has.fit.0 ∙ sym later_log.1) in
      let run' : IsLiveRun qsbr allows (log_in (later since m)) = subst (IsLiveRun qsbr allows) (sym log) run in
      let was : IsOpen (state_of (log_in m)) s = subst (λ (l : Log). IsOpen (state_of l) s) (sym has.fit.0) (subst (λ (u : SectionId). IsOpen (state_of (log_of r)) u) has.same has.inside.is_open) in
      let is : IsOpen (state_of (log_in (later since m))) s = subst (λ (l : Log). IsOpen (state_of l) s) (sym log) (subst (λ (u : SectionId). IsOpen (state_of (log_of t)) u) same inside.is_open) in
      record { since = since; read = record { same = same; inside = inside; fit = (log, fitted since m run' has.fit.1) }; keeps = λ o h. held since m s o run' was is h }

  pub reads_more : ((old new : Log) (m : Readings) (s : SectionId) (x : Reading) → StaysOpen qsbr allows s old new → FitIn m old → StartsHeld m s x → IsSoIn new x → ReadsOn m s x new)
      → (r t : ReaderCore P K g) (s : SectionId) (m : Readings) (x : Reading) → HasRead s m r → Looks qsbr allows r t → StartsHeld m s x → IsSoIn (log_of t) x → HasReadMore s m x t
  reads_more law r t s m x has l held so =
      let same : section_of t ≡ s = (λ i. section (l.same.0 i) (l.same.4 i)) ∙ has.same in
      let stays : StaysOpen qsbr allows s (log_of r) (log_of t) = record {
        was_open = subst (λ (u : SectionId). IsOpen (state_of (log_of r)) u) has.same has.inside.is_open;
        is_open = subst (λ (u : SectionId). IsOpen (state_of (log_of t)) u) same l.inside.is_open;
        later = l.later.after_seen;
        run = l.later.run;
      } in
      let on = law (log_of r) (log_of t) m s x stays has.fit held so in
      record { since = on.since; read = record { same = same; inside = l.inside; fit = on.fit }; keeps = on.keeps; finds = on.finds }
