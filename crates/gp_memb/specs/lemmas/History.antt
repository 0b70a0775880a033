-- The history of a plan under any loads: what one more turn makes of it.
use Rattle.std.specs.Prelude.{◌≡◌, ◌≢◌, ◌<◌, ℕ, ◌≤◌, Bool, true, List, [], ◌∷◌, ◌++◌}
use Rattle.std.proofs.Common.{refl, sym, ap, ◌∙◌, subst}
use Rattle.reader_word.specs.declared.layout.Layout.{Layout}
use Rattle.gp_memb.specs.declared.plan.Action.{Action}
use Rattle.gp_memb.specs.declared.plan.Action.TheVariants.{Load, LoadGroup, StorePhase, StoreSeq, Finished}
use Rattle.gp_memb.specs.Plan.{Shows, ShowsOpen, after_loads, EachLoadShows, EachLoadShowsSince, from_seq, WaitsForOpen}
use Rattle.gp_memb.specs.PlanLaws.{MayBe}

pub after_snoc : {P : Type 0} (taken : P → ℕ → P) (p : P) (xs : List ℕ) (x : ℕ) → after_loads taken p (xs ++ x ∷ []) ≡ taken (after_loads taken p xs) x
after_snoc taken p [] x = refl
after_snoc taken p (y ∷ ys) x = after_snoc taken (taken p y) ys x

-- what holds from the first store on, from what holds there and later
seq_is : (a : Action) {now later : Type 0} → now → later → from_seq a now later
seq_is (StoreSeq value) now later = now
seq_is (Load slot) now later = later
seq_is (LoadGroup group) now later = later
seq_is (StorePhase value) now later = later
seq_is Finished now later = later

seq_map : (a : Action) {now later now' later' : Type 0} → (now → now') → (later → later') → from_seq a now later → from_seq a now' later'
seq_map (StoreSeq value) f g h = f h
seq_map (Load slot) f g h = g h
seq_map (LoadGroup group) f g h = g h
seq_map (StorePhase value) f g h = g h
seq_map Finished f g h = g h

module _ {P : Type 0} (action : P → Action) (taken : P → ℕ → P) (shows : Action → ℕ → Type 0) where
  pub each_snoc : (p : P) (xs : List ℕ) (x : ℕ) →
      EachLoadShows action taken shows p xs → shows (action (after_loads taken p xs)) x → EachLoadShows action taken shows p (xs ++ x ∷ [])
  each_snoc p [] x each last = (last, tt)
  each_snoc p (y ∷ ys) x each last = (each.0, each_snoc (taken p y) ys x each.1 last)

  pub since_snoc : (p : P) (xs : List ℕ) (x : ℕ) →
      EachLoadShowsSince action taken shows p xs → shows (action (after_loads taken p xs)) x → EachLoadShowsSince action taken shows p (xs ++ x ∷ [])
  since_snoc p [] x since last = seq_is (action p) tt tt
  since_snoc p (y ∷ ys) x since last =
      seq_map (action p) (λ each. each_snoc (taken p y) ys x each last) (λ later. since_snoc (taken p y) ys x later last) since

-- what a turn loads that loads no group word
pub shows_slot : (qsbr : Bool) (layout : Layout) (slot mark : ℕ) (a : Action) (word : ℕ) → ((group : ℕ) → a ≢ LoadGroup group) → (a ≡ Load slot → Shows qsbr layout mark word) → ShowsOpen qsbr layout slot mark a word
shows_slot qsbr layout slot mark (Load k) word none shown = λ same. shown (ap Load same)
shows_slot qsbr layout slot mark (LoadGroup group) word none shown = absurd (none group refl)
shows_slot qsbr layout slot mark (StorePhase value) word none shown = tt
shows_slot qsbr layout slot mark (StoreSeq value) word none shown = tt
shows_slot qsbr layout slot mark Finished word none shown = tt

module _ {P : Type 0} (qsbr : Bool) (action : P → Action) (taken : P → ℕ → P) (layout : Layout) (begun : ℕ → ℕ → P → Type 0) where
  -- a plan that has just begun
  pub may_begin : (seq word : ℕ) (p : P) (slot mark : ℕ) → begun seq word p → (qsbr ≡ true → mark ≤ word) → MayBe qsbr action taken layout begun p slot mark
  may_begin seq word p slot mark begins fits =
      record { seq = seq; word = word; from = p; begun_from = begins; fits = fits; loads = []; is = refl; shown = tt }

  -- after one more turn
  pub may_turn : (p : P) (slot mark loaded : ℕ) → MayBe qsbr action taken layout begun p slot mark → ShowsOpen qsbr layout slot mark (action p) loaded → MayBe qsbr action taken layout begun (taken p loaded) slot mark
  may_turn p slot mark loaded m shown = record {
    seq = m.seq;
    word = m.word;
    from = m.from;
    begun_from = m.begun_from;
    fits = m.fits;
    loads = m.loads ++ loaded ∷ [];
    is = ap (λ q. taken q loaded) m.is ∙ sym (after_snoc taken m.from m.loads loaded);
    shown = since_snoc action taken (ShowsOpen qsbr layout slot mark) m.from m.loads loaded m.shown (subst (λ q. ShowsOpen qsbr layout slot mark (action q) loaded) m.is shown);
  }

  -- it is never finished
  pub never_finished : (slots : ℕ) → ((seq word : ℕ) (p : P) → begun seq word p → WaitsForOpen qsbr action taken layout slots word p) →
      (p : P) (slot mark : ℕ) → slot < slots → MayBe qsbr action taken layout begun p slot mark → action p ≢ Finished
  never_finished slots waits p slot mark within m e = waits m.seq m.word m.from m.begun_from slot mark m.loads within m.fits m.shown (ap action (sym m.is) ∙ e)
