-- How an ask is answered.
use Rattle.live_waits.proofs.Cited.{Bool, true, false, ◌≡◌, ℕ, ◌<◌, ◌≤◌, [], ◌∷◌, sym, refl, subst, true≢false, ⊎_elim, LiveEvent, Close, SeqEven, SeqOdd, Log, Begins, Has, HaveEnded, IsBound, IsLiveRun, seq_of, begins_trans, ended_before, has_later, is_past, run_of, View, Precedes, Wrote, at_load, before_in}
use Rattle.live_waits.specs.Answers.{IsCookieOf, WholeGracePeriod}
use Rattle.live_waits.specs.Steps.{IsAnswered, IsUnderWay, Knows}

-- the bounds of a phase, and of a number, as facts that each flavour has
pub bound_of : (qsbr : Bool) (seq present : ℕ) → (qsbr ≡ false → present < 2) → (qsbr ≡ true → present ≤ seq) → IsBound qsbr seq present
bound_of false seq present phase number = phase refl
bound_of true seq present phase number = number refl

pub bound_phase : (qsbr : Bool) (seq present : ℕ) → IsBound qsbr seq present → qsbr ≡ false → present < 2
bound_phase false seq present b is = b
bound_phase true seq present b is = absurd (true≢false is)

pub bound_number : (qsbr : Bool) (seq present : ℕ) → IsBound qsbr seq present → qsbr ≡ true → present ≤ seq
bound_number true seq present b is = b
bound_number false seq present b is = absurd (true≢false (sym is))

-- what has ended stays so
pub ended_later : (old log new : Log) → Begins log new → HaveEnded old log → HaveEnded old new
ended_later old log new b ended r n m at = subst (Has (Close r n)) (sym b.1) (has_later (Close r n) b.0 log (ended r n m at))

module _ (qsbr : Bool) (allows : Log → LiveEvent → Type 0) where
  begins_whole : (v : View) (log : Log) → {seq present : ℕ} → (w : WholeGracePeriod qsbr allows v seq present log) → Begins w.before log
  begins_whole v log w = begins_trans w.before w.within log (begins_trans w.before (SeqOdd ∷ w.before) w.within (SeqOdd ∷ [], refl) w.began) (SeqEven ∷ [], w.over)

  pub whole_later : (v : View) (log : Log) → {seq present : ℕ} → WholeGracePeriod qsbr allows v seq present log → Precedes v log × IsLiveRun qsbr allows log
  whole_later v log w = let b = begins_whole v log w in ((begins_trans v.seen w.before log w.after.0 b, begins_trans v.heard w.before log w.after.1 b), w.run)

  -- so it is of a grace period that began after the seat looked at the log
  pub whole_before : (v : View) (seen log : Log) → Wrote qsbr allows v [] seen → {seq present : ℕ} → WholeGracePeriod qsbr allows (at_load v seen) seq present log → WholeGracePeriod qsbr allows v seq present log
  whole_before v seen log looked w = record {
    before = w.before;
    within = w.within;
    after = (begins_trans v.seen seen w.before (begins_trans v.seen looked.0 seen looked.2 ([], looked.1)) w.after.0, w.after.1);
    words = w.words;
    began = w.began;
    over = w.over;
    ended = w.ended;
    run = w.run;
  }

  -- a grace period of one's own answers what was asked before
  pub whole_ended : (v : View) (old log : Log) → Begins old v.heard → {seq present : ℕ} → WholeGracePeriod qsbr allows v seq present log → HaveEnded old log
  whole_ended v old log asked w = let b = begins_whole v log w in
      ended_before qsbr allows old w.before log (run_of qsbr allows w.before log b w.run) (begins_trans old v.heard w.before asked w.after.1) b w.ended

  -- what a step wrote stands in a later run
  pub wrote_later : (v : View) (events log : Log) → Wrote qsbr allows v events log → Precedes v log × IsLiveRun qsbr allows log
  wrote_later v events log w = ((begins_trans v.seen w.0 log w.2 (events, w.1), begins_trans v.heard w.0 log w.3 (events, w.1)), w.4)

  -- a grace period stays under way, and at its end what was open in the log has ended
  pub under_way_on : (asked : Log) (v w : View) → before_in w.grace ≡ before_in v.grace → Begins v.seen w.seen → IsUnderWay qsbr allows asked v → IsUnderWay qsbr allows asked w
  under_way_on asked v w same later u = record {
    after = subst (Begins asked) (sym same) u.after;
    since = subst (λ (l : Log). Begins l w.seen) (sym same) (begins_trans (before_in v.grace) v.seen w.seen u.since later);
    run = subst (IsLiveRun qsbr allows) (sym same) u.run;
  }

  pub under_way_ended : (asked : Log) (v : View) (log : Log) → Begins v.seen log → HaveEnded (before_in v.grace) log → IsUnderWay qsbr allows asked v → HaveEnded asked log
  under_way_ended asked v log later ended u = ended_before qsbr allows asked (before_in v.grace) log u.run u.after (begins_trans (before_in v.grace) v.seen log u.since later) ended

  pub looked_later : (v : View) (log : Log) → Wrote qsbr allows v [] log → Precedes v log × IsLiveRun qsbr allows log
  looked_later v log w = ((begins_trans v.seen w.0 log w.2 ([], w.1), begins_trans v.heard w.0 log w.3 ([], w.1)), w.4)

  -- another's answers it where the sequence number is at or above the cookie
  pub shared_ended : (v : View) (old log : Log) (cookie : ℕ) → IsCookieOf old cookie → cookie ≤ seq_of log → Begins old v.heard → Wrote qsbr allows v [] log → HaveEnded old log
  shared_ended v old log cookie fits past asked w = let later = looked_later v log w in
      is_past qsbr allows old cookie fits.0 fits.1 log (begins_trans old v.heard log asked later.0.1) later.1 past

  -- what the view knew stands in the log of a later load, and has ended there if the sequence number is at or above its
  -- cookie
  pub knows_later : (v : View) (log : Log) → Wrote qsbr allows v [] log → (asked : Log) → Knows v asked → Begins asked log
  knows_later v log w asked known = let later = looked_later v log w in
      ⊎_elim (λ s. begins_trans asked v.seen log s later.0.0) (λ h. begins_trans asked v.heard log h later.0.1) known

  pub known_ended : (v : View) (log : Log) (cookie : ℕ) → Wrote qsbr allows v [] log → cookie ≤ seq_of log → IsAnswered cookie v log
  known_ended v log cookie w past asked fits known = is_past qsbr allows asked cookie fits.0 fits.1 log (knows_later v log w asked known) w.4 past
