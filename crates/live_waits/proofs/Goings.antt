-- How a seat goes through a grace period.
use Rattle.live_waits.proofs.Cited.{◌≡◌, ℕ, ◌+◌, ◌≤◌, List, [], ◌∷◌, ◌++◌, Bool, true, false, sym, refl, ap, ◌∙◌, subst, arith, append_assoc, Me, MayStore, LiveEvent, SeqOdd, SeqEven, Log, present_of, seq_of, before_odd, HaveEnded, IsLiveRun, MayBePresent, Begins, begins_trans, View, GraceRight, Works, Precedes, Wrote, at_log, before_in, GraceBecomes}
use Rattle.live_waits.specs.Answers.{Gained, WholeGracePeriod}
use Rattle.live_waits.specs.Going.{Going}

module _ {S : Type 0} (qsbr : Bool) (allows : Log → LiveEvent → Type 0) (old : Me S View) where
  -- the seat has changed nothing but what it has seen and its right to SEQ
  abbrev pub Only : Me S View → Type 0
  Only now = now ≡ (record (at_log old.0 now.0.seen) { grace = now.0.grace }, old.1)

  pub only_after : (right : GraceRight) (events : Log) (m m' : Me S View) → Only m → GraceBecomes qsbr allows right events m m' → Only m'
  only_after right events m m' o g = g.0 ∙ (ap (λ (z : Me S View). (record (at_log z.0 m'.0.seen) { grace = right }, z.1)) o ∙ ap (λ (x : GraceRight). (record (at_log old.0 m'.0.seen) { grace = x }, old.1)) (sym (ap (λ (z : Me S View). z.0.grace) g.0)))

  pub starts_going : (q t : ℕ) (new : Me S View) → GraceBecomes qsbr allows (Works q t (before_odd new.0.seen) []) (SeqOdd ∷ []) old new → present_of (before_odd new.0.seen) ≡ t → seq_of (before_odd new.0.seen) + 1 ≡ q
      → Going qsbr allows old q t t [] new
  starts_going q t new g number odd =
      let is = ap (λ (z : Me S View). z.0.grace) g.0 in
      let seen = g.1.1 in
      let mark : before_in new.0.grace ≡ g.1.0 = ap before_in is ∙ ap before_odd seen in
      record {
        only = g.0 ∙ ap (λ (x : GraceRight). (record (at_log old.0 new.0.seen) { grace = x }, old.1)) (sym is);
        is = is ∙ (λ i. Works q t (sym (ap before_in is) i) []);
        after = subst (Precedes old.0) (sym mark) (g.1.2, g.1.3);
        since = ([], seen ∙ ap (λ l. SeqOdd ∷ l) (sym mark));
        run = subst (IsLiveRun qsbr allows) (sym mark) (subst (IsLiveRun qsbr allows) seen g.1.4).1;
        began = ap present_of (ap before_in is) ∙ number;
        numbered = ap (λ (l : Log). seq_of l + 1) (ap before_in is) ∙ odd;
      }

  -- a further step of the period
  pub goes_on : (q first number number' : ℕ) (looks looks' : List (ℕ × ℕ)) (right : GraceRight) (events : Log) (m m' : Me S View) → Going qsbr allows old q first number looks m → right ≡ Works q number' (before_in m.0.grace) looks' → GraceBecomes qsbr allows right events m m'
      → Going qsbr allows old q first number' looks' m'
  goes_on q first number number' looks looks' right events m m' go are g =
      let is = ap (λ (z : Me S View). z.0.grace) g.0 ∙ are in
      let mark : before_in m'.0.grace ≡ before_in m.0.grace = ap before_in is in
      record {
        only = only_after right events m m' go.only g;
        is = is ∙ (λ i. Works q number' (sym mark i) looks');
        after = subst (Precedes old.0) (sym mark) go.after;
        since = subst (λ (l : Log). Begins (SeqOdd ∷ l) m'.0.seen) (sym mark) (begins_trans (SeqOdd ∷ before_in m.0.grace) m.0.seen m'.0.seen go.since (begins_trans m.0.seen g.1.0 m'.0.seen g.1.2 (events, g.1.1)));
        run = subst (IsLiveRun qsbr allows) (sym mark) go.run;
        began = ap present_of mark ∙ go.began;
        numbered = ap (λ (l : Log). seq_of l + 1) mark ∙ go.numbered;
      }

  -- the last store makes the period whole
  pub whole : (seq first number : ℕ) (looks : List (ℕ × ℕ)) (right : GraceRight) (m m' : Me S View) → Going qsbr allows old (seq + 1) first number looks m → GraceBecomes qsbr allows right (SeqEven ∷ []) m m'
      → HaveEnded (before_in m.0.grace) m'.0.seen → WholeGracePeriod qsbr allows old.0 seq first m'.0.seen
  whole seq first number looks right m m' go g ended = record {
    before = before_in m.0.grace;
    within = g.1.0;
    after = go.after;
    words = (let n = go.numbered in omega arith, go.began);
    began = begins_trans (SeqOdd ∷ before_in m.0.grace) m.0.seen g.1.0 go.since g.1.2;
    over = g.1.1;
    ended = ended;
    run = g.1.4;
  }

-- a plan's store is one that the rule allows, and keeps PHASE or NUM in its bounds
pub stored_turn : (qsbr : Bool) (seq first number value : ℕ) → MayStore qsbr first value → (qsbr ≡ true → number ≤ value) → (qsbr ≡ true → first ≤ seq) → MayBePresent qsbr (seq + 1) number value
stored_turn true seq first number value may rises low = let r = rises refl in let l = low refl in (r, omega arith)
stored_turn false seq first number value may rises low = omega arith

-- what stood in the log stands there still
gained_later : (es base old new : Log) → Begins old new → Gained es base old → Gained es base new
gained_later [] base old new b h = begins_trans base old new h b
gained_later (e ∷ es) base old new b h = (b.0 ++ h.0, h.1, b.1 ∙ (ap (λ (l : Log). b.0 ++ l) h.2 ∙ sym (append_assoc b.0 h.0 (e ∷ h.1))), h.3)

on_top : (events es base log : Log) → Gained es base log → Gained (events ++ es) base (events ++ log)
on_top [] es base log h = h
on_top (e ∷ events) es base log h = ([], events ++ log, refl, on_top events es base log h)

-- and what a step wrote stands above it
pub gained_more : (qsbr : Bool) (allows : Log → LiveEvent → Type 0) (events es base : Log) (v : View) (seen : Log) → Wrote qsbr allows v events seen → Gained es base v.seen → Gained (events ++ es) base seen
gained_more qsbr allows events es base v seen w h = subst (Gained (events ++ es) base) (sym w.1) (on_top events es base w.0 (gained_later es base v.seen w.0 w.2 h))
