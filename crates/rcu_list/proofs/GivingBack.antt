-- A caller takes a record, its retirement is refused, and it frees the record.
use Rattle.rcu_list.proofs.Cited.{Bool, ◌≡◌, ℕ, ◌∷◌, List, ap, sym, ◌∙◌, subst, Refusal, LiveEvent, Log, Begins, begins_trans, closed_at, RecordRight, Look, Loaded, Sizes, IsAfter, Stays, Ghosts, RefusesRetirement, cell_in, object_in, LoadsSeqBefore, TakesFor, TakesRecord, freed_look}
use Rattle.rcu_list.specs.Refusing.{GivesBack}
use Rattle.rcu_list.proofs.Writing.{stays_both}

-- by the caller at first, with the record, after the refusal, and at last; the record that is freed is the one taken
pub gives_back : {W S : Type 0} (w : Ghosts W S) (qsbr : Bool) (allows : Log → LiveEvent → Type 0) (sizes : Sizes) (a b c d : W) (e : Refusal) (queue : ℕ) (x y : RecordRight) → y ≡ x
    → Stays w a b → w.loads b ≡ w.loads a → Begins (w.heard a) (w.heard b) → TakesFor w sizes a b x
    → RefusesRetirement w qsbr allows sizes queue b c e
    → w.looks d ≡ freed_look sizes y ∷ w.looks c → IsAfter qsbr allows (w.seen c) (w.heard c) (w.heard d) → LoadsSeqBefore w qsbr allows c d → Stays w c d
    → GivesBack w qsbr allows sizes a d e queue
gives_back w qsbr allows sizes a b c d e queue x y same stays loads later took r freed heard load last = record {
  found = took.0;
  number = (object_in y).0;
  took = subst (λ (z : RecordRight). TakesRecord sizes (cell_in z) (object_in z).0 took.0) (sym same) took.2;
  closed = r.closed;
  cell = cell_in y;
  looks = freed ∙ ap (λ (l : List Look). freed_look sizes y ∷ l) (r.looked ∙ ap (λ (l : List Look). Loaded (closed_at sizes queue) r.closed ∷ l) took.1);
  at = w.heard c;
  told = r.told;
  within = (
    record {
      after_seen = subst (λ (l : Log). Begins l (w.heard c)) stays.0 r.after.after_seen;
      after_heard = begins_trans (w.heard a) (w.heard b) (w.heard c) later r.after.after_heard;
      run = r.after.run;
    },
    heard.after_heard,
    heard.run,
  );
  why = r.why;
  load = load.0;
  loads = load.1 ∙ ap (λ (l : List Log). load.0 ∷ l) (r.same.1 ∙ loads);
  same = stays_both w a b d stays (stays_both w b c d r.same.0 last);
}
