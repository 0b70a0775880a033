-- What a program sees by a seat that was told what it has seen.
use Rattle.domain.proofs.Cited.{Bool, ◌≡◌, ℕ, List, ◌∷◌, ◌++◌, append-nil, ap, ◌∙◌, subst, LiveEvent, Log, Begins, Sizes, View, bare, Looks, Stalls}

-- the caller takes in what the seat found
pub stalls_for : (qsbr : Bool) (allows : Log → LiveEvent → Type 0) (key sizes : Sizes) (seen heard : Log) (v : View) (earlier loaded loads : List Log) (before looked looks : Looks) (slots : List ℕ) (log : Log)
    → v ≡ bare sizes seen heard → loads ≡ loaded ++ earlier → looks ≡ looked ++ before
    → Stalls qsbr allows key v.seen v.heard v.loads loaded v.looks looked slots log
    → Stalls qsbr allows key seen heard earlier loads before looks slots log
stalls_for qsbr allows key sizes seen heard v earlier loaded loads before looked looks slots log is loads_are looks_are s = record {
  start = s.start;
  found = s.found;
  load = loads_are ∙ ap (λ (l : List Log). l ++ earlier) (s.load ∙ ap (λ (w : View). s.start ∷ w.loads) is);
  looks = looks_are ∙ ap (λ (l : Looks). l ++ before) (s.looks ∙ (ap (λ (w : View). s.found ++ w.looks) is ∙ append-nil s.found));
  after = (subst (λ (l : Log). Begins l s.start) (ap (λ (w : View). w.seen) is) s.after.0, subst (λ (l : Log). Begins l s.start) (ap (λ (w : View). w.heard) is) s.after.1);
  later = s.later;
  run = s.run;
  resting = s.resting;
  running = s.running;
  had_open = s.had_open;
}
