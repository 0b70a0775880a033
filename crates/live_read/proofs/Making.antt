-- What a caller knows after one call and another, where a change of a chain was made for it in one of them.
use Rattle.live_read.proofs.Cited.{ℕ, ◌+◌, [], ◌∷◌, ◌++◌, ◌∙◌, ap, sym, refl, append_assoc, arith, length-append, Log}
use Rattle.live_read.specs.Hearing.{MakesLast, MakesMany, OnlyHears, OnlyMakesLast, OnlyMakesMany, Stays}
use Rattle.live_read.specs.declared.caller.Caller.{Ghosts}

module _ {W S : Type 0} (w : Ghosts W S) (a b c : W) (log : Log) where
  -- the change came first
  pub makes_stays : MakesLast w a b log → Stays w b c → MakesLast w a c log
  makes_stays m s = let n = m.made in record {
    event = m.event;
    before = m.before;
    is = m.is;
    made = (s.0 ∙ n.0, s.1 ∙ n.1, λ h. s.2 (n.2 h), s.3 ∙ n.3);
  }

  pub makes_hears : OnlyMakesLast w a b log → OnlyHears w b c → OnlyMakesLast w a c log
  makes_hears m s = (makes_stays m.0 s.0.0, s.0.1 ∙ m.1, s.1 ∙ m.2)

  -- the change came last
  pub stays_makes : Stays w a b → MakesLast w b c log → MakesLast w a c log
  stays_makes s m = let n = m.made in record {
    event = m.event;
    before = m.before;
    is = m.is;
    made = (n.0 ∙ s.0, n.1 ∙ s.1, λ h. n.2 (s.2 h), n.3 ∙ ap (λ (l : Log). m.event ∷ l) s.3);
  }

  pub hears_makes : OnlyHears w a b → OnlyMakesLast w b c log → OnlyMakesLast w a c log
  hears_makes s m = (stays_makes s.0.0 m.0, m.1 ∙ s.0.1, m.2 ∙ s.1)

-- how many changes were made
module _ {W S : Type 0} (w : Ghosts W S) where
  pub none_made : (a b : W) → Stays w a b → MakesMany w a b 0
  none_made a b s = record { changes = []; are = refl; made = s }

  pub one_made : (a b : W) (log : Log) → MakesLast w a b log → MakesMany w a b 1
  one_made a b log m = record { changes = m.event ∷ []; are = refl; made = m.made }

  pub more_made : (a b c : W) (m n : ℕ) → MakesMany w a b m → MakesMany w b c n → MakesMany w a c (m + n)
  more_made a b c m n x y = let s = x.made in let t = y.made in record {
    changes = y.changes ++ x.changes;
    are = let all = length-append y.changes x.changes in omega (arith, all, x.are, y.are);
    made = (t.0 ∙ s.0, t.1 ∙ s.1, λ h. t.2 (s.2 h), t.3 ∙ (ap (λ (l : Log). y.changes ++ l) s.3 ∙ sym (append_assoc y.changes x.changes (w.changes a))));
  }

  pub none_only : (a b : W) → OnlyHears w a b → OnlyMakesMany w a b 0
  none_only a b h = (none_made a b h.0.0, h.0.1, h.1)

  pub one_only : (a b : W) (log : Log) → OnlyMakesLast w a b log → OnlyMakesMany w a b 1
  one_only a b log m = (one_made a b log m.0, m.1, m.2)

  pub more_only : (a b c : W) (m n : ℕ) → OnlyMakesMany w a b m → OnlyMakesMany w b c n → OnlyMakesMany w a c (m + n)
  more_only a b c m n x y = (more_made a b c m n x.0 y.0, y.1 ∙ x.1, y.2 ∙ x.2)
