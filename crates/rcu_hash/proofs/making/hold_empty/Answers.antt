use Rattle.rcu_hash.proofs.Cited.{Log, chain_note, state_of, tabled, Looked, IsInUse, stays_both, IsAfter, hold_at, lent_chains, ChainRight, Look, Stored, Loaded, View, own_in, list_in, ◌≡◌, ℕ, [], ◌∷◌, ◌∙◌, length, refl, sym, ap, subst, inl, inr, arith, ⊎_elim, nil_from_length, after_since, holds_none}
use Rattle.rcu_hash.proofs.making.hold_empty.Given.{Over}
use Rattle.rcu_hash.proofs.making.hold_empty.Goals.{After-hear, then-note-ne0-via-then-note-ne0, then-note-ne0-via-else-note-ne0+then-len-ne0}
use Rattle.rcu_hash.proofs.making.hold_empty.Goals as goal

abbrev word_of : Look → ℕ
word_of (Loaded a n) = n
word_of (Stored a n) = n

other_word : (place : ℕ) → Loaded place 1 ≡ Loaded place 0 → ⊥
other_word place same = let words : 1 ≡ 0 = ap word_of same in absurd (omega (arith, words))

-- once the caller has heard of what the chain's writer saw
module _ (g : Over) (c : After-hear g) where
  after : IsAfter g.P.GracePlan.QSBR tabled (g.W.Caller.seen c.args.caller.now) (g.W.Caller.heard c.args.caller.now) (g.W.Caller.heard c.hear.new.caller)
  after =
      let w = g.W.Caller in let w0 = c.args.caller.now in let w1 = c.chain.new.caller in let e = c.chain.ensures in let h = c.hear.ensures in
      subst (IsAfter g.P.GracePlan.QSBR tabled (w.seen w0) (w.heard w0)) (sym h.heard) (after_since g.P.GracePlan.QSBR tabled (w.seen w0) (w.heard w0) (w.seen w1) (w.heard w1) c.hear.new.self.seat.me.0.seen e.same.0.0 (e.heard c.requires).after_heard h.told.0)

  -- what it links and which note it has, in the log of which the caller heard
  known : ((state_of (g.W.Caller.heard c.hear.new.caller)).chain c.args.chain ≡ list_in c.hear.new.self.seat.me.0) × (chain_note c.args.chain (g.W.Caller.heard c.hear.new.caller) ≡ (own_in c.hear.new.self.seat.me.0.chains).note)
  known =
      let one = c.hear.new.self in let v = one.seat.me.0 in let h = c.hear.ensures in let number : (own_in v.chains).chain ≡ c.args.chain = one.owns.2 ∙ (h.chains.1 ∙ c.in-Ok.ensures.held.0) in (
        ap (λ (l : Log). (state_of l).chain c.args.chain) h.heard ∙ subst (λ (k : ℕ). (state_of v.seen).chain k ≡ list_in v) number one.owns.1.0,
        ap (chain_note c.args.chain) h.heard ∙ subst (λ (k : ℕ). chain_note k v.seen ≡ (own_in v.chains).note) number one.owns.1.2,
      )

  looked : (l : Looked g.W.Caller g.B.Site.sizes [] [] c.args.caller.now c.hear.new.caller) × (l.found ≡ Stored (hold_at g.B.Site.sizes c.args.chain) 1 ∷ Loaded (hold_at g.B.Site.sizes c.args.chain) 0 ∷ [])
  looked =
      let w = g.W.Caller in let e = c.chain.ensures.same in let h = c.hear.ensures.same in let place = hold_at g.B.Site.sizes c.args.chain in (
        record {
          stays = stays_both w c.args.caller.now c.chain.new.caller c.hear.new.caller e.0 h.0.0;
          heard = after.after_heard;
          loads = h.1 ∙ e.1;
          found = Stored place 1 ∷ Loaded place 0 ∷ [];
          looks = h.0.1 ∙ c.in-Ok.ensures.held.2;
          freed = λ i. inr (holds_none g.B.Site.sizes c.args.chain c.requires i);
        },
        refl,
      )

-- its hold word told that it has a writer
pub returns-in-Err : goal.returns-in-Err
returns-in-Err g c =
    let w = g.W.Caller in let e = c.chain.ensures in let place = hold_at g.B.Site.sizes c.args.chain in let why = c.in-Err.ensures.refused in record {
      held = tt;
      refused = ⊎_elim
          (λ none. let over = none.1 in let low = c.requires in absurd (omega (arith, over, low)))
          (λ busy. (refl, record { chain = c.args.chain; one = refl; found = Loaded place 1 ∷ []; looks = busy.2; why = inl (inl refl, λ h. ⊎_elim (λ same. absurd (other_word place same)) (λ none. absurd none) h) }))
          why;
      unused = tt;
      heard = e.heard c.requires;
      same = (
        ⊎_elim
            (λ none. record { stays = e.same.0; heard = (e.heard c.requires).after_heard; loads = e.same.1; found = []; looks = ap w.looks none.2; freed = λ i. inr tt })
            (λ busy. record { stays = e.same.0; heard = (e.heard c.requires).after_heard; loads = e.same.1; found = Loaded place 1 ∷ []; looks = busy.2; freed = λ i. inr tt })
            why,
        tt,
      );
    }

-- it links an object, or has a note
pub returns-then-note-ne0 : goal.returns-then-note-ne0
returns-then-note-ne0 g c =
    let a = (goal.at.returns-then-note-ne0 g c).After-hear in let place = hold_at g.B.Site.sizes c.args.chain in let log : Log = g.W.Caller.heard c.hear.new.caller in let is = known g a in
    let own : own_in c.note.new.self.seat.me.0.chains ≡ own_in c.hear.new.self.seat.me.0.chains = ap (λ (v : View). own_in v.chains) c.note.ensures.looked.1.1 in
    let used : IsInUse c.args.chain log = elim c.then-note-ne0.branch [ then-note-ne0-via-then-note-ne0 b ↦ inr (λ none. b.if-note-ne0.true (c.note.ensures.note.0 ∙ (sym is.1 ∙ none))) | then-note-ne0-via-else-note-ne0+then-len-ne0 b ↦ inl (λ none. b.if-len-ne0.true (b.len.ensures ∙ ap length (ap (λ (x : ChainRight). x.objects) own ∙ (sym is.0 ∙ none)))) ] in record {
      held = tt;
      refused = (refl, record { chain = c.args.chain; one = refl; found = Stored place 1 ∷ Loaded place 0 ∷ []; looks = c.hear.ensures.same.0.1 ∙ c.in-Ok.ensures.held.2; why = inr (record { at = log; after = after g a; before = ([], refl); so = used }) });
      unused = tt;
      heard = after g a;
      same = ((looked g a).0, tt);
    }

pub returns : goal.returns
returns g c =
    let a = (goal.at.returns g c).After-hear in let h = c.hear.ensures in let l = c.note.ensures.looked in let now = c.note.new.self.seat.me.0 in let is = known g a in
    let own : own_in now.chains ≡ own_in c.hear.new.self.seat.me.0.chains = ap (λ (v : View). own_in v.chains) l.1.1 in
    let nothing : list_in now ≡ [] = nil_from_length (list_in now) (sym c.len.ensures ∙ c.if-len-ne0.false) in let note = sym c.note.ensures.note.0 ∙ c.if-note-ne0.false in record {
      held = (
        l.2 ∙ (h.chains.1 ∙ c.in-Ok.ensures.held.0),
        (nothing, ap (λ (x : ChainRight). x.note) own ∙ note),
        ap (λ (v : View). lent_chains v.chains) l.1.1 ∙ (ap lent_chains h.chains.0 ∙ c.in-Ok.ensures.run.1),
        l.1.2.2,
      );
      refused = tt;
      unused = (is.0 ∙ (ap (λ (x : ChainRight). x.objects) (sym own) ∙ nothing), is.1 ∙ note);
      heard = after g a;
      same = looked g a;
    }
