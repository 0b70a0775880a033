use Rattle.rcu_hash.proofs.Cited.{begins_trans, Log, Begins, chain_note, tabled, ChainNote, HasRight, Writes, ClearsNote, Naming, more_made, none_made, one_made, MakesMany, hold_at, ChainRight, Look, Stored, ◌≡◌, ℕ, ◌+◌, [], ◌∷◌, ◌∙◌, List, refl, sym, ap, subst, arith, leaves_left, may_clear_left, right_on}
use Rattle.rcu_hash.proofs.directory.DirectoryLock.give_back.Goals as goal

pub set_note-requires : goal.set_note-requires
set_note-requires g c = record {
  rule =
      let w = g.W.Caller in let w0 = c.args.caller.now in let three = c.lend-place.new.to in let e = c.lend-place.ensures in
      may_clear_left g.P.GracePlan.QSBR c.args.naming three.seat.me.0 e.right three.owns.0 three.owns.1 e.left.1 (w.seen w0) (w.heard w0) c.requires.waited three.number e.fits.2 three.owns.2
      (ap (λ (x : ChainRight). x.objects) e.own.0 ∙ c.requires.nothing) e.left.2;
}

pub take_back-requires : goal.take_back-requires
take_back-requires g c =
    let e = c.lend-place.ensures in let k = c.set_note.ensures.noted in let three = c.lend-place.new.to.seat.me.0 in let four = c.set_note.new.self.seat.me.0 in
    subst (λ (m : Naming). HasRight m four) (sym e.naming) (right_on g.P.GracePlan.QSBR c.args.naming three four e.right c.set_note.ensures.note.2 (begins_trans three.seen k.before four.seen k.after.after_writer.0 (_ ∷ [], k.wrote)) k.run)

pub returns : goal.returns
returns g c =
    let q = g.P.GracePlan.QSBR in let w = g.W.Caller in let sizes = g.B.Site.sizes in let n = c.args.naming in let w0 = c.args.caller.now in let w2 = c.set_note.new.caller in let w3 = c.release.new.caller in
    let three = c.lend-place.new.to in let e = c.lend-place.ensures in let k = c.set_note.ensures.noted in let log : Log = c.set_note.new.self.seat.me.0.seen in let r = c.release.ensures in let s = c.set_note.ensures.same in let alone : 1 + 0 ≡ 1 = omega arith in
    let writes : Writes q tabled (w.seen w0) (w.heard w0) (ChainNote three.number 0) log = record { before = k.before; wrote = k.wrote; after = k.after.after_caller; run = k.run } in
    let left = leaves_left q n three.seat.me.0 e.right three.owns.0 three.owns.1 e.left.1 (w.seen w0) (w.heard w0) (ChainNote three.number 0) log writes k.after.after_writer.0 k.known (λ i other. refl) sizes.chains e.fits.0 e.fits.1 e.left.2 in
    let goes : Begins log (w.heard w3) = subst (λ (l : Log). Begins l (w.heard w3)) c.set_note.ensures.heard r.heard.0.after_heard in record {
      cleared = (log, subst (λ (i : ℕ). ClearsNote q tabled sizes n.directory (w.seen w0) (w.heard w0) i log) e.own.1 (record { leaves = record { writes = writes; map = left.0 }; noted = ap (λ (i : ℕ). chain_note i k.before) (sym three.owns.2) ∙ left.1 }), goes);
      own = record { at = k.before; after = k.after.after_caller.1; before = subst (λ (l : Log). Begins l (w.heard w3)) (k.wrote ∙ (λ i. ChainNote (e.own.1 i) 0 ∷ k.before)) goes };
      freed = subst (λ (i : ℕ). w.looks w3 ≡ Stored (hold_at sizes i) 0 ∷ w.looks w0) (c.take_back.ensures.from.2 ∙ (c.set_note.ensures.note.3 ∙ e.own.1)) (r.freed ∙ ap (λ (l : List Look). Stored (hold_at sizes c.take_back.new.from.number) 0 ∷ l) s.1);
      same = (subst (MakesMany w w0 w3) alone (more_made w w0 w2 w3 1 0 (one_made w w0 w2 log s.0) (none_made w w2 w3 r.same.0)), r.same.1 ∙ s.2);
    }
