use Rattle.live_write.proofs.Cited.{List, ◌++◌, ap, sym, ◌∙◌, subst, Log, Begins, begins_trans, ChainRight, View, AreAsKnown}
use Rattle.live_write.proofs.Behind.{HasOwn, has_more}
use Rattle.live_write.proofs.lending.take_right.Goals as goal

pub returns-clause-chains : goal.returns-clause-chains
returns-clause-chains g c =
    ap (λ (v : View). v.chains) c.load_note-2.ensures.looked.1 ∙ (ap (λ z. z.0.chains) c.join.ensures.2 ∙ ap (λ (v : View). v.chains ++ c.args.other.me.0.chains) c.load_note.ensures.looked.1)

pub returns-clause-known : goal.returns-clause-known
returns-clause-known g c = subst (AreAsKnown c.load_note-2.new.seat.me.0.seen) (sym (ap (λ (v : View). v.chains) c.load_note-2.ensures.looked.1)) c.load_note-2.ensures.known.0.0

pub returns-clause-seat : goal.returns-clause-seat
returns-clause-seat g c =
    let xs : List ChainRight = c.args.seat.now.me.0.chains in let ys : List ChainRight = c.args.other.me.0.chains in
    let chains = ap (λ z. z.0.chains) c.join.ensures.2 ∙ ap (λ (v : View). v.chains ++ ys) c.load_note.ensures.looked.1 in
    let a = c.load_note.ensures in let j = c.join.ensures in let b = c.load_note-2.ensures in (
      (b.seat.0 ∙ (j.0 ∙ a.seat.0), b.seat.1 ∙ (j.1 ∙ a.seat.1)),
      b.looked.0 ∙ (ap (λ z. z.1) j.2 ∙ a.looked.0),
      ap (λ (v : View). v.sizes) b.looked.1 ∙ (ap (λ z. z.0.sizes) j.2 ∙ ap (λ (v : View). v.sizes) a.looked.1),
      (b.known.0.1 (subst HasOwn (sym chains) (has_more xs ys c.requires.seat.3))).0,
    )

pub returns-clause-later : goal.returns-clause-later
returns-clause-later g c =
    let s0 : Log = c.args.seat.now.me.0.seen in let s1 : Log = c.load_note.new.seat.me.0.seen in let s2 : Log = c.load_note-2.new.seat.me.0.seen in
    let a = c.load_note.ensures.looked.2 in let b = c.load_note-2.ensures.looked.2 in let j = c.join.ensures.2 in (
      begins_trans s0 s1 s2 a.0 (subst (λ (l : Log). Begins l s2) (ap (λ z. z.0.seen) j) b.0),
      subst (λ (l : Log). Begins l s2) (ap (λ z. z.0.heard) j) b.1,
      b.2,
    )
