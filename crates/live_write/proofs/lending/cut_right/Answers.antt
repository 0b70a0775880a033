use Rattle.live_write.proofs.Cited.{List, [], ◌++◌, ap, ◌∙◌, subst, Log, Begins, lent_chains, own_chain, ChainRight, View, own_in}
use Rattle.live_write.proofs.Behind.{behind, has_own, listed_same, own_alone}
use Rattle.live_write.proofs.lending.cut_right.Goals as goal

pub returns-clause-chains : goal.returns-clause-chains
returns-clause-chains g c =
    let xs : List ChainRight = c.args.seat.now.me.0.chains in let one = c.cut_lent_chains-right.ensures in let two = c.cut_lent_chains-others.ensures in
    ap (λ z. z.0.chains) c.join.ensures.2 ∙ ((λ i. (one.2 i).0.chains ++ (two.4 i).0.chains) ∙ (ap (λ z. own_chain xs ++ lent_chains z.0.chains) one.4 ∙ behind xs (lent_chains (lent_chains xs)) c.requires.own.0))

pub returns-clause-right : goal.returns-clause-right
returns-clause-right g c =
    let xs : List ChainRight = c.args.seat.now.me.0.chains in let one = c.cut_lent_chains-right.ensures in let two = c.cut_lent_chains-others.ensures in let a = c.load_note.ensures in
    let chains = ap (λ z. z.0.chains) two.2 ∙ (ap (λ z. own_chain z.0.chains) one.4 ∙ own_alone (lent_chains xs) c.requires.right) in (
      a.seat.0 ∙ (two.0 ∙ one.3),
      a.looked.0 ∙ (ap (λ z. z.1) two.2 ∙ ap (λ z. z.1) one.4),
      ap (λ (v : View). v.sizes) a.looked.1 ∙ (ap (λ z. z.0.sizes) two.2 ∙ ap (λ z. z.0.sizes) one.4),
      (a.known.0.1 (has_own c.cut_lent_chains-others.new.seat.me.0.chains [] (own_in (lent_chains xs)) chains)).0,
      ap (λ (v : View). v.chains) a.looked.1 ∙ chains,
    )

pub returns-clause-later : goal.returns-clause-later
returns-clause-later g c =
    let a = c.load_note.ensures.looked.2 in
    (subst (λ (l : Log). Begins l c.load_note.new.seat.me.0.seen) (ap (λ z. z.0.seen) c.cut_lent_chains-others.ensures.2 ∙ ap (λ z. z.0.seen) c.cut_lent_chains-right.ensures.4) a.0, a.2)

pub returns-clause-seat : goal.returns-clause-seat
returns-clause-seat g c =
    let xs : List ChainRight = c.args.seat.now.me.0.chains in let one = c.cut_lent_chains-right.ensures in let two = c.cut_lent_chains-others.ensures in let j = c.join.ensures in
    let chains = ap (λ z. z.0.chains) j.2 ∙ ((λ i. (one.2 i).0.chains ++ (two.4 i).0.chains) ∙ (ap (λ z. own_chain xs ++ lent_chains z.0.chains) one.4 ∙ behind xs (lent_chains (lent_chains xs)) c.requires.own.0)) in
    let seen = ap (λ z. z.0.seen) j.2 ∙ ap (λ z. z.0.seen) one.2 in (
      (j.0 ∙ one.0, j.1 ∙ one.1),
      ap (λ z. z.1) j.2 ∙ ap (λ z. z.1) one.2,
      ap (λ z. z.0.sizes) j.2 ∙ ap (λ z. z.0.sizes) one.2,
      listed_same c.args.seat.now.me.0 c.join.new.seat.me.0 seen (ap own_in chains) c.requires.own.1,
      seen,
    )
