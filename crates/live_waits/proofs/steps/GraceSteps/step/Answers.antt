-- A step of a grace period that is going.
use Rattle.live_waits.proofs.Cited.{rules, ◌≡◌, ℕ, ◌+◌, ◌<◌, true, arith, sym, ◌∙◌, subst, true≢false, ∥∥₁_elim, ∥∥₁_map, le_prop, Wide, Me, CallbackId, View}
use Rattle.live_waits.specs.declared.period.Progress.TheVariants.{Done}
use Rattle.live_waits.specs.Going.{InLoop}
use Rattle.live_waits.proofs.Answering.{bound_number, bound_phase, under_way_ended, under_way_on}
use Rattle.live_waits.proofs.steps.GraceSteps.step.Given as given
use Rattle.live_waits.proofs.steps.GraceSteps.step.Goals.{in-Done, in_default}
use Rattle.live_waits.proofs.steps.GraceSteps.step.Goals as goal

abbrev Stands : (g : given.Over) → ℕ → ℕ → Me CallbackId View → g.row.P.Denot → ℕ → Type 0
Stands g seq number now plan slots = let p = g.P.GracePlan in
    (old : Me CallbackId View) × InLoop (p.is_begun Wide true slots seq number) p.action p.taken p.present seq p.QSBR g.K.ChainRule.allows old number plan now

pub turn-progress-requires-clause-going : goal.turn-progress-requires-clause-going
turn-progress-requires-clause-going g c = let now = c.args.self.now in
    subst (λ (slots : ℕ). ∥ Stands g now.seq now.first now.seat.me now.plan slots ∥₁) c.requires.table.1 (now.goes c.requires.going)

is_done : (g : given.Over) (c : goal.Then-matches g) → c.turn-progress.result ≡ Done
is_done g c = elim c.match-matches.branch [
  | in-Done w ↦ search rules
  | in_default w ↦ absurd (true≢false (sym c.if-matches.true ∙ w.matches-is))
]

not_done : (g : given.Over) (c : goal.Else-matches g) → c.turn-progress.result ≡ Done → ⊥
not_done g c done = elim c.match-matches.branch [
  | in-Done w ↦ true≢false (sym w.matches-is ∙ c.if-matches.false)
  | in_default w ↦ search rules
]

pub invariant_of-self : goal.invariant_of-self
invariant_of-self g c = let now = c.args.self.now in let t = c.turn-progress in let p = g.P.GracePlan in
    let e = t.ensures.ended (is_done g c) in let even = now.rests.2 in
    let same : t.new.present ≡ p.present now.plan = e.1 ∙ (now.works c.requires.going).1 in record {
      rests = ((λ _. e.0), t.ensures.seat.1 ∙ now.rests.1, omega arith);
      bounds = λ _. (
        (λ q. ∥∥₁_elim (now.goes c.requires.going) le_prop (λ z. let inv = z.1 in subst (λ (n : ℕ). n < 2) (sym same) (bound_phase p.QSBR (now.seq + 1) (p.present now.plan) inv.2 q))),
        (λ q. ∥∥₁_elim (now.goes c.requires.going) le_prop (λ z. let inv = z.1 in let b = bound_number p.QSBR (now.seq + 1) (p.present now.plan) inv.2 q in omega arith)),
      );
      works = λ f. absurd (true≢false (sym f));
      goes = λ f. absurd (true≢false (sym f));
    }

pub invariant_of-self-else-matches : goal.invariant_of-self-else-matches
invariant_of-self-else-matches g c = let now = c.args.self.now in let t = c.turn-progress in
    let not = not_done g c in let k = t.ensures.goes not in let w = now.works c.requires.going in record {
      rests = ((λ f. absurd (true≢false (sym c.requires.going ∙ f))), t.ensures.seat.1 ∙ now.rests.1, now.rests.2);
      bounds = λ f. absurd (true≢false (sym c.requires.going ∙ f));
      works = λ is. (k.0, k.1, w.2, w.3);
      goes = λ is. ∥∥₁_map (now.goes c.requires.going) (λ z.
          let at = subst (Stands g now.seq now.first now.seat.me now.plan) c.requires.table.1 z in
          subst (Stands g now.seq now.first t.new.seat.me t.new.plan) (sym c.requires.table.1) (at.0, t.ensures.going at.0 not at.1));
    }

pub returns-then-matches-clause-ended : goal.returns-then-matches-clause-ended
returns-then-matches-clause-ended g c = λ done asked under. let t = c.turn-progress in
    under_way_ended g.P.GracePlan.QSBR g.K.ChainRule.allows asked c.args.self.now.seat.me.0 t.new.seat.me.0.seen t.ensures.later.0.0 (t.ensures.ended done).3 under

pub returns-else-matches-clause-under_way : goal.returns-else-matches-clause-under_way
returns-else-matches-clause-under_way g c = λ not asked under. let t = c.turn-progress in
    under_way_on g.P.GracePlan.QSBR g.K.ChainRule.allows asked c.args.self.now.seat.me.0 t.new.seat.me.0 (t.ensures.goes not).2 t.ensures.later.0.0 under
