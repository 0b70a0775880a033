use Rattle.schedule.proofs.Cited.{◌++◌, List, ℕ, ap, arith, no_line}
use Rattle.schedule.specs.Play.{point}
use Rattle.schedule.proofs.Playing.{plays_more, met_answer}
use Rattle.schedule.proofs.running.Running.feed.Goals as goal
use Rattle.schedule.proofs.running.Running.feed.Goals.{in-Ok-Quiet+in_ok-print_answer-in-Ok-Quiet, in_default+in_ok-print_answer-in_default}

pub loop-line-preserved : goal.loop-line-preserved
loop-line-preserved c =
    let i = c.loop-line.invariant in
    let next = (rw c.in-Ok-Some.field-0-is at c.in-Ok-Some.ensures).next in
    let start = point c.args.self.now.world c.args.self.now.line (c.args.self.now.held ++ c.args.piece.now) c.args.out.now.items in
    let stop = point c.loop-line.self.world c.loop-line.self.line (c.loop-line.self.held ++ c.loop-line.rest.now) c.loop-line.out.items in
    let met =
    met_answer _ _ _ c.step.result c.step.ensures.table
    (λ e.
    elim c.match-step.branch [
      | in-Ok-Quiet+in_ok-print_answer-in-Ok-Quiet w ↦ grind (arith, e, w.in-Ok-Quiet.is)
      | in_default+in_ok-print_answer-in_default w ↦ grind (arith, e)
    ]) in
    record {
      good = λ e. let n = next (i.good e) in rw n.1 no_line;
      plays = λ e.
          let n = next (i.good e) in
          plays_more start stop c.in-Ok-Some.line c.in-Ok-Some.after.now (point _ _ _ _) (i.plays e) n.0 (ap (λ (t : List ℕ). t ++ c.in-Ok-Some.after.now) n.1) met.0 c.saturating_add-self.ensures (elim c.match-step.branch [ in-Ok-Quiet+in_ok-print_answer-in-Ok-Quiet w ↦ grind (arith, met.1, w.in-Ok-Quiet.is, w.out-is, w.in_ok-print_answer-in-Ok-Quiet.ensures.ok) | in_default+in_ok-print_answer-in_default w ↦ grind (arith, met.1, w.out-is, w.in_ok-print_answer-in_default.ensures.ok) ]);
    }
