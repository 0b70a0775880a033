use Rattle.schedule.proofs.Cited.{◌≡◌, ◌+◌, ◌++◌, take, drop, get_or, set, arith, common_steps}
use Rattle.schedule.proofs.Bytes.{next_bad}
use Rattle.schedule.proofs.held.Held.cut.Goals as goal

pub returns-in-Ok-clause-next : goal.returns-in-Ok-clause-next
returns-in-Ok-clause-next g c = λ e.
    let h = c.loop-rest.self-inside in let i = c.loop-rest.invariant in let rest = c.loop-rest.rest.now in
    let end = c.requires.last (take h.len h.bytes) (get_or rest 0 0) c.in-Ok.found.0 c.in-Ok.found.1.now (i.good e) (grind (arith, common_steps, c.in-Ok.ensures)) in
    let found = c.requires.found (take (h.len + 1) (set h.bytes h.len (get_or rest 0 0))) (drop 1 rest) _ _ c.in-Ok.ensures in
    grind (arith, common_steps, end, found, i.text e)

pub returns-in-Err-clause-next : goal.returns-in-Err-clause-next
returns-in-Err-clause-next g c = λ e.
    let h = c.loop-rest.self-inside in let rest = c.loop-rest.rest.now in
    let at : c.args.self.now ++ c.args.text.now ≡ take (h.len + 1) (set h.bytes h.len (get_or rest 0 0)) ++ drop 1 rest = grind (arith, common_steps, c.loop-rest.invariant.text e) in
    next_bad g.T.Front.read c.requires _ _ _ c.in-Err.bad.now c.column_of.result at c.in-Err.ensures c.in-Err.len_at_least c.column_of.ensures
