use Rattle.schedule.proofs.Cited.{◌≡◌, [], ◌++◌, arith, common_steps}
use Rattle.schedule.proofs.Bytes.{next_bad}
use Rattle.schedule.proofs.held.Held.next.Goals as goal

pub returns-in-Err-clause-next : goal.returns-in-Err-clause-next
returns-in-Err-clause-next g c = λ e.
    let at : c.args.self.now ++ c.args.text.now ≡ c.args.text.now ++ [] = grind (arith, common_steps) in
    next_bad g.T.Front.read c.requires _ _ _ c.in-Err.bad.now c.column_of.result at c.in-Err.ensures c.in-Err.len_at_least c.column_of.ensures
