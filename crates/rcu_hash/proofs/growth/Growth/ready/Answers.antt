use Rattle.rcu_hash.proofs.Cited.{tabled, IsAmong, [], inl, inr, ⊎_elim, free_earlier, looked_more, looked_on, looked_then, gives_up_on, gives_up_keeping, begins_trans}
use Rattle.rcu_hash.proofs.growth.Growth.ready.Goals as goal

-- a copy was refused: all are given back
pub returns-in-Err-copy_all-clause-same : goal.returns-in-Err-copy_all-clause-same
returns-in-Err-copy_all-clause-same g c =
    (tt, c.undo.ensures.same c.args.caller.now [] c.in-Err-copy_all.refusal (gives_up_on (λ i none. absurd none) c.hold_all-2.ensures.same c.in-Err-copy_all.ensures.same))

pub returns-in-Err-copy_all-clause-refused : goal.returns-in-Err-copy_all-clause-refused
returns-in-Err-copy_all-clause-refused g c =
    let w1 = c.hold_all-2.new.caller in let back = c.undo.ensures.same w1 [] c.in-Err-copy_all.refusal c.in-Err-copy_all.ensures.same in
    inr (free_earlier g.W.Caller g.P.GracePlan.QSBR tabled c.args.caller.now w1 c.undo.new.caller (IsAmong c.args.first c.args.buckets) back.1.0.heard c.in_ok-chains.ensures.free, c.in-Err-copy_all.ensures.refused)

-- or the directory's record was
pub returns-clause-same : goal.returns-clause-same
returns-clause-same g c =
    (tt, c.undo-in-Err-reserve_directory.ensures.same c.args.caller.now [] c.in-Err-reserve_directory.refusal (gives_up_keeping (looked_then c.hold_all-2.ensures.same c.copy_all.ensures.same.0) c.in-Err-reserve_directory.ensures.same.1))

pub returns-clause-refused : goal.returns-clause-refused
returns-clause-refused g c =
    let w1 = c.hold_all-2.new.caller in
    let back = c.undo-in-Err-reserve_directory.ensures.same w1 [] c.in-Err-reserve_directory.refusal (gives_up_keeping c.copy_all.ensures.same.0 c.in-Err-reserve_directory.ensures.same.1) in
    inr (free_earlier g.W.Caller g.P.GracePlan.QSBR tabled c.args.caller.now w1 c.undo-in-Err-reserve_directory.new.caller (IsAmong c.args.first c.args.buckets) back.1.0.heard c.in_ok-chains.ensures.free, c.in-Err-reserve_directory.ensures.refused)

-- all is ready
pub returns-in-Ok-reserve_directory-clause-free : goal.returns-in-Ok-reserve_directory-clause-free
returns-in-Ok-reserve_directory-clause-free g c =
    let w = g.W.Caller in let w1 = c.hold_all-2.new.caller in let w3 = c.reserve_directory.new.caller in
    free_earlier w g.P.GracePlan.QSBR tabled c.args.caller.now w1 w3 (IsAmong c.args.first c.args.buckets)
    (begins_trans (w.heard w1) (w.heard c.copy_all.new.caller) (w.heard w3) c.copy_all.ensures.same.0.heard c.in-Ok-reserve_directory.ensures.same.0.heard) c.in_ok-chains.ensures.free

pub returns-in-Ok-reserve_directory-clause-same : goal.returns-in-Ok-reserve_directory-clause-same
returns-in-Ok-reserve_directory-clause-same g c =
    (looked_on (λ i was. inr was) (looked_then c.hold_all-2.ensures.same c.copy_all.ensures.same.0) (looked_more (λ i one. ⊎_elim (λ is. inl is) (λ none. absurd none) one) c.in-Ok-reserve_directory.ensures.same.0), tt)
