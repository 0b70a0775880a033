use Rattle.std.proofs.Common.{Err}
use Rattle.schedule.proofs.SafelyFed.{finishes_safe}
use Rattle.schedule.proofs.feeding.Replay.finish.Goals as goal

pub returns-in-Err-clause-safe : goal.returns-in-Err-clause-safe
returns-in-Err-clause-safe c = λ fed earlier s.
    let law = c.each_text_reclaims_safely.ensures in
    finishes_safe law.whole law.begun law.so_far fed earlier c.args.out.now.items c.end-result.new.out.items (Err c.in-Err.fault) (c.in-Err.ensures.finishes fed earlier s)

pub returns-in_default-clause-safe : goal.returns-in_default-clause-safe
returns-in_default-clause-safe c = λ fed earlier s.
    let law = c.each_text_reclaims_safely.ensures in
    finishes_safe law.whole law.begun law.so_far fed earlier c.args.out.now.items c.end-result.new.out.items c.end-result.result (c.end-result.ensures.finishes fed earlier s)
