use Rattle.std.proofs.Common.{◌++◌, Err}
use Rattle.schedule.proofs.SafelyFed.{feeds_safe}
use Rattle.schedule.proofs.feeding.Replay.feed.Goals as goal

pub returns-in-Err-clause-safe : goal.returns-in-Err-clause-safe
returns-in-Err-clause-safe c = λ fed earlier s.
    let law = c.each_text_reclaims_safely.ensures in
    feeds_safe law.whole law.begun law.so_far c.go_on-result.new.self (fed ++ c.args.piece.now) earlier c.args.out.now.items c.go_on-result.new.out.items (Err c.in-Err.fault) tt (c.in-Err.ensures.feeds fed earlier s)

pub returns-in_default-clause-safe : goal.returns-in_default-clause-safe
returns-in_default-clause-safe c = λ fed earlier s.
    let law = c.each_text_reclaims_safely.ensures in
    feeds_safe law.whole law.begun law.so_far c.go_on-result.new.self (fed ++ c.args.piece.now) earlier c.args.out.now.items c.go_on-result.new.out.items c.go_on-result.result c.go_on-result.ensures.sound (c.go_on-result.ensures.feeds fed earlier s)
