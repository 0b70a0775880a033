use Rattle.domain_tests.proofs.Cited.{Log, begins_trans}
use Rattle.domain_tests.proofs.polling.polls_and_then_hears.Goals as goal

pub returns : goal.returns
returns g c past =
    let told = c.inform.ensures.told in let kept = c.inform.ensures.kept in let log : Log = c.inform.new.to.seat.me.0.heard in
    c.poll-past.ensures.later past log kept.run (begins_trans c.args.cookie.now.asked.value.me.0.seen c.args.asker.now.seat.me.0.heard log c.requires told.1) kept.after_heard
