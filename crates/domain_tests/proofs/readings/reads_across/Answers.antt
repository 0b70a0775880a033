use Rattle.domain_tests.proofs.Cited.{rules, arith, held_across, held_in, MayHoldIn}
use Rattle.domain_tests.proofs.Published.{some_so}
use Rattle.domain_tests.proofs.readings.reads_across.Goals as goal

pub read-requires : goal.read-requires
read-requires g c =
    let r = c.first.new.self.reader.now.core in let s = c.in_ok-inner.inner.reader.now.core in let t = c.close.new.self.0 in let u = c.start_poll.new.caller in let v = c.poll.new.caller in
    let begins = c.in_ok-inner.ensures.inside in let cell = c.in-Some.held.cell in
    let first = some_so c.in_ok-held.field-0 c.in-Some.held (λ h. MayHoldIn r h.cell) c.in-Some.is c.in_ok-held.ensures.held in
    let inner = held_in r s cell (begins.keeps (let opened = c.first.new.self.open_section in omega arith)) first in
    let outer = held_in s t.core cell (c.close.ensures.keeps (let deeper = begins.deeper in let opened = c.first.new.self.open_section in omega arith)) inner in
    let asked = held_in t.core u.core cell (held_across t u (search rules) (search rules)) outer in
    record { held = held_in u.core v.core cell (held_across u v (search rules) (search rules)) asked }
