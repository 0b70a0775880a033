use Rattle.domain_tests.proofs.Cited.{◌∷◌, Some, refl, ObjectId, First, Touch, Read, Readings, later, MayHold, FindsFirst, FindsNext}
use Rattle.domain_tests.proofs.Published.{some_so, next_found}
use Rattle.domain_tests.proofs.readings.reads_on.Goals as goal

pub returns-clause-run : goal.returns-clause-run
returns-clause-run g c s m has =
    let fit = c.readings_fit.ensures in let cell = c.in-Some.held.cell in
    let before = c.args.section.now.reader.now.core in let one = c.first.new.self.reader.now.core in let two = c.read-words.new.self.reader.now.core in let three = c.next-next.new.self.reader.now.core in
    let found = some_so c.in_ok-held.field-0 c.in-Some.held (λ h. (o : ObjectId) × FindsFirst one c.args.chain (Some o) × MayHold one o h.cell) c.in-Some.is c.in_ok-held.ensures.some in
    let o : ObjectId = found.0 in
    let first = fit.first before one s m c.args.chain (Some o) has c.in_ok-held.ensures.looked.1 found.1 in
    let m1 : Readings = Read s (First c.args.chain (Some o)) ∷ later first.since m in
    let touch = fit.touch one two s m1 o first.read c.read-words.ensures.looked (first.finds o refl) in
    let m2 : Readings = Read s (Touch o) ∷ later touch.since m1 in
    let follows = next_found (λ p. MayHold two p cell) (λ p n. FindsNext three p n) (λ h n. MayHold three n h.cell) c.next-next.result o (c.read-words.ensures.looked.keeps.held o cell found.2) c.next-next.ensures.none c.next-next.ensures.some in
    let next = fit.next two three s m2 o follows.0 touch.read c.next-next.ensures.looked (touch.keeps o (first.finds o refl)) follows.1 in
    (first.since, touch.since, next.since, o, follows.0, next.read)
