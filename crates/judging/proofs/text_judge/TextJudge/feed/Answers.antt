use Rattle.std.proofs.Common.{◌++◌, sym, ◌∙◌, true≢false}
use Rattle.judging.proofs.Findings.{stands_on, still_judged, stands_along}
use Rattle.judging.proofs.text_judge.TextJudge.feed.Goals as goal

pub returns-then-is_final-clause-fed : goal.returns-then-is_final-clause-fed
returns-then-is_final-clause-fed c = λ fed w. let judge = c.args.self.now in stands_on judge.judging fed c.args.piece.now judge.found (sym c.is_final.ensures ∙ c.if-is_final.true) w

pub returns-clause-fed : goal.returns-clause-fed
returns-clause-fed c = λ fed w.
    let judge = c.args.self.now in
    rw c.found_along-self.ensures (stands_along c.follow-followed.new.self (fed ++ c.args.piece.now) c.follow-followed.result c.taken.result
    (c.follow-followed.ensures fed (still_judged judge.judging fed judge.found (sym c.is_final.ensures ∙ c.if-is_final.false) w)) c.taken.ensures)

pub returns-clause-stands : goal.returns-clause-stands
returns-clause-stands c = λ final. absurd (true≢false (sym final ∙ (sym c.is_final.ensures ∙ c.if-is_final.false)))
