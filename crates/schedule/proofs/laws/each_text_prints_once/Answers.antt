use Rattle.schedule.proofs.Once.{begins, prints_once}
use Rattle.schedule.proofs.laws.each_text_prints_once.Goals as goal

pub returns-clause-some : goal.returns-clause-some
returns-clause-some c = λ text. let b = begins text in (b.0, b.1, b.2)

pub returns-clause-once : goal.returns-clause-once
returns-clause-once c = λ text printed other result another p q. prints_once text printed other result another p q
