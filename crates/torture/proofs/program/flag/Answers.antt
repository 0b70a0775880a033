use Rattle.torture.proofs.Cited.{ap, ◌∙◌, Arg}
use Rattle.torture.proofs.program.flag.Goals as goal

pub returns-clause-own : goal.returns-clause-own
returns-clause-own c = ap (λ (a : Arg). a.global) c.help.ensures ∙ ap (λ (a : Arg). a.global) c.action.ensures ∙ ap (λ (a : Arg). a.global) c.long.ensures ∙ c.new.ensures.optional.1
