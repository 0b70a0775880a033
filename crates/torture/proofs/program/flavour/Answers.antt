use Rattle.torture.proofs.Cited.{ap, ◌∙◌, codes, refl, rule_of, Arg}
use Rattle.torture.specs.Words.{or_else}
use Rattle.torture.proofs.Options.{names_known}
use Rattle.torture.proofs.program.flavour.Goals as goal

pub returns-clause-rule : goal.returns-clause-rule
returns-clause-rule c =
    let given = c.value_parser.ensures.given in
    let from_parser = names_known (codes "flavour") c.new.result c.long.result c.value_name.result c.value_parser.result given.0 _ _ _ c.new.ensures.rule c.long.ensures c.value_name.ensures c.value_parser.ensures.others given.1 given.2 in
    (_, refl, ap rule_of c.help.ensures ∙ ap rule_of c.default_value.ensures ∙ ap (or_else (codes "memb")) from_parser)

pub returns-clause-own : goal.returns-clause-own
returns-clause-own c = ap (λ (a : Arg). a.global) c.help.ensures ∙ ap (λ (a : Arg). a.global) c.default_value.ensures ∙ ap (λ (a : Arg). a.global) c.value_parser.ensures.others ∙ ap (λ (a : Arg). a.global) c.value_name.ensures ∙ ap (λ (a : Arg). a.global) c.long.ensures ∙ c.new.ensures.optional.1
