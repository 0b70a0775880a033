use Rattle.torture.proofs.Cited.{codes, refl, IfOk-weaker, Rule, app_of, with_rule}
use Rattle.torture.specs.Words.{or_else, number_rule, flavour_rule, target_rule, AddsLoad}
use Rattle.torture.proofs.Options.{with_more, default_rule, default_own}
use Rattle.torture.proofs.program.with_load.Goals as goal

pub returns : goal.returns
returns c =
    let old = c.args.program in
    let rule1 : Rule = or_else (codes "memb") (flavour_rule c.flavour.ensures.rule.0) in
    let at1 = with_more (app_of old) old old c.in_ok-arg.field-0 c.flavour.result rule1 (refl, refl) c.in_ok-arg.ensures c.flavour.ensures.rule.2 c.flavour.ensures.own in
    let rule2 : Rule = or_else (codes "chains") (target_rule c.target.ensures.rule.0) in
    let at2 = with_more (with_rule (app_of old) rule1) old c.in_ok-arg.field-0 c.in_ok-arg-2.field-0 c.target.result rule2 at1 c.in_ok-arg-2.ensures c.target.ensures.rule.2 c.target.ensures.own in
    let rule3 : Rule = or_else (codes "2") (number_rule (codes "readers") 1 64) in
    let at3 = with_more (with_rule (with_rule (app_of old) rule1) rule2) old c.in_ok-arg-2.field-0 c.in_ok-arg-3.field-0 c.default_value.result rule3 at2 c.in_ok-arg-3.ensures (default_rule c.number.result c.default_value.result _ (number_rule (codes "readers") 1 64) c.default_value.ensures c.number.ensures.rule) (default_own c.number.result c.default_value.result _ c.default_value.ensures c.number.ensures.own) in
    let rule4 : Rule = or_else (codes "1") (number_rule (codes "updaters") 1 16) in
    let at4 = with_more (with_rule (with_rule (with_rule (app_of old) rule1) rule2) rule3) old c.in_ok-arg-3.field-0 c.in_ok-arg-4.field-0 c.default_value-2.result rule4 at3 c.in_ok-arg-4.ensures (default_rule c.number-2.result c.default_value-2.result _ (number_rule (codes "updaters") 1 16) c.default_value-2.ensures c.number-2.ensures.rule) (default_own c.number-2.result c.default_value-2.result _ c.default_value-2.ensures c.number-2.ensures.own) in
    let rule5 : Rule = or_else (codes "1") (number_rule (codes "workers") 1 8) in
    let at5 = with_more (with_rule (with_rule (with_rule (with_rule (app_of old) rule1) rule2) rule3) rule4) old c.in_ok-arg-4.field-0 c.in_ok-arg-5.field-0 c.default_value-3.result rule5 at4 c.in_ok-arg-5.ensures (default_rule c.number-3.result c.default_value-3.result _ (number_rule (codes "workers") 1 8) c.default_value-3.ensures c.number-3.ensures.rule) (default_own c.number-3.result c.default_value-3.result _ c.default_value-3.ensures c.number-3.ensures.own) in
    let rule6 : Rule = number_rule (codes "rounds") 1 1000000 in
    let at6 = with_more (with_rule (with_rule (with_rule (with_rule (with_rule (app_of old) rule1) rule2) rule3) rule4) rule5) old c.in_ok-arg-5.field-0 c.in_ok-arg-6.field-0 c.number-4.result rule6 at5 c.in_ok-arg-6.ensures c.number-4.ensures.rule c.number-4.ensures.own in
    let rule7 : Rule = number_rule (codes "seconds") 1 86400 in
    IfOk-weaker c.arg-7.result _ (AddsLoad old) (λ new x.
    let last = with_more (with_rule (with_rule (with_rule (with_rule (with_rule (with_rule (app_of old) rule1) rule2) rule3) rule4) rule5) rule6) old c.in_ok-arg-6.field-0 new c.number-5.result rule7 at6 x c.number-5.ensures.rule c.number-5.ensures.own in
    (c.flavour.ensures.rule.0, c.target.ensures.rule.0, c.flavour.ensures.rule.1, c.target.ensures.rule.1, last.0, last.1)) c.arg-7.ensures
