use Rattle.torture.proofs.Cited.{rules, ◌≡◌, codes, refl, false, ap, ◌∙◌, ◌^◌, ◌-◌, IfOk-weaker, Rule, app_of, rule_of, with_rule}
use Rattle.torture.specs.Words.{or_else, number_rule, flag_rule, AddsCourse}
use Rattle.torture.proofs.Options.{with_more, default_rule, default_own}
use Rattle.torture.proofs.program.with_course.Goals as goal

pub returns : goal.returns
returns c =
    let old = c.args.program in
    let rule1 : Rule = or_else (codes "1000") (number_rule (codes "lines") 0 1000000) in
    let at1 = with_more (app_of old) old old c.in_ok-arg.field-0 c.default_value.result rule1 (refl, refl) c.in_ok-arg.ensures (default_rule c.number.result c.default_value.result _ (number_rule (codes "lines") 0 1000000) c.default_value.ensures c.number.ensures.rule) (default_own c.number.result c.default_value.result _ c.default_value.ensures c.number.ensures.own) in
    let rule2 : Rule = or_else (codes "1") (number_rule (codes "seed") 0 (2 ^ 64 - 1)) in
    let at2 = with_more (with_rule (app_of old) rule1) old c.in_ok-arg.field-0 c.in_ok-arg-2.field-0 c.default_value-2.result rule2 at1 c.in_ok-arg-2.ensures (default_rule c.number-2.result c.default_value-2.result _ (number_rule (codes "seed") 0 (2 ^ 64 - 1)) c.default_value-2.ensures c.number-2.ensures.rule) (default_own c.number-2.result c.default_value-2.result _ c.default_value-2.ensures c.number-2.ensures.own) in
    let rule3 : Rule = flag_rule (codes "schedule") in
    let at3 = with_more (with_rule (with_rule (app_of old) rule1) rule2) old c.in_ok-arg-2.field-0 c.in_ok-arg-3.field-0 c.flag.result rule3 at2 c.in_ok-arg-3.ensures c.flag.ensures.rule c.flag.ensures.own in
    let rule4 : Rule = number_rule (codes "stop") 0 87 in
    let at4 = with_more (with_rule (with_rule (with_rule (app_of old) rule1) rule2) rule3) old c.in_ok-arg-3.field-0 c.in_ok-arg-4.field-0 c.number-3.result rule4 at3 c.in_ok-arg-4.ensures c.number-3.ensures.rule c.number-3.ensures.own in
    let rule5 : Rule = or_else (codes "1") (number_rule (codes "from") 1 1000000) in
    IfOk-weaker c.arg-5.result _ (AddsCourse old) (λ new x. with_more (with_rule (with_rule (with_rule (with_rule (app_of old) rule1) rule2) rule3) rule4) old c.in_ok-arg-4.field-0 new c.default_value-3.result rule5 at4 x (default_rule c.number-4.result c.default_value-3.result _ (number_rule (codes "from") 1 1000000) c.default_value-3.ensures c.number-4.ensures.rule) (default_own c.number-4.result c.default_value-3.result _ c.default_value-3.ensures c.number-4.ensures.own)) c.arg-5.ensures
