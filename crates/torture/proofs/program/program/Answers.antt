use Rattle.torture.proofs.Cited.{ap, ap₂, ◌∙◌, IfOk-weaker, App, app_of, with_subcommand}
use Rattle.torture.specs.Words.{IsTorture}
use Rattle.torture.proofs.program.program.Goals as goal

pub returns : goal.returns
returns c =
    let walk = c.in_ok-walk.ensures in
    let run = c.in_ok-run.ensures in
    let replay = c.replay_command.ensures in
    let check = c.in_ok-check.ensures in
    let first = c.in_ok-subcommand.ensures.shape replay.1 ∙ ap₂ with_subcommand c.without_commands.ensures (ap (λ (a : App). a.top) replay.0) in
    let second = c.in_ok-subcommand-2.ensures.shape check.1 ∙ ap₂ with_subcommand first (ap (λ (a : App). a.top) check.0) in
    let third = c.in_ok-subcommand-3.ensures.shape walk.3 ∙ ap₂ with_subcommand second (ap (λ (a : App). a.top) walk.2) in
    let fourth = c.in_ok-subcommand-4.ensures.shape run.5 ∙ ap₂ with_subcommand third (ap (λ (a : App). a.top) run.4) in
    let call = c.call_command.ensures in
    IfOk-weaker c.subcommand-5.result _ (λ p. IsTorture (app_of p)) (λ p x. (walk.0, run.0, run.1, walk.1, run.2, run.3, x.shape call.1 ∙ ap₂ with_subcommand fourth (ap (λ (a : App). a.top) call.0))) c.subcommand-5.ensures
