-- The words that the program takes.
use Rattle.std.specs.Prelude.{◌≡◌, ℕ, ◌⊎◌, true, false, List, [], ◌∷◌, map, Option, Some, None, codes, ◌^◌, ◌-◌}
use Rattle.clap.specs.Words.{App, Row, Rule, Text, subcommand_of, app_of, fault_of, kind_of, new_app, new_rule, with_rule, with_subcommand, HasKind}
use Rattle.clap.specs.declared.builder.action.ArgAction.TheVariants.{SetTrue}
use Rattle.clap.specs.declared.builder.command.Command.{Command}
use Rattle.clap.specs.declared.builder.value_parser.ValueParser.TheVariants.{Names, Unsigned}
use Rattle.clap.specs.declared.error.Error.{Error}
use Rattle.clap.specs.declared.error.kind.ErrorKind.{ErrorKind}
use Rattle.clap.specs.declared.error.kind.ErrorKind.TheVariants.{DisplayHelp, DisplayVersion, OutOfMemory, ValueValidation}
use Rattle.clap.specs.declared.builder.command.Command.TheViews.{out-Command as fields_of}
use Rattle.std.specs.Borrow.{Bor}
use Rattle.torture_run.specs.declared.asked.Asked.{Asked}
use Rattle.torture_run.specs.Limits.{is_asked_within}
use Rattle.torture.specs.Said.{asked_said}

-- an option of a number between limits
abbrev pub number_rule : Text → ℕ → ℕ → Rule
number_rule name least most = record (new_rule name) { long = Some name; value_names = 1; parser = Some (Unsigned least most) }

-- with the number that it has where no word says one
abbrev pub or_else : Text → Rule → Rule
or_else text rule = record rule { defaults = text ∷ [] }

-- the names of the flavours, wherever they stand
abbrev pub AreFlavours : Bor (List (Bor (List ℕ))) → Type 0
AreFlavours names = map (λ name. name.now) names.now ≡ codes "memb" ∷ codes "qsbr" ∷ []

-- an option that says one of these names
abbrev pub names_rule : Text → Bor (List (Bor (List ℕ))) → Rule
names_rule name names = record (new_rule name) { long = Some name; value_names = 1; parser = Some (Names names) }

abbrev pub flavour_rule : Bor (List (Bor (List ℕ))) → Rule
flavour_rule names = names_rule (codes "flavour") names

abbrev pub IsFlavourRule : Rule → Type 0
IsFlavourRule rule = (flavours : Bor (List (Bor (List ℕ)))) × AreFlavours flavours × (rule ≡ or_else (codes "memb") (flavour_rule flavours))

-- the names of what a run puts its load on, wherever they stand
abbrev pub AreTargets : Bor (List (Bor (List ℕ))) → Type 0
AreTargets names = map (λ name. name.now) names.now ≡ codes "chains" ∷ codes "lists" ∷ codes "tables" ∷ codes "growth" ∷ []

abbrev pub target_rule : Bor (List (Bor (List ℕ))) → Rule
target_rule names = names_rule (codes "load") names

abbrev pub IsTargetRule : Rule → Type 0
IsTargetRule rule = (targets : Bor (List (Bor (List ℕ)))) × AreTargets targets × (rule ≡ or_else (codes "chains") (target_rule targets))

-- an option that takes no value
abbrev pub flag_rule : Text → Rule
flag_rule name = record (new_rule name) { long = Some name; action = Some SetTrue }

-- the options of `walk`: in which world, and how
abbrev pub with_world : Bor (List (Bor (List ℕ))) → App → App
with_world flavours app =
    with_rule (with_rule (with_rule (with_rule (with_rule (with_rule app
    (or_else (codes "memb") (flavour_rule flavours)))
    (or_else (codes "2") (number_rule (codes "readers") 1 64)))
    (or_else (codes "1") (number_rule (codes "updaters") 1 16)))
    (or_else (codes "1") (number_rule (codes "workers") 1 8)))
    (or_else (codes "1") (number_rule (codes "chains") 1 64)))
    (or_else (codes "1") (number_rule (codes "format") 1 2))

abbrev pub with_course : App → App
with_course app =
    with_rule (with_rule (with_rule (with_rule (with_rule app
    (or_else (codes "1000") (number_rule (codes "lines") 0 1000000)))
    (or_else (codes "1") (number_rule (codes "seed") 0 (2 ^ 64 - 1))))
    (flag_rule (codes "schedule")))
    (number_rule (codes "stop") 0 87))
    (or_else (codes "1") (number_rule (codes "from") 1 1000000))

-- the options of `run`: the threads, what they work on, and when they end
abbrev pub with_load : Bor (List (Bor (List ℕ))) → Bor (List (Bor (List ℕ))) → App → App
with_load flavours targets app =
    with_rule (with_rule (with_rule (with_rule (with_rule (with_rule (with_rule app
    (or_else (codes "memb") (flavour_rule flavours)))
    (or_else (codes "chains") (target_rule targets)))
    (or_else (codes "2") (number_rule (codes "readers") 1 64)))
    (or_else (codes "1") (number_rule (codes "updaters") 1 16)))
    (or_else (codes "1") (number_rule (codes "workers") 1 8)))
    (number_rule (codes "rounds") 1 1000000))
    (number_rule (codes "seconds") 1 86400)

-- a command of this name with no options
abbrev pub IsPlain : Text → Command → Type 0
IsPlain name c = (app_of c ≡ new_app name) × ((fields_of c).has_globals ≡ false)

-- `check`, which may end at the first wrong event
abbrev pub check_app : App
check_app = with_rule (new_app (codes "check")) (flag_rule (codes "follow"))

abbrev pub IsCheck : Command → Type 0
IsCheck c = (app_of c ≡ check_app) × ((fields_of c).has_globals ≡ false)

abbrev pub walk_app : Bor (List (Bor (List ℕ))) → App
walk_app flavours = with_course (with_world flavours (new_app (codes "walk")))

abbrev pub IsWalk : Command → Type 0
IsWalk c = (flavours : Bor (List (Bor (List ℕ)))) × AreFlavours flavours × (app_of c ≡ walk_app flavours) × ((fields_of c).has_globals ≡ false)

abbrev pub run_app : Bor (List (Bor (List ℕ))) → Bor (List (Bor (List ℕ))) → App
run_app flavours targets = with_load flavours targets (new_app (codes "run"))

abbrev pub IsRun : Command → Type 0
IsRun c = (flavours targets : Bor (List (Bor (List ℕ)))) × AreFlavours flavours × AreTargets targets × (app_of c ≡ run_app flavours targets) × ((fields_of c).has_globals ≡ false)

-- `torture`, which wants a subcommand and has a version, and its subcommands
abbrev pub bare_app : App
bare_app = let app = new_app (codes "torture") in record app { top = record (app.top) { has_version = true; subcommand_required = true; arg_required_else_help = true } }

abbrev pub torture_app : Bor (List (Bor (List ℕ))) → Bor (List (Bor (List ℕ))) → Bor (List (Bor (List ℕ))) → App
torture_app of_walk of_run targets = with_subcommand (with_subcommand (with_subcommand (with_subcommand (with_subcommand bare_app ((new_app (codes "replay")).top)) (check_app.top)) ((walk_app of_walk).top)) ((run_app of_run targets).top)) ((new_app (codes "call")).top)

-- what the program is to `clap`
abbrev pub IsTorture : App → Type 0
IsTorture app = (of_walk of_run targets : Bor (List (Bor (List ℕ)))) × AreFlavours of_walk × AreFlavours of_run × AreTargets targets × (app ≡ torture_app of_walk of_run targets)

-- what adds options to a command that has no global ones
abbrev pub AddsWorld : Command → Command → Type 0
AddsWorld old new = (flavours : Bor (List (Bor (List ℕ)))) × AreFlavours flavours × (app_of new ≡ with_world flavours (app_of old)) × ((fields_of new).has_globals ≡ (fields_of old).has_globals)

abbrev pub AddsLoad : Command → Command → Type 0
AddsLoad old new = (flavours targets : Bor (List (Bor (List ℕ)))) × AreFlavours flavours × AreTargets targets × (app_of new ≡ with_load flavours targets (app_of old)) × ((fields_of new).has_globals ≡ (fields_of old).has_globals)

abbrev pub AddsCourse : Command → Command → Type 0
AddsCourse old new = (app_of new ≡ with_course (app_of old)) × ((fields_of new).has_globals ≡ (fields_of old).has_globals)

-- `clap` takes the words, and finds this subcommand in them, with what is told of its options
abbrev pub IsTaken : List Text → Option (Text × List Row) → Type 0
IsTaken words found = (app : App) × IsTorture app × (fault_of app words ≡ []) × (found ≡ subcommand_of app words)

-- `clap` takes the words, and they ask for this
abbrev pub SayAsked : List Text → Asked → Type 0
SayAsked words asked = (found : Option (Text × List Row)) × IsTaken words found × (asked ≡ asked_said found)

-- `clap` refuses the words; or it takes them, and who stops is not there; or memory was refused
abbrev pub IsRefused : List Text → Error → Type 0
IsRefused words error =
    ((app : App) × IsTorture app × HasKind (fault_of app words) error)
    ⊎ (((asked : Asked) × SayAsked words asked × (is_asked_within asked ≡ false) × (kind_of error ≡ ValueValidation))
    ⊎ (kind_of error ≡ OutOfMemory))

-- what the program ends with
abbrev pub status_of_kind : ErrorKind → ℕ
status_of_kind DisplayHelp = 0
status_of_kind DisplayVersion = 0
status_of_kind OutOfMemory = 3
status_of_kind _ = 2

-- help that cannot be written ends with 3
abbrev pub EndsBy : ErrorKind → ℕ → Type 0
EndsBy kind status = (status ≡ status_of_kind kind) ⊎ ((status_of_kind kind ≡ 0) × (status ≡ 3))

-- the text where memory is refused; the other texts are clap's own
abbrev pub text_of_kind : ErrorKind → Option (List ℕ)
text_of_kind OutOfMemory = Some (codes "no memory\n")
text_of_kind _ = None
