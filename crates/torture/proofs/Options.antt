-- Options, added one after the other.
use Rattle.torture.proofs.Cited.{◌≡◌, ℕ, List, Option, Some, Bool, true, false, ◌||◌, refl, ap, ap₂, ◌∙◌, Bor, Result, Ok, Err, IfOk, IfErr, inl, Error, ArgMatches, FailsBy, Text, fault_of, App, Rule, AddsArg, HasMatchesOf, app_of, is_simple, new_rule, rule_of, subcommand_rows_of, with_rule, Arg, Command, One, ValueParser, Names, app_of_fields}
use Rattle.clap.specs.declared.builder.command.Command.TheViews.{out-Command as fields_of}
use Rattle.torture.specs.Words.{or_else, IsTorture, IsTaken, IsRefused}

-- a command that is so to `clap`, and has no more global options than the other
abbrev pub IsApp : App → Command → Command → Type 0
IsApp app old new = (app_of new ≡ app) × ((fields_of new).has_globals ≡ (fields_of old).has_globals)

or_false : (a b : Bool) → b ≡ false → (a || b) ≡ a
or_false true b e = refl
or_false false b e = e

pub with_more : (app : App) (old mid new : Command) (a : Arg) (r : Rule) → IsApp app old mid → AddsArg mid a new → rule_of a ≡ r → a.global ≡ false → IsApp (with_rule app r) old new
with_more app old mid new a r e x is own = (x.shape own ∙ ap₂ with_rule e.0 is, x.globals ∙ or_false (fields_of mid).has_globals a.global own ∙ e.1)

-- an option with a default
pub default_rule : (a b : Arg) (text : Bor (List ℕ)) (r : Rule) → b ≡ record a { default_vals = One text } → rule_of a ≡ r → rule_of b ≡ or_else text.now r
default_rule a b text r e is = ap rule_of e ∙ ap (or_else text.now) is

pub default_own : (a b : Arg) (text : Bor (List ℕ)) → b ≡ record a { default_vals = One text } → a.global ≡ false → b.global ≡ false
default_own a b text e is = ap (λ (x : Arg). x.global) e ∙ is

-- an option's names stand where the code has them
pub names_known : (id : List ℕ) (a b d e : Arg) (q : ValueParser) (long name : Bor (List ℕ)) (names : Bor (List (Bor (List ℕ)))) → rule_of a ≡ new_rule id → b ≡ record a { long = Some long } → d ≡ record b { val_names = One name } → e ≡ record d { value_parser = e.value_parser } → e.value_parser ≡ Some q → q ≡ Names names
    → rule_of e ≡ record (new_rule id) { long = Some long.now; value_names = 1; parser = Some (Names names) }
names_known id a b d e q long name names is to_b to_d to_e has named =
    ap rule_of to_e
    ∙ ap (λ (p : Option ValueParser). record (rule_of d) { parser = p }) (has ∙ ap Some named)
    ∙ ap (λ (r : Rule). record r { parser = Some (Names names) }) (ap rule_of to_d ∙ ap (λ (r : Rule). record r { value_names = 1 }) (ap rule_of to_b ∙ ap (λ (r : Rule). record r { long = Some long.now }) is))

-- what `clap` says of the words
pub taken : (app : App) (words : List Text) → IsTorture app → is_simple app ≡ true → (r : Result ArgMatches Error) → FailsBy (fault_of app words) r → IfOk r (HasMatchesOf app words) → IfOk r (λ m. IsTaken words (subcommand_rows_of m))
taken app words is simple (Ok m) f has = (app, is, f, (has simple).1)
taken app words is simple (Err e) f has = tt

pub refused : {T : Type 0} (app : App) (words : List Text) → IsTorture app → (r : Result T Error) → FailsBy (fault_of app words) r → IfErr r (λ e. IsRefused words e)
refused app words is (Ok m) f = tt
refused app words is (Err e) f = inl (app, is, f)

-- what is said of a command leaves its options as they were
pub about_app : (a b d : Command) {short long : Bor (List ℕ)} → fields_of b ≡ record (fields_of a) { about = Some short } → fields_of d ≡ record (fields_of b) { long_about = Some long } → app_of d ≡ app_of a
about_app a b d to_b to_d = ap app_of_fields to_d ∙ ap app_of_fields to_b

pub about_local : (a b d : Command) {short long : Bor (List ℕ)} → fields_of b ≡ record (fields_of a) { about = Some short } → fields_of d ≡ record (fields_of b) { long_about = Some long } → (fields_of d).has_globals ≡ (fields_of a).has_globals
about_local a b d to_b to_d = ap (λ f. f.has_globals) to_d ∙ ap (λ f. f.has_globals) to_b

pub usage_app : (a b : Command) {usage : Bor (List ℕ)} → fields_of b ≡ record (fields_of a) { usage_str = Some usage } → app_of b ≡ app_of a
usage_app a b to_b = ap app_of_fields to_b

pub usage_local : (a b : Command) {usage : Bor (List ℕ)} → fields_of b ≡ record (fields_of a) { usage_str = Some usage } → (fields_of b).has_globals ≡ (fields_of a).has_globals
usage_local a b to_b = ap (λ f. f.has_globals) to_b
