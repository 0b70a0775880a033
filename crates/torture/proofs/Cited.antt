-- What the proofs of this crate use of other crates.
pub use Rattle.clap.proofs.ValueTestLemmas.{Accepts-accepts, accepts-Accepts}
pub use Rattle.clap.proofs.WalkLemmas.{first_value-rows, one_text-rows}
pub use Rattle.clap.specs.Matches.{ReadsOne, one_text}
pub use Rattle.clap.specs.Simple.{app_of_fields}
pub use Rattle.clap.specs.ValueTests.{is_unsigned_in}
pub use Rattle.clap.specs.Words.{AddsArg, App, FailsBy, HasMatchesOf, Rule, Text, app_of, fault_of, first_of, first_value, found_of, is_simple, is_simple_and_free, new_app, new_rule, one_of, rows_of, rule_of, subcommand_rows_of, with_rule, with_subcommand}
pub use Rattle.clap.specs.declared.builder.arg.Arg.{Arg}
pub use Rattle.clap.specs.declared.builder.command.Command.{Command}
pub use Rattle.clap.specs.declared.builder.texts.Texts.TheVariants.{One}
pub use Rattle.clap.specs.declared.builder.value_parser.ValueParser.{ValueParser}
pub use Rattle.clap.specs.declared.builder.value_parser.ValueParser.TheVariants.{Names}
pub use Rattle.clap.specs.declared.error.Error.{Error}
pub use Rattle.clap.specs.declared.parser.matches.ArgMatches.{ArgMatches}
pub use Rattle.clap.specs.declared.parser.matches.Found.{Found}
pub use Rattle.std.proofs.Common.{Bool, List, None, Option, Some, ap, ap₂, arith, codes, false, inl, inr, refl, rules, sym, true, ℕ, ◌-◌, ◌<◌, ◌^◌, ◌||◌, ◌∙◌, ◌≡◌, ◌≤◌}
pub use Rattle.std.proofs.lemmas.Result.{IfOk-weaker, err_from_is_err_and}
pub use Rattle.std.proofs.lemmas.Slice.Eq.{bytes_eq-Decides}
pub use Rattle.std.specs.Borrow.{Bor}
pub use Rattle.std.specs.Option.{option_map_or}
pub use Rattle.std.specs.Prelude.{Err, IfErr, IfOk, Ok, Result, option_and_then, option_map, unwrap_or}
pub use Rattle.std.specs.Result.{result_ok}
pub use Rattle.std.specs.Str.{bytes_eq}
pub use Rattle.std.specs.Str.Parse.{ParsesBool, ParsesUnsigned, digits_value, without_leading_plus}
pub use Rattle.std.specs.contracts.prelude.U32FromStr.TheImpl.{from_str_gives-value}
pub use Rattle.torture_run.specs.Limits.{is_asked_within}
