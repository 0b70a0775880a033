-- What the proofs of this crate use of other crates.
pub use Rattle.rcu_model.specs.Refusal.{number_of}
pub use Rattle.rcu_model.specs.declared.refusal.Refusal.{Refusal}
pub use Rattle.schedule_text.proofs.Lemmas.{Done, EndedText, InTable, Lang, NoDigit, NumberText, Reads, Then, as_lang, bad_column, bad_within, done_lang, ended_reads, found_whole, is_that, long_column, no_whole, number_lang, only_whole, rest_within, table_lang, then_lang}
pub use Rattle.schedule_text.specs.Grammar.{done}
pub use Rattle.schedule_text.specs.Reading.{is_end, word_at, ◌>>=◌}
unfoldable pub use Rattle.schedule_text.specs.Reading.{ended_number_at, number_at, word_from, word_on}
pub use Rattle.schedule_text.specs.Spelling.{IsNumber}
pub use Rattle.std.proofs.Common.{Bool, Err, List, None, Ok, Option, Some, [], ap, append_assoc, arith, cond, eqb, false, get_or, inl, inr, length, lit<, lit≤, map, refl, subst, suc, sym, take, true, zero, ℕ, ◌%◌, ◌*◌, ◌++◌, ◌/◌, ◌<◌, ◌∙◌, ◌∷◌, ◌≡◌, ◌≤◌}
pub use Rattle.std.proofs.lemmas.Bool.{eq-eqb, eqb-false, eqb-true}
pub use Rattle.std.proofs.lemmas.Bool.Decides.{nat_tests}
pub use Rattle.std.proofs.lemmas.List.{append-nil}
pub use Rattle.std.proofs.lemmas.List.Folds.{list_any-append}
pub use Rattle.std.specs.Char.{is_ascii_digit}
pub use Rattle.std.specs.Fmt.{decimal, digit_glyph, digits_onto}
unfoldable pub use Rattle.std.specs.Fmt.{digits}
pub use Rattle.std.specs.List.{Contains, flat_map}
pub use Rattle.std.specs.Prelude.{codes, ◌||◌}
pub use Rattle.std.specs.String.{string_bytes}
