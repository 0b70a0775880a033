-- The numbers after a word are read exactly.
use Rattle.call_text.proofs.Cited.{◌≡◌, ℕ, ◌*◌, ◌<◌, ◌≤◌, false, true, List, [], ◌∷◌, ◌++◌, refl, sym, ap, subst, ◌∙◌, arith, lit<, lit≤, is_ascii_digit, decimal, eq-eqb, append-nil, ◌>>=◌, is_end, ended_number_at, done, Done, Then, EndedText, NoDigit, ended_reads, is_that, Lang, then_lang, done_lang, as_lang}
use Rattle.call_text.specs.declared.words.Argument.{Argument}
use Rattle.call_text.specs.declared.words.Argument.TheVariants as argument
use Rattle.call_text.specs.Spelling.{IsArgument, argument_text, AreArguments, arguments_text}
use Rattle.call_text.specs.Grammar.{value_at, argument_at, arguments_at}

-- ---- a number and the one byte that ends it

abbrev ValueText : ℕ → ℕ → ℕ → List ℕ → Type 0
ValueText limit end n text = (n < limit) × (text ≡ decimal n ++ end ∷ [])

same_end : (end : ℕ) → is_end end end end ≡ true
same_end end = rw (eq-eqb end end refl) refl

ends_once : (end : ℕ) → is_ascii_digit end ≡ false → NoDigit end end
ends_once end nd e is = ap is_ascii_digit (is_that end e is) ∙ nd

abbrev Plain : ℕ × ℕ → ℕ → List ℕ → Type 0
Plain m = Done m.0

value_spelled : (limit end n : ℕ) (text : List ℕ) → Then (EndedText limit end end) Plain n text → ValueText limit end n text
value_spelled limit end n text s =
    let m = s.0 in
    let value : m.0 ≡ n = s.4.0 in
    let whole : text ≡ decimal m.0 ++ m.1 ∷ [] = s.5 ∙ ap (λ (t : List ℕ). s.1 ++ t) s.4.1 ∙ append-nil s.1 ∙ s.3.2 in
    (rw (← value) s.3.0, whole ∙ ap (λ (k : ℕ). decimal k ++ m.1 ∷ []) value ∙ ap (λ (k : ℕ). decimal n ++ k ∷ []) (is_that end m.1 s.3.1))

value_unspelled : (limit end n : ℕ) (text : List ℕ) → ValueText limit end n text → Then (EndedText limit end end) Plain n text
value_unspelled limit end n text s = ((n, end), text, [], (s.0, same_end end, s.1), (refl, refl), sym (append-nil text))

value_lang : (room end : ℕ) → 0 < room → room ≤ 1000000000000000000 → is_ascii_digit end ≡ false → Lang (ValueText (10 * room) end) (value_at room end)
unfolding value_at
value_lang room end least most nd =
    let ended : Lang (EndedText (10 * room) end end) (ended_number_at room end end) = record {
      reads = ended_reads room end end least most (ends_once end nd) (same_end end);
      some = ((0, end), decimal 0 ++ end ∷ [], (omega (arith, least), same_end end, refl));
    } in
    as_lang (then_lang (EndedText (10 * room) end end) Plain (ended_number_at room end end) (λ m. done m.0) ended (λ m. done_lang m.0)) (value_spelled (10 * room) end) (value_unspelled (10 * room) end)

-- ---- one place

abbrev pub ArgumentText : Argument → ℕ → List ℕ → Type 0
ArgumentText a n text = IsArgument a n × (text ≡ argument_text a n)

argument_lang : (a : Argument) → Lang (ArgumentText a) (argument_at a)
argument_lang argument.Absent = as_lang (done_lang 0) (λ n u s. (sym s.0, s.1)) (λ n u s. (sym s.0, s.1))
argument_lang argument.Number = value_lang 100000000 32 (lit< tt) (lit≤ tt) refl
argument_lang argument.LastNumber = value_lang 100000000 10 (lit< tt) (lit≤ tt) refl
argument_lang argument.Value = value_lang 1000000000000000000 32 (lit< tt) (lit≤ tt) refl
argument_lang argument.LastValue = value_lang 1000000000000000000 10 (lit< tt) (lit≤ tt) refl

-- ---- all places

abbrev pub ArgumentsText : List Argument → List ℕ → List ℕ → Type 0
ArgumentsText kinds numbers text = AreArguments kinds numbers × (text ≡ arguments_text kinds numbers)

abbrev More : List Argument → ℕ → List ℕ → List ℕ → Type 0
More kinds n = Then (ArgumentsText kinds) (λ numbers. Done (n ∷ numbers))

none_spelled : (numbers text : List ℕ) → Done [] numbers text → ArgumentsText [] numbers text
none_spelled [] text s = (tt, s.1)
none_spelled (n ∷ numbers) text s = absurd (let p = s.0 in cc)

none_unspelled : (numbers text : List ℕ) → ArgumentsText [] numbers text → Done [] numbers text
none_unspelled [] text s = (refl, s.1)
none_unspelled (n ∷ numbers) text s = absurd s.0

more_spelled : (a : Argument) (kinds : List Argument) (numbers text : List ℕ) → Then (ArgumentText a) (More kinds) numbers text → ArgumentsText (a ∷ kinds) numbers text
more_spelled a kinds numbers text s =
    let m = s.4 in
    let whole : text ≡ argument_text a s.0 ++ arguments_text kinds m.0 = s.5 ∙ rw (s.3.1, m.5, m.4.1, append-nil, m.3.1) refl in
    subst (λ (ns : List ℕ). ArgumentsText (a ∷ kinds) ns text) m.4.0 ((s.3.0, m.3.0), whole)

more_unspelled : (a : Argument) (kinds : List Argument) (numbers text : List ℕ) → ArgumentsText (a ∷ kinds) numbers text → Then (ArgumentText a) (More kinds) numbers text
more_unspelled a kinds [] text s = absurd s.0
more_unspelled a kinds (n ∷ numbers) text s =
    let rest = arguments_text kinds numbers in
    (n, argument_text a n, rest, (s.0.0, refl), (numbers, rest, [], (s.0.1, refl), (refl, refl), sym (append-nil rest)), s.1)

pub arguments_lang : (kinds : List Argument) → Lang (ArgumentsText kinds) (arguments_at kinds)
unfolding arguments_at
arguments_lang [] = as_lang (done_lang []) none_spelled none_unspelled
arguments_lang (a ∷ kinds) =
    as_lang (then_lang (ArgumentText a) (More kinds) (argument_at a) (λ n t. arguments_at kinds t >>= λ numbers. done (n ∷ numbers.0) numbers.1)
    (argument_lang a)
    (λ n. then_lang (ArgumentsText kinds) (λ numbers. Done (n ∷ numbers)) (arguments_at kinds) (λ numbers. done (n ∷ numbers)) (arguments_lang kinds) (λ numbers. done_lang (n ∷ numbers))))
    (more_spelled a kinds) (more_unspelled a kinds)
