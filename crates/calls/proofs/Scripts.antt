-- A whole script.
use Rattle.calls.proofs.Cited.{◌≡◌, ℕ, ◌+◌, List, [], ◌∷◌, ◌++◌, length, Option, Result, Ok, Err, refl, ap, subst, ◌∙◌, inl, inr, arith, ReplayFault, BadText, BadConfig, Read, Write, Memory, IsBad, bad_byte, bad_end, ReadsNoMore, Header, header_at, HeaderText, IsHeaderText, header_reads}
use Rattle.calls.specs.Script.{AnswersLines, AnswersIn, AnswersScript, AnswersCalls}
use Rattle.calls.proofs.Answering.{answering_none, breaks_off}

-- memory for the domain was refused
pub refused : (text : List ℕ) (now : Option (List ℕ)) → AnswersLines text now now (Err Memory)
refused text now = breaks_off text text 2 now now [] (answering_none text now)

-- the header is within its limits
pub in_limits : (h : Header) (text : List ℕ) (before after : Option (List ℕ)) (result : Result (Unit {0}) ReplayFault) → AnswersLines text before after result → AnswersIn h text before after result
in_limits h text before after (Ok u) a = a
in_limits h text before after (Err (BadText line column)) a = a
in_limits h text before after (Err BadConfig) a = absurd a
in_limits h text before after (Err Read) a = a
in_limits h text before after (Err Write) a = a
in_limits h text before after (Err Memory) a = a

-- the header was read
pub has_header : (text rest : List ℕ) (h : Header) (before after : Option (List ℕ)) (result : Result (Unit {0}) ReplayFault) → header_at text ≡ Ok (h, rest) → AnswersIn h rest before after result → AnswersScript text before after result
has_header text rest h before after result e answers =
    let f = header_reads.found text h rest e in
    inr record { first = h; body = rest; good = f.spelled.0; whole = f.parts ∙ ap (λ (t : List ℕ). t ++ rest) f.spelled.1; answers = answers }

bad_first : (text bad : List ℕ) (column : ℕ) → header_at text ≡ Err bad → column + length bad ≡ length text + 1 → IsBad IsHeaderText text column
bad_first text [] column e at =
    let same : length text + 1 ≡ column = omega (arith, at) in
    subst (λ (n : ℕ). IsBad IsHeaderText text n) same (bad_end HeaderText header_at header_reads text e)
bad_first text (b ∷ bs) column e at = bad_byte HeaderText header_at header_reads text b bs column e at

-- no header stands first
pub has_none : (text bad : List ℕ) (column : ℕ) (now : Option (List ℕ)) → header_at text ≡ Err bad → column + length bad ≡ length text + 1 → AnswersScript text now now (Err (BadText 1 column))
has_none text bad column now e at = inl (column, record { bad = bad_first text bad column e at; told = refl; nothing = refl })

-- the text was not read whole
pub no_text : (given left now : Option (List ℕ)) (fault : ReplayFault) → ReadsNoMore given left fault → AnswersCalls given left now now (Err fault)
no_text given left now fault r = inl record { told = elim r.0 [ inl e ↦ inl (ap (λ (f : ReplayFault). Err f) e) | inr e ↦ inr (ap (λ (f : ReplayFault). Err f) e) ]; read = r.1.0; reads = r.1.1; nothing = refl }
