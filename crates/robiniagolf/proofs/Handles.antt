-- What a handle keeps.
use Rattle.robiniagolf.proofs.Cited.{◌≡◌, ℕ, List, Bool, true, false, Option, is_some, refl, sym, ap, subst, ◌∙◌, true≢false, Finding, Yes, No, BadText, Memory, TextJudge, WasFed, is_final}
use Rattle.std.proofs.Common.{Some, None}
use Rattle.robiniagolf.specs.declared.verdict.Verdict.{Verdict}
use Rattle.robiniagolf.specs.Verdicts.{IsDone, Keeps, answer_by, answer_of, verdict_by, verdict_of}

pub full_keeps : {A : Type 0} (v : Option A) (full : Bool) → full ≡ is_some v → full ≡ true → v ≡ None → ⊥
full_keeps None full told is e = true≢false (sym is ∙ told)
full_keeps (Some x) full told is e = cc

pub empty_keeps_none : {A : Type 0} (v : Option A) (full : Bool) → full ≡ is_some v → full ≡ false → v ≡ None
empty_keeps_none None full told is = refl
empty_keeps_none (Some x) full told is = absurd (true≢false (sym told ∙ is))

-- a handle that keeps this judge keeps what that one was fed
pub kept_was_fed : (v : Option TextJudge) (kept judge : TextJudge) (fed : List ℕ) → v ≡ Some kept → judge ≡ kept → Keeps v fed → WasFed judge fed
kept_was_fed v kept judge fed is same k = subst (λ (j : TextJudge). WasFed j fed) (sym same) (subst (λ (o : Option TextJudge). Keeps o fed) is k)

pub keeps_fed : (v : Option TextJudge) (judge : TextJudge) (fed : List ℕ) → v ≡ Some judge → WasFed judge fed → Keeps v fed
keeps_fed v judge fed is w = subst (λ (o : Option TextJudge). Keeps o fed) (sym is) w

-- a handle that keeps nothing was fed nothing
pub none_was_fed : (v : Option TextJudge) (fed : List ℕ) → v ≡ None → Keeps v fed → ⊥
none_was_fed v fed is k = subst (λ (o : Option TextJudge). Keeps o fed) is k

-- what is told of what the kept judge has found
pub told_answer : (v : Option TextJudge) (kept judge : TextJudge) (found : Finding) (answer : ℕ) → v ≡ Some kept → judge ≡ kept → found ≡ judge.found → answer ≡ answer_of found → answer ≡ answer_by v
told_answer v kept judge found answer is same seen told = told ∙ (ap answer_of (seen ∙ ap (λ (j : TextJudge). j.found) same) ∙ sym (ap answer_by is))

pub told_verdict : (v : Option TextJudge) (kept judge : TextJudge) (found : Finding) (verdict : Verdict) → v ≡ Some kept → judge ≡ kept → found ≡ judge.found → verdict ≡ verdict_of found → verdict ≡ verdict_by v
told_verdict v kept judge found verdict is same seen told = told ∙ (ap verdict_of (seen ∙ ap (λ (j : TextJudge). j.found) same) ∙ sym (ap verdict_by is))

-- what is final stands at the end
pub told_done : (v : Option TextJudge) (kept judge : TextJudge) (found : Finding) (verdict : Verdict) → v ≡ Some kept → judge ≡ kept → (is_final judge.found ≡ true → found ≡ judge.found) → verdict ≡ verdict_of found → IsDone v → verdict ≡ verdict_by v
told_done v kept judge found verdict is same stands told done =
    let final = subst IsDone is done in
    told_verdict v kept judge found verdict is same (stands (ap (λ (j : TextJudge). is_final j.found) same ∙ final)) told

is_memory : (found : Finding) → (verdict_of found).answer ≡ 3 → found ≡ Memory
is_memory (Yes events) is = absurd cc
is_memory (No at rule) is = absurd cc
is_memory (BadText line column) is = absurd cc
is_memory Memory is = refl

-- the end wants no memory
pub told_memory : (v : Option TextJudge) (kept judge : TextJudge) (found : Finding) (verdict : Verdict) (fed : List ℕ) → v ≡ Some kept → judge ≡ kept → ((text : List ℕ) → WasFed judge text → found ≡ Memory → judge.found ≡ Memory) → verdict ≡ verdict_of found → Keeps v fed → verdict.answer ≡ 3 → answer_by v ≡ 3
told_memory v kept judge found verdict fed is same wants told k wanted =
    let stood = wants fed (kept_was_fed v kept judge fed is same k) (is_memory found (sym (ap (λ (x : Verdict). x.answer) told) ∙ wanted)) in
    ap answer_by is ∙ (sym (ap (λ (j : TextJudge). answer_of j.found) same) ∙ ap answer_of stood)
