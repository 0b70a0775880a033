-- A line with which an actor below ten goes on.
use Rattle.schedule_text.proofs.Cited.{◌≡◌, ℕ, ◌-◌, ◌≤◌, true, List, ◌∷◌, length, take, drop, get_or, Ok, refl, arith, common_steps, is_ascii_digit, Line, Reader, Updater, Worker}
use Rattle.schedule_text.specs.Reading.{word_from, word_on, digits_on, ended_number_at, number_at}
use Rattle.schedule_text.specs.Grammar.{GoesOn, reader_verb_at, updater_verb_at, worker_verb_at, line_at}

goes_on_bytes : (a d : ℕ) (rest : List ℕ) (line : Line) → is_ascii_digit d ≡ true → GoesOn a (d - 48) line → line_at (a ∷ d ∷ 32 ∷ 46 ∷ 10 ∷ rest) ≡ Ok (line, rest)
unfolding line_at word_on word_from number_at ended_number_at digits_on reader_verb_at updater_verb_at worker_verb_at
goes_on_bytes a d rest (Reader k verb) digit h = rw (h.0, h.1, h.2, digit) refl
goes_on_bytes a d rest (Updater k verb) digit h = rw (h.0, h.1, h.2, digit) refl
goes_on_bytes a d rest (Worker k verb) digit h = rw (h.0, h.1, h.2, digit) refl

five_bytes : (t : List ℕ) → 5 ≤ length t → t ≡ get_or t 0 0 ∷ get_or t 1 0 ∷ get_or t 2 0 ∷ get_or t 3 0 ∷ get_or t 4 0 ∷ take (length t - 5) (drop 5 t)
five_bytes (a ∷ b ∷ c ∷ d ∷ e ∷ rest) le = grind (arith, common_steps)
five_bytes t le = absurd (omega arith)

pub goes_on : (t : List ℕ) (line : Line) → 5 ≤ length t → is_ascii_digit (get_or t 1 0) ≡ true → get_or t 2 0 ≡ 32 → get_or t 3 0 ≡ 46 → get_or t 4 0 ≡ 10 → GoesOn (get_or t 0 0) (get_or t 1 0 - 48) line → line_at t ≡ Ok (line, take (length t - 5) (drop 5 t))
goes_on t line le digit space dot end h =
    let e = goes_on_bytes (get_or t 0 0) (get_or t 1 0) (take (length t - 5) (drop 5 t)) line digit h in
    let f = five_bytes t le in
    grind (arith, e, f, space, dot, end)
