-- The text of an answer.
use Rattle.std.specs.Prelude.{◌≡◌, ℕ, true, false, List, [], ◌∷◌, ◌++◌, codes, Bool, ◌==◌, Option, Some, None}
use Rattle.std.specs.Fmt.{decimal}
use Rattle.std.specs.List.{flat_map, list_any}
use Rattle.rcu_model.specs.declared.refusal.Refusal.{Refusal}
use Rattle.rcu_model.specs.Refusal.{number_of}
use Rattle.call_text.specs.declared.answer.Called.{Called}
use Rattle.call_text.specs.declared.answer.Answer.{Answer}
use Rattle.call_text.specs.declared.answer.Answer.TheVariants.{Done, Quiet, Nothing, Says, WouldWait, Refused, Object, Ticket, Number, Words, Counted, Slots, Finished, Met, Left, Tidied}

-- a number after a space
abbrev pub spaced : ℕ → List ℕ
spaced n = codes " " ++ decimal n

abbrev pub numbers_text : List ℕ → List ℕ
numbers_text = flat_map spaced

abbrev pub words_text : List ℕ → List ℕ
words_text [] = []
words_text (first ∷ more) = decimal first ++ numbers_text more

abbrev pub called_text : Called → List ℕ
called_text c = codes " " ++ decimal c.ticket ++ codes " o" ++ decimal c.object ++ codes " " ++ decimal c.code

abbrev pub pair_text : ℕ × ℕ → List ℕ
pair_text p = codes " " ++ decimal p.0 ++ codes ":" ++ decimal p.1

-- what follows where a run, or a tidying, stopped early
abbrev pub stop_text : Option Refusal → List ℕ
stop_text None = []
stop_text (Some refusal) = codes " stopped E" ++ decimal (number_of refusal)

-- what follows where callbacks come back
abbrev pub back_text : List ℕ → List ℕ
back_text [] = []
back_text (code ∷ more) = codes " back" ++ numbers_text (code ∷ more)

abbrev pub tidied_text : ℕ → ℕ → List ℕ → Option Refusal → List ℕ
tidied_text retired left back stop = codes "retired " ++ decimal retired ++ codes " left " ++ decimal left ++ back_text back ++ stop_text stop

abbrev pub answer_text : Answer → List ℕ
answer_text Done = codes "ok"
answer_text Quiet = codes "."
answer_text Nothing = codes "none"
answer_text (Says true) = codes "yes"
answer_text (Says false) = codes "no"
answer_text WouldWait = codes "would wait"
answer_text (Refused refusal) = codes "refused E" ++ decimal (number_of refusal)
answer_text (Object object) = codes "o" ++ decimal object
answer_text (Ticket ticket) = codes "ticket " ++ decimal ticket
answer_text (Number n) = decimal n
answer_text (Words words) = words_text words
answer_text (Counted seq records waiting) = codes "seq " ++ decimal seq ++ codes " records " ++ decimal records ++ codes " waiting" ++ numbers_text waiting.items
answer_text (Slots slots) = codes "slots" ++ numbers_text slots.items
answer_text (Finished called stop) = codes "finished" ++ flat_map called_text called.items ++ stop_text stop
answer_text (Met pairs) = codes "met" ++ flat_map pair_text pairs.items
answer_text (Left left) = codes "left " ++ decimal left
answer_text (Tidied retired left back stop) = tidied_text retired left back.items stop

abbrev pub answer_line : Answer → List ℕ
answer_line answer = answer_text answer ++ codes "\n"

-- the text has a line feed
abbrev pub breaks : List ℕ → Bool
breaks = list_any (λ b. b == 10)

-- the text has one line feed, at its end
abbrev pub IsOneLine : List ℕ → Type 0
IsOneLine text = (front : List ℕ) × (text ≡ front ++ codes "\n") × (breaks front ≡ false)
