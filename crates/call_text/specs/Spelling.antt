-- The calls of a script, and the one text of each.
use Rattle.std.specs.Prelude.{◌≡◌, ℕ, List, [], ◌∷◌, ◌++◌, codes}
use Rattle.std.specs.Fmt.{decimal}
use Rattle.std.specs.List.{Contains, flat_map}
use Rattle.schedule_text.specs.Spelling.{IsNumber}
use Rattle.schedule_text.specs.AnswerLines.{IsLong}
use Rattle.call_text.specs.declared.call.Actor.{Actor}
use Rattle.call_text.specs.declared.call.Actor.TheVariants as actor
use Rattle.call_text.specs.declared.call.Verb.{Verb}
use Rattle.call_text.specs.declared.call.Verb.TheVariants.{Register, Unregister, Lock, TryLock, Unlock, Online, Quiescent, Offline, First, Next, Read, Word, GetInList, GetInTable, WalkList, WalkTable, Chain, Free, Alloc, Discard, Push, Replace, Cut, Retire, CutRetire, ReplaceRetire, Len, Get, Index, Note, SetNote, Hear, Synchronize, Start, Poll, Barrier, Mark, Done, Inform, Run, Work, NewList, Drop, Insert, ReplaceKey, Remove, Value, NewTable, Grow, Tidy, Counts, Stalled, Close, Again}
use Rattle.call_text.specs.declared.call.Call.{Call}
use Rattle.call_text.specs.declared.words.Argument.{Argument}
use Rattle.call_text.specs.declared.words.Argument.TheVariants as argument
use Rattle.call_text.specs.declared.words.Arguments.{Arguments}

-- ---- what a line has in its four places for numbers

abbrev pub IsArgument : Argument → ℕ → Type 0
IsArgument argument.Absent n = n ≡ 0
IsArgument argument.Number n = IsNumber n
IsArgument argument.LastNumber n = IsNumber n
IsArgument argument.Value n = IsLong n
IsArgument argument.LastValue n = IsLong n

abbrev pub argument_text : Argument → ℕ → List ℕ
argument_text argument.Absent n = []
argument_text argument.Number n = decimal n ++ codes " "
argument_text argument.LastNumber n = decimal n ++ codes "\n"
argument_text argument.Value n = decimal n ++ codes " "
argument_text argument.LastValue n = decimal n ++ codes "\n"

abbrev pub AreArguments : List Argument → List ℕ → Type 0
AreArguments [] [] = Unit {0}
AreArguments (a ∷ more) (n ∷ numbers) = IsArgument a n × AreArguments more numbers
AreArguments _ _ = ⊥

abbrev pub arguments_text : List Argument → List ℕ → List ℕ
arguments_text (a ∷ more) (n ∷ numbers) = argument_text a n ++ arguments_text more numbers
arguments_text _ _ = []

abbrev pub asks : Argument → Argument → Argument → Argument → Arguments
asks a b c d = record { 0 = a; 1 = b; 2 = c; 3 = d }

abbrev pub listed : Arguments → List Argument
listed a = a.0 ∷ a.1 ∷ a.2 ∷ a.3 ∷ []

abbrev pub nothing : Arguments
nothing = asks argument.Absent argument.Absent argument.Absent argument.Absent

abbrev pub number : Arguments
number = asks argument.LastNumber argument.Absent argument.Absent argument.Absent

abbrev pub two_numbers : Arguments
two_numbers = asks argument.Number argument.LastNumber argument.Absent argument.Absent

abbrev pub three_numbers : Arguments
three_numbers = asks argument.Number argument.Number argument.LastNumber argument.Absent

abbrev pub number_and_value : Arguments
number_and_value = asks argument.Number argument.LastValue argument.Absent argument.Absent

abbrev pub two_numbers_and_value : Arguments
two_numbers_and_value = asks argument.Number argument.Number argument.LastValue argument.Absent

abbrev pub value : Arguments
value = asks argument.LastValue argument.Absent argument.Absent argument.Absent

abbrev pub two_values : Arguments
two_values = asks argument.Value argument.LastValue argument.Absent argument.Absent

abbrev pub three_values : Arguments
three_values = asks argument.Value argument.Value argument.LastValue argument.Absent

abbrev pub four_values : Arguments
four_values = asks argument.Value argument.Value argument.Value argument.LastValue

-- ---- verbs

-- the text of a verb up to its first number, and what comes after it
abbrev pub written : Verb → List ℕ × Arguments
written Register = (codes "register\n", nothing)
written Unregister = (codes "unregister\n", nothing)
written Lock = (codes "lock\n", nothing)
written TryLock = (codes "try_lock\n", nothing)
written Unlock = (codes "unlock\n", nothing)
written Online = (codes "online\n", nothing)
written Quiescent = (codes "quiescent\n", nothing)
written Offline = (codes "offline\n", nothing)
written First = (codes "first c", number)
written Next = (codes "next\n", nothing)
written Read = (codes "read\n", nothing)
written Word = (codes "word ", number)
written GetInList = (codes "get l", number_and_value)
written GetInTable = (codes "get t", number_and_value)
written WalkList = (codes "walk l", number)
written WalkTable = (codes "walk t", number)
written Chain = (codes "chain c", number)
written Free = (codes "free c", number)
written Alloc = (codes "alloc ", four_values)
written Discard = (codes "discard\n", nothing)
written Push = (codes "push c", number)
written Replace = (codes "replace c", two_numbers)
written Cut = (codes "cut c", two_numbers)
written Retire = (codes "retire ", value)
written CutRetire = (codes "cut_retire c", two_numbers_and_value)
written ReplaceRetire = (codes "replace_retire c", two_numbers_and_value)
written Len = (codes "len c", number)
written Get = (codes "get c", two_numbers)
written Index = (codes "index c", number_and_value)
written Note = (codes "note c", number)
written SetNote = (codes "set_note c", number_and_value)
written Hear = (codes "hear c", number)
written Synchronize = (codes "synchronize\n", nothing)
written Start = (codes "start\n", nothing)
written Poll = (codes "poll\n", nothing)
written Barrier = (codes "barrier\n", nothing)
written Mark = (codes "mark\n", nothing)
written Done = (codes "done\n", nothing)
written Inform = (codes "inform u", number)
written Run = (codes "run\n", nothing)
written Work = (codes "work\n", nothing)
written NewList = (codes "new c", number)
written Drop = (codes "drop\n", nothing)
written Insert = (codes "insert ", two_values)
written ReplaceKey = (codes "replace ", three_values)
written Remove = (codes "remove ", two_values)
written Value = (codes "value ", value)
written NewTable = (codes "new c", three_numbers)
written Grow = (codes "grow ", two_numbers)
written Tidy = (codes "tidy ", number_and_value)
written Counts = (codes "counts\n", nothing)
written Stalled = (codes "stalled\n", nothing)
written Close = (codes "close\n", nothing)
written Again = (codes "again\n", nothing)

-- what each actor may call
abbrev pub verbs_of : Actor → List Verb
verbs_of (actor.Reader n) = Register ∷ Unregister ∷ Lock ∷ TryLock ∷ Unlock ∷ Online ∷ Quiescent ∷ Offline ∷ First ∷ Next ∷ Read ∷ Word ∷ GetInList ∷ GetInTable ∷ WalkList ∷ WalkTable ∷ []
verbs_of (actor.Updater n) = Chain ∷ Free ∷ Alloc ∷ Discard ∷ Push ∷ Replace ∷ Cut ∷ Retire ∷ CutRetire ∷ ReplaceRetire ∷ Len ∷ Get ∷ Index ∷ Note ∷ SetNote ∷ Hear ∷ Synchronize ∷ Start ∷ Poll ∷ Barrier ∷ Mark ∷ Done ∷ Inform ∷ []
verbs_of (actor.Worker n) = Run ∷ Work ∷ []
verbs_of (actor.List n) = NewList ∷ Drop ∷ Insert ∷ ReplaceKey ∷ Remove ∷ Value ∷ []
verbs_of (actor.Table n) = NewTable ∷ Drop ∷ Insert ∷ ReplaceKey ∷ Remove ∷ Grow ∷ Tidy ∷ []
verbs_of actor.Domain = Counts ∷ Stalled ∷ Close ∷ Again ∷ []

abbrev pub verb_text : Verb → List ℕ → List ℕ
verb_text verb numbers = (written verb).0 ++ arguments_text (listed (written verb).1) numbers

-- ---- calls

abbrev pub IsActor : Actor → Type 0
IsActor (actor.Reader n) = IsNumber n
IsActor (actor.Updater n) = IsNumber n
IsActor (actor.Worker n) = IsNumber n
IsActor (actor.List n) = IsNumber n
IsActor (actor.Table n) = IsNumber n
IsActor actor.Domain = Unit {0}

abbrev pub actor_text : Actor → List ℕ
actor_text (actor.Reader n) = codes "r" ++ decimal n ++ codes " "
actor_text (actor.Updater n) = codes "u" ++ decimal n ++ codes " "
actor_text (actor.Worker n) = codes "w" ++ decimal n ++ codes " "
actor_text (actor.List n) = codes "l" ++ decimal n ++ codes " "
actor_text (actor.Table n) = codes "t" ++ decimal n ++ codes " "
actor_text actor.Domain = codes "d "

-- the actor may call the verb, with these numbers
pub record IsCall (call : Call) : Type 0 where
  pub who : IsActor call.actor
  pub may : Contains (verbs_of call.actor) call.verb
  pub with : AreArguments (listed (written call.verb).1) call.numbers

abbrev pub spelling : Call → List ℕ
spelling call = actor_text call.actor ++ verb_text call.verb call.numbers

-- the text of a whole line
abbrev pub CallText : Call → List ℕ → Type 0
CallText call text = IsCall call × (text ≡ spelling call)

abbrev pub IsCallText : List ℕ → Type 0
IsCallText text = (call : Call) × CallText call text

-- the text of calls, one after the other
abbrev pub calls_text : List Call → List ℕ
calls_text = flat_map spelling
