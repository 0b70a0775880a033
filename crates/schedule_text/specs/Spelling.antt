-- The lines of a schedule after its header, and the one text of each.
use Rattle.std.specs.Prelude.{◌≡◌, ℕ, ◌<◌, List, ◌++◌, codes}
use Rattle.std.specs.Fmt.{decimal}
use Rattle.std.specs.List.{flat_map}
use Rattle.world_state.specs.declared.line.Line.{Line}
use Rattle.world_state.specs.declared.line.Line.TheVariants.{Reader, Updater, Worker}
use Rattle.world_state.specs.declared.line.ReaderVerb.{ReaderVerb}
use Rattle.world_state.specs.declared.line.ReaderVerb.TheVariants as reader
use Rattle.world_state.specs.declared.line.UpdaterVerb.{UpdaterVerb}
use Rattle.world_state.specs.declared.line.UpdaterVerb.TheVariants as updater
use Rattle.world_state.specs.declared.line.WorkerVerb.{WorkerVerb}
use Rattle.world_state.specs.declared.line.WorkerVerb.TheVariants as worker

abbrev pub reader_verb : ReaderVerb → List ℕ
reader_verb reader.Lock = codes "lock\n"
reader_verb reader.Unlock = codes "unlock\n"
reader_verb reader.Online = codes "online\n"
reader_verb reader.Quiescent = codes "quiescent\n"
reader_verb reader.Offline = codes "offline\n"
reader_verb (reader.First c) = codes "first c" ++ decimal c ++ codes "\n"
reader_verb reader.Next = codes "next\n"
reader_verb reader.Touch = codes "touch\n"
reader_verb reader.GoOn = codes ".\n"

abbrev pub updater_verb : UpdaterVerb → List ℕ
updater_verb (updater.Push c) = codes "push c" ++ decimal c ++ codes "\n"
updater_verb (updater.Replace o) = codes "replace o" ++ decimal o.0 ++ codes "\n"
updater_verb (updater.Cut o) = codes "cut o" ++ decimal o.0 ++ codes "\n"
updater_verb (updater.Retire o) = codes "retire o" ++ decimal o.0 ++ codes "\n"
updater_verb updater.Sync = codes "sync\n"
updater_verb updater.Start = codes "start\n"
updater_verb updater.Poll = codes "poll\n"
updater_verb updater.Barrier = codes "barrier\n"
updater_verb updater.GoOn = codes ".\n"

abbrev pub worker_verb : WorkerVerb → List ℕ
worker_verb worker.Take = codes "take\n"
worker_verb worker.GoOn = codes ".\n"

abbrev pub spelling : Line → List ℕ
spelling (Reader n verb) = codes "r" ++ decimal n ++ codes " " ++ reader_verb verb
spelling (Updater n verb) = codes "u" ++ decimal n ++ codes " " ++ updater_verb verb
spelling (Worker n verb) = codes "w" ++ decimal n ++ codes " " ++ worker_verb verb

-- a number that has at most nine digits
abbrev pub IsNumber : ℕ → Type 0
IsNumber n = n < 1000000000

abbrev pub IsReaderVerb : ReaderVerb → Type 0
IsReaderVerb (reader.First c) = IsNumber c
IsReaderVerb _ = Unit {0}

abbrev pub IsUpdaterVerb : UpdaterVerb → Type 0
IsUpdaterVerb (updater.Push c) = IsNumber c
IsUpdaterVerb (updater.Replace o) = IsNumber o.0
IsUpdaterVerb (updater.Cut o) = IsNumber o.0
IsUpdaterVerb (updater.Retire o) = IsNumber o.0
IsUpdaterVerb _ = Unit {0}

abbrev pub IsLine : Line → Type 0
IsLine (Reader n verb) = IsNumber n × IsReaderVerb verb
IsLine (Updater n verb) = IsNumber n × IsUpdaterVerb verb
IsLine (Worker n verb) = IsNumber n

-- the text of a whole line
abbrev pub LineText : Line → List ℕ → Type 0
LineText line text = IsLine line × (text ≡ spelling line)

abbrev pub IsLineText : List ℕ → Type 0
IsLineText text = (line : Line) × LineText line text

-- the text of lines, one after the other
abbrev pub lines_text : List Line → List ℕ
lines_text = flat_map spelling
