-- The one text of each event.
use Rattle.std.specs.Prelude.{ℕ, List, ◌++◌, codes, Option, Some, None}
use Rattle.std.specs.Fmt.{decimal}
use Rattle.rcu_model.specs.declared.event.SectionId.{SectionId}
use Rattle.rcu_model.specs.declared.event.ObjectId.{ObjectId}
use Rattle.rcu_model.specs.declared.event.Event.{Event}
use Rattle.rcu_model.specs.declared.event.Event.TheVariants.{Open, Close, First, Next, Touch, Push, Replace, Cut, Retire, Queue, Run, Ask, Answer, Bar, Clear}

abbrev pub section_text : SectionId → List ℕ
section_text s = codes "r" ++ decimal s.reader ++ codes "." ++ decimal s.ordinal

abbrev pub chain_text : ℕ → List ℕ
chain_text n = codes "c" ++ decimal n

abbrev pub object_text : ObjectId → List ℕ
object_text o = codes "o" ++ decimal o.0

abbrev pub found_text : Option ObjectId → List ℕ
found_text None = codes "none"
found_text (Some o) = object_text o

abbrev pub text_of : Event → List ℕ
text_of (Open s) = codes "open " ++ section_text s
text_of (Close s) = codes "close " ++ section_text s
text_of (First s c found) = codes "first " ++ section_text s ++ codes " " ++ chain_text c ++ codes " " ++ found_text found
text_of (Next s o found) = codes "next " ++ section_text s ++ codes " " ++ object_text o ++ codes " " ++ found_text found
text_of (Touch s o) = codes "touch " ++ section_text s ++ codes " " ++ object_text o
text_of (Push c o) = codes "push " ++ chain_text c ++ codes " " ++ object_text o
text_of (Replace c old new) = codes "replace " ++ chain_text c ++ codes " " ++ object_text old ++ codes " " ++ object_text new
text_of (Cut c o) = codes "cut " ++ chain_text c ++ codes " " ++ object_text o
text_of (Retire o) = codes "retire " ++ object_text o
text_of (Queue o q) = codes "queue " ++ object_text o ++ codes " q" ++ decimal q
text_of (Run o) = codes "run " ++ object_text o
text_of (Ask a) = codes "ask a" ++ decimal a
text_of (Answer a) = codes "answer a" ++ decimal a
text_of (Bar b) = codes "bar b" ++ decimal b
text_of (Clear b) = codes "clear b" ++ decimal b
