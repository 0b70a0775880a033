-- Which section got which object, as the checker keeps it.
use Rattle.std.specs.Prelude.{IsTrue, List, [], ◌∷◌, Option, Some, None}
use Rattle.std.specs.List.{list_any}
use Rattle.std.specs.HashMap.{get}
use Rattle.rcu_model.specs.declared.event.SectionId.{SectionId}
use Rattle.rcu_model.specs.declared.event.ObjectId.{ObjectId}
use Rattle.rcu_judge.specs.declared.holdings.Got.{Got}
use Rattle.rcu_judge.specs.declared.holdings.Holdings.{Holdings}
use Rattle.rcu_model.specs.Sets.{same_section, same_object}

-- the objects that a section got, where it got one
abbrev pub objects_in : Option Got → List ObjectId
objects_in None = []
objects_in (Some got) = got.newest ∷ got.older.keys

-- the section got the object since it was opened
abbrev pub HasGot : Holdings → SectionId → ObjectId → Type 0
HasGot h s o = IsTrue (list_any (same_object o) (objects_in (get same_section h.got s)))
