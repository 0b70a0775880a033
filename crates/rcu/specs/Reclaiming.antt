-- What a map's entries leave with.
use base.Stored.{Gv}
use denote.RattleType.{RattleType}
use Rattle.rcu.specs.contracts.reclaim.Reclaim.{the_row}
use Rattle.rcu.specs.declared.reclaim.Reclaim.TheVariants.{Gone, Moved}

-- the code of the callback of a record whose entry moved
abbrev pub moved_code : RattleType → Gv
moved_code R = (the_row R).coded.code Moved

-- the code of the callback of an entry that leaves
abbrev pub gone_code : (R : RattleType) → R.Denot → Gv
gone_code R f = (the_row R).coded.code (Gone f)
