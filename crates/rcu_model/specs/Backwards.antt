-- Logs with the newest event first.
use Rattle.std.specs.Prelude.{List, [], ◌∷◌}
use Rattle.rcu_model.specs.declared.event.Event.{Event}
use Rattle.rcu_model.specs.Machine.{State, start, IsAllowed, after}

abbrev pub state_back : List Event → State
state_back [] = start
state_back (e ∷ es) = after (state_back es) e

-- each event goes by the rules after those before it, which stand behind it
abbrev pub IsRunBack : List Event → Type 0
IsRunBack [] = Unit {0}
IsRunBack (e ∷ es) = IsRunBack es × IsAllowed (state_back es) e
