-- What a reader keeps between two lines.
use Rattle.gp_memb.specs.declared.plan.GracePlan as plan
use Rattle.std.specs.Prelude.{◌<◌, Option, IfSome}
use Rattle.rcu_hash.specs.live_read.declared.held.Held.{Held}
use Rattle.rcu_hash.specs.live_read.declared.reader_core.ReaderCore.{ReaderCore}
use Rattle.rcu_hash.specs.live_read.Holding.{MayHoldIn}

module _ {P K : Type 0} {g : plan.Ghosts P} where
  -- what was found last, if anything was, is something that the reader may still hold, in a lock that is open
  abbrev pub Stands : ReaderCore P K g → Option Held → Type 0
  Stands r held = IfSome held (λ h. (0 < r.depth) × MayHoldIn r h.cell)
