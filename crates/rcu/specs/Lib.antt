pub mod Headline
pub mod Keys
pub mod Logs
pub mod Reclaiming
pub mod Resizing
pub mod Serving
pub mod Slots
pub mod Threads
pub mod Trying
pub use Rattle.rcu_model.specs as rcu_model
pub use Rattle.rcu_model.specs.declared.refusal.Refusal.TheVariants as Refusals
pub use Rattle.rcu_model.specs.Promises
pub use Rattle.poll_cookie.specs.Cookie
pub use Rattle.live_log.specs as live_log
pub use Rattle.live_log.specs.Log
pub use Rattle.live_log.specs.Tables
pub use Rattle.rcu_hash.specs.live_read.Hearing
pub use Rattle.rcu_hash.specs.live_read.Holding
pub use Rattle.rcu_hash.specs.live_read.Reads
pub use Rattle.rcu_hash.specs.live_read.Sections
pub use Rattle.rcu_hash.specs.domain.Barriers
pub use Rattle.rcu_hash.specs.domain.Naming
pub use Rattle.rcu_hash.specs.domain.Retiring
pub use Rattle.rcu_hash.specs.domain.Waiting
pub use Rattle.rcu_hash.specs.domain.Working
pub use Rattle.rcu_hash.specs.live_callbacks as live_callbacks
pub use Rattle.rcu_hash.specs.live_write.Calls
pub use Rattle.rcu_hash.specs.rcu_list.Maps
pub use Rattle.rcu_hash.specs.Directories
pub use Rattle.rcu_hash.specs.Freeing
pub use Rattle.rcu_hash.specs.Growing
pub use Rattle.rcu_hash.specs.Publishing
pub use Rattle.rcu_hash.specs.Refusing
pub use Rattle.rcu_hash.specs.Tidying
pub use Rattle.rcu_hash.specs.domain as domain
pub use Rattle.rcu_hash.specs.live_read as live_read
pub use Rattle.rcu_hash.specs.live_rule as live_rule
pub use Rattle.rcu_hash.specs.live_waits as live_waits
pub use Rattle.rcu_hash.specs.live_write as live_write
pub use Rattle.rcu_hash.specs.rcu_list as rcu_list
pub use Rattle.rcu_hash.specs as rcu_hash
