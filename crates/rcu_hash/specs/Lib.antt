pub mod Buckets
pub mod Calls
pub mod Copies
pub mod Directories
pub mod Freeing
pub mod Growing
pub mod Leaving
pub mod Naming
pub mod Publishing
pub mod Refusing
pub mod Tables
pub mod Tidying
pub mod Writers
pub use Rattle.rcu_list.specs.domain as domain
pub use Rattle.rcu_list.specs.live_callbacks as live_callbacks
pub use Rattle.rcu_list.specs.live_read as live_read
pub use Rattle.rcu_list.specs.live_rule as live_rule
pub use Rattle.rcu_list.specs.live_waits as live_waits
pub use Rattle.rcu_list.specs.live_write as live_write
pub use Rattle.rcu_list.specs as rcu_list
