pub mod Calls
pub mod Maps
pub mod Preparing
pub mod Refusing
pub mod Walks
pub use Rattle.domain.specs as domain
pub use Rattle.domain.specs.live_callbacks as live_callbacks
pub use Rattle.domain.specs.live_read as live_read
pub use Rattle.domain.specs.live_rule as live_rule
pub use Rattle.domain.specs.live_waits as live_waits
pub use Rattle.domain.specs.live_write as live_write
