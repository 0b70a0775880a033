pub mod Config
pub mod Naming
pub mod Waiting
pub mod Retiring
pub mod Barriers
pub mod Working
pub use Rattle.callback_queue.specs as callback_queue
pub use Rattle.live_callbacks.specs as live_callbacks
pub use Rattle.live_read.specs as live_read
pub use Rattle.live_words.specs.live_rule as live_rule
pub use Rattle.live_waits.specs as live_waits
pub use Rattle.live_write.specs as live_write
pub use Rattle.live_words.specs.step_chains as step_chains
