pub mod Cited
pub mod Copies
pub mod Counting
pub mod Directing
pub mod Emptying
pub mod Filling
pub mod Finding
pub mod Holds
pub mod Hearing
pub mod Lemmas
pub mod Looking
pub mod Named
pub mod Relinking
pub mod Taking
pub mod Tidied
pub use Rattle.rcu_list.proofs.live_read as live_read
pub use Rattle.rcu_list.proofs as rcu_list
