-- What other crates prove by.
pub use Rattle.rcu_hash.proofs.Taking.{during_since, frees_both, only_free}
pub use Rattle.rcu_hash.proofs.Emptying.{callbacks_both, changes_both, follow_both, follow_weaker, freed_both}
