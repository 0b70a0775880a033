-- The lemmas of this crate that crates above it cite.
pub use Rattle.rcu_list.proofs.GivingBack.{gives_back}
pub use Rattle.rcu_list.proofs.Values.{rank_same, value_same}
pub use Rattle.rcu_list.proofs.Writing.{MayWriteIn, KnowsKeys, by_result, by_second, chain_known, comes_above, comes_in, cut_map, found_there, if_err, if_ok, keys_cut, keys_on, keys_pushed, keys_replaced, keys_walked, may_remove, note_walked, pushed_map, rank_walked, replaced_map, same_own, stays_both, takes_over, walked_missing}
