-- What the writer of a bucket knows.
use Rattle.std.specs.Prelude.{◌≡◌, [], ◌∷◌}
use Rattle.rcu_model.specs.Sets.{In}
use Rattle.live_log.specs.Log.{record_of, state_of}
use Rattle.live_log.specs.Tables.{reserved}
use Rattle.rcu_list.specs.live_rule.Seats.{lent_chains}
use Rattle.rcu_list.specs.live_rule.declared.view.View.{View}
use Rattle.rcu_list.specs.live_rule.Rights.{own_in}
use Rattle.rcu_hash.specs.Naming.{Directs, words_by}
use Rattle.rcu_hash.specs.Tables.{IsAmong}
use Rattle.rcu_hash.specs.Writers.{HasKeysIn, HasNote, IsAlone}
use Rattle.rcu_hash.specs.declared.directory.Naming.{Naming}

-- its chain of keys is reserved for the directory, which was alone in its own chain and named it
abbrev pub IsBucket : Naming → View → Type 0
IsBucket n v = IsAlone v × HasKeysIn v × HasNote (reserved n.object) v × Directs n.directory n.object n.first n.buckets v.seen × IsAmong n.first n.buckets (own_in v.chains).chain

-- the right to this directory's chain is lent to it, in which the directory is alone, with no note; it names these chains
abbrev pub HasRight : Naming → View → Type 0
HasRight n v = (lent_chains v.chains ≡ own_in (lent_chains v.chains) ∷ []) × ((own_in (lent_chains v.chains)).chain ≡ n.directory) × ((own_in (lent_chains v.chains)).objects ≡ n.object ∷ []) × ((own_in (lent_chains v.chains)).note ≡ 0)
    × ((record_of v.seen n.object).1 ≡ words_by n.first n.buckets) × In (state_of v.seen).used n.object
