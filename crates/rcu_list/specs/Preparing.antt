-- A record that a writer has made ready.
use Rattle.std.specs.Prelude.{◌≡◌, ◌≢◌, ℕ, ◌<◌, ◌^◌, None}
use Rattle.rcu_model.specs.declared.event.ObjectId.{ObjectId}
use Rattle.rcu_model.specs.Sets.{In}
use Rattle.live_log.specs.Keys.{key_of, rank_of}
use Rattle.live_log.specs.Log.{Log, record_of}
use Rattle.domain.specs.live_rule.declared.view.View.{View}
use Rattle.domain.specs.live_rule.Rights.{payload_in}
use Rattle.domain.specs.live_write.Chains.{IsFirstWith, list_in}
use Rattle.rcu_list.specs.Maps.{map_of, next_rank, words_of}

-- by what the writer of a chain knows, and the record
module _ (v u : View) (key value : ℕ) where
  -- it has the key, which no object of the chain has, and the rank that comes next, which is above all of theirs
  pub record MayComeIn : Type 0 where
    pub rank : ℕ
    pub words : payload_in u.object ≡ words_of key value rank
    pub next : rank ≡ next_rank (record_of v.seen) (list_in v)
    pub others : (o : ObjectId) → In (list_in v) o → (key_of (record_of v.seen o) ≢ key) × (rank_of (record_of v.seen o) < rank)

  -- it has the key and the rank of the object at the index
  pub record MayTakeOver (index : ℕ) : Type 0 where
    pub rank : ℕ
    pub words : payload_in u.object ≡ words_of key value rank
    pub found : IsFirstWith v.seen (list_in v) key index
    pub same : rank ≡ rank_of (record_of v.seen found.object)

-- a record of this seat is ready for a key that the map does not have, and a rank is left for it
abbrev pub IsReadyFor : View → View → Log → (c key value : ℕ) → Type 0
IsReadyFor v u known c key value = (made : MayComeIn v u key value) × (made.rank < 2 ^ 62) × (map_of known c key ≡ None)
