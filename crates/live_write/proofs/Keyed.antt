-- A writer under the rule of keyed chains shows what the rule asks by its list and the notes that it has seen.
use Rattle.live_write.proofs.Cited.{Bool, ◌≡◌, ◌≢◌, ◌<◌, subst, ObjectId, In, LiveEvent, key_of, rank_of, Falls, keyed, Log, IsLiveRun, record_of, each_falls, View, IsListed, IsWriter, own_in, payload_in, MayWrite, cut_of}
use Rattle.live_words.proofs.step_chains.Lemmas as chains
use Rattle.live_write.specs.Chains.{MayPublish, list_in, push_by, replace_by}

-- what a writer may write by what it knows alone it may publish, whoever calls
pub may_publish : (qsbr : Bool) (allows : Log → LiveEvent → Type 0) (v : View) (seen heard owner : Log) (e : LiveEvent) → MayWrite qsbr allows v e → MayPublish qsbr allows v seen heard owner e
may_publish qsbr allows v seen heard owner e may log on run known allowed = may log on.after_writer.0 on.after_writer.1 run known allowed

module _ (qsbr : Bool) (v : View) (seen heard owner : Log) (own : IsWriter v) (listed : IsListed v) (run : IsLiveRun qsbr keyed v.seen) where
  -- the writer's list falls
  falls : Falls (record_of v.seen) (list_in v)
  falls = subst (Falls (record_of v.seen)) listed.0 (each_falls qsbr v.seen (own_in v.chains).chain run)

  -- another key, above all ranks
  pub keyed_push : (u : View) → ((p : ObjectId) → In (list_in v) p → (key_of (record_of v.seen p) ≢ key_of (0, payload_in u.object)) × (rank_of (record_of v.seen p) < rank_of (0, payload_in u.object))) → MayPublish qsbr keyed v seen heard owner (push_by v u)
  keyed_push u above = let w : View = record v { object = u.object } in may_publish qsbr keyed v seen heard owner (push_by v u) (chains.may_push qsbr w own listed falls above)

  -- the same key and rank
  pub keyed_replace : (u : View) (o : ObjectId) → In (list_in v) o → (key_of (0, payload_in u.object) ≡ key_of (record_of v.seen o)) × (rank_of (0, payload_in u.object) ≡ rank_of (record_of v.seen o)) → MayPublish qsbr keyed v seen heard owner (replace_by o v u)
  keyed_replace u o at kept = let w : View = record v { object = u.object } in may_publish qsbr keyed v seen heard owner (replace_by o v u) (chains.may_replace qsbr w own listed o at falls kept)

  pub keyed_cut : (o : ObjectId) → MayPublish qsbr keyed v seen heard owner (cut_of o v)
  keyed_cut o = may_publish qsbr keyed v seen heard owner (cut_of o v) (chains.may_cut qsbr v own listed o falls)
