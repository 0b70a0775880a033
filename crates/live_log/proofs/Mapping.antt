-- Chains are maps under the rule of keyed chains, and under that of tables.
use Rattle.std.proofs.Common.{Bool, ℕ, sym, ◌∙◌, inl, inr, ⊎_elim}
use Rattle.live_log.specs.declared.event.ObjectEvent.TheVariants.{Replace}
use Rattle.live_log.specs.Keys.{keyed, keyed_event}
use Rattle.live_log.specs.Log.{Log, record_of}
use Rattle.live_log.specs.Maps.{HasMaps, IsPlain, IsUnnoted, TakesKeys}
use Rattle.live_log.specs.Tables.{HasKey, IsFree, Redirects, tabled}
use Rattle.live_log.proofs.Falling as keys
use Rattle.live_log.proofs.Tabling as tables

-- under the rule of keyed chains each chain takes keys so
pub keyed_takes : (qsbr : Bool) (free : Log → ℕ → Type 0) → TakesKeys qsbr keyed free
keyed_takes qsbr free = record {
  pushes = λ log c o cell payload plain key allowed. allowed;
  replaces = λ log c old new cell payload plain at key allowed. allowed;
  cuts = λ log c o plain at allowed. allowed;
}

-- under that of tables the free ones do
pub free_takes : (qsbr : Bool) → TakesKeys qsbr tabled IsFree
free_takes qsbr = record {
  pushes = λ log c o cell payload plain key allowed. (plain.is_free, inl (key, plain.keys, allowed));
  replaces = λ log c old new cell payload plain at key allowed. (plain.is_free, inl (key, plain.keys old at, allowed));
  cuts = λ log c o plain at allowed. (plain.is_free, plain.keys o at, allowed);
}

-- so those with no note
module _ (qsbr : Bool) where
  free_one : (log : Log) (c : ℕ) → IsPlain qsbr tabled IsUnnoted log c → IsPlain qsbr tabled IsFree log c
  free_one log c plain = record { run = plain.run; is_free = tables.unnoted_free qsbr log c plain.run plain.is_free; keys = plain.keys }

  unnoted_takes : TakesKeys qsbr tabled IsUnnoted
  unnoted_takes = let free = free_takes qsbr in record {
    pushes = λ log c o cell payload plain key allowed. free.pushes log c o cell payload (free_one log c plain) key allowed;
    replaces = λ log c old new cell payload plain at key allowed. free.replaces log c old new cell payload (free_one log c plain) at key allowed;
    cuts = λ log c o plain at allowed. free.cuts log c o (free_one log c plain) at allowed;
  }

pub keyed_maps : (qsbr : Bool) → HasMaps qsbr keyed
keyed_maps qsbr = record {
  falls = keys.each_falls qsbr;
  alike = λ log c old new cell payload run. (run.0.1.2, inl run.0.1.1);
  takes = keyed_takes qsbr IsUnnoted;
}

pub tabled_maps : (qsbr : Bool) → HasMaps qsbr tabled
tabled_maps qsbr = record {
  falls = tables.each_falls qsbr;
  alike = λ log c old new cell payload run. ⊎_elim
      (λ (k : HasKey (cell, payload) × HasKey (record_of log old) × keyed_event log (Replace c old new cell payload)). (k.2.2, inl k.2.1))
      (λ (k : Redirects log c old new (cell, payload)). (k.0.1 ∙ sym k.1.1, inr (tables.was_alone qsbr log c old new cell payload run k.1)))
      run.0.1.1;
  takes = unnoted_takes qsbr;
}
