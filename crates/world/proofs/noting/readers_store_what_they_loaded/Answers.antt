use Rattle.world.proofs.Cited.{Memb, Qsbr, memb_plans, qsbr_plans, fresh_in}
use Rattle.world.specs.Loads.{ReadersStoreWhatTheyLoaded}
use Rattle.world.proofs.Loads.{stored_from_fresh}
use Rattle.world.proofs.noting.readers_store_what_they_loaded.Goals as goal

pub returns : goal.returns
returns c = λ config seq lines. elim config.flavour as (λ flavour. ReadersStoreWhatTheyLoaded (fresh_in flavour config seq) lines) [ Memb ↦ stored_from_fresh memb_plans config seq lines | Qsbr ↦ stored_from_fresh qsbr_plans config seq lines ]
