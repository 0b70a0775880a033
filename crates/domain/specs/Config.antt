-- Which domains there are.
use Rattle.std.specs.Prelude.{◌≡◌, ℕ, Bool, true, ◌&&◌, nat_le, if◌then◌else◌}
use Rattle.rcu_model.specs.declared.refusal.Refusal.{Refusal}
use Rattle.rcu_model.specs.declared.refusal.Refusal.TheVariants.{BadConfig, Memory}
use Rattle.domain.specs.declared.config.LiveConfig.{LiveConfig}

abbrev pub within : ℕ → ℕ → Bool
within number most = nat_le 1 number && nat_le number most

-- each number is within its limits
abbrev pub is_supported : LiveConfig → Bool
is_supported c = within c.slots 256 && (within c.queues 8 && (within c.chains 4096 && within c.pool 65536))

abbrev pub new_refusal : LiveConfig → Refusal
new_refusal c = if is_supported c then Memory else BadConfig

-- a table has the sizes of a config that is supported
abbrev pub IsOf : LiveConfig → ℕ → ℕ → ℕ → ℕ → Type 0
IsOf c slots queues chains pool = (is_supported c ≡ true) × (slots ≡ c.slots) × (queues ≡ c.queues) × (chains ≡ c.chains) × (pool ≡ c.pool)
