-- A plan that loads the word of its one group before its first store, and goes by that word in each scan.
use Rattle.std.specs.Prelude.{ℕ, Option, Some, None}
use Rattle.gp_memb.specs.declared.plan.Action.{Action}
use Rattle.gp_memb.specs.declared.plan.Action.TheVariants.{Load, LoadGroup, StorePhase, StoreSeq, Finished}
use Rattle.gp_memb.specs.declared.memb.MembPlan.{MembPlan}
use Rattle.gp_memb.specs.Memb.{memb_action, memb_taken}

pub record EarlyPlan : Type 0 where
  pub early : Option ℕ
  pub plan : MembPlan

abbrev pub early_action_at : MembPlan → Option ℕ → Action
early_action_at plan None = LoadGroup 0
early_action_at plan (Some bits) = memb_action plan

abbrev pub early_action : EarlyPlan → Action
early_action e = early_action_at e.plan e.early

-- the word by which a turn goes
abbrev pub trusted : ℕ → Action → ℕ → ℕ
trusted bits (LoadGroup group) word = bits
trusted bits (Load slot) word = word
trusted bits (StorePhase value) word = word
trusted bits (StoreSeq value) word = word
trusted bits Finished word = word

abbrev pub early_taken_at : MembPlan → Option ℕ → ℕ → EarlyPlan
early_taken_at plan None word = record { early = Some word; plan = plan }
early_taken_at plan (Some bits) word = record { early = Some bits; plan = memb_taken plan (trusted bits (memb_action plan) word) }

abbrev pub early_taken : EarlyPlan → ℕ → EarlyPlan
early_taken e word = early_taken_at e.plan e.early word
