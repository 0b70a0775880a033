-- The refusals that a step may answer.
use Rattle.rcu_model.specs.declared.refusal.Refusal.{Refusal}
use Rattle.rcu_model.specs.declared.refusal.Refusal.TheVariants.{NoSlot, NestFull, PoolFull, Closed, Exhausted, NotOpen, Busy, NoPlace, WrongFlavour, Exists, Missing, NoActor, BadText, BadConfig, Memory, FewJobs}

abbrev pub IsStepError : Refusal → Type 0
IsStepError NestFull = Unit {0}
IsStepError Exhausted = Unit {0}
IsStepError NotOpen = Unit {0}
IsStepError Busy = Unit {0}
IsStepError NoPlace = Unit {0}
IsStepError WrongFlavour = Unit {0}
IsStepError NoActor = Unit {0}
IsStepError Memory = Unit {0}
-- those of the library over live threads, of queues, of maps, of texts and of configs
IsStepError NoSlot = ⊥
IsStepError PoolFull = ⊥
IsStepError Closed = ⊥
IsStepError Exists = ⊥
IsStepError Missing = ⊥
IsStepError BadText = ⊥
IsStepError BadConfig = ⊥
IsStepError FewJobs = ⊥

-- those that tell nothing of where the actor stands: a full count, nothing there, no number left, no memory
abbrev pub IsOfVerb : Refusal → Type 0
IsOfVerb NestFull = Unit {0}
IsOfVerb NoPlace = Unit {0}
IsOfVerb Exhausted = Unit {0}
IsOfVerb Memory = Unit {0}
IsOfVerb e = ⊥
