-- What a handle owns may cross threads, where its value may.
use Rattle.boxed_handle.proofs.Cited.{Option, Some, None, Keyless, lone, RattleType, Ptr, IsSend, frees, lies}
use mir.Raw.{raw}
use Rattle.boxed_handle.specs.Owned.{heap, heap_token, owned_at}

pub owned_crosses : (R : RattleType) → IsSend R → (p : Ptr) (v : Option R.Denot) → Keyless (owned_at heap_token R p v)
owned_crosses R sent p None = tt
owned_crosses R sent p (Some x) = (lies R sent p x, frees.frees heap (raw (lone R.mir)) p)
