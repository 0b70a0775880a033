use Rattle.robiniagolf.proofs.Cited.{Some, None, Keyless, lone, Ptr, exits_of, shape, fields, to, IsSend, AllSend, owning_send, struct_send, sendable, frees, quiet, lies, heap, heap_token, owned_at}
use Rattle.std.specs.Prelude.{Option}
use mir.Raw.{raw}
use Rattle.judging.specs.contracts.text_judge.TextJudge.{the_row as R}
use Rattle.judging.proofs.Lemmas.{judge_crosses as sent}
use Rattle.robiniagolf.specs.contracts.kept.Kept.{the_row, the_type}

owned : (p : Ptr) (v : Option R.Denot) → Keyless (owned_at heap_token R p v)
owned p None = tt
owned p (Some x) = (lies R sent p x, frees.frees heap (raw (lone R.mir)) p)

pub send : IsSend the_row
send =
    let all : AllSend (fields the_type) = (search sendable, tt) in
    owning_send the_type all (λ d. owned d.at d.value)
    (λ k. quiet (to the_type) (exits_of k (fields the_type)) ((struct_send (shape the_type) all).leaving k))
