use Rattle.boxed_handle.proofs.Cited.{RattleType, exits_of, shape, fields, to, IsSend, AllSend, owning_send, struct_send, sendable, quiet}
use Rattle.boxed_handle.proofs.Sent.{owned_crosses}
use Rattle.boxed_handle.specs.contracts.kept.Kept.{the_row, the_type}

pub send : (T : RattleType) → IsSend T → IsSend (the_row T)
send T sent =
    let all : AllSend (fields (the_type T)) = (search sendable, tt) in
    owning_send (the_type T) all (λ d. owned_crosses T sent d.at d.value)
    (λ k. quiet (to (the_type T)) (exits_of k (fields (the_type T))) ((struct_send (shape (the_type T)) all).leaving k))
