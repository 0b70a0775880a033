use Rattle.robiniagolf.proofs.Cited.{exits_of, shape, fields, to, IsSend, AllSend, owning_send, struct_send, sendable, quiet, owned_crosses}
use Rattle.held_values.specs.contracts.MembDomain.{the_row as R}
use Rattle.held_values.proofs.Lemmas.{memb_domain_crosses as sent}
use Rattle.robiniagolf.specs.contracts.c_handles.MembDomainKept.{the_row, the_type}

pub send : IsSend the_row
send =
    let all : AllSend (fields the_type) = (search sendable, tt) in
    owning_send the_type all (λ d. owned_crosses R sent d.at d.value)
    (λ k. quiet (to the_type) (exits_of k (fields the_type)) ((struct_send (shape the_type) all).leaving k))
