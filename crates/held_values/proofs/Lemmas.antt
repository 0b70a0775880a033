-- What may be handed to another thread.
use denote.Param.Send.{IsSend}
use Rattle.held_values.specs.contracts.MembReader as memb_reader
use Rattle.held_values.specs.contracts.QsbrReader as qsbr_reader
use Rattle.held_values.specs.contracts.MembGrace as memb_grace
use Rattle.held_values.specs.contracts.QsbrGrace as qsbr_grace
use Rattle.held_values.specs.contracts.MembDomain as memb_domain
use Rattle.held_values.specs.contracts.QsbrDomain as qsbr_domain
use Rattle.held_values.proofs.MembReader.TheSendSync as memb_reader_crossing
use Rattle.held_values.proofs.QsbrReader.TheSendSync as qsbr_reader_crossing
use Rattle.held_values.proofs.MembGrace.TheSendSync as memb_grace_crossing
use Rattle.held_values.proofs.QsbrGrace.TheSendSync as qsbr_grace_crossing
use Rattle.held_values.proofs.MembDomain.TheSendSync as memb_domain_crossing
use Rattle.held_values.proofs.QsbrDomain.TheSendSync as qsbr_domain_crossing

pub memb_reader_crosses : IsSend memb_reader.the_row
memb_reader_crosses = memb_reader_crossing.the_send

pub qsbr_reader_crosses : IsSend qsbr_reader.the_row
qsbr_reader_crosses = qsbr_reader_crossing.the_send

pub memb_grace_crosses : IsSend memb_grace.the_row
memb_grace_crosses = memb_grace_crossing.the_send

pub qsbr_grace_crosses : IsSend qsbr_grace.the_row
qsbr_grace_crosses = qsbr_grace_crossing.the_send

pub memb_domain_crosses : IsSend memb_domain.the_row
memb_domain_crosses = memb_domain_crossing.the_send

pub qsbr_domain_crosses : IsSend qsbr_domain.the_row
qsbr_domain_crosses = qsbr_domain_crossing.the_send
