-- Each handle of C with the values of the generic one, and back.
use Rattle.boxed_handle.specs.declared.handle.Handle.{Handle}
use Rattle.held_values.specs.declared.MembReader.{MembReader}
use Rattle.robiniagolf.specs.declared.c_handles.MembReaderHandle.{MembReaderHandle}
use Rattle.held_values.specs.declared.MembGrace.{MembGrace}
use Rattle.robiniagolf.specs.declared.c_handles.MembGraceHandle.{MembGraceHandle}
use Rattle.held_values.specs.declared.MembDomain.{MembDomain}
use Rattle.robiniagolf.specs.declared.c_handles.MembDomainHandle.{MembDomainHandle}
use Rattle.held_values.specs.declared.QsbrReader.{QsbrReader}
use Rattle.robiniagolf.specs.declared.c_handles.QsbrReaderHandle.{QsbrReaderHandle}
use Rattle.held_values.specs.declared.QsbrGrace.{QsbrGrace}
use Rattle.robiniagolf.specs.declared.c_handles.QsbrGraceHandle.{QsbrGraceHandle}
use Rattle.held_values.specs.declared.QsbrDomain.{QsbrDomain}
use Rattle.robiniagolf.specs.declared.c_handles.QsbrDomainHandle.{QsbrDomainHandle}

abbrev pub from_memb_reader : Handle MembReader → MembReaderHandle
from_memb_reader w = record { full = w.full; kept = record { at = w.kept.at; value = w.kept.value }; told = w.told }

abbrev pub to_memb_reader : MembReaderHandle → Handle MembReader
to_memb_reader h = record { full = h.full; kept = record { at = h.kept.at; value = h.kept.value }; told = h.told }

abbrev pub from_memb_grace : Handle MembGrace → MembGraceHandle
from_memb_grace w = record { full = w.full; kept = record { at = w.kept.at; value = w.kept.value }; told = w.told }

abbrev pub to_memb_grace : MembGraceHandle → Handle MembGrace
to_memb_grace h = record { full = h.full; kept = record { at = h.kept.at; value = h.kept.value }; told = h.told }

abbrev pub from_memb_domain : Handle MembDomain → MembDomainHandle
from_memb_domain w = record { full = w.full; kept = record { at = w.kept.at; value = w.kept.value }; told = w.told }

abbrev pub to_memb_domain : MembDomainHandle → Handle MembDomain
to_memb_domain h = record { full = h.full; kept = record { at = h.kept.at; value = h.kept.value }; told = h.told }

abbrev pub from_qsbr_reader : Handle QsbrReader → QsbrReaderHandle
from_qsbr_reader w = record { full = w.full; kept = record { at = w.kept.at; value = w.kept.value }; told = w.told }

abbrev pub to_qsbr_reader : QsbrReaderHandle → Handle QsbrReader
to_qsbr_reader h = record { full = h.full; kept = record { at = h.kept.at; value = h.kept.value }; told = h.told }

abbrev pub from_qsbr_grace : Handle QsbrGrace → QsbrGraceHandle
from_qsbr_grace w = record { full = w.full; kept = record { at = w.kept.at; value = w.kept.value }; told = w.told }

abbrev pub to_qsbr_grace : QsbrGraceHandle → Handle QsbrGrace
to_qsbr_grace h = record { full = h.full; kept = record { at = h.kept.at; value = h.kept.value }; told = h.told }

abbrev pub from_qsbr_domain : Handle QsbrDomain → QsbrDomainHandle
from_qsbr_domain w = record { full = w.full; kept = record { at = w.kept.at; value = w.kept.value }; told = w.told }

abbrev pub to_qsbr_domain : QsbrDomainHandle → Handle QsbrDomain
to_qsbr_domain h = record { full = h.full; kept = record { at = h.kept.at; value = h.kept.value }; told = h.told }
