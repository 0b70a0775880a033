-- The first line of a script.
use Rattle.std.specs.Prelude.{◌≡◌, ℕ, Bool, true, false, List, ◌++◌, codes}
use Rattle.std.specs.Fmt.{decimal}
use Rattle.schedule_text.specs.Spelling.{IsNumber}
use Rattle.call_text.specs.declared.call.Header.{Header}

abbrev pub flavour_text : Bool → List ℕ
flavour_text false = codes "calls 1 memb "
flavour_text true = codes "calls 1 qsbr "

abbrev pub maps_text : Bool → List ℕ
maps_text false = codes "\n"
maps_text true = codes " maps\n"

abbrev pub header : Header → List ℕ
header h =
    flavour_text h.qsbr ++ decimal h.slots ++ codes " " ++ decimal h.queues ++ codes " " ++ decimal h.chains ++ codes " " ++ decimal h.pool ++ maps_text h.maps

-- the header has a text
pub record IsHeader (h : Header) : Type 0 where
  pub slots : IsNumber h.slots
  pub queues : IsNumber h.queues
  pub chains : IsNumber h.chains
  pub pool : IsNumber h.pool

abbrev pub HeaderText : Header → List ℕ → Type 0
HeaderText h text = IsHeader h × (text ≡ header h)

abbrev pub IsHeaderText : List ℕ → Type 0
IsHeaderText text = (h : Header) × HeaderText h text
