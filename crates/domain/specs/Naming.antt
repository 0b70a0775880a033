-- What the type that stands for a domain says.
use Rattle.std.specs.Prelude.{◌≡◌}
use Rattle.live_read.specs.declared.site.Site as site
use Rattle.domain.specs.declared.opened.Opened.{Opened}

-- the type stands for this domain: its table, and its sizes
abbrev pub Names : {P K B : Type 0} → site.Ghosts B → Opened P K → Type 0
Names b opened = (opened.table.words.shared.table_id ≡ b.table) × (opened.table.words.shared.key ≡ b.sizes)

-- what a program picks for the type, where it calls what is generic in it
abbrev pub names : {P K B : Type 0} → Opened P K → site.Ghosts B
names opened = record { table = opened.table.words.shared.table_id; sizes = opened.table.words.shared.key }
