-- A reader with the name of its table is told by its core.
use Rattle.gp_memb.specs.declared.plan.GracePlan as plan
use Rattle.live_read.proofs.Cited.{◌≡◌, props, is_prop→PathP}
use Rattle.live_read.specs.declared.reader.Reader.{Reader}
use Rattle.live_read.specs.declared.reader_core.ReaderCore.{ReaderCore}
use Rattle.live_read.specs.declared.site.Site.{Ghosts}

module _ {P K B : Type 0} {g : plan.Ghosts P} where
  abbrev IsNamed : Ghosts B → ReaderCore P K g → Type 0
  IsNamed site c = (c.seat.table_id ≡ site.table) × (c.seat.me.0.sizes ≡ site.sizes)

  -- there is one proof at most that a reader bears the name
  pub same_reader : {site : Ghosts B} (r s : Reader P K B g site) → r.core ≡ s.core → r.searches ≡ s.searches → r.site ≡ s.site → r ≡ s
  same_reader {site} r s core searches site_is = λ i. record { core = core i; searches = searches i; site = site_is i; named = is_prop→PathP (λ j. IsNamed site (core j)) (λ j. hlevel props) r.named s.named i }
