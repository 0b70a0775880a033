-- The first line of a schedule.
use Rattle.std.specs.Prelude.{◌≡◌, ℕ, List, ◌++◌, codes, IsTrue}
use Rattle.std.specs.Fmt.{decimal}
use Rattle.reader_word.specs.declared.layout.Layout.{Layout}
use Rattle.reader_word.specs.declared.layout.Layout.TheVariants.{Narrow, Wide}
use Rattle.world_state.specs.declared.config.Config.{Config}
use Rattle.world_state.specs.declared.config.Flavour.{Flavour}
use Rattle.world_state.specs.declared.config.Flavour.TheVariants.{Memb, Qsbr}
use Rattle.world_state.specs.Limits.{is_within_limits}
use Rattle.schedule_text.specs.Spelling.{IsNumber}

abbrev pub version : Layout → List ℕ
version Narrow = codes "schedule 1 "
version Wide = codes "schedule 2 "

abbrev pub flavour_text : Flavour → List ℕ
flavour_text Memb = codes "memb "
flavour_text Qsbr = codes "qsbr "

-- a number and the byte after it
abbrev pub field : ℕ → List ℕ → List ℕ
field n end = decimal n ++ end

abbrev pub header : Config → List ℕ
header c = version c.layout ++ (flavour_text c.flavour ++ (field c.readers (codes " ") ++ (field c.updaters (codes " ") ++ (field c.workers (codes " ") ++ field c.chains (codes "\n")))))

-- the header has a text
pub record IsHeader (c : Config) : Type 0 where
  pub readers : IsNumber c.readers
  pub updaters : IsNumber c.updaters
  pub workers : IsNumber c.workers
  pub chains : IsNumber c.chains

abbrev pub HeaderText : Config → List ℕ → Type 0
HeaderText c text = IsHeader c × (text ≡ header c)

abbrev pub IsHeaderText : List ℕ → Type 0
IsHeaderText text = (c : Config) × HeaderText c text

-- a header within its limits, whatever follows
pub record HasHeader (text : List ℕ) (config : Config) (rest : List ℕ) : Type 0 where
  pub is_header : IsHeader config
  pub within : IsTrue (is_within_limits config)
  pub parts : text ≡ header config ++ rest

-- some header within its limits stands first
abbrev pub BeginsWithinLimits : List ℕ → Type 0
BeginsWithinLimits text = (config : Config) × (rest : List ℕ) × HasHeader text config rest
