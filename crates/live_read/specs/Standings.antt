-- How a caller stands, beside what it has seen.
use Rattle.std.specs.Prelude.{◌≡◌, ◌++◌, ℕ, List}
use Rattle.live_log.specs.Log.{Log}
use Rattle.live_words.specs.live_rule.declared.view.Look.{Look}
use Rattle.live_words.specs.live_rule.declared.view.View.{View}

-- of a reader its slot, the word that it stored last, how many sections its slot has had, how many sections and locks
-- are open, and how many of these are locks
pub record Standing : Type 0 where
  pub slot : ℕ
  pub word : ℕ
  pub ordinal : ℕ
  pub depth : ℕ
  pub locks : ℕ

-- of one who has no slot
abbrev pub nowhere : Standing
nowhere = record { slot = 0; word = 0; ordinal = 0; depth = 0; locks = 0 }

-- A caller is as it was, by these words of it.
abbrev pub KeepsAll : {W : Type 0} → (W → Log) → (W → Log) → (W → List Log) → (W → List Look) → (W → Standing) → (W → Log) → W → W → Type 0
KeepsAll seen heard loads looks standing changes old new = (seen new ≡ seen old) × (heard new ≡ heard old) × (loads new ≡ loads old) × (looks new ≡ looks old) × (standing new ≡ standing old) × (changes new ≡ changes old)

-- What the view knows was loaded, stored and changed was so for the caller.
abbrev pub TakesIn : {W : Type 0} → (W → List Log) → (W → List Look) → (W → Log) → View → W → W → Type 0
TakesIn loads looks changes v old new = (loads new ≡ v.loads ++ loads old) × (looks new ≡ v.looks ++ looks old) × (changes new ≡ v.changes ++ changes old)
