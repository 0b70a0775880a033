-- A world of the limits begins at 0.
use Rattle.schedule.proofs.Cited.{◌≡◌, ◌&&◌, Bool, true, false, refl, sym, true≢false, Config, is_supported, is_supported_at}

pub begins_at_zero : (config : Config) → is_supported config ≡ true → is_supported_at config 0 ≡ true
begins_at_zero config e = by (is_supported config) e
  where
    by : (b : Bool) → b ≡ true → (b && (true && true)) ≡ true
    by true f = refl
    by false f = absurd (true≢false (sym f))
