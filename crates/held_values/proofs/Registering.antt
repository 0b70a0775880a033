-- What a seat tells that found no slot free.
use Rattle.std.proofs.Common.{◌≡◌, List, [], ◌++◌, ap, ◌∙◌, append-nil}
use Rattle.std.specs.Prelude.{Bool}
use Rattle.atomic_table.specs.Table.{Me}
use Rattle.live_log.specs.declared.event.LiveEvent.{LiveEvent}
use Rattle.live_log.specs.Log.{Log}
use Rattle.live_words.specs.live_rule.declared.view.Look.{Look}
use Rattle.live_words.specs.live_rule.declared.view.Sizes.{Sizes}
use Rattle.live_words.specs.live_rule.declared.view.View.{View}
use Rattle.live_read.specs.Registering.{AllWereClaimed, FindsAllClaimed, Misses}

-- it heard of a seat that had looked at nothing before
pub missed : {S : Type 0} {qsbr : Bool} {allows : Log → LiveEvent → Type 0} (key : Sizes) (m m' : Me S View) (old new : List Look) → m.0.looks ≡ [] → Misses qsbr allows (AllWereClaimed key) m m' → new ≡ m'.0.looks ++ old → FindsAllClaimed key old new
missed key m m' old new none ms heard =
    let looks : m'.0.looks ≡ ms.found = ap (λ (v : View). v.looks) ms.sought.1 ∙ (ap (λ (l : List Look). ms.found ++ l) none ∙ append-nil ms.found) in
    record { found = ms.found; looks = heard ∙ ap (λ (l : List Look). l ++ old) looks; claimed = ms.is_so; none_stored = ms.none_stored }
