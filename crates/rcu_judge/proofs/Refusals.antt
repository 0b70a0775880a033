-- What a refused allocation leaves of what the checker knows.
use Rattle.rcu_judge.proofs.Cited.{◌↔◌, ℕ, List, Option, IsSome, sym, subst, ◌∙◌, Has, HasNumber}
use Rattle.rcu_judge.specs.declared.checker.Checker.{Checker}
use Rattle.rcu_judge.specs.declared.objects.Objects.{Objects}
use Rattle.rcu_judge.specs.declared.sections.Sections.{Sections}
use Rattle.rcu_judge.specs.declared.waits.Waits.{Waits}
use Rattle.rcu_judge.specs.Sections.{StaySections}
use Rattle.rcu_judge.specs.Waits.{IsPending, AreWaits, StayWaits}
use Rattle.rcu_judge.specs.Objects.{heads_of, states_of, Knows, IsSame}
use Rattle.rcu_judge.specs.Checker.{Keeps}
pub use Rattle.rcu_judge.proofs.ObjectsTables.{on_err}
use Rattle.rcu_judge.proofs.SectionLemmas.{awaits_stay}
use Rattle.rcu_judge.proofs.ObjectsKept.{knows_at}
use Rattle.rcu_judge.proofs.Parts.{of_sections, of_objects, of_waits}

pub keeps_sections : (k : Checker) (s : Sections) → StaySections k.sections s → Keeps k (record k { sections = s })
keeps_sections k s same now f =
    of_sections k now now f s k.holdings (same.are now.seen now.sections f.sections) f.holdings
    (λ o h. awaits_stay k.sections s same now.sections (now.awaited o) (f.moments o) (f.retired o h))
    (λ a moment h. awaits_stay k.sections s same now.sections (now.asked_sections a) moment (f.asked a moment h))

pub keeps_objects : (k : Checker) (o : Objects) → IsSame k.objects o → Keeps k (record k { objects = o })
keeps_objects k o same now f = of_objects k now now f o k.queued f.moments f.tickets knows f.retired f.queued f.noted
  where
    knows : Knows o now f.moments f.tickets
    knows = knows_at o now f.moments f.tickets (heads_of k.objects.heads) f.objects.state (states_of k.objects.known) k.objects.reclaimed same.heads same.states same.past f.objects.kept f.objects.past f.objects.shows

-- the same waits
module _ (old new : Waits) (same : StayWaits old new) where
  waits_stay : (begun over : List ℕ) → AreWaits old begun over → AreWaits new begun over
  waits_stay begun over a = record {
    known = λ n. subst (λ r. HasNumber begun n ↔ Has r n) (sym same.begun) (a.known n);
    pending = λ n. subst (λ (o : Option ℕ). IsSome o ↔ (HasNumber begun n × ¬ HasNumber over n)) (sym (same.pending n)) (a.pending n);
    began = a.began;
  }

  pending_stays : (n moment : ℕ) → IsPending new n moment → IsPending old n moment
  pending_stays n moment h = sym (same.pending n) ∙ h

pub keeps_asks : (k : Checker) (w : Waits) → StayWaits k.asks w → Keeps k (record k { asks = w })
keeps_asks k w same now f = of_waits k now now f w k.barriers (waits_stay k.asks w same now.asked now.answered f.asks) (λ a moment h. f.asked a moment (pending_stays k.asks w same a moment h)) f.barriers f.noted

pub keeps_barriers : (k : Checker) (w : Waits) → StayWaits k.barriers w → Keeps k (record k { barriers = w })
keeps_barriers k w same now f = of_waits k now now f k.asks w f.asks f.asked (waits_stay k.barriers w same now.noted now.cleared f.barriers) (λ b moment h. f.noted b moment (pending_stays k.barriers w same b moment h))
