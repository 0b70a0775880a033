use Rattle.rcu_judge.proofs.Cited.{◌≡◌, ◌≢◌, ◌∙◌, sym, refl, subst, List, arith, with_value_at, index_map_len-with_value_at, updates-with_value_at, common_steps}
use Rattle.rcu_judge.specs.declared.roster.Kept.{Kept}
use Rattle.rcu_judge.specs.Roster.{IsNext}
use Rattle.rcu_judge.proofs.SectionLemmas.{section_laws, entry_at, gone, kept_first, kept_later, closes}
use Rattle.rcu_judge.proofs.sections.Sections.close.Goals as goal

pub first_present-self-requires : goal.first_present-self-requires
first_present-self-requires c = grind (arith, common_steps, index_map_len-with_value_at, gone)

pub returns-then-at-self : goal.returns-then-at-self
returns-then-at-self c = λ seen still a.
    let old = c.args.self.now in
    let at = c.in-Some.at in
    let kept = with_value_at old.kept at (gone c.index_mut.result.now) in
    let new = record old { kept = kept; oldest = c.first_present-self.result; closed = c.saturating_add-self.result } in
    let entry = entry_at c.args.section old.kept.entries at c.index.result.now (sym c.in-Some.ensures.index) c.index.ensures in
    let takes = updates-with_value_at old.kept at (gone c.index_mut.result.now) section_laws c.in-Some.ensures.unique c.args.section c.index.result.now entry in
    let front = subst (λ (ks : List Kept). IsNext ks at c.first_present-self.result) (c.as_slice.ensures ∙ c.values.ensures.rest) c.first_present-self.ensures.front in
    closes old new c.args.section c.index.result.now (gone c.index_mut.result.now) (sym c.in-Some.ensures.value ∙ c.index.ensures) c.if-not-index.false refl takes.0 refl refl
    (kept_first old.opened old.kept.entries at old.oldest c.index_mut.result.now c.index_mut.ensures.value c.first_present-self.result is_first front) seen still a
  where
    is_first : c.in-Some.at ≡ c.args.self.now.oldest
    is_first = grind arith

pub returns-else-at-self : goal.returns-else-at-self
returns-else-at-self c = λ seen still a.
    let old = c.args.self.now in
    let at = c.in-Some.at in
    let kept = with_value_at old.kept at (gone c.index_mut.result.now) in
    let new = record old { kept = kept; closed = c.saturating_add-self.result } in
    let entry = entry_at c.args.section old.kept.entries at c.index.result.now (sym c.in-Some.ensures.index) c.index.ensures in
    let takes = updates-with_value_at old.kept at (gone c.index_mut.result.now) section_laws c.in-Some.ensures.unique c.args.section c.index.result.now entry in
    closes old new c.args.section c.index.result.now (gone c.index_mut.result.now) (sym c.in-Some.ensures.value ∙ c.index.ensures) c.if-not-index.false refl takes.0 refl refl
    (kept_later old.opened old.kept.entries at old.oldest c.index_mut.result.now c.index_mut.ensures.value apart) seen still a
  where
    apart : c.args.self.now.oldest ≢ c.in-Some.at
    apart = grind arith
