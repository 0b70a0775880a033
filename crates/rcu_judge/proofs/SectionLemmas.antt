-- Lemmas on the sections that the checker keeps.
use Rattle.rcu_judge.proofs.Cited.{IfSome-lookup_from_All, get_or_default, none_some, ◌≡◌, ◌≢◌, ◌⊎◌, ◌↔◌, inl, inr, ℕ, ◌+◌, ◌≤◌, ◌<◌, Bool, true, false, cond, List, [], ◌∷◌, ◌++◌, length, set, position, slice_get, zero, suc, Option, Some, None, IsSome, refl, sym, ap, ◌∙◌, subst, true≢false, arith, is_some, IsEquivalence, keys_of, values_of, lookup, unwrap_or, option_map, cases_lt, map-append, position-Some, option_filter, lookup-filter-values, slice_get-map, slice_get_within, slice_get-get_or, get_or_from_slice_get, set_value_at, insert_entry, IsUnique, values, insert_entry-new, SectionId, same_section, HasSection, without_section, section_tells}
use Rattle.std.proofs.Common.{filter}
use Rattle.rcu_judge.specs.declared.roster.Kept.{Kept}
use Rattle.rcu_judge.specs.declared.sections.Sections.{Sections}
use Rattle.rcu_judge.specs.Roster.{IsNext, IsKept, kept_at}
use Rattle.rcu_judge.specs.Seen.{WasSeen}
use Rattle.rcu_judge.specs.Sections.{found, found_place, place_of, place_if_there, AreSections, AwaitsSections, Opens, Closes, StaySections}
use Rattle.rcu_judge.proofs.Places.{nobody, arrival, marked, climbs, below, in_order_push, in_order_mark, in_order_dropped, next_push, next_dropped, next_left, next_stays}
use Rattle.rcu_judge.proofs.Members.{has_first, has_last, has_without, no_section}
use Rattle.rcu_judge.proofs.Rosters.{awaits_here, awaits_arrive, awaits_leave, awaits_at}

pub section_laws : IsEquivalence same_section
section_laws = grind (arith, section_tells)

-- ---- the entries of the table

abbrev Entries : Type 0
Entries = List (SectionId × Kept)

-- what is found is kept at an index
kept_of : (s : SectionId) (es : Entries) (v : Kept) → lookup (same_section s) es ≡ Some v → (i : ℕ) × (i < length (values_of es)) × (kept_at (values_of es) i ≡ v)
kept_of s es v e = rw e at (IfSome-lookup_from_All (λ (v : Kept). (i : ℕ) × (i < length (values_of es)) × (kept_at (values_of es) i ≡ v)) (same_section s) es (λ i d less. (i, less, get_or_default (values_of es) i nobody d less)))

-- an entry is where its key is found
pub entry_at : (s : SectionId) (es : Entries) (i : ℕ) (v : Kept) → position (same_section s) (keys_of es) ≡ Some i → slice_get (values_of es) i ≡ Some v → slice_get es i ≡ Some (s, v)
entry_at s es i v p e = by (slice_get es i) refl
  where
    by : (o : Option (SectionId × Kept)) → slice_get es i ≡ o → slice_get es i ≡ Some (s, v)
    by None f = absurd (none_some v (sym (slice_get-map (λ (x : SectionId × Kept). x.1) es i ∙ ap (option_map (λ (x : SectionId × Kept). x.1)) f) ∙ e))
    by (Some x) f =
        let key = get_or_from_slice_get (keys_of es) i x.0 s (slice_get-map (λ (y : SectionId × Kept). y.0) es i ∙ ap (option_map (λ (y : SectionId × Kept). y.0)) f) in
        let same = (position-Some (same_section s) (keys_of es) i s p).1 in
        let has = sym (slice_get-map (λ (y : SectionId × Kept). y.1) es i ∙ ap (option_map (λ (y : SectionId × Kept). y.1)) f) ∙ e in
        let is : s ≡ x.0 = grind (arith, key, same, section_tells) in
        f ∙ ap (λ t. Some (t, x.1)) (sym is) ∙ ap (option_map (λ (w : Kept). (s, w))) has

pub values_set : (es : Entries) (i : ℕ) (w : Kept) → values_of (set_value_at es i w) ≡ set (values_of es) i w
values_set [] i w = refl
values_set (e ∷ es) zero w = refl
values_set (e ∷ es) (suc i) w = ap (λ ks. e.1 ∷ ks) (values_set es i w)

values_filter : (es : Entries) → values_of (filter (λ e. e.1.is_there) es) ≡ filter (λ k. k.is_there) (values_of es)
values_filter [] = refl
values_filter (e ∷ es) = let rest = values_filter es in grind (arith, rest)

-- ---- places

place_filter : (o : Option Kept) → place_if_there (option_filter (λ k. k.is_there) o) ≡ place_if_there o
place_filter o = grind arith

some_filter : (o : Option Kept) → IsSome (option_filter (λ k. k.is_there) o) → IsSome o
some_filter o h = grind arith

-- who has a place is there
is_placed : (o : Option Kept) → IsSome (place_if_there o) → (v : Kept) × (o ≡ Some v) × (v.is_there ≡ true) × (place_if_there o ≡ Some v.place)
is_placed o h = grind arith

pub place_there : (v : Kept) → v.is_there ≡ true → place_if_there (Some v) ≡ Some v.place
place_there v e = ap (λ b. cond b (Some v.place) None) e

pub place_gone : (v : Kept) → v.is_there ≡ false → place_if_there (Some v) ≡ None
place_gone v e = ap (λ b. cond b (Some v.place) None) e

not_some : {T : Type 0} (o : Option T) → (¬ IsSome o) → o ≡ None
not_some o n = grind arith

-- ---- what is known of sections

module _ (k : Sections) (seen still : List SectionId) (a : AreSections k seen still) where
  is_kept : (s : SectionId) → HasSection still s → (v : Kept) × (found k s ≡ Some v) × (v.is_there ≡ true) × (found_place k s ≡ Some v.place)
  is_kept s h = is_placed (found k s) ((a.placed s).0 h)

  pub was_opened : (s : SectionId) → HasSection still s → HasSection seen s
  was_opened s h = a.came s (ap is_some (is_kept s h).1)

  kept_where : (s : SectionId) → HasSection still s → (i : ℕ) × (i < length (values k.kept)) × ((kept_at (values k.kept) i).place ≡ place_of k s) × ((kept_at (values k.kept) i).is_there ≡ true)
  kept_where s h =
      let v = is_kept s h in
      let i = kept_of s k.kept.entries v.0 v.1 in
      (i.0, i.1, ap (λ (x : Kept). x.place) i.2 ∙ sym (ap (λ o. unwrap_or o 0) v.3), ap (λ (x : Kept). x.is_there) i.2 ∙ v.2)

  has_place : (s : SectionId) → HasSection still s → place_of k s < k.opened
  has_place s h = let i = kept_where s h in let b = below 0 k.opened (values k.kept) i.0 a.kept.order i.1 in let p = i.2 in omega (arith, p)

  pub awaits_all : AwaitsSections k still still k.opened
  awaits_all = awaits_here (HasSection still) (place_of k) k.opened has_place

  -- none is awaited that is before the front, or not before it
  module _ (awaited : List SectionId) (moment : ℕ) (w : AwaitsSections k still awaited moment) where
    behind : (s : SectionId) → HasSection awaited s → (i : ℕ) × (k.oldest ≤ i) × (i < length (values k.kept)) × ((kept_at (values k.kept) i).place < moment)
    behind s h =
        let x = (w.exact s).0 h in
        let i = kept_where s x.0 in
        let l = x.1 in
        let p = i.2 in
        let passed = a.kept.front.passed i.0 in
        (i.0, grind (arith, passed, i.3, cases_lt i.0 k.oldest), i.1, omega (arith, p))

    pub none_left : slice_get k.kept.entries k.oldest ≡ None → awaited ≡ []
    none_left e = (no_section awaited).0 (λ s h. let b = behind s h in true≢false (sym (ap is_some (sym (slice_get-map (λ (x : SectionId × Kept). x.1) k.kept.entries k.oldest ∙ ap (option_map (λ (x : SectionId × Kept). x.1)) e) ∙ some_at b.0 b.1 b.2))))
      where
        some_at : (i : ℕ) → k.oldest ≤ i → i < length (values k.kept) → slice_get (values k.kept) k.oldest ≡ Some (kept_at (values k.kept) k.oldest)
        some_at i l m = slice_get-get_or (values k.kept) k.oldest nobody (omega arith)

    module _ (s : SectionId) (v : Kept) (at : slice_get k.kept.entries k.oldest ≡ Some (s, v)) (is : found k s ≡ Some v) where
      value_at : slice_get (values k.kept) k.oldest ≡ Some v
      value_at = slice_get-map (λ (x : SectionId × Kept). x.1) k.kept.entries k.oldest ∙ ap (option_map (λ (x : SectionId × Kept). x.1)) at

      within : k.oldest < length (values k.kept)
      within = slice_get_within (values k.kept) k.oldest v value_at

      kept_is : kept_at (values k.kept) k.oldest ≡ v
      kept_is = get_or_from_slice_get (values k.kept) k.oldest v nobody value_at

      placed : found_place k s ≡ Some v.place
      placed = ap place_if_there is ∙ place_there v (ap (λ (x : Kept). x.is_there) (sym kept_is) ∙ a.kept.front.there within)

      pub by_the_oldest : (moment ≤ v.place) ↔ (awaited ≡ [])
      by_the_oldest = ((λ l. (no_section awaited).0 (λ q h. let b = behind q h in let r = climbs 0 k.opened (values k.kept) k.oldest b.0 a.kept.order b.1 b.2 in let m = b.3 in omega (arith, p))), (λ none. back none (cases_lt v.place moment)))
        where
          p : (kept_at (values k.kept) k.oldest).place ≡ v.place
          p = ap (λ (x : Kept). x.place) kept_is

          back : awaited ≡ [] → (v.place < moment) ⊎ (moment ≤ v.place) → moment ≤ v.place
          back none (inl l) =
              let still_open = (a.placed s).1 (subst (λ (o : Option ℕ). IsSome o) (sym placed) refl) in
              let here : place_of k s ≡ v.place = ap (λ o. unwrap_or o 0) placed in
              absurd ((no_section awaited).1 none s ((w.exact s).1 (still_open, omega (arith, here))))
          back none (inr l) = l

-- ---- what stays

pub awaits_stay : (old new : Sections) → StaySections old new → (still awaited : List SectionId) (moment : ℕ) → AwaitsSections old still awaited moment → AwaitsSections new still awaited moment
awaits_stay old new same still awaited moment w =
    awaits_at (HasSection still) (place_of old) old.opened (place_of new) (λ s h. ap (λ o. unwrap_or o 0) (same.places s)) (HasSection awaited) moment new.opened same.opened w

pub stay_here : (k : Sections) → StaySections k k
stay_here k = record { are = λ seen still a. a; places = λ s. refl; opened = refl }

-- the same entries
pub stay_same : (old new : Sections) → ((s : SectionId) → WasSeen new.seen s ↔ WasSeen old.seen s) → new.kept.entries ≡ old.kept.entries → new.opened ≡ old.opened → new.oldest ≡ old.oldest → StaySections old new
stay_same old new seen entries opened oldest = record {
  are = λ seens still a. record {
    known = grind arith;
    placed = λ s. rw (places s) (a.placed s);
    came = λ s h. a.came s (rw (finds s) at h);
    kept = rw (entries, opened, oldest) a.kept;
  };
  places = places;
  opened = opened;
}
  where
    finds : (s : SectionId) → found new s ≡ found old s
    finds s = ap (lookup (same_section s)) entries

    places : (s : SectionId) → found_place new s ≡ found_place old s
    places s = ap place_if_there (finds s)

-- those that were closed are dropped
pub stay_dropped : (old new : Sections) → new.seen ≡ old.seen → new.kept.entries ≡ filter (λ e. e.1.is_there) old.kept.entries → IsUnique same_section old.kept → new.opened ≡ old.opened → new.oldest ≡ 0 → StaySections old new
stay_dropped old new seen entries unique opened oldest = record {
  are = λ seens still a. record {
    known = λ s. rw seen (a.known s);
    placed = λ s. rw (places s) (a.placed s);
    came = λ s h. a.came s (some_filter (found old s) (rw (finds s) at h));
    kept = rw (oldest, opened, ap values_of entries ∙ values_filter old.kept.entries) (record { order = in_order_dropped 0 old.opened (values old.kept) a.kept.order; front = next_dropped (values old.kept) });
  };
  places = places;
  opened = opened;
}
  where
    finds : (s : SectionId) → found new s ≡ option_filter (λ k. k.is_there) (found old s)
    finds s = ap (lookup (same_section s)) entries ∙ lookup-filter-values section_laws (λ k. k.is_there) s old.kept.entries unique

    places : (s : SectionId) → found_place new s ≡ found_place old s
    places s = ap place_if_there (finds s) ∙ place_filter (found old s)

pub stay_both : (old mid new : Sections) → StaySections old mid → StaySections mid new → StaySections old new
stay_both old mid new a b = record { are = λ seen still h. b.are seen still (a.are seen still h); places = grind arith; opened = grind arith }

-- ---- a section opens

-- one key of the table was set
module _ (old new : Sections) (s : SectionId) (value : Option Kept) (puts : (q : SectionId) → found new q ≡ cond (same_section s q) value (found old q)) where
  found_here : found new s ≡ value
  found_here = grind (arith, section_tells)

  found_other : (q : SectionId) → s ≢ q → found new q ≡ found old q
  found_other q apart = grind (arith, section_tells)

  place_other : (q : SectionId) → s ≢ q → place_of new q ≡ place_of old q
  place_other q apart = ap (λ o. unwrap_or (place_if_there o) 0) (found_other q apart)

module _ (old new : Sections) (s : SectionId) (fresh : ¬ WasSeen old.seen s) (more : (q : SectionId) → WasSeen new.seen q ↔ ((s ≡ q) ⊎ WasSeen old.seen q))
    (entries : new.kept.entries ≡ insert_entry same_section old.kept.entries s (arrival old.opened))
    (puts : (q : SectionId) → found new q ≡ cond (same_section s q) (Some (arrival old.opened)) (found old q))
    (opened : new.opened ≡ old.opened + 1) (oldest : new.oldest ≡ old.oldest) where
  module _ (seen still : List SectionId) (a : AreSections old seen still) where
    not_seen : ¬ HasSection seen s
    not_seen h = fresh ((a.known s).0 h)

    not_still : ¬ HasSection still s
    not_still h = not_seen (was_opened old seen still a s h)

    place_now : found_place new s ≡ Some old.opened
    place_now = ap place_if_there (found_here old new s (Some (arrival old.opened)) puts)

    grown : values new.kept ≡ values old.kept ++ arrival old.opened ∷ []
    grown =
        let absent = not_some (found old s) (λ h. not_seen (a.came s h)) in
        ap values_of (entries ∙ insert_entry-new same_section old.kept s (arrival old.opened) absent) ∙ map-append (λ (e : SectionId × Kept). e.1) old.kept.entries ((s, arrival old.opened) ∷ [])

    are_now : AreSections new (s ∷ seen) (still ++ s ∷ [])
    are_now = record {
      known = λ q. let was = a.known q in grind (arith, was, has_first, more);
      placed = λ q. let was = a.placed q in let other = found_other old new s (Some (arrival old.opened)) puts q in grind (arith, was, has_last, section_tells, place_now, other);
      came = λ q h. let was = a.came q in let other = found_other old new s (Some (arrival old.opened)) puts q in grind (arith, was, has_first, section_tells, other);
      kept = rw (oldest, opened, grown) (record { order = in_order_push 0 old.opened (values old.kept) true a.kept.order; front = next_push (values old.kept) old.opened old.oldest a.kept.front });
    }

    awaits_now : (awaited : List SectionId) (moment : ℕ) → AwaitsSections old still awaited moment → AwaitsSections new (still ++ s ∷ []) awaited moment
    awaits_now awaited moment w = awaits_arrive (HasSection still) (place_of old) old.opened s (HasSection (still ++ s ∷ [])) (place_of new) (has_last s still) (ap (λ o. unwrap_or o 0) place_now)
        (λ q h. place_other old new s (Some (arrival old.opened)) puts q (λ e. not_still (subst (HasSection still) (sym e) h))) (HasSection awaited) moment new.opened opened w

  pub opens : (seen still : List SectionId) → AreSections old seen still → Opens old new seen still s true
  opens seen still a = record {
    fresh = ((λ _. not_seen seen still a), (λ _. refl));
    open_now = λ _. are_now seen still a;
    awaits = λ _. awaits_now seen still a;
  }

-- no section opens where it was opened before
pub opens_nothing : (old new : Sections) (s : SectionId) → ¬ ¬ WasSeen old.seen s → (seen still : List SectionId) → AreSections old seen still → Opens old new seen still s false
opens_nothing old new s there seen still a = record { fresh = let was = a.known s in grind (arith, was); open_now = grind arith; awaits = grind arith }

pub opens_after : (old mid new : Sections) (seen still : List SectionId) (s : SectionId) (opened : Bool) → StaySections old mid → Opens mid new seen still s opened → Opens old new seen still s opened
opens_after old mid new seen still s opened same o = record { fresh = o.fresh; open_now = o.open_now; awaits = λ t awaited moment w. o.awaits t awaited moment (awaits_stay old mid same still awaited moment w) }

-- ---- a section closes

abbrev pub gone : Kept → Kept
gone k = record { place = k.place; is_there = false }

-- one that is kept is marked
module _ (n : ℕ) (es : Entries) (at oldest : ℕ) (x : Kept) (is : slice_get (values_of es) at ≡ Some x) where
  less : at < length (values_of es)
  less = slice_get_within (values_of es) at x is

  marks : values_of (set_value_at es at (gone x)) ≡ marked (values_of es) at
  marks = values_set es at (gone x) ∙ ap (λ (k : Kept). set (values_of es) at (gone k)) (sym (get_or_from_slice_get (values_of es) at x nobody is))

  kept_then : (next : ℕ) → IsNext (marked (values_of es) at) 0 next → IsKept n (values_of es) oldest → IsKept n (values_of (set_value_at es at (gone x))) next
  kept_then next f k = subst (λ (ks : List Kept). IsKept n ks next) (sym marks) (record { order = in_order_mark 0 n (values_of es) at false k.order; front = f })

  pub kept_first : (next : ℕ) → at ≡ oldest → IsNext (values_of (set_value_at es at (gone x))) at next → IsKept n (values_of es) oldest → IsKept n (values_of (set_value_at es at (gone x))) next
  kept_first next e f k = kept_then next (next_left (values_of es) at oldest next k.front (subst (λ (ks : List Kept). IsNext ks oldest next) marks (subst (λ i. IsNext (values_of (set_value_at es at (gone x))) i next) e f))) k

  pub kept_later : oldest ≢ at → IsKept n (values_of es) oldest → IsKept n (values_of (set_value_at es at (gone x))) oldest
  kept_later apart k = kept_then oldest (next_stays (values_of es) at oldest apart k.front) k

module _ (old new : Sections) (s : SectionId) (v w : Kept) (here : found old s ≡ Some v) (was : v.is_there ≡ true) (left : w.is_there ≡ false)
    (takes : (q : SectionId) → found new q ≡ cond (same_section s q) (Some w) (found old q)) (same : new.seen ≡ old.seen) (opened : new.opened ≡ old.opened)
    (kept : IsKept old.opened (values old.kept) old.oldest → IsKept new.opened (values new.kept) new.oldest) where
  place_then : found_place old s ≡ Some v.place
  place_then = ap place_if_there here ∙ place_there v was

  place_now_none : found_place new s ≡ None
  place_now_none = ap place_if_there (found_here old new s (Some w) takes) ∙ place_gone w left

  pub closes : (seen still : List SectionId) → AreSections old seen still → Closes old new seen still s true
  closes seen still a = record {
    was = ((λ _. is_open), (λ _. refl));
    closed_now = λ _. record {
      known = λ q. rw same (a.known q);
      placed = λ q. let was = a.placed q in let other = found_other old new s (Some w) takes q in grind (arith, was, has_without, section_tells, place_now_none, other);
      came = λ q h. let was = a.came q in let other = found_other old new s (Some w) takes q in let opened = was_opened old seen still a s is_open in grind (arith, was, section_tells, opened, other);
      kept = kept a.kept;
    };
    awaits = λ _ awaited moment x. awaits_at (HasSection (without_section s still)) (place_of old) old.opened (place_of new) stays (HasSection (without_section s awaited)) moment new.opened opened
        (awaits_leave (HasSection still) (place_of old) old.opened s (HasSection (without_section s still)) (has_without s still) (HasSection awaited) (HasSection (without_section s awaited)) moment old.opened (has_without s awaited) refl x);
  }
    where
      is_open : HasSection still s
      is_open = (a.placed s).1 (subst (λ (o : Option ℕ). IsSome o) (sym place_then) refl)

      stays : (q : SectionId) → HasSection (without_section s still) q → place_of new q ≡ place_of old q
      stays q h = place_other old new s (Some w) takes q (λ e. ((has_without s still q).0 h).1 (sym e))
