-- The stores of a push, a replacement and a cut keep the rule.
use Rattle.step_chains.proofs.Cited.{◌≡◌, ◌⊎◌, ℕ, ◌+◌, List, [], ◌∷◌, Bool, set, sym, refl, ap, ◌∙◌, subst, inr, Option, Some, None, get_elem?, State, Me, step, keeps, Allows, ObjectId, In, IsPlace, follows, first_of, next_of, without_object, replaced, in_objects, has_object_in, at_object_same, at_number_same, some_is, none_some, follows_has, LiveEvent, Push, Replace, Cut, Log, record_of, MayFollow, IsLiveRun, Objects, objects_of, spot_of, head, kept_log, note_stays, begins_trans, first_used, push_moves, replace_moves, cut_moves, Sizes, View, RecordRight, head_at, ref, spot_at, chain, object, ClaimsObject, KnowsObject, KeepsRule, Unclaimed, ref_same, Enters, AreAsKnown, own_in, IsWriter, IsListed, cell_in, object_in, link_in, payload_in, IsFresh, all_known, knows_own, here}
use mathlib.Core.Option as lists
use Rattle.live_rule.specs.declared.rights.RecordRight.TheVariants as record_right
use Rattle.step_chains.specs.Chains.{IsAllowedBy, MayWrite, Writes, IsBefore, place_at, head_after, pushed_view, push_of, replaced_view, replace_of, cut_view, cut_of, pushed, replaces, cuts}
use Rattle.step_chains.proofs.Writers.{linked_free, seen_used, place_now, one_place, enters_fresh, head_stored, spliced}

owns_fresh : (v : View) → IsFresh v → (m : ObjectId) → object_in v.object ≡ m → ClaimsObject v.object m
owns_fresh v is m e = subst (λ (y : RecordRight). ClaimsObject y m) (sym is) e

module _ {S : Type 0} (qsbr : Bool) (allows : Log → LiveEvent → Type 0) (key : Sizes) where
  abbrev Rule : State S View → Type 0
  Rule = KeepsRule qsbr allows key

  knows_fresh : (s : State S View) (r : Rule s) (id : ℕ) (v : View) → get_elem? s.views id ≡ lists.some v → IsFresh v → KnowsObject qsbr key r.log s.words (objects_of r.log) (record_right.Fresh (cell_in v.object) (object_in v.object) (link_in v.object) (payload_in v.object))
  knows_fresh s r id v at is = subst (KnowsObject qsbr key r.log s.words (objects_of r.log)) is (r.knows (object (object_in v.object)) id v at (subst (λ (y : RecordRight). ClaimsObject y (object_in v.object)) (sym is) refl))

  pub pushes : (slots id : ℕ) (me : Me S View) (a x : ℕ) → IsWriter me.0 → IsFresh me.0 → link_in me.0.object ≡ (own_in me.0.chains).head → a ≡ head_at key (own_in me.0.chains).chain → x ≡ cell_in me.0.object + 1 → MayWrite qsbr allows me.0 (push_of me.0)
      → Allows Rule slots id me a (λ _. x) (λ _. pushed qsbr allows (step slots a x 0 lists.none) me x)
  pushes slots id me a x own fresh linked a_is x_is may s r deep at fits =
      let v : View = me.0 in
      let c : ℕ = (own_in v.chains).chain in
      let o : ObjectId = object_in v.object in
      let i : ℕ = cell_in v.object in
      let p : List ℕ = payload_in v.object in
      let was : Objects = objects_of r.log in
      let kc = knows_own qsbr allows key s r id v at own in
      let ko = knows_fresh s r id v at fresh in
      let b = r.seen id v at in
      let known : AreAsKnown r.log v.chains = all_known qsbr key r.log s.words v.chains (λ d. r.knows (chain d) id v at) in
      let made : IsAllowedBy r.log (push_of v) = (λ h. ko.0 (in_objects was.used o h)) in
      let ok : MayFollow qsbr allows r.log (push_of v) = (made, may r.log b.0 b.1 r.run known made) in
      let run : IsLiveRun qsbr allows (push_of v ∷ r.log) = (ok, r.run) in
      let now : Objects = objects_of (push_of v ∷ r.log) in
      let next : Option ObjectId = first_of (was.chain c) in
      let moved = push_moves qsbr allows r.log c o i p run in
      let note : now.note o ≡ (i, p) = at_object_same o (i, p) was.note in
      let list : now.chain c ≡ o ∷ (own_in v.chains).objects = at_number_same c (o ∷ was.chain c) was.chain ∙ ap (λ (l : List ObjectId). o ∷ l) kc.3 in
      let stored : x ≡ ref now (Some o) = x_is ∙ sym (ap (λ (z : ℕ × List ℕ). z.0 + 1) note) in
      let link : link_in v.object ≡ ref now next = linked ∙ (sym kc.2 ∙ (r.agree.heap.leads (head c) kc.0 next refl ∙ sym (ref_same was now next (λ m f. moved.note m (λ e. moved.enters_fresh m e (first_used qsbr allows r.log c m r.run f)))))) in
      let w : View = record (pushed_view x v) { seen = push_of v ∷ r.log } in
      let done = spliced qsbr allows key s r id v at own (Push c o i p) None next None (Some o) x x (o ∷ (own_in v.chains).objects) w run moved tt refl (refl, refl, refl, refl) (refl, refl) list stored (head_stored qsbr allows key s r id v at own None x)
      (λ m e. let same = some_is o m e in (subst (Enters key now s.words next) same (enters_fresh qsbr allows key s r id v at own now next i o (link_in v.object) p ko note refl link), owns_fresh v fresh m same))
      (λ m claim. absurd claim) in (
        w,
        keeps,
        tt,
        subst (λ (n : ℕ). Rule record { words = set s.words n x; homes = s.homes; views = set s.views id w }) (sym a_is) done.0,
        ((refl, refl, (r.log, refl, b.0, b.1, run), known), (list, done.1, kc.4)),
      )

  -- what follows an object in the writer's chain has the note that the writer has seen
  next_ref : (s : State S View) (r : Rule s) (id : ℕ) (v : View) → get_elem? s.views id ≡ lists.some v → IsWriter v → IsListed v → (e : LiveEvent) → IsLiveRun qsbr allows (e ∷ r.log) → (o : ObjectId) → In (own_in v.chains).objects o → (found : Option ObjectId) → next_of (own_in v.chains).objects o ≡ found → ref (objects_of (e ∷ r.log)) found ≡ ref (objects_of v.seen) found
  next_ref s r id v at own listed e run o has found is = ref_same (objects_of v.seen) (objects_of (e ∷ r.log)) found (λ m f. note_stays qsbr allows v.seen (e ∷ r.log) m (begins_trans v.seen r.log (e ∷ r.log) (r.seen id v at).0 (e ∷ [], refl)) run
      (seen_used qsbr allows key s r id v at own listed m (follows_has (own_in v.chains).objects (Some o) m (is ∙ f))))

  -- what a seat knows of the object that it took out of its chain
  unlinked_now : (s : State S View) (r : Rule s) (id a x : ℕ) (v : View) (at : get_elem? s.views id ≡ lists.some v) → IsWriter v → IsListed v → (e : LiveEvent) → IsLiveRun qsbr allows (e ∷ r.log) → (o : ObjectId) → In (own_in v.chains).objects o → In (objects_of (e ∷ r.log)).cut o → (objects_of (e ∷ r.log)).retired ≡ (objects_of r.log).retired
      → (m : ObjectId) → o ≡ m → KnowsObject qsbr key (e ∷ r.log) (set s.words a x) (objects_of (e ∷ r.log)) (record_right.Unlinked (record_of v.seen o).0 o) × (ClaimsObject v.object m ⊎ Unclaimed key s.views id (object m))
  unlinked_now s r id a x v at own listed e run o has cut retired m same =
      let k = kept_log qsbr allows r.log r.run in (
        (
          cut,
          (λ t. k.linking.linked_not_cut (own_in v.chains).chain o (here qsbr allows key s r id v at own o has) (k.linking.retired_cut o (subst (λ (l : List ObjectId). In l o) retired t))),
          ap (λ (z : ℕ × List ℕ). z.0) (note_stays qsbr allows v.seen (e ∷ r.log) o (begins_trans v.seen r.log (e ∷ r.log) (r.seen id v at).0 (e ∷ [], refl)) run (seen_used qsbr allows key s r id v at own listed o has)),
        ),
        inr (subst (λ (z : ObjectId). Unclaimed key s.views id (object z)) same (linked_free qsbr allows key s r id v at own o has)),
      )

  pub replaces_one : (slots id : ℕ) (me : Me S View) (a x : ℕ) (p : Option ObjectId) (o : ObjectId) → me.0.sizes ≡ key → IsWriter me.0 → IsListed me.0 → IsFresh me.0 → IsBefore me.0 p o → link_in me.0.object ≡ ref (objects_of me.0.seen) (next_of (own_in me.0.chains).objects o)
      → a ≡ place_at me.0 p → x ≡ cell_in me.0.object + 1 → MayWrite qsbr allows me.0 (replace_of o me.0) → Allows Rule slots id me a (λ _. x) (λ _. replaces qsbr allows (step slots a x 0 lists.none) me x)
  replaces_one slots id me a x p o sizes own listed fresh before linked a_is x_is may s r deep at fits =
      let v : View = me.0 in
      let c : ℕ = (own_in v.chains).chain in
      let m : ObjectId = object_in v.object in
      let i : ℕ = cell_in v.object in
      let y : List ℕ = payload_in v.object in
      let os : List ObjectId = (own_in v.chains).objects in
      let was : Objects = objects_of r.log in
      let kc = knows_own qsbr allows key s r id v at own in
      let ko = knows_fresh s r id v at fresh in
      let b = r.seen id v at in
      let has : In os o = follows_has os p o before.1 in
      let has_now = here qsbr allows key s r id v at own o has in
      let known : AreAsKnown r.log v.chains = all_known qsbr key r.log s.words v.chains (λ d. r.knows (chain d) id v at) in
      let made : IsAllowedBy r.log (replace_of o v) = (has_object_in (was.chain c) o has_now, λ h. ko.0 (in_objects was.used m h)) in
      let ok : MayFollow qsbr allows r.log (replace_of o v) = (made, may r.log b.0 b.1 r.run known made) in
      let run : IsLiveRun qsbr allows (replace_of o v ∷ r.log) = (ok, r.run) in
      let now : Objects = objects_of (replace_of o v ∷ r.log) in
      let next : Option ObjectId = next_of (was.chain c) o in
      let at_now : IsPlace (was.chain c) p = subst (λ (l : List ObjectId). IsPlace l p) (sym kc.3) before.0 in
      let moved = replace_moves qsbr allows r.log c p o m i y run at_now (ap (λ (l : List ObjectId). follows l p) kc.3 ∙ before.1) in
      let note : now.note m ≡ (i, y) = at_object_same m (i, y) was.note in
      let list : now.chain c ≡ replaced o m os = at_number_same c (replaced o m (was.chain c)) was.chain ∙ ap (replaced o m) kc.3 in
      let stored : x ≡ ref now (Some m) = x_is ∙ sym (ap (λ (z : ℕ × List ℕ). z.0 + 1) note) in
      let next_is : next ≡ next_of os o = ap (λ (l : List ObjectId). next_of l o) kc.3 in
      let link : link_in v.object ≡ ref now next = linked ∙ (sym (next_ref s r id v at own listed (replace_of o v) run o has (next_of os o) refl) ∙ ap (ref now) (sym next_is)) in
      let w : View = record (replaced_view p o x v) { seen = replace_of o v ∷ r.log } in
      let done = spliced qsbr allows key s r id v at own (Replace c o m i y) p next (Some o) (Some m) x (head_after p x (own_in v.chains).head) (replaced o m os) w run moved before.0 refl (refl, refl, refl, refl) (refl, refl) list stored (head_stored qsbr allows key s r id v at own p x)
      (λ q e. let same = some_is m q e in (subst (Enters key now s.words next) same (enters_fresh qsbr allows key s r id v at own now next i m (link_in v.object) y ko note refl link), owns_fresh v fresh q same))
      (λ q claim. unlinked_now s r id (spot_of_now p) x v at own listed (replace_of o v) run o has (moved.left o refl).0 refl q claim) in
      let place = place_now qsbr allows key s r id v at own listed p before.0 sizes in (
        w,
        keeps,
        tt,
        subst (λ (n : ℕ). Rule record { words = set s.words n x; homes = s.homes; views = set s.views id w }) (sym (a_is ∙ place)) done.0,
        (
          (list, done.1, kc.4),
          λ q u b_is then. let e : p ≡ q = one_place qsbr allows key s r id v at own listed sizes p q before.0 then.0 (sym a_is ∙ b_is) in
              let f : o ≡ u = some_is o u (sym before.1 ∙ (ap (follows os) e ∙ then.1)) in
              subst (λ (z : Option ObjectId × ObjectId). Writes qsbr allows (replaced_view z.0 z.1 x v) (replace_of z.1 v) me (w, me.1)) (λ j. (e j, f j)) (refl, refl, (r.log, refl, b.0, b.1, run), known),
        ),
      )
    where
      spot_of_now : Option ObjectId → ℕ
      spot_of_now q = spot_at key (objects_of r.log) (spot_of (own_in me.0.chains).chain q)

  pub cuts_one : (slots id : ℕ) (me : Me S View) (a x : ℕ) (p : Option ObjectId) (o : ObjectId) → me.0.sizes ≡ key → IsWriter me.0 → IsListed me.0 → IsBefore me.0 p o → a ≡ place_at me.0 p → x ≡ ref (objects_of me.0.seen) (next_of (own_in me.0.chains).objects o)
      → MayWrite qsbr allows me.0 (cut_of o me.0) → Allows Rule slots id me a (λ _. x) (λ _. cuts qsbr allows (step slots a x 0 lists.none) me x)
  cuts_one slots id me a x p o sizes own listed before a_is x_is may s r deep at fits =
      let v : View = me.0 in
      let c : ℕ = (own_in v.chains).chain in
      let os : List ObjectId = (own_in v.chains).objects in
      let was : Objects = objects_of r.log in
      let kc = knows_own qsbr allows key s r id v at own in
      let b = r.seen id v at in
      let has : In os o = follows_has os p o before.1 in
      let has_now = here qsbr allows key s r id v at own o has in
      let known : AreAsKnown r.log v.chains = all_known qsbr key r.log s.words v.chains (λ d. r.knows (chain d) id v at) in
      let made : IsAllowedBy r.log (cut_of o v) = has_object_in (was.chain c) o has_now in
      let ok : MayFollow qsbr allows r.log (cut_of o v) = (made, may r.log b.0 b.1 r.run known made) in
      let run : IsLiveRun qsbr allows (cut_of o v ∷ r.log) = (ok, r.run) in
      let now : Objects = objects_of (cut_of o v ∷ r.log) in
      let next : Option ObjectId = next_of (was.chain c) o in
      let at_now : IsPlace (was.chain c) p = subst (λ (l : List ObjectId). IsPlace l p) (sym kc.3) before.0 in
      let moved = cut_moves qsbr allows r.log c p o run at_now (ap (λ (l : List ObjectId). follows l p) kc.3 ∙ before.1) in
      let list : now.chain c ≡ without_object o os = at_number_same c (without_object o (was.chain c)) was.chain ∙ ap (without_object o) kc.3 in
      let next_is : next ≡ next_of os o = ap (λ (l : List ObjectId). next_of l o) kc.3 in
      let stored : x ≡ ref now next = x_is ∙ (sym (next_ref s r id v at own listed (cut_of o v) run o has (next_of os o) refl) ∙ ap (ref now) (sym next_is)) in
      let w : View = record (cut_view p o x v) { seen = cut_of o v ∷ r.log } in
      let done = spliced qsbr allows key s r id v at own (Cut c o) p next (Some o) None x (head_after p x (own_in v.chains).head) (without_object o os) w run moved before.0 refl (refl, refl, refl, refl) (refl, refl) list stored (head_stored qsbr allows key s r id v at own p x)
      (λ q e. absurd (none_some q e))
      (λ q claim. unlinked_now s r id (spot_of_now p) x v at own listed (cut_of o v) run o has (moved.left o refl).0 refl q claim) in
      let place = place_now qsbr allows key s r id v at own listed p before.0 sizes in (
        w,
        keeps,
        tt,
        subst (λ (n : ℕ). Rule record { words = set s.words n x; homes = s.homes; views = set s.views id w }) (sym (a_is ∙ place)) done.0,
        (
          (list, done.1, kc.4),
          λ q u b_is then. let e : p ≡ q = one_place qsbr allows key s r id v at own listed sizes p q before.0 then.0 (sym a_is ∙ b_is) in
              let f : o ≡ u = some_is o u (sym before.1 ∙ (ap (follows os) e ∙ then.1)) in
              subst (λ (z : Option ObjectId × ObjectId). Writes qsbr allows (cut_view z.0 z.1 x v) (cut_of z.1 v) me (w, me.1)) (λ j. (e j, f j)) (refl, refl, (r.log, refl, b.0, b.1, run), known),
        ),
      )
    where
      spot_of_now : Option ObjectId → ℕ
      spot_of_now q = spot_at key (objects_of r.log) (spot_of (own_in me.0.chains).chain q)
