-- What an open section holds is not reclaimed.
use Rattle.std.proofs.Common.{◌≡◌, ◌≢◌, ◌⊎◌, inl, inr, ⊎_elim, ℕ, ◌==◌, true, false, not, List, [], ◌∷◌, Option, Some, None, refl, sym, ap, ◌∙◌, subst}
use Rattle.std.proofs.lemmas.Bool.Decides.{eqb_tells}
use Rattle.rcu_model.specs.declared.event.Event.{Event}
use Rattle.rcu_model.specs.declared.event.Event.TheVariants.{Open, Close, First, Next, Touch, Push, Replace, Cut, Retire, Queue, Run, Ask, Answer, Bar, Clear}
use Rattle.rcu_model.specs.declared.event.SectionId.{SectionId}
use Rattle.rcu_model.specs.declared.event.ObjectId.{ObjectId}
use Rattle.rcu_model.specs.Machine.{State, start, IsOpen, IsSuccessor, IsAllowed, AreAllowed, after, after_all, got, IsRun, state_after, Holds}
use Rattle.rcu_model.specs.Sets.{HasObject, same_section, same_object, without_section, without_object, at_number, at_section, at_object, first_of, next_of, replaced}
use Rattle.rcu_model.proofs.Members.{In, object_tells, section_tells, in_sections, has_section_in, in_objects, has_object_in, in_left}
use Rattle.rcu_model.proofs.SetLemmas.{Once, Once-filter, Once-replaced, without_object_has, has_without_object, has_without_section, at_number_same, at_number_other, at_section_same, at_section_other, at_object_same, at_object_other, next_of_has, replaced_has, has_replaced}

-- how chains, cut objects and retired ones lie to one another
pub record Linking (chain : ℕ → List ObjectId) (used cut retired : List ObjectId) : Type 0 where
  pub one_chain : (c d : ℕ) (o : ObjectId) → In (chain c) o → In (chain d) o → c ≡ d
  pub once : (c : ℕ) → Once (chain c)
  pub linked_used : (c : ℕ) (o : ObjectId) → In (chain c) o → In used o
  pub cut_used : (o : ObjectId) → In cut o → In used o
  pub linked_not_cut : (c : ℕ) (o : ObjectId) → In (chain c) o → ¬ In cut o
  pub retired_cut : (o : ObjectId) → In retired o → In cut o

-- an object from which the section reaches nothing that is reclaimed while it stays open: it is linked, or it is cut,
-- awaits the section if it is retired, and its kept successor is safe
pub data Safe (chain : ℕ → List ObjectId) (cut : List ObjectId) (successor : ObjectId → Option ObjectId) (retired : List ObjectId) (awaited : ObjectId → List SectionId) (s : SectionId) : ObjectId → Type 0 where
  linked : {o : ObjectId} (c : ℕ) → In (chain c) o → Safe chain cut successor retired awaited s o
  cut_last : {o : ObjectId} → In cut o → (In retired o → In (awaited o) s) → successor o ≡ None → Safe chain cut successor retired awaited s o
  cut_before : {o : ObjectId} (m : ObjectId) → In cut o → (In retired o → In (awaited o) s) → successor o ≡ Some m → Safe chain cut successor retired awaited s m → Safe chain cut successor retired awaited s o

abbrev pub SafeIn : State → SectionId → ObjectId → Type 0
SafeIn now s o = Safe now.chain now.cut now.successor now.retired now.awaited s o

abbrev pub LinkingOf : State → Type 0
LinkingOf now = Linking now.chain now.used now.cut now.retired

-- what every state that a run leads to keeps
pub record Kept (now : State) : Type 0 where
  pub linking : LinkingOf now
  pub holder_open : (s : SectionId) (o : ObjectId) → In (now.held s) o → In now.sections s
  pub safe : (s : SectionId) (o : ObjectId) → In (now.held s) o → SafeIn now s o
  pub queued_retired : (o : ObjectId) → In now.queued o → In now.retired o
  pub run : (o : ObjectId) → In now.reclaimed o → In now.retired o × (now.awaited o ≡ [])

-- what is safe stays so, where what was linked is, and cut objects keep their successors and what they await
still_safe : (now later : State) (s : SectionId) →
    ((c : ℕ) (o : ObjectId) → In (now.chain c) o → SafeIn later s o) →
    ((o : ObjectId) → In now.cut o → In later.cut o × (later.successor o ≡ now.successor o) × ((In now.retired o → In (now.awaited o) s) → In later.retired o → In (later.awaited o) s)) →
    (o : ObjectId) → SafeIn now s o → SafeIn later s o
still_safe now later s links cuts o (linked c h) = links c o h
still_safe now later s links cuts o (cut_last h waits e) = let k = cuts o h in cut_last k.0 (k.2 waits) (k.1 ∙ e)
still_safe now later s links cuts o (cut_before m h waits e rest) =
    let k = cuts o h in cut_before m k.0 (k.2 waits) (k.1 ∙ e) (still_safe now later s links cuts m rest)

-- what is in a chain once one chain was set
linked_at : (c m : ℕ) (xs : List ObjectId) (f : ℕ → List ObjectId) (o : ObjectId) → In (at_number c xs f m) o → ((m ≡ c) × In xs o) ⊎ ((m ≢ c) × In (f m) o)
linked_at c m xs f o h =
    ⊎_elim
    (λ (y : ((m == c) ≡ true) × (m ≡ c)). inl (y.1, rw y.0 at h))
    (λ (n : ((m == c) ≡ false) × (m ≢ c)). inr (n.1, rw n.0 at h))
    (eqb_tells m c)

pub at_linked : (c m : ℕ) (xs : List ObjectId) (f : ℕ → List ObjectId) (o : ObjectId) → ((m ≡ c) × In xs o) ⊎ ((m ≢ c) × In (f m) o) → In (at_number c xs f m) o
at_linked c m xs f o (inl y) = subst (λ l. In l o) (sym (ap (λ n. at_number c xs f n) y.0 ∙ at_number_same c xs f)) y.1
at_linked c m xs f o (inr n) = subst (λ l. In l o) (sym (at_number_other c m xs f n.0)) n.1

-- nothing is lost or moved between chains where one chain is set to objects of its own, and fresh ones
set_chain : (now : State) (c : ℕ) (xs used cut : List ObjectId) → LinkingOf now → Once xs →
    ((o : ObjectId) → In now.used o → In used o) →
    ((o : ObjectId) → In now.cut o → In cut o) →
    ((o : ObjectId) → In cut o → In used o) →
    ((o : ObjectId) → In xs o → In used o × (¬ In cut o) × (In (now.chain c) o ⊎ (¬ In now.used o))) →
    ((d : ℕ) (o : ObjectId) → d ≢ c → In (now.chain d) o → ¬ In cut o) →
    Linking (at_number c xs now.chain) used cut now.retired
set_chain now c xs used cut l once more_used more_cut cut_used new others = record {
  one_chain = λ d d' o h h'. same d d' o (linked_at c d xs now.chain o h) (linked_at c d' xs now.chain o h');
  once = λ d. once_at d (eqb_tells d c);
  linked_used = λ d o h. ⊎_elim (λ (y : (d ≡ c) × In xs o). (new o y.1).0) (λ (n : (d ≢ c) × In (now.chain d) o). more_used o (l.linked_used d o n.1)) (linked_at c d xs now.chain o h);
  cut_used = cut_used;
  linked_not_cut = λ d o h. ⊎_elim (λ (y : (d ≡ c) × In xs o). (new o y.1).1) (λ (n : (d ≢ c) × In (now.chain d) o). others d o n.0 n.1) (linked_at c d xs now.chain o h);
  retired_cut = λ o h. more_cut o (l.retired_cut o h);
}
  where
    apart : (d : ℕ) (o : ObjectId) → d ≢ c → In (now.chain d) o → ¬ In xs o
    apart d o ne h h' =
        ⊎_elim
        (λ (was : In (now.chain c) o). ne (l.one_chain d c o h was))
        (λ (fresh : ¬ In now.used o). fresh (l.linked_used d o h))
        ((new o h').2)

    same : (d d' : ℕ) (o : ObjectId) → ((d ≡ c) × In xs o) ⊎ ((d ≢ c) × In (now.chain d) o) → ((d' ≡ c) × In xs o) ⊎ ((d' ≢ c) × In (now.chain d') o) → d ≡ d'
    same d d' o (inl y) (inl y') = y.0 ∙ sym y'.0
    same d d' o (inl y) (inr n') = absurd (apart d' o n'.0 n'.1 y.1)
    same d d' o (inr n) (inl y') = absurd (apart d o n.0 n.1 y'.1)
    same d d' o (inr n) (inr n') = l.one_chain d d' o n.1 n'.1

    once_at : (d : ℕ) → (((d == c) ≡ true) × (d ≡ c)) ⊎ (((d == c) ≡ false) × (d ≢ c)) → Once (at_number c xs now.chain d)
    once_at d (inl y) = rw y.0 once
    once_at d (inr n) = rw n.0 (l.once d)

-- a section that holds one more safe object
kept_got : (now : State) (s : SectionId) (found : Option ObjectId) → Kept now → In now.sections s → ((o : ObjectId) → found ≡ Some o → SafeIn now s o) → Kept (got now s found)
kept_got now s None k is_open is_safe = k
kept_got now s (Some o) k is_open is_safe = record {
  linking = k.linking;
  queued_retired = k.queued_retired;
  run = k.run;
  holder_open = λ t p h. by_section (λ t p. In now.sections t) (λ p _. is_open) k.holder_open t p h;
  safe = λ t p h. by_section (SafeIn now) mine k.safe t p h;
}
  where
    mine : (p : ObjectId) → In (o ∷ now.held s) p → SafeIn now s p
    mine p (inl e) = subst (SafeIn now s) e (is_safe o refl)
    mine p (inr h) = k.safe s p h

    by_section : (Q : SectionId → ObjectId → Type 0) → ((p : ObjectId) → In (o ∷ now.held s) p → Q s p) → ((t : SectionId) (p : ObjectId) → In (now.held t) p → Q t p) →
        (t : SectionId) (p : ObjectId) → In (at_section s (o ∷ now.held s) now.held t) p → Q t p
    by_section Q same other t p h =
        ⊎_elim
        (λ (y : (same_section t s ≡ true) × (t ≡ s)). subst (λ u. Q u p) (sym y.1) (same p (subst (λ (ps : List ObjectId). In ps p) (ap (at_section s (o ∷ now.held s) now.held) y.1 ∙ at_section_same s (o ∷ now.held s) now.held) h)))
        (λ (n : (same_section t s ≡ false) × (t ≢ s)). other t p (subst (λ (ps : List ObjectId). In ps p) (at_section_other s t (o ∷ now.held s) now.held n.1) h))
        (section_tells t s)

-- a successor of a safe object is safe
pub safe_successor : (now : State) (s : SectionId) (o m : ObjectId) → Kept now → SafeIn now s o → IsSuccessor now o (Some m) → SafeIn now s m
safe_successor now s o m k (linked c h) next =
    linked c ((next_of_has (now.chain c) o m (k.linking.once c) h (next.while_linked c (has_object_in (now.chain c) o h))).0)
safe_successor now s o m k (cut_last h waits e) next = absurd (none_not_some (sym e ∙ next.once_cut (has_object_in now.cut o h)))
  where
    none_not_some : None ≡ Some m → ⊥
    none_not_some e = cc
safe_successor now s o m k (cut_before n h waits e rest) next = subst (SafeIn now s) (same (sym e ∙ next.once_cut (has_object_in now.cut o h))) rest
  where
    same : Some n ≡ Some m → n ≡ m
    same e = cc

-- an object that was linked is safe once it is cut, where its successor is linked then
just_cut : (later : State) (c : ℕ) (s : SectionId) (o : ObjectId) (found : Option ObjectId) → In later.cut o → ¬ In later.retired o → later.successor o ≡ found → ((m : ObjectId) → found ≡ Some m → In (later.chain c) m) → SafeIn later s o
just_cut later c s o None cut fresh e links = cut_last cut (λ r. absurd (fresh r)) e
just_cut later c s o (Some m) cut fresh e links = cut_before m cut (λ r. absurd (fresh r)) e (linked c (links m refl))

-- one object leaves its chain, which is then xs
abbrev after_cut : State → ℕ → ObjectId → List ObjectId → List ObjectId → State
after_cut now c o xs used = record now { chain = at_number c xs now.chain; used = used; cut = o ∷ now.cut; successor = at_object o (next_of (now.chain c) o) now.successor }

safe_cut : (now : State) (c : ℕ) (o : ObjectId) (xs used : List ObjectId) → LinkingOf now → In (now.chain c) o →
    ((p : ObjectId) → In (now.chain c) p → p ≢ o → In xs p) →
    (s : SectionId) (p : ObjectId) → SafeIn now s p → SafeIn (after_cut now c o xs used) s p
safe_cut now c o xs used k at rest s = still_safe now later s links cuts
  where
    later : State
    later = after_cut now c o xs used

    links : (d : ℕ) (p : ObjectId) → In (now.chain d) p → SafeIn later s p
    links d p h =
        ⊎_elim
        (λ (e : (same_object p o ≡ true) × (p ≡ o)). subst (SafeIn later s) (sym e.1)
        (just_cut later c s o (next_of (now.chain c) o) (inl refl) (λ r. k.linked_not_cut c o at (k.retired_cut o r))
        (at_object_same o (next_of (now.chain c) o) now.successor)
        (λ m f. let n = next_of_has (now.chain c) o m (k.once c) at f in at_linked c c xs now.chain m (inl (refl, rest m n.0 n.1)))))
        (λ (n : (same_object p o ≡ false) × (p ≢ o)). linked d (at_linked c d xs now.chain p (elsewhere (eqb_tells d c) n.1)))
        (object_tells p o)
      where
        elsewhere : (((d == c) ≡ true) × (d ≡ c)) ⊎ (((d == c) ≡ false) × (d ≢ c)) → p ≢ o → ((d ≡ c) × In xs p) ⊎ ((d ≢ c) × In (now.chain d) p)
        elsewhere (inl y) ne = inl (y.1, rest p (subst (λ n. In (now.chain n) p) y.1 h) ne)
        elsewhere (inr n) ne = inr (n.1, h)

    cuts : (p : ObjectId) → In now.cut p → In (o ∷ now.cut) p × (at_object o (next_of (now.chain c) o) now.successor p ≡ now.successor p) × ((In now.retired p → In (now.awaited p) s) → In now.retired p → In (now.awaited p) s)
    cuts p h = (inr h, at_object_other o p (next_of (now.chain c) o) now.successor (λ e. k.linked_not_cut c o at (subst (In now.cut) e h)), λ f. f)

kept_cut : (now : State) (c : ℕ) (o : ObjectId) (xs used : List ObjectId) → Kept now → In (now.chain c) o → Once xs →
    ((p : ObjectId) → In now.used p → In used p) →
    ((p : ObjectId) → In xs p → In used p × (p ≢ o) × (In (now.chain c) p ⊎ (¬ In now.used p))) →
    ((p : ObjectId) → In (now.chain c) p → p ≢ o → In xs p) →
    Kept (after_cut now c o xs used)
kept_cut now c o xs used k at once more_used new rest = record {
  linking = set_chain now c xs used (o ∷ now.cut) k.linking once more_used (λ p h. inr h)
      (λ p h. ⊎_elim (λ (e : o ≡ p). subst (In used) e (more_used o (k.linking.linked_used c o at))) (λ (r : In now.cut p). more_used p (k.linking.cut_used p r)) h)
      (λ p h. let n = new p h in (n.0, not_cut p n.1 n.2, n.2))
      (λ d p ne h h'. ⊎_elim (λ (e : o ≡ p). ne (k.linking.one_chain d c p h (subst (In (now.chain c)) e at))) (λ (r : In now.cut p). k.linking.linked_not_cut d p h r) h');
  holder_open = k.holder_open;
  queued_retired = k.queued_retired;
  run = k.run;
  safe = λ s p h. safe_cut now c o xs used k.linking at rest s p (k.safe s p h);
}
  where
    not_cut : (p : ObjectId) → p ≢ o → In (now.chain c) p ⊎ (¬ In now.used p) → ¬ In (o ∷ now.cut) p
    not_cut p ne was (inl e) = ne (sym e)
    not_cut p ne (inl was) (inr r) = k.linking.linked_not_cut c p was r
    not_cut p ne (inr fresh) (inr r) = fresh (k.linking.cut_used p r)

safe_close : (now : State) (s t : SectionId) (o : ObjectId) → t ≢ s → SafeIn now t o → SafeIn (after now (Close s)) t o
safe_close now s t = λ o ne. still_safe now (after now (Close s)) t (λ c p l. linked c l) (λ p c. (c, refl, λ f r. has_without_section s (now.awaited p) t (f r) ne)) o

kept_close : (now : State) (s : SectionId) → Kept now → Kept (after now (Close s))
kept_close now s k = record {
  linking = k.linking;
  queued_retired = k.queued_retired;
  holder_open = λ t o h. let was = holds_still t o h in has_without_section s now.sections t (k.holder_open t o was.0) was.1;
  safe = λ t o h. let was = holds_still t o h in safe_close now s t o was.1 (k.safe t o was.0);
  run = λ o h. let was = k.run o h in (was.0, ap (without_section s) was.1);
}
  where
    holds_still : (t : SectionId) (o : ObjectId) → In (at_section s [] now.held t) o → In (now.held t) o × (t ≢ s)
    holds_still t o h =
        ⊎_elim
        (λ (y : (same_section t s ≡ true) × (t ≡ s)). absurd (subst (λ (ps : List ObjectId). In ps o) (ap (at_section s [] now.held) y.1 ∙ at_section_same s [] now.held) h))
        (λ (n : (same_section t s ≡ false) × (t ≢ s)). (subst (λ (ps : List ObjectId). In ps o) (at_section_other s t [] now.held n.1) h, n.1))
        (section_tells t s)

safe_retire : (now : State) (o : ObjectId) (s : SectionId) (p : ObjectId) → In now.sections s → SafeIn now s p → SafeIn (after now (Retire o)) s p
safe_retire now o s p is_open = still_safe now (after now (Retire o)) s (λ c q l. linked c l) (λ q c. (c, refl, awaits q)) p
  where
    awaits : (q : ObjectId) → (In now.retired q → In (now.awaited q) s) → In (o ∷ now.retired) q → In (at_object o now.sections now.awaited q) s
    awaits q f r =
        ⊎_elim
        (λ (e : (same_object q o ≡ true) × (q ≡ o)). subst (λ l. In l s) (sym (ap (at_object o now.sections now.awaited) e.1 ∙ at_object_same o now.sections now.awaited)) is_open)
        (λ (n : (same_object q o ≡ false) × (q ≢ o)). subst (λ l. In l s) (sym (at_object_other o q now.sections now.awaited n.1)) (f (⊎_elim (λ (e : o ≡ q). absurd (n.1 (sym e))) (λ (was : In now.retired q). was) r)))
        (object_tells q o)

kept_retire : (now : State) (o : ObjectId) → Kept now → In now.cut o → ¬ In now.retired o → Kept (after now (Retire o))
kept_retire now o k is_cut fresh = record {
  linking = record {
    one_chain = k.linking.one_chain;
    once = k.linking.once;
    linked_used = k.linking.linked_used;
    cut_used = k.linking.cut_used;
    linked_not_cut = k.linking.linked_not_cut;
    retired_cut = λ p h. ⊎_elim (λ (e : o ≡ p). subst (In now.cut) e is_cut) (λ (r : In now.retired p). k.linking.retired_cut p r) h;
  };
  holder_open = k.holder_open;
  queued_retired = λ p h. inr (k.queued_retired p h);
  safe = λ s p h. safe_retire now o s p (k.holder_open s p h) (k.safe s p h);
  run = λ p h. let was = k.run p h in (inr was.0, at_object_other o p now.sections now.awaited (λ e. fresh (subst (In now.retired) e was.0)) ∙ was.1);
}

safe_push : (now : State) (c : ℕ) (o : ObjectId) (s : SectionId) (p : ObjectId) → SafeIn now s p → SafeIn (after now (Push c o)) s p
safe_push now c o s = still_safe now (after now (Push c o)) s
    (λ d q l. linked d (at_linked c d (o ∷ now.chain c) now.chain q (⊎_elim
    (λ (y : ((d == c) ≡ true) × (d ≡ c)). inl (y.1, inr (subst (λ n. In (now.chain n) q) y.1 l)))
    (λ (n : ((d == c) ≡ false) × (d ≢ c)). inr (n.1, l)) (eqb_tells d c))))
    (λ q h'. (h', refl, λ f. f))

kept_push : (now : State) (c : ℕ) (o : ObjectId) → Kept now → ¬ In now.used o → Kept (after now (Push c o))
kept_push now c o k fresh = record {
  linking = set_chain now c (o ∷ now.chain c) (o ∷ now.used) now.cut k.linking
      ((λ h. fresh (k.linking.linked_used c o h)), k.linking.once c)
      (λ p h. inr h) (λ p h. h) (λ p h. inr (k.linking.cut_used p h))
      (λ p h. ⊎_elim
      (λ (e : o ≡ p). (inl e, (λ h'. fresh (subst (In now.used) (sym e) (k.linking.cut_used p h'))), inr (λ u. fresh (subst (In now.used) (sym e) u))))
      (λ (r : In (now.chain c) p). (inr (k.linking.linked_used c p r), k.linking.linked_not_cut c p r, inl r)) h)
      (λ d p ne h. k.linking.linked_not_cut d p h);
  holder_open = k.holder_open;
  queued_retired = k.queued_retired;
  run = k.run;
  safe = λ s p h. safe_push now c o s p (k.safe s p h);
}

kept_replace : (now : State) (c : ℕ) (old new : ObjectId) → Kept now → In (now.chain c) old → ¬ In now.used new → Kept (after now (Replace c old new))
kept_replace now c old new k at fresh =
    kept_cut now c old (replaced old new (now.chain c)) (new ∷ now.used) k at
    (Once-replaced old new (now.chain c) (k.linking.once c) (λ h. fresh (k.linking.linked_used c new h))) (λ p h. inr h)
    (λ p h. ⊎_elim
    (λ (e : p ≡ new). (inl (sym e), (λ same. fresh (k.linking.linked_used c new (subst (In (now.chain c)) (sym same ∙ e) at))), inr (λ u. fresh (subst (In now.used) e u))))
    (λ (w : In (now.chain c) p × (p ≢ old)). (inr (k.linking.linked_used c p w.0), w.1, inl w.0))
    (replaced_has old new (now.chain c) p h))
    (λ p h ne. has_replaced old new (now.chain c) p h ne)

first_has : (xs : List ObjectId) (o : ObjectId) → first_of xs ≡ Some o → In xs o
first_has [] o e = absurd (cc)
first_has (x ∷ xs) o e = inl (cc)

pub kept_step : (now : State) (e : Event) → Kept now → IsAllowed now e → Kept (after now e)
kept_step now (Open s) k a = record {
  linking = k.linking;
  holder_open = λ t o h. in_left now.sections (s ∷ []) t (k.holder_open t o h);
  safe = k.safe;
  queued_retired = k.queued_retired;
  run = k.run;
}
kept_step now (Close s) k a = kept_close now s k
kept_step now (First s c found) k a = kept_got now s found k (in_sections now.sections s a.0) (λ o e. linked c (first_has (now.chain c) o (a.1 ∙ e)))
kept_step now (Next s o found) k a =
    kept_got now s found k (in_sections now.sections s a.0)
    (λ m e. safe_successor now s o m k (k.safe s o (in_objects (now.held s) o a.1)) (subst (IsSuccessor now o) e a.2))
kept_step now (Touch s o) k a = k
kept_step now (Push c o) k a = kept_push now c o k (λ h. a (has_object_in now.used o h))
kept_step now (Replace c old new) k a = kept_replace now c old new k (in_objects (now.chain c) old a.0) (λ h. a.1 (has_object_in now.used new h))
kept_step now (Cut c o) k a =
    kept_cut now c o (without_object o (now.chain c)) now.used k (in_objects (now.chain c) o a) (Once-filter (λ p. not (same_object p o)) (now.chain c) (k.linking.once c)) (λ p h. h)
    (λ p h. let w = without_object_has o (now.chain c) p h in (k.linking.linked_used c p w.0, w.1, inl w.0))
    (λ p h ne. has_without_object o (now.chain c) p h ne)
kept_step now (Retire o) k a = kept_retire now o k (in_objects now.cut o a.0) (λ h. a.1 (has_object_in now.retired o h))
kept_step now (Queue o q) k a = record {
  linking = k.linking;
  holder_open = k.holder_open;
  safe = k.safe;
  run = k.run;
  queued_retired = λ p h. ⊎_elim (λ (e : o ≡ p). subst (In now.retired) e (in_objects now.retired o a.0)) (λ (r : In now.queued p). k.queued_retired p r) h;
}
kept_step now (Run o) k a = record {
  linking = k.linking;
  holder_open = k.holder_open;
  safe = k.safe;
  queued_retired = k.queued_retired;
  run = λ p h. ⊎_elim
      (λ (e : o ≡ p). (subst (In now.retired) e (k.queued_retired o (in_objects now.queued o a.0)), subst (λ x. now.awaited x ≡ []) e a.2))
      (λ (r : In now.reclaimed p). k.run p r) h;
}
kept_step now (Ask n) k a = record { linking = k.linking; holder_open = k.holder_open; safe = k.safe; queued_retired = k.queued_retired; run = k.run }
kept_step now (Answer n) k a = record { linking = k.linking; holder_open = k.holder_open; safe = k.safe; queued_retired = k.queued_retired; run = k.run }
kept_step now (Bar n) k a = record { linking = k.linking; holder_open = k.holder_open; safe = k.safe; queued_retired = k.queued_retired; run = k.run }
kept_step now (Clear n) k a = record { linking = k.linking; holder_open = k.holder_open; safe = k.safe; queued_retired = k.queued_retired; run = k.run }

pub kept_run : (now : State) (es : List Event) → Kept now → AreAllowed now es → Kept (after_all now es)
kept_run now [] k a = k
kept_run now (e ∷ es) k a = kept_run (after now e) es (kept_step now e k a.0) a.1

pub kept_start : Kept start
kept_start = record {
  linking = record {
    one_chain = λ c d o h. absurd h;
    once = λ c. tt;
    linked_used = λ c o h. absurd h;
    cut_used = λ o h. absurd h;
    linked_not_cut = λ c o h. absurd h;
    retired_cut = λ o h. absurd h;
  };
  holder_open = λ s o h. absurd h;
  safe = λ s o h. absurd h;
  queued_retired = λ o h. absurd h;
  run = λ o h. absurd h;
}

-- what is safe for a section that was open and stays so goes on to be safe, whether the section holds it or not
pub safe_step : (now : State) (e : Event) (s : SectionId) (o : ObjectId) → Kept now → IsAllowed now e → In now.sections s → e ≢ Close s → SafeIn now s o → SafeIn (after now e) s o
safe_step now (Open t) s o k a is_open stays h = h
safe_step now (Close t) s o k a is_open stays h = safe_close now t s o (λ e. stays (ap Close (sym e))) h
safe_step now (First t c None) s o k a is_open stays h = h
safe_step now (First t c (Some p)) s o k a is_open stays h = h
safe_step now (Next t p None) s o k a is_open stays h = h
safe_step now (Next t p (Some q)) s o k a is_open stays h = h
safe_step now (Touch t p) s o k a is_open stays h = h
safe_step now (Push c p) s o k a is_open stays h = safe_push now c p s o h
safe_step now (Replace c p q) s o k a is_open stays h =
    safe_cut now c p (replaced p q (now.chain c)) (q ∷ now.used) k.linking (in_objects (now.chain c) p a.0) (λ x at ne. has_replaced p q (now.chain c) x at ne) s o h
safe_step now (Cut c p) s o k a is_open stays h =
    safe_cut now c p (without_object p (now.chain c)) now.used k.linking (in_objects (now.chain c) p a) (λ x at ne. has_without_object p (now.chain c) x at ne) s o h
safe_step now (Retire p) s o k a is_open stays h = safe_retire now p s o is_open h
safe_step now (Queue p q) s o k a is_open stays h = h
safe_step now (Run p) s o k a is_open stays h = h
safe_step now (Ask n) s o k a is_open stays h = h
safe_step now (Answer n) s o k a is_open stays h = h
safe_step now (Bar n) s o k a is_open stays h = h
safe_step now (Clear n) s o k a is_open stays h = h

pub not_reclaimed : (now : State) (s : SectionId) (o : ObjectId) → Kept now → SafeIn now s o → ¬ In now.reclaimed o
not_reclaimed now s o k (linked c h) back = k.linking.linked_not_cut c o h (k.linking.retired_cut o ((k.run o back).0))
not_reclaimed now s o k (cut_last h waits e) back = let r = k.run o back in subst (λ l. In l s) r.1 (waits r.0)
not_reclaimed now s o k (cut_before m h waits e rest) back = let r = k.run o back in subst (λ l. In l s) r.1 (waits r.0)

pub kept_log : (log : List Event) → IsRun log → Kept (state_after log)
kept_log log run = kept_run start log kept_start run

pub held_safe : (log : List Event) (s : SectionId) (o : ObjectId) → IsRun log → Holds (state_after log) s o → ¬ HasObject (state_after log).reclaimed o
held_safe log s o run holds back =
    let k = kept_log log run in
    let now = state_after log in
    not_reclaimed now s o k (k.safe s o (in_objects (now.held s) o holds)) (in_objects now.reclaimed o back)

pub held_open : (log : List Event) (s : SectionId) (o : ObjectId) → IsRun log → Holds (state_after log) s o → IsOpen (state_after log) s
held_open log s o run holds =
    let now = state_after log in
    has_section_in now.sections s ((kept_log log run).holder_open s o (in_objects (now.held s) o holds))
