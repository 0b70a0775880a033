-- A step after one that writes nothing and leaves the seat's chains as they are, as the store of a link or a load.
use Rattle.step_chains.proofs.Cited.{◌≡◌, ℕ, List, Bool, Option, Some, None, sym, refl, ap, ◌∙◌, subst, inr, Me, ObjectId, In, IsPlace, follows, next_of, follows_has, LiveEvent, Log, Begins, objects_of, record_of, begins_trans, note_stays, run_of, chain_used, View, ChainRight, Unlinked, ref, ref_same, own_in, IsWriter, IsListed, AreAsKnown, link_in, Went, linked_view}
use Rattle.step_chains.specs.Chains.{MayWrite, Writes, MayRead, IsThere, IsBefore, IsNext, push_of, pushed_view, replace_of, replaced_view, cut_of, cut_view}

module _ {S : Type 0} (qsbr : Bool) (allows : Log → LiveEvent → Type 0) (a : View) (m n : Me S View) (went : Went qsbr allows a m n) where
  -- what might be written may be still
  pub may_still : a.chains ≡ m.0.chains → a.heard ≡ m.0.heard → (e : LiveEvent) → MayWrite qsbr allows m.0 e → MayWrite qsbr allows n.0 e
  may_still chains hears e may = subst (λ (u : View). MayWrite qsbr allows u e) (sym went.1)
      (λ log seen heard run known allowed. may log (begins_trans m.0.seen n.0.seen log went.2.0 seen) (subst (λ (l : Log). Begins l log) hears heard) run (subst (AreAsKnown log) chains known) allowed)

  -- what is done after it is done after what was before
  pub did_after : a.chains ≡ m.0.chains → a.heard ≡ m.0.heard → (b : View) (e : LiveEvent) (p : Me S View) → Writes qsbr allows b e n p → Writes qsbr allows b e m p
  did_after chains hears b e p did = let wrote = did.2 in (
    did.0 ∙ went.0,
    did.1,
    (wrote.0, wrote.1, begins_trans m.0.seen n.0.seen wrote.0 went.2.0 wrote.2, subst (λ (l : Log). Begins l wrote.0) (ap (λ (u : View). u.heard) went.1 ∙ hears) wrote.3, wrote.4),
    subst (AreAsKnown wrote.0) (ap (λ (u : View). u.chains) went.1 ∙ chains) did.3,
  )

  module _ (listed : IsListed m.0) where
    -- the objects of the writer's chain have the notes that they had
    pub note_same : (o : ObjectId) → In (own_in m.0.chains).objects o → record_of n.0.seen o ≡ record_of m.0.seen o
    note_same o has = let run = went.2.2 in let begins = went.2.0 in
        note_stays qsbr allows m.0.seen n.0.seen o begins run (chain_used qsbr allows m.0.seen (own_in m.0.chains).chain o (run_of qsbr allows m.0.seen n.0.seen begins run) (subst (λ (l : List ObjectId). In l o) (sym listed.0) has))

    -- and what follows one of them lies where it lay
    pub next_same : (o : ObjectId) → ref (objects_of n.0.seen) (next_of (own_in m.0.chains).objects o) ≡ ref (objects_of m.0.seen) (next_of (own_in m.0.chains).objects o)
    next_same o = ref_same (objects_of m.0.seen) (objects_of n.0.seen) (next_of (own_in m.0.chains).objects o) (λ q f. note_same q (follows_has (own_in m.0.chains).objects (Some o) q f))

    there_same : (before : Option ℕ) (p : Option ObjectId) → IsPlace (own_in m.0.chains).objects p → IsThere m.0 before p → IsThere n.0 before p
    there_same None None place there = there
    there_same None (Some q) place there = absurd there
    there_same (Some j) None place there = absurd there
    there_same (Some j) (Some q) place there = ap (λ (z : ℕ × List ℕ). z.0) (note_same q place) ∙ there

    pub there_after : a.chains ≡ m.0.chains → (before : Option ℕ) (p : Option ObjectId) (o : ObjectId) → IsThere m.0 before p → IsBefore m.0 p o → IsThere n.0 before p × IsBefore n.0 p o
    there_after chains before p o there at = (there_same before p at.0 there, subst (λ (l : List ChainRight). IsPlace (own_in l).objects p × (follows (own_in l).objects p ≡ Some o)) (sym chains ∙ ap (λ (u : View). u.chains) (sym went.1)) at)

-- a publishing store after the store of the link
module _ {S : Type 0} (qsbr : Bool) (allows : Log → LiveEvent → Type 0) (link : ℕ) (m n : Me S View) (went : Went qsbr allows (linked_view link m.0) m n) where
  abbrev now : View
  now = linked_view link m.0

  pub may_push : MayWrite qsbr allows m.0 (push_of m.0) → MayWrite qsbr allows n.0 (push_of n.0)
  may_push may = subst (λ (e : LiveEvent). MayWrite qsbr allows n.0 e) (ap push_of (sym went.1)) (may_still qsbr allows now m n went refl refl (push_of m.0) may)

  pub pushed_after : (x : ℕ) (p : Me S View) → Writes qsbr allows (pushed_view x n.0) (push_of n.0) n p → Writes qsbr allows (pushed_view x m.0) (push_of m.0) m p
  pushed_after x p did = did_after qsbr allows now m n went refl refl (pushed_view x m.0) (push_of m.0) p (subst (λ (u : View). Writes qsbr allows (pushed_view x u) (push_of u) n p) went.1 did)

  module _ (listed : IsListed m.0) where
    pub link_after : (o : ObjectId) → link ≡ ref (objects_of m.0.seen) (next_of (own_in m.0.chains).objects o) → link_in n.0.object ≡ ref (objects_of n.0.seen) (next_of (own_in n.0.chains).objects o)
    link_after o is = ap (λ (u : View). link_in u.object) went.1 ∙ (is ∙ (sym (next_same qsbr allows now m n went listed o) ∙ ap (λ (u : View). ref (objects_of n.0.seen) (next_of (own_in u.chains).objects o)) (sym went.1)))

    pub may_replace : (o : ObjectId) → MayWrite qsbr allows m.0 (replace_of o m.0) → MayWrite qsbr allows n.0 (replace_of o n.0)
    may_replace o may = subst (λ (e : LiveEvent). MayWrite qsbr allows n.0 e) (ap (replace_of o) (sym went.1)) (may_still qsbr allows now m n went refl refl (replace_of o m.0) may)

    pub replaced_after : (p : Option ObjectId) (o : ObjectId) (x : ℕ) (q : Me S View) → IsBefore m.0 p o → Writes qsbr allows (replaced_view p o x n.0) (replace_of o n.0) n q → Writes qsbr allows (replaced_view p o x m.0) (replace_of o m.0) m q
    replaced_after p o x q at did = did_after qsbr allows now m n went refl refl (replaced_view p o x m.0) (replace_of o m.0) q
        (subst (λ (z : ℕ × List ℕ). Writes qsbr allows (record (replaced_view p o x m.0) { object = Unlinked z.0 o }) (replace_of o m.0) n q) (note_same qsbr allows now m n went listed o (follows_has (own_in m.0.chains).objects p o at.1))
        (subst (λ (u : View). Writes qsbr allows (replaced_view p o x u) (replace_of o u) n q) went.1 did))

-- a cut after the load of the link of what is cut
module _ {S : Type 0} (qsbr : Bool) (allows : Log → LiveEvent → Type 0) (m n : Me S View) (went : Went qsbr allows m.0 m n) (listed : IsListed m.0) (own : IsWriter m.0) (o : ObjectId) where
  -- what the link led to
  abbrev next : ℕ
  next = ref (objects_of m.0.seen) (next_of (own_in m.0.chains).objects o)

  pub reads_own : (p : Option ObjectId) (cell : ℕ) → IsBefore m.0 p o → (record_of m.0.seen o).0 ≡ cell → MayRead qsbr m.0 o cell
  reads_own p cell at is = (is, inr (own, listed, follows_has (own_in m.0.chains).objects p o at.1))

  pub loaded_next : (p : Option ObjectId) (x : ℕ) → IsBefore m.0 p o → (found : Option ObjectId) × IsNext qsbr m.0 n.0 o x found → x ≡ next
  loaded_next p x at told = told.1.1 ∙ (ap (ref (objects_of n.0.seen)) (told.1.3 own (follows_has (own_in m.0.chains).objects p o at.1)) ∙ next_same qsbr allows m.0 m n went listed o)

  pub next_after : (x : ℕ) → x ≡ next → x ≡ ref (objects_of n.0.seen) (next_of (own_in n.0.chains).objects o)
  next_after x is = is ∙ (sym (next_same qsbr allows m.0 m n went listed o) ∙ ap (λ (u : View). ref (objects_of n.0.seen) (next_of (own_in u.chains).objects o)) (sym went.1))

  pub may_cut : MayWrite qsbr allows m.0 (cut_of o m.0) → MayWrite qsbr allows n.0 (cut_of o n.0)
  may_cut may = subst (λ (e : LiveEvent). MayWrite qsbr allows n.0 e) (ap (cut_of o) (sym went.1)) (may_still qsbr allows m.0 m n went refl refl (cut_of o m.0) may)

  pub cut_after : (p : Option ObjectId) (x : ℕ) (q : Me S View) → IsBefore m.0 p o → x ≡ next → Writes qsbr allows (cut_view p o x n.0) (cut_of o n.0) n q → Writes qsbr allows (cut_view p o next m.0) (cut_of o m.0) m q
  cut_after p x q at is did = did_after qsbr allows m.0 m n went refl refl (cut_view p o next m.0) (cut_of o m.0) q
      (subst (λ (z : ℕ × List ℕ). Writes qsbr allows (record (cut_view p o next m.0) { object = Unlinked z.0 o }) (cut_of o m.0) n q) (note_same qsbr allows m.0 m n went listed o (follows_has (own_in m.0.chains).objects p o at.1))
      (subst (λ (y : ℕ). Writes qsbr allows (record (cut_view p o y m.0) { object = Unlinked (record_of n.0.seen o).0 o }) (cut_of o m.0) n q) is
      (subst (λ (u : View). Writes qsbr allows (cut_view p o x u) (cut_of o u) n q) went.1 did)))
