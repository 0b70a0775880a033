-- Items in the order of their tickets, and what each change of a queue keeps of them.
use Rattle.world_state.proofs.Cited.{◌≡◌, ◌≢◌, ◌⊎◌, inl, inr, ⊎_elim, ℕ, ◌+◌, ◌<◌, ◌≤◌, cond, Bool, true, false, List, [], ◌∷◌, ◌++◌, length, get_or, slice_get, slice_set, None, refl, sym, ap, ◌∙◌, subst, arith, get_or-set_other, get_or-set_same, length-set, append-nil, append_assoc, slice_get-get_or, slice_get_past, ObjectId, Item, Queue, items_of, pushed, sealed, after_advance, is_due}
use Rattle.world_state.specs.declared.queue.QueueState.{QueueState}
use Rattle.world_state.specs.Queues.{empty_queue_state, changed_at}
use Rattle.world_state.proofs.Writes.{past_or_within}

abbrev pub Items : Type 0
Items = List (Item Unit)

-- the object's item is in the list
abbrev pub Has : Items → ObjectId → Type 0
Has [] o = ⊥
Has (i ∷ is) o = (i.object ≡ o) ⊎ Has is o

-- it is there with this ticket, where the first one's ticket comes after `gone`
abbrev pub Stands : ℕ → Items → ℕ → ObjectId → Type 0
Stands gone [] t o = ⊥
Stands gone (i ∷ is) t o = ((gone + 1 ≡ t) × (i.object ≡ o)) ⊎ Stands (gone + 1) is t o

pub stands_above : (gone : ℕ) (is : Items) (t : ℕ) (o : ObjectId) → Stands gone is t o → gone < t
stands_above gone [] t o h = absurd h
stands_above gone (i ∷ is) t o (inl h) = let e = h.0 in omega (arith, e)
stands_above gone (i ∷ is) t o (inr h) = let above = stands_above (gone + 1) is t o h in omega (arith, above)

pub stands_within : (gone : ℕ) (is : Items) (t : ℕ) (o : ObjectId) → Stands gone is t o → t ≤ gone + length is
stands_within gone [] t o h = absurd h
stands_within gone (i ∷ is) t o (inl h) = let e = h.0 in omega (arith, e)
stands_within gone (i ∷ is) t o (inr h) = let low = stands_within (gone + 1) is t o h in omega (arith, low)

pub stands_has : (gone : ℕ) (is : Items) (t : ℕ) (o : ObjectId) → Stands gone is t o → Has is o
stands_has gone [] t o h = absurd h
stands_has gone (i ∷ is) t o (inl h) = inl h.1
stands_has gone (i ∷ is) t o (inr h) = inr (stands_has (gone + 1) is t o h)

pub has_stands : (gone : ℕ) (is : Items) (o : ObjectId) → Has is o → (t : ℕ) × Stands gone is t o
has_stands gone [] o h = absurd h
has_stands gone (i ∷ is) o (inl e) = (gone + 1, inl (refl, e))
has_stands gone (i ∷ is) o (inr h) = let s = has_stands (gone + 1) is o h in (s.0, inr s.1)

-- more at the end
pub stands_left : (gone : ℕ) (is js : Items) (t : ℕ) (o : ObjectId) → Stands gone is t o → Stands gone (is ++ js) t o
stands_left gone [] js t o h = absurd h
stands_left gone (i ∷ is) js t o (inl h) = inl h
stands_left gone (i ∷ is) js t o (inr h) = inr (stands_left (gone + 1) is js t o h)

pub stands_last : (gone : ℕ) (is : Items) (i : Item Unit) → Stands gone (is ++ i ∷ []) (gone + length is + 1) i.object
stands_last gone [] i = inl (omega arith, refl)
stands_last gone (j ∷ is) i = inr (subst (λ n. Stands (gone + 1) (is ++ i ∷ []) n i.object) (omega arith) (stands_last (gone + 1) is i))

pub stands_more : (gone : ℕ) (is : Items) (i : Item Unit) (t : ℕ) (o : ObjectId) → Stands gone (is ++ i ∷ []) t o → Stands gone is t o ⊎ ((t ≡ gone + length is + 1) × (i.object ≡ o))
stands_more gone [] i t o (inl h) = inr (let e = h.0 in omega (arith, e), h.1)
stands_more gone [] i t o (inr h) = absurd h
stands_more gone (j ∷ is) i t o (inl h) = inl (inl h)
stands_more gone (j ∷ is) i t o (inr h) =
    ⊎_elim
    (λ (l : Stands (gone + 1) is t o). inl (inr l))
    (λ (r : (t ≡ gone + 1 + length is + 1) × (i.object ≡ o)). inr (let e = r.0 in omega (arith, e), r.1))
    (stands_more (gone + 1) is i t o h)

pub has_left : (is js : Items) (o : ObjectId) → Has is o → Has (is ++ js) o
has_left [] js o h = absurd h
has_left (i ∷ is) js o (inl e) = inl e
has_left (i ∷ is) js o (inr h) = inr (has_left is js o h)

pub has_right : (is js : Items) (o : ObjectId) → Has js o → Has (is ++ js) o
has_right [] js o h = h
has_right (i ∷ is) js o h = inr (has_right is js o h)

pub has_either : (is js : Items) (o : ObjectId) → Has (is ++ js) o → Has is o ⊎ Has js o
has_either [] js o h = inr h
has_either (i ∷ is) js o (inl e) = inl (inl e)
has_either (i ∷ is) js o (inr h) = ⊎_elim (λ (l : Has is o). inl (inr l)) (λ (r : Has js o). inr r) (has_either is js o h)

-- queues by their numbers
abbrev pub queue_at : List QueueState → ℕ → QueueState
queue_at qs j = get_or qs j empty_queue_state

-- the object's item is in queue j with this ticket
abbrev pub InQueue : QueueState → ℕ → ObjectId → Type 0
InQueue q t o = Stands q.items.gone (items_of q.items) t o

-- the queue that is changed, and the others
changed_cases : (f : QueueState → QueueState) (qs : List QueueState) (j : ℕ) → ((j < length qs) × (changed_at f qs j (slice_get qs j) ≡ slice_set qs j (f (queue_at qs j)))) ⊎ ((length qs ≤ j) × (changed_at f qs j (slice_get qs j) ≡ qs))
changed_cases f qs j = ⊎_elim
    (λ (l : j < length qs). inl (l, ap (changed_at f qs j) (slice_get-get_or qs j empty_queue_state l)))
    (λ (g : length qs ≤ j). inr (g, ap (changed_at f qs j) (slice_get_past qs j g)))
    (past_or_within qs j)

pub changed_here : (f : QueueState → QueueState) (qs : List QueueState) (j : ℕ) → j < length qs → queue_at (changed_at f qs j (slice_get qs j)) j ≡ f (queue_at qs j)
changed_here f qs j inside = ⊎_elim
    (λ (l : (j < length qs) × (changed_at f qs j (slice_get qs j) ≡ slice_set qs j (f (queue_at qs j)))). ap (λ (l : List QueueState). queue_at l j) l.1 ∙ get_or-set_same qs j (f (queue_at qs j)) empty_queue_state l.0)
    (λ (g : (length qs ≤ j) × (changed_at f qs j (slice_get qs j) ≡ qs)). let past = g.0 in absurd (omega (arith, past, inside)))
    (changed_cases f qs j)

pub changed_else : (f : QueueState → QueueState) (qs : List QueueState) (j i : ℕ) → i ≢ j → queue_at (changed_at f qs j (slice_get qs j)) i ≡ queue_at qs i
changed_else f qs j i apart = ⊎_elim
    (λ (l : (j < length qs) × (changed_at f qs j (slice_get qs j) ≡ slice_set qs j (f (queue_at qs j)))). ap (λ (l : List QueueState). queue_at l i) l.1 ∙ get_or-set_other qs j i (f (queue_at qs j)) empty_queue_state apart)
    (λ (g : (length qs ≤ j) × (changed_at f qs j (slice_get qs j) ≡ qs)). ap (λ (l : List QueueState). queue_at l i) g.1)
    (changed_cases f qs j)

pub changed_length : (f : QueueState → QueueState) (qs : List QueueState) (j : ℕ) → length (changed_at f qs j (slice_get qs j)) ≡ length qs
changed_length f qs j = ⊎_elim
    (λ (l : (j < length qs) × (changed_at f qs j (slice_get qs j) ≡ slice_set qs j (f (queue_at qs j)))). ap length l.1 ∙ length-set qs j (f (queue_at qs j)))
    (λ (g : (length qs ≤ j) × (changed_at f qs j (slice_get qs j) ≡ qs)). ap length g.1)
    (changed_cases f qs j)

-- the items of a queue after a change
pub items_sealed : (q : Queue (Item Unit)) → q.ready ≡ [] → q.waiting ≡ [] → items_of (sealed q) ≡ items_of q
items_sealed q no_ready no_waiting =
    ap (λ (r : Items). r ++ q.fresh ++ []) no_ready ∙ append-nil q.fresh
    ∙ sym (ap (λ (r : Items). r ++ q.waiting ++ q.fresh) no_ready ∙ ap (λ (r : Items). r ++ q.fresh) no_waiting)

pub items_advanced : (q : Queue (Item Unit)) (seq : ℕ) → items_of (after_advance q seq) ≡ items_of q
items_advanced q seq = by (is_due q.cookie seq)
  where
    by : (b : Bool) → items_of (cond b (record q { ready = q.ready ++ q.waiting; waiting = []; cookie = None }) q) ≡ items_of q
    by true = ap (λ (r : Items). r ++ q.fresh) (append-nil (q.ready ++ q.waiting))
    by false = refl

pub items_pushed : (q : Queue (Item Unit)) (i : Item Unit) → items_of (pushed q i) ≡ items_of q ++ i ∷ []
items_pushed q i = sym (append_assoc (q.ready ++ q.waiting) q.fresh (i ∷ []))
