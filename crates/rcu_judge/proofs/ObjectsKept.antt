-- What is known of objects whose callbacks have not run, and that the others are known by their numbers.
use Rattle.rcu_judge.proofs.Cited.{arith, ◌≡◌, ◌⊎◌, ◌↔◌, ℕ, Bool, true, IsTrue, List, ◌∷◌, Option, Some, None, sym, ◌∙◌, subst, Has, ObjectId, State, HasObject, at_object, at_object_same, at_object_other, decide, decide_place, none_some}
use Rattle.rcu_judge.specs.declared.object.Stage.TheVariants.{Queued}
use Rattle.rcu_judge.specs.declared.object.ObjectState.{ObjectState}
use Rattle.rcu_judge.specs.declared.object.Splice.{Splice}
use Rattle.rcu_judge.specs.declared.objects.Objects.{Objects}
use Rattle.rcu_judge.specs.Objects.{heads_of, states_of, linked_state, Shows, AreKept, Knows, FindsSuccessor, FindsWaiting, written, entered, linked_states, marked_states, left_states, spliced_heads, spliced_states}
use Rattle.rcu_judge.proofs.ObjectsTables.{written_is, written_at, entered_same, entered_other}
use Rattle.rcu_judge.proofs.Members.{has_more}
use Rattle.rcu_judge.proofs.ObjectsStores.{has_past, linked_state_is}
use Rattle.rcu_judge.proofs.ObjectsStages.{found_successor, found_waiting}

-- writes keep that the states are those of the objects that were not run
module _ (reclaimed : List ObjectId) where
  pub kept_written : (state known : ObjectId → Option ObjectState) (q : Option ObjectId) (f : ObjectState → ObjectState) → AreKept state reclaimed known → AreKept (written state q f) reclaimed (written known q f)
  kept_written state known q f k = grind (arith, written_is state q f, written_is known q f)

  kept_entered : (state known : ObjectId → Option ObjectState) (q : Option ObjectId) (x : ObjectState) → ((o : ObjectId) → q ≡ Some o → ¬ HasObject reclaimed o) → AreKept state reclaimed known → AreKept (entered state q x) reclaimed (entered known q x)
  kept_entered state known q x fresh k = grind (arith, decide_place, entered_same, entered_other)

  pub kept_spliced : (state known : ObjectId → Option ObjectState) (s : Splice) → ((o : ObjectId) → s.enters ≡ Some o → ¬ HasObject reclaimed o) → AreKept state reclaimed known → AreKept (spliced_states state s) reclaimed (spliced_states known s)
  kept_spliced state known s fresh k =
      let one = kept_written state known s.before _ k in
      let two = kept_written (linked_states state s) (linked_states known s) s.after _ one in
      let three = kept_written (marked_states (linked_states state s) s) (marked_states (linked_states known s) s) s.leaves _ two in
      kept_entered (left_states (marked_states (linked_states state s) s) s) (left_states (marked_states (linked_states known s) s) s) s.enters _ fresh three

  -- the write of an object that is known
  pub kept_at : (state known : ObjectId → Option ObjectState) (o : ObjectId) (t : ObjectState) (f : ObjectState → ObjectState) → state o ≡ Some t → AreKept state reclaimed known → AreKept (at_object o (Some (f t)) state) reclaimed (written known (Some o) f)
  kept_at state known o t f is k = subst (λ (s : ObjectId → Option ObjectState). AreKept s reclaimed (written known (Some o) f)) (written_at state o t f is) (kept_written state known (Some o) f k)

  -- a callback runs
  pub kept_run : (state known : ObjectId → Option ObjectState) (o : ObjectId) → AreKept state reclaimed known → AreKept state (o ∷ reclaimed) (at_object o None known)
  kept_run state known o k = grind (arith, decide, at_object_same, at_object_other, has_more, has_past)

  pub past_run : (before after : List (ℕ × ℕ)) (o : ObjectId) → ((p : ObjectId) → HasObject reclaimed p ↔ Has before p.0) → ((n : ℕ) → Has after n ↔ ((o.0 ≡ n) ⊎ Has before n)) →
      (p : ObjectId) → HasObject (o ∷ reclaimed) p ↔ Has after p.0
  past_run before after o past puts p = grind (arith, decide, has_more, has_past)

-- what is known, by the tables
pub knows_at : (new : Objects) (later : State) (moments tickets : ObjectId → ℕ) (head : ℕ → Option ObjectId) (state known : ObjectId → Option ObjectState) (past : List (ℕ × ℕ)) →
    heads_of new.heads ≡ head → states_of new.known ≡ known → new.reclaimed ≡ past → AreKept state later.reclaimed known → ((o : ObjectId) → HasObject later.reclaimed o ↔ Has past o.0) →
    Shows head state later.chain later.used later.cut later.successor later.retired later.queued later.reclaimed moments tickets → Knows new later moments tickets
knows_at new later moments tickets head state known past heads states runs kept is shows = record {
  state = state;
  kept = subst (λ (k : ObjectId → Option ObjectState). AreKept state later.reclaimed k) (sym states) kept;
  past = λ o. subst (λ (r : List (ℕ × ℕ)). HasObject later.reclaimed o ↔ Has r o.0) (sym runs) (is o);
  shows = subst (λ (h : ℕ → Option ObjectId). Shows h state later.chain later.used later.cut later.successor later.retired later.queued later.reclaimed moments tickets) (sym heads) shows;
}

-- what is known after a store into a chain
pub knows_spliced : (old new : Objects) (now later : State) (moments tickets : ObjectId → ℕ) (k : Knows old now moments tickets) (s : Splice) →
    heads_of new.heads ≡ spliced_heads (heads_of old.heads) s → states_of new.known ≡ spliced_states (states_of old.known) s → new.reclaimed ≡ old.reclaimed → ((o : ObjectId) → s.enters ≡ Some o → ¬ HasObject now.reclaimed o) →
    Shows (spliced_heads (heads_of old.heads) s) (spliced_states k.state s) later.chain later.used later.cut later.successor later.retired later.queued now.reclaimed moments tickets → Knows new (record later { reclaimed = now.reclaimed }) moments tickets
knows_spliced old new now later moments tickets k s heads states runs fresh shows =
    knows_at new (record later { reclaimed = now.reclaimed }) moments tickets (spliced_heads (heads_of old.heads) s) (spliced_states k.state s) (spliced_states (states_of old.known) s) old.reclaimed
    heads states runs (kept_spliced now.reclaimed k.state (states_of old.known) s fresh k.kept) k.past shows

-- what the tables tell of an object
module _ (objects : Objects) (now : State) (moments tickets : ObjectId → ℕ) (k : Knows objects now moments tickets) (o : ObjectId) where
  pub found : (t : ObjectState) → states_of objects.known o ≡ Some t → k.state o ≡ Some t
  found t e = grind (arith, k.kept.here o, k.kept.gone o)

  -- whether it was used
  pub used_found : (t : ObjectState) → states_of objects.known o ≡ Some t → IsTrue true ↔ HasObject now.used o
  used_found t e = grind (arith, k.kept.here o, k.kept.gone o, k.shows.known o)

  pub used_run : (past : Bool) → (IsTrue past ↔ Has objects.reclaimed o.0) → states_of objects.known o ≡ None → IsTrue past ↔ HasObject now.used o
  used_run past told none = grind (arith, k.kept.here o, k.shows.known o, k.shows.was_queued o, k.shows.was_run o, k.past o)

  pub new_is : (¬ HasObject now.used o) → (k.state o ≡ None) × (¬ HasObject now.reclaimed o)
  new_is n = grind (arith, k.shows.known o, k.shows.was_queued o, k.shows.was_run o)

  -- whether it is linked
  pub linked_found : (c : ℕ) (t : ObjectState) → linked_state c (states_of objects.known o) ≡ Some t → linked_state c (k.state o) ≡ Some t
  linked_found c t e = grind (arith, linked_state_is c (states_of objects.known o) t e, k.kept.here o, k.kept.gone o)

  pub successor : (t : ObjectState) → states_of objects.known o ≡ Some t → FindsSuccessor now o (Some t.after)
  successor t e = found_successor (heads_of objects.heads) k.state now moments tickets k.shows o t (found t e)

  -- whether its callback is queued and was not run
  pub waits : (t : ObjectState) (moment ticket : ℕ) → states_of objects.known o ≡ Some t → t.stage ≡ Queued moment ticket → FindsWaiting now moments tickets o (Some (record { moment = moment; ticket = ticket }))
  waits t moment ticket e is = found_waiting (heads_of objects.heads) k.state now moments tickets k.shows o t (found t e) moment ticket is (λ r. none_some t (sym (k.kept.gone o r) ∙ e))
