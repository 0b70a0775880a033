-- What a retirement, a queueing and a run make of what is known of objects.
use Rattle.rcu_judge.proofs.Cited.{arith, eq-eqb, ◌≡◌, ℕ, Bool, true, false, ◌&&◌, ◌==◌, ◌↔◌, List, ◌∷◌, is_some, Option, Some, None, refl, sym, ap, ◌∙◌, ObjectId, Retire, Queue, State, IsSuccessor, after, start, has_object, HasObject, at_object, at_object_same, at_object_other, decide, none_some}
use Rattle.rcu_judge.specs.declared.object.Stage.{Stage}
use Rattle.rcu_judge.specs.declared.object.Stage.TheVariants.{Cut as IsCut, Retired, Queued}
use Rattle.rcu_judge.specs.declared.object.ObjectState.{ObjectState}
use Rattle.rcu_judge.specs.Objects.{is_linked, is_cut, is_retired, is_queued, says, says_linked, after_of, Shows, FindsWaiting}
use Rattle.rcu_judge.proofs.Members.{has_more}
use Rattle.rcu_judge.proofs.ObjectsStores.{has_past}

cut_unlinked : (x y : Stage) → is_linked x ≡ false → is_linked y ≡ false → is_cut x ≡ is_cut y
cut_unlinked x y a b = grind arith

module _ (head : ℕ → Option ObjectId) (state : ObjectId → Option ObjectState) (now : State) (moments tickets : ObjectId → ℕ) (k : Shows head state now.chain now.used now.cut now.successor now.retired now.queued now.reclaimed moments tickets) (o : ObjectId) (t : ObjectState) (is : state o ≡ Some t) where
  -- the object stands in the list, or not, as the test of its stage says
  pub told : (test : Stage → Bool) (xs : List ObjectId) → ((p : ObjectId) → says test (state p) ≡ has_object xs p) → test t.stage ≡ has_object xs o
  told test xs was = ap (says test) (sym is) ∙ was o

  pub may_retire : t.stage ≡ IsCut → HasObject now.cut o × (¬ HasObject now.retired o)
  may_retire e = grind (arith, told is_cut now.cut k.was_cut, told is_retired now.retired k.was_retired)

  pub shows_retired : (moment : ℕ) → t.stage ≡ IsCut →
      let later : State = after now (Retire o) in Shows head (at_object o (Some (record t { stage = Retired moment })) state) later.chain later.used later.cut later.successor later.retired later.queued later.reclaimed (at_object o moment moments) tickets
  shows_retired moment e = grind (arith, decide, at_object_same, at_object_other, has_more, has_past)

  pub may_queue : (moment : ℕ) → t.stage ≡ Retired moment → HasObject now.retired o × (¬ HasObject now.queued o)
  may_queue moment e = grind (arith, told is_retired now.retired k.was_retired, told is_queued now.queued k.was_queued)

  pub shows_queued : (moment ticket queue : ℕ) → t.stage ≡ Retired moment →
      let later : State = after now (Queue o queue) in Shows head (at_object o (Some (record t { stage = Queued moment ticket })) state) later.chain later.used later.cut later.successor later.retired later.queued later.reclaimed moments (at_object o ticket tickets)
  shows_queued moment ticket queue e = grind (arith, decide, at_object_same, at_object_other, has_more, has_past)

  pub found_waiting : (moment ticket : ℕ) → t.stage ≡ Queued moment ticket → (¬ HasObject now.reclaimed o) → FindsWaiting now moments tickets o (Some (record { moment = moment; ticket = ticket }))
  found_waiting moment ticket e not_run = grind (arith, told is_queued now.queued k.was_queued, k.moment o moment, k.ticket o ticket)

  pub found_successor : HasObject now.used o × ((other : Option ObjectId) → (t.after ≡ other) ↔ IsSuccessor now o other)
  found_successor = (
    sym (k.known o) ∙ ap is_some is,
    λ other. (
      λ e. record {
        while_linked = λ c h. sym (k.nexts c o h) ∙ ap after_of is ∙ e;
        once_cut = λ h. sym (k.successors o h) ∙ ap after_of is ∙ e;
      },
      back other,
    ),
  )
    where
      cut_else : (x : Stage) → is_linked x ≡ false → is_cut x ≡ true
      cut_else x e = cut_unlinked x IsCut e refl

      back : (other : Option ObjectId) → IsSuccessor now o other → t.after ≡ other
      back other n = by (is_linked t.stage) refl
        where
          by : (b : Bool) → is_linked t.stage ≡ b → t.after ≡ other
          by true e =
              let h : HasObject (now.chain t.chain) o = sym (k.linked t.chain o) ∙ ap (says_linked t.chain) is ∙ ap (λ (b : Bool). b && (t.chain == t.chain)) e ∙ eq-eqb t.chain t.chain refl in
              sym (ap after_of is) ∙ k.nexts t.chain o h ∙ n.while_linked t.chain h
          by false e =
              let h : HasObject now.cut o = sym (told is_cut now.cut k.was_cut) ∙ cut_else t.stage e in
              sym (ap after_of is) ∙ k.successors o h ∙ n.once_cut h

-- nothing is known at the start
pub shows_nothing : (head : ℕ → Option ObjectId) (state : ObjectId → Option ObjectState) (moments tickets : ObjectId → ℕ) → ((c : ℕ) → head c ≡ None) → ((o : ObjectId) → state o ≡ None) →
    Shows head state start.chain start.used start.cut start.successor start.retired start.queued start.reclaimed moments tickets
shows_nothing head state moments tickets no_head no_state = grind (arith, none_some)

-- a callback runs
pub shows_run : (head : ℕ → Option ObjectId) (state : ObjectId → Option ObjectState) (now : State) (moments tickets : ObjectId → ℕ) (o : ObjectId) → HasObject now.queued o →
    Shows head state now.chain now.used now.cut now.successor now.retired now.queued now.reclaimed moments tickets →
    Shows head state now.chain now.used now.cut now.successor now.retired now.queued (o ∷ now.reclaimed) moments tickets
shows_run head state now moments tickets o queued k = grind (arith, decide, has_past)
