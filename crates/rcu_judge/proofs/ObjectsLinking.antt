-- What a store into a chain keeps of what is known of objects.
use Rattle.rcu_judge.proofs.Cited.{option_map, and_parts, eqb-true, eq-eqb, ne_eqb, cases_eq, cond, arith, ◌≡◌, ◌≢◌, ◌⊎◌, inl, inr, ℕ, ◌==◌, Bool, true, false, List, is_some, Option, Some, None, refl, sym, ap, ◌∙◌, subst, true≢false, option_or, ObjectId, has_object, HasObject, In, in_objects, has_object_in, at_number_same, at_number_other, Linking, IsPlace, follows, follows_has, none_some, decide_place, Spliced, ChainKept, Written, chain_framed, chain_spliced}
use Rattle.rcu_judge.specs.declared.object.Stage.{Stage}
use Rattle.rcu_judge.specs.declared.object.Stage.TheVariants.{Linked, Cut as IsCut}
use Rattle.rcu_judge.specs.declared.object.ObjectState.{ObjectState}
use Rattle.rcu_judge.specs.declared.object.Splice.{Splice}
use Rattle.rcu_judge.specs.Objects.{is_linked, is_cut, is_retired, is_queued, moment_of, ticket_of, says, number_in, says_linked, after_of, before_of, LeadsTo, Shows, stored, spliced_heads, linked_states, marked_states, left_states, entered, spliced_states}
use Rattle.rcu_judge.proofs.ObjectsTables.{stored_at, at_tells, written_is, entered_same, entered_other}

-- tests
pub not_in : (xs : List ObjectId) (o : ObjectId) → ¬ In xs o → has_object xs o ≡ false
not_in xs o out = grind (arith, in_objects)

same_has : (xs ys : List ObjectId) (o : ObjectId) → (In xs o → In ys o) → (In ys o → In xs o) → has_object xs o ≡ has_object ys o
same_has xs ys o on back = grind (arith, has_object_in, in_objects, not_in)

-- what a state that says so is
pub linked_says : (c : ℕ) (x : Option ObjectState) → says_linked c x ≡ true → (t : ObjectState) × (x ≡ Some t) × (t.stage ≡ Linked) × (t.chain ≡ c)
linked_says c None e = absurd (true≢false (sym e))
linked_says c (Some t) e = let a = and_parts (is_linked t.stage) (t.chain == c) e in (t, refl, grind (arith, a), eqb-true t.chain c a.1)

-- the head of a chain, or the link of an object
abbrev pub word_in : (ℕ → Option ObjectId) → (ObjectId → Option ObjectState) → ℕ → Option ObjectId → Option ObjectId
word_in head state c None = head c
word_in head state c (Some o) = after_of (state o)

pub leads : (xs : List ObjectId) (p : Option ObjectId) (o : ObjectId) → LeadsTo xs p o → IsPlace xs p × (follows xs p ≡ Some o)
leads xs p o h = grind (arith, in_objects)

leads_back : (xs : List ObjectId) (p : Option ObjectId) (o : ObjectId) → IsPlace xs p → follows xs p ≡ Some o → LeadsTo xs p o
leads_back xs p o h e = grind (arith, has_object_in)

-- the heads that a store leaves
head_kept : (head : ℕ → Option ObjectId) (c d : ℕ) (b value : Option ObjectId) → b ≢ None → stored head c b value d ≡ head d
head_kept head c d b value apart = grind arith

head_else : (head : ℕ → Option ObjectId) (c d : ℕ) (b value : Option ObjectId) → d ≢ c → stored head c b value d ≡ head d
head_else head c d b value apart = grind (arith, at_number_other)

-- what the machine's lists are after the store
pub record Moves (chain chain' : ℕ → List ObjectId) (used used' cut cut' : List ObjectId) (successor successor' : ObjectId → Option ObjectId) (s : Splice) (ys : List ObjectId) : Type 0 where
  pub chain_is : chain' s.chain ≡ ys
  pub chain_else : (d : ℕ) → d ≢ s.chain → chain' d ≡ chain d
  pub used_new : (o : ObjectId) → s.enters ≡ Some o → HasObject used' o
  pub used_else : (o : ObjectId) → s.enters ≢ Some o → has_object used' o ≡ has_object used o
  pub cut_new : (o : ObjectId) → s.leaves ≡ Some o → HasObject cut' o × (successor' o ≡ s.after)
  pub cut_else : (o : ObjectId) → s.leaves ≢ Some o → (has_object cut' o ≡ has_object cut o) × (successor' o ≡ successor o)

-- what a store makes of the state of an object that does not enter
abbrev became : Splice → ObjectId → ObjectState → ObjectState
became s o t = record { chain = t.chain; before = cond (stored_at s.after o) (option_or s.enters s.before) t.before; after = cond (stored_at s.before o) (option_or s.enters s.after) t.after; stage = cond (stored_at s.leaves o) IsCut t.stage }

spliced_is : (state : ObjectId → Option ObjectState) (s : Splice) (o : ObjectId) → s.enters ≢ Some o → spliced_states state s o ≡ option_map (became s o) (state o)
spliced_is state s o n =
    let one = written_is state s.before (λ x. record x { after = option_or s.enters s.after }) o in
    let two = written_is (linked_states state s) s.after (λ x. record x { before = option_or s.enters s.before }) o in
    let three = written_is (marked_states (linked_states state s) s) s.leaves (λ x. record x { stage = IsCut }) o in
    entered_other (left_states (marked_states (linked_states state s) s) s) s.enters _ o n ∙ three ∙ grind (arith, one, two)

new_became : (state : ObjectId → Option ObjectState) (s : Splice) (o : ObjectId) → s.enters ≡ Some o → spliced_states state s o ≡ Some (record { chain = s.chain; before = s.before; after = s.after; stage = Linked })
new_became state s o e = entered_same (left_states (marked_states (linked_states state s) s) s) s.enters _ o e

-- views of a state
module _ (state : ObjectId → Option ObjectState) (s : Splice) (o : ObjectId) (n : s.enters ≢ Some o) where
  some_same : is_some (spliced_states state s o) ≡ is_some (state o)
  some_same = grind (arith, spliced_is state s o n)

  after_same : s.before ≢ Some o → after_of (spliced_states state s o) ≡ after_of (state o)
  after_same b = grind (arith, spliced_is state s o n, at_tells s.before o)

  before_same : s.after ≢ Some o → before_of (spliced_states state s o) ≡ before_of (state o)
  before_same a = grind (arith, spliced_is state s o n, at_tells s.after o)

  keeps : {X : Type 0} (view : Option ObjectState → X) → ((t : ObjectState) (a b : Option ObjectId) → view (Some (record t { after = a; before = b })) ≡ view (Some t)) →
      s.leaves ≢ Some o → view (spliced_states state s o) ≡ view (state o)
  keeps view alike m = grind (arith, spliced_is state s o n, at_tells s.leaves o)

module _ (head : ℕ → Option ObjectId) (state : ObjectId → Option ObjectState) (chain : ℕ → List ObjectId) (used cut : List ObjectId) (successor : ObjectId → Option ObjectId) (retired queued reclaimed : List ObjectId) (moments tickets : ObjectId → ℕ) (k : Shows head state chain used cut successor retired queued reclaimed moments tickets) (l : Linking chain used cut retired) where
  known_in : (c : ℕ) (o : ObjectId) → In (chain c) o → (t : ObjectState) × (state o ≡ Some t) × (t.stage ≡ Linked) × (t.chain ≡ c)
  known_in c o h = linked_says c (state o) (k.linked c o ∙ has_object_in (chain c) o h)

  pub chain_known : (c : ℕ) → ChainKept (chain c) (word_in head state c) (λ o. before_of (state o))
  chain_known c = record {
    once = l.once c;
    words = words;
    befores = λ o h. leads (chain c) (before_of (state o)) o (k.befores c o (has_object_in (chain c) o h));
  }
    where
      words : (q : Option ObjectId) → IsPlace (chain c) q → word_in head state c q ≡ follows (chain c) q
      words q h = grind (arith, has_object_in)

  module _ (s : Splice) (ys : List ObjectId) (sp : Spliced (chain s.chain) ys s.before s.after s.leaves s.enters) (fresh : (m : ObjectId) → s.enters ≡ Some m → state m ≡ None) where
    abbrev newly : ObjectState
    newly = record { chain = s.chain; before = s.before; after = s.after; stage = Linked }

    abbrev s4 : ObjectId → Option ObjectState
    s4 = spliced_states state s

    abbrev head' : ℕ → Option ObjectId
    head' = spliced_heads head s

    before_has : (o : ObjectId) → s.before ≡ Some o → In (chain s.chain) o
    before_has o e = subst (IsPlace (chain s.chain)) e sp.place

    after_has : (o : ObjectId) → s.after ≡ Some o → In (chain s.chain) o
    after_has o e = by s.leaves refl
      where
        by : (x : Option ObjectId) → s.leaves ≡ x → In (chain s.chain) o
        by None f = follows_has (chain s.chain) s.before o (sp.was ∙ ap (λ (x : Option ObjectId). option_or x s.after) f ∙ e)
        by (Some x) f = follows_has (chain s.chain) (Some x) o ((sp.left x f).1 ∙ e)

    left_has : (o : ObjectId) → s.leaves ≡ Some o → In (chain s.chain) o
    left_has o e = (sp.left o e).0

    enters_out : (d : ℕ) (o : ObjectId) → s.enters ≡ Some o → ¬ In (chain d) o
    enters_out d o e h = none_some ((known_in d o h).0) (sym (fresh o e) ∙ (known_in d o h).1)

    before_stays : (o : ObjectId) → s.before ≡ Some o → s.leaves ≢ Some o
    before_stays o e f = grind (arith, enters_out, left_has)

    -- an object of another chain, or of none, that does not enter
    home : (d : ℕ) (o : ObjectId) → d ≢ s.chain → In (chain d) o → ¬ In (chain s.chain) o
    home d o apart h g = apart (l.one_chain d s.chain o h g)

    after_stored : (o : ObjectId) → s.before ≡ Some o → after_of (s4 o) ≡ option_or s.enters s.after
    after_stored o e =
        let t = known_in s.chain o (before_has o e) in
        ap after_of (spliced_is state s o (λ f. enters_out s.chain o f (before_has o e)) ∙ ap (option_map (became s o)) t.1) ∙ grind (arith, at_tells s.before o)

    before_marked : (o : ObjectId) → s.enters ≢ Some o → s.after ≡ Some o → before_of (s4 o) ≡ option_or s.enters s.before
    before_marked o n e = let t = known_in s.chain o (after_has o e) in ap before_of (spliced_is state s o n ∙ ap (option_map (became s o)) t.1) ∙ grind (arith, at_tells s.after o)

    left_is : (o : ObjectId) → s.enters ≢ Some o → s.leaves ≡ Some o → (t : ObjectState) × (s4 o ≡ Some t) × (t.stage ≡ IsCut)
    left_is o n e = let t = known_in s.chain o (left_has o e) in (became s o t.0, spliced_is state s o n ∙ ap (option_map (became s o)) t.1, grind (arith, at_tells s.leaves o))

    -- the entering object with its link, before the store
    abbrev ready : ObjectId → Option ObjectState
    ready = entered state s.enters newly

    writes : Written (word_in head ready s.chain) (word_in head' s4 s.chain) (λ o. before_of (ready o)) (λ o. before_of (s4 o)) s.before s.after s.enters
    writes = grind (arith, entered_same, before_marked, before_same state s, entered_other, at_number_same, after_stored, after_same state s, head_kept, decide_place)

    chain_ready : ChainKept (chain s.chain) (word_in head ready s.chain) (λ o. before_of (ready o))
    chain_ready = grind (arith, chain_framed, entered_other, enters_out, chain_known)

    module _ (chain' : ℕ → List ObjectId) (used' cut' : List ObjectId) (successor' : ObjectId → Option ObjectId) (mv : Moves chain chain' used used' cut cut' successor successor' s ys) where
      chains' : (c : ℕ) → (c ≡ s.chain) ⊎ (c ≢ s.chain) → ChainKept (chain' c) (word_in head' s4 c) (λ o. before_of (s4 o))
      chains' c (inl e) =
          subst (λ (d : ℕ). ChainKept (chain' d) (word_in head' s4 d) (λ o. before_of (s4 o))) (sym e)
          (subst (λ (xs : List ObjectId). ChainKept xs (word_in head' s4 s.chain) (λ o. before_of (s4 o))) (sym mv.chain_is)
          (chain_spliced (chain s.chain) ys (word_in head ready s.chain) (word_in head' s4 s.chain) (λ o. before_of (ready o)) (λ o. before_of (s4 o)) s.before s.after s.leaves s.enters sp writes chain_ready))
      chains' c (inr apart) =
          subst (λ (xs : List ObjectId). ChainKept xs (word_in head' s4 c) (λ o. before_of (s4 o))) (sym (mv.chain_else c apart))
          (chain_framed (chain c) (word_in head state c) (word_in head' s4 c) (λ o. before_of (state o)) (λ o. before_of (s4 o)) words
          (λ o h. before_same state s o (λ e. enters_out c o e h) (λ e. home c o apart h (after_has o e))) (chain_known c))
        where
          words : (q : Option ObjectId) → IsPlace (chain c) q → word_in head' s4 c q ≡ word_in head state c q
          words q h = grind (arith, head_else, after_same state s, enters_out, home, before_has)

      at_chain : (c : ℕ) → ChainKept (chain' c) (word_in head' s4 c) (λ o. before_of (s4 o))
      at_chain c = chains' c (cases_eq c s.chain)

      has_else : (c : ℕ) (o : ObjectId) → c ≢ s.chain → has_object (chain c) o ≡ has_object (chain' c) o
      has_else c o apart = ap (λ (xs : List ObjectId). has_object xs o) (sym (mv.chain_else c apart))

      at_home : (c : ℕ) (o : ObjectId) → c ≡ s.chain → In ys o → In (chain' c) o
      at_home c o e h = subst (λ d. In (chain' d) o) (sym e) (subst (λ (xs : List ObjectId). In xs o) (sym mv.chain_is) h)

      from_home : (c : ℕ) (o : ObjectId) → c ≡ s.chain → In (chain' c) o → In ys o
      from_home c o e h = subst (λ (xs : List ObjectId). In xs o) mv.chain_is (subst (λ d. In (chain' d) o) e h)

      linked' : (c : ℕ) (o : ObjectId) → (s.enters ≡ Some o) ⊎ (s.enters ≢ Some o) → (s.leaves ≡ Some o) ⊎ (s.leaves ≢ Some o) → (c ≡ s.chain) ⊎ (c ≢ s.chain) → says_linked c (s4 o) ≡ has_object (chain' c) o
      linked' c o (inl e) out (inl same) = grind (arith, new_became state s o e, eq-eqb s.chain c (sym same), has_object_in (chain' c) o (at_home c o same (sp.entered o e).0))
      linked' c o (inl e) out (inr apart) = grind (arith, new_became state s o e, ne_eqb s.chain c (λ f. apart (sym f)), not_in (chain c) o (enters_out c o e), has_else c o apart)
      linked' c o (inr n) (inl e) (inl same) = grind (arith, left_is o n e, not_in (chain' c) o, sp.back o, from_home c o same)
      linked' c o (inr n) (inl e) (inr apart) = grind (arith, left_is o n e, not_in (chain c) o, home c o apart, left_has o e, has_else c o apart)
      linked' c o (inr n) (inr m) (inl same) =
          keeps state s o n (says_linked c) (λ t a b. refl) m ∙ k.linked c o
          ∙ same_has (chain c) (chain' c) o (λ h. at_home c o same (sp.on o (subst (λ d. In (chain d) o) same h) m)) (λ h. let back = sp.back o (from_home c o same h) in grind (arith, back))
      linked' c o (inr n) (inr m) (inr apart) = keeps state s o n (says_linked c) (λ t a b. refl) m ∙ k.linked c o ∙ has_else c o apart

      successors' : (o : ObjectId) → HasObject cut' o → (s.leaves ≡ Some o) ⊎ (s.leaves ≢ Some o) → after_of (s4 o) ≡ successor' o
      successors' o h (inl e) =
          let g = left_has o e in
          after_same state s o (λ f. enters_out s.chain o f g) (λ f. before_stays o f e) ∙ k.nexts s.chain o (has_object_in (chain s.chain) o g) ∙ (sp.left o e).1 ∙ sym (mv.cut_new o e).1
      successors' o h (inr m) =
          let was : HasObject cut o = sym (mv.cut_else o m).0 ∙ h in
          let says_so : says is_cut (state o) ≡ true = k.was_cut o ∙ was in
          after_same state s o (λ f. true≢false (sym says_so ∙ ap (says is_cut) (fresh o f))) (λ f. l.linked_not_cut s.chain o (before_has o f) (in_objects cut o was)) ∙ k.successors o was ∙ sym (mv.cut_else o m).1

      known' : (o : ObjectId) → (s.enters ≡ Some o) ⊎ (s.enters ≢ Some o) → is_some (s4 o) ≡ has_object used' o
      known' o h = grind (arith, new_became state s o, some_same state s o, mv.used_new o, mv.used_else o, k.known o)

      cut_now : (o : ObjectId) → (s.enters ≡ Some o) ⊎ (s.enters ≢ Some o) → (s.leaves ≡ Some o) ⊎ (s.leaves ≢ Some o) → says is_cut (s4 o) ≡ has_object cut' o
      cut_now o (inl e) out = grind (arith, new_became state s o e, fresh o e, k.was_cut o, mv.cut_else o, enters_out s.chain o e, left_has o)
      cut_now o (inr n) (inl e) = grind (arith, left_is o n e, mv.cut_new o e)
      cut_now o (inr n) (inr m) = keeps state s o n (says is_cut) (λ t a b. refl) m ∙ k.was_cut o ∙ sym (mv.cut_else o m).0

      -- what is said alike of a linked, a cut and an unknown object
      says_kept : (test : Stage → Bool) → test Linked ≡ false → test IsCut ≡ false → (o : ObjectId) → says test (s4 o) ≡ says test (state o)
      says_kept test a b o = grind (arith, decide_place s.enters (Some o), decide_place s.leaves (Some o), new_became state s o, fresh o, left_is o, left_has o, known_in s.chain o, λ (n : s.enters ≢ Some o). keeps state s o n (says test) (λ t a b. refl))

      number_kept : (number : Stage → Option ℕ) → number Linked ≡ None → number IsCut ≡ None → (o : ObjectId) → number_in number (s4 o) ≡ number_in number (state o)
      number_kept number a b o = grind (arith, decide_place s.enters (Some o), decide_place s.leaves (Some o), new_became state s o, fresh o, left_is o, left_has o, known_in s.chain o, λ (n : s.enters ≢ Some o). keeps state s o n (number_in number) (λ t a b. refl))

      pub shows_spliced : Shows head' s4 chain' used' cut' successor' retired queued reclaimed moments tickets
      shows_spliced = record {
        firsts = λ c. (at_chain c).words None tt;
        nexts = λ c o h. (at_chain c).words (Some o) (in_objects (chain' c) o h);
        befores = λ c o h. let b = (at_chain c).befores o (in_objects (chain' c) o h) in leads_back (chain' c) (before_of (s4 o)) o b.0 b.1;
        successors = λ o h. successors' o h (decide_place s.leaves (Some o));
        linked = λ c o. linked' c o (decide_place s.enters (Some o)) (decide_place s.leaves (Some o)) (cases_eq c s.chain);
        known = λ o. known' o (decide_place s.enters (Some o));
        was_cut = λ o. cut_now o (decide_place s.enters (Some o)) (decide_place s.leaves (Some o));
        was_retired = λ o. says_kept is_retired refl refl o ∙ k.was_retired o;
        was_queued = λ o. says_kept is_queued refl refl o ∙ k.was_queued o;
        was_run = k.was_run;
        moment = λ o m e. k.moment o m (sym (number_kept moment_of refl refl o) ∙ e);
        ticket = λ o t e. k.ticket o t (sym (number_kept ticket_of refl refl o) ∙ e);
      }
