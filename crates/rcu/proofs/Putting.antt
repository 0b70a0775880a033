-- The first record of a chain, once its writer has published one.
use Rattle.rcu.proofs.Cited.{Gv, ◌≡◌, ℕ, Bool, List, [], ◌∷◌, length, Option, Some, None, IfNone, IfSome, slice_get, refl, sym, ap, ◌∙◌, subst, inl, arith, ObjectId, first_of, replaced, at_object_same, some_is, none_some, LiveEvent, Object, Push, Queue, Replace, Retire, objects_of, Log, Begins, Has, payload_of, words_in, begins_trans, pushed_note, replaced_note, View, IsAfter, Stays, AreAsKnown, IsWriter, own_in, Queues, Publishes, list_in, Ghosts, stays_makes}
use Rattle.rcu.specs.Slots.{PushesValue, PutsValue, ReplacesValue, any_change, first_in}
use Rattle.rcu.proofs.Hearing.{still_after}

-- four words are the words of their payload
pub four_words : (w : List ℕ) → length w ≡ 4 → words_in w ≡ w
four_words [] e = absurd (omega arith)
four_words (x ∷ []) e = absurd (omega arith)
four_words (x ∷ y ∷ []) e = absurd (omega arith)
four_words (x ∷ y ∷ z ∷ []) e = absurd (omega arith)
four_words (x ∷ y ∷ z ∷ u ∷ []) e = refl
four_words (x ∷ y ∷ z ∷ u ∷ t ∷ ts) e = absurd (omega arith)

-- what takes the place of the first object is the first one
pub first_replaced : (o n : ObjectId) (os : List ObjectId) → slice_get os 0 ≡ Some o → first_of (replaced o n os) ≡ Some n
first_replaced o n [] e = absurd (none_some o e)
first_replaced o n (x ∷ xs) e = subst (λ (y : ObjectId). first_of (replaced y n (x ∷ xs)) ≡ Some n) (some_is x o e) (ap Some (at_object_same x n (λ p. p)))

-- the first object of a list is at its first index
first_at : (o : ObjectId) (os : List ObjectId) → slice_get os 0 ≡ Some o → first_of os ≡ Some o
first_at o [] e = e
first_at o (x ∷ xs) e = e

-- a list of no objects has no first one
pub none_first : (os : List ObjectId) → length os ≡ 0 → first_of os ≡ None
none_first [] e = refl
none_first (x ∷ xs) e = absurd (omega arith)

-- a writer knows the list of its chain, and so the first object
pub was_listed : (log : Log) (v : View) (c : ℕ) → IsWriter v → (own_in v.chains).chain ≡ c → AreAsKnown log v.chains → (objects_of log).chain c ≡ list_in v
was_listed log v c writer number known = subst (λ (d : ℕ). (objects_of log).chain d ≡ list_in v) number (subst (AreAsKnown log) writer known).0.0

pub was_first : (log : Log) (v : View) (c : ℕ) (o : ObjectId) → IsWriter v → (own_in v.chains).chain ≡ c → AreAsKnown log v.chains → slice_get (list_in v) 0 ≡ Some o → first_in c log o
was_first log v c o writer number known at = ap first_of (was_listed log v c writer number known) ∙ first_at o (list_in v) at

-- where nothing is there it is so, where what was so makes it so; and of what is there
pub if_none : {X : Type 0} (found : Option X) (so su : Type 0) → (so → su) → IfNone found so → IfNone found su
if_none None so su f h = f h
if_none (Some x) so su f h = tt

pub if_some : {X : Type 0} (found : Option X) (so su : X → Type 0) → ((x : X) → so x → su x) → IfSome found so → IfSome found su
if_some None so su f h = tt
if_some (Some x) so su f h = f x h

-- what is queued was published before
pub queued_later : (qsbr : Bool) (allows : Log → LiveEvent → Type 0) (at : Log) (o : ObjectId) (queue given : ℕ) (callback : Gv) (log : Log) → Queues qsbr allows (Begins at) o queue given callback log → Begins at log
queued_later qsbr allows at o queue given callback log q =
    let within : Begins q.within log = (Object (Queue o queue q.id) ∷ [], q.wrote) in
    let retired : Begins q.before (Object (Retire o) ∷ q.before) = (Object (Retire o) ∷ [], refl) in
    begins_trans at q.before log q.at (begins_trans q.before (Object (Retire o) ∷ q.before) log retired (begins_trans (Object (Retire o) ∷ q.before) q.within log q.retired within))

module _ (qsbr : Bool) (allows : Log → LiveEvent → Type 0) (writer : View) (seen heard owner : Log) where
  -- what was published came after all that the caller knew
  pub after_all : (e : LiveEvent) (log : Log) → Publishes qsbr allows writer seen heard owner e log → IsAfter qsbr allows seen heard log
  after_all e log p =
      let since : Begins p.before log = (e ∷ [], p.wrote) in record {
        after_seen = begins_trans seen p.before log p.after.after_caller.0 since;
        after_heard = begins_trans heard p.before log p.after.after_caller.1 since;
        run = p.run;
      }

  -- the object of a push or of a replacement has its words in the log
  pub pushed_words : (c : ℕ) (o : ObjectId) (cell : ℕ) (words : List ℕ) (log : Log) → length words ≡ 4 → Publishes qsbr allows writer seen heard owner (Object (Push c o cell words)) log → payload_of log o ≡ words
  pushed_words c o cell words log four p =
      ap (λ (x : ℕ × List ℕ). words_in x.1) (pushed_note qsbr allows log c o cell words p.run (subst (Has (Object (Push c o cell words))) (sym p.wrote) (inl refl))) ∙ four_words words four

  pub replaced_words : (c : ℕ) (q o : ObjectId) (cell : ℕ) (words : List ℕ) (log : Log) → length words ≡ 4 → Publishes qsbr allows writer seen heard owner (Object (Replace c q o cell words)) log → payload_of log o ≡ words
  replaced_words c q o cell words log four p =
      ap (λ (x : ℕ × List ℕ). words_in x.1) (replaced_note qsbr allows log c q o cell words p.run (subst (Has (Object (Replace c q o cell words))) (sym p.wrote) (inl refl))) ∙ four_words words four

-- a caller that stood as it stood when the call was made put all that was put in the call
module _ {W S : Type 0} (w : Ghosts W S) (qsbr : Bool) (old was new : W) (c : ℕ) (words : List ℕ) (stays : Stays w old was) (later : Begins (w.heard old) (w.heard was)) where
  pub puts_after : PutsValue w qsbr was new c words → PutsValue w qsbr old new c words
  puts_after p = record {
    at = p.at;
    event = p.event;
    before = p.before;
    wrote = p.wrote;
    after = still_after qsbr any_change (w.seen old) (w.heard old) (w.seen was) (w.heard was) p.at stays.0 later p.after;
    told = p.told;
    made = stays_makes w old was new p.at stays p.made;
    object = p.object;
    first = p.first;
    has = p.has;
  }

  pub pushes_after : PushesValue w qsbr was new c words → PushesValue w qsbr old new c words
  unfolding puts_after
  pushes_after p = record { puts = puts_after p.puts; cell = p.cell; is = p.is; none = p.none }

  pub replaces_after : (queue ticket : ℕ) (callback : Gv) → ReplacesValue w qsbr was new c words queue ticket callback → ReplacesValue w qsbr old new c words queue ticket callback
  unfolding puts_after
  replaces_after queue ticket callback r = record { puts = puts_after r.puts; left = r.left; cell = r.cell; is = r.is; was = r.was; handed = r.handed }
