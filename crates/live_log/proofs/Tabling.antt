-- Under the rule of tables a chain has keys or one directory, a named chain is reserved for its directory or left, a
-- chain that is not left is free, and one that a replaced directory named stays as it was while a section of then is
-- open.
use Rattle.live_log.proofs.Cited.{Bool, ◌≡◌, ◌≢◌, ◌⊎◌, ℕ, ◌+◌, ◌^◌, ◌<◌, List, [], ◌∷◌, ◌++◌, cond, true, false, refl, sym, ap, ◌∙◌, subst, inl, inr, ⊎_elim, arith, eq-eqb, ne_eqb, dite, some, ℕ_discrete, ObjectId, In, replaced, same_object, without_object, at_number_other, at_number_same, at_object_same, has_replaced, has_without_object, in_objects, object_tells, replaced_has, without_object_has}
use Rattle.live_log.specs.declared.event.ObjectEvent.TheVariants.{Push, Replace, Cut, Retire, Queue, Run}
use Rattle.live_log.specs.declared.event.LiveEvent.{LiveEvent}
use Rattle.live_log.specs.declared.event.LiveEvent.TheVariants.{Open, Close, SeqOdd, SeqEven, Present, ChainNote, CloseQueue, Object}
use Rattle.live_log.specs.Keys.{Falls, IsKeyed, keyed_event}
use Rattle.live_log.specs.Log.{Log, Begins, Has, HaveEnded, IsLiveRun, chain_note, record_of, open_of, state_of}
use Rattle.live_log.specs.Tables.{AreLeft, HasKey, HasKeys, IsDirectory, IsFree, IsNamed, IsReplaced, MayDirect, MayLeave, MayReserve, Names, Redirects, kind_of, reserved, tabled}
use Rattle.live_log.proofs.Falling.{LeavesFalling, all_fall}
use Rattle.live_log.proofs.Machine.{begins_trans, by_object, grows_log, kept_log, run_of}
use Rattle.live_log.proofs.Notes.{note_stays}
use Rattle.live_log.proofs.Places.{chain_used}

abbrev chain_in : Log → ℕ → List ObjectId
chain_in log = (state_of log).chain

-- a payload has a key or is a directory, and not both
one_kind : {A : Type 0} (x : ℕ × List ℕ) → HasKey x → IsDirectory x → A
one_kind x key is = let a : kind_of x ≡ 0 = key in let b : kind_of x ≡ 1 = is.0 in absurd (omega arith)

-- the one object of a list
only : (p o : ObjectId) → In (p ∷ []) o → p ≡ o
only p o (inl is) = is
only p o (inr h) = absurd h

replaced_one : (p o : ObjectId) (os : List ObjectId) → os ≡ p ∷ [] → replaced p o os ≡ o ∷ []
replaced_one p o os is = ap (replaced p o) is ∙ ⊎_elim
    (λ (y : (same_object p p ≡ true) × (p ≡ p)). ap (λ (b : Bool). cond b o p ∷ []) y.0)
    (λ (n : (same_object p p ≡ false) × (p ≢ p)). absurd (n.1 refl))
    (object_tells p p)

-- objects with one number are one
abbrev numbered : ℕ → ObjectId
numbered n = record { 0 = n }

object_is : (p o : ObjectId) → p.0 ≡ o.0 → p ≡ o
object_is p o is = ap numbered is

-- the chain has keys alone, or one directory
abbrev IsAlone : Log → ℕ → Type 0
IsAlone log c = (o : ObjectId) × (chain_in log c ≡ o ∷ []) × IsDirectory (record_of log o)

abbrev IsSorted : Log → ℕ → Type 0
IsSorted log c = HasKeys log c ⊎ IsAlone log c

keys_there : (log : Log) (c : ℕ) (o : ObjectId) → IsSorted log c → In (chain_in log c) o → HasKey (record_of log o) → HasKeys log c
keys_there log c o (inl keys) h key = keys
keys_there log c o (inr (p, is, directory)) h key = one_kind (record_of log o) key (subst (λ (q : ObjectId). IsDirectory (record_of log q)) (only p o (subst (λ (l : List ObjectId). In l o) is h)) directory)

alone_there : (log : Log) (c : ℕ) (o : ObjectId) → IsSorted log c → In (chain_in log c) o → IsDirectory (record_of log o) → chain_in log c ≡ o ∷ []
alone_there log c o (inl keys) h directory = one_kind (record_of log o) (keys o h) directory
alone_there log c o (inr (p, is, directory)) h directory' = is ∙ ap (λ (q : ObjectId). q ∷ []) (only p o (subst (λ (l : List ObjectId). In l o) is h))

module _ (qsbr : Bool) where
  noted : (e : LiveEvent) (log : Log) (c : ℕ) (o : ObjectId) → IsLiveRun qsbr tabled (e ∷ log) → In (chain_in log c) o → record_of (e ∷ log) o ≡ record_of log o
  noted e log c o run h = note_stays qsbr tabled log (e ∷ log) o (e ∷ [], refl) run (chain_used qsbr tabled log c o run.1 h)

  -- a chain that an event leaves as it was
  sorted_other : (e : LiveEvent) (log : Log) (c : ℕ) → IsLiveRun qsbr tabled (e ∷ log) → chain_in (e ∷ log) c ≡ chain_in log c → IsSorted log c → IsSorted (e ∷ log) c
  sorted_other e log c run same (inl keys) = inl (λ o h. let was = subst (λ (l : List ObjectId). In l o) same h in subst HasKey (sym (noted e log c o run was)) (keys o was))
  sorted_other e log c run same (inr (o, is, directory)) = inr (o, same ∙ is, subst IsDirectory (sym (noted e log c o run (subst (λ (l : List ObjectId). In l o) (sym is) (inl refl)))) directory)

  -- what stands in a chain after an event that changes it
  module _ (log : Log) (d : ℕ) (p o : ObjectId) (i : ℕ) (w : List ℕ) where
    pushed_list : chain_in (Object (Push d o i w) ∷ log) d ≡ o ∷ chain_in log d
    pushed_list = at_number_same d (o ∷ chain_in log d) (chain_in log)

    replaced_list : chain_in (Object (Replace d p o i w) ∷ log) d ≡ replaced p o (chain_in log d)
    replaced_list = at_number_same d (replaced p o (chain_in log d)) (chain_in log)

    cut_list : chain_in (Object (Cut d o) ∷ log) d ≡ without_object o (chain_in log d)
    cut_list = at_number_same d (without_object o (chain_in log d)) (chain_in log)

  sorted_push : (log : Log) (d : ℕ) (o : ObjectId) (i : ℕ) (w : List ℕ) → IsLiveRun qsbr tabled (Object (Push d o i w) ∷ log) → IsSorted (Object (Push d o i w) ∷ log) d
  sorted_push log d o i w run = let e : LiveEvent = Object (Push d o i w) in let here : record_of (e ∷ log) o ≡ (i, w) = at_object_same o (i, w) (record_of log) in ⊎_elim
      (λ (k : HasKey (i, w) × HasKeys log d × keyed_event log (Push d o i w)). inl (λ x h. ⊎_elim
      (λ (is : o ≡ x). subst HasKey (sym (ap (record_of (e ∷ log)) (sym is) ∙ here)) k.0)
      (λ (was : In (chain_in log d) x). subst HasKey (sym (noted e log d x run was)) (k.1 x was))
      (subst (λ (l : List ObjectId). In l x) (pushed_list log d o o i w) h)))
      (λ (k : IsDirectory (i, w) × (chain_in log d ≡ []) × MayDirect log d o (i, w)). inr (o, pushed_list log d o o i w ∙ ap (λ (l : List ObjectId). o ∷ l) k.1, subst IsDirectory (sym here) k.0))
      run.0.1.1

  sorted_replace : (log : Log) (d : ℕ) (p o : ObjectId) (i : ℕ) (w : List ℕ) → IsLiveRun qsbr tabled (Object (Replace d p o i w) ∷ log) → IsSorted log d → IsSorted (Object (Replace d p o i w) ∷ log) d
  sorted_replace log d p o i w run sorted = let e : LiveEvent = Object (Replace d p o i w) in let here : record_of (e ∷ log) o ≡ (i, w) = at_object_same o (i, w) (record_of log) in let at : In (chain_in log d) p = in_objects (chain_in log d) p run.0.0.0 in ⊎_elim
      (λ (k : HasKey (i, w) × HasKey (record_of log p) × keyed_event log (Replace d p o i w)). let keys = keys_there log d p sorted at k.1 in inl (λ x h. ⊎_elim
      (λ (is : x ≡ o). subst HasKey (sym (ap (record_of (e ∷ log)) is ∙ here)) k.0)
      (λ (was : In (chain_in log d) x × (x ≢ p)). subst HasKey (sym (noted e log d x run was.0)) (keys x was.0))
      (replaced_has p o (chain_in log d) x (subst (λ (l : List ObjectId). In l x) (replaced_list log d p o i w) h))))
      (λ (k : Redirects log d p o (i, w)). inr (o, replaced_list log d p o i w ∙ replaced_one p o (chain_in log d) (alone_there log d p sorted at k.1), subst IsDirectory (sym here) k.0))
      run.0.1.1

  sorted_cut : (log : Log) (d : ℕ) (o : ObjectId) → IsLiveRun qsbr tabled (Object (Cut d o) ∷ log) → IsSorted log d → IsSorted (Object (Cut d o) ∷ log) d
  sorted_cut log d o run sorted = let e : LiveEvent = Object (Cut d o) in let keys = keys_there log d o sorted (in_objects (chain_in log d) o run.0.0) run.0.1.1 in
      inl (λ x h. let was = (without_object_has o (chain_in log d) x (subst (λ (l : List ObjectId). In l x) (cut_list log d o o 0 []) h)).0 in subst HasKey (sym (noted e log d x run was)) (keys x was))

  pub each_sorted : (log : Log) (c : ℕ) → IsLiveRun qsbr tabled log → IsSorted log c
  each_sorted [] c run = inl (λ o h. absurd h)
  each_sorted (Open r n m ∷ es) c run = each_sorted es c run.1
  each_sorted (Close r n ∷ es) c run = each_sorted es c run.1
  each_sorted (SeqOdd ∷ es) c run = each_sorted es c run.1
  each_sorted (SeqEven ∷ es) c run = each_sorted es c run.1
  each_sorted (Present p ∷ es) c run = each_sorted es c run.1
  each_sorted (ChainNote d x ∷ es) c run = each_sorted es c run.1
  each_sorted (CloseQueue q ∷ es) c run = each_sorted es c run.1
  each_sorted (Object (Push d o i w) ∷ es) c run = let e = Object (Push d o i w) in dite (ℕ_discrete d c)
      (λ is. subst (IsSorted (e ∷ es)) is (sorted_push es d o i w run))
      (λ ne. sorted_other e es c run (at_number_other d c (o ∷ chain_in es d) (chain_in es) (λ is. ne (sym is))) (each_sorted es c run.1))
  each_sorted (Object (Replace d p o i w) ∷ es) c run = let e = Object (Replace d p o i w) in dite (ℕ_discrete d c)
      (λ is. subst (IsSorted (e ∷ es)) is (sorted_replace es d p o i w run (each_sorted es d run.1)))
      (λ ne. sorted_other e es c run (at_number_other d c (replaced p o (chain_in es d)) (chain_in es) (λ is. ne (sym is))) (each_sorted es c run.1))
  each_sorted (Object (Cut d o) ∷ es) c run = let e = Object (Cut d o) in dite (ℕ_discrete d c)
      (λ is. subst (IsSorted (e ∷ es)) is (sorted_cut es d o run (each_sorted es d run.1)))
      (λ ne. sorted_other e es c run (at_number_other d c (without_object o (chain_in es d)) (chain_in es) (λ is. ne (sym is))) (each_sorted es c run.1))
  each_sorted (Object (Retire o) ∷ es) c run = each_sorted es c run.1
  each_sorted (Object (Queue o q n) ∷ es) c run = each_sorted es c run.1
  each_sorted (Object (Run o) ∷ es) c run = each_sorted es c run.1

  pub directory_alone : (log : Log) (d : ℕ) (o : ObjectId) → IsLiveRun qsbr tabled log → In (chain_in log d) o → IsDirectory (record_of log o) → chain_in log d ≡ o ∷ []
  directory_alone log d o run h directory = alone_there log d o (each_sorted log d run) h directory

  -- a linked object of that kind is a directory
  pub directory_there : (log : Log) (d : ℕ) (o : ObjectId) → IsLiveRun qsbr tabled log → In (chain_in log d) o → kind_of (record_of log o) ≡ 1 → IsDirectory (record_of log o)
  directory_there log d o run h kind = ⊎_elim
      (λ (keys : HasKeys log d). let a : kind_of (record_of log o) ≡ 0 = keys o h in absurd (omega arith))
      (λ (alone : IsAlone log d). subst (λ (q : ObjectId). IsDirectory (record_of log q)) (only alone.0 o (subst (λ (l : List ObjectId). In l o) alone.1 h)) alone.2)
      (each_sorted log d run)

  -- a directory takes the place of one that was alone
  pub was_alone : (log : Log) (d : ℕ) (p o : ObjectId) (i : ℕ) (w : List ℕ) → IsLiveRun qsbr tabled (Object (Replace d p o i w) ∷ log) → IsDirectory (record_of log p) → chain_in log d ≡ p ∷ []
  was_alone log d p o i w run directory = alone_there log d p (each_sorted log d run.1) (in_objects (chain_in log d) p run.0.0.0) directory

  -- one object alone falls
  alone_falls : (log : Log) (c : ℕ) (o : ObjectId) → chain_in log c ≡ o ∷ [] → IsKeyed log c
  alone_falls log c o is = subst (Falls (record_of log)) (sym is) ((λ p h. absurd h), tt)

  tables_leave : LeavesFalling qsbr tabled
  tables_leave = record {
    push = λ log d o i w run. ⊎_elim
        (λ (k : HasKey (i, w) × HasKeys log d × keyed_event log (Push d o i w)). k.2)
        (λ (k : IsDirectory (i, w) × (chain_in log d ≡ []) × MayDirect log d o (i, w)). alone_falls (Object (Push d o i w) ∷ log) d o (pushed_list log d o o i w ∙ ap (λ (l : List ObjectId). o ∷ l) k.1))
        run.0.1.1;
    replace = λ log d p o i w run. ⊎_elim
        (λ (k : HasKey (i, w) × HasKey (record_of log p) × keyed_event log (Replace d p o i w)). k.2.0)
        (λ (k : Redirects log d p o (i, w)). alone_falls (Object (Replace d p o i w) ∷ log) d o (replaced_list log d p o i w ∙ replaced_one p o (chain_in log d) (was_alone log d p o i w run k.1)))
        run.0.1.1;
    cut = λ log d o run. run.0.1.2;
  }

  pub each_falls : (log : Log) (c : ℕ) → IsLiveRun qsbr tabled log → IsKeyed log c
  each_falls = all_fall qsbr tabled tables_leave

  -- a linked directory names other chains alone, which are reserved for it or left
  abbrev IsNoted : ℕ → ℕ → ObjectId → Log → Type 0
  IsNoted c d o log = (c ≢ d) × (d + 1 < 2 ^ 63) × ((chain_note c log ≡ d + 1) ⊎ (chain_note c log ≡ reserved o))

  abbrev NotedIn : Log → Type 0
  NotedIn log = (c d : ℕ) (o : ObjectId) → In (chain_in log d) o → IsDirectory (record_of log o) → Names (record_of log o) c → IsNoted c d o log

  -- so one directory alone names a chain
  one_names : (log : Log) (c d : ℕ) (o : ObjectId) → IsLiveRun qsbr tabled log → NotedIn log → In (chain_in log d) o → IsDirectory (record_of log o) → Names (record_of log o) c → (n : IsNamed log c) → (n.chain ≡ d) × (n.object ≡ o)
  one_names log c d o run all at directory names n = let mine = all c d o at directory names in let other = all c n.chain n.object n.linked n.directory n.names in ⊎_elim
      (λ (note : chain_note c log ≡ d + 1). ⊎_elim
      (λ (note' : chain_note c log ≡ n.chain + 1). let same : n.chain ≡ d = omega arith in (same, sym (only o n.object (subst (λ (l : List ObjectId). In l n.object) (ap (chain_in log) same ∙ directory_alone log d o run at directory) n.linked))))
      (λ (held : chain_note c log ≡ reserved n.object). let low = mine.1 in absurd (omega arith))
      other.2)
      (λ (held : chain_note c log ≡ reserved o). ⊎_elim
      (λ (note' : chain_note c log ≡ n.chain + 1). let low = other.1 in absurd (omega arith))
      (λ (held' : chain_note c log ≡ reserved n.object). let same : n.object ≡ o = object_is n.object o (omega arith) in ((kept_log qsbr tabled log run).linking.one_chain n.chain d o (subst (In (chain_in log n.chain)) same n.linked) at, same))
      other.2)
      mine.2

  -- one that was linked before
  was_noted : (c d : ℕ) (o : ObjectId) (e : LiveEvent) (es : Log) → IsLiveRun qsbr tabled (e ∷ es) → NotedIn es → In (chain_in es d) o → IsDirectory (record_of (e ∷ es) o) → Names (record_of (e ∷ es) o) c → IsNoted c d o es
  was_noted c d o e es run before was directory names = let same = noted e es d o run was in before c d o was (subst IsDirectory same directory) (subst (λ (x : ℕ × List ℕ). Names x c) same names)

  noted_note : (b x : ℕ) (es : Log) → IsLiveRun qsbr tabled (ChainNote b x ∷ es) → NotedIn es → NotedIn (ChainNote b x ∷ es)
  noted_note b x es run before c d o h directory names =
      let was = before c d o h directory names in dite (ℕ_discrete b c)
      (λ is. let own : chain_note c (ChainNote b x ∷ es) ≡ x = ap (λ (t : Bool). cond t x (chain_note c es)) (eq-eqb b c is) in ⊎_elim
      (λ (none : (chain_note b es ≡ 0) × MayReserve es x). let z : chain_note c es ≡ 0 = ap (λ (n : ℕ). chain_note n es) (sym is) ∙ none.0 in ⊎_elim (λ (y : chain_note c es ≡ d + 1). absurd (omega arith)) (λ (y : chain_note c es ≡ reserved o). absurd (omega arith)) was.2)
      (λ (k : IsFree es b × MayLeave es b x). ⊎_elim
      (λ (zero : (x ≡ 0) × (chain_in es b ≡ []) × ¬ IsNamed es b). absurd (zero.2 (record { chain = d; object = o; linked = h; directory = directory; names = subst (Names (record_of es o)) (sym is) names })))
      (λ (left : (n : IsNamed es b) × (x ≡ n.chain + 1)). let one = one_names es b d o run.1 before h directory (subst (Names (record_of es o)) (sym is) names) left.0 in
      (was.0, was.1, inl (own ∙ (left.1 ∙ ap (λ (n : ℕ). n + 1) one.0))))
      k.1)
      run.0)
      (λ ne. let other : chain_note c (ChainNote b x ∷ es) ≡ chain_note c es = ap (λ (t : Bool). cond t x (chain_note c es)) (ne_eqb b c ne) in
      (was.0, was.1, ⊎_elim (λ (y : chain_note c es ≡ d + 1). inl (other ∙ y)) (λ (y : chain_note c es ≡ reserved o). inr (other ∙ y)) was.2))

  -- a directory that came into a chain
  came : (c b d : ℕ) (p o : ObjectId) (es : Log) (x : ℕ × List ℕ) → b ≡ d → p ≡ o → MayDirect es b p x → Names x c → IsNoted c d o es
  came c b d p o es x is same may names = let k = may.1 c names in ((λ own. k.0 (own ∙ sym is)), subst (λ (n : ℕ). n + 1 < 2 ^ 63) is may.0, inr (k.1 ∙ ap reserved same))

  noted_push : (b : ℕ) (p : ObjectId) (i : ℕ) (w : List ℕ) (es : Log) → IsLiveRun qsbr tabled (Object (Push b p i w) ∷ es) → NotedIn es → NotedIn (Object (Push b p i w) ∷ es)
  noted_push b p i w es run before c d o h directory names = let e : LiveEvent = Object (Push b p i w) in dite (ℕ_discrete b d)
      (λ is. ⊎_elim
      (λ (new : p ≡ o). let here : record_of (e ∷ es) o ≡ (i, w) = ap (record_of (e ∷ es)) (sym new) ∙ at_object_same p (i, w) (record_of es) in ⊎_elim
      (λ (k : HasKey (i, w) × HasKeys es b × keyed_event es (Push b p i w)). one_kind (i, w) k.0 (subst IsDirectory here directory))
      (λ (k : IsDirectory (i, w) × (chain_in es b ≡ []) × MayDirect es b p (i, w)). came c b d p o es (i, w) is new k.2 (subst (λ (x : ℕ × List ℕ). Names x c) here names))
      run.0.1.1)
      (λ (was : In (chain_in es d) o). was_noted c d o e es run before was directory names)
      (subst (λ (l : List ObjectId). In l o) (ap (chain_in (e ∷ es)) (sym is) ∙ (pushed_list es b p p i w ∙ ap (λ (n : ℕ). p ∷ chain_in es n) is)) h))
      (λ ne. was_noted c d o e es run before (subst (λ (l : List ObjectId). In l o) (at_number_other b d (p ∷ chain_in es b) (chain_in es) (λ is. ne (sym is))) h) directory names)

  noted_replace : (b : ℕ) (p n : ObjectId) (i : ℕ) (w : List ℕ) (es : Log) → IsLiveRun qsbr tabled (Object (Replace b p n i w) ∷ es) → NotedIn es → NotedIn (Object (Replace b p n i w) ∷ es)
  noted_replace b p n i w es run before c d o h directory names = let e : LiveEvent = Object (Replace b p n i w) in dite (ℕ_discrete b d)
      (λ is. ⊎_elim
      (λ (new : o ≡ n). let here : record_of (e ∷ es) o ≡ (i, w) = ap (record_of (e ∷ es)) new ∙ at_object_same n (i, w) (record_of es) in ⊎_elim
      (λ (k : HasKey (i, w) × HasKey (record_of es p) × keyed_event es (Replace b p n i w)). one_kind (i, w) k.0 (subst IsDirectory here directory))
      (λ (k : Redirects es b p n (i, w)). came c b d n o es (i, w) is (sym new) k.2 (subst (λ (x : ℕ × List ℕ). Names x c) here names))
      run.0.1.1)
      (λ (was : In (chain_in es d) o × (o ≢ p)). was_noted c d o e es run before was.0 directory names)
      (replaced_has p n (chain_in es d) o (subst (λ (l : List ObjectId). In l o) (ap (chain_in (e ∷ es)) (sym is) ∙ (replaced_list es b p n i w ∙ ap (λ (m : ℕ). replaced p n (chain_in es m)) is)) h)))
      (λ ne. was_noted c d o e es run before (subst (λ (l : List ObjectId). In l o) (at_number_other b d (replaced p n (chain_in es b)) (chain_in es) (λ is. ne (sym is))) h) directory names)

  noted_cut : (b : ℕ) (p : ObjectId) (es : Log) → IsLiveRun qsbr tabled (Object (Cut b p) ∷ es) → NotedIn es → NotedIn (Object (Cut b p) ∷ es)
  noted_cut b p es run before c d o h directory names = let e : LiveEvent = Object (Cut b p) in before c d o (dite (ℕ_discrete b d)
      (λ is. (without_object_has p (chain_in es d) o (subst (λ (l : List ObjectId). In l o) (ap (chain_in (e ∷ es)) (sym is) ∙ (cut_list es b p p 0 [] ∙ ap (λ (m : ℕ). without_object p (chain_in es m)) is)) h)).0)
      (λ ne. subst (λ (l : List ObjectId). In l o) (at_number_other b d (without_object p (chain_in es b)) (chain_in es) (λ is. ne (sym is))) h)) directory names

  each_noted : (log : Log) → IsLiveRun qsbr tabled log → NotedIn log
  each_noted [] run = λ c d o h directory names. absurd h
  each_noted (Open r n m ∷ es) run = each_noted es run.1
  each_noted (Close r n ∷ es) run = each_noted es run.1
  each_noted (SeqOdd ∷ es) run = each_noted es run.1
  each_noted (SeqEven ∷ es) run = each_noted es run.1
  each_noted (Present p ∷ es) run = each_noted es run.1
  each_noted (CloseQueue q ∷ es) run = each_noted es run.1
  each_noted (Object (Retire p) ∷ es) run = each_noted es run.1
  each_noted (Object (Queue p q n) ∷ es) run = each_noted es run.1
  each_noted (Object (Run p) ∷ es) run = each_noted es run.1
  each_noted (ChainNote b x ∷ es) run = noted_note b x es run (each_noted es run.1)
  each_noted (Object (Push b p i w) ∷ es) run = noted_push b p i w es run (each_noted es run.1)
  each_noted (Object (Replace b p n i w) ∷ es) run = noted_replace b p n i w es run (each_noted es run.1)
  each_noted (Object (Cut b p) ∷ es) run = noted_cut b p es run (each_noted es run.1)

  pub is_noted : (log : Log) (c d : ℕ) (o : ObjectId) → IsLiveRun qsbr tabled log → In (chain_in log d) o → IsDirectory (record_of log o) → Names (record_of log o) c → IsNoted c d o log
  is_noted log c d o run = each_noted log run c d o

  -- the chains of a directory that is replaced are left
  pub left_then : (d : ℕ) (old new : ObjectId) (cell : ℕ) (payload : List ℕ) (before : Log) → IsLiveRun qsbr tabled (Object (Replace d old new cell payload) ∷ before) → IsDirectory (record_of before old) → AreLeft before d old
  left_then d old new cell payload before run directory c names = ⊎_elim
      (λ (k : HasKey (cell, payload) × HasKey (record_of before old) × keyed_event before (Replace d old new cell payload)). one_kind (record_of before old) k.1 directory)
      (λ (k : Redirects before d old new (cell, payload)). k.3 c names)
      run.0.1.1

  -- after a directory that named the chain was replaced
  module _ (before : Log) (c d : ℕ) (old new : ObjectId) (cell : ℕ) (payload : List ℕ) (directory : IsDirectory (record_of before old)) (names : Names (record_of before old) c) where
    abbrev left : Log
    left = Object (Replace d old new cell payload) ∷ before

    named_then : IsLiveRun qsbr tabled left → (c ≢ d) × (chain_note c before ≡ d + 1) × (d + 1 < 2 ^ 63)
    named_then run = let noted = is_noted before c d old run.1 (in_objects (chain_in before d) old run.0.0.0) directory names in (noted.0, left_then d old new cell payload before run directory c names, noted.1)

    -- its note stays, or the sections of then have ended
    abbrev Waits : Log → Type 0
    Waits log = (chain_note c log ≡ d + 1) ⊎ HaveEnded before log

    still_waits : (e : LiveEvent) (log : Log) → chain_note c (e ∷ log) ≡ chain_note c log → Waits log → Waits (e ∷ log)
    still_waits e log same (inl noted) = inl (same ∙ noted)
    still_waits e log same (inr ended) = inr (λ r n m opened. inr (ended r n m opened))

    waits_on : (e : LiveEvent) (es : Log) → IsLiveRun qsbr tabled (e ∷ (es ++ left)) → Waits (es ++ left) → Waits (e ∷ (es ++ left))
    waits_on (ChainNote b x) es run waits = dite (ℕ_discrete b c)
        (λ is. ⊎_elim
        (λ (noted : chain_note c (es ++ left) ≡ d + 1). ⊎_elim
        (λ (none : (chain_note b (es ++ left) ≡ 0) × MayReserve (es ++ left) x). let z : chain_note c (es ++ left) ≡ 0 = ap (λ (n : ℕ). chain_note n (es ++ left)) (sym is) ∙ none.0 in absurd (omega arith))
        (λ (k : IsFree (es ++ left) b × MayLeave (es ++ left) b x). inr (λ r n m opened. inr (k.0 es before d old new cell payload refl directory (subst (Names (record_of before old)) (sym is) names) r n m opened)))
        run.0)
        (λ (ended : HaveEnded before (es ++ left)). inr (λ r n m opened. inr (ended r n m opened)))
        waits)
        (λ ne. still_waits (ChainNote b x) (es ++ left) (ap (λ (t : Bool). cond t x (chain_note c (es ++ left))) (ne_eqb b c ne)) waits)
    waits_on (Open r n m) es run waits = still_waits (Open r n m) (es ++ left) refl waits
    waits_on (Close r n) es run waits = still_waits (Close r n) (es ++ left) refl waits
    waits_on SeqOdd es run waits = still_waits SeqOdd (es ++ left) refl waits
    waits_on SeqEven es run waits = still_waits SeqEven (es ++ left) refl waits
    waits_on (Present p) es run waits = still_waits (Present p) (es ++ left) refl waits
    waits_on (CloseQueue q) es run waits = still_waits (CloseQueue q) (es ++ left) refl waits
    waits_on (Object a) es run waits = still_waits (Object a) (es ++ left) refl waits

    waits_since : (since : Log) → IsLiveRun qsbr tabled (since ++ left) → Waits (since ++ left)
    waits_since [] run = inl (named_then run).1
    waits_since (e ∷ es) run = waits_on e es run (waits_since es run.1)

    -- while a section of then is open the chain stays as it was
    module _ (r n m : ℕ) (opened : open_of r before ≡ some (n, m)) where
      still_open : (e : LiveEvent) (log : Log) → ¬ Has (Close r n) (e ∷ log) → ¬ Has (Close r n) log
      still_open e log none h = none (inr h)

      busy : {A : Type 0} (es : Log) (b : ℕ) → b ≡ c → IsFree (es ++ left) b → ¬ Has (Close r n) (es ++ left) → A
      busy es b is free none = absurd (none (free es before d old new cell payload refl directory (subst (Names (record_of before old)) (sym is) names) r n m opened))

      stays_since : (since : Log) → IsLiveRun qsbr tabled (since ++ left) → ¬ Has (Close r n) (since ++ left) → chain_in (since ++ left) c ≡ chain_in before c
      stays_since [] run none = at_number_other d c (replaced old new (chain_in before d)) (chain_in before) (named_then run).0
      stays_since (Open q i j ∷ es) run none = stays_since es run.1 (still_open (Open q i j) (es ++ left) none)
      stays_since (Close q i ∷ es) run none = stays_since es run.1 (still_open (Close q i) (es ++ left) none)
      stays_since (SeqOdd ∷ es) run none = stays_since es run.1 (still_open SeqOdd (es ++ left) none)
      stays_since (SeqEven ∷ es) run none = stays_since es run.1 (still_open SeqEven (es ++ left) none)
      stays_since (Present p ∷ es) run none = stays_since es run.1 (still_open (Present p) (es ++ left) none)
      stays_since (ChainNote b x ∷ es) run none = stays_since es run.1 (still_open (ChainNote b x) (es ++ left) none)
      stays_since (CloseQueue q ∷ es) run none = stays_since es run.1 (still_open (CloseQueue q) (es ++ left) none)
      stays_since (Object (Retire p) ∷ es) run none = stays_since es run.1 (still_open (Object (Retire p)) (es ++ left) none)
      stays_since (Object (Queue p q n) ∷ es) run none = stays_since es run.1 (still_open (Object (Queue p q n)) (es ++ left) none)
      stays_since (Object (Run p) ∷ es) run none = stays_since es run.1 (still_open (Object (Run p)) (es ++ left) none)
      stays_since (Object (Push b p i w) ∷ es) run none = let log : Log = es ++ left in let opened' = still_open (Object (Push b p i w)) log none in dite (ℕ_discrete b c)
          (λ is. busy es b is run.0.1.0 opened')
          (λ ne. at_number_other b c (p ∷ chain_in log b) (chain_in log) (λ is. ne (sym is)) ∙ stays_since es run.1 opened')
      stays_since (Object (Replace b p q i w) ∷ es) run none = let log : Log = es ++ left in let opened' = still_open (Object (Replace b p q i w)) log none in dite (ℕ_discrete b c)
          (λ is. busy es b is run.0.1.0 opened')
          (λ ne. at_number_other b c (replaced p q (chain_in log b)) (chain_in log) (λ is. ne (sym is)) ∙ stays_since es run.1 opened')
      stays_since (Object (Cut b p) ∷ es) run none = let log : Log = es ++ left in let opened' = still_open (Object (Cut b p)) log none in dite (ℕ_discrete b c)
          (λ is. busy es b is run.0.1.0 opened')
          (λ ne. at_number_other b c (without_object p (chain_in log b)) (chain_in log) (λ is. ne (sym is)) ∙ stays_since es run.1 opened')

  -- a chain is free whose note is that of no left one
  free_unless_left : (log : Log) (c : ℕ) → IsLiveRun qsbr tabled log → ((d : ℕ) → d + 1 < 2 ^ 63 → chain_note c log ≢ d + 1) → IsFree log c
  free_unless_left log c run other since before d old new cell payload is directory names =
      let after : Log = since ++ Object (Replace d old new cell payload) ∷ before in let here = subst (IsLiveRun qsbr tabled) is run in
      let low = (named_then before c d old new cell payload directory names (run_of qsbr tabled (Object (Replace d old new cell payload) ∷ before) after (since, refl) here)).2 in
      subst (HaveEnded before) (sym is) (⊎_elim
      (λ (noted : chain_note c after ≡ d + 1). absurd (other d low (ap (chain_note c) is ∙ noted)))
      (λ (ended : HaveEnded before after). ended)
      (waits_since before c d old new cell payload directory names since here))

  pub unnoted_free : (log : Log) (c : ℕ) → IsLiveRun qsbr tabled log → chain_note c log ≡ 0 → IsFree log c
  unnoted_free log c run none = free_unless_left log c run (λ d low left. omega arith)

  pub reserved_free : (log : Log) (c : ℕ) (o : ObjectId) → IsLiveRun qsbr tabled log → chain_note c log ≡ reserved o → IsFree log c
  reserved_free log c o run held = free_unless_left log c run (λ d low left. omega arith)

  -- once a directory that named the chain was replaced its note is the directory's chain's number and 1 still, or the
  -- sections of then have ended
  pub noted_or_ended : (log since before : Log) (c d : ℕ) (old new : ObjectId) (cell : ℕ) (payload : List ℕ) → IsLiveRun qsbr tabled log → log ≡ since ++ Object (Replace d old new cell payload) ∷ before → IsDirectory (record_of before old) → Names (record_of before old) c → (chain_note c log ≡ d + 1) ⊎ HaveEnded before log
  noted_or_ended log since before c d old new cell payload run is directory names =
      subst (λ (l : Log). (chain_note c l ≡ d + 1) ⊎ HaveEnded before l) (sym is)
      (waits_since before c d old new cell payload directory names since (subst (IsLiveRun qsbr tabled) is run))

  -- a chain that a replaced directory named has what it had
  pub left_stays : (log since before : Log) (c d : ℕ) (old new : ObjectId) (cell : ℕ) (payload : List ℕ) (r n m : ℕ) → IsLiveRun qsbr tabled log → log ≡ since ++ Object (Replace d old new cell payload) ∷ before → IsDirectory (record_of before old) → Names (record_of before old) c → open_of r before ≡ some (n, m) → ¬ Has (Close r n) log → chain_in log c ≡ chain_in before c
  left_stays log since before c d old new cell payload r n m run is directory names opened none =
      ap (λ (l : Log). chain_in l c) is ∙ stays_since before c d old new cell payload directory names r n m opened since (subst (IsLiveRun qsbr tabled) is run) (λ h. none (subst (Has (Close r n)) (sym is) h))

  -- a directory that is linked is replaced by an event, or stays linked
  module _ (start : Log) (d : ℕ) (o : ObjectId) (at : In (chain_in start d) o) (directory : IsDirectory (record_of start o)) where
    abbrev Goes : Log → Type 0
    Goes log = In (chain_in log d) o ⊎ IsReplaced start log d o

    later : (e : LiveEvent) (log : Log) → IsReplaced start log d o → Goes (e ∷ log)
    later e log r = inr (record { since = e ∷ r.since; before = r.before; new = r.new; cell = r.cell; payload = r.payload; is = ap (λ (l : Log). e ∷ l) r.is; after = r.after; linked = r.linked })

    directory_then : (since : Log) → IsLiveRun qsbr tabled (since ++ start) → IsDirectory (record_of (since ++ start) o)
    directory_then since run = subst IsDirectory (sym (note_stays qsbr tabled start (since ++ start) o (since, refl) run (chain_used qsbr tabled start d o (run_of qsbr tabled start (since ++ start) (since, refl) run) at))) directory

    goes_push : (b : ℕ) (p : ObjectId) (i : ℕ) (w : List ℕ) (log : Log) → In (chain_in log d) o → Goes (Object (Push b p i w) ∷ log)
    goes_push b p i w log h = let e : LiveEvent = Object (Push b p i w) in dite (ℕ_discrete b d)
        (λ is. inl (subst (λ (n : ℕ). In (chain_in (e ∷ log) n) o) is (subst (λ (l : List ObjectId). In l o) (sym (pushed_list log b p p i w)) (inr (subst (λ (n : ℕ). In (chain_in log n) o) (sym is) h)))))
        (λ ne. inl (subst (λ (l : List ObjectId). In l o) (sym (at_number_other b d (p ∷ chain_in log b) (chain_in log) (λ is. ne (sym is)))) h))

    goes_replace : (b : ℕ) (p n : ObjectId) (i : ℕ) (w : List ℕ) (since : Log) → In (chain_in (since ++ start) d) o → Goes (Object (Replace b p n i w) ∷ (since ++ start))
    goes_replace b p n i w since h = let log : Log = since ++ start in let e : LiveEvent = Object (Replace b p n i w) in dite (ℕ_discrete b d)
        (λ is. by_object o p
        (λ same. inr (record { since = []; before = log; new = n; cell = i; payload = w; is = λ j. Object (Replace (is j) (sym same j) n i w) ∷ log; after = (since, refl); linked = h }))
        (λ other. inl (subst (λ (m : ℕ). In (chain_in (e ∷ log) m) o) is (subst (λ (l : List ObjectId). In l o) (sym (replaced_list log b p n i w)) (has_replaced p n (chain_in log b) o (subst (λ (m : ℕ). In (chain_in log m) o) (sym is) h) other)))))
        (λ ne. inl (subst (λ (l : List ObjectId). In l o) (sym (at_number_other b d (replaced p n (chain_in log b)) (chain_in log) (λ is. ne (sym is)))) h))

    goes_cut : (b : ℕ) (p : ObjectId) (since : Log) → IsLiveRun qsbr tabled (Object (Cut b p) ∷ (since ++ start)) → In (chain_in (since ++ start) d) o → Goes (Object (Cut b p) ∷ (since ++ start))
    goes_cut b p since run h = let log : Log = since ++ start in let e : LiveEvent = Object (Cut b p) in dite (ℕ_discrete b d)
        (λ is. by_object o p
        (λ same. one_kind (record_of log o) (subst (λ (q : ObjectId). HasKey (record_of log q)) (sym same) run.0.1.1) (directory_then since run.1))
        (λ other. inl (subst (λ (m : ℕ). In (chain_in (e ∷ log) m) o) is (subst (λ (l : List ObjectId). In l o) (sym (cut_list log b p p 0 [])) (has_without_object p (chain_in log b) o (subst (λ (m : ℕ). In (chain_in log m) o) (sym is) h) other)))))
        (λ ne. inl (subst (λ (l : List ObjectId). In l o) (sym (at_number_other b d (without_object p (chain_in log b)) (chain_in log) (λ is. ne (sym is)))) h))

    goes_on : (e : LiveEvent) (since : Log) → IsLiveRun qsbr tabled (e ∷ (since ++ start)) → In (chain_in (since ++ start) d) o → Goes (e ∷ (since ++ start))
    goes_on (Open r n m) since run h = inl h
    goes_on (Close r n) since run h = inl h
    goes_on SeqOdd since run h = inl h
    goes_on SeqEven since run h = inl h
    goes_on (Present p) since run h = inl h
    goes_on (ChainNote b x) since run h = inl h
    goes_on (CloseQueue q) since run h = inl h
    goes_on (Object (Retire p)) since run h = inl h
    goes_on (Object (Queue p q n)) since run h = inl h
    goes_on (Object (Run p)) since run h = inl h
    goes_on (Object (Push b p i w)) since run h = goes_push b p i w (since ++ start) h
    goes_on (Object (Replace b p n i w)) since run h = goes_replace b p n i w since h
    goes_on (Object (Cut b p)) since run h = goes_cut b p since run h

    goes_since : (since : Log) → IsLiveRun qsbr tabled (since ++ start) → Goes (since ++ start)
    goes_since [] run = inl at
    goes_since (e ∷ es) run = ⊎_elim
        (λ (h : In (chain_in (es ++ start) d) o). goes_on e es run h)
        (λ (r : IsReplaced start (es ++ start) d o). later e (es ++ start) r)
        (goes_since es run.1)

  pub linked_or_replaced : (start log : Log) (d : ℕ) (o : ObjectId) → Begins start log → IsLiveRun qsbr tabled log → In (chain_in start d) o → IsDirectory (record_of start o) → In (chain_in log d) o ⊎ IsReplaced start log d o
  linked_or_replaced start log d o b run at directory = subst (λ (l : Log). In (chain_in l d) o ⊎ IsReplaced start l d o) (sym b.1) (goes_since start d o at directory b.0 (subst (IsLiveRun qsbr tabled) b.1 run))

  -- a chain is not reserved for an object that was linked, unless it was
  not_again : (since before : Log) (c : ℕ) (o : ObjectId) → IsLiveRun qsbr tabled (since ++ before) → In (state_of before).used o → chain_note c before ≢ reserved o → chain_note c (since ++ before) ≢ reserved o
  not_again [] before c o run used other = other
  not_again (ChainNote b x ∷ es) before c o run used other = let log : Log = es ++ before in dite (ℕ_discrete b c)
      (λ is held. let x_is : x ≡ reserved o = sym (ap (λ (t : Bool). cond t x (chain_note c log)) (eq-eqb b c is)) ∙ held in ⊎_elim
      (λ (none : (chain_note b log ≡ 0) × MayReserve log x). ⊎_elim
      (λ (low : x < 2 ^ 63). absurd (omega arith))
      (λ (new : (p : ObjectId) × (x ≡ reserved p) × ¬ In (state_of log).used p). let is_new = new.1 in let same : new.0 ≡ o = object_is new.0 o (omega arith) in
      new.2 (subst (In (state_of log).used) (sym same) ((grows_log before log (es, refl)).used o used)))
      none.1)
      (λ (k : IsFree log b × MayLeave log b x). ⊎_elim
      (λ (zero : (x ≡ 0) × (chain_in log b ≡ []) × ¬ IsNamed log b). let z = zero.0 in absurd (omega arith))
      (λ (left : (n : IsNamed log b) × (x ≡ n.chain + 1)). let n = left.0 in let out = left.1 in let low = (each_noted log run.1 b n.chain n.object n.linked n.directory n.names).1 in absurd (omega arith))
      k.1)
      run.0)
      (λ ne held. not_again es before c o run.1 used other (sym (ap (λ (t : Bool). cond t x (chain_note c log)) (ne_eqb b c ne)) ∙ held))
  not_again (Open r n m ∷ es) before c o run used other = not_again es before c o run.1 used other
  not_again (Close r n ∷ es) before c o run used other = not_again es before c o run.1 used other
  not_again (SeqOdd ∷ es) before c o run used other = not_again es before c o run.1 used other
  not_again (SeqEven ∷ es) before c o run used other = not_again es before c o run.1 used other
  not_again (Present p ∷ es) before c o run used other = not_again es before c o run.1 used other
  not_again (CloseQueue q ∷ es) before c o run used other = not_again es before c o run.1 used other
  not_again (Object a ∷ es) before c o run used other = not_again es before c o run.1 used other

  -- so while a chain is reserved for a directory that named it, the directory is linked
  pub reserved_linked : (known log : Log) (c d : ℕ) (o : ObjectId) → Begins known log → IsLiveRun qsbr tabled log → In (chain_in known d) o → IsDirectory (record_of known o) → Names (record_of known o) c → chain_note c log ≡ reserved o → In (chain_in log d) o
  reserved_linked known log c d o b run at directory names held = ⊎_elim
      (λ (h : In (chain_in log d) o). h)
      (λ (r : IsReplaced known log d o).
      let event : LiveEvent = Object (Replace d o r.new r.cell r.payload) in
      let goes : Begins r.before log = begins_trans r.before (event ∷ r.before) log (event ∷ [], refl) (r.since, r.is) in
      let step : IsLiveRun qsbr tabled (event ∷ r.before) = run_of qsbr tabled (event ∷ r.before) log (r.since, r.is) run in
      let used : In (state_of r.before).used o = (grows_log known r.before r.after).used o (chain_used qsbr tabled known d o (run_of qsbr tabled known log b run) at) in
      let same : record_of r.before o ≡ record_of known o = note_stays qsbr tabled known r.before o r.after step.1 (chain_used qsbr tabled known d o (run_of qsbr tabled known log b run) at) in
      let named : Names (record_of r.before o) c = subst (λ (x : ℕ × List ℕ). Names x c) (sym same) names in
      let there : IsDirectory (record_of r.before o) = subst IsDirectory (sym same) directory in
      let left : chain_note c r.before ≡ d + 1 = left_then d o r.new r.cell r.payload r.before step there c named in
      let low = (each_noted r.before step.1 c d o r.linked there named).1 in
      absurd (not_again goes.0 r.before c o (subst (IsLiveRun qsbr tabled) goes.1 run) used (λ (z : chain_note c r.before ≡ reserved o). omega arith) (ap (chain_note c) (sym goes.1) ∙ held)))
      (linked_or_replaced known log d o b run at directory)
