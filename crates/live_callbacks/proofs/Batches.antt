-- What a worker's list keeps.
use Rattle.live_callbacks.proofs.Cited.{Gv, Bool, ◌≡◌, ℕ, ◌+◌, List, [], ◌∷◌, ◌++◌, length, sym, ap, subst, arith, ObjectId, In, Ripe, Finished, LiveEvent, Log, Begins, IsLiveRun, state_of, words_in, begins_trans, grows_log, has_since, kept_log, note_stays, run_of}
use Rattle.live_callbacks.specs.Batches.{AreRunAs, IsDue, IsRunAs, ripe_in}
use Rattle.live_callbacks.proofs.Ripening.{ended_later, stands_later}

-- an object that has its Run keeps the words that were published with it
pub ripe_stays : (qsbr : Bool) (allows : Log → LiveEvent → Type 0) (old log : Log) (o : ObjectId) → Begins old log → IsLiveRun qsbr allows log → In (state_of old).reclaimed o → ripe_in log o ≡ ripe_in old o
ripe_stays qsbr allows old log o b run back =
    let k = kept_log qsbr allows old (run_of qsbr allows old log b run) in
    let used = k.linking.cut_used o (k.linking.retired_cut o (k.run o back).0) in
    let at : ℕ × List ℕ → Ripe = λ note. record { object = o; payload = words_in note.1 } in
    ap at (note_stays qsbr allows old log o b run used)

module _ {D : Type 0} (code : D → Gv) (answers : D → Ripe → ℕ → Type 0) (qsbr : Bool) (allows : Log → LiveEvent → Type 0) where
  pub run_later : (q : ℕ) (old new : Log) (n : ℕ) (entry : Finished) → Begins old new → IsLiveRun qsbr allows new → IsRunAs code answers q old n entry → IsRunAs code answers q new n entry
  run_later q old new n entry b run x = record {
    ticket = x.ticket;
    turn = stands_later old new q n entry.object b x.turn;
    run = (grows_log old new b).reclaimed entry.object x.run;
    called = (x.called.0, (x.called.1.0, x.called.1.1, has_since _ old new b x.called.1.2), subst (λ (ripe : Ripe). answers x.called.0 ripe entry.code) (sym (ripe_stays qsbr allows old new entry.object b run x.run)) x.called.2);
  }

  pub all_later : (q : ℕ) (old new : Log) (n : ℕ) (entries : List Finished) → Begins old new → IsLiveRun qsbr allows new → AreRunAs code answers q old n entries → AreRunAs code answers q new n entries
  all_later q old new n [] b run x = x
  all_later q old new n (e ∷ es) b run x = (run_later q old new n e b run x.0, all_later q old new (n + 1) es b run x.1)

pub all_and : {D : Type 0} (code : D → Gv) (answers : D → Ripe → ℕ → Type 0) (q : ℕ) (log : Log) (n m : ℕ) (entries : List Finished) (entry : Finished) → m ≡ n + length entries → AreRunAs code answers q log n entries → IsRunAs code answers q log m entry → AreRunAs code answers q log n (entries ++ entry ∷ [])
all_and code answers q log n m [] entry e x r = (subst (λ (k : ℕ). IsRunAs code answers q log k entry) (omega (arith, e)) r, x)
all_and code answers q log n m (z ∷ zs) entry e x r = (x.0, all_and code answers q log (n + 1) m zs entry (omega (arith, e)) x.1 r)

pub due_later : (q given : ℕ) (old new : Log) → Begins old new → IsDue q given old → IsDue q given new
due_later q given old new b x = (x.0, begins_trans x.0 old new x.1 b, ended_later x.0 old new b x.2, x.3)
