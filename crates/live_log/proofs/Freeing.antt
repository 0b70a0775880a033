-- A chain that a linked directory names stays free as long as that directory stays linked.
use Rattle.live_log.proofs.Cited.{Bool, ◌≡◌, ◌⊎◌, ℕ, ◌+◌, List, [], ◌∷◌, ◌++◌, refl, sym, ap, ◌∙◌, subst, inl, inr, ⊎_elim, append_assoc, arith, ObjectId, In, in_objects}
use Rattle.live_log.specs.declared.event.ObjectEvent.TheVariants.{Replace}
use Rattle.live_log.specs.declared.event.LiveEvent.{LiveEvent}
use Rattle.live_log.specs.declared.event.LiveEvent.TheVariants.{Close, Object}
use Rattle.live_log.specs.Log.{Log, Begins, HaveEnded, IsLiveRun, chain_note, record_of, state_of}
use Rattle.live_log.specs.Tables.{IsDirectory, IsFree, IsReplaced, Names, reserved, tabled}
use Rattle.live_log.proofs.Machine.{begins_trans, grows_log, kept_log, run_of}
use Rattle.live_log.proofs.Notes.{note_stays}
use Rattle.live_log.proofs.Periods.{ended_before, has_since}
use Rattle.live_log.proofs.Places.{chain_used}
use Rattle.live_log.proofs.Tabling.{directory_alone, is_noted, linked_or_replaced, noted_or_ended, reserved_free}

-- a list without its first entry
abbrev rest : Log → Log
rest [] = []
rest (e ∷ es) = es

-- of two beginnings of a log, one begins with the other
pub beside : (t s : Log) (x : LiveEvent) (before known : Log) → s ++ x ∷ before ≡ t ++ known → Begins known before ⊎ Begins (x ∷ before) known
beside [] s x before known is = inr (s, sym is)
beside (z ∷ t) [] x before known is = inl (t, ap rest is)
beside (z ∷ t) (y ∷ s) x before known is = beside t s x before known (ap rest is)

ended_later : (before known log : Log) → Begins known log → HaveEnded before known → HaveEnded before log
ended_later before known log b ended r n m opened = has_since (Close r n) known log b (ended r n m opened)

module _ (qsbr : Bool) where
  -- what was replaced is linked no more
  pub gone : (before log : Log) (d c : ℕ) (old new : ObjectId) (cell : ℕ) (payload : List ℕ) → Begins (Object (Replace d old new cell payload) ∷ before) log → IsLiveRun qsbr tabled log → ¬ In ((state_of log).chain c) old
  gone before log d c old new cell payload b run at =
      let left : Log = Object (Replace d old new cell payload) ∷ before in
      (kept_log qsbr tabled log run).linking.linked_not_cut c old at ((grows_log left log b).cut old (inl refl))

  -- a directory that is linked at both ends was linked between
  pub linked_between : (known before log : Log) (d : ℕ) (o : ObjectId) → Begins known before → Begins before log → IsLiveRun qsbr tabled log → In ((state_of known).chain d) o → IsDirectory (record_of known o) → In ((state_of log).chain d) o → In ((state_of before).chain d) o
  linked_between known before log d o b later run at directory still = ⊎_elim
      (λ (h : In ((state_of before).chain d) o). h)
      (λ (r : IsReplaced known before d o). absurd (gone r.before log d d o r.new r.cell r.payload (begins_trans (Object (Replace d o r.new r.cell r.payload) ∷ r.before) before log (r.since, r.is) later) run still))
      (linked_or_replaced qsbr known before d o b (run_of qsbr tabled before log later run) at directory)

  -- no directory was replaced in the chain since then
  unreplaced : {A : Type 0} (start before log : Log) (d e : ℕ) (o old new : ObjectId) (cell : ℕ) (payload : List ℕ) → Begins start before → Begins (Object (Replace e old new cell payload) ∷ before) log → IsLiveRun qsbr tabled log → In ((state_of start).chain d) o → In ((state_of log).chain d) o → IsDirectory (record_of start o) → IsDirectory (record_of before old) → e ≡ d → A
  unreplaced start before log d e o old new cell payload b later run at still directory directory' z =
      let left : Log = Object (Replace e old new cell payload) ∷ before in
      let step : IsLiveRun qsbr tabled left = run_of qsbr tabled left log later run in
      let goes : Begins before log = begins_trans before left log (Object (Replace e old new cell payload) ∷ [], refl) later in
      let here : In ((state_of before).chain d) o = linked_between start before log d o b goes run at directory still in
      let there : In ((state_of before).chain e) old = in_objects ((state_of before).chain e) old step.0.0.0 in
      let same = note_stays qsbr tabled start before o b step.1 (chain_used qsbr tabled start d o (run_of qsbr tabled start before b step.1) at) in
      let alone : (state_of before).chain d ≡ o ∷ [] = directory_alone qsbr before d o step.1 here (subst IsDirectory (sym same) directory) in
      let is : old ≡ o = sym (one o old (subst (λ (l : List ObjectId). In l old) alone (subst (λ (k : ℕ). In ((state_of before).chain k) old) z there))) in
      absurd (gone before log e d old new cell payload later run (subst (In ((state_of log).chain d)) (sym is) still))
    where
      one : (p q : ObjectId) → In (p ∷ []) q → p ≡ q
      one p q (inl h) = h
      one p q (inr h) = absurd h

  -- Of the chains with the note of a directory that stays linked none is left by a later replacement: what freed it
  -- then frees it now.
  pub stays_free : (start log : Log) (c d : ℕ) (o : ObjectId) → Begins start log → IsLiveRun qsbr tabled log → In ((state_of start).chain d) o → In ((state_of log).chain d) o → IsDirectory (record_of start o) → chain_note c log ≡ d + 1 → ((since before : Log) (e : ℕ) (old new : ObjectId) (cell : ℕ) (payload : List ℕ) → start ≡ since ++ Object (Replace e old new cell payload) ∷ before → IsDirectory (record_of before old) → Names (record_of before old) c → HaveEnded before log) → IsFree log c
  stays_free start log c d o b run at still directory noted earlier since before e old new cell payload is directory' names' = ⊎_elim
      (λ (later : Begins start before). ⊎_elim
      (λ (same : chain_note c log ≡ e + 1). let z : e ≡ d = omega arith in unreplaced start before log d e o old new cell payload later (since, is) run at still directory directory' z)
      (λ (ended : HaveEnded before log). ended)
      (noted_or_ended qsbr log since before c e old new cell payload run is directory' names'))
      (λ (within : Begins (Object (Replace e old new cell payload) ∷ before) start). earlier within.0 before e old new cell payload within.1 directory' names')
      (beside b.0 since (Object (Replace e old new cell payload)) before start (sym is ∙ b.1))

  -- a chain that a directory names stays free while that is linked
  pub named_stays_free : (known log : Log) (c d : ℕ) (o : ObjectId) → Begins known log → IsLiveRun qsbr tabled log → In ((state_of known).chain d) o → In ((state_of log).chain d) o → IsDirectory (record_of known o) → Names (record_of known o) c → IsFree known c → IsFree log c
  named_stays_free known log c d o b run at still directory names free =
      let same = note_stays qsbr tabled known log o b run (chain_used qsbr tabled known d o (run_of qsbr tabled known log b run) at) in
      ⊎_elim
      (λ (noted : chain_note c log ≡ d + 1). stays_free known log c d o b run at still directory noted
      (λ since before e old new cell payload is directory' names'. ended_later before known log b (free since before e old new cell payload is directory' names')))
      (λ (held : chain_note c log ≡ reserved o). reserved_free qsbr log c o run held)
      (is_noted qsbr log c d o run still (subst IsDirectory (sym same) directory) (subst (λ (x : ℕ × List ℕ). Names x c) (sym same) names)).2

  -- and one that was left is free once the sections have ended that were open when another directory was linked
  pub left_is_freed : (mark log : Log) (c d : ℕ) (o : ObjectId) → Begins mark log → IsLiveRun qsbr tabled log → In ((state_of mark).chain d) o → In ((state_of log).chain d) o → IsDirectory (record_of mark o) → chain_note c log ≡ d + 1 → HaveEnded mark log → IsFree log c
  left_is_freed mark log c d o b run at still directory noted ended =
      stays_free mark log c d o b run at still directory noted
      (λ since before e old new cell payload is directory' names'. ended_before qsbr tabled before mark log (run_of qsbr tabled mark log b run) (since ++ Object (Replace e old new cell payload) ∷ [], is ∙ sym (append_assoc since (Object (Replace e old new cell payload) ∷ []) before)) b ended)
