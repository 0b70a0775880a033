-- What loads tell, one after another.
use Rattle.live_callbacks.proofs.Cited.{Bool, ◌≡◌, ℕ, List, sym, ap, ◌∙◌, slice_index_or, Me, ObjectId, In, LiveEvent, Log, Begins, IsLiveRun, record_of, state_of, begins_trans, note_stays, View, Went}

pub went_on : {S : Type 0} (qsbr : Bool) (allows : Log → LiveEvent → Type 0) (m u w : Me S View) → Went qsbr allows m.0 m u → Went qsbr allows u.0 u w → Went qsbr allows m.0 m w
went_on qsbr allows m u w x y = (
  y.0 ∙ x.0,
  y.1 ∙ ap (λ (z : View). record z { seen = w.0.seen }) x.1,
  (begins_trans m.0.seen u.0.seen w.0.seen x.2.0 y.2.0, begins_trans m.0.heard u.0.seen w.0.seen x.2.1 y.2.0, y.2.2),
)

-- a word of an object that was used then is the same later
pub word_stays : (qsbr : Bool) (allows : Log → LiveEvent → Type 0) (old log : Log) (o : ObjectId) (j n : ℕ) → Begins old log → IsLiveRun qsbr allows log → In (state_of old).used o → n ≡ slice_index_or (record_of old o).1 j 0 → n ≡ slice_index_or (record_of log o).1 j 0
word_stays qsbr allows old log o j n b run used e = e ∙ ap (λ (note : ℕ × List ℕ). slice_index_or note.1 j 0) (sym (note_stays qsbr allows old log o b run used))
