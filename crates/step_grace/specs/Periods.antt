-- What a step of a grace period tells.
use Rattle.std.specs.Prelude.{◌≡◌, ℕ, ◌<◌, Bool, List, [], ◌∷◌}
use Rattle.atomic_table.specs.Table.{Me, Step}
use Rattle.live_rule.specs.live_log.declared.event.LiveEvent.{LiveEvent}
use Rattle.live_rule.specs.live_log.declared.event.LiveEvent.TheVariants.{SeqOdd, SeqEven, Present}
use Rattle.live_rule.specs.live_log.Log.{Log, seq_of, present_of, before_odd, HaveEnded, MayCopy}
use Rattle.live_rule.specs.declared.view.View.{View}
use Rattle.live_rule.specs.declared.rights.GraceRight.{GraceRight}
use Rattle.live_rule.specs.declared.rights.GraceRight.TheVariants.{Rests, Works}
use Rattle.live_rule.specs.Readers.{Shown}
use Rattle.live_rule.specs.Claims.{ClaimsGrace}
use Rattle.live_rule.specs.Seen.{Wrote, at_log}
use Rattle.live_rule.specs.Rights.{before_in, looks_in, present_in, seq_in}

-- each word that was loaded tells that a section that copied this is open in the slot
abbrev pub ShownAll : Bool → List (ℕ × ℕ) → ℕ → ℕ → Type 0
ShownAll qsbr [] r m = Unit {0}
ShownAll qsbr (look ∷ looks) r m = Shown qsbr look r m × ShownAll qsbr looks r m

-- what was loaded tells of each section that was open at the mark, whatever it copied, that it has ended
abbrev pub TellsAllEnded : Bool → ℕ → Log → List (ℕ × ℕ) → Type 0
TellsAllEnded qsbr slots mark looks = (r m : ℕ) → r < slots → MayCopy qsbr (present_of mark) m → ShownAll qsbr looks r m → ⊥

-- the view after a load of the sequence number at which the whole log was this one, which it notes
abbrev pub at_load : View → Log → View
at_load v log = record (at_log v log) { loads = log ∷ v.loads }

module _ {S : Type 0} (qsbr : Bool) (allows : Log → LiveEvent → Type 0) where
  -- the sequence number was loaded, which tells the log
  abbrev pub LoadedSeq : Me S View → Me S View → Type 0
  LoadedSeq m m' = (m' ≡ (at_load m.0 m'.0.seen, m.1)) × Wrote qsbr allows m.0 [] m'.0.seen

  -- the same, by any seat; the one with the right to the words of grace periods knew it, and the
  -- phase or number
  abbrev pub looked_seq : Step S → Me S View → ℕ → Me S View → Type 0
  looked_seq st m n m' = LoadedSeq m m' × (seq_of m'.0.seen ≡ n) × (ClaimsGrace m.0.grace → (n ≡ seq_in m.0.grace) × (present_of m'.0.seen ≡ present_in m.0.grace))

  -- the seat's right to the words of grace periods is this one now, and these events were written
  abbrev pub GraceBecomes : GraceRight → Log → Me S View → Me S View → Type 0
  GraceBecomes right events m m' = (m' ≡ (record (at_log m.0 m'.0.seen) { grace = right }, m.1)) × Wrote qsbr allows m.0 events m'.0.seen

  -- this was loaded from the word at this place within a grace period, and is kept among the looks
  abbrev pub LoadedWord : ℕ → ℕ → Me S View → Me S View → Type 0
  LoadedWord place n m m' = GraceBecomes (Works (seq_in m.0.grace) (present_in m.0.grace) (before_in m.0.grace) ((place, n) ∷ looks_in m.0.grace)) [] m m'

  -- this phase or number was stored within a grace period
  abbrev pub StoredPresent : ℕ → Me S View → Me S View → Type 0
  StoredPresent t m m' = GraceBecomes (Works (seq_in m.0.grace) t (before_in m.0.grace) (looks_in m.0.grace)) (Present t ∷ []) m m'

  -- a word was loaded within a grace period
  abbrev pub looked_word : Step S → Me S View → ℕ → Me S View → Type 0
  looked_word st m n m' = (q t : ℕ) (mark : Log) (looks : List (ℕ × ℕ)) → m.0.grace ≡ Works q t mark looks → GraceBecomes (Works q t mark ((st.word, n) ∷ looks)) [] m m'

  -- a phase or number was stored
  abbrev pub presented : Step S → Me S View → ℕ → Me S View → Type 0
  presented st m n m' = (q t : ℕ) (mark : Log) (looks : List (ℕ × ℕ)) → m.0.grace ≡ Works q t mark looks → GraceBecomes (Works q st.first mark looks) (Present st.first ∷ []) m m'

  -- the sequence number became odd; the mark is the log before that
  abbrev pub began : Step S → Me S View → ℕ → Me S View → Type 0
  began st m n m' = (q t : ℕ) → m.0.grace ≡ Rests q t → GraceBecomes (Works st.first t (before_odd m'.0.seen) []) (SeqOdd ∷ []) m m' × (present_of (before_odd m'.0.seen) ≡ t) × (seq_of (before_odd m'.0.seen) ≡ q)

  -- it became even, and each section that was open at the mark has ended
  abbrev pub ended : Step S → Me S View → ℕ → Me S View → Type 0
  ended st m n m' = (q t : ℕ) (mark : Log) (looks : List (ℕ × ℕ)) → m.0.grace ≡ Works q t mark looks → GraceBecomes (Rests st.first t) (SeqEven ∷ []) m m' × HaveEnded mark m'.0.seen × (seq_of m'.0.seen ≡ st.first) × (present_of m'.0.seen ≡ t)
