-- The verbs of each actor are read exactly.
use Rattle.call_text.proofs.Cited.{◌≡◌, ℕ, zero, suc, ◌<◌, List, [], ◌∷◌, length, map, get_or, refl, ap, arith, inl, inr, codes, Contains, word_at, InTable, Lang, table_lang, as_lang}
use Rattle.call_text.specs.declared.call.Actor.{Actor}
use Rattle.call_text.specs.declared.call.Actor.TheVariants.{Reader, Updater, Worker, List as KeyedList, Table, Domain}
use Rattle.call_text.specs.declared.call.Verb.{Verb}
use Rattle.call_text.specs.declared.call.Verb.TheVariants as verb
use Rattle.call_text.specs.declared.words.VerbWord.{VerbWord}
use Rattle.call_text.specs.Spelling.{written, verbs_of}
use Rattle.call_text.specs.Grammar.{verb_words, verb_at}

-- what a verb's word stands for, and its row in a table
abbrev pub word_of : Verb → VerbWord
word_of v = record { 0 = v; 1 = (written v).1 }

abbrev row_of : Verb → List ℕ × VerbWord
row_of v = ((written v).0, word_of v)

rows_are : (a : Actor) → map row_of (verbs_of a) ≡ verb_words a
rows_are (Reader n) = refl
rows_are (Updater n) = refl
rows_are (Worker n) = refl
rows_are (KeyedList n) = refl
rows_are (Table n) = refl
rows_are Domain = refl

-- the word of a verb that is in the list
abbrev pub VerbText : Actor → VerbWord → List ℕ → Type 0
VerbText a w text = Contains (verbs_of a) w.0 × (w ≡ word_of w.0) × (text ≡ (written w.0).0)

abbrev Listed : List Verb → VerbWord → List ℕ → Type 0
Listed vs w text = Contains vs w.0 × (w ≡ word_of w.0) × (text ≡ (written w.0).0)

rows_spelled : (vs : List Verb) (w : VerbWord) (text : List ℕ) → InTable (map row_of vs) w text → Listed vs w text
rows_spelled [] w text i = absurd i
rows_spelled (v ∷ vs) w text (inl s) = rw (← s.1, ← s.0) ((0, omega arith, refl), refl, refl)
rows_spelled (v ∷ vs) w text (inr i) = let r = rows_spelled vs w text i in ((suc r.0.0, omega (arith, r.0.1), r.0.2), r.1, r.2)

rows_unspelled : (vs : List Verb) (v : Verb) (k : ℕ) → k < length vs → get_or vs k v ≡ v → InTable (map row_of vs) (word_of v) (written v).0
rows_unspelled [] v k lt e = absurd (omega arith)
rows_unspelled (x ∷ vs) v zero lt e = inl (ap (λ (y : Verb). (written y).0) e, ap word_of e)
rows_unspelled (x ∷ vs) v (suc k) lt e = inr (rows_unspelled vs v k (omega arith) e)

words_lang : (a : Actor) → Lang (InTable (verb_words a)) (word_at (verb_words a))
words_lang (Reader n) = table_lang (verb_words (Reader n)) refl (word_of verb.Register, codes "register\n", inl (refl, refl))
words_lang (Updater n) = table_lang (verb_words (Updater n)) refl (word_of verb.Chain, codes "chain c", inl (refl, refl))
words_lang (Worker n) = table_lang (verb_words (Worker n)) refl (word_of verb.Run, codes "run\n", inl (refl, refl))
words_lang (KeyedList n) = table_lang (verb_words (KeyedList n)) refl (word_of verb.NewList, codes "new c", inl (refl, refl))
words_lang (Table n) = table_lang (verb_words (Table n)) refl (word_of verb.NewTable, codes "new c", inl (refl, refl))
words_lang Domain = table_lang (verb_words Domain) refl (word_of verb.Counts, codes "counts\n", inl (refl, refl))

pub verb_lang : (a : Actor) → Lang (VerbText a) (verb_at a)
unfolding verb_at
verb_lang a =
    as_lang (words_lang a)
    (λ w u i. rows_spelled (verbs_of a) w u (rw (← rows_are a) at i))
    (λ w u s. rw (← rows_are a, s.1, s.2) (rows_unspelled (verbs_of a) w.0 s.0.0 s.0.1 s.0.2))
