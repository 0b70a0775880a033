-- Who calls is read exactly.
use Rattle.call_text.proofs.Cited.{◌≡◌, ℕ, List, [], ◌∷◌, ◌++◌, refl, sym, subst, ◌∙◌, inl, inr, codes, decimal, append-nil, word_at, number_at, done, IsNumber, Done, Then, InTable, NumberText, Lang, then_lang, done_lang, number_lang, table_lang, as_lang}
use Rattle.call_text.specs.declared.call.Actor.{Actor}
use Rattle.call_text.specs.declared.call.Actor.TheVariants.{Reader, Updater, Worker, List as KeyedList, Table, Domain}
use Rattle.call_text.specs.declared.words.ActorWord.{ActorWord}
use Rattle.call_text.specs.declared.words.ActorWord.TheVariants as actors
use Rattle.call_text.specs.Spelling.{IsActor, actor_text}
use Rattle.call_text.specs.Grammar.{actor_words, numbered_at, actor_rest, actor_at}

abbrev Numbered : (ℕ → Actor) → Actor → List ℕ → Type 0
Numbered make = Then (NumberText 32) (λ n. Done (make n))

abbrev Rest : ActorWord → Actor → List ℕ → Type 0
Rest actors.Reader = Numbered Reader
Rest actors.Updater = Numbered Updater
Rest actors.Worker = Numbered Worker
Rest actors.List = Numbered KeyedList
Rest actors.Table = Numbered Table
Rest actors.Domain = Done Domain

numbered_lang : (make : ℕ → Actor) → Lang (Numbered make) (numbered_at make)
numbered_lang make = then_lang (NumberText 32) (λ n. Done (make n)) (number_at 32) (λ n. done (make n)) (number_lang 32 refl) (λ n. done_lang (make n))

rest_lang : (w : ActorWord) → Lang (Rest w) (actor_rest w)
rest_lang actors.Reader = numbered_lang Reader
rest_lang actors.Updater = numbered_lang Updater
rest_lang actors.Worker = numbered_lang Worker
rest_lang actors.List = numbered_lang KeyedList
rest_lang actors.Table = numbered_lang Table
rest_lang actors.Domain = done_lang Domain

abbrev pub ActorText : Actor → List ℕ → Type 0
ActorText a text = IsActor a × (text ≡ actor_text a)

-- the letter of an actor, its number and a space
numbered_text : (make : ℕ → Actor) (w : List ℕ) → ((n : ℕ) → IsNumber n → ActorText (make n) (w ++ (decimal n ++ 32 ∷ []))) → (a : Actor) (u : List ℕ) → Numbered make a u → ActorText a (w ++ u)
numbered_text make w h a u s =
    let is : u ≡ decimal s.0 ++ 32 ∷ [] = s.5 ∙ rw (s.4.1, append-nil) s.3.1 in
    subst (λ (b : Actor). ActorText b (w ++ u)) s.4.0 (rw is (h s.0 s.3.0))

numbered_back : (make : ℕ → Actor) (n : ℕ) → IsNumber n → Numbered make (make n) (decimal n ++ 32 ∷ [])
numbered_back make n h = (n, decimal n ++ 32 ∷ [], [], (h, refl), (refl, refl), sym (append-nil (decimal n ++ 32 ∷ [])))

actor_spelled : (a : Actor) (text : List ℕ) → Then (InTable actor_words) Rest a text → ActorText a text
actor_spelled a text s = rw s.5 (each s.0 s.1 s.3 s.2 s.4)
  where
    each : (k : ActorWord) (w : List ℕ) → InTable actor_words k w → (u : List ℕ) → Rest k a u → ActorText a (w ++ u)
    each k w (inl s) u r = rw (← s.0) (numbered_text Reader (codes "r") (λ n h. (h, refl)) a u (subst (λ (j : ActorWord). Rest j a u) (sym s.1) r))
    each k w (inr (inl s)) u r = rw (← s.0) (numbered_text Updater (codes "u") (λ n h. (h, refl)) a u (subst (λ (j : ActorWord). Rest j a u) (sym s.1) r))
    each k w (inr (inr (inl s))) u r = rw (← s.0) (numbered_text Worker (codes "w") (λ n h. (h, refl)) a u (subst (λ (j : ActorWord). Rest j a u) (sym s.1) r))
    each k w (inr (inr (inr (inl s)))) u r = rw (← s.0) (numbered_text KeyedList (codes "l") (λ n h. (h, refl)) a u (subst (λ (j : ActorWord). Rest j a u) (sym s.1) r))
    each k w (inr (inr (inr (inr (inl s))))) u r = rw (← s.0) (numbered_text Table (codes "t") (λ n h. (h, refl)) a u (subst (λ (j : ActorWord). Rest j a u) (sym s.1) r))
    each k w (inr (inr (inr (inr (inr (inl s)))))) u r =
        let d = subst (λ (j : ActorWord). Rest j a u) (sym s.1) r in
        subst (λ (b : Actor). ActorText b (w ++ u)) d.0 (rw (← s.0, d.1) (tt, refl))
    each k w (inr (inr (inr (inr (inr (inr s)))))) u r = absurd s

actor_unspelled : (a : Actor) (text : List ℕ) → ActorText a text → Then (InTable actor_words) Rest a text
actor_unspelled (Reader n) text s = (actors.Reader, codes "r", decimal n ++ 32 ∷ [], inl (refl, refl), numbered_back Reader n s.0, s.1)
actor_unspelled (Updater n) text s = (actors.Updater, codes "u", decimal n ++ 32 ∷ [], inr (inl (refl, refl)), numbered_back Updater n s.0, s.1)
actor_unspelled (Worker n) text s = (actors.Worker, codes "w", decimal n ++ 32 ∷ [], inr (inr (inl (refl, refl))), numbered_back Worker n s.0, s.1)
actor_unspelled (KeyedList n) text s = (actors.List, codes "l", decimal n ++ 32 ∷ [], inr (inr (inr (inl (refl, refl)))), numbered_back KeyedList n s.0, s.1)
actor_unspelled (Table n) text s = (actors.Table, codes "t", decimal n ++ 32 ∷ [], inr (inr (inr (inr (inl (refl, refl))))), numbered_back Table n s.0, s.1)
actor_unspelled Domain text s = (actors.Domain, codes "d ", [], inr (inr (inr (inr (inr (inl (refl, refl)))))), (refl, refl), s.1)

pub actor_lang : Lang ActorText actor_at
unfolding actor_at
actor_lang =
    as_lang (then_lang (InTable actor_words) Rest (word_at actor_words) actor_rest (table_lang actor_words refl (actors.Reader, codes "r", inl (refl, refl))) rest_lang)
    actor_spelled actor_unspelled
