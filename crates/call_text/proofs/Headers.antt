-- The header is read exactly.
use Rattle.call_text.proofs.Cited.{◌≡◌, ℕ, Bool, true, false, cond, eqb, List, [], ◌∷◌, ◌++◌, Err, refl, sym, subst, ◌∙◌, append_assoc, inl, inr, lit<, lit≤, codes, ◌||◌, is_ascii_digit, decimal, eqb-true, append-nil, ◌>>=◌, is_end, word_from, word_on, word_at, number_at, ended_number_at, done, IsNumber, Reads, Done, Then, InTable, EndedText, NumberText, NoDigit, ended_reads, Lang, then_lang, done_lang, number_lang, table_lang, as_lang}
use Rattle.call_text.specs.declared.call.Header.{Header}
use Rattle.call_text.specs.Header.{flavour_text, maps_text, header, HeaderText}
use Rattle.call_text.specs.Grammar.{flavours, maps_word, maps_at, header_at}

-- ---- the last number, and how the header ends

or_false : (a b : Bool) → a ≡ false → (a || b) ≡ true → b ≡ true
or_false true b fails e = absurd cc
or_false false b fails e = e

is_space : (e : ℕ) → eqb e 10 ≡ false → is_end 10 32 e ≡ true → e ≡ 32
is_space e other is = eqb-true e 32 (or_false (eqb e 10) (eqb e 32) other is)

ends : NoDigit 10 32
ends e is = by_test (eqb e 10) refl
  where
    by_test : (b : Bool) → eqb e 10 ≡ b → is_ascii_digit e ≡ false
    by_test true t = rw (eqb-true e 10 t) refl
    by_test false t = rw (is_space e t is) refl

pool_lang : Lang (EndedText 1000000000 10 32) (ended_number_at 100000000 10 32)
pool_lang = record { reads = ended_reads 100000000 10 32 (lit< tt) (lit≤ tt) ends refl; some = ((0, 10), decimal 0 ++ 10 ∷ [], (lit< tt, refl, refl)) }

-- what comes after the last number, where a line feed ended it and where a space did
abbrev MapsBy : Bool → Bool → List ℕ → Type 0
MapsBy true = Done false
MapsBy false = InTable maps_word

maps_by_lang : (b : Bool) → Lang (MapsBy b) (λ t. cond b (done false t) (word_at maps_word t))
maps_by_lang true = done_lang false
maps_by_lang false = table_lang maps_word refl (true, codes "maps\n", inl (refl, refl))

maps_by : (b : Bool) (e : ℕ) (m : Bool) (text : List ℕ) → (b ≡ true → e ≡ 10) → (b ≡ false → e ≡ 32) → MapsBy b m text → e ∷ text ≡ maps_text m
maps_by true e m text feed space s = rw (feed refl, s.1, ← s.0) refl
maps_by false e m text feed space (inl s) = rw (space refl, ← s.0, ← s.1) refl
maps_by false e m text feed space (inr s) = absurd s

-- ---- the header

abbrev made : Bool → ℕ → ℕ → ℕ → ℕ → Bool → Header
made f s q c p m = record { qsbr = f; slots = s; queues = q; chains = c; pool = p; maps = m }

abbrev MapsText : Bool → ℕ → ℕ → ℕ → ℕ × ℕ → Header → List ℕ → Type 0
MapsText f s q c p = Then (MapsBy (eqb p.1 10)) (λ m. Done (made f s q c p.0 m))

abbrev PoolText : Bool → ℕ → ℕ → ℕ → Header → List ℕ → Type 0
PoolText f s q c = Then (EndedText 1000000000 10 32) (MapsText f s q c)

abbrev ChainsText : Bool → ℕ → ℕ → Header → List ℕ → Type 0
ChainsText f s q = Then (NumberText 32) (PoolText f s q)

abbrev QueuesText : Bool → ℕ → Header → List ℕ → Type 0
QueuesText f s = Then (NumberText 32) (ChainsText f s)

abbrev SlotsText : Bool → Header → List ℕ → Type 0
SlotsText f = Then (NumberText 32) (QueuesText f)

maps_lang : (f : Bool) (s q c : ℕ) (p : ℕ × ℕ) → Lang (MapsText f s q c p) (λ t. maps_at p.1 t >>= λ m. done (made f s q c p.0 m.0) m.1)
maps_lang f s q c p = then_lang (MapsBy (eqb p.1 10)) (λ m. Done (made f s q c p.0 m)) (maps_at p.1) (λ m. done (made f s q c p.0 m)) (maps_by_lang (eqb p.1 10)) (λ m. done_lang (made f s q c p.0 m))

chains_lang : (f : Bool) (s q c : ℕ) → Lang (PoolText f s q c) (λ t. ended_number_at 100000000 10 32 t >>= λ p. maps_at p.0.1 p.1 >>= λ m. done (made f s q c p.0.0 m.0) m.1)
chains_lang f s q c = then_lang (EndedText 1000000000 10 32) (MapsText f s q c) (ended_number_at 100000000 10 32) (λ p t. maps_at p.1 t >>= λ m. done (made f s q c p.0 m.0) m.1) pool_lang (maps_lang f s q c)

queues_lang : (f : Bool) (s q : ℕ) → Lang (ChainsText f s q) (λ t. number_at 32 t >>= λ c. ended_number_at 100000000 10 32 c.1 >>= λ p. maps_at p.0.1 p.1 >>= λ m. done (made f s q c.0 p.0.0 m.0) m.1)
queues_lang f s q = then_lang (NumberText 32) (PoolText f s q) (number_at 32) (λ c t. ended_number_at 100000000 10 32 t >>= λ p. maps_at p.0.1 p.1 >>= λ m. done (made f s q c p.0.0 m.0) m.1) (number_lang 32 refl) (chains_lang f s q)

slots_lang : (f : Bool) (s : ℕ) → Lang (QueuesText f s) (λ t. number_at 32 t >>= λ q. number_at 32 q.1 >>= λ c. ended_number_at 100000000 10 32 c.1 >>= λ p. maps_at p.0.1 p.1 >>= λ m. done (made f s q.0 c.0 p.0.0 m.0) m.1)
slots_lang f s = then_lang (NumberText 32) (ChainsText f s) (number_at 32) (λ q t. number_at 32 t >>= λ c. ended_number_at 100000000 10 32 c.1 >>= λ p. maps_at p.0.1 p.1 >>= λ m. done (made f s q c.0 p.0.0 m.0) m.1) (number_lang 32 refl) (queues_lang f s)

flavour_lang : (f : Bool) → Lang (SlotsText f) (λ t. number_at 32 t >>= λ s. number_at 32 s.1 >>= λ q. number_at 32 q.1 >>= λ c. ended_number_at 100000000 10 32 c.1 >>= λ p. maps_at p.0.1 p.1 >>= λ m. done (made f s.0 q.0 c.0 p.0.0 m.0) m.1)
flavour_lang f = then_lang (NumberText 32) (QueuesText f) (number_at 32) (λ s t. number_at 32 t >>= λ q. number_at 32 q.1 >>= λ c. ended_number_at 100000000 10 32 c.1 >>= λ p. maps_at p.0.1 p.1 >>= λ m. done (made f s q.0 c.0 p.0.0 m.0) m.1) (number_lang 32 refl) (slots_lang f)

flavour_is : (f : Bool) (w : List ℕ) → InTable flavours f w → w ≡ flavour_text f
flavour_is f w (inl s) = rw (← s.0, ← s.1) refl
flavour_is f w (inr (inl s)) = rw (← s.0, ← s.1) refl
flavour_is f w (inr (inr s)) = absurd s

flavour_in : (f : Bool) → InTable flavours f (flavour_text f)
flavour_in false = inl (refl, refl)
flavour_in true = inr (inl (refl, refl))

header_spelled : (h : Header) (text : List ℕ) → Then (InTable flavours) SlotsText h text → HeaderText h text
header_spelled h text x =
    let s = x.4 in let q = s.4 in let c = q.4 in let p = c.4 in let m = p.4 in
    let is : made x.0 s.0 q.0 c.0 p.0.0 m.0 ≡ h = m.4.0 in
    let tail : p.0.1 ∷ m.1 ≡ maps_text m.0 = maps_by (eqb p.0.1 10) p.0.1 m.0 m.1 (eqb-true p.0.1 10) (λ other. is_space p.0.1 other p.3.1) m.3 in
    let t : text ≡ header (made x.0 s.0 q.0 c.0 p.0.0 m.0) = x.5 ∙ rw (flavour_is x.0 x.1 x.3, s.5, s.3.1, q.5, q.3.1, c.5, c.3.1, p.5, p.3.2, m.5, m.4.1, ← tail) (simp (append-nil, append_assoc)) in
    subst (λ (d : Header). HeaderText d text) is (record { slots = s.3.0; queues = q.3.0; chains = c.3.0; pool = p.3.0 }, t)

pool_back : (f : Bool) (s q c p : ℕ) (m : Bool) → IsNumber p → PoolText f s q c (made f s q c p m) (decimal p ++ maps_text m)
pool_back f s q c p false h = ((p, 10), decimal p ++ 10 ∷ [], [], (h, refl, refl), (false, [], [], (refl, refl), (refl, refl), refl), sym (append-nil (decimal p ++ 10 ∷ [])))
pool_back f s q c p true h = ((p, 32), decimal p ++ 32 ∷ [], codes "maps\n", (h, refl, refl), (true, codes "maps\n", [], inl (refl, refl), (refl, refl), refl), sym (append_assoc (decimal p) (32 ∷ []) (codes "maps\n")))

header_unspelled : (h : Header) (text : List ℕ) → HeaderText h text → Then (InTable flavours) SlotsText h text
header_unspelled h text x =
    let is = x.0 in
    let pool = decimal h.pool ++ maps_text h.maps in
    let chains = (decimal h.chains ++ 32 ∷ []) ++ pool in
    let queues = (decimal h.queues ++ 32 ∷ []) ++ chains in
    let slots = (decimal h.slots ++ 32 ∷ []) ++ queues in (
      h.qsbr,
      flavour_text h.qsbr,
      slots,
      flavour_in h.qsbr,
      (
        h.slots,
        decimal h.slots ++ 32 ∷ [],
        queues,
        (is.slots, refl),
        (
          h.queues,
          decimal h.queues ++ 32 ∷ [],
          chains,
          (is.queues, refl),
          (h.chains, decimal h.chains ++ 32 ∷ [], pool, (is.chains, refl), pool_back h.qsbr h.slots h.queues h.chains h.pool h.maps is.pool, refl),
          refl,
        ),
        refl,
      ),
      x.1 ∙ simp append_assoc,
    )

pub header_reads : Reads HeaderText header_at
unfolding header_at
header_reads =
    (as_lang (then_lang (InTable flavours) SlotsText (word_at flavours) (λ f t. number_at 32 t >>= λ s. number_at 32 s.1 >>= λ q. number_at 32 q.1 >>= λ c. ended_number_at 100000000 10 32 c.1 >>= λ p. maps_at p.0.1 p.1 >>= λ m. done (made f s.0 q.0 c.0 p.0.0 m.0) m.1)
    (table_lang flavours refl (false, codes "calls 1 memb ", inl (refl, refl))) flavour_lang)
    header_spelled header_unspelled).reads

-- no bytes are a beginning that goes on
pub no_header : header_at [] ≡ Err []
unfolding header_at word_on word_from
no_header = refl
