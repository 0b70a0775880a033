-- The header is read exactly.
use Rattle.schedule_text.proofs.Cited.{arith, ◌≡◌, ℕ, List, [], ◌∷◌, ◌++◌, Err, refl, sym, subst, ◌∙◌, inl, codes, decimal, append-nil, Layout, Narrow, Config, Flavour, Memb}
use Rattle.schedule_text.specs.Reading.{word_from, word_on}
use Rattle.schedule_text.specs.Grammar.{layouts, flavours, header_at}
use Rattle.schedule_text.specs.Header.{version, flavour_text, header, HeaderText}
use Rattle.schedule_text.proofs.Exact.{Reads, Done, Then, reads_as}
use Rattle.schedule_text.proofs.Tables.{InTable}
use Rattle.schedule_text.proofs.Numbers.{NumberText}
use Rattle.schedule_text.proofs.Verbs.{each_row}
use Rattle.schedule_text.proofs.Langs.{Lang, read_then, done_lang, number_lang, table_lang}

abbrev made : Layout → Flavour → ℕ → ℕ → ℕ → ℕ → Config
made l f r u w c = record { layout = l; flavour = f; readers = r; updaters = u; workers = w; chains = c }

abbrev ChainsText : Layout → Flavour → ℕ → ℕ → ℕ → Config → List ℕ → Type 0
ChainsText l f r u w = Then (NumberText 10) (λ c. Done (made l f r u w c))

abbrev WorkersText : Layout → Flavour → ℕ → ℕ → Config → List ℕ → Type 0
WorkersText l f r u = Then (NumberText 32) (ChainsText l f r u)

abbrev UpdatersText : Layout → Flavour → ℕ → Config → List ℕ → Type 0
UpdatersText l f r = Then (NumberText 32) (WorkersText l f r)

abbrev ReadersText : Layout → Flavour → Config → List ℕ → Type 0
ReadersText l f = Then (NumberText 32) (UpdatersText l f)

abbrev FlavourText : Layout → Config → List ℕ → Type 0
FlavourText l = Then (InTable flavours) (ReadersText l)

header_lang : Lang (Then (InTable layouts) FlavourText) header_at
unfolding header_at
header_lang =
    read_then _ (table_lang layouts refl (Narrow, codes "schedule 1 ", inl (refl, refl))) (λ l. read_then _ (table_lang flavours refl (Memb, codes "memb ", inl (refl, refl))) (λ f. read_then _ (number_lang 32 refl) (λ r.
    read_then _ (number_lang 32 refl) (λ u. read_then _ (number_lang 32 refl) (λ w. read_then _ (number_lang 10 refl) (λ c. done_lang (made l f r u w c)))))))

layout_is : (l : Layout) (w : List ℕ) → InTable layouts l w → w ≡ version l
layout_is l w i = each_row (λ v k. v ≡ version k) layouts l w (refl, (refl, tt)) i

flavour_is : (f : Flavour) (w : List ℕ) → InTable flavours f w → w ≡ flavour_text f
flavour_is f w i = each_row (λ v k. v ≡ flavour_text k) flavours f w (refl, (refl, tt)) i

layout_in : (l : Layout) → InTable layouts l (version l)
layout_in l = grind arith

flavour_in : (f : Flavour) → InTable flavours f (flavour_text f)
flavour_in f = grind arith

header_spelled : (c : Config) (text : List ℕ) → Then (InTable layouts) FlavourText c text → HeaderText c text
header_spelled c text s =
    let f = s.4 in let r = f.4 in let u = r.4 in let w = u.4 in let n = w.4 in
    let is : made s.0 f.0 r.0 u.0 w.0 n.0 ≡ c = n.4.0 in
    let t : text ≡ header (made s.0 f.0 r.0 u.0 w.0 n.0) = s.5 ∙ rw (layout_is s.0 s.1 s.3, f.5, flavour_is f.0 f.1 f.3, r.5, r.3.1, u.5, u.3.1, w.5, w.3.1, n.5, n.3.1, n.4.1) (simp append-nil) in
    subst (λ (d : Config). HeaderText d text) is (record { readers = r.3.0; updaters = u.3.0; workers = w.3.0; chains = n.3.0 }, t)

header_unspelled : (c : Config) (text : List ℕ) → HeaderText c text → Then (InTable layouts) FlavourText c text
header_unspelled c text s =
    let h = s.0 in
    let chains = decimal c.chains ++ 10 ∷ [] in
    let workers = (decimal c.workers ++ 32 ∷ []) ++ chains in
    let updaters = (decimal c.updaters ++ 32 ∷ []) ++ workers in
    let readers = (decimal c.readers ++ 32 ∷ []) ++ updaters in
    let of_chains : ChainsText c.layout c.flavour c.readers c.updaters c.workers c chains = (c.chains, chains, [], (h.chains, refl), (refl, refl), sym (append-nil chains)) in
    let of_workers : WorkersText c.layout c.flavour c.readers c.updaters c workers = (c.workers, decimal c.workers ++ 32 ∷ [], chains, (h.workers, refl), of_chains, refl) in
    let of_updaters : UpdatersText c.layout c.flavour c.readers c updaters = (c.updaters, decimal c.updaters ++ 32 ∷ [], workers, (h.updaters, refl), of_workers, refl) in
    let of_readers : ReadersText c.layout c.flavour c readers = (c.readers, decimal c.readers ++ 32 ∷ [], updaters, (h.readers, refl), of_updaters, refl) in
    (c.layout, version c.layout, flavour_text c.flavour ++ readers, layout_in c.layout, (c.flavour, flavour_text c.flavour, readers, flavour_in c.flavour, of_readers, refl), s.1)

pub header_reads : Reads HeaderText header_at
header_reads = reads_as header_lang.reads header_spelled header_unspelled

-- no bytes are a beginning that goes on
pub no_header : header_at [] ≡ Err []
unfolding header_at word_on word_from
no_header = refl
