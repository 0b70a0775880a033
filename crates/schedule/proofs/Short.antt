-- How long a line and a header can be.
use Rattle.schedule.proofs.Cited.{◌≡◌, ℕ, ◌+◌, ◌≤◌, List, [], ◌∷◌, ◌++◌, length, ap, arith, lit<, codes, decimal, length-decimal-le, length-append, reader_verb, updater_verb, worker_verb, spelling, IsNumber, IsReaderVerb, IsUpdaterVerb, IsLine, LineText, version, flavour_text, field, header, IsHeader, HeaderText, line_at, header_at, Layout, Narrow, Wide, Config, Flavour, Memb, Qsbr, Line, Reader, Updater, Worker, ReaderVerb, UpdaterVerb, WorkerVerb, line_reads, no_line, header_reads, no_header}
use Rattle.world_state.specs.declared.line.ReaderVerb.TheVariants as reader
use Rattle.world_state.specs.declared.line.UpdaterVerb.TheVariants as updater
use Rattle.world_state.specs.declared.line.WorkerVerb.TheVariants as worker
use Rattle.schedule.specs.Next.{IsIncremental}
use Rattle.schedule.proofs.Bytes.{incremental}

short : (n : ℕ) → IsNumber n → length (decimal n) ≤ 9
short n h = length-decimal-le 9 n (lit< tt) h (omega (arith, h))

-- ---- lines

with_number : (w : List ℕ) (n : ℕ) → length w ≤ 10 → IsNumber n → length (w ++ decimal n ++ 10 ∷ []) ≤ 20
with_number w n le h = omega (arith, length-append (w ++ decimal n) (10 ∷ []), length-append w (decimal n), short n h)

reader_short : (v : ReaderVerb) → IsReaderVerb v → length (reader_verb v) ≤ 20
reader_short (reader.First c) h = with_number (codes "first c") c (omega arith) h
reader_short reader.Lock h = omega arith
reader_short reader.Unlock h = omega arith
reader_short reader.Online h = omega arith
reader_short reader.Quiescent h = omega arith
reader_short reader.Offline h = omega arith
reader_short reader.Next h = omega arith
reader_short reader.Touch h = omega arith
reader_short reader.GoOn h = omega arith

updater_short : (v : UpdaterVerb) → IsUpdaterVerb v → length (updater_verb v) ≤ 20
updater_short (updater.Push c) h = with_number (codes "push c") c (omega arith) h
updater_short (updater.Replace o) h = with_number (codes "replace o") o.0 (omega arith) h
updater_short (updater.Cut o) h = with_number (codes "cut o") o.0 (omega arith) h
updater_short (updater.Retire o) h = with_number (codes "retire o") o.0 (omega arith) h
updater_short updater.Sync h = omega arith
updater_short updater.Start h = omega arith
updater_short updater.Poll h = omega arith
updater_short updater.Barrier h = omega arith
updater_short updater.GoOn h = omega arith

worker_short : (v : WorkerVerb) → length (worker_verb v) ≤ 20
worker_short worker.Take = omega arith
worker_short worker.GoOn = omega arith

actor_short : (a : ℕ) (n : ℕ) (verb : List ℕ) → IsNumber n → length verb ≤ 20 → length ((a ∷ []) ++ decimal n ++ 32 ∷ [] ++ verb) ≤ 31
actor_short a n verb h le =
    omega (arith, length-append ((a ∷ []) ++ decimal n ++ 32 ∷ []) verb, length-append ((a ∷ []) ++ decimal n) (32 ∷ []), length-append (a ∷ []) (decimal n), short n h)

line_short : (l : Line) → IsLine l → length (spelling l) ≤ 31
line_short (Reader n v) h = actor_short 114 n (reader_verb v) h.0 (reader_short v h.1)
line_short (Updater n v) h = actor_short 117 n (updater_verb v) h.0 (updater_short v h.1)
line_short (Worker n v) h = actor_short 119 n (worker_verb v) h (worker_short v)

pub line_incremental : IsIncremental line_at
line_incremental = incremental LineText line_at line_reads no_line (λ l text s. omega (arith, line_short l s.0, ap length s.1))

-- ---- headers

version_short : (l : Layout) → length (version l) ≡ 11
version_short Narrow = omega arith
version_short Wide = omega arith

flavour_short : (f : Flavour) → length (flavour_text f) ≡ 5
flavour_short Memb = omega arith
flavour_short Qsbr = omega arith

field_short : (n b : ℕ) (rest : List ℕ) → IsNumber n → length (field n (b ∷ []) ++ rest) ≤ 10 + length rest
field_short n b rest h = omega (arith, length-append (field n (b ∷ [])) rest, length-append (decimal n) (b ∷ []), short n h)

last_short : (n b : ℕ) → IsNumber n → length (field n (b ∷ [])) ≤ 10
last_short n b h = omega (arith, length-append (decimal n) (b ∷ []), short n h)

header_short : (c : Config) → IsHeader c → length (header c) ≤ 56
header_short c h =
    let chains = field c.chains (codes "\n") in
    let workers = field c.workers (codes " ") ++ chains in
    let updaters = field c.updaters (codes " ") ++ workers in
    let readers = field c.readers (codes " ") ++ updaters in
    let flavour = flavour_text c.flavour ++ readers in
    omega (
      arith,
      length-append (version c.layout) flavour,
      version_short c.layout,
      length-append (flavour_text c.flavour) readers,
      flavour_short c.flavour,
      field_short c.readers 32 updaters h.readers,
      field_short c.updaters 32 workers h.updaters,
      field_short c.workers 32 chains h.workers,
      last_short c.chains 10 h.chains,
    )

pub header_incremental : IsIncremental header_at
header_incremental = incremental HeaderText header_at header_reads no_header (λ c text s. omega (arith, header_short c s.0, ap length s.1))
