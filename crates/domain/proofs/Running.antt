-- What a worker keeps, and what it has run.
use Rattle.domain.proofs.Cited.{Gv, Bool, true, false, ◌≡◌, ◌≢◌, ℕ, zero, suc, ◌+◌, ◌<◌, ◌≤◌, List, [], ◌∷◌, ◌++◌, length, reverse, append_assoc, sym, refl, ap, ◌∙◌, subst, arith, inl, inr, ⊎_elim, ◌==◌, some, some-injective, eqb_tells, get_elem?, length-append, reverse-append, at_longer, Me, Seat, ObjectId, In, Item, Ripe, Finished, LiveEvent, Close, Log, Begins, HaveEnded, HaveRun, IsLiveRun, line_of, state_of, begins_trans, grows_log, has_since, line_grows, Look, Loaded, Stored, View, closed_at, finished_at, queued_at, work_at, Wrote, bare, Sizes, IsKnown, Keeps, Went, looked_view, IsAt, TookNoMore, CountsQueued, InOrder, IsPlaced, JobValue, AreRunAs, IsRunAs, Lists}
pub use Rattle.live_callbacks.proofs.Lemmas.{all_and, all_later, due_later}
use Rattle.domain.specs.declared.worker_end.Stop.{Stop}
use Rattle.domain.specs.declared.working.Outcome.{Outcome}
use Rattle.domain.specs.declared.working.Outcome.TheVariants.{Ran, Nothing}
use Rattle.domain.specs.declared.working.Outcome.TheVariants as outcome
use Rattle.domain.specs.Working.{FoundUsedUp, GoesOn, HasMore, HasWorked, IsRound, KeepsFinds, Looks, LooksOfNone, RanBatches, Rounds, left_by}

stands_later : (old new : Log) (q n : ℕ) (o : ObjectId) → Begins old new → IsAt q n o old → IsAt q n o new
stands_later old new q n o b at = let g = line_grows old new q b in ap (λ (l : List ObjectId). get_elem? l n) g.1 ∙ at_longer (line_of old q) g.0 n o at

pub ended_later : (mark old new : Log) → Begins old new → HaveEnded mark old → HaveEnded mark new
ended_later mark old new b ended r n m at = has_since (Close r n) old new b (ended r n m at)

pub line_longer : (old new : Log) (q : ℕ) → Begins old new → length (line_of old q) ≤ length (line_of new q)
line_longer old new q b = let g = line_grows old new q b in let e = ap (λ (l : List ObjectId). length l) g.1 ∙ length-append (line_of old q) g.0 in omega (arith, e)

-- of the list, in a later log
pub list_later : {D : Type 0} (code : D → Gv) (answers : D → Ripe → ℕ → Type 0) (qsbr : Bool) (allows : Log → LiveEvent → Type 0) (q : ℕ) (old new : Log) (first last : ℕ) (a b : List Finished) → Begins old new → IsLiveRun qsbr allows new → b ≡ a → Lists code answers q old first last a → Lists code answers q new first last b
list_later code answers qsbr allows q old new first last a b x run e l = subst (λ (z : List Finished). Lists code answers q new first last z) (sym e) (all_later code answers qsbr allows q old new first a x run l.0, l.1)

-- more were queued, as one knows who sees all that was seen and heard of
pub more_known : (q n : ℕ) (v : View) (log : Log) → Begins v.seen log → Begins v.heard log → IsKnown (HasMore q n) v → HasMore q n log
more_known q n v log seen heard known = ⊎_elim (λ (m : HasMore q n v.seen). let l = line_longer v.seen log q seen in omega (arith, m, l)) (λ (m : HasMore q n v.heard). let l = line_longer v.heard log q heard in omega (arith, m, l)) known

-- what is left is so in a later log
pub order_later : {D : Type 0} (q : ℕ) (old new : Log) (n : ℕ) (items : List (Item (JobValue D))) → Begins old new → InOrder q old n items → InOrder q new n items
order_later q old new n [] b x = x
order_later q old new n (i ∷ is) b x = (record { turn = x.0.turn; known = begins_trans i.job.0.seen old new x.0.known b; named = x.0.named; noted = x.0.noted }, order_later q old new (n + 1) is b x.1)

-- and so is nothing
pub none_in_order : {D : Type 0} (q : ℕ) (log : Log) (n : ℕ) (items : List (Item (JobValue D))) → items ≡ [] → InOrder q log n items
none_in_order q log n items e = subst (InOrder q log n) (sym e) tt

-- of a batch, whose last item comes first
pub order_popped : {D : Type 0} (q : ℕ) (log : Log) (n : ℕ) (items rest : List (Item (JobValue D))) (item : Item (JobValue D)) → items ≡ rest ++ item ∷ [] → InOrder q log n (reverse items) → IsPlaced q log n item × InOrder q log (n + 1) (reverse rest)
order_popped q log n items rest item e o = subst (InOrder q log n) (ap reverse e ∙ reverse-append rest (item ∷ [])) o

pub none_left : {D : Type 0} (items : List (Item (JobValue D))) → length items ≡ 0 → items ≡ []
none_left [] e = refl
none_left (x ∷ xs) e = absurd (omega (arith, e))

-- what has run stays so
some_at : (l : List ObjectId) (n : ℕ) → n < length l → (o : ObjectId) × (get_elem? l n ≡ some o)
some_at [] n low = absurd (omega arith)
some_at (x ∷ xs) zero low = (x, refl)
some_at (x ∷ xs) (suc n) low = some_at xs n (omega arith)

have_later : (q n : ℕ) (old new : Log) → Begins old new → n ≤ length (line_of old q) → HaveRun q n old → HaveRun q n new
have_later q n old new b low ran k o less at =
    let there = some_at (line_of old q) k (omega (arith, low, less)) in
    let same : there.0 ≡ o = some-injective there.0 o (sym (stands_later old new q k there.0 b there.1) ∙ at) in
    (grows_log old new b).reclaimed o (ran k o less (there.1 ∙ ap some same))

one_more : {D : Type 0} (code : D → Gv) (answers : D → Ripe → ℕ → Type 0) (q : ℕ) (log : Log) (n : ℕ) (entry : Finished) → HaveRun q n log → IsRunAs code answers q log n entry → HaveRun q (n + 1) log
one_more code answers q log n entry ran x k o less at = ⊎_elim
    (λ (y : ((k == n) ≡ true) × (k ≡ n)). let same : entry.object ≡ o = some-injective entry.object o (sym x.turn ∙ (ap (λ (i : ℕ). get_elem? (line_of log q) i) (sym y.1) ∙ at)) in subst (λ (p : ObjectId). In (state_of log).reclaimed p) same x.run)
    (λ (y : ((k == n) ≡ false) × (k ≢ n)). let no = y.1 in ran k o (omega (arith, less, no)) at)
    (eqb_tells k n)

all_through : {D : Type 0} (code : D → Gv) (answers : D → Ripe → ℕ → Type 0) (q : ℕ) (log : Log) (n m : ℕ) (entries : List Finished) → n + length entries ≡ m → HaveRun q n log → AreRunAs code answers q log n entries → HaveRun q m log
all_through code answers q log n m [] e ran x = subst (λ (k : ℕ). HaveRun q k log) (omega (arith, e)) ran
all_through code answers q log n m (z ∷ zs) e ran x = all_through code answers q log (n + 1) m zs (omega (arith, e)) (one_more code answers q log n z ran x.0) x.1

-- those that had run at the start have, and so have those of the list
pub ran_through : {D : Type 0} (code : D → Gv) (answers : D → Ripe → ℕ → Type 0) (q : ℕ) (start log : Log) (first last : ℕ) (entries : List Finished) → Begins start log → first ≤ length (line_of start q) → HaveRun q first start → Lists code answers q log first last entries → HaveRun q last log
ran_through code answers q start log first last entries b low ran l = all_through code answers q log first last entries l.1 (have_later q first start log b low ran) l.0

finds_trans : (u v w : View) → KeepsFinds u v → KeepsFinds v w → KeepsFinds u w
finds_trans u v w a b =
    let f : Looks = b.0.0 in
    let l : List Log = b.1.0 in (
      (f ++ a.0.0, b.0.1 ∙ (ap (λ (x : Looks). f ++ x) a.0.1 ∙ sym (append_assoc f a.0.0 u.looks))),
      (l ++ a.1.0, b.1.1 ∙ (ap (λ (x : List Log). l ++ x) a.1.1 ∙ sym (append_assoc l a.1.0 u.loads))),
    )

-- of counts that differ
other_count : (key : Sizes) (q : ℕ) → queued_at key q ≢ finished_at key q
other_count key q = λ e. absurd (omega (arith, e))

place_of : Look → ℕ
place_of (Loaded a n) = a
place_of (Stored a n) = a

-- what is found that is no load of the finished count tells of no batch
took_other : (key : Sizes) (q most place n : ℕ) (looks : Looks) → place ≢ finished_at key q → TookNoMore key q most looks → TookNoMore key q most (Loaded place n ∷ looks)
unfolding place_of
took_other key q most place n looks other took = (λ f m rest e s. absurd (other (ap place_of e)), took)

took_weaker : (key : Sizes) (q less most : ℕ) (looks : Looks) → less ≤ most → TookNoMore key q less looks → TookNoMore key q most looks
took_weaker key q less most [] low took = tt
took_weaker key q less most (l ∷ ls) low took = (λ f n rest e s. let k = took.0 f n rest e s in omega (arith, low, k), took_weaker key q less most ls low took.1)

-- a batch was taken
count_of : Looks → ℕ
count_of [] = 0
count_of (Loaded a n ∷ ls) = n
count_of (Stored a n ∷ ls) = n

took_batch : (key : Sizes) (q less most f n : ℕ) (looks : Looks) → less ≤ most → n ≤ most → TookNoMore key q less looks → TookNoMore key q most (Loaded (finished_at key q) f ∷ Loaded (queued_at key q) n ∷ looks)
unfolding count_of
took_batch key q less most f n looks low here took =
    (λ g m rest e s. let same = ap count_of s in omega (arith, here, same), took_other key q most (queued_at key q) n looks (other_count key q) (took_weaker key q less most looks low took))

-- the first look, or another one
head_of : Look → Looks → Look
head_of d [] = d
head_of d (l ∷ ls) = l

-- what a worker looked at as it began, and nothing before
unfoldable pub began : Sizes → (q first : ℕ) → Looks
began key q first = Loaded (finished_at key q) first ∷ Stored (work_at key q) 1 ∷ Loaded (work_at key q) 0 ∷ []

-- and then what it found since
pub took_since : (key : Sizes) (q most first : ℕ) (looks : Looks) → TookNoMore key q most looks → TookNoMore key q most (looks ++ began key q first)
unfolding place_of head_of began
took_since key q most first [] took = (
  (λ f n rest e s. let z : work_at key q ≡ queued_at key q = ap (λ (ls : Looks). place_of (head_of (Loaded 0 0) ls)) s in absurd (omega (arith, z))),
  (
    (λ f n rest e s. let z : work_at key q ≡ finished_at key q = ap place_of e in absurd (omega (arith, z))),
    ((λ f n rest e s. let z : work_at key q ≡ finished_at key q = ap place_of e in absurd (omega (arith, z))), tt),
  ),
)
took_since key q most first (l ∷ []) took =
    ((λ f n rest e s. let z : finished_at key q ≡ queued_at key q = ap (λ (ls : Looks). place_of (head_of (Loaded 0 0) ls)) s in absurd (omega (arith, z))), took_since key q most first [] tt)
took_since key q most first (l ∷ m ∷ ls) took =
    ((λ f n rest e s. took.0 f n ls e (ap (λ (x : Look). x ∷ ls) (ap (head_of (Loaded 0 0)) s))), took_since key q most first (m ∷ ls) took.1)

-- and more is found
ran_later : (key : Sizes) (q first last : ℕ) (more looks : Looks) → RanBatches key q first last looks → RanBatches key q first last (more ++ looks)
ran_later key q first last more looks (inl x) = inl x
ran_later key q first last more looks (inr x) = inr (more ++ x.0, x.1, x.2, ap (λ (l : Looks). more ++ l) x.3 ∙ sym (append_assoc more x.0 (Loaded (finished_at key q) x.2 ∷ Loaded (queued_at key q) last ∷ x.1)))

-- nothing was looked at
pub rounds_none : (key : Sizes) (q first : ℕ) (old : Looks) → Rounds key q first first first old old
rounds_none key q first old = record { found = []; looks = refl; kept = tt; ran = inl refl; took = tt }

-- and then another count
pub rounds_looked : (key : Sizes) (q first last most place n : ℕ) (old now new : Looks) → place ≢ finished_at key q → new ≡ Loaded place n ∷ now → Rounds key q first last most old now → Rounds key q first last most old new
rounds_looked key q first last most place n old now new other e x = record {
  found = Loaded place n ∷ x.found;
  looks = e ∙ ap (λ (l : Looks). Loaded place n ∷ l) x.looks;
  kept = x.kept;
  ran = ran_later key q first last (Loaded place n ∷ []) x.found x.ran;
  took = took_other key q most place n x.found other x.took;
}

-- both counts that tell whether a queue is emptied
pub rounds_emptied : (key : Sizes) (q first last most closed queued : ℕ) (old now new : Looks) → new ≡ Loaded (queued_at key q) queued ∷ Loaded (closed_at key q) closed ∷ now → Rounds key q first last most old now → Rounds key q first last most old new
rounds_emptied key q first last most closed queued old now new e x =
    rounds_looked key q first last most (queued_at key q) queued old (Loaded (closed_at key q) closed ∷ now) new (other_count key q) e
    (rounds_looked key q first last most (closed_at key q) closed old now (Loaded (closed_at key q) closed ∷ now) (λ k. absurd (omega (arith, k))) refl x)

pub rounds_at : (key : Sizes) (q first last most more : ℕ) (old new : Looks) → most ≡ more → Rounds key q first last most old new → Rounds key q first last more old new
rounds_at key q first last most more old new e = subst (λ (n : ℕ). Rounds key q first last n old new) e

-- and then a round that took nothing
rounds_none_taken : (key : Sizes) (q first now last many : ℕ) (old between new : Looks) → Rounds key q first now now old between → LooksOfNone key q between new × (last ≡ now) → Rounds key q first last (last + many) old new
rounds_none_taken key q first now last many old between new x r =
    let seen = rounds_looked key q first now now (queued_at key q) r.0.0 old between new (other_count key q) r.0.1 x in record {
      found = seen.found;
      looks = seen.looks;
      kept = seen.kept;
      ran = subst (λ (n : ℕ). RanBatches key q first n seen.found) (sym r.1) seen.ran;
      took = let same = r.1 in took_weaker key q now (last + many) seen.found (omega (arith, same)) seen.took;
    }

-- and then a round
pub rounds_on : (key : Sizes) (q first now last many : ℕ) (what : Outcome) (old between new : Looks) → Rounds key q first now now old between → IsRound key q now last many what between new → Rounds key q first last (last + many) old new
rounds_on key q first now last many Ran old between new x r = record {
  found = Loaded (finished_at key q) now ∷ Loaded (queued_at key q) last ∷ x.found;
  looks = r.0 ∙ ap (λ (l : Looks). Loaded (finished_at key q) now ∷ Loaded (queued_at key q) last ∷ l) x.looks;
  kept = x.kept;
  ran = inr ([], x.found, now, refl);
  took = let low = r.1 in took_batch key q now (last + many) now last x.found (omega (arith, low)) (omega arith) x.took;
}
rounds_on key q first now last many Nothing old between new x r = rounds_none_taken key q first now last many old between new x r
rounds_on key q first now last many outcome.Exhausted old between new x r = record {
  found = Loaded (finished_at key q) now ∷ Loaded (queued_at key q) (last + many) ∷ x.found;
  looks = r.0 ∙ ap (λ (l : Looks). Loaded (finished_at key q) now ∷ Loaded (queued_at key q) (last + many) ∷ l) x.looks;
  kept = x.kept;
  ran = subst (λ (n : ℕ). RanBatches key q first n (Loaded (finished_at key q) now ∷ Loaded (queued_at key q) (last + many) ∷ x.found)) (sym r.1) (ran_later key q first now (Loaded (finished_at key q) now ∷ Loaded (queued_at key q) (last + many) ∷ []) x.found x.ran);
  took = let same = r.1 in took_batch key q now (last + many) now (last + many) x.found (omega (arith, same)) (omega arith) x.took;
}
rounds_on key q first now last many outcome.Memory old between new x r = rounds_none_taken key q first now last many old between new x r

-- the sequence number was used up, as one knows who loaded it before too
pub used_up_since : (first start log : Log) (old between new : List Log) → Begins first start → (since : List Log) → between ≡ since ++ old → FoundUsedUp start log between new → FoundUsedUp first log old new
used_up_since first start log old between new b since e x = record {
  at = x.at;
  earlier = x.earlier ++ since;
  last_load = x.last_load ∙ ap (λ (l : List Log). x.at ∷ l) (ap (λ (l : List Log). x.earlier ++ l) e ∙ sym (append_assoc x.earlier since old));
  after = begins_trans first start x.at b x.after;
  before = x.before;
  used_up = x.used_up;
}

-- a seat worked that had seen as much as the caller and found nothing; the caller takes in what the seat found
pub worked_for : {D : Type 0} (code : D → Gv) (answers : D → Ripe → ℕ → Type 0) (qsbr : Bool) (allows : Log → LiveEvent → Type 0) (key sizes : Sizes) (q : ℕ) (seen heard : Log) (v : View) (looks found before : Looks) (loads loaded earlier : List Log) (entries : List Finished) (items : List (Item (JobValue D))) (stop : Stop) (log : Log)
    → v ≡ bare sizes seen heard → looks ≡ found ++ before → loads ≡ loaded ++ earlier
    → HasWorked code answers qsbr allows key q v.seen v.heard v.looks found v.loads loaded entries items stop log
    → HasWorked code answers qsbr allows key q seen heard before looks earlier loads entries items stop log
worked_for code answers qsbr allows key sizes q seen heard v looks found before loads loaded earlier entries items stop log is looks_are loads_are h =
    let x : Look = Stored (work_at key q) (left_by stop) in
    let begun : Looks = Loaded (finished_at key q) h.first ∷ Stored (work_at key q) 1 ∷ Loaded (work_at key q) 0 ∷ [] in
    let since : Looks = h.looks_since in record {
      start = h.start;
      first = h.first;
      last = h.last;
      looks_since = since;
      low = h.low;
      after_seen = subst (λ (l : Log). Begins l h.start) (ap (λ (w : View). w.seen) is) h.after_seen;
      after_heard = subst (λ (l : Log). Begins l h.start) (ap (λ (w : View). w.heard) is) h.after_heard;
      counted = h.counted;
      queued = h.queued;
      later = h.later;
      run = h.run;
      lists = h.lists;
      through = h.through;
      left = h.left;
      nothing = h.nothing;
      whole = h.whole;
      kept = h.kept;
      ran = h.ran;
      took = h.took;
      closed = h.closed;
      served = h.served;
      memory = h.memory;
      exhausted = λ e. let u = h.exhausted e in record {
        at = u.at;
        earlier = u.earlier;
        last_load = loads_are ∙ (ap (λ (l : List Log). l ++ earlier) (u.last_load ∙ ap (λ (w : View). u.at ∷ (u.earlier ++ w.loads)) is) ∙ ap (λ (l : List Log). u.at ∷ l) (append_assoc u.earlier [] earlier));
        after = u.after;
        before = u.before;
        used_up = u.used_up;
      };
      looks = looks_are ∙ (ap (λ (l : Looks). l ++ before) (h.looks ∙ ap (λ (w : View). x ∷ (since ++ (begun ++ w.looks))) is) ∙ ap (λ (l : Looks). x ∷ l) (append_assoc since begun before));
    }

module _ {S : Type 0} (qsbr : Bool) (allows : Log → LiveEvent → Type 0) where
  pub goes_trans : (s t u : Seat S View) → GoesOn qsbr allows s t → GoesOn qsbr allows t u → GoesOn qsbr allows s u
  goes_trans s t u a b = record {
    keeps = (b.keeps.0 ∙ a.keeps.0, b.keeps.1 ∙ a.keeps.1);
    own = b.own ∙ a.own;
    sizes = b.sizes ∙ a.sizes;
    later = begins_trans s.me.0.seen t.me.0.seen u.me.0.seen a.later b.later;
    run = b.run;
    finds = finds_trans s.me.0 t.me.0 u.me.0 a.finds b.finds;
  }

  pub goes_same : (s : Seat S View) → IsLiveRun qsbr allows s.me.0.seen → GoesOn qsbr allows s s
  goes_same s run = record { keeps = (refl, refl); own = refl; sizes = refl; later = ([], refl); run = run; finds = (([], refl), ([], refl)) }

  -- it looks how many were queued
  pub goes_counted : (key : Sizes) (q : ℕ) (more : Looks) (s t : Seat S View) → CountsQueued qsbr allows key q more s t → GoesOn qsbr allows s t
  goes_counted key q more s t c =
      let view = ap (λ (m : Me S View). m.0) c.view in
      let look : Look = Loaded (queued_at key q) (length (line_of c.at q)) in record {
        keeps = c.keeps;
        own = ap (λ (m : Me S View). m.1) c.view;
        sizes = ap (λ (v : View). v.sizes) view;
        later = begins_trans s.me.0.seen c.at t.me.0.seen c.after c.before;
        run = c.run;
        finds = ((more ++ look ∷ [], ap (λ (v : View). v.looks) view ∙ sym (append_assoc more (look ∷ []) s.me.0.looks)), ([], ap (λ (v : View). v.loads) view));
      }

  -- it loads the sequence number
  pub goes_loaded : (s t : Seat S View) → Keeps s t → (t.me ≡ (record s.me.0 { seen = t.me.0.seen; loads = t.me.0.seen ∷ s.me.0.loads }, s.me.1)) × Wrote qsbr allows s.me.0 [] t.me.0.seen → GoesOn qsbr allows s t
  goes_loaded s t keeps e =
      let view = ap (λ (m : Me S View). m.0) e.0 in record {
        keeps = keeps;
        own = ap (λ (m : Me S View). m.1) e.0;
        sizes = ap (λ (v : View). v.sizes) view;
        later = subst (Begins s.me.0.seen) (sym e.1.1) e.1.2;
        run = e.1.4;
        finds = (([], ap (λ (v : View). v.looks) view), (t.me.0.seen ∷ [], ap (λ (v : View). v.loads) view));
      }

  -- it loads two words
  pub goes_looked : (s t : Seat S View) → Keeps s t → t.me.1 ≡ s.me.1 → t.me.0 ≡ record s.me.0 { seen = t.me.0.seen; looks = t.me.0.looks } → Begins s.me.0.seen t.me.0.seen → IsLiveRun qsbr allows t.me.0.seen → (a b : Look) → t.me.0.looks ≡ a ∷ b ∷ s.me.0.looks → GoesOn qsbr allows s t
  goes_looked s t keeps own view later run a b looks = record {
    keeps = keeps;
    own = own;
    sizes = ap (λ (v : View). v.sizes) view;
    later = later;
    run = run;
    finds = ((a ∷ b ∷ [], looks), ([], ap (λ (v : View). v.loads) view));
  }

  -- it loads one word
  pub goes_looked_once : (s t : Seat S View) → Keeps s t → (place word : ℕ) → Went qsbr allows (looked_view place word s.me.0) s.me t.me → GoesOn qsbr allows s t
  goes_looked_once s t keeps place word e = record {
    keeps = keeps;
    own = e.0;
    sizes = ap (λ (v : View). v.sizes) e.1;
    later = e.2.0;
    run = e.2.2;
    finds = ((Loaded place word ∷ [], ap (λ (v : View). v.looks) e.1), ([], ap (λ (v : View). v.loads) e.1));
  }
