-- What stays of the order of a queue's items.
use Rattle.live_callbacks.proofs.Cited.{◌≡◌, ℕ, ◌+◌, ◌≤◌, List, [], ◌∷◌, ◌++◌, length, sym, refl, ap, ◌∙◌, subst, arith, append_assoc, false, length-append, ObjectId, Item, items_of, given_of, pushed, closed_queue, with_place, Log, Begins, WasQueued, line_of, begins_trans, line_grows, Sizes, View, Owns, Nothing, object_in, IsAt, IsLast}
use Rattle.live_callbacks.specs.Items.{JobValue, Jobs, IsBatch, IsPlaced, InOrder, IsUnderLock, word_of}

in_order_later : {C : Type 0} (q : ℕ) (old new : Log) (n : ℕ) (items : List (Item (JobValue C))) → Begins old new → InOrder q old n items → InOrder q new n items
in_order_later q old new n [] b x = x
in_order_later q old new n (i ∷ is) b x = (record { turn = x.0.turn; known = begins_trans i.job.0.seen old new x.0.known b; named = x.0.named; noted = x.0.noted }, in_order_later q old new (n + 1) is b x.1)

in_order_snoc : {C : Type 0} (q : ℕ) (seen : Log) (n m : ℕ) (items : List (Item (JobValue C))) (item : Item (JobValue C)) → m ≡ n + length items → InOrder q seen n items → IsPlaced q seen m item → InOrder q seen n (items ++ item ∷ [])
in_order_snoc q seen n m [] item e x p = (subst (λ (k : ℕ). IsPlaced q seen k item) (omega (arith, e)) p, x)
in_order_snoc q seen n m (i ∷ is) item e x p = (x.0, in_order_snoc q seen (n + 1) m is item (omega (arith, e)) x.1 p)

line_longer : (old new : Log) (q : ℕ) → Begins old new → length (line_of old q) ≤ length (line_of new q)
line_longer old new q b = let g = line_grows old new q b in let e = ap (λ (l : List ObjectId). length l) g.1 ∙ length-append (line_of old q) g.0 in omega (arith, e)

module _ {C : Type 0} (key : Sizes) (jobs : Jobs C) (v w : View) (q : ℕ) (under : IsUnderLock key jobs v q) (size : w.sizes ≡ v.sizes) (later : Begins v.seen w.seen) where
  -- the queue is closed
  pub under_closed : w.queue ≡ Owns q (given_of jobs) 1 → w.object ≡ v.object → IsUnderLock key (closed_queue jobs) w q
  under_closed right object = record {
    sizes = size ∙ under.sizes;
    right = right;
    empty = object ∙ under.empty;
    low = under.low;
    long = let l = line_longer v.seen w.seen q later in let u = under.long in omega arith;
    placed = in_order_later q v.seen w.seen jobs.gone (items_of jobs) later under.placed;
    unsealed = under.unsealed;
  }

  items_pushed : (item : Item (JobValue C)) → items_of (pushed jobs item) ≡ items_of jobs ++ item ∷ []
  items_pushed item = sym (append_assoc (jobs.ready ++ jobs.waiting) jobs.fresh (item ∷ []))

  given_pushed : (item : Item (JobValue C)) → given_of (pushed jobs item) ≡ given_of jobs + 1
  given_pushed item = let e = ap (λ (l : List (Item (JobValue C))). length l) (items_pushed item) ∙ length-append (items_of jobs) (item ∷ []) in omega (arith, e)

  -- an item is pushed, whose object was queued last
  pub under_pushed : (item : Item (JobValue C)) → jobs.closed ≡ false → w.queue ≡ Owns q (given_of jobs + 1) 0 → w.object ≡ Nothing → IsLast q (given_of jobs) item.object w.seen → item.job.0.seen ≡ w.seen → item.object ≡ object_in item.job.0.object → WasQueued item.object q item.job.3 item.job.0.seen → IsUnderLock key (pushed jobs item) w q
  under_pushed item unclosed right empty last known named noted = record {
    sizes = size ∙ under.sizes;
    right = right ∙ (λ i. Owns q (sym (given_pushed item) i) (ap word_of (sym unclosed) i));
    empty = empty;
    low = under.low;
    long = let l = last.1 in let g = given_pushed item in omega (arith, l, g);
    placed = subst (InOrder q w.seen jobs.gone) (sym (items_pushed item)) (in_order_snoc q w.seen jobs.gone (given_of jobs) (items_of jobs) item refl (in_order_later q v.seen w.seen jobs.gone (items_of jobs) later under.placed)
        (record { turn = subst (λ (l : Log). IsAt q (given_of jobs) item.object l) (sym known) last.0; known = subst (λ (l : Log). Begins item.job.0.seen l) known ([], refl); named = named; noted = noted }));
    unsealed = under.unsealed;
  }

-- a place is reserved
pub under_place : {C : Type 0} (key : Sizes) (jobs : Jobs C) (v : View) (q : ℕ) → IsUnderLock key jobs v q → IsUnderLock key (with_place jobs) v q
under_place key jobs v q under = record { sizes = under.sizes; right = under.right; empty = under.empty; low = under.low; long = under.long; placed = under.placed; unsealed = under.unsealed }

-- a queue's word is loaded by its seat
pub under_looked : {C : Type 0} (key : Sizes) (jobs : Jobs C) (v w : View) (q : ℕ) → IsUnderLock key jobs v q → w.sizes ≡ v.sizes → w.queue ≡ v.queue → w.object ≡ v.object → Begins v.seen w.seen → IsUnderLock key jobs w q
under_looked key jobs v w q under size queue object later = record {
  sizes = size ∙ under.sizes;
  right = queue ∙ under.right;
  empty = object ∙ under.empty;
  low = under.low;
  long = let l = line_longer v.seen w.seen q later in let u = under.long in omega (arith, l, u);
  placed = in_order_later q v.seen w.seen jobs.gone (items_of jobs) later under.placed;
  unsealed = under.unsealed;
}

-- a batch: all the items under the lock, of which this many were finished before, in a later log with as many in its
-- line
pub batch_of : {C : Type 0} (key : Sizes) (jobs : Jobs C) (v : View) (q : ℕ) (log : Log) (finished last : ℕ) → IsUnderLock key jobs v q → Begins v.seen log → finished + length jobs.fresh ≡ last → given_of jobs ≡ last → length (line_of log q) ≡ last → IsBatch q log finished last jobs.fresh
batch_of {C} key jobs v q log finished last under later count given all =
    let items : items_of jobs ≡ jobs.fresh = ap (λ (l : List (Item (JobValue C))). l ++ jobs.waiting ++ jobs.fresh) under.unsealed.0 ∙ ap (λ (l : List (Item (JobValue C))). l ++ jobs.fresh) under.unsealed.1 in
    let many = ap (λ (l : List (Item (JobValue C))). length l) items in record {
      placed = in_order_later q v.seen log finished jobs.fresh later
          (subst (λ (n : ℕ). InOrder q v.seen n jobs.fresh) (omega (arith, count, given, many)) (subst (InOrder q v.seen jobs.gone) items under.placed));
      count = count;
      all = omega (arith, all);
      known = λ _. omega (arith, all);
    }
