-- What the writer of a chain knows of it at a step, and the one step of a push, a replacement and a cut.
use Rattle.step_chains.proofs.Cited.{◌≡◌, ◌≢◌, ◌⊎◌, ℕ, ◌+◌, ◌%◌, last_in, ◌<◌, ◌≤◌, List, ◌∷◌, Bool, length, get_or, set, sym, refl, ap, ◌∙◌, subst, inl, inr, ⊎_elim, arith, get_or-set_other, get_or-set_same, Option, Some, None, option_or, IfSome, dite, ℕ_discrete, get_elem?, State, ObjectId, In, IsPlace, first_of, LiveEvent, Object, ObjectEvent, Log, state_of, record_of, IsLiveRun, Objects, objects_of, Spot, head, link, spot_of, Leads, kept_log, note_stays, run_of, chain_used, first_used, next_used, Moved, leads_still, link_is, head_no_link, Sizes, View, ChainRight, RecordRight, chains_from, head_at, hold_at, note_at, queued_at, closed_at, finished_at, work_at, cell_at, words_of, ref, IsLive, spot_at, IsPayload, Header, object, ClaimsChain, ClaimsObject, KnowsOwned, KnowsChain, KnowsObject, lent_chains, KeepsRule, Unclaimed, calm_object, SameChain, chain_part, lines_far, guards_far, Enters, heap_spliced, same_object_moved, free_cell, same_spot, object_stays, queues_kept, works_kept, stores, own_in, IsWriter, IsListed, alive_linked, unclaimed}
use mathlib.Core.Option as lists
use Rattle.live_rule.specs.declared.rights.RecordRight.TheVariants as record_right
use Rattle.live_rule.proofs.Lemmas as writer
use Rattle.step_chains.specs.Chains.{IsThere, place_at, place_index, head_after}

pub spot_of_is : (c : ℕ) (p q : Option ObjectId) → spot_of c p ≡ spot_of c q → p ≡ q
spot_of_is c None None e = refl
spot_of_is c None (Some o) e = absurd (head_no_link c o e)
spot_of_is c (Some o) None e = absurd (head_no_link c o (sym e))
spot_of_is c (Some o) (Some q) e = ap Some (link_is o q e)

pub leads_used : (qsbr : Bool) (allows : Log → LiveEvent → Type 0) (log : Log) (t : Spot) (o : ObjectId) → IsLiveRun qsbr allows log → Leads (objects_of log) t (Some o) → In (objects_of log).used o
leads_used qsbr allows log (head c) o run f = first_used qsbr allows log c o run f
leads_used qsbr allows log (link q) o run f = next_used qsbr allows log q o run f

pub follower_used : (qsbr : Bool) (allows : Log → LiveEvent → Type 0) (log : Log) (o : ObjectId) (found : Option ObjectId) → IsLiveRun qsbr allows log → Leads (objects_of log) (link o) found → In (objects_of log).used o
follower_used qsbr allows log o found run (inl l) = (kept_log qsbr allows log run).linking.linked_used l.0 o l.1
follower_used qsbr allows log o found run (inr k) = (kept_log qsbr allows log run).linking.cut_used o k.0

module _ {S : Type 0} (qsbr : Bool) (allows : Log → LiveEvent → Type 0) (key : Sizes) (s : State S View) (r : KeepsRule qsbr allows key s) (id : ℕ) (v : View) (at : get_elem? s.views id ≡ lists.some v) (own : IsWriter v) where
  claims_own : (e : ℕ) → (own_in v.chains).chain ≡ e → ClaimsChain v.chains e
  claims_own = writer.claims_own qsbr allows key s r id v at own

  knows_own : KnowsOwned qsbr key r.log s.words (own_in v.chains)
  knows_own = writer.knows_own qsbr allows key s r id v at own

  here : (o : ObjectId) → In (own_in v.chains).objects o → In ((state_of r.log).chain (own_in v.chains).chain) o
  here = writer.here qsbr allows key s r id v at own

  -- the seat's chains, where its own one changes and the others stay
  pub own_changes : (log' : Log) (words' : List ℕ) (x : ChainRight) → x.chain ≡ (own_in v.chains).chain → KnowsOwned qsbr key log' words' x
      → ((e : ℕ) → e < key.chains → e ≢ (own_in v.chains).chain → SameChain key r.log log' s.words words' e)
      → (e : ℕ) → ClaimsChain (x ∷ lent_chains v.chains) e → KnowsChain qsbr key log' words' (x ∷ lent_chains v.chains) e × ClaimsChain v.chains e
  own_changes log' words' x same known far e claim =
      let claims : ClaimsChain v.chains e = subst (λ (l : List ChainRight). ClaimsChain l e) (sym own) (⊎_elim (λ (h : x.chain ≡ e). inl (sym same ∙ h)) inr claim) in
      let k = writer.knows_first qsbr allows key s r id v at own e claims in (
        dite (ℕ_discrete e (own_in v.chains).chain)
            (λ is. let o = k.0 (sym is) in ((λ _. (known, o.1)), unclaimed qsbr key log' words' e (lent_chains v.chains) o.1))
            (λ ne. ((λ h. absurd (ne (sym h ∙ same))), chain_part qsbr key r.log log' s.words words' (lent_chains v.chains) e (λ low. far e low ne) k.1)),
        claims,
      )

  -- nobody has the right to a linked object
  pub linked_free : (o : ObjectId) → In (own_in v.chains).objects o → Unclaimed key s.views id (object o)
  linked_free o h j y far at_j claim = no y.object claim (r.knows (object o) j y at_j claim)
    where
      no : (x : RecordRight) → ClaimsObject x o → KnowsObject qsbr key r.log s.words (objects_of r.log) x → ⊥
      no record_right.Nothing c k = c
      no (record_right.Fresh i p l w) c k = k.0 (subst (In (state_of r.log).used) (sym c) (chain_used qsbr allows r.log (own_in v.chains).chain o r.run (here o h)))
      no (record_right.Unlinked i p) c k = (kept_log qsbr allows r.log r.run).linking.linked_not_cut (own_in v.chains).chain o (here o h) (subst (In (state_of r.log).cut) c k.0)
      no (record_right.Retired i p) c k = let l = (kept_log qsbr allows r.log r.run).linking in l.linked_not_cut (own_in v.chains).chain o (here o h) (l.retired_cut o (subst (In (state_of r.log).retired) c k.0))
      no (record_right.Queued i p) c k = let l = (kept_log qsbr allows r.log r.run).linking in l.linked_not_cut (own_in v.chains).chain o (here o h) (l.retired_cut o (subst (In (state_of r.log).retired) c k.0))

  module _ (listed : IsListed v) where
    seen_run : IsLiveRun qsbr allows v.seen
    seen_run = run_of qsbr allows v.seen r.log (r.seen id v at).0 r.run

    pub seen_used : (o : ObjectId) → In (own_in v.chains).objects o → In (state_of v.seen).used o
    seen_used o h = chain_used qsbr allows v.seen (own_in v.chains).chain o seen_run (subst (λ (l : List ObjectId). In l o) (sym listed.0) h)

    pub note_now : (o : ObjectId) → In (own_in v.chains).objects o → record_of r.log o ≡ record_of v.seen o
    note_now o h = note_stays qsbr allows v.seen r.log o (r.seen id v at).0 r.run (seen_used o h)

    pub place_now : (p : Option ObjectId) → IsPlace (own_in v.chains).objects p → v.sizes ≡ key → place_at v p ≡ spot_at key (objects_of r.log) (spot_of (own_in v.chains).chain p)
    place_now None h sizes = ap (λ (k : Sizes). head_at k (own_in v.chains).chain) sizes
    place_now (Some o) h sizes = ap (λ (k : Sizes). cell_at k (record_of v.seen o).0 1) sizes ∙ ap (λ (z : ℕ × List ℕ). cell_at key z.0 1) (sym (note_now o h))

  pub place_live : (p : Option ObjectId) → IsPlace (own_in v.chains).objects p → IsLive key (objects_of r.log) (spot_of (own_in v.chains).chain p)
  place_live None h = knows_own.0
  place_live (Some o) h = alive_linked qsbr allows r.log (own_in v.chains).chain o r.run (here o h)

  -- the head after a store at a place of the chain
  pub head_stored : (p : Option ObjectId) (x : ℕ) → get_or (set s.words (spot_at key (objects_of r.log) (spot_of (own_in v.chains).chain p)) x) (head_at key (own_in v.chains).chain) 0 ≡ head_after p x (own_in v.chains).head
  head_stored None x = let wide = r.wide in let low = knows_own.0 in get_or-set_same s.words (head_at key (own_in v.chains).chain) x 0 (omega arith)
  head_stored (Some o) x = let low = knows_own.0 in get_or-set_other s.words (cell_at key (record_of r.log o).0 1) (head_at key (own_in v.chains).chain) x 0 (λ e. omega arith) ∙ knows_own.2

  -- a word is at one place of the chain
  pub one_place : IsListed v → v.sizes ≡ key → (p q : Option ObjectId) → IsPlace (own_in v.chains).objects p → IsPlace (own_in v.chains).objects q → place_at v p ≡ place_at v q → p ≡ q
  one_place listed sizes p q h g e = spot_of_is (own_in v.chains).chain p q (same_spot key (objects_of r.log) s.words r.agree.heap (spot_of (own_in v.chains).chain p) (spot_of (own_in v.chains).chain q) (place_live p h) (place_live q g) (sym (place_now listed p h sizes) ∙ (e ∙ place_now listed q g sizes)))

  -- the record of a seat's own object enters
  pub enters_fresh : (now : Objects) (next : Option ObjectId) (i : ℕ) (o : ObjectId) (l : ℕ) (w : List ℕ) → KnowsObject qsbr key r.log s.words (objects_of r.log) (record_right.Fresh i o l w) → now.note o ≡ (i, w) → now.retired ≡ (objects_of r.log).retired → l ≡ ref now next → Enters key now s.words next o
  enters_fresh now next i o l w k note retired e = let header = k.3 in let last : last_in key s.words i ≡ o.0 = omega arith in record {
    number = (k.1, own_number i o.0 k.1 last);
    low = subst (λ (z : ℕ × List ℕ). z.0 < key.pool) (sym note) k.2;
    header = subst (λ (z : ℕ × List ℕ). Header now o (get_or s.words (cell_at key z.0 0) 0)) (sym note) (record {
      number = last;
      fresh = λ _. k.3;
      retired = λ t. let u = kept_log qsbr allows r.log r.run in absurd (k.0 (u.linking.cut_used o (u.linking.retired_cut o (subst (λ (z : List ObjectId). In z o) retired t))));
    });
    link = subst (λ (z : ℕ × List ℕ). get_or s.words (cell_at key z.0 1) 0 ≡ ref now next) (sym note) (k.4 ∙ e);
    payload = subst (λ (z : ℕ × List ℕ). IsPayload key s.words z.0 z.1) (sym note) k.6;
  }
    where
      -- the last number of a record is its own
      own_number : (i m : ℕ) → 1 ≤ m → last_in key s.words i ≡ m → m ≤ last_in key s.words (m % key.pool)
      own_number i m up last = ⊎_elim (λ (none : last_in key s.words i ≡ 0). absurd (omega arith))
          (λ (own : last_in key s.words i % key.pool ≡ i). let same : m % key.pool ≡ i = ap (λ (n : ℕ). n % key.pool) (sym last) ∙ own in let here : last_in key s.words (m % key.pool) ≡ m = ap (last_in key s.words) same ∙ last in omega arith)
          (r.agree.heap.own i)

  module _ (d : ObjectEvent) (p next leaves enters : Option ObjectId) (x h' : ℕ) (os' : List ObjectId) (w : View) (run : IsLiveRun qsbr allows (Object d ∷ r.log)) (moved : Moved (objects_of r.log) (objects_of (Object d ∷ r.log)) (own_in v.chains).chain p next leaves enters) where
    abbrev log : Log
    log = Object d ∷ r.log

    abbrev a : ℕ
    a = spot_at key (objects_of r.log) (spot_of (own_in v.chains).chain p)

    pub spliced : IsPlace (own_in v.chains).objects p → w.chains ≡ record (own_in v.chains) { head = h'; objects = os' } ∷ lent_chains v.chains → (w.seen ≡ log) × (w.heard ≡ v.heard) × (w.slot ≡ v.slot) × (w.grace ≡ v.grace) → (w.queue ≡ v.queue) × (w.work ≡ v.work)
        → (objects_of log).chain (own_in v.chains).chain ≡ os' → x ≡ ref (objects_of log) (option_or enters next) → get_or (set s.words a x) (head_at key (own_in v.chains).chain) 0 ≡ h'
        → ((m : ObjectId) → enters ≡ Some m → Enters key (objects_of log) s.words next m × ClaimsObject v.object m)
        → ((o : ObjectId) → ClaimsObject w.object o → KnowsObject qsbr key log (set s.words a x) (objects_of log) w.object × (ClaimsObject v.object o ⊎ Unclaimed key s.views id (object o)))
        → KeepsRule {S = S} qsbr allows key (record { words = set s.words a x; homes = s.homes; views = set s.views id w }) × (h' ≡ ref (objects_of log) (first_of os'))
    spliced at_p owns same other list stored head_is entering mine =
        let c : ℕ = (own_in v.chains).chain in
        let k = kept_log qsbr allows r.log r.run in
        let k' = kept_log qsbr allows log run in
        let still = leads_still (objects_of r.log) (objects_of log) c p next leaves enters k.linking.one_chain k.linking.linked_not_cut k'.linking.linked_not_cut moved in
        let live = place_live p at_p in
        let inside : a < length s.words = in_table p live in
        let far : (e : ℕ) → e < key.chains → e ≢ c → SameChain key r.log log s.words (set s.words a x) e = λ e low ne. (get_or-set_other s.words a (hold_at key e) x 0 (no_hold p e low), get_or-set_other s.words a (head_at key e) x 0 (no_head p e low ne), moved.else e ne, refl) in
        let hold : get_or (set s.words a x) (hold_at key c) 0 ≡ 1 = get_or-set_other s.words a (hold_at key c) x 0 (no_hold p c knows_own.0) ∙ knows_own.1 in
        let heap = heap_spliced key (objects_of r.log) (objects_of log) s.words c p next leaves enters x moved still (λ t o f. leads_used qsbr allows r.log t o r.run f) (λ o found f. follower_used qsbr allows r.log o found r.run f) (λ m e. (entering m e).0) knows_own.0 live stored r.agree.heap inside in (
          stores qsbr allows key s r id a x v w log at (calm_object d r.log) run (above p) same heap
              (lines_far key r.log log s.words (set s.words a x) (λ e low. (get_or-set_other s.words a (note_at key e) x 0 (no_note p e low), refl))
              (λ q low. (get_or-set_other s.words a (queued_at key q) x 0 (no_queue p q 0 _ low (omega arith) (omega arith)), get_or-set_other s.words a (closed_at key q) x 0 (no_queue p q 1 _ low (omega arith) (omega arith)), get_or-set_other s.words a (finished_at key q) x 0 (no_queue p q 16 _ low (omega arith) (omega arith))))
              (λ q. (ap (λ f. f q) moved.line, refl)) (λ o b. subst (λ (z : List ObjectId). In z o) (sym moved.reclaimed) b) r.agree.lines)
              (guards_far key s.words (set s.words a x) (λ e low. get_or-set_other s.words a (hold_at key e) x 0 (no_hold p e low)) (λ q low. get_or-set_other s.words a (work_at key q) x 0 (no_queue p q 17 _ low (omega arith) (omega arith))) r.agree.holds)
              (record {
                others = λ e y claim ne kn. chain_part qsbr key r.log log s.words (set s.words a x) y e (λ low. far e low (λ is. ne (claims_own e (sym is)))) kn;
                mine = λ e claim. let m = own_changes log (set s.words a x) (record (own_in v.chains) { head = h'; objects = os' }) refl (knows_own.0, hold, head_is, list, knows_own.4) far e (subst (λ (l : List ChainRight). ClaimsChain l e) owns claim) in
                    (subst (λ (l : List ChainRight). KnowsChain qsbr key log (set s.words a x) l e) (sym owns) m.0, inl m.1);
              })
              (record {
                others = λ o y claim ne kn. object_stays qsbr allows key s r id a x v w log at y o claim (same_object_moved key (objects_of r.log) (objects_of log) s.words c p next leaves enters x moved still (λ t q f. leads_used qsbr allows r.log t q r.run f) (λ q found f. follower_used qsbr allows r.log q found r.run f) (λ m e. (entering m e).0) knows_own.0 live stored r.agree.heap o (λ e. ne (entering o e).1))
                    (λ i _ fresh header n l. free_cell key (objects_of r.log) (objects_of log) s.words c p next leaves enters x moved still (λ t q f. leads_used qsbr allows r.log t q r.run f) (λ q found f. follower_used qsbr allows r.log q found r.run f) (λ m e. (entering m e).0) knows_own.0 live stored r.agree.heap i o fresh header n l) kn;
                mine = mine;
              })
              (queues_kept qsbr allows key s r id a x v w log at other.0 (λ q low. (get_or-set_other s.words a (queued_at key q) x 0 (no_queue p q 0 _ low (omega arith) (omega arith)), get_or-set_other s.words a (closed_at key q) x 0 (no_queue p q 1 _ low (omega arith) (omega arith)))))
              (works_kept qsbr allows key s r id a x v w log at other.1 (λ q low. (get_or-set_other s.words a (work_at key q) x 0 (no_queue p q 17 _ low (omega arith) (omega arith)), get_or-set_other s.words a (finished_at key q) x 0 (no_queue p q 16 _ low (omega arith) (omega arith))))),
          sym head_is ∙ (heap.leads (head c) knows_own.0 (first_of ((objects_of log).chain c)) refl ∙ ap (λ (l : List ObjectId). ref (objects_of log) (first_of l)) list),
        )
      where
        w0 : Objects
        w0 = objects_of r.log

        in_table : (q : Option ObjectId) → IsLive key (objects_of r.log) (spot_of (own_in v.chains).chain q) → spot_at key (objects_of r.log) (spot_of (own_in v.chains).chain q) < length s.words
        in_table None l = let wide = r.wide in let low : (own_in v.chains).chain < key.chains = l in omega arith
        in_table (Some o) l = let wide = r.wide in let low = r.agree.heap.low o l in omega arith

        above : (q : Option ObjectId) → chains_from key ≤ spot_at key (objects_of r.log) (spot_of (own_in v.chains).chain q)
        above None = omega arith
        above (Some o) = omega arith

        no_hold : (q : Option ObjectId) (e : ℕ) → e < key.chains → hold_at key e ≢ spot_at key (objects_of r.log) (spot_of (own_in v.chains).chain q)
        no_hold None e low f = omega arith
        no_hold (Some o) e low f = omega arith

        no_note : (q : Option ObjectId) (e : ℕ) → e < key.chains → note_at key e ≢ spot_at key (objects_of r.log) (spot_of (own_in v.chains).chain q)
        no_note None e low f = omega arith
        no_note (Some o) e low f = omega arith

        no_head : (q : Option ObjectId) (e : ℕ) → e < key.chains → e ≢ (own_in v.chains).chain → head_at key e ≢ spot_at key (objects_of r.log) (spot_of (own_in v.chains).chain q)
        no_head None e low ne f = ne (omega arith)
        no_head (Some o) e low ne f = omega arith

        no_queue : (q : Option ObjectId) (e n i : ℕ) → e < key.queues → n < 32 → i ≡ queued_at key e + n → i ≢ spot_at key (objects_of r.log) (spot_of (own_in v.chains).chain q)
        no_queue None e n i low b is f = let c = knows_own.0 in omega arith
        no_queue (Some o) e n i low b is f = omega arith

-- the word of a place, from the record before it
pub place_there : (key : Sizes) (v : View) (before : Option ℕ) (p : Option ObjectId) (c : ℕ) → IsThere v before p → (own_in v.chains).chain ≡ c → v.sizes ≡ key → place_index key c before ≡ place_at v p
place_there key v None None c there is sizes = ap (λ (n : ℕ). head_at key n) (sym is) ∙ ap (λ (k : Sizes). head_at k (own_in v.chains).chain) (sym sizes)
place_there key v None (Some q) c there is sizes = absurd there
place_there key v (Some j) None c there is sizes = absurd there
place_there key v (Some j) (Some q) c there is sizes = ap (λ (n : ℕ). cell_at key n 1) (sym there) ∙ ap (λ (k : Sizes). cell_at k (record_of v.seen q).0 1) (sym sizes)

pub place_low : (key : Sizes) (c : ℕ) (before : Option ℕ) → c < key.chains → IfSome before (λ j. j < key.pool) → place_index key c before < words_of key
place_low key c None low b = omega arith
place_low key c (Some j) low b = omega arith
