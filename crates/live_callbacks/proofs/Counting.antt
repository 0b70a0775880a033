-- What a worker's seat knows once it looked how many were queued.
use Rattle.live_callbacks.proofs.Cited.{Bool, ◌≡◌, ℕ, ◌<◌, ◌≤◌, List, [], ◌∷◌, ◌++◌, length, sym, refl, ap, ◌∙◌, subst, Seat, Item, LiveEvent, Log, Begins, line_of, begins_trans, Loaded, Sizes, View, finished_at, queued_at, heard_view, Joined, Keeps, Went, looked_view}
use Rattle.live_callbacks.specs.Items.{CountsQueued, FindsMore, FindsNone, IsBatch, JobValue, TakesBatch}

module _ {S : Type 0} (qsbr : Bool) (allows : Log → LiveEvent → Type 0) (key : Sizes) (q : ℕ) where
  -- it heard of what another had seen, who found nothing, and loaded the count
  counted : (n : ℕ) (s l t : Seat S View) (u : View) → Joined heard_view s l u → u.looks ≡ [] → u.loads ≡ [] → Keeps l t → Went qsbr allows (looked_view (queued_at key q) n l.me.0) l.me t.me → n ≡ length (line_of t.me.0.seen q) → CountsQueued qsbr allows key q [] s t
  counted n s l t u j none nor keeps w count =
      let learn : l.me.0 ≡ heard_view s.me.0 u = ap (λ m. m.0) j.2 in
      let now : t.me.0 ≡ record (looked_view (queued_at key q) n (heard_view s.me.0 u)) { seen = t.me.0.seen } = w.1 ∙ (λ i. record (looked_view (queued_at key q) n (learn i)) { seen = t.me.0.seen }) in
      let heard : u.seen ≡ t.me.0.heard = sym (ap (λ (v : View). v.heard) now) in
      let is : t.me.0 ≡ record s.me.0 { seen = t.me.0.seen; heard = t.me.0.heard; looks = Loaded (queued_at key q) (length (line_of t.me.0.seen q)) ∷ s.me.0.looks } =
      now ∙ (λ i. record s.me.0 { seen = t.me.0.seen; heard = heard i; looks = Loaded (queued_at key q) (count i) ∷ (none i ++ s.me.0.looks); loads = nor i ++ s.me.0.loads }) in
      let rights = w.0 ∙ ap (λ m. m.1) j.2 in
      record {
        at = t.me.0.seen;
        after = subst (λ (log : Log). Begins log t.me.0.seen) (ap (λ (v : View). v.seen) learn) w.2.0;
        before = ([], refl);
        run_at = w.2.2;
        run = w.2.2;
        keeps = (keeps.0 ∙ j.0, keeps.1 ∙ j.1);
        view = λ i. (is i, rights i);
      }

  -- and then how many are finished
  counted_more : (m f : ℕ) (s t now : Seat S View) → CountsQueued qsbr allows key q [] s t → Keeps t now → Went qsbr allows (looked_view (finished_at key q) m t.me.0) t.me now.me → m ≡ f → CountsQueued qsbr allows key q (Loaded (finished_at key q) f ∷ []) s now
  counted_more m f s t now c keeps w own =
      let was = ap (λ m. m.0) c.view in
      let looks = ap (λ (v : View). v.looks) was in
      let is : now.me.0 ≡ record s.me.0 { seen = now.me.0.seen; heard = now.me.0.heard; looks = Loaded (finished_at key q) f ∷ Loaded (queued_at key q) (length (line_of c.at q)) ∷ s.me.0.looks } =
      w.1 ∙ (λ i. record (was i) { seen = now.me.0.seen; heard = sym (ap (λ (v : View). v.heard) w.1) i; looks = Loaded (finished_at key q) (own i) ∷ looks i }) in
      let rights = w.0 ∙ ap (λ m. m.1) c.view in
      record {
        at = c.at;
        after = c.after;
        before = begins_trans c.at t.me.0.seen now.me.0.seen c.before w.2.0;
        run_at = c.run_at;
        run = w.2.2;
        keeps = (keeps.0 ∙ c.keeps.0, keeps.1 ∙ c.keeps.1);
        view = λ i. (is i, rights i);
      }

  -- so it finds none, or more, or takes a batch
  module _ (n finished : ℕ) (s l t : Seat S View) (u : View) (j : Joined heard_view s l u) (none : u.looks ≡ []) (nor : u.loads ≡ []) (keeps : Keeps l t) (w : Went qsbr allows (looked_view (queued_at key q) n l.me.0) l.me t.me) (count : n ≡ length (line_of t.me.0.seen q)) where
    pub finds_none : n ≤ finished → FindsNone qsbr allows key q finished s t
    unfolding counted
    finds_none low = (counted n s l t u j none nor keeps w count, subst (λ (m : ℕ). m ≤ finished) count low)

    pub finds_more : finished < n → FindsMore qsbr allows key q finished s t
    unfolding counted
    finds_more more = (counted n s l t u j none nor keeps w count, subst (λ (m : ℕ). finished < m) count more)

    pub takes : {C : Type 0} (m last : ℕ) (now : Seat S View) (items : List (Item (JobValue C))) → Keeps t now → Went qsbr allows (looked_view (finished_at key q) m t.me.0) t.me now.me → m ≡ finished → IsBatch q t.me.0.seen finished last items → TakesBatch qsbr allows key q finished last items s now
    unfolding counted_more counted
    takes {C} m last now items keeps' w' own batch = record { counts = counted_more m finished s t now (counted n s l t u j none nor keeps w count) keeps' w' own; batch = batch }
