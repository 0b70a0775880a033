-- The one store that leads past, to, or into another object keeps the heap: for a push, a replacement and a cut alike,
-- at a head or at a link.
use Rattle.live_rule.proofs.Cited.{◌≡◌, ◌≢◌, ◌⊎◌, ℕ, ◌+◌, ◌/◌, ◌%◌, ◌<◌, ◌≤◌, List, length, get_or, set, sym, refl, ap, ◌∙◌, subst, inl, inr, ⊎_elim, arith, get_or-set_other, get_or-set_same, Option, Some, None, option_or, ObjectId, In, Objects, Spot, head, link, spot_of, Leads, Moved, Still, head_no_link, link_is}
use Rattle.live_rule.specs.declared.view.Sizes.{Sizes}
use Rattle.live_rule.specs.Places.{cell_at}
use Rattle.live_rule.specs.Objects.{ref, IsAlive, IsLive, spot_at, IsPayload, fresh_word, last_in, IsOwnNumber, Header, ObjectWords}
use Rattle.live_rule.proofs.Frames.{ref_same, header_same, SameObject}

-- the record of the object that enters
pub record Enters (key : Sizes) (now : Objects) (words : List ℕ) (next : Option ObjectId) (m : ObjectId) : Type 0 where
  pub number : (1 ≤ m.0) × (m.0 ≤ last_in key words (m.0 % key.pool))
  pub low : (now.note m).0 < key.pool
  pub header : Header now m (get_or words (cell_at key (now.note m).0 0) 0)
  pub link : get_or words (cell_at key (now.note m).0 1) 0 ≡ ref now next
  pub payload : IsPayload key words (now.note m).0 (now.note m).1

module _ (key : Sizes) (was now : Objects) (words : List ℕ) (c : ℕ) (p next leaves enters : Option ObjectId) (x : ℕ) (moved : Moved was now c p next leaves enters)
    (still : (t : Spot) (found : Option ObjectId) → Leads now t found → Still was c p next enters t found)
    (leads_used : (t : Spot) (o : ObjectId) → Leads was t (Some o) → In was.used o) (follower_used : (o : ObjectId) (found : Option ObjectId) → Leads was (link o) found → In was.used o)
    (entering : (m : ObjectId) → enters ≡ Some m → Enters key now words next m)
    (low : c < key.chains) (live : IsLive key was (spot_of c p)) (stored : x ≡ ref now (option_or enters next)) (heap : ObjectWords key was words) where
  alive_before : (o : ObjectId) → IsAlive now o → (enters ≡ Some o) ⊎ IsAlive was o
  alive_before o a = ⊎_elim inl (λ (u : In was.used o). inr (u, λ b. a.1 (subst (λ (l : List ObjectId). In l o) (sym moved.reclaimed) b))) (moved.used_before o a.0)

  alive_still : (o : ObjectId) → IsAlive was o → IsAlive now o
  alive_still o a = (moved.used_still o a.0, λ b. a.1 (subst (λ (l : List ObjectId). In l o) moved.reclaimed b))

  note_old : (o : ObjectId) → In was.used o → now.note o ≡ was.note o
  note_old o u = moved.note o (λ e. moved.enters_fresh o e u)

  ref_old : (t : Spot) (found : Option ObjectId) → Leads was t found → ref now found ≡ ref was found
  ref_old t found f = ref_same was now found (λ o e. note_old o (leads_used t o (subst (Leads was t) e f)))

  header_now : (o : ObjectId) → IsAlive now o → Header now o (get_or words (cell_at key (now.note o).0 0) 0)
  header_now o a = ⊎_elim (λ (e : enters ≡ Some o). (entering o e).header)
      (λ (b : IsAlive was o). subst (λ (z : ℕ × List ℕ). Header now o (get_or words (cell_at key z.0 0) 0)) (sym (note_old o b.0))
      (header_same was now o (get_or words (cell_at key (was.note o).0 0) 0) (get_or words (cell_at key (was.note o).0 0) 0) (subst (λ (l : List ObjectId). In l o) moved.retired) (subst (λ (l : List ObjectId). In l o) (sym moved.retired)) refl (heap.header o b)))
      (alive_before o a)

  -- two objects have two records
  records_apart : (o q : ObjectId) → IsAlive now o → IsAlive now q → o ≢ q → (now.note o).0 ≢ (now.note q).0
  records_apart o q a b ne same = ne (let e : o.0 ≡ q.0 = sym (header_now o a).number ∙ (ap (last_in key words) same ∙ (header_now q b).number) in λ i. record { 0 = e i })

  -- the place that is stored, by the log of now
  place_now : (q : Option ObjectId) → IsLive key was (spot_of c q) → (spot_at key was (spot_of c q) ≡ spot_at key now (spot_of c q)) × IsLive key now (spot_of c q)
  place_now None l = (refl, l)
  place_now (Some o) l = (ap (λ (z : ℕ × List ℕ). cell_at key z.0 1) (sym (note_old o l.0)), alive_still o l)

  -- a word of a record that is no link, and each other live word, is not the one that is stored
  no_link : (q : Option ObjectId) (i n : ℕ) → n < 6 → n ≢ 1 → cell_at key i n ≢ spot_at key now (spot_of c q)
  no_link None i n l ne e = omega arith
  no_link (Some o) i n l ne e = ne (omega arith)

  no_spot : (q : Option ObjectId) (t : Spot) → IsLive key now t → IsLive key now (spot_of c q) → t ≢ spot_of c q → spot_at key now t ≢ spot_at key now (spot_of c q)
  no_spot None (head d) l k ne e = ne (let f : d ≡ c = omega arith in ap head f)
  no_spot None (link o) l k ne e = omega arith
  no_spot (Some o) (head d) l k ne e = let b : d < key.chains = l in omega arith
  no_spot (Some o) (link q) l k ne e = records_apart q o l k (λ f. ne (ap link f)) (omega arith)

  abbrev W : List ℕ
  W = set words (spot_at key was (spot_of c p)) x

  place : (spot_at key was (spot_of c p) ≡ spot_at key now (spot_of c p)) × IsLive key now (spot_of c p)
  place = place_now p live

  kept : (i : ℕ) → i ≢ spot_at key now (spot_of c p) → get_or W i 0 ≡ get_or words i 0
  kept i far = get_or-set_other words (spot_at key was (spot_of c p)) i x 0 (λ e. far (e ∙ place.0))

  last_same : (i : ℕ) → last_in key W i ≡ last_in key words i
  last_same i = ap (λ (z : ℕ). z / 4) (kept (cell_at key i 0) (no_link p i 0 (omega arith) (λ e. omega arith)))

  pub heap_spliced : spot_at key was (spot_of c p) < length words → ObjectWords key now W
  heap_spliced inside = record {
    numbers = λ o u. subst (λ (z : ℕ). (1 ≤ o.0) × (o.0 ≤ z)) (sym (last_same (o.0 % key.pool))) (⊎_elim (λ (e : enters ≡ Some o). (entering o e).number) (heap.numbers o) (moved.used_before o u));
    own = λ i. subst (IsOwnNumber key i) (sym (last_same i)) (heap.own i);
    low = λ o a. ⊎_elim (λ (e : enters ≡ Some o). (entering o e).low) (λ (b : IsAlive was o). subst (λ (z : ℕ × List ℕ). z.0 < key.pool) (sym (note_old o b.0)) (heap.low o b)) (alive_before o a);
    header = λ o a. subst (Header now o) (sym (kept (cell_at key (now.note o).0 0) (no_link p (now.note o).0 0 (omega arith) (λ e. omega arith)))) (header_now o a);
    payload = λ o a k l. kept (cell_at key (now.note o).0 (k + 2)) (no_link p (now.note o).0 (k + 2) (omega arith) (λ e. omega arith)) ∙ payload_now o a k l;
    leads = λ t l found f. leads_now t l found (still t found f);
  }
    where
      payload_now : (o : ObjectId) → IsAlive now o → IsPayload key words (now.note o).0 (now.note o).1
      payload_now o a = ⊎_elim (λ (e : enters ≡ Some o). (entering o e).payload) (λ (b : IsAlive was o). subst (λ (z : ℕ × List ℕ). IsPayload key words z.0 z.1) (sym (note_old o b.0)) (heap.payload o b)) (alive_before o a)

      spot_old : (t : Spot) (found : Option ObjectId) → IsLive key now t → Leads was t found → (spot_at key now t ≡ spot_at key was t) × IsLive key was t
      spot_old (head d) found l f = (refl, l)
      spot_old (link o) found l f = let u = follower_used o found f in (ap (λ (z : ℕ × List ℕ). cell_at key z.0 1) (note_old o u), (u, λ b. l.1 (subst (λ (z : List ObjectId). In z o) (sym moved.reclaimed) b)))

      leads_now : (t : Spot) → IsLive key now t → (found : Option ObjectId) → Still was c p next enters t found → get_or W (spot_at key now t) 0 ≡ ref now found
      leads_now t l found (inl e) = ap (λ (z : Spot). get_or W (spot_at key now z) 0) e.0 ∙ (ap (λ (i : ℕ). get_or W i 0) (sym place.0) ∙ (get_or-set_same words (spot_at key was (spot_of c p)) x 0 inside ∙ (stored ∙ ap (ref now) (sym e.1))))
      leads_now t l found (inr (inl e)) = let o = spot_old t found l e.1 in kept (spot_at key now t) (no_spot p t l place.1 e.0) ∙ (ap (λ (i : ℕ). get_or words i 0) o.0 ∙ (heap.leads t o.1 found e.1 ∙ sym (ref_old t found e.1)))
      leads_now t l found (inr (inr e)) = let m = e.0 in
          let far : link m ≢ spot_of c p = not_place p m e.1 live in
          ap (λ (z : Spot). get_or W (spot_at key now z) 0) e.2 ∙ (kept (spot_at key now (link m)) (no_spot p (link m) (subst (IsLive key now) e.2 l) place.1 far) ∙ ((entering m e.1).link ∙ ap (ref now) (sym e.3)))
        where
          not_place : (q : Option ObjectId) (m : ObjectId) → enters ≡ Some m → IsLive key was (spot_of c q) → link m ≢ spot_of c q
          not_place None m f k g = head_no_link c m (sym g)
          not_place (Some q) m f k g = moved.enters_fresh m f (subst (In was.used) (sym (link_is m q g)) k.0)

  -- each object but the one that enters is as it was
  pub same_object_moved : (o : ObjectId) → enters ≢ Some o → SameObject was now o
  same_object_moved o ne = record {
    used = λ u. ⊎_elim (λ (e : enters ≡ Some o). absurd (ne e)) (λ (z : In was.used o). z) (moved.used_before o u);
    cut = moved.cut_still o;
    note = λ _. moved.note o ne;
    retired = subst (λ (l : List ObjectId). In l o) moved.retired;
    retired_still = subst (λ (l : List ObjectId). In l o) (sym moved.retired);
    queued = subst (λ (l : List ObjectId). In l o) moved.queued;
    queued_still = subst (λ (l : List ObjectId). In l o) (sym moved.queued);
    reclaimed = subst (λ (l : List ObjectId). In l o) moved.reclaimed;
  }

  -- the record of an object that is on no chain keeps its words
  pub free_cell : (i : ℕ) (o : ObjectId) → ¬ In was.used o → get_or words (cell_at key i 0) 0 ≡ fresh_word o.0 → (n : ℕ) → n < 6 → get_or W (cell_at key i n) 0 ≡ get_or words (cell_at key i n) 0
  free_cell i o fresh header n l = kept (cell_at key i n) (far p live)
    where
      far : (q : Option ObjectId) → IsLive key was (spot_of c q) → cell_at key i n ≢ spot_at key now (spot_of c q)
      far None k e = omega arith
      far (Some q) k e =
          let same : (was.note q).0 ≡ i = let z : (now.note q).0 ≡ i = omega arith in ap (λ (y : ℕ × List ℕ). y.0) (sym (note_old q k.0)) ∙ z in
          let last : last_in key words i ≡ q.0 = ap (last_in key words) (sym same) ∙ (heap.header q k).number in
          let y : q.0 ≡ o.0 = omega arith in fresh (subst (In was.used) (λ j. record { 0 = y j }) k.0)

-- a word leads to what one head or one link does
pub same_spot : (key : Sizes) (w : Objects) (words : List ℕ) → ObjectWords key w words → (t u : Spot) → IsLive key w t → IsLive key w u → spot_at key w t ≡ spot_at key w u → t ≡ u
same_spot key w words heap (head c) (head d) l k e = let f : c ≡ d = omega arith in ap head f
same_spot key w words heap (head c) (link o) l k e = let b : c < key.chains = l in absurd (omega arith)
same_spot key w words heap (link o) (head c) l k e = let b : c < key.chains = k in absurd (omega arith)
same_spot key w words heap (link o) (link q) l k e = let i : (w.note o).0 ≡ (w.note q).0 = omega arith in
    let n : o.0 ≡ q.0 = sym (heap.header o l).number ∙ (ap (last_in key words) i ∙ (heap.header q k).number) in λ j. link (record { 0 = n j })
