-- The two stores of a header that end an object's life keep the rule.
use Rattle.step_records.proofs.Cited.{IsOwnNumber, free_word, last_in, retired_word, ◌≡◌, ◌≢◌, ℕ, ◌+◌, ◌/◌, ◌<◌, List, ◌∷◌, Bool, get_or, set, sym, refl, ap, ◌∙◌, subst, inl, inr, ⊎_elim, arith, get_or-set_other, get_or-set_same, Option, get_elem?, State, Me, step, keeps, Allows, ObjectId, In, in_objects, has_object_in, LiveEvent, Object, Retire, Run, Log, record_of, IsLiveRun, Objects, objects_of, Spot, head, link, Leads, by_object, kept_log, ready_stays, Sizes, View, RecordRight, Unlinked, Retired, Queued, cell_at, IsAlive, Header, ClaimsObject, KeepsRule, but_object, calm_object, heap_beside, header_same, object_stays, looks, look_all, IsQueued, IsUnlinked, cell_in, object_in, IsKnown, stored_view}
use mathlib.Core.Option as lists
use Rattle.step_records.specs.Records.{HasCut, IsRipe, retired_view, retired, ran, looked_payload}
use Rattle.step_records.proofs.Records.{number_is, own_record, knew, cell_far, alive_far, fresh_far, numbers_go, head_same}

leads_retired : (log : Log) (o : ObjectId) (t : Spot) (found : Option ObjectId) → Leads (objects_of (Object (Retire o) ∷ log)) t found → Leads (objects_of log) t found
leads_retired log o (head c) found f = f
leads_retired log o (link q) found f = f

leads_run : (log : Log) (o : ObjectId) (t : Spot) (found : Option ObjectId) → Leads (objects_of (Object (Run o) ∷ log)) t found → Leads (objects_of log) t found
leads_run log o (head c) found f = f
leads_run log o (link q) found f = f

module _ {S : Type 0} (qsbr : Bool) (allows : Log → LiveEvent → Type 0) (key : Sizes) where
  abbrev Rule : State S View → Type 0
  Rule = KeepsRule qsbr allows key

  -- the headers of retired and of run objects
  pub retires : (slots id : ℕ) (me : Me S View) (a x : ℕ) → IsUnlinked me.0 → a ≡ cell_at key (cell_in me.0.object) 0 → x ≡ retired_word (object_in me.0.object).0 → Allows Rule slots id me a (λ _. x) (λ _. retired qsbr allows (step slots a x 0 lists.none) me x)
  retires slots id me a x is a_is x_is s r deep at fits =
      let v : View = me.0 in
      let b = r.seen id v at in
      let i : ℕ = cell_in v.object in
      let o : ObjectId = object_in v.object in
      let k = knew qsbr allows key s r id v (Unlinked i o) at is refl in
      let kept = kept_log qsbr allows r.log r.run in
      let was : Objects = objects_of r.log in
      let log : Log = Object (Retire o) ∷ r.log in
      let now : Objects = objects_of log in
      let run : IsLiveRun qsbr allows log = (((has_object_in was.cut o k.0, λ h. k.1 (in_objects was.retired o h)), tt), r.run) in
      let alive : IsAlive was o = (kept.linking.cut_used o k.0, λ h. k.1 (kept.run o h).0) in
      let last : last_in key s.words i ≡ o.0 = subst (λ (z : ℕ). last_in key s.words z ≡ o.0) k.2 (r.agree.heap.header o alive).number in
      let low : i < key.pool = subst (λ (z : ℕ). z < key.pool) k.2 (r.agree.heap.low o alive) in
      let wide = r.wide in
      let W : List ℕ = set s.words (cell_at key i 0) x in
      let here : get_or W (cell_at key i 0) 0 ≡ x = get_or-set_same s.words (cell_at key i 0) x 0 (omega arith) in
      let other : (q : ObjectId) → q ≢ o → In now.retired q → In was.retired q = λ q ne h. ⊎_elim (λ (e : o ≡ q). absurd (ne (sym e))) (λ (z : In was.retired q). z) h in
      let apart_cells : (q : ObjectId) → IsAlive was q → q ≢ o → (n : ℕ) → n < 6 → get_or W (cell_at key (was.note q).0 n) 0 ≡ get_or s.words (cell_at key (was.note q).0 n) 0 = λ q al ne n l. cell_far qsbr allows key s r i 0 x (omega arith) (was.note q).0 n (alive_far qsbr allows key s r i o.0 last q al (λ e. ne (number_is q o e))) l in
      let w : View = record (retired_view v) { seen = log } in (
        w,
        keeps,
        tt,
        subst (λ (n : ℕ). Rule record { words = set s.words n x; homes = s.homes; views = set s.views id w }) (sym a_is)
            (own_record qsbr allows key s r id (cell_at key i 0) x v w log at (calm_object (Retire o) r.log) run (omega arith) (refl, refl, refl, refl) (refl, refl, refl) (λ _. (refl, refl)) (λ _. (refl, refl)) (λ _ h. h)
            (heap_beside key was now s.words W (record {
              leads = leads_retired r.log o;
              note = λ _. refl;
              used = λ _ u. u;
              alive = λ _ u. u;
              numbers = numbers_go qsbr allows key s r i 0 x (omega arith) low (λ _. let quarter : x / 4 ≡ last_in key s.words i = omega arith in (omega arith, subst (IsOwnNumber key i) (sym quarter) (r.agree.heap.own i)));
              heads = head_same qsbr allows key s r i 0 x (omega arith);
              cells = λ q al n up l. by_object q o
                  (λ e. let same : (was.note q).0 ≡ i = ap (λ (z : ObjectId). (was.note z).0) e ∙ k.2 in get_or-set_other s.words (cell_at key i 0) (cell_at key (was.note q).0 n) x 0 (λ z. omega arith))
                  (λ ne. apart_cells q al ne n l);
              header = λ q al. by_object q o
                  (λ e. subst (λ (z : ObjectId). Header now z (get_or W (cell_at key (was.note z).0 0) 0)) (sym e) (subst (λ (n : ℕ). Header now o (get_or W (cell_at key n 0) 0)) (sym k.2)
                  (record { number = (let z = here in omega arith); fresh = λ f. absurd (f (inl refl)); retired = λ _. here ∙ x_is })))
                  (λ ne. header_same was now q (get_or s.words (cell_at key (was.note q).0 0) 0) (get_or W (cell_at key (was.note q).0 0) 0) (other q ne) inr (apart_cells q al ne 0 (omega arith)) (r.agree.heap.header q al));
            }) r.agree.heap)
            (record {
              others = λ q y claim far kn. let ne : q ≢ o = λ e. far (subst (λ (z : RecordRight). ClaimsObject z q) (sym is) (sym e)) in
                  object_stays qsbr allows key s r id (cell_at key i 0) x v w log at y q claim
                  (record { used = λ u. u; cut = λ u. u; note = λ _. refl; retired = other q ne; retired_still = inr; queued = λ u. u; queued_still = λ u. u; reclaimed = λ u. u })
                  (λ j _ _ header n l. cell_far qsbr allows key s r i 0 x (omega arith) j n (fresh_far qsbr allows key s r i o.0 last j q header (λ e. ne (number_is q o e))) l) kn;
              mine = λ q claim. ((inl refl, (λ u. k.1 (kept.queued_retired o u)), alive.1, k.2), inl (subst (λ (z : RecordRight). ClaimsObject z q) (sym is) claim));
            })),
        (refl, refl, (r.log, refl, b.0, b.1, run)),
      )

  pub runs : (slots id : ℕ) (me : Me S View) (a x : ℕ) → IsQueued me.0 → a ≡ cell_at key (cell_in me.0.object) 0 → x ≡ free_word (object_in me.0.object).0 → IsKnown (λ (l : Log). IsRipe l (object_in me.0.object)) me.0 → Allows Rule slots id me a (λ _. x) (λ _. ran qsbr allows (step slots a x 0 lists.none) me x)
  runs slots id me a x is a_is x_is ripe s r deep at fits =
      let v : View = me.0 in
      let b = r.seen id v at in
      let i : ℕ = cell_in v.object in
      let o : ObjectId = object_in v.object in
      let k = knew qsbr allows key s r id v (Queued i o) at is refl in
      let kept = kept_log qsbr allows r.log r.run in
      let was : Objects = objects_of r.log in
      let log : Log = Object (Run o) ∷ r.log in
      let now : Objects = objects_of log in
      let run : IsLiveRun qsbr allows log = (((has_object_in was.queued o k.1, (λ h. k.2 (in_objects was.reclaimed o h)), ⊎_elim (λ (x : IsRipe v.seen o). ready_stays qsbr allows v.seen r.log o b.0 r.run x.0 x.1) (λ (x : IsRipe v.heard o). ready_stays qsbr allows v.heard r.log o b.1 r.run x.0 x.1) ripe), tt), r.run) in
      let alive : IsAlive was o = (kept.linking.cut_used o (kept.linking.retired_cut o k.0), k.2) in
      let last : last_in key s.words i ≡ o.0 = subst (λ (z : ℕ). last_in key s.words z ≡ o.0) k.3 (r.agree.heap.header o alive).number in
      let low : i < key.pool = subst (λ (z : ℕ). z < key.pool) k.3 (r.agree.heap.low o alive) in
      let W : List ℕ = set s.words (cell_at key i 0) x in
      let apart_cells : (q : ObjectId) → IsAlive was q → q ≢ o → (n : ℕ) → n < 6 → get_or W (cell_at key (was.note q).0 n) 0 ≡ get_or s.words (cell_at key (was.note q).0 n) 0 = λ q al ne n l. cell_far qsbr allows key s r i 0 x (omega arith) (was.note q).0 n (alive_far qsbr allows key s r i o.0 last q al (λ e. ne (number_is q o e))) l in
      let was_alive : (q : ObjectId) → IsAlive now q → IsAlive was q × (q ≢ o) = λ q al. ((al.0, λ h. al.1 (inr h)), λ e. al.1 (inl (sym e))) in
      let w : View = record (stored_view a x (but_object v)) { seen = log } in (
        w,
        keeps,
        tt,
        subst (λ (n : ℕ). Rule record { words = set s.words n x; homes = s.homes; views = set s.views id w }) (sym a_is)
            (own_record qsbr allows key s r id (cell_at key i 0) x v w log at (calm_object (Run o) r.log) run (omega arith) (refl, refl, refl, refl) (refl, refl, refl) (λ _. (refl, refl)) (λ _. (refl, refl)) (λ _ h. inr h)
            (heap_beside key was now s.words W (record {
              leads = leads_run r.log o;
              note = λ _. refl;
              used = λ _ u. u;
              alive = λ q al. (was_alive q al).0;
              numbers = numbers_go qsbr allows key s r i 0 x (omega arith) low (λ _. let quarter : x / 4 ≡ last_in key s.words i = omega arith in (omega arith, subst (IsOwnNumber key i) (sym quarter) (r.agree.heap.own i)));
              heads = head_same qsbr allows key s r i 0 x (omega arith);
              cells = λ q al n up l. apart_cells q (was_alive q al).0 (was_alive q al).1 n l;
              header = λ q al. let z = was_alive q al in header_same was now q (get_or s.words (cell_at key (was.note q).0 0) 0) (get_or W (cell_at key (was.note q).0 0) 0) (λ h. h) (λ h. h) (apart_cells q z.0 z.1 0 (omega arith)) (r.agree.heap.header q z.0);
            }) r.agree.heap)
            (record {
              others = λ q y claim far kn. let ne : q ≢ o = λ e. far (subst (λ (z : RecordRight). ClaimsObject z q) (sym is) (sym e)) in
                  object_stays qsbr allows key s r id (cell_at key i 0) x v w log at y q claim
                  (record { used = λ u. u; cut = λ u. u; note = λ _. refl; retired = λ u. u; retired_still = λ u. u; queued = λ u. u; queued_still = λ u. u; reclaimed = λ h. ⊎_elim (λ (e : o ≡ q). absurd (ne (sym e))) (λ (z : In was.reclaimed q). z) h })
                  (λ j _ _ header n l. cell_far qsbr allows key s r i 0 x (omega arith) j n (fresh_far qsbr allows key s r i o.0 last j q header (λ e. ne (number_is q o e))) l) kn;
              mine = λ q claim. absurd claim;
            })),
        (refl, refl, (r.log, refl, b.0, b.1, run)),
      )

  -- an object that was cut and has not been run is alive, and lies in the seat's record
  cut_alive : (s : State S View) (r : Rule s) (id : ℕ) (v : View) → get_elem? s.views id ≡ lists.some v → HasCut v → IsAlive (objects_of r.log) (object_in v.object) × ((record_of r.log (object_in v.object)).0 ≡ cell_in v.object)
  cut_alive s r id v at (inl is) =
      let o : ObjectId = object_in v.object in
      let k = knew qsbr allows key s r id v (Unlinked (cell_in v.object) o) at is refl in
      let kept = kept_log qsbr allows r.log r.run in
      ((kept.linking.cut_used o k.0, λ h. k.1 (kept.run o h).0), k.2)
  cut_alive s r id v at (inr (inl is)) =
      let o : ObjectId = object_in v.object in
      let k = knew qsbr allows key s r id v (Retired (cell_in v.object) o) at is refl in
      let kept = kept_log qsbr allows r.log r.run in
      ((kept.linking.cut_used o (kept.linking.retired_cut o k.0), k.2), k.3)
  cut_alive s r id v at (inr (inr is)) =
      let o : ObjectId = object_in v.object in
      let k = knew qsbr allows key s r id v (Queued (cell_in v.object) o) at is refl in
      let kept = kept_log qsbr allows r.log r.run in
      ((kept.linking.cut_used o (kept.linking.retired_cut o k.0), k.2), k.3)

  pub looks_payload : (slots id : ℕ) (me : Me S View) (a : ℕ) → me.0.sizes ≡ key → HasCut me.0 → Allows Rule slots id me a (λ n. n) (looked_payload qsbr allows (step slots a 0 0 lists.none) me)
  looks_payload slots id me a sizes is s r deep at fits =
      let v : View = me.0 in
      let b = r.seen id v at in
      let w : View = record v { seen = r.log } in
      let o : ObjectId = object_in v.object in
      let alive = cut_alive s r id v at is in (
        w,
        keeps,
        tt,
        looks qsbr allows key s r id a v w at refl refl (look_all qsbr allows key s r id v w at (refl, refl, refl, refl, refl, refl)),
        (
          (refl, refl, (b.0, b.1, r.run)),
          alive.0.0,
          λ j low same.
              let here : a ≡ cell_at key (cell_in v.object) (j + 2) = same ∙ ap (λ (k : Sizes). cell_at k (cell_in v.object) (j + 2)) sizes in
              ap (λ (i : ℕ). get_or s.words i 0) here ∙ subst (λ (i : ℕ). get_or s.words (cell_at key i (j + 2)) 0 ≡ get_or (record_of r.log o).1 j 0) alive.1 (r.agree.heap.payload o alive.0 j low),
          λ its. (knew qsbr allows key s r id v (Unlinked (cell_in v.object) o) at its refl).1,
        ),
      )
