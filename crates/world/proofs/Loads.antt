-- What a section's word is made of: the phase or number that was present at its reader's line before.
use Rattle.world.proofs.Cited.{◌≡◌, ◌≢◌, ◌⊎◌, ℕ, true≢false, inl, inr, ◌==◌, cond, Bool, true, false, IsTrue, List, [], ◌∷◌, ◌++◌, get_or, slice_get, slice_set, Option, Some, None, Result, Ok, Err, refl, sym, ap, ◌∙◌, subst, get_or-set_same, get_or-set_other, cond-true, cond-false, eqb_tells, get_or_from_slice_get, slice_get_within, Refusal, Layout, count_of, fresh, announced, Config, Answer, Line, Reader, Updater, Worker, ReaderState, ReaderStep, Change, Read, Stay, new_reader, quietly, with_word, announce_row, go_online_row, Plans, BoardView, changed, fresh_at, QsbrPlan, Flavour, Memb, Qsbr, ReaderVerb, with_change, outcome_of, change_of, of_reader, IsOfReader, IsStalled, OfQsbr, qsbr_plans, fresh_in, made}
use Rattle.world.specs.Loads.{Move, opens_section, word_for, StoresWhatItLoaded, made_by, move_of, moves_of}
use Rattle.world.proofs.Logged.{get_replicate}
use Rattle.world.proofs.Rows.{Copies, Nests, Unnests, Unlocks, Leaves, Enters, GoesOnline, Announces, Firsts, Nexts, Touches, ReaderRows, IsUpdate, any_retires, any_updates, any_works, Each, Law, by_law}
use Rattle.world.specs.Layouts.{answers_to, laid_out}

-- ---- a reader's row

module _ {P : Type 0} (qsbr : Bool) (w : BoardView P) (r : ℕ) (v : ReaderState) where
  -- its word has the count of no section, in the general-purpose flavour
  abbrev IsClosed : ReaderState → Type 0
  IsClosed x = qsbr ≡ false → (count_of w.layout x.word == 0) ≡ true

  -- what it opens is made of its copy, and what it copies is present
  record Loads (step : ReaderStep) : Type 0 where
    pub opens : IsTrue (opens_section step.answer) → (copied : ℕ) × (v.copy ≡ Some copied) × (IsClosed v → step.state.word ≡ word_for qsbr w.layout copied)
    pub copies : (copied : ℕ) → step.state.copy ≡ Some copied → (copied ≡ w.grace.word) × IsClosed step.state

  -- a step that opens nothing and copies nothing
  plain : (step : ReaderStep) → opens_section step.answer ≡ false → step.state.copy ≡ None → Loads step
  plain step quiet none = record {
    opens = λ h. absurd (true≢false (sym h ∙ quiet));
    copies = λ copied e. let clash = sym none ∙ e in cc;
  }

  -- one that opens a section
  opening : (step : ReaderStep) (copied : ℕ) → v.copy ≡ Some copied → (IsClosed v → step.state.word ≡ word_for qsbr w.layout copied) → step.state.copy ≡ None → Loads step
  opening step copied has word none = record {
    opens = λ h. (copied, has, word);
    copies = λ c e. let clash = sym none ∙ e in cc;
  }

  loads : ReaderRows qsbr w.layout w r v Loads
  loads _ (Copies none zero) = record { opens = λ h. absurd (true≢false (sym h)); copies = λ copied e. (cc, zero) }
  loads _ (Nests word none flavour more is) = plain (quietly (with_word v word)) refl none
  loads _ (Unnests word none flavour is more) = plain (quietly (with_word v word)) refl none
  loads _ (Unlocks word none flavour is zero) = plain _ refl none
  loads _ (Leaves none flavour online) = plain _ refl none
  loads _ (Enters copied word has flavour is) =
      opening _ copied has (λ closed. let same : Ok (fresh w.layout (copied == 1)) ≡ Ok word = sym (cond-true (count_of w.layout v.word == 0) _ _ (closed flavour)) ∙ is in
      let new : word ≡ fresh w.layout (copied == 1) = cc in new ∙ sym (cond-false qsbr (announced copied) (fresh w.layout (copied == 1)) flavour)) refl
  loads _ (GoesOnline copied has flavour offline) = opening (go_online_row copied r v) copied has (λ closed. sym (cond-true qsbr (announced copied) (fresh w.layout (copied == 1)) flavour)) refl
  loads _ (Announces copied has flavour online) = opening (announce_row copied r v) copied has (λ closed. sym (cond-true qsbr (announced copied) (fresh w.layout (copied == 1)) flavour)) refl
  loads _ (Firsts c head none open' is) = plain _ refl none
  loads _ (Nexts o x none open' from is) = plain _ refl none
  loads _ (Touches o none open' from) = plain _ refl none

-- ---- all lines

module _ {P : Type 0} (plans : Plans P) where
  abbrev reader_of : BoardView P → ℕ → ReaderState
  reader_of w r = get_or w.readers r new_reader

  -- a reader's copy is of what was present at its latest move, and until it is stored there is no section
  abbrev Fits : BoardView P → ℕ → Option ℕ → Type 0
  Fits w r loaded = (copied : ℕ) → (reader_of w r).copy ≡ Some copied → (loaded ≡ Some copied) × (plans.qsbr ≡ false → (count_of w.layout (reader_of w r).word == 0) ≡ true)

  layout_over : (w : BoardView P) (change : Change P) → (changed w change).layout ≡ w.layout
  layout_over w (Stay answer) = refl
  layout_over w _ = refl

  same_layout : (w : BoardView P) (x : Result (Change P) Refusal) → (with_change w x).world.layout ≡ w.layout
  same_layout w (Ok change) = layout_over w change
  same_layout w (Err e) = refl

  same_readers : (w : BoardView P) (change : Change P) → IsUpdate change → (changed w change).readers ≡ w.readers
  same_readers w (Read r step) is = absurd is
  same_readers w _ is = refl

  -- what a line of a reader makes is a step of it; lines of others leave readers as they are
  record ReadsBy (w : BoardView P) (k : ℕ) (change : Change P) : Type 0 where
    state : ReaderState
    was : slice_get w.readers k ≡ Some state
    step : ReaderStep
    is : Read k step ≡ change
    loads_by : Loads plans.qsbr w k state step

  abbrev ReadsOver : BoardView P → Line → Change P → Type 0
  ReadsOver w (Reader k verb) change = ReadsBy w k change
  ReadsOver w _ change = (changed w change).readers ≡ w.readers

  stays_over : (w : BoardView P) (line : Line) (answer : Answer) → (IsOfReader line → ⊥) → IsStalled answer → ReadsOver w line (Stay answer)
  stays_over w (Reader k verb) answer never stalled = absurd (never tt)
  stays_over w _ answer never stalled = refl

  reads_law : (w : BoardView P) → Law plans w (ReadsOver w)
  reads_law w = record {
    stays = stays_over w;
    reads = λ k v verb was step row. record { state = v; was = was; step = step; is = refl; loads_by = loads plans.qsbr w k v step row };
    updates = λ u x was. any_updates plans w u x (λ v. ReadsOver w (Updater u v)) (λ v. same_readers w) (any_retires plans w u x (λ v. ReadsOver w (Updater u v)) (λ y q act mark answer. refl));
    works = λ k x was. any_works plans w k x (λ v. ReadsOver w (Worker k v)) (λ v y grace act mark answer. refl);
  }

  abbrev moves_by : ℕ → BoardView P → Line → Result (Change P) Refusal → List Move
  moves_by r w (Reader k verb) x = cond (k == r) (made_by plans r w (with_change w x).world (with_change w x).answer) []
  moves_by r w _ x = []

  -- what follows a line that makes these moves, where the reader fits
  record Goes (w next : BoardView P) (r : ℕ) (loaded : Option ℕ) (moves : List Move) : Type 0 where
    pub later : Option ℕ
    pub fits : Fits next r later
    pub stores : (ms : List Move) → StoresWhatItLoaded plans.qsbr w.layout later ms → StoresWhatItLoaded plans.qsbr w.layout loaded (moves ++ ms)

  -- it makes no move, and is as it was
  no_move : (w : BoardView P) (r : ℕ) (loaded : Option ℕ) (x : Result (Change P) Refusal) (moves : List Move) → moves ≡ [] → reader_of (with_change w x).world r ≡ reader_of w r → Fits w r loaded → Goes w (with_change w x).world r loaded moves
  no_move w r loaded x moves none same fits = record {
    later = loaded;
    fits = λ copied e.
        let f = fits copied (sym (ap (λ (v : ReaderState). v.copy) same) ∙ e) in
        (f.0, λ flavour. ap (λ (l : Layout). count_of l (reader_of (with_change w x).world r).word == 0) (same_layout w x) ∙ ap (λ (v : ReaderState). count_of w.layout v.word == 0) same ∙ f.1 flavour);
    stores = λ ms h. subst (λ (xs : List Move). StoresWhatItLoaded plans.qsbr w.layout loaded (xs ++ ms)) (sym none) h;
  }

  -- its own move
  own_move : (w : BoardView P) (r : ℕ) (loaded : Option ℕ) (change : Change P) → ReadsBy w r change → Fits w r loaded → Goes w (changed w change) r loaded (made_by plans r w (with_change w (Ok change)).world (with_change w (Ok change)).answer)
  own_move w r loaded change by fits =
      let old : reader_of w r ≡ by.state = get_or_from_slice_get w.readers r by.state new_reader by.was in
      let new : get_or (slice_set w.readers r by.step.state) r new_reader ≡ by.step.state = get_or-set_same w.readers r by.step.state new_reader (slice_get_within w.readers r by.state by.was) in
      subst (λ (x : Change P). Goes w (changed w x) r loaded (made_by plans r w (with_change w (Ok x)).world (with_change w (Ok x)).answer)) by.is (record {
        later = Some w.grace.word;
        fits = λ copied e.
            let c = by.loads_by.copies copied (sym (ap (λ (x : ReaderState). x.copy) new) ∙ e) in
            (sym (ap (λ (n : ℕ). Some n) c.0), λ flavour. ap (λ (x : ReaderState). count_of w.layout x.word == 0) new ∙ c.1 flavour);
        stores = λ ms h. (
          (λ opens.
              let o = by.loads_by.opens opens in
              let f = fits o.0 (ap (λ (x : ReaderState). x.copy) old ∙ o.1) in
              (o.0, f.0, ap (λ (x : ReaderState). x.word) new ∙ o.2 (λ flavour. sym (ap (λ (x : ReaderState). count_of w.layout x.word == 0) old) ∙ f.1 flavour))),
          h,
        );
      })

  goes_over : (w : BoardView P) (r : ℕ) (loaded : Option ℕ) (l : Line) (change : Change P) → ReadsOver w l change → Fits w r loaded → Goes w (changed w change) r loaded (moves_by r w l (Ok change))
  goes_over w r loaded (Reader k verb) change by fits = this (eqb_tells k r)
    where
      this : (((k == r) ≡ true) × (k ≡ r)) ⊎ (((k == r) ≡ false) × (k ≢ r)) → Goes w (changed w change) r loaded (moves_by r w (Reader k verb) (Ok change))
      this (inl same) = subst (Goes w (changed w change) r loaded) (sym (cond-true (k == r) _ _ same.0)) (own_move w r loaded change (subst (λ (n : ℕ). ReadsBy w n change) same.1 by) fits)
      this (inr other) = no_move w r loaded (Ok change) _ (cond-false (k == r) _ _ other.0)
          (subst (λ (x : Change P). reader_of (changed w x) r ≡ reader_of w r) by.is (get_or-set_other w.readers k r by.step.state new_reader (λ e. other.1 (sym e)))) fits
  goes_over w r loaded (Updater u v) change same fits = no_move w r loaded (Ok change) [] refl (ap (λ (vs : List ReaderState). get_or vs r new_reader) same) fits
  goes_over w r loaded (Worker k v) change same fits = no_move w r loaded (Ok change) [] refl (ap (λ (vs : List ReaderState). get_or vs r new_reader) same) fits

  goes_by : (w : BoardView P) (r : ℕ) (loaded : Option ℕ) (l : Line) (x : Result (Change P) Refusal) → Each plans w (ReadsOver w) l x → Fits w r loaded → Goes w (with_change w x).world r loaded (moves_by r w l x)
  goes_by w r loaded l (Ok change) over fits = goes_over w r loaded l change over fits
  goes_by w r loaded l (Err e) over fits = no_move w r loaded (Err e) (moves_by r w l (Err e)) (by l) refl fits
    where
      by : (l : Line) → moves_by r w l (Err e) ≡ []
      by (Reader k verb) = elim (k == r) as (λ b. cond b (let ms : List Move = [] in ms) [] ≡ []) [ true ↦ refl | false ↦ refl ]
      by _ = refl

  move_is : (r : ℕ) (w : BoardView P) (l : Line) → moves_by r w l (change_of plans w l) ≡ move_of plans r w l
  move_is r w (Reader k verb) = refl
  move_is r w _ = refl

  all_stored : (w : BoardView P) (r : ℕ) (layout : Layout) (loaded : Option ℕ) (lines : List Line) → w.layout ≡ layout → Fits w r loaded → StoresWhatItLoaded plans.qsbr layout loaded (moves_of plans r w lines)
  all_stored w r layout loaded [] same fits = tt
  all_stored w r layout loaded (l ∷ ls) same fits =
      let g = goes_by w r loaded l (change_of plans w l) (by_law plans w (ReadsOver w) (reads_law w) l) fits in
      let next = (outcome_of plans w l).world in
      let rest = all_stored next r layout g.later ls (same_layout w (change_of plans w l) ∙ same) g.fits in
      subst (λ (ms : List Move). StoresWhatItLoaded plans.qsbr layout loaded (ms ++ moves_of plans r next ls)) (move_is r w l)
      (subst (λ (at : Layout). StoresWhatItLoaded plans.qsbr at loaded (moves_by r w l (change_of plans w l) ++ moves_of plans r next ls)) same
      (g.stores (moves_of plans r next ls) (subst (λ (at : Layout). StoresWhatItLoaded plans.qsbr at g.later (moves_of plans r next ls)) (sym same) rest)))

  pub stored_from_fresh : (config : Config) (seq : ℕ) (lines : List Line) (r : ℕ) → StoresWhatItLoaded plans.qsbr config.layout None (moves_of plans r (fresh_at config seq) lines)
  stored_from_fresh config seq lines r =
      all_stored (fresh_at config seq) r config.layout None lines refl
      (λ copied e. let none = ap (λ (v : ReaderState). v.copy) (get_replicate new_reader config.readers r) in let clash = sym none ∙ e in cc)

-- ---- in the quiescent-state flavour words of both layouts lead to the same answers

abbrev laid : Layout → BoardView QsbrPlan → BoardView QsbrPlan
laid layout w = record w { layout = layout }

module _ (layout : Layout) where
  same_answer : (w : BoardView QsbrPlan) (x : Result (Change QsbrPlan) Refusal) → (with_change (laid layout w) x).answer ≡ (with_change w x).answer
  same_answer w (Ok change) = refl
  same_answer w (Err e) = refl

  same_world : (w : BoardView QsbrPlan) (x : Result (Change QsbrPlan) Refusal) → (with_change (laid layout w) x).world ≡ laid layout (with_change w x).world
  same_world w (Ok (Read r step)) = refl
  same_world w _ = refl

  -- a step of this flavour looks at no layout
  same_change : (w : BoardView QsbrPlan) (line : Line) → change_of qsbr_plans (laid layout w) line ≡ change_of qsbr_plans w line
  same_change w (Reader r verb) = by (slice_get w.readers r) verb
    where
      by : (v : Option ReaderState) (verb : ReaderVerb) → made (of_reader true (laid layout w) r verb v) ≡ made (of_reader true w r verb v)
      by None verb = refl
      by (Some v) ReaderVerb.GoOn = refl
      by (Some v) _ = refl
  same_change w (Updater u verb) = refl
  same_change w (Worker k verb) = refl

  all_alike : (w : BoardView QsbrPlan) (lines : List Line) → answers_to (OfQsbr (laid layout w)) lines ≡ answers_to (OfQsbr w) lines
  all_alike w [] = refl
  all_alike w (line ∷ lines) =
      let change = same_change w line in
      let answer = ap (λ (x : Result (Change QsbrPlan) Refusal). (with_change (laid layout w) x).answer) change ∙ same_answer w (change_of qsbr_plans w line) in
      let world = ap (λ (x : Result (Change QsbrPlan) Refusal). (with_change (laid layout w) x).world) change ∙ same_world w (change_of qsbr_plans w line) in
      ap (λ (a : Result Answer Refusal). a ∷ answers_to (OfQsbr (outcome_of qsbr_plans (laid layout w) line).world) lines) answer
      ∙ ap (λ (v : BoardView QsbrPlan). (outcome_of qsbr_plans w line).answer ∷ answers_to (OfQsbr v) lines) world
      ∙ ap (λ (rest : List (Result Answer Refusal)). (outcome_of qsbr_plans w line).answer ∷ rest) (all_alike (outcome_of qsbr_plans w line).world lines)

  pub alike_in : (config : Config) (seq : ℕ) (lines : List Line) (flavour : Flavour) → flavour ≡ Qsbr → answers_to (fresh_in flavour (laid_out layout config) seq) lines ≡ answers_to (fresh_in flavour config seq) lines
  alike_in config seq lines Memb e = cc
  alike_in config seq lines Qsbr e = all_alike (fresh_at config seq) lines
