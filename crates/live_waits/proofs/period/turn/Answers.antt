-- A further step of a grace period.
use Rattle.live_waits.proofs.Cited.{◌≡◌, ℕ, ◌+◌, ◌≤◌, ◌<◌, true, List, [], ◌∷◌, ◌++◌, arith, sym, refl, ap, ◌∙◌, subst, ∥∥₁_elim, ℕ_set, le_prop, Wide, Action, Load, LoadGroup, StorePhase, StoreSeq, Turn, Step, Wait, present_after, Me, CallbackId, View, Log, IsBound, MayBePresent, SeqOdd, SeqEven, Present, Rests, Works, slot_at, group_at, GraceRight, at_log, looks_in, before_in, seq_in, present_in, GraceBecomes}
use Rattle.live_waits.specs.Answers.{Gained, stored_by}
use Rattle.live_waits.specs.declared.period.Progress.TheVariants.{InTheWay}
use Rattle.live_waits.specs.Going.{Begun, InLoop, IsLogged}
use Rattle.live_waits.specs.Steps.{progress_at}
use Rattle.live_waits.proofs.Tellings.{all_stores, all_turns, told_last, even_is, refutes}
use Rattle.live_waits.proofs.Answering.{wrote_later}
use Rattle.live_waits.proofs.Goings.{goes_on, gained_more, whole, stored_turn, only_after}
use Rattle.live_waits.proofs.Cases.{Laws, Loads, after_look, after_store, in_loop, logged, named, bound_next, bound_turn, may_prop}
use Rattle.live_waits.proofs.period.turn.Given as given
use Rattle.live_waits.proofs.period.turn.Goals as goal

laws : (g : given.Over) (slots seq number : ℕ) → Laws (g.P.GracePlan.is_begun Wide true slots seq number) g.P.GracePlan.action g.P.GracePlan.taken g.P.GracePlan.present seq
laws g slots seq number = record { order = λ start begun. g.met.P.GracePlan.order Wide true slots seq number start begun; presents = g.met.P.GracePlan.presents }

-- where the grace period stands
abbrev Stands : (g : given.Over) → Me CallbackId View → ℕ → ℕ → ℕ → Me CallbackId View → g.row.P.Denot → Type 0
Stands g old slots seq number now plan = let p = g.P.GracePlan in
    InLoop (p.is_begun Wide true slots seq number) p.action p.taken p.present seq p.QSBR g.K.ChainRule.allows old number plan now

stands_at : (g : given.Over) (old : Me CallbackId View) (slots seq number : ℕ) (now : Me CallbackId View) (plan told : g.row.P.Denot) → told ≡ plan → Stands g old slots seq number now plan → Stands g old slots seq number now told
stands_at g old slots seq number now plan told is = subst (Stands g old slots seq number now) (sym is)

-- a slot that the plan loads is one of the table's
low_by : (g : given.Over) (slots seq number slot : ℕ) (now : Me CallbackId View) (plan : g.row.P.Denot) → ∥ ((old : Me CallbackId View) × Stands g old slots seq number now plan) ∥₁ → g.P.GracePlan.action plan ≡ Load slot → slot < slots
low_by g slots seq number slot now plan going does = ∥∥₁_elim going le_prop (λ z. let b = z.1.1 in
    g.met.P.GracePlan.in_range Wide true slots seq number b.start b.begun (0 ∷ b.told.words) slot (ap g.P.GracePlan.action (sym b.told.is) ∙ does))

pub load_slot-word-requires-clause-seat : goal.load_slot-word-requires-clause-seat
load_slot-word-requires-clause-seat g c = (
  c.requires.seat,
  low_by g c.args.table.now.slots c.args.seq c.args.first c.in-Load.slot c.args.seat.now.me c.args.plan.now c.requires.going (sym c.next.ensures ∙ c.in-Load.is),
)

-- a word that the plan asked for was loaded, and the plan told of it
look_on : (g : given.Over) (slots seq number place word : ℕ) (old now new : Me CallbackId View) (plan told : g.row.P.Denot) (a : Action)
    → let p = g.P.GracePlan in Stands g old slots seq number now plan → p.action plan ≡ a → Loads a place → told ≡ p.taken plan word
    → GraceBecomes p.QSBR g.K.ChainRule.allows (Works (seq_in now.0.grace) (present_in now.0.grace) (before_in now.0.grace) ((place, word) ∷ looks_in now.0.grace)) [] now new
    → Stands g old slots seq number new told
look_on g slots seq number place word old now new plan told a inv does loads is looked = let p = g.P.GracePlan in let allows = g.K.ChainRule.allows in
    let begins = p.is_begun Wide true slots seq number in let looks = looks_in now.0.grace in let go = inv.0 in let taken = p.taken plan word in
    let after = after_look begins p.action p.taken p.present seq (laws g slots seq number) plan taken looks (before_in now.0.grace) now.0.seen new.0.seen inv.1 a place word does loads refl (λ es h. gained_more p.QSBR allows [] es (before_in now.0.grace) now.0 new.0.seen looked.1 h) in
    let mark : before_in new.0.grace ≡ before_in now.0.grace = ap (λ (z : Me CallbackId View). before_in z.0.grace) looked.0 in
    stands_at g old slots seq number new taken told is (
    in_loop begins p.action p.taken p.present seq p.QSBR allows old number (p.present plan) ((place, word) ∷ looks) taken new
    (goes_on p.QSBR allows old (seq + 1) number (p.present plan) (p.present plan) looks ((place, word) ∷ looks) _ [] now new go
    (named begins p.action p.taken p.present seq p.QSBR allows old number (p.present plan) looks now go (place, word)) looked)
    after.0 (subst (λ (l : Log). Begun begins p.action p.taken taken ((place, word) ∷ looks) l new.0.seen) (sym mark) after.1) inv.2)

pub returns-in-Load-clause-going : goal.returns-in-Load-clause-going
returns-in-Load-clause-going g c = λ old more inv.
    look_on g c.args.table.now.slots c.args.seq c.args.first (slot_at c.in-Load.slot) c.load_slot-word.result old c.args.seat.now.me c.load_slot-word.new.seat.me c.args.plan.now c.take.new.self (Load c.in-Load.slot) inv
    (sym c.next.ensures ∙ c.in-Load.is) refl c.take.ensures.taken c.load_slot-word.ensures.looked

pub load_group-word-requires-clause-seat : goal.load_group-word-requires-clause-seat
load_group-word-requires-clause-seat g c = let p = g.P.GracePlan in let slots : ℕ = c.args.table.now.slots in
    let small = c.args.table.now.sized.1 in (
      c.requires.seat,
      ∥∥₁_elim c.requires.going le_prop (λ z. let inv = z.1 in let b = inv.1 in
          let low = g.met.P.GracePlan.in_groups Wide true slots c.args.seq c.args.first b.start b.begun (0 ∷ b.told.words) c.in-LoadGroup.group (ap p.action (sym b.told.is) ∙ (sym c.next.ensures ∙ c.in-LoadGroup.is)) in
          omega arith),
    )

pub returns-in-LoadGroup-clause-going : goal.returns-in-LoadGroup-clause-going
returns-in-LoadGroup-clause-going g c = λ old more inv.
    look_on g c.args.table.now.slots c.args.seq c.args.first (group_at c.in-LoadGroup.group) c.load_group-word.result old c.args.seat.now.me c.load_group-word.new.seat.me c.args.plan.now c.take-in-LoadGroup.new.self (LoadGroup c.in-LoadGroup.group) inv
    (sym c.next.ensures ∙ c.in-LoadGroup.is) refl c.take-in-LoadGroup.ensures.taken c.load_group-word.ensures.looked

-- the store of a phase or number is one that the rule allows
may_turn : (g : given.Over) (slots seq number value : ℕ) (plan : g.row.P.Denot) (looks : List (ℕ × ℕ)) {old log : Log} → Begun (g.P.GracePlan.is_begun Wide true slots seq number) g.P.GracePlan.action g.P.GracePlan.taken plan looks old log
    → (g.P.GracePlan.QSBR ≡ true → number ≤ seq) → g.P.GracePlan.action plan ≡ StorePhase value → MayBePresent g.P.GracePlan.QSBR (seq + 1) (g.P.GracePlan.present plan) value
may_turn g slots seq number value plan looks b low does = let p = g.P.GracePlan in let m = g.met.P.GracePlan in
    stored_turn p.QSBR seq number (p.present plan) value (m.stores Wide true slots seq number b.start b.begun (0 ∷ b.told.words) value (ap p.action (sym b.told.is) ∙ does)) (λ q. m.rises plan value q does) low

pub store_present-requires-clause-right : goal.store_present-requires-clause-right
store_present-requires-clause-right g c = let number : ℕ = c.args.first in let right = c.requires.right in (
  right.0.0,
  ∥∥₁_elim c.requires.going (may_prop g.P.GracePlan.QSBR (seq_in c.args.seat.now.me.0.grace) (present_in c.args.seat.now.me.0.grace) c.in-StorePhase.value) (λ z. let inv = z.1 in
      subst (λ (z : ℕ × ℕ). MayBePresent g.P.GracePlan.QSBR z.0 z.1 c.in-StorePhase.value) (λ i. (sym right.0.1 i, sym (right.0.2 ∙ right.1) i))
      (may_turn g c.args.table.now.slots c.args.seq number c.in-StorePhase.value c.args.plan.now (looks_in c.args.seat.now.me.0.grace) inv.1 c.requires.first (sym c.next.ensures ∙ c.in-StorePhase.is))),
)

pub returns-in-StorePhase-clause-going : goal.returns-in-StorePhase-clause-going
returns-in-StorePhase-clause-going g c = λ old more inv. let p = g.P.GracePlan in let slots : ℕ = c.args.table.now.slots in let seq : ℕ = c.args.seq in let number : ℕ = c.args.first in
    let go = inv.0 in let b = inv.1 in let value : ℕ = c.in-StorePhase.value in
    let begins = p.is_begun Wide true slots seq number in
    let now = c.args.seat.now.me in let new = c.store_present.new.seat.me in let plan = c.args.plan.now in
    let does = (sym c.next.ensures ∙ c.in-StorePhase.is) in
    let after = after_store begins p.action p.taken p.present seq (laws g slots seq number) plan (p.taken plan 0) (looks_in now.0.grace) (before_in now.0.grace) now.0.seen new.0.seen b value does refl
    (λ es h. gained_more p.QSBR g.K.ChainRule.allows (Present value ∷ []) es (before_in now.0.grace) now.0 new.0.seen c.store_present.ensures.presented.1 h) in
    let mark : before_in new.0.grace ≡ before_in now.0.grace = ap (λ (z : Me CallbackId View). before_in z.0.grace) c.store_present.ensures.presented.0 in
    stands_at g old slots seq number new (p.taken plan 0) c.take-in-StorePhase.new.self c.take-in-StorePhase.ensures.taken (
    in_loop begins p.action p.taken p.present seq p.QSBR g.K.ChainRule.allows old number value (looks_in now.0.grace) (p.taken plan 0) new
    (goes_on p.QSBR g.K.ChainRule.allows old (seq + 1) number (p.present plan) value (looks_in now.0.grace) (looks_in now.0.grace) _ (Present value ∷ []) now new go
    (λ i. Works (ap seq_in go.is i) value (before_in now.0.grace) (looks_in now.0.grace)) c.store_present.ensures.presented)
    after.0 (subst (λ (l : Log). Begun begins p.action p.taken (p.taken plan 0) (looks_in now.0.grace) l new.0.seen) (sym mark) after.1) (bound_turn p.QSBR (seq + 1) (p.present plan) value (may_turn g slots seq number value plan (looks_in now.0.grace) b c.requires.first does)))

even_of : (g : given.Over) (slots seq number value : ℕ) (plan : g.row.P.Denot) (looks : List (ℕ × ℕ)) {old log : Log} → Begun (g.P.GracePlan.is_begun Wide true slots seq number) g.P.GracePlan.action g.P.GracePlan.taken plan looks old log
    → g.P.GracePlan.action plan ≡ StoreSeq value → value ≡ seq + 2
even_of g slots seq number value plan looks b does = even_is g.P.GracePlan.action g.P.GracePlan.taken seq b.start ((laws g slots seq number).order b.start b.begun) plan looks b.told value does

-- what is stored
even_by : (g : given.Over) (slots seq number value : ℕ) (now : Me CallbackId View) (plan : g.row.P.Denot) → ∥ ((old : Me CallbackId View) × Stands g old slots seq number now plan) ∥₁ → g.P.GracePlan.action plan ≡ StoreSeq value → value ≡ seq + 2
even_by g slots seq number value now plan going does = ∥∥₁_elim going (ℕ_set value (seq + 2)) (λ z. let inv = z.1 in even_of g slots seq number value plan (looks_in now.0.grace) inv.1 does)

even : (g : given.Over) (c : goal.After-store_even-arg-1 g) → c.in-StoreSeq.value ≡ c.args.seq + 2
even g c = even_by g c.args.table.now.slots c.args.seq c.args.first c.in-StoreSeq.value c.args.seat.now.me c.args.plan.now c.requires.going (sym c.next.ensures ∙ c.in-StoreSeq.is)

evened : (g : given.Over) (c : goal.After-store_even g) → c.in-StoreSeq.value ≡ c.args.seq + 2
evened g c = even_by g c.args.table.now.slots c.args.seq c.args.first c.in-StoreSeq.value c.args.seat.now.me c.args.plan.now c.requires.going (sym c.next.ensures ∙ c.in-StoreSeq.is)

pub store_even-requires-clause-right : goal.store_even-requires-clause-right
store_even-requires-clause-right g c = let e = even g c in let s = c.requires.right.0.1 in (c.requires.right.0.0, omega arith)

pub store_even-requires-clause-loads : goal.store_even-requires-clause-loads
store_even-requires-clause-loads g c = λ r m low note all. ∥∥₁_elim c.requires.going (λ x y. absurd x) (λ z. let inv = z.1 in
    let p = g.P.GracePlan in let go = inv.0 in let b = inv.1 in
    let slots : ℕ = c.args.table.now.slots in let seq : ℕ = c.args.seq in let number : ℕ = c.args.first in
    let does = (sym c.next.ensures ∙ c.in-StoreSeq.is) in
    let e = even g c in
    refutes p.action p.taken seq b.start ((laws g slots seq number).order b.start b.begun) p.QSBR slots number (g.met.P.GracePlan.waits Wide true slots seq number b.start b.begun) c.args.plan.now (looks_in c.args.seat.now.me.0.grace) b.told (does ∙ ap StoreSeq e)
    (before_in c.args.seat.now.me.0.grace) go.began r m low note all)

pub unreachable-requires : goal.unreachable-requires
unreachable-requires g c = ∥∥₁_elim c.requires.going (λ x y. absurd x) (λ z. z.1.1.told.unfinished (sym c.next.ensures ∙ c.in-Finished.is))

-- what the right is after the last store
rests : (g : given.Over) (c : goal.After-store_even g) → c.store_even.new.seat.me.0.grace ≡ Rests (c.args.seq + 2) c.args.present.now
rests g c = ap (λ m. m.0.grace) c.store_even.ensures.ended.0 ∙ (λ i. Rests (evened g c i) (c.requires.right.0.2 i))

pub returns-in-StoreSeq-clause-ended : goal.returns-in-StoreSeq-clause-ended
returns-in-StoreSeq-clause-ended g c = λ done. let told = c.store_even.ensures.words in
    (rests g c, refl, (told.0 ∙ evened g c, told.1 ∙ c.requires.right.0.2), c.store_even.ensures.cleared)

pub returns-in-StoreSeq-clause-whole : goal.returns-in-StoreSeq-clause-whole
returns-in-StoreSeq-clause-whole g c = λ old done inv. let p = g.P.GracePlan in let go = inv.0 in let b = inv.1 in
    let slots : ℕ = c.args.table.now.slots in let seq : ℕ = c.args.seq in let plan = c.args.plan.now in
    let before = c.args.seat.now.me in let looks = looks_in before.0.grace in let now = c.store_even.new.seat.me in
    let does : p.action plan ≡ StoreSeq c.in-StoreSeq.value = sym c.next.ensures ∙ c.in-StoreSeq.is in
    let e = evened g c in
    let only = only_after p.QSBR g.K.ChainRule.allows old _ (SeqEven ∷ []) before now go.only c.store_even.ensures.ended in
    let order = (laws g slots seq c.args.first).order b.start b.begun in
    let last = now.0.seen in
    let turns = all_turns p.action p.taken seq b.start order plan looks b.told in
    let is = c.requires.right.1 in (
      only ∙ ap (λ (x : GraceRight). (record (at_log old.0 now.0.seen) { grace = x }, old.1)) (rests g c),
      subst (IsBound p.QSBR (seq + 2)) (sym is) (subst (λ (n : ℕ). IsBound p.QSBR n (p.present plan)) (two seq) (bound_next p.QSBR (seq + 1) (p.present plan) inv.2)),
      whole p.QSBR g.K.ChainRule.allows old seq c.args.first (p.present plan) looks _ before now go c.store_even.ensures.ended c.store_even.ensures.cleared,
      record {
        start = b.start;
        begun = b.begun;
        loaded = 0 ∷ (b.told.words ++ 0 ∷ []);
        finished = ap p.action turns ∙ told_last p.action p.taken seq b.start order plan looks b.told (does ∙ ap StoreSeq e);
        left = ap p.present turns ∙ (g.met.P.GracePlan.presents plan 0 ∙ (ap (present_after (p.present plan)) does ∙ sym is));
        before = before_in before.0.grace;
        words = (let n = go.numbered in omega arith, go.began);
        stores = subst (λ (es : Log). Gained (SeqEven ∷ es ++ SeqOdd ∷ []) (before_in before.0.grace) last) (sym (all_stores p.action p.taken seq b.start order plan looks b.told (does ∙ ap StoreSeq e)))
            (gained_more p.QSBR g.K.ChainRule.allows (SeqEven ∷ []) (stored_by p.action p.taken (p.taken b.start 0) b.told.words ++ SeqOdd ∷ []) (before_in before.0.grace) before.0 last c.store_even.ensures.ended.1 b.told.stored);
      },
    )
  where
    two : (n : ℕ) → n + 1 + 1 ≡ n + 2
    two n = omega arith

pub returns-in-Load-clause-later : goal.returns-in-Load-clause-later
returns-in-Load-clause-later g c = wrote_later g.P.GracePlan.QSBR g.K.ChainRule.allows c.args.seat.now.me.0 [] c.load_slot-word.new.seat.me.0.seen c.load_slot-word.ensures.looked.1

pub returns-in-LoadGroup-clause-later : goal.returns-in-LoadGroup-clause-later
returns-in-LoadGroup-clause-later g c = wrote_later g.P.GracePlan.QSBR g.K.ChainRule.allows c.args.seat.now.me.0 [] c.load_group-word.new.seat.me.0.seen c.load_group-word.ensures.looked.1

pub returns-in-StorePhase-clause-later : goal.returns-in-StorePhase-clause-later
returns-in-StorePhase-clause-later g c = wrote_later g.P.GracePlan.QSBR g.K.ChainRule.allows c.args.seat.now.me.0 (Present c.in-StorePhase.value ∷ []) c.store_present.new.seat.me.0.seen c.store_present.ensures.presented.1

pub returns-in-StoreSeq-clause-later : goal.returns-in-StoreSeq-clause-later
returns-in-StoreSeq-clause-later g c = wrote_later g.P.GracePlan.QSBR g.K.ChainRule.allows c.args.seat.now.me.0 (SeqEven ∷ []) c.store_even.new.seat.me.0.seen c.store_even.ensures.ended.1

-- the word that the plan asked for was loaded
logged_at : (a : Action) (place word : ℕ) (now new : GraceRight) (does : Action) → Loads a place → looks_in new ≡ (place, word) ∷ looks_in now → does ≡ a → IsLogged (looks_in new) does word
logged_at a place word now new does loads same is =
    subst (λ (x : Action). IsLogged (looks_in new) x word) (sym is) (subst (λ (ls : List (ℕ × ℕ)). IsLogged ls a word) (sym same) (logged a place loads word (looks_in now)))

pub returns-in-Load-clause-turned : goal.returns-in-Load-clause-turned
returns-in-Load-clause-turned g c = let p = g.P.GracePlan in let plan = c.args.plan.now in let word : ℕ = c.load_slot-word.result in
    let does : p.action plan ≡ Load c.in-Load.slot = sym c.next.ensures ∙ c.in-Load.is in record {
      word = word;
      told = c.progress_of.ensures.told ∙ (λ i. progress_at (sym does i) (c.take.ensures.turn i));
      moved = λ more. (
        c.take.ensures.taken,
        logged_at (Load c.in-Load.slot) (slot_at c.in-Load.slot) word c.args.seat.now.me.0.grace c.load_slot-word.new.seat.me.0.grace (p.action plan) refl
            (ap (λ (z : Me CallbackId View). looks_in z.0.grace) c.load_slot-word.ensures.looked.0) does,
      );
    }

pub returns-in-LoadGroup-clause-turned : goal.returns-in-LoadGroup-clause-turned
returns-in-LoadGroup-clause-turned g c = let p = g.P.GracePlan in let plan = c.args.plan.now in let word : ℕ = c.load_group-word.result in
    let does : p.action plan ≡ LoadGroup c.in-LoadGroup.group = sym c.next.ensures ∙ c.in-LoadGroup.is in record {
      word = word;
      told = λ i. progress_at (sym does i) (p.turn plan word);
      moved = λ more. (
        c.take-in-LoadGroup.ensures.taken,
        logged_at (LoadGroup c.in-LoadGroup.group) (group_at c.in-LoadGroup.group) word c.args.seat.now.me.0.grace c.load_group-word.new.seat.me.0.grace (p.action plan) refl
            (ap (λ (z : Me CallbackId View). looks_in z.0.grace) c.load_group-word.ensures.looked.0) does,
      );
    }

pub returns-in-StorePhase-clause-turned : goal.returns-in-StorePhase-clause-turned
returns-in-StorePhase-clause-turned g c = let p = g.P.GracePlan in let plan = c.args.plan.now in
    let does : p.action plan ≡ StorePhase c.in-StorePhase.value = sym c.next.ensures ∙ c.in-StorePhase.is in record {
      word = 0;
      told = λ i. progress_at (sym does i) (p.turn plan 0);
      moved = λ more. (c.take-in-StorePhase.ensures.taken, subst (λ (x : Action). IsLogged (looks_in c.store_present.new.seat.me.0.grace) x 0) (sym does) tt);
    }

pub returns-in-StoreSeq-clause-turned : goal.returns-in-StoreSeq-clause-turned
returns-in-StoreSeq-clause-turned g c = let p = g.P.GracePlan in let plan = c.args.plan.now in
    let does : p.action plan ≡ StoreSeq c.in-StoreSeq.value = sym c.next.ensures ∙ c.in-StoreSeq.is in record {
      word = 0;
      told = λ i. progress_at (sym does i) (p.turn plan 0);
      moved = λ more. absurd (more refl);
    }

-- the slot in the way is the one that was loaded
way_is : (k slot : ℕ) (t : Turn) → progress_at (Load k) t ≡ InTheWay slot → k ≡ slot
way_is k slot Wait e = cc
way_is k slot Step e = absurd cc

pub returns-in-Load-clause-in_way : goal.returns-in-Load-clause-in_way
returns-in-Load-clause-in_way g c = λ slot is. subst (λ (k : ℕ). k < c.args.table.now.slots) (way_is c.in-Load.slot slot c.take.result (sym c.progress_of.ensures.told ∙ is))
    (low_by g c.args.table.now.slots c.args.seq c.args.first c.in-Load.slot c.args.seat.now.me c.args.plan.now c.requires.going (sym c.next.ensures ∙ c.in-Load.is))
