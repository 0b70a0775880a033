use Rattle.world.proofs.Cited.{◌≡◌, ◌+◌, ◌≤◌, List, length, Result, Ok, Err, false, true≢false, inr, sym, ap, ◌∙◌, subst, refl, arith, vec_capacity, is_err, OnOk, Event, Worker, BoardView, Plans, plans_of, WorkerVerb, outcome_of, shown, IsInRange}
use Rattle.world.proofs.DrainSteps.{AreSound, all_go_on, round, made_in_room, drained_none, tells, first_fits, loop_first, drained}
use Rattle.world.proofs.board.Board.drain.Given as given
use Rattle.world.proofs.board.Board.drain.Goals.{then-items-ge-END_OF_NUMBERS-via-then-items-ge-END_OF_NUMBERS, then-items-ge-END_OF_NUMBERS-via-else-items-ge-END_OF_NUMBERS+then-is_err}
use Rattle.world.proofs.board.Board.drain.Goals as goal

abbrev plans : (g : given.Over) → Plans g.row.P.Denot
plans g = let p = g.P.GracePlan in plans_of p.QSBR g.P.WorldPlan.made p.action p.turn p.taken

sound : (g : given.Over) → AreSound (plans g)
sound g layout slots seq word =
    let p = g.P.GracePlan in
    let m = g.met.P.GracePlan in
    let begun = g.met.P.WorldPlan.made_begun layout slots seq word in
    let plan = g.P.WorldPlan.made layout slots seq word in
    record {
      finishes = g.met.P.WorldPlan.finishes layout slots seq word;
      last = (m.order layout false slots seq word plan begun).last;
      goes_on = all_go_on (plans g) layout p.layout_of p.present m.exact m.keeps_layout plan (m.begins_layout layout false slots seq word plan begun);
    }

pub items_to_drain-requires : goal.items_to_drain-requires
items_to_drain-requires g c = c.workers_rest.ensures (shown c.args.self.now) c.requires

pub steps_for-steps-requires-clause-readers : goal.steps_for-steps-requires-clause-readers
steps_for-steps-requires-clause-readers g c = (c.workers_rest.ensures (shown c.args.self.now) c.requires).few_readers

pub returns-then-items-eq0 : goal.returns-then-items-eq0
returns-then-items-eq0 g c =
    drained_none (plans g) (shown c.args.self.now) c.args.worker c.in_ok-items.items (sym c.items_to_drain.ensures ∙ c.in_ok-items.was) (c.workers_rest.ensures (shown c.args.self.now) c.requires) (omega (arith, c.if-items-eq0.true))

pub returns-then-items-ge-END_OF_NUMBERS : goal.returns-then-items-ge-END_OF_NUMBERS
returns-then-items-ge-END_OF_NUMBERS g c =
    let log_told = tells (plans g) (shown c.args.self.now) c.args.worker c.in_ok-items.items (sym c.items_to_drain.ensures ∙ c.in_ok-items.was) (c.workers_rest.ensures (shown c.args.self.now) c.requires) (sound g) (omega (arith, c.if-items-eq0.false)) in
    elim c.then-items-ge-END_OF_NUMBERS.branch [
      | then-items-ge-END_OF_NUMBERS-via-then-items-ge-END_OF_NUMBERS w ↦ (ap shown w.self-is, inr (refl, log_told))
      | then-items-ge-END_OF_NUMBERS-via-else-items-ge-END_OF_NUMBERS+then-is_err w ↦ (ap shown w.self-is ∙ ap (λ (l : List Event). record (shown c.args.self.now) { log = l }) w.reserve.ensures.items, inr (refl, log_told))
    ]

pub take-requires : goal.take-requires
take-requires g c = subst (IsInRange (plans g)) (ap (λ (l : List Event). record (shown c.args.self.now) { log = l }) (sym c.reserve.ensures.items)) (c.numbers_stay_in_range.ensures (shown c.args.self.now) c.requires)

ok_holds : {A B F : Type 0} (r : Result A B) → is_err r ≡ false → OnOk r F → F
ok_holds (Ok a) e h = h
ok_holds (Err b) e h = absurd (true≢false e)

pub loop-init : goal.loop-init
loop-init g c =
    let old = shown c.args.self.now in
    let same : record old { log = c.reserve.new.self.items } ≡ old = ap (λ (l : List Event). record old { log = l }) c.reserve.ensures.items in
    let room = ok_holds c.reserve.result (sym c.is_err.ensures.value ∙ c.if-is_err.false) c.reserve.ensures.ok in
    let e = sym c.items_to_drain.ensures ∙ c.in_ok-items.was in
    let settled = c.workers_rest.ensures old c.requires in
    let some : 1 ≤ c.in_ok-items.items = omega (arith, c.if-items-eq0.false) in
    let fits : length old.log + (c.in_ok-items.items + 2) ≤ vec_capacity c.reserve.new.self = omega (arith, room, c.reserve.ensures.len, c.args.self.now.kept.log.ok) in
    let taken = made_in_room (outcome_of (plans g) (record old { log = c.reserve.new.self.items }) (Worker c.args.worker WorkerVerb.Take)) _ (shown c.take.new.self) c.take.result c.take.ensures.step
    (c.take.ensures.in_room (subst (λ (w : BoardView _). length ((outcome_of (plans g) w (Worker c.args.worker WorkerVerb.Take)).world).log ≤ vec_capacity c.reserve.new.self) (sym same) (first_fits (plans g) old c.args.worker c.in_ok-items.items e settled (sound g) some (vec_capacity c.reserve.new.self) fits))) in
    loop_first (plans g) old c.args.worker c.in_ok-items.items e settled (sound g) some (shown c.take.new.self) c.steps_for-steps.result (vec_capacity c.take.new.self.kept.log)
    c.steps_for-steps.ensures c.requires (taken ∙ ap (λ (w : BoardView _). (outcome_of (plans g) w (Worker c.args.worker WorkerVerb.Take)).world) same)
    (omega (arith, fits, c.take.ensures.room))

pub work_on-requires : goal.work_on-requires
work_on-requires g c = c.numbers_stay_in_range.ensures (shown c.loop.self) c.loop.invariant.reached

pub loop-preserved : goal.loop-preserved
loop-preserved g c =
    let r = round (plans g) (sound g) _ (shown c.loop.self) c.args.worker c.loop.counter c.steps_for-steps.result _ _ c.loop-test.true c.loop.invariant in
    rw (made_in_room (outcome_of (plans g) (shown c.loop.self) (Worker c.args.worker WorkerVerb.GoOn)) (shown c.loop.self) (shown c.work_on.new.self) c.work_on.result c.work_on.ensures.step (c.work_on.ensures.in_room r.fits))
    (r.under (vec_capacity c.work_on.new.self.kept.log) c.work_on.ensures.room)

pub returns : goal.returns
returns g c =
    let old = shown c.args.self.now in
    drained (plans g) old c.args.worker c.in_ok-items.items (sym c.items_to_drain.ensures ∙ c.in_ok-items.was) (c.workers_rest.ensures old c.requires) (sound g) (omega (arith, c.if-items-eq0.false)) (shown c.loop.self) c.steps_for-steps.result (vec_capacity c.loop.self.kept.log)
    c.steps_for-steps.ensures (c.workers_rest.ensures (shown c.loop.self) c.loop.invariant.reached) c.loop.counter (omega (arith, c.loop-test.false)) c.loop.invariant
