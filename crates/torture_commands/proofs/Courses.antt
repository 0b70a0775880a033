-- The lines of a walk, one after the other.
use Rattle.torture_commands.proofs.Cited.{◌≡◌, ℕ, suc, ◌+◌, ◌≤◌, ◌<◌, Bool, true, false, List, [], ◌∷◌, ◌++◌, length, Ok, Err, Result, refl, sym, ap, subst, ◌∙◌, arith, nat_le, ◌&&◌, ◌⊎◌, Appends, inl, inr, leb, true≢false, append_assoc, Option, leb_tells, append-nil, flat_map_more, length-append, All-nil, All-push, Lcg, is_in, is_within_limits, ReplayFault, Memory, header, Writes, spelling, IsLine, appends_none, appends_more, after_append, ◌↔◌, Event, Verdict, Yes, IsRun, Refusal, Config, Flavour, Memb, Qsbr, Line, Change, Begin, Publish, Grace, Hold, Retire, Bar, Work, Stay, BoardView, changed, spliced_length, length_marked, objects_given, change_of, with_change, WorldView, OfMemb, OfQsbr, memb_plans, qsbr_plans, fresh_in, fresh_world, step_of, log_of, world_after_lines}
use Rattle.torture_commands.specs.declared.command.Walk.{Walk}
use Rattle.torture_commands.specs.Limits.{is_walk_within}
use Rattle.torture_commands.specs.Drawing.{Drawn, drawn_as, seeded, draw_line, with_next, draw_lines}
use Rattle.torture_commands.specs.Walking.{walk_line, IsDrawn, IsUnderWay, IsPrinting, IsWalked, IsWalkLine, Walks, Schedules}
use Rattle.world_state.specs.declared.change.Change.TheVariants.{Read}

-- ---- the objects given are no more than the lines

module _ {P : Type 0} where
  by_change : (w : BoardView P) (c : Change P) → length (changed w c).objects ≤ length w.objects + 1
  by_change w (Read r step) = omega arith
  by_change w (Begin u x object) = omega (arith, length-append w.objects (object ∷ []))
  by_change w (Publish u x splice event) = omega (arith, spliced_length w.objects splice)
  by_change w (Grace u x grace answer) = omega arith
  by_change w (Hold u x q) = omega arith
  by_change w (Retire u x q act mark answer) = omega (arith, length_marked w.objects mark)
  by_change w (Bar u x barriers answer) = omega arith
  by_change w (Work k x grace act mark answer) = omega (arith, length_marked w.objects mark)
  by_change w (Stay answer) = omega arith

  by_step : (w : BoardView P) (r : Result (Change P) Refusal) → length (with_change w r).world.objects ≤ length w.objects + 1
  by_step w (Ok c) = by_change w c
  by_step w (Err e) = omega arith

given_by_step : (w : WorldView) (line : Line) → objects_given (step_of w line).world ≤ objects_given w + 1
given_by_step (OfMemb w) line = omega (arith, by_step w (change_of memb_plans w line))
given_by_step (OfQsbr w) line = omega (arith, by_step w (change_of qsbr_plans w line))

given_by : (w : WorldView) (lines : List Line) → objects_given (world_after_lines w lines) ≤ objects_given w + length lines
given_by w [] = omega arith
given_by w (line ∷ lines) = omega (arith, given_by_step w line, given_by ((step_of w line).world) lines)

given_in : (f : Flavour) (config : Config) → objects_given (fresh_in f config 0) ≡ 0
given_in Memb config = refl
given_in Qsbr config = refl

pub given_from_fresh : (config : Config) (lines : List Line) → objects_given (world_after_lines (fresh_world config) lines) ≤ length lines
given_from_fresh config lines = omega (arith, given_in config.flavour config, given_by (fresh_world config) lines)

-- ---- limits

both : (a b : Bool) → (a && b) ≡ true → (a ≡ true) × (b ≡ true)
both true b e = (refl, e)
both false b e = absurd (true≢false (sym e))

at_most : (a b : ℕ) → nat_le a b ≡ true → a ≤ b
at_most a b f = by (leb_tells a b) f
  where
    by : ((leb a b ≡ true) × (a ≤ b)) ⊎ ((leb a b ≡ false) × (b < a)) → nat_le a b ≡ true → a ≤ b
    by (inl y) f = y.1
    by (inr n) f = absurd (true≢false (sym f ∙ n.0))

few_lines : (walk : Walk) → is_walk_within walk ≡ true → walk.lines ≤ 1000000
few_lines walk e = at_most walk.lines 1000000 (both (is_within_limits walk.config) (nat_le walk.lines 1000000) (both (is_within_limits walk.config && nat_le walk.lines 1000000) _ e).0).1

within_config : (walk : Walk) → is_walk_within walk ≡ true → is_within_limits walk.config ≡ true
within_config walk e = (both (is_within_limits walk.config) (nat_le walk.lines 1000000) (both (is_within_limits walk.config && nat_le walk.lines 1000000) _ e).0).0

pub few_updaters : (walk : Walk) → is_walk_within walk ≡ true → walk.config.updaters ≤ 16
few_updaters walk e =
    let c = walk.config in
    let three = (both (is_in 1 64 c.readers && is_in 1 16 c.updaters && is_in 1 8 c.workers) (is_in 1 64 c.chains) (within_config walk e)).0 in
    let two = (both (is_in 1 64 c.readers && is_in 1 16 c.updaters) (is_in 1 8 c.workers) three).0 in
    at_most c.updaters 16 (both (nat_le 1 c.updaters) (nat_le c.updaters 16) (both (is_in 1 64 c.readers) (is_in 1 16 c.updaters) two).1).1

-- ---- from line to line

no_lines : (walk : Walk) → draw_lines walk 0 ≡ ([], seeded walk.seed)
unfolding draw_lines
no_lines walk = refl

one_more : (walk : Walk) (n : ℕ) → with_next walk (suc n) (draw_lines walk n) ≡ draw_lines walk (suc n)
unfolding draw_lines
one_more walk n = refl

one_more_of : (walk : Walk) (n : ℕ) → with_next walk (n + 1) (draw_lines walk n) ≡ draw_lines walk (n + 1)
one_more_of walk n =
    let e : suc n ≡ n + 1 = omega arith in
    subst (λ (k : ℕ). with_next walk k (draw_lines walk n) ≡ draw_lines walk k) e (one_more walk n)

pub begun : (walk : Walk) (world : WorldView) (generator : Lcg) → world ≡ fresh_world walk.config → generator ≡ seeded walk.seed → IsUnderWay walk world generator 0 []
begun walk world generator e g = record { count = refl; each = All-nil IsLine; drawn = ap (λ (x : Lcg). ([], x)) g ∙ sym (no_lines walk); now = e }

pub room : (walk : Walk) (world : WorldView) (generator : Lcg) (n : ℕ) (lines : List Line) → is_walk_within walk ≡ true → n < walk.lines → IsUnderWay walk world generator n lines → objects_given world < 1000000
room walk world generator n lines within le u = subst (λ (w : WorldView). objects_given w < 1000000) (sym u.now) (omega (arith, few_lines walk within, given_from_fresh walk.config lines, u.count))

next_drawn : (walk : Walk) (world : WorldView) (generator generator' : Lcg) (n : ℕ) (lines : List Line) (line : Line) → IsUnderWay walk world generator n lines → (line, generator') ≡ draw_line walk (n + 1) world generator → (lines ++ line ∷ [], generator') ≡ draw_lines walk (n + 1)
next_drawn walk world generator generator' n lines line u d =
    ap (λ (x : Drawn Line). drawn_as (λ next. lines ++ next ∷ []) x) (d ∙ ap (λ (w : WorldView). draw_line walk (n + 1) w generator) u.now)
    ∙ ap (λ (x : Drawn (List Line)). with_next walk (n + 1) x) u.drawn
    ∙ one_more_of walk n

-- the lines under way are the first ones of the walk
first_drawn : (walk : Walk) (world : WorldView) (generator : Lcg) (n : ℕ) (lines : List Line) → IsUnderWay walk world generator n lines → lines ≡ (draw_lines walk (length lines)).0
first_drawn walk world generator n lines u = ap (λ (x : Drawn (List Line)). x.0) u.drawn ∙ ap (λ (k : ℕ). (draw_lines walk k).0) u.count

pub go_on : (walk : Walk) (world world' : WorldView) (generator generator' : Lcg) (n : ℕ) (lines : List Line) (line : Line) → IsUnderWay walk world generator n lines → IsLine line → world' ≡ (step_of world line).world → (line, generator') ≡ draw_line walk (n + 1) world generator → IsUnderWay walk world' generator' (n + 1) (lines ++ line ∷ [])
go_on walk world world' generator generator' n lines line u is e d = record {
  count = omega (arith, u.count, length-append lines (line ∷ []));
  each = All-push IsLine lines line u.each is;
  drawn = next_drawn walk world generator generator' n lines line u d;
  now = e ∙ ap (λ (w : WorldView). (step_of w line).world) u.now ∙ sym (after_append (fresh_world walk.config) lines (line ∷ []));
}

pub done : (walk : Walk) (world : WorldView) (generator : Lcg) (n : ℕ) (lines : List Line) → IsUnderWay walk world generator n lines → n ≡ walk.lines → IsDrawn walk lines
done walk world generator n lines u e = record { number = omega (arith, u.count, e); each = u.each; drawn = ap (λ (x : Drawn (List Line)). x.0) u.drawn ∙ ap (λ (k : ℕ). (draw_lines walk k).0) e }

-- ---- the schedule, piece by piece

pub print_begun : (walk : Walk) (world : WorldView) (generator : Lcg) (before : Option (List ℕ)) (kept : List ℕ) → world ≡ fresh_world walk.config → generator ≡ seeded walk.seed → kept ≡ header walk.config → IsPrinting walk world generator 0 before before kept
print_begun walk world generator before kept e g k = record {
  lines = [];
  under_way = begun walk world generator e g;
  printed = [];
  writes = appends_none before;
  text = k ∙ sym (append-nil (header walk.config));
}

pub print_more : (walk : Walk) (world world' : WorldView) (generator generator' : Lcg) (n : ℕ) (before after : Option (List ℕ)) (kept kept' : List ℕ) (line : Line) → IsPrinting walk world generator n before after kept → IsLine line → world' ≡ (step_of world line).world → (line, generator') ≡ draw_line walk (n + 1) world generator → kept' ≡ kept ++ spelling line → IsPrinting walk world' generator' (n + 1) before after kept'
print_more walk world world' generator generator' n before after kept kept' line p is e d k = record {
  lines = p.lines ++ line ∷ [];
  under_way = go_on walk world world' generator generator' n p.lines line p.under_way is e d;
  printed = p.printed;
  writes = p.writes;
  text = ap (λ (t : List ℕ). p.printed ++ t) k ∙ sym (append_assoc p.printed kept (spelling line)) ∙ ap (λ (t : List ℕ). t ++ spelling line) p.text ∙ flat_map_more spelling (header walk.config) p.lines line;
}

pub flushed : (walk : Walk) (world : WorldView) (generator : Lcg) (n : ℕ) (before after after' : Option (List ℕ)) (kept kept' : List ℕ) → IsPrinting walk world generator n before after kept → (Appends after after' kept × (kept' ≡ [])) ⊎ ((after' ≡ after) × (kept' ≡ kept)) → IsPrinting walk world generator n before after' kept'
flushed walk world generator n before after after' kept kept' p (inl w) = record {
  lines = p.lines;
  under_way = p.under_way;
  printed = p.printed ++ kept;
  writes = appends_more before after after' p.printed kept p.writes w.0;
  text = ap (λ (t : List ℕ). (p.printed ++ kept) ++ t) w.1 ∙ append-nil (p.printed ++ kept) ∙ p.text;
}
flushed walk world generator n before after after' kept kept' p (inr w) = subst (λ (a : Option (List ℕ)). IsPrinting walk world generator n before a kept') (sym w.0) (subst (λ (k : List ℕ). IsPrinting walk world generator n before after k) (sym w.1) p)

pub print_unbegun : (walk : Walk) (before : Option (List ℕ)) → Schedules walk before before (Err Memory)
print_unbegun walk before = record {
  printed = [];
  writes = appends_none before;
  scheduled = (inr refl, record { lines = []; number = omega arith; each = All-nil IsLine; drawn = ap (λ (x : Drawn (List Line)). x.0) (sym (no_lines walk)); more = header walk.config; text = sym (append-nil (header walk.config)) });
}

pub print_full : (walk : Walk) (world : WorldView) (generator : Lcg) (n : ℕ) (before after : Option (List ℕ)) (kept : List ℕ) → IsPrinting walk world generator n before after kept → n ≤ walk.lines → Schedules walk before after (Err Memory)
print_full walk world generator n before after kept p le = record {
  printed = p.printed;
  writes = p.writes;
  scheduled = (inr refl, record { lines = p.lines; number = omega (arith, p.under_way.count, le); each = p.under_way.each; drawn = first_drawn walk world generator n p.lines p.under_way; more = kept; text = p.text });
}

pub print_cut : (walk : Walk) (world : WorldView) (generator : Lcg) (n : ℕ) (before after after' : Option (List ℕ)) (kept : List ℕ) (fault : ReplayFault) → IsPrinting walk world generator n before after kept → n ≤ walk.lines → Writes after after' kept (Err fault) → Schedules walk before after' (Err fault)
print_cut walk world generator n before after after' kept fault p le w =
    let f = w.1.1 in
    record {
      printed = p.printed ++ f.front;
      writes = appends_more before after after' p.printed f.front p.writes f.writes;
      scheduled = (
        inl w.0,
        record {
          lines = p.lines;
          number = omega (arith, p.under_way.count, le);
          each = p.under_way.each;
          drawn = first_drawn walk world generator n p.lines p.under_way;
          more = w.1.0;
          text = append_assoc p.printed f.front w.1.0 ∙ ap (λ (t : List ℕ). p.printed ++ t) (sym f.parts) ∙ p.text;
        },
      );
    }

pub print_done : (walk : Walk) (world : WorldView) (generator : Lcg) (n : ℕ) (before after after' : Option (List ℕ)) (kept : List ℕ) (u : Unit {0}) → IsPrinting walk world generator n before after kept → n ≡ walk.lines → Appends after after' kept → Schedules walk before after' (Ok u)
print_done walk world generator n before after after' kept u p e w = record {
  printed = p.printed ++ kept;
  writes = appends_more before after after' p.printed kept p.writes w;
  scheduled = record { lines = p.lines; drawn = done walk world generator n p.lines p.under_way e; text = p.text };
}

-- ---- the line of a walk

pub walk_unwritten : (walk : Walk) (before : Option (List ℕ)) → Walks walk before before (Err Memory)
walk_unwritten walk before = record { printed = []; writes = appends_none before; walked = refl }

is_walk_line : (walk : Walk) (world : WorldView) (log : List Event) (verdict : Verdict) (text : List ℕ) → IsWalked walk world → log ≡ log_of world → IsRun log → ((verdict ≡ Yes) ↔ IsRun log) → text ≡ walk_line walk.lines log verdict → (verdict ≡ Yes) × IsWalkLine walk text
is_walk_line walk world log verdict text w is run exactly e =
    let yes_is : verdict ≡ Yes = exactly.1 run in
    (yes_is, record { world = world; walked = w; line = e ∙ ap (λ (l : List Event). walk_line walk.lines l verdict) is ∙ ap (λ (v : Verdict). walk_line walk.lines (log_of world) v) yes_is })

pub walk_written : (walk : Walk) (world : WorldView) (log : List Event) (verdict : Verdict) (text : List ℕ) (before after : Option (List ℕ)) → IsWalked walk world → log ≡ log_of world → IsRun log → ((verdict ≡ Yes) ↔ IsRun log) → text ≡ walk_line walk.lines log verdict → Appends before after text → Walks walk before after (Ok verdict)
walk_written walk world log verdict text before after w is run exactly e a = record { printed = text; writes = a; walked = is_walk_line walk world log verdict text w is run exactly e }

pub walk_cut : (walk : Walk) (world : WorldView) (log : List Event) (verdict : Verdict) (text : List ℕ) (before after : Option (List ℕ)) (fault : ReplayFault) → IsWalked walk world → log ≡ log_of world → IsRun log → ((verdict ≡ Yes) ↔ IsRun log) → text ≡ walk_line walk.lines log verdict → Writes before after text (Err fault) → Walks walk before after (Err fault)
walk_cut walk world log verdict text before after fault w is run exactly e x =
    let f = x.1.1 in
    record { printed = f.front; writes = f.writes; walked = rw x.0 (x.1.0, subst (IsWalkLine walk) f.parts (is_walk_line walk world log verdict text w is run exactly e).1) }

-- ---- the end of the schedule

pub print_end : (walk : Walk) (world : WorldView) (generator : Lcg) (n : ℕ) (before after after' : Option (List ℕ)) (kept text : List ℕ) (result : Result (Unit {0}) ReplayFault) → IsPrinting walk world generator n before after kept → n ≡ walk.lines → text ≡ kept → Writes after after' text result → Schedules walk before after' result
print_end walk world generator n before after after' kept text (Ok u) p e is w = print_done walk world generator n before after after' kept u p e (subst (λ (t : List ℕ). Appends after after' t) is w)
print_end walk world generator n before after after' kept text (Err fault) p e is w = print_cut walk world generator n before after after' kept fault p (omega (arith, e)) (subst (λ (t : List ℕ). Writes after after' t (Err fault)) is w)
