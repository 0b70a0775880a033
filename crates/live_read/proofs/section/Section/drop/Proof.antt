-- `drop` hands the reader to `leave`, and gives it up. So what a section says of its reader is not owed of it at the end.
-- Assumes `Logic`.
use Rattle.live_read.proofs.Cited.{◌<◌, List, [], ◌∷◌, refl, ap, Args, Fn, a_type, dcons, dnil, named, inst_fn, Val, vunit, SProp, emp, id⊢, ‵, raw, ◌⊛◌, ◌$◌, ◌∵◌, !, qed, by, move, keep, drop, split, join, pick, fsplit, fjoin, feq_l, feq_i, await, use0, use1, use2, stop, fld, of_opd, addr, unit_lit, no_more, and_then, returns, enter, alloc_all, pass_all, free_all, look_at, get, get_in, through, sets, lands_as, sub, whole, ◌⊑◌, Lfts, lft_at, fact, fact_i, tables, unit, yes, left, param, RattleType, owns, mut_vals, mut_Tells, named_lft, types_at, takes, nothing, only, Declared, shape, machine, Struct-Tells, calls_at, Lasts, at_exit, lasts, alive, triple_of, framed, Stays, walk_of, proved, leaves}
use types.Kit.{some, later}
use denote.Param.{bounded}
use Rattle.live_read.specs.contracts.reader.Reader as reader
use Rattle.live_read.specs.contracts.reader.Reader.leave as ends
use Rattle.live_read.specs.contracts.section.Section as section
use Rattle.live_read.specs.contracts.section.Section.drop.{ended, clauses}
use Rattle.live_read.specs.contracts.section.Section.drop.Key.{name as #self}
use Rattle.live_read.proofs.reader.Reader.leave.Met.{met}
use Rattle.live_read.proofs.section.Section.drop.Statement.{statement}
use Rattle.live_read.proofs.section.Section.drop.Code as code

pub drop_spec : {M : Type 1} → statement M
drop_spec 𝓤 𝓛 𝓜 𝓡 wired P K B LP LK LB gP dP gK dK gB dB eP eK eB mP mK mB gluedP gluedK gluedB =
    let Ls : Args = bounded (a_type ∷ a_type ∷ a_type ∷ []) (P, (K, (B, tt))) (dcons dP (dcons dK (dcons dB (dcons eP (dcons eK (dcons eB dnil)))))) in
    let fn : Fn = inst_fn Ls code.function in let H = 𝓛.H in let 𝓣 = tables 𝓤 H 𝓜 𝓡 𝓡.env in
    let En = ended P K B gP dP gK dK gB dB eP eK eB in let c = clauses P K B gP dP gK dK gB dB eP eK eB 𝓛 𝓜.mem 𝓡.returns in
    let Eg = ends.ended P K B gP dP gK dK gB dB in let cg = ends.clauses P K B gP dP gK dK gB dB 𝓛 𝓜.mem 𝓡.returns in
    let G = triple_of 𝓛 Eg.signature (ends.spec P K B gP dP gK dK gB dB 𝓛 𝓜.mem 𝓡.returns) in
    let R : RattleType = reader.the_row (param 0 P) (param 1 K) (param 2 B) gP gB gK in
    let T : Lfts 4 → Declared = λ κs. section.the_type (named_lft 4 0 tt κs) (param 0 P) (param 1 K) (param 2 B) gP gB gK in
    let hs : Stays En.signature.params En.kept = (record { fit = λ κs x f. Unit {0}; has = λ κs x f vs. left ((section.the_row (named_lft 4 0 tt κs) (param 0 P) (param 1 K) (param 2 B) gP gB gK).exit yes) x f }, tt) in
    proved 𝓛 En hs c 𝓜 𝓡 (λ κs x f vs fits. 𝓛.laws.⇛_intro _, tt) (#self Ls) fn (code.unfolded 𝓤 H 𝓜 𝓡 wired (P, (K, (B, tt))) dP dK dB eP eK eB)
    (λ κs. (λ d. machine (shape (T κs)) (mut_vals, tt) ((T κs).to d) ∷ [], tt))
    (λ κs. (λ d vs p. Struct-Tells (shape (T κs)) (mut_vals, tt) (mut_Tells (named 0) κs.0 R, tt) ((T κs).to d) vs p, tt)) (λ κs qs bounds a _ are.
    let d = a.0 in let r = d.reader in let S = shape (T κs) in
    let y : (walk_of 𝓛 En hs c).Ghost = ((κs, qs, bounds, a, (machine S (mut_vals, tt) ((T κs).to d) ∷ [], tt)), tt) in
    let Post : Val → SProp 𝓤 = (walk_of 𝓛 En hs c).post y in
    let z : G.Ghost = ((κs, qs, bounds, (r, tt), (mut_vals r, tt)), tt) in
    qed 𝓛 ((raw (alive 𝓛 En.signature κs qs) ⊛ ‵ (owns (types_at En.signature.params κs) a y.0.4)) ∷
    (raw (fact 𝓤 (lft_at 4 1 tt κs ⊑ P.lives)) ⊛ (raw (fact 𝓤 (lft_at 4 2 tt κs ⊑ K.lives)) ⊛ (raw (fact 𝓤 (lft_at 4 3 tt κs ⊑ B.lives)) ⊛ raw (emp 𝓤)))) ∷ []) ∵
    -- [the facts; the tokens and the section]
    move ! (1 ∷ []) $ split ! $ move ! (1 ∷ []) $ split ! $ move ! (1 ∷ []) $ split ! $ move ! (1 ∷ []) $ drop ! $
    use0 𝓛 (raw (fact 𝓤 (r.now.core.locks < r.now.core.depth))) (fact_i 𝓤 (r.now.core.locks < r.now.core.depth) (emp 𝓤) d.open_section) $
    move ! (1 ∷ 0 ∷ []) $ join ! $ move ! (1 ∷ 0 ∷ []) $ join ! $ move ! (1 ∷ 0 ∷ []) $ join ! $
    move ! (1 ∷ []) $ split ! $ move ! (1 ∷ []) $ fsplit ! $
    use1 𝓛 (‵ (owns S.fields ((T κs).to d) (mut_vals r, tt))) (takes 𝓛 S (mut_vals, tt) (mut_Tells (named 0) κs.0 R, tt) ((T κs).to d) _) $
    move ! (1 ∷ []) $ drop ! $ move ! (1 ∷ 0 ∷ []) $ join ! $ use2 𝓛 (raw (G.pre z)) (id⊢ 𝓤 _) $
    enter ! 𝓣.C 𝓣.Λ fn _ Post $ alloc_all ! (λ l. pass_all ! refl ((tt, (tt, tt)), tt) $
    sets ! (of_opd ! (get_in ! (fld ! refl (stop !)) (sub ! 0 refl (whole !)))) refl (tt, tt) $
    sets ! (addr ! (through ! refl (stop !))) refl (tt, tt) $
    calls_at ! (framed 𝓤 H 𝓜 𝓣) G (met 𝓤 𝓛 𝓜 𝓡 (code.calls-live_read::reader::Reader::leave 𝓡.env wired) P K B LP LK LB gP dP gK dK gB dB mP mK mB) z
    (and_then ! (get ! refl) (no_more !)) (λ v.
    use1 𝓛 (later (some (λ (u : Unit {0}). (raw (alive 𝓛 En.signature κs qs) ⊛ ‵ (unit.own_val u (v ∷ []))) ⊛
    some (λ (ws : Lasts Eg κs (r, tt)). ‵ (lasts Eg κs (r, tt) ws) ⊛ raw ((cg κs (r, tt)).ensures tt u (at_exit Eg κs (r, tt) ws)))))) (id⊢ 𝓤 _) $
    await ! tt $ pick ! (λ u. split ! $ split ! $ move ! (1 ∷ []) $ feq_l ! (λ is_unit. move ! (1 ∷ []) $ pick ! (λ ws. split ! $
    -- [the reader's last value; the clause; the tokens]
    lands_as ! (ap only is_unit) refl (tt, tt) $ sets ! (of_opd ! (unit_lit !)) refl (tt, tt) $
    returns ! (look_at ! 0 refl) $ free_all ! refl $
    nothing ! $ move ! (1 ∷ 0 ∷ []) $ fjoin ! $ feq_i ! (List Val) (vunit ∷ []) _ refl $ keep ! (3 ∷ 1 ∷ 0 ∷ 2 ∷ []) $
    by ! (leaves 𝓛 En hs c y vunit tt ((ws.0, tt), tt) (tt, tt))))))))
