-- `tells` gives the fact that an identity keeps.
use Rattle.live_log.proofs.Cited.{◌≡◌, List, [], ◌∷◌, ◌++◌, refl, sym, subst, a_type, Val, vunit, vstruct, vcons, vnil, of_list, inst_fn, SProp, ent, id⊢, emp, WpFn, ‵, raw, ◌⊛◌, ◌$◌, ◌∵◌, !, qed, by, move, keep, split, fsplit, fjoin, fpick, feq_i, feq_l, suffices, use0, of_opd, returns, enter, unit_lit, alloc_all, pass_all, free_all, look_at, sets, fact, fact_i, tables, no, RattleType, owns, param, layouts, types_at, plain, nothing, alive, Stays, stay_dropped, walk_of, Goes-dropped, proved_at, leaves}
use Rattle.live_log.specs.contracts.callback_id.Identity as identity
use Rattle.live_log.specs.contracts.callback_id.Identity.tells.{ended, clauses}
use Rattle.live_log.specs.contracts.callback_id.Identity.tells.Key.{name as #self}
use Rattle.live_log.proofs.callback_id.Identity.tells.Statement.{statement}
use Rattle.live_log.proofs.callback_id.Identity.tells.Code as code

pub tells_spec : {M : Type 1} → statement M
tells_spec 𝓤 𝓛 𝓜 𝓡 wired T L =
    let I : RattleType = identity.the_row (param 0 T) in let Ls = layouts (a_type ∷ []) (T, tt) in let fn = inst_fn Ls code.function in
    let H = 𝓛.H in let 𝓣 = tables 𝓤 H 𝓜 𝓡 𝓡.env in let En = ended T in let c = clauses T 𝓛 𝓜.mem 𝓡.returns in
    let hs : Stays En.signature.params En.kept = (stay_dropped (plain (λ _. I)) no, tt) in
    proved_at 𝓛 En hs c 𝓜 𝓡 (Goes-dropped 𝓛 1 (plain (λ _. I)) no (λ κs x f. refl), tt) (#self Ls) fn (code.unfolded 𝓤 H 𝓜 𝓡 wired (T, tt)) (λ z are.
    let d = z.0.3.0 in let token : Val = vstruct (vcons (vstruct vnil) vnil) in let Told : Type 0 = d.code ≡ T.coded.code d.value in
    let Post : Val → SProp 𝓤 = (walk_of 𝓛 En hs c).post z in let Run : List Val → SProp 𝓤 = λ ws. WpFn 𝓤 H 𝓣.C 𝓣.Λ fn ws Post in
    qed 𝓛 ((raw (alive 𝓛 En.signature z.0.0 z.0.1) ⊛ ‵ (owns (types_at En.signature.params z.0.0) z.0.3 z.0.4)) ∷ raw ((c z.0.0 z.0.3).requires z.1) ∷ []) ∵
    split ! $ move ! (1 ∷ []) $ fsplit ! $ fsplit ! $ fpick ! (λ vss. fsplit ! $ feq_l ! (λ ev. fsplit ! $ fpick ! (λ uss. fsplit ! $ feq_l ! (λ ep. move ! (2 ∷ []) $ feq_l ! (λ told. keep ! (3 ∷ []) $
    let ws : z.0.4.0 ≡ token ∷ [] = subst (λ (us : List Val). z.0.4.0 ≡ vstruct (of_list (us ++ [])) ∷ []) ep ev in
    suffices ! (Run (token ∷ [])) (subst (λ (us : List Val). ent 𝓤 (Run (token ∷ [])) (Run us)) (sym (λ i. ws i ++ [])) (id⊢ 𝓤 (Run (token ∷ [])))) $
    enter ! 𝓣.C 𝓣.Λ fn (token ∷ []) Post $ alloc_all ! (λ l. pass_all ! refl ((tt, (tt, tt)), tt) $
    sets ! (of_opd ! (unit_lit !)) refl (tt, tt) $ use0 𝓛 (raw (fact 𝓤 Told)) (fact_i 𝓤 Told (emp 𝓤) told) $ feq_i ! (List Val) (vunit ∷ []) (vunit ∷ []) refl $
    nothing ! $ nothing ! $ fjoin ! $ returns ! (look_at ! 0 refl) $ free_all ! refl $ keep ! (3 ∷ 0 ∷ 1 ∷ 2 ∷ []) $ by ! (leaves 𝓛 En hs c z vunit tt (tt, tt) (tt, tt)))))))))
