-- `of` makes a value of no bytes, whose ghost fields are what the reference shows, and its code.
use Rattle.live_log.proofs.Cited.{List, [], ◌∷◌, ◌++◌, refl, sym, subst, a_type, Val, vptr, vstruct, vcons, vnil, inst_fn, ent, Fml, WpFn, ‵, raw, ◌⊛◌, ◌$◌, ◌∵◌, !, qed, move, keep, split, join, fjoin, use0, suffices, done, no_more, and_then, returns, enter, alloc_all, pass_all, free_all, look_at, get, sets, agg, tables, yes, RattleType, owns, RefOf, param, layouts, makes_shadow, types_at, type_at, plain, nothing, Res, alive, says, Stays, stay_dropped, walk_of, ends_at, Goes-dropped, proved_at}
use Rattle.live_log.specs.contracts.callback_id.Identity.of.{ended, clauses}
use Rattle.live_log.specs.contracts.callback_id.Identity.of.Key.{name as #self}
use Rattle.live_log.proofs.callback_id.Identity.of.Statement.{statement}
use Rattle.live_log.proofs.callback_id.Identity.of.Code as code

pub of_spec : {M : Type 1} → statement M
of_spec 𝓤 𝓛 𝓜 𝓡 wired T L =
    let R : RattleType = param 0 T in let Ls = layouts (a_type ∷ []) (T, tt) in let fn = inst_fn Ls code.function in
    let H = 𝓛.H in let 𝓣 = tables 𝓤 H 𝓜 𝓡 𝓡.env in let En = ended T in let c = clauses T 𝓛 𝓜.mem 𝓡.returns in
    let hs : Stays En.signature.params En.kept = (stay_dropped (RefOf (0 ∷ []) tt (plain (λ _. R)) (λ _. tt)) yes, tt) in
    proved_at 𝓛 En hs c 𝓜 𝓡 (Goes-dropped 𝓛 2 (RefOf (0 ∷ []) tt (plain (λ _. R)) (λ _. tt)) yes (λ κs x f. refl), tt) (#self Ls) fn (code.unfolded 𝓤 H 𝓜 𝓡 wired (T, tt)) (λ z are.
    let b = z.0.3.0.ref_ptr.0 in let o = z.0.3.0.ref_ptr.1 in
    let At : List Val → (walk_of 𝓛 En hs c).Ghost = λ us. ((z.0.0, z.0.1, z.0.2, z.0.3, (us, tt)), z.1) in
    let Goes : List Val → Type 1 = λ us. ent 𝓤 ((walk_of 𝓛 En hs c).pre (At us)) (WpFn 𝓤 H 𝓣.C 𝓣.Λ fn (us ++ []) ((walk_of 𝓛 En hs c).post (At us))) in
    let v : Val = vstruct (vcons (vstruct vnil) vnil) in let r : Res En.signature z.0.0 = record { marker = record {}; value = z.0.3.0.now; code = T.coded.code z.0.3.0.now } in
    let O : Fml = (type_at En.signature.result z.0.0).own_val r (v ∷ []) in
    subst Goes (sym are.0.0)
    (qed 𝓛 ((raw (alive 𝓛 En.signature z.0.0 z.0.1) ⊛ ‵ (owns (types_at En.signature.params z.0.0) z.0.3 (vptr b o ∷ [], tt))) ∷ raw ((c z.0.0 z.0.3).requires z.1) ∷ []) ∵ split ! $ keep ! (0 ∷ []) $
    enter ! 𝓣.C 𝓣.Λ fn (vptr b o ∷ []) _ $ alloc_all ! (λ l. pass_all ! refl ((tt, tt), tt) $
    sets ! (agg ! (no_more !)) refl (tt, tt) $ sets ! (agg ! (and_then ! (get ! refl) (no_more !))) refl (tt, (tt, tt)) $
    returns ! (look_at ! 0 refl) $ free_all ! refl $
    use0 𝓛 (‵ O) (makes_shadow 𝓛 O ((λ vss. (tt, ((λ uss. (tt, tt)), tt))), tt) (((vstruct vnil ∷ [], tt), (refl, ((tt, (refl, tt)), tt))), refl)) $
    suffices ! _ (ends_at 𝓛 En hs c (At (vptr b o ∷ [])) v r (tt, tt) (tt, tt)) $ says ! (refl, refl) $
    nothing ! $ nothing ! $ fjoin ! $ join ! $ move ! (1 ∷ 0 ∷ []) $ join ! $ done !)))
