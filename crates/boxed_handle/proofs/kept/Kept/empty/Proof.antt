-- `empty` keeps nothing, at null.
use Rattle.boxed_handle.proofs.Cited.{◌≡◌, [], ◌∷◌, refl, lit<, None, a_type, inst_fn, Val, SProp, emp, ‵, raw, ◌⊛◌, ◌$◌, ◌∵◌, !, qed, by, keep, split, use0, no_more, and_then, returns, enter, lit, alloc_all, pass_all, free_all, look_at, sets, agg, param, layouts, fact, fact_i, tables, null_ptr, ptr_val, RattleType, owns, types_at, nothing, alive, Stays, walk_of, proved_at, leaves, Option}
use Rattle.boxed_handle.proofs.Values.{kept_in, lone_val}
use Rattle.boxed_handle.specs.contracts.kept.Kept.empty.{ended, clauses}
use Rattle.boxed_handle.specs.contracts.kept.Kept.empty.Key.{name as #self}
use Rattle.boxed_handle.proofs.kept.Kept.empty.Statement.{statement}
use Rattle.boxed_handle.proofs.kept.Kept.empty.Code as code

pub empty_spec : {M : Type 1} → statement M
empty_spec 𝓤 𝓛 𝓜 𝓡 wired T L =
    let R : RattleType = param 0 T in let Ls = layouts (a_type ∷ []) (T, tt) in let fn = inst_fn Ls code.function in
    let H = 𝓛.H in let 𝓣 = tables 𝓤 H 𝓜 𝓡 𝓡.env in let En = ended T in let c = clauses T 𝓛 𝓜.mem 𝓡.returns in
    let hs : Stays En.signature.params En.kept = tt in
    proved_at 𝓛 En hs c 𝓜 𝓡 tt (#self Ls) fn (code.unfolded 𝓤 H 𝓜 𝓡 wired (T, tt)) (λ z are.
    let Post : Val → SProp 𝓤 = (walk_of 𝓛 En hs c).post z in let w : Val = lone_val (ptr_val null_ptr) in let Nothing : Option R.Denot = None in
    qed 𝓛 ((raw (alive 𝓛 En.signature z.0.0 z.0.1) ⊛ ‵ (owns (types_at En.signature.params z.0.0) z.0.3 z.0.4)) ∷ raw ((c z.0.0 z.0.3).requires z.1) ∷ []) ∵ split ! $
    enter ! 𝓣.C 𝓣.Λ fn [] Post $ alloc_all ! (λ l. pass_all ! refl tt $
    sets ! (agg ! (and_then ! (lit ! tt) (no_more !))) refl (tt, (record { fits = lit< tt }, tt)) $
    returns ! (look_at ! 0 refl) $ free_all ! refl $
    nothing ! $ kept_in R ! null_ptr None $
    use0 𝓛 (raw (fact 𝓤 (Nothing ≡ Nothing))) (fact_i 𝓤 (Nothing ≡ Nothing) (emp 𝓤) refl) $ nothing ! $
    keep ! (3 ∷ 0 ∷ 2 ∷ 1 ∷ []) $ by ! (leaves 𝓛 En hs c z w (record { at = null_ptr; value = None }) tt tt)))
