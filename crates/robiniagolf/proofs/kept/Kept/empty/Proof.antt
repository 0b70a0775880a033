-- `empty` keeps nothing, at null.
use Rattle.robiniagolf.proofs.Cited.{◌≡◌, [], ◌∷◌, refl, lit<, None, Val, SProp, emp, ‵, raw, ◌⊛◌, ◌$◌, ◌∵◌, !, qed, by, keep, split, use0, no_more, and_then, returns, enter, lit, alloc_all, pass_all, free_all, look_at, sets, agg, fact, fact_i, tables, null_ptr, ptr_val, owns, types_at, nothing, alive, Stays, walk_of, proved_at, leaves}
use Rattle.robiniagolf.proofs.KeptValues.{kept_in, lone_val}
use Rattle.judging.specs.contracts.text_judge.TextJudge.{the_row as R}
use Rattle.std.specs.Prelude.{Option}
use Rattle.robiniagolf.specs.contracts.kept.Kept.empty.{ended, clauses}
use Rattle.robiniagolf.specs.contracts.kept.Kept.empty.Key.{name as #self}
use Rattle.robiniagolf.proofs.kept.Kept.empty.Statement.{statement}
use Rattle.robiniagolf.proofs.kept.Kept.empty.Code as code

abbrev Nothing : Option R.Denot
Nothing = None

pub empty_spec : {M : Type 1} → statement M
empty_spec 𝓤 𝓛 𝓜 𝓡 wired =
    let H = 𝓛.H in let 𝓣 = tables 𝓤 H 𝓜 𝓡 𝓡.env in let c = clauses 𝓛 𝓜.mem 𝓡.returns in
    let hs : Stays ended.signature.params ended.kept = tt in
    proved_at 𝓛 ended hs c 𝓜 𝓡 tt #self code.function (code.unfolded 𝓤 H 𝓜 𝓡 wired) (λ z are.
    let Post : Val → SProp 𝓤 = (walk_of 𝓛 ended hs c).post z in let w : Val = lone_val (ptr_val null_ptr) in
    qed 𝓛 ((raw (alive 𝓛 ended.signature z.0.0 z.0.1) ⊛ ‵ (owns (types_at ended.signature.params z.0.0) z.0.3 z.0.4)) ∷ raw ((c z.0.0 z.0.3).requires z.1) ∷ []) ∵ split ! $
    enter ! 𝓣.C 𝓣.Λ code.function [] Post $ alloc_all ! (λ l. pass_all ! refl tt $
    sets ! (agg ! (and_then ! (lit ! tt) (no_more !))) refl (tt, (record { fits = lit< tt }, tt)) $
    returns ! (look_at ! 0 refl) $ free_all ! refl $
    nothing ! $ kept_in ! null_ptr None $
    use0 𝓛 (raw (fact 𝓤 (Nothing ≡ Nothing))) (fact_i 𝓤 (Nothing ≡ Nothing) (emp 𝓤) refl) $ nothing ! $
    keep ! (3 ∷ 0 ∷ 2 ∷ 1 ∷ []) $ by ! (leaves 𝓛 ended hs c z w (record { at = null_ptr; value = None }) tt tt)))
