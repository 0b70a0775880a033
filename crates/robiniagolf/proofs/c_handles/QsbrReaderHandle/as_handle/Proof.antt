-- The handle of C and the generic one have the same bytes and own the same.
use Rattle.robiniagolf.proofs.Cited.{ℕ, List, [], ◌∷◌, refl, full_share, named, Val, vptr, SProp, ent, sep, Lft, GName, Share, ftrue, flft, fsep, Env, Logic, sem, Ura, ‵, raw, ◌⊛◌, some, later, at_ret, ◌$◌, ◌∵◌, !, qed, by, move, keep, drop, split, join, pick, fsplit, fsplit3, fjoin, suffices, frame, done, await, group, fpack, use1, stop, of_opd, first, blocks, exec, returns, enter, addr, alloc_all, pass_all, free_all, look_at, get, through, sets, env, sets_last, tables, no, RattleType, owns, part_at, mem, cell_at, part_of, MutRef, mut_vals, mut_Tells, plain, mut_ref_to, types_at, nothing, opens, says, Stays, stay_dropped, walk_of, ends_at, Goes-spent_ref, follows, Part, lends_Part, proved, tail}
use Rattle.boxed_handle.specs.contracts.handle.Handle as generic
use Rattle.held_values.specs.contracts.QsbrReader.{the_row as R}
use Rattle.robiniagolf.specs.contracts.c_handles.QsbrReaderHandle as handle
use Rattle.robiniagolf.specs.HandleForms.{from_qsbr_reader as from, to_qsbr_reader as onto}
use Rattle.robiniagolf.specs.contracts.c_handles.QsbrReaderHandle.as_handle.{ended, clauses}
use Rattle.robiniagolf.specs.contracts.c_handles.QsbrReaderHandle.as_handle.Key.{name as #self}
use Rattle.robiniagolf.proofs.c_handles.QsbrReaderHandle.as_handle.Statement.{statement}
use Rattle.robiniagolf.proofs.c_handles.QsbrReaderHandle.as_handle.Code as code

abbrev K : RattleType
K = handle.the_row

abbrev G : RattleType
G = generic.the_row R

module _ {M : Type 1} {𝓤 : Ura M} (𝓛 : Logic 𝓤) (rb ro : ℕ) where
  back : (w : G.Denot) → ent 𝓤 (sep 𝓤 (sem 𝓛 ((mem G).own_at w rb ro)) (sem 𝓛 ftrue)) (sem 𝓛 ((mem K).own_at (from w) rb ro))
  unfolding part_of
  back w = qed 𝓛 (‵ (part_at K full_share (from w) rb ro) ∷ ‵ ftrue ∷ []) ∵ move ! (1 ∷ []) $ drop ! $ done !

  forth : (h : K.Denot) (vs : List Val) → ent 𝓤 (sem 𝓛 (fsep (cell_at full_share K.mir vs rb ro) (K.own_val h vs))) (sem 𝓛 (part_at G full_share (onto h) rb ro))
  unfolding part_of
  forth h vs = qed 𝓛 (‵ (fsep (cell_at full_share G.mir vs rb ro) (G.own_val (onto h) vs)) ∷ []) ∵
      fpack ! (List Val) (λ us. fsep (cell_at full_share G.mir us rb ro) (G.own_val (onto h) us)) vs $ done !

pub as_handle_spec : {M : Type 1} → statement M
as_handle_spec 𝓤 𝓛 𝓜 𝓡 wired =
    let H = 𝓛.H in let 𝓣 = tables 𝓤 H 𝓜 𝓡 𝓡.env in let c = clauses 𝓛 𝓜.mem 𝓡.returns in
    let hs : Stays ended.signature.params ended.kept = (stay_dropped (mut_ref_to (0 ∷ []) tt (plain (λ _. K))) no, tt) in
    proved 𝓛 ended hs c 𝓜 𝓡 (Goes-spent_ref 𝓛 1 (0 ∷ []) tt (plain (λ _. K)), tt) #self code.function (code.unfolded 𝓤 H 𝓜 𝓡 wired)
    (λ κs. (mut_vals, tt)) (λ κs. (mut_Tells (named 0) κs.0 K, tt)) (λ κs qs bounds a gh are.
    let κ : Lft = κs.0 in let q : Share = qs.0 in let rb : ℕ = a.0.ref_ptr.0 in let ro : ℕ = a.0.ref_ptr.1 in let γ : GName = a.0.ghost_name in let h : K.Denot = a.0.now in
    let y : (walk_of 𝓛 ended hs c).Ghost = ((κs, qs, bounds, a, (vptr rb ro ∷ [], tt)), gh) in let Post : Val → SProp 𝓤 = (walk_of 𝓛 ended hs c).post y in
    qed 𝓛 (((‵ (flft κ q) ⊛ ‵ ftrue) ⊛ ‵ (owns (types_at ended.signature.params κs) a y.0.4)) ∷ raw ((c κs a).requires gh) ∷ []) ∵ split ! $
    enter ! 𝓣.C 𝓣.Λ code.function (vptr rb ro ∷ []) Post $ alloc_all ! (λ l. pass_all ! refl ((tt, tt), tt) $ let Ev : Env 𝓤 H = env code.function.locals l in
    move ! (1 ∷ []) $ fsplit ! $ fsplit3 ! $ drop ! $ move ! (3 ∷ []) $ split ! $ move ! (2 ∷ 3 ∷ 0 ∷ []) $
    opens ! tt K {h = h} rb ro (λ vs. fjoin ! $ use1 𝓛 (‵ (part_at G full_share (onto h) rb ro)) (forth 𝓛 rb ro h vs) $
    first ! $ blocks ! $
    sets ! (addr ! (through ! refl (stop !))) refl (tt, tt) $
    sets ! (of_opd ! (get ! refl)) refl (tt, tt) $
    sets_last ! (addr ! (through ! refl (stop !))) refl (tt, tt) $
    exec ! 𝓣.C 𝓣.Λ Ev (tail code.function.body) (at_ret Ev Post) $
    sets ! (of_opd ! (get ! refl)) refl (tt, tt) $
    nothing ! $ move ! (2 ∷ 3 ∷ 4 ∷ 1 ∷ 0 ∷ []) $ group ! 5 $
    use1 𝓛 (later (some (λ (γ' : GName). raw (Part 𝓛 K G from (named 0) κ q rb ro rb ro γ (sem 𝓛 ftrue) (back 𝓛 rb ro) (onto h) γ'))))
    (lends_Part 𝓛 K G from (named 0) κ q rb ro rb ro γ (sem 𝓛 ftrue) (back 𝓛 rb ro) (K.coded.code h) (K.coded.code h) (onto h)) $ await ! tt $ pick ! (λ γ'.
    returns ! (look_at ! 0 refl) $ free_all ! refl $ keep ! (0 ∷ []) $
    by ! (qed 𝓛 (‵ ((MutRef (named 0) κ G).own_val (record { ref_ptr = (rb, ro); ghost_name = γ'; now = onto h }) (vptr rb ro ∷ [])) ∷ ‵ (flft κ q) ∷ ‵ (follows K G γ γ' from) ∷ []) ∵
    suffices ! _ (ends_at 𝓛 ended hs c y (vptr rb ro) (record { ref_ptr = (rb, ro); ghost_name = γ'; now = onto h }) (tt, tt) (tt, tt)) $
    nothing ! $ nothing ! $ fjoin ! $ join ! $ nothing ! $ move ! (2 ∷ 0 ∷ []) $ join ! $ join ! $ frame ! $ says ! (refl, refl) $ done !)))))
