-- `lend` lends what it keeps, and the handle follows it.
use Rattle.boxed_handle.proofs.Cited.{◌≡◌, ℕ, List, [], ◌∷◌, refl, sym, Some, None, full_share, a_type, named, inst_fn, Val, vptr, SProp, ent, sep, id⊢, Lft, GName, Share, Fml, ftrue, flft, fsep, Env, Logic, sem, Ura, ‵, raw, ◌⊛◌, some, later, at_ret, ◌$◌, ◌∵◌, !, qed, by, move, keep, drop, split, split3, join, pick, fsplit, fsplit3, fjoin, suffices, frame, done, await, group, fpack, rewrite, use1, whole, sub, look_in, stop, fld, hop, of_opd, first, blocks, exec, returns, enter, addr, alloc_all, pass_all, free_all, look_at, get, through, sets, env, sets_last, param, layouts, fact, ◌⊑◌, tables, no, RattleType, owns, part_at, mem, cell_at, part_of, lone, Ptr, block_ptr, MutRef, mut_vals, mut_Tells, plain, mut_ref_to, types_at, nothing, opens, heard, says, Stays, stay_dropped, walk_of, ends_at, Goes-spent_ref, follows, Part, lends_Part, proved, tail}
use mir.Raw.{raw as bare}
use Rattle.boxed_handle.specs.contracts.kept.Kept as kept
use Rattle.boxed_handle.specs.Owned.{heap_token, owned_at}
use Rattle.boxed_handle.specs.Lent.{kept_with}
use Rattle.boxed_handle.proofs.Values.{kept_in, kept_out, lone_val, some_of}
use Rattle.boxed_handle.specs.contracts.kept.Kept.lend.{ended, clauses}
use Rattle.boxed_handle.specs.contracts.kept.Kept.lend.Key.{name as #self}
use Rattle.boxed_handle.proofs.kept.Kept.lend.Statement.{statement}
use Rattle.boxed_handle.proofs.kept.Kept.lend.Code as code

module _ (R : RattleType) {M : Type 1} {𝓤 : Ura M} (𝓛 : Logic 𝓤) (rb ro : ℕ) (h : (kept.the_row R).Denot) (b o : ℕ) where
  abbrev K : RattleType
  K = kept.the_row R

  -- all of the handle but what it keeps
  abbrev pub Rest : Fml
  Rest = fsep (heap_token (bare (lone R.mir)) (block_ptr b o)) (cell_at full_share K.mir (lone_val (vptr b o) ∷ []) rb ro)

  pub back : h.at ≡ block_ptr b o → (w : R.Denot) → ent 𝓤 (sep 𝓤 (sem 𝓛 ((mem R).own_at w b o)) (sem 𝓛 Rest)) (sem 𝓛 ((mem K).own_at (kept_with h w) rb ro))
  unfolding part_of
  back e w =
      qed 𝓛 (‵ (part_at R full_share w b o) ∷ ‵ Rest ∷ []) ∵ move ! (1 ∷ []) $ fsplit ! $ move ! (2 ∷ 0 ∷ []) $ fjoin ! $
      use1 𝓛 (‵ (owned_at heap_token R (block_ptr b o) (Some w))) (id⊢ 𝓤 _) $ kept_in R ! (block_ptr b o) (Some w) $
      rewrite ! 0 (λ (p : Ptr). ‵ (K.own_val (record { at = p; value = Some w }) (lone_val (vptr b o) ∷ []))) (sym e) refl $
      move ! (1 ∷ 0 ∷ []) $ fjoin ! $
      fpack ! (List Val) (λ us. fsep (cell_at full_share K.mir us rb ro) (K.own_val (kept_with h w) us)) (lone_val (vptr b o) ∷ []) $ done !

pub lend_spec : {M : Type 1} → statement M
lend_spec 𝓤 𝓛 𝓜 𝓡 wired T L =
    let R : RattleType = param 0 T in let Ls = layouts (a_type ∷ []) (T, tt) in let fn = inst_fn Ls code.function in
    let H = 𝓛.H in let A = 𝓛.A in let 𝓣 = tables 𝓤 H 𝓜 𝓡 𝓡.env in let En = ended T in let c = clauses T 𝓛 𝓜.mem 𝓡.returns in
    let K : RattleType = kept.the_row R in
    let hs : Stays En.signature.params En.kept = (stay_dropped (mut_ref_to (0 ∷ []) tt (plain (λ _. K))) no, tt) in
    proved 𝓛 En hs c 𝓜 𝓡 (Goes-spent_ref 𝓛 2 (0 ∷ []) tt (plain (λ _. K)), tt) (#self Ls) fn (code.unfolded 𝓤 H 𝓜 𝓡 wired (T, tt))
    (λ κs. (mut_vals, tt)) (λ κs. (mut_Tells (named 0) κs.0 K, tt)) (λ κs qs bounds a gh are.
    let κ : Lft = κs.0 in let q : Share = qs.0 in let κ' : Lft = κs.1.0 in let q' : Share = qs.1.0 in let rb : ℕ = a.0.ref_ptr.0 in let ro : ℕ = a.0.ref_ptr.1 in let γ : GName = a.0.ghost_name in let h : K.Denot = a.0.now in
    let y : (walk_of 𝓛 En hs c).Ghost = ((κs, qs, bounds, a, (vptr rb ro ∷ [], tt)), gh) in let Post : Val → SProp 𝓤 = (walk_of 𝓛 En hs c).post y in
    qed 𝓛 (((‵ (flft κ q) ⊛ (‵ (flft κ' q') ⊛ ‵ ftrue)) ⊛ ‵ (owns (types_at En.signature.params κs) a y.0.4)) ∷ (raw (fact 𝓤 (κ' ⊑ T.lives)) ⊛ raw (fact 𝓤 (h.value ≡ None → ⊥))) ∷ []) ∵
    move ! (1 ∷ []) $ split ! $ drop ! $ heard ! (h.value ≡ None → ⊥) (λ full. let x = (some_of h.value full).0 in let is : h.value ≡ Some x = (some_of h.value full).1 in
    split ! $
    enter ! 𝓣.C 𝓣.Λ fn (vptr rb ro ∷ []) Post $ alloc_all ! (λ l. pass_all ! refl ((tt, tt), tt) $ let Ev : Env 𝓤 H = env fn.locals l in
    move ! (1 ∷ []) $ fsplit ! $ fsplit3 ! $ drop ! $ move ! (3 ∷ []) $ split ! $ move ! (2 ∷ 3 ∷ 0 ∷ []) $
    opens ! tt K {h = h} rb ro (λ vs. move ! (1 ∷ []) $ kept_out R ! h vs x is (λ b o e ws. fsplit ! $
    rewrite ! 2 (λ (us : List Val). ‵ (cell_at full_share K.mir us rb ro)) ws refl $
    first ! $ blocks ! $
    sets_last ! (addr ! (through ! refl (fld ! refl (hop ! (look_in ! 2 (sub ! 0 refl (whole !))) (stop !))))) refl (tt, tt) $
    exec ! 𝓣.C 𝓣.Λ Ev (tail fn.body) (at_ret Ev Post) $
    sets ! (of_opd ! (get ! refl)) refl (tt, tt) $
    move ! (1 ∷ 2 ∷ []) $ fjoin ! $ move ! (2 ∷ 3 ∷ 4 ∷ 1 ∷ 0 ∷ []) $ group ! 5 $
    use1 𝓛 (later (some (λ (γ' : GName). raw (Part 𝓛 K R (kept_with h) (named 0) κ q rb ro b o γ (sem 𝓛 (Rest R 𝓛 rb ro h b o)) (back R 𝓛 rb ro h b o e) x γ'))))
    (lends_Part 𝓛 K R (kept_with h) (named 0) κ q rb ro b o γ (sem 𝓛 (Rest R 𝓛 rb ro h b o)) (back R 𝓛 rb ro h b o e) (K.coded.code h) (K.coded.code h) x) $ await ! tt $ pick ! (λ γ'.
    returns ! (look_at ! 0 refl) $ free_all ! refl $ keep ! (0 ∷ 1 ∷ []) $
    by ! (qed 𝓛 ((‵ ((MutRef (named 0) κ R).own_val (record { ref_ptr = (b, o); ghost_name = γ'; now = x }) (vptr b o ∷ [])) ⊛ (‵ (flft κ q) ⊛ ‵ (follows K R γ γ' (kept_with h)))) ∷ (‵ (flft κ' q') ⊛ ‵ ftrue) ∷ []) ∵ split3 ! $
    suffices ! _ (ends_at 𝓛 En hs c y (vptr b o) (record { ref_ptr = (b, o); ghost_name = γ'; now = x }) (tt, tt) (tt, tt)) $
    nothing ! $ nothing ! $ fjoin ! $ join ! $ move ! (1 ∷ 3 ∷ 0 ∷ []) $ join ! $ join ! $ frame ! $ says ! is $ done !)))))))
