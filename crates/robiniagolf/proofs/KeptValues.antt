-- The machine values of a `Kept`. Assumes `Logic`.
use Rattle.robiniagolf.proofs.Cited.{◌≡◌, ℕ, List, [], ◌∷◌, ◌++◌, refl, subst, Some, None, Ura, Val, vptr, vstruct, vcons, vnil, of_list, never, fst∗, Logic, sem, Item, Goal, Seq, Step, step, ‵, ◌$◌, drop, fsplit, fjoin, fpick, fpack, rewrite, feq_i, feq_l, Valss, RawPtr, lone, Ptr, block_ptr, null_ptr, ptr_val, in_a_block, nothing, within, shape, box_owns, heap_token, owned_at}
use Rattle.std.specs.Prelude.{Option}
use mir.Raw.{raw as bare}
use Rattle.judging.specs.contracts.text_judge.TextJudge.{the_row as R}
use Rattle.robiniagolf.specs.contracts.kept.Kept as kept

abbrev pub lone_val : Val → Val
lone_val v = vstruct (vcons v vnil)

module _ {M : Type 1} {𝓤 : Ura M} {𝓛 : Logic 𝓤} {K : Type 0} {Γ : List (Item 𝓤)} {G : Goal 𝓤 𝓛.H} where
  pub kept_in : K → (p : Ptr) (x : Option R.Denot)
      → Step K 𝓛 (‵ (kept.the_row.own_val (record { at = p; value = x }) (lone_val (ptr_val p) ∷ [])) ∷ Γ) G (‵ (owned_at heap_token R p x) ∷ Γ) G
  kept_in t p x = step (λ s. let v : Val = lone_val (ptr_val p) in
      nothing t $ feq_i t (List Val) (ptr_val p ∷ []) (ptr_val p ∷ []) refl $ fjoin t $ feq_i t (List Val) (v ∷ []) (v ∷ []) refl $ fjoin t $
      fpack t (Valss (RawPtr ∷ [])) (within (shape kept.the_type) (p, tt) (v ∷ [])) (ptr_val p ∷ [], tt) $ fjoin t $ s)

  pub kept_out : K → (d : kept.the_row.Denot) (vs : List Val) (x : R.Denot) → d.value ≡ Some x
      → ((b o : ℕ) → d.at ≡ block_ptr b o → vs ≡ lone_val (vptr b o) ∷ [] → Seq K 𝓛 (‵ (box_owns heap_token R (block_ptr b o) x) ∷ Γ) G)
      → Seq K 𝓛 (‵ (kept.the_row.own_val d vs) ∷ Γ) G
  kept_out t d vs x is k =
      fsplit t $ fpick t (λ vss. fsplit t $ feq_l t (λ ev. fsplit t $ feq_l t (λ ep. drop t $
      rewrite t 0 (λ (m : Option R.Denot). ‵ (owned_at heap_token R d.at m)) is refl $
      in_a_block t d.at (λ p. box_owns heap_token R p x) (fst∗ 𝓤 (never 𝓤) (sem 𝓛 (heap_token (bare (lone R.mir)) null_ptr))) (λ b o e. k b o e
      (subst (λ (p : Ptr). vs ≡ lone_val (ptr_val p) ∷ []) e
      (subst (λ (ps : List Val). vs ≡ vstruct (of_list (ps ++ [])) ∷ []) ep ev))))))

pub some_of : {A : Type 0} (v : Option A) → (v ≡ None → ⊥) → (x : A) × (v ≡ Some x)
some_of None ne = absurd (ne refl)
some_of (Some x) ne = (x, refl)
