-- What the writer of a chain knows of it at a step.
use Rattle.live_rule.proofs.Cited.{◌≡◌, ℕ, ◌<◌, List, [], ◌∷◌, Bool, sym, refl, ap, ◌∙◌, subst, inl, inr, get_elem?, State, ObjectId, In, first_of, LiveEvent, Log, state_of, record_of, IsLiveRun, objects_of, head, kept_log}
use Rattle.live_rule.specs.declared.view.Sizes.{Sizes}
use Rattle.live_rule.specs.declared.view.View.{View}
use Rattle.live_rule.specs.declared.rights.ChainRight.{ChainRight}
use Rattle.live_rule.specs.Objects.{ref, IsAlive}
use Rattle.live_rule.specs.Claims.{chain, ClaimsChain, KnowsOwned, KnowsChain}
use Rattle.live_rule.specs.Rule.{KeepsRule}
use Rattle.live_rule.specs.Seats.{lent_chains}
use mathlib.Core.Option as lists
use Rattle.live_rule.specs.Rights.{own_in, IsWriter, AreAsKnown, KnowsChains}

-- a linked object is alive
pub alive_linked : (qsbr : Bool) (allows : Log → LiveEvent → Type 0) (log : Log) (c : ℕ) (o : ObjectId) → IsLiveRun qsbr allows log → In ((state_of log).chain c) o → IsAlive (objects_of log) o
alive_linked qsbr allows log c o run h = let k = kept_log qsbr allows log run in (k.linking.linked_used c o h, λ b. k.linking.linked_not_cut c o h (k.linking.retired_cut o (k.run o b).0))

-- nothing is said of a chain that is not claimed
pub unclaimed : (qsbr : Bool) (key : Sizes) (log : Log) (words : List ℕ) (c : ℕ) (xs : List ChainRight) → ¬ ClaimsChain xs c → KnowsChain qsbr key log words xs c
unclaimed qsbr key log words c [] none = tt
unclaimed qsbr key log words c (x ∷ xs) none = ((λ e. absurd (none (inl e))), unclaimed qsbr key log words c xs (λ h. none (inr h)))

-- each chain of a seat is in the log as the seat knows it
pub all_known : (qsbr : Bool) (key : Sizes) (log : Log) (words : List ℕ) (xs : List ChainRight) → ((c : ℕ) → ClaimsChain xs c → KnowsChain qsbr key log words xs c) → AreAsKnown log xs
all_known qsbr key log words [] known = tt
all_known qsbr key log words (x ∷ xs) known = let o = ((known x.chain (inl refl)).0 refl).0 in ((o.3, o.4), all_known qsbr key log words xs (λ c h. (known c (inr h)).1))

module _ {S : Type 0} (qsbr : Bool) (allows : Log → LiveEvent → Type 0) (key : Sizes) (s : State S View) (r : KeepsRule qsbr allows key s) (id : ℕ) (v : View) (at : get_elem? s.views id ≡ lists.some v) where
  module _ (own : IsWriter v) where
    pub claims_own : (e : ℕ) → (own_in v.chains).chain ≡ e → ClaimsChain v.chains e
    claims_own e is = subst (λ (l : List ChainRight). ClaimsChain l e) (sym own) (inl is)

    pub knows_first : (e : ℕ) → ClaimsChain v.chains e → KnowsChain qsbr key r.log s.words (own_in v.chains ∷ lent_chains v.chains) e
    knows_first e claim = subst (λ (l : List ChainRight). KnowsChain qsbr key r.log s.words l e) own (r.knows (chain e) id v at claim)

    pub knows_own : KnowsOwned qsbr key r.log s.words (own_in v.chains)
    knows_own = ((knows_first (own_in v.chains).chain (claims_own (own_in v.chains).chain refl)).0 refl).0

    pub here : (o : ObjectId) → In (own_in v.chains).objects o → In ((state_of r.log).chain (own_in v.chains).chain) o
    here o h = subst (λ (l : List ObjectId). In l o) (sym knows_own.3) h

  -- the record of an object that is alive is one of the table's
  pub lows : v.sizes ≡ key → (o : ObjectId) → IsAlive (objects_of r.log) o → (record_of r.log o).0 < v.sizes.pool
  lows sizes o alive = subst (λ (k : Sizes). (record_of r.log o).0 < k.pool) (sym sizes) (r.agree.heap.low o alive)

  -- the seat goes on knowing its chains, once it has seen the log of now
  pub goes_on : v.sizes ≡ key → KnowsChains v (record v { seen = r.log })
  goes_on sizes = (
    all_known qsbr key r.log s.words v.chains (λ c. r.knows (chain c) id v at),
    λ own. let k = knows_own own in (
      (k.3, sym k.2 ∙ (r.agree.heap.leads (head (own_in v.chains).chain) k.0 (first_of ((objects_of r.log).chain (own_in v.chains).chain)) refl ∙ ap (λ (l : List ObjectId). ref (objects_of r.log) (first_of l)) k.3), k.4),
      λ o h. lows sizes o (alive_linked qsbr allows r.log (own_in v.chains).chain o r.run (here own o h)),
    ),
  )
