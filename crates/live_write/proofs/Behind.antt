-- The chains of a seat that took in another's, and of one that cut it off.
use Rattle.live_write.proofs.Cited.{◌≡◌, List, [], ◌∷◌, ◌++◌, refl, sym, ◌∙◌, subst, first_of, Log, chain_note, objects_of, ChainRight, View, ref, lent_chains, own_chain, IsListed, own_in}

-- the seat has a chain of its own
abbrev pub HasOwn : List ChainRight → Type 0
HasOwn xs = xs ≡ own_in xs ∷ lent_chains xs

-- what is behind its own comes behind it
pub behind : (xs ys : List ChainRight) → HasOwn xs → own_chain xs ++ ys ≡ own_in xs ∷ ys
behind [] ys has = cc
behind (x ∷ xs) ys has = refl

pub own_alone : (xs : List ChainRight) → HasOwn xs → own_chain xs ≡ own_in xs ∷ []
own_alone [] has = cc
own_alone (x ∷ xs) has = refl

-- it has it still with more behind it
pub has_more : (xs ys : List ChainRight) → HasOwn xs → HasOwn (xs ++ ys)
has_more [] ys has = cc
has_more (x ∷ xs) ys has = refl

pub has_own : (xs ys : List ChainRight) (x : ChainRight) → xs ≡ x ∷ ys → HasOwn xs
has_own xs ys x is = is ∙ (λ i. own_in (sym is i) ∷ lent_chains (sym is i))

pub own_more : (xs ys : List ChainRight) → HasOwn xs → own_in (xs ++ ys) ≡ own_in xs
own_more [] ys has = cc
own_more (x ∷ xs) ys has = refl

-- a seat that has seen as much, with the same chain of its own, knows it as well
pub listed_same : (v w : View) → w.seen ≡ v.seen → own_in w.chains ≡ own_in v.chains → IsListed v → IsListed w
listed_same v w seen own listed =
    let P : Log × ChainRight → Type 0 = λ z. ((objects_of z.0).chain z.1.chain ≡ z.1.objects) × (z.1.head ≡ ref (objects_of z.0) (first_of z.1.objects)) × (chain_note z.1.chain z.0 ≡ z.1.note) in
    subst P (λ i. (sym seen i, sym own i)) listed
