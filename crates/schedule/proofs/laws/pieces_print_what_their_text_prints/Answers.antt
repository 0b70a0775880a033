use Rattle.schedule.proofs.Cited.{◌≡◌, ℕ, List, [], ◌∷◌, ◌++◌, Result, Ok, Err, refl, sym, subst, append_assoc, IfErr, flat_map, append-nil, concat_is, ReplayFault, no_header}
use Rattle.schedule.specs.Printed.{Ends}
use Rattle.schedule.specs.Stream.{Progress, Failed, Stands, Leads, LeadsTo, AreFed}
use Rattle.schedule.proofs.Standing.{stands_header}
use Rattle.schedule.proofs.laws.pieces_print_what_their_text_prints.Goals as goal

-- a piece more, where all was appended to an empty text
fed_leads : (new : Progress) (fed before after : List ℕ) → Leads new fed before before after → Stands new fed after
fed_leads new fed before after l = subst (Stands new fed) (sym l.appends) l.stands

fed_more : (new : Progress) (fed before after : List ℕ) (result : Result (Unit {0}) ReplayFault) → IfErr result (λ fault. new ≡ Failed fault) → LeadsTo result new fed before before after → Stands new fed after
fed_more new fed before after (Ok u) failed l = fed_leads new fed before after l
fed_more new fed before after (Err fault) failed l = subst (λ (p : Progress). Stands p fed after) (sym failed) (fed_leads (Failed fault) fed before after l)

all_fed : (pieces : List (List ℕ)) (old new : Progress) (fed before after : List ℕ) → Stands old fed before → AreFed old new pieces before after → Stands new (fed ++ flat_map (λ piece. piece) pieces) after
all_fed [] old new fed before after s f =
    subst (λ (p : Progress). Stands p (fed ++ []) after) (sym f.0) (subst (λ (t : List ℕ). Stands old t after) (sym (append-nil fed)) (subst (Stands old fed) (sym f.1) s))
all_fed (piece ∷ pieces) old new fed before after s f =
    subst (λ (t : List ℕ). Stands new t after) (append_assoc fed piece (flat_map (λ p. p) pieces))
    (all_fed pieces f.0 new (fed ++ piece) f.1 after (fed_more f.0 (fed ++ piece) before f.1 f.2.result f.2.failed (f.2.feeds fed before s)) f.3)

pub returns : goal.returns
returns c = λ pieces progress fed printed result f finishes.
    let text = flat_map (λ (piece : List ℕ). piece) pieces in
    let end = finishes text fed (all_fed pieces _ progress [] [] fed (stands_header [] [] refl no_header) f) in
    subst (λ (t : List ℕ). Ends t printed result) (sym (concat_is pieces)) (subst (λ (t : List ℕ). Ends text t result) (sym end.appends) end.ends)
