use Rattle.live_read.proofs.Cited.{◌≡◌, List, [], ◌++◌, ◌∙◌, refl, ap, subst, append-nil, Sizes, Look, View}
use Rattle.live_read.specs.Registering.{AllWereClaimed}
use Rattle.live_read.proofs.reader.Reader.register.Goals as goal

pub returns-in-Err-clause-refused : goal.returns-in-Err-clause-refused
returns-in-Err-clause-refused g c =
    let r = c.in-Err.ensures.refused in
    let none : c.tell-seat.result.me.0.looks ≡ [] = ap (λ m. m.0.looks) c.tell-seat.ensures.seat.1 in
    let now : c.in-Err.seat.me.0.looks ≡ r.found = ap (λ (v : View). v.looks) r.sought.1 ∙ (ap (λ (l : List Look). r.found ++ l) none ∙ append-nil r.found) in
    let key = ap (λ t. t.words.shared.key) c.another_owner-own.ensures ∙ c.requires.table.1 in (
      refl,
      record {
        found = r.found;
        looks = c.learn.ensures.loads.1 ∙ (ap (λ (l : List Look). l ++ g.W.Caller.looks c.tell-seat.new.self) now ∙ ap (λ (l : List Look). r.found ++ l) (c.tell-seat.ensures.same.3 ∙ c.split_searches-searches.ensures.same.3));
        claimed = subst (λ (k : Sizes). AllWereClaimed k r.found) key r.is_so;
        none_stored = r.none_stored;
      },
    )
