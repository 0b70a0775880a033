use Rattle.live_read.proofs.Cited.{rules, ◌≡◌, ◌<◌, ℕ, Result, Ok, Err, IfOk, IfErr, ap, arith, IfErr-weaker, IfOk-weaker, Refusal}
use Rattle.live_read.proofs.section.Section.first.Goals as goal

-- a section is open after a search, found or refused
still_open : {T : Type 0} (locks depth locks' depth' : ℕ) (found : Result T Refusal) → IfOk found (λ _. (depth' ≡ depth) × (locks' ≡ locks)) → IfErr found (λ _. (depth' ≡ depth) × (locks' ≡ locks)) → locks < depth → locks' < depth'
still_open locks depth locks' depth' (Ok x) ok err opened = let d = ok.0 in let l = ok.1 in omega arith
still_open locks depth locks' depth' (Err e) ok err opened = let d = err.0 in let l = err.1 in omega arith

pub invariant_of-self : goal.invariant_of-self
invariant_of-self g c =
    let r = c.args.self.now.reader.now.core in let s = c.first.new.self.core in
    let opened : s.locks < s.depth = still_open r.locks r.depth s.locks s.depth c.first.result
    (IfOk-weaker c.first.result _ _ (λ _ looked. (looked.1.same.2, looked.1.same.3)) c.first.ensures.looked)
    (IfErr-weaker c.first.result _ _ (λ _ same. (ap (λ z. z.core.depth) same.2, ap (λ z. z.core.locks) same.2)) c.first.ensures.refused)
    c.args.self.now.open_section in
    search (rules, opened)
