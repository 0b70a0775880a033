use Rattle.schedule.proofs.Cited.{List, ℕ, ◌++◌, subst, Err, Appends, err_from_is_err_and}
use Rattle.schedule.specs.Stream.{LeadsTo}
use Rattle.schedule.specs.Ports.{Writes}
use Rattle.schedule.proofs.Passing.{pass_cut, pass_whole}
use Rattle.schedule.proofs.stream.pass.Goals as goal

pub returns-in_err-write_whole : goal.returns-in_err-write_whole
returns-in_err-write_whole g c = λ fed earlier s.
    let p = err_from_is_err_and c.from_residual.result c.from_residual.ensures.1 in
    let before = g.W.Write.contents c.args.writer.now in
    let after = g.W.Write.contents c.write_whole.new.writer in
    let out = c.feed-fed.new.out.items in
    let new = c.feed-fed.new.self in
    let all = fed ++ c.args.piece.now in
    let leads = subst (λ (b : List ℕ). LeadsTo c.feed-fed.result new all earlier b out) c.clear.ensures.items (c.feed-fed.ensures.feeds fed earlier s) in
    rw (p.1, p.2) (pass_cut new all earlier out before after c.feed-fed.result c.in_err-write_whole.field-0.0 leads (subst (λ (b : List ℕ). Writes before after b (Err c.in_err-write_whole.field-0.0)) c.deref.ensures.value c.in_err-write_whole.ensures.written))

pub returns : goal.returns
returns g c = λ fed earlier s.
    let before = g.W.Write.contents c.args.writer.now in
    let after = g.W.Write.contents c.write_whole.new.writer in
    let out = c.feed-fed.new.out.items in
    let new = c.feed-fed.new.self in
    let all = fed ++ c.args.piece.now in
    let leads = subst (λ (b : List ℕ). LeadsTo c.feed-fed.result new all earlier b out) c.clear.ensures.items (c.feed-fed.ensures.feeds fed earlier s) in
    pass_whole new all earlier out before after c.feed-fed.result leads c.feed-fed.ensures.sound (subst (λ (b : List ℕ). Appends before after b) c.deref.ensures.value c.in_ok-write_whole.ensures.written)
