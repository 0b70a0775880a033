use Rattle.torture_commands.proofs.Cited.{replay_fault, ◌<◌, ℕ, List, Option, Err, length, take, subst, arith, Consumes, err_from_is_err_and, Read, consumes_more, consumes_kept}
use Rattle.torture_commands.specs.Checking.{Checks}
use Rattle.torture_commands.proofs.Verdicts.{checks_end, piece_fault, unread}
use Rattle.torture_commands.proofs.checking.check.Goals as goal

pub returns-in-Ok-eq0 : goal.returns-in-Ok-eq0
returns-in-Ok-eq0 g c =
    let i = c.loop.invariant in
    let given = g.R.Read.remaining c.args.reader.now in
    let left = g.R.Read.remaining c.loop.reader in
    let end = g.R.Read.remaining c.read.new.self in
    let now = g.W.Write.contents c.loop.writer in
    let after = g.W.Write.contents c.close.new.writer in
    let none = c.in-Ok-eq0.field-0-test in
    let bytes = c.in-Ok-eq0.ensures.bytes in
    let room : 0 < length c.read.new.buf = omega arith in
    subst (λ (o : Option (List ℕ)). Checks given end o after c.close.result) i.still
    (checks_end given left end now after i.read i.judged.log c.close.result i.reads
    (subst (λ (n : ℕ). Consumes left end (take n c.read.new.buf)) none bytes.0) (bytes.1 none room) (c.close.ensures i.read i.judged))

pub returns-in_err-feed-in-Ok : goal.returns-in_err-feed-in-Ok
returns-in_err-feed-in-Ok g c =
    let i = c.loop.invariant in
    let given = g.R.Read.remaining c.args.reader.now in
    let left = g.R.Read.remaining c.read.new.self in
    let now = g.W.Write.contents c.loop.writer in
    let fault = c.in_err-feed-in-Ok.field-0.0 in
    let p = err_from_is_err_and c.from_residual.result c.from_residual.ensures.1 in
    rw (p.1, p.2)
    (subst (λ (o : Option (List ℕ)). Checks given left o now (Err (replay_fault fault))) i.still
    (piece_fault given left now c.feed.new.self _ fault
    (consumes_more given (g.R.Read.remaining c.loop.reader) left i.read _ i.reads c.in-Ok.ensures.bytes.0)
    (c.in_err-feed-in-Ok.ensures i.read i.judged)))

pub loop-preserved : goal.loop-preserved
loop-preserved g c =
    let i = c.loop.invariant in
    record {
      read = _;
      reads = consumes_more (g.R.Read.remaining c.args.reader.now) (g.R.Read.remaining c.loop.reader) (g.R.Read.remaining c.read.new.self) i.read _ i.reads c.in-Ok.ensures.bytes.0;
      still = i.still;
      judged = c.in_ok-feed-in-Ok.ensures i.read i.judged;
    }

pub returns-in-Err : goal.returns-in-Err
returns-in-Err g c =
    let i = c.loop.invariant in
    let given = g.R.Read.remaining c.args.reader.now in
    let left = g.R.Read.remaining c.read.new.self in
    let now = g.W.Write.contents c.loop.writer in
    subst (λ (o : Option (List ℕ)). Checks given left o now (Err Read)) i.still
    (unread given left now i.read (consumes_kept given (g.R.Read.remaining c.loop.reader) left i.read i.reads c.in-Err.ensures.bytes))

pub returns : goal.returns
returns g c =
    let i = c.loop.invariant in
    let given = g.R.Read.remaining c.args.reader.now in
    let left = g.R.Read.remaining c.loop.reader in
    let now = g.W.Write.contents c.loop.writer in
    subst (λ (o : Option (List ℕ)). Checks given left o now (Err Read)) i.still (unread given left now i.read i.reads)
