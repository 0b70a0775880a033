use Rattle.torture_commands.proofs.Cited.{replay_fault, ◌<◌, ◌≤◌, ℕ, List, [], ◌++◌, Option, Ok, Err, length, take, refl, sym, subst, arith, rules, Consumes, length-take, err_from_is_err_and, Verdict, IsRun, Read, consumes_more, consumes_kept, JudgesAlong, right_so_far}
use Rattle.torture_commands.specs.Checking.{ChecksAlong}
use Rattle.torture_commands.proofs.Verdicts.{along_end, along_fault, along_no, along_unread}
use Rattle.torture_commands.proofs.checking.follow.Goals as goal

pub returns-in-Ok-eq0 : goal.returns-in-Ok-eq0
returns-in-Ok-eq0 g c =
    let i = c.loop.invariant in
    let given = g.R.Read.remaining c.args.reader.now in
    let left = g.R.Read.remaining c.loop.reader in
    let end = g.R.Read.remaining c.read.new.self in
    let now = g.W.Write.contents c.loop.writer in
    let after = g.W.Write.contents c.close.new.writer in
    let none = c.in-Ok-eq0.field-0-test in
    let bytes = c.in-Ok-eq0.ensures.bytes in
    let room : 0 < length c.read.new.buf = omega arith in
    subst (λ (o : Option (List ℕ)). ChecksAlong given end o after c.close.result) i.still
    (along_end given left end now after c.loop.judging i.read i.judged c.close.result i.run i.reads
    (subst (λ (n : ℕ). Consumes left end (take n c.read.new.buf)) none bytes.0) (bytes.1 none room) (c.close.ensures i.read i.judged))

pub returns-in_err-verdict-in-Ok : goal.returns-in_err-verdict-in-Ok
returns-in_err-verdict-in-Ok g c =
    let i = c.loop.invariant in
    let given = g.R.Read.remaining c.args.reader.now in
    let left = g.R.Read.remaining c.read.new.self in
    let now = g.W.Write.contents c.loop.writer in
    let fault = c.in_err-verdict-in-Ok.field-0.0 in
    let p = err_from_is_err_and c.from_residual.result c.from_residual.ensures.1 in
    rw (p.1, p.2)
    (subst (λ (o : Option (List ℕ)). ChecksAlong given left o now (Err (replay_fault fault))) i.still
    (along_fault given left now c.follow.new.self _ fault
    (consumes_more given (g.R.Read.remaining c.loop.reader) left i.read _ i.reads c.in-Ok.ensures.bytes.0)
    (c.in_err-verdict-in-Ok.ensures i.read i.judged)))

pub loop-init : goal.loop-init
loop-init g c =
    let given = g.R.Read.remaining c.args.reader.now in
    let none : Consumes given given [] = search rules in
    record { read = []; reads = none; still = refl; judged = c.new-judging.ensures.judged; run = subst IsRun (sym c.new-judging.ensures.none) tt }

pub returns-in-No : goal.returns-in-No
returns-in-No g c =
    let i = c.loop.invariant in
    let given = g.R.Read.remaining c.args.reader.now in
    let left = g.R.Read.remaining c.read.new.self in
    let now = g.W.Write.contents c.loop.writer in
    let after = g.W.Write.contents c.tell.new.writer in
    let piece = take c.in-Ok.len c.read.new.buf in
    let short : length piece ≤ 4096 = omega (arith, length-take c.in-Ok.len c.read.new.buf) in
    subst (λ (o : Option (List ℕ)). ChecksAlong given left o after c.tell.result) i.still
    (along_no given left now after c.follow.new.self i.read piece c.in_ok-verdict-in-Ok.verdict c.in-No.at c.in-No.rule c.tell.result c.in-No.is
    (consumes_more given (g.R.Read.remaining c.loop.reader) left i.read _ i.reads c.in-Ok.ensures.bytes.0)
    short (right_so_far c.loop.judging i.read i.judged i.run) (c.in_ok-verdict-in-Ok.ensures i.read i.judged) c.tell.ensures)

pub loop-preserved : goal.loop-preserved
loop-preserved g c =
    let i = c.loop.invariant in
    let piece = take c.in-Ok.len c.read.new.buf in
    let on = subst (λ (v : Verdict). JudgesAlong c.follow.new.self (i.read ++ piece) (Ok v)) c.in_default.is (c.in_ok-verdict-in-Ok.ensures i.read i.judged) in
    record {
      read = i.read ++ piece;
      reads = consumes_more (g.R.Read.remaining c.args.reader.now) (g.R.Read.remaining c.loop.reader) (g.R.Read.remaining c.read.new.self) i.read _ i.reads c.in-Ok.ensures.bytes.0;
      still = i.still;
      judged = on.0;
      run = on.1;
    }

pub returns-in-Err : goal.returns-in-Err
returns-in-Err g c =
    let i = c.loop.invariant in
    let given = g.R.Read.remaining c.args.reader.now in
    let left = g.R.Read.remaining c.read.new.self in
    let now = g.W.Write.contents c.loop.writer in
    subst (λ (o : Option (List ℕ)). ChecksAlong given left o now (Err Read)) i.still
    (along_unread given left now c.loop.judging i.read i.judged i.run (consumes_kept given (g.R.Read.remaining c.loop.reader) left i.read i.reads c.in-Err.ensures.bytes))

pub returns : goal.returns
returns g c =
    let i = c.loop.invariant in
    let given = g.R.Read.remaining c.args.reader.now in
    let left = g.R.Read.remaining c.loop.reader in
    let now = g.W.Write.contents c.loop.writer in
    subst (λ (o : Option (List ℕ)). ChecksAlong given left o now (Err Read)) i.still (along_unread given left now c.loop.judging i.read i.judged i.run i.reads)
