use Rattle.std.proofs.Common.{ℕ, List, [], ◌∷◌, ◌∙◌, ap, sym, slice_index_or}
use Rattle.live_write.proofs.Walking.{reads_found, reads_it, note_on, reads_on}
use Rattle.live_write.proofs.walk.read.Goals as goal

pub returns-clause-walked : goal.returns-clause-walked
returns-clause-walked g c =
    let qsbr = g.P.GracePlan.QSBR in let allows = g.K.ChainRule.allows in let m0 = c.args.seat.now.me in let found = c.find-cell.ensures.found in let walked = c.find-cell.ensures.walked in let p = found.0 in let o = found.1 in let i = c.find-cell.result.1 in
    let m = c.find-cell.new.seat.me in let m1 = c.load_word-first.new.seat.me in let m2 = c.load_word-second.new.seat.me in let m3 = c.load_word-third.new.seat.me in let m4 = c.load_word-fourth.new.seat.me in
    let e1 = c.load_word-first.ensures in let e2 = c.load_word-second.ensures in let e3 = c.load_word-third.ensures in let e4 = c.load_word-fourth.ensures in
    let r = reads_found qsbr allows m0 o i m p c.requires.right.0 walked.0 walked.1 found.4 found.5 in
    let r1 = reads_on qsbr allows m0 o i m r m1 e1.looked e1.known.0 in
    let r2 = reads_on qsbr allows m0 o i m1 r1 m2 e2.looked e2.known.0 in
    let r3 = reads_on qsbr allows m0 o i m2 r2 m3 e3.looked e3.known.0 in
    let r4 = reads_on qsbr allows m0 o i m3 r3 m4 e4.looked e4.known.0 in
    (r4.went, r4.listed)

pub returns-clause-words : goal.returns-clause-words
returns-clause-words g c =
    let qsbr = g.P.GracePlan.QSBR in let allows = g.K.ChainRule.allows in let m0 = c.args.seat.now.me in let found = c.find-cell.ensures.found in let walked = c.find-cell.ensures.walked in let p = found.0 in let o = found.1 in let i = c.find-cell.result.1 in
    let m = c.find-cell.new.seat.me in let m1 = c.load_word-first.new.seat.me in let m2 = c.load_word-second.new.seat.me in let m3 = c.load_word-third.new.seat.me in let m4 = c.load_word-fourth.new.seat.me in
    let e1 = c.load_word-first.ensures in let e2 = c.load_word-second.ensures in let e3 = c.load_word-third.ensures in let e4 = c.load_word-fourth.ensures in
    let r = reads_found qsbr allows m0 o i m p c.requires.right.0 walked.0 walked.1 found.4 found.5 in
    let r1 = reads_on qsbr allows m0 o i m r m1 e1.looked e1.known.0 in
    let r2 = reads_on qsbr allows m0 o i m1 r1 m2 e2.looked e2.known.0 in
    let r3 = reads_on qsbr allows m0 o i m2 r2 m3 e3.looked e3.known.0 in
    let n4 = sym (note_on qsbr allows m0 o i m3 r3 m4 e4.looked) in
    let n3 = sym (note_on qsbr allows m0 o i m2 r2 m3 e3.looked) ∙ n4 in
    let n2 = sym (note_on qsbr allows m0 o i m1 r1 m2 e2.looked) ∙ n3 in
    let n1 = sym (note_on qsbr allows m0 o i m r m1 e1.looked) ∙ n2 in
    let a = e1.word o (reads_it qsbr allows m0 o i m r) ∙ ap (λ (x : ℕ × List ℕ). slice_index_or x.1 0 0) n1 in
    let b = e2.word o (reads_it qsbr allows m0 o i m1 r1) ∙ ap (λ (x : ℕ × List ℕ). slice_index_or x.1 1 0) n2 in
    let d = e3.word o (reads_it qsbr allows m0 o i m2 r2) ∙ ap (λ (x : ℕ × List ℕ). slice_index_or x.1 2 0) n3 in
    let e = e4.word o (reads_it qsbr allows m0 o i m3 r3) ∙ ap (λ (x : ℕ × List ℕ). slice_index_or x.1 3 0) n4 in
    (o, found.2, λ k. a k ∷ b k ∷ d k ∷ e k ∷ [])
