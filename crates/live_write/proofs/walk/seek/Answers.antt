use Rattle.live_write.proofs.Cited.{length, ◌≡◌, ◌≢◌, ℕ, ◌-◌, ◌<◌, ◌∙◌, List, Some, slice_get, slice_index_or, arith, ap, sym, below_more, ObjectId, In, some_is, Sizes, View, own_in}
use Rattle.live_write.specs.Chains.{first_word}
use Rattle.live_write.proofs.Walking.{at_bound, at_end, goes_on, has_index, here_word, index_has, may_read, note_here, stands_on}
use Rattle.live_write.proofs.walk.seek.Goals as goal

-- where no object below the length begins with the word, none does
none_has : (os : List ObjectId) (n word : ℕ) (first : ObjectId → ℕ) → n ≡ length os → ((k : ℕ) (o : ObjectId) → k < n → slice_get os k ≡ Some o → first o ≢ word) → (o : ObjectId) → In os o → first o ≢ word
none_has os n word first all others o has = let i = has_index os o has in others i.0 o (omega (arith, i.1)) i.2

pub load_word-found-requires : goal.load_word-found-requires
load_word-found-requires g c =
    let i = c.loop-passed.invariant in let s = i.stands in
    let h = here_word g.P.GracePlan.QSBR g.K.ChainRule.allows c.args.seat.now.me c.requires.right.0 c.loop-passed.seat.me c.loop-passed.passed i.before c.loop-passed.link s c.if-link-eq0.false in
    let low = h.low in let sized = c.args.table.now.sized.6 in let sizes = ap (λ (k : Sizes). k.pool) c.requires.seat.1 in
    (i.keeps.0 ∙ c.requires.seat.0, ap (λ (u : View). u.sizes) s.went.1 ∙ c.requires.seat.1, omega arith, omega arith)

pub load_link-link-requires : goal.load_link-link-requires
load_link-link-requires g c =
    let i = c.loop-passed.invariant in let w = c.load_word-found.new.seat.me in let e = c.load_word-found.ensures in
    let s = stands_on g.P.GracePlan.QSBR g.K.ChainRule.allows c.args.seat.now.me c.requires.right.0 c.loop-passed.seat.me c.loop-passed.passed i.before c.loop-passed.link i.stands w e.looked e.known.0 in
    let h = here_word g.P.GracePlan.QSBR g.K.ChainRule.allows c.args.seat.now.me c.requires.right.0 w c.loop-passed.passed i.before c.loop-passed.link s c.if-link-eq0.false in
    let low = h.low in let sized = c.args.table.now.sized.6 in let sizes = ap (λ (k : Sizes). k.pool) c.requires.seat.1 in
    (e.seat.0 ∙ i.keeps.0 ∙ c.requires.seat.0, ap (λ (u : View). u.sizes) s.went.1 ∙ c.requires.seat.1, omega arith)

pub loop-passed-preserved : goal.loop-passed-preserved
loop-passed-preserved g c =
    let i = c.loop-passed.invariant in let e = c.load_word-found.ensures in let f = c.load_link-link.ensures in
    let qsbr = g.P.GracePlan.QSBR in let allows = g.K.ChainRule.allows in let old = c.args.seat.now.me in let own = c.requires.right.0 in let m = c.loop-passed.seat.me in let w = c.load_word-found.new.seat.me in let p = c.load_link-link.new.seat.me in let n = c.loop-passed.passed in let word = c.loop-passed.link in
    let os : List ObjectId = (own_in old.0.chains).objects in
    let s = stands_on qsbr allows old own m n i.before word i.stands w e.looked e.known.0 in
    let h0 = here_word qsbr allows old own m n i.before word i.stands c.if-link-eq0.false in
    let h = here_word qsbr allows old own w n i.before word s c.if-link-eq0.false in
    let same : (o : ObjectId) → In os o → first_word p.0.seen o ≡ first_word m.0.seen o = λ o has. ap (λ (z : ℕ × List ℕ). slice_index_or z.1 0 0) (note_here qsbr allows old own w n i.before word s p f.looked o has ∙ note_here qsbr allows old own m n i.before word i.stands w e.looked o has) in
    let found = e.word h0.object (may_read qsbr allows old own m n i.before word i.stands h0) in
    record {
      keeps = (f.seat.0 ∙ (e.seat.0 ∙ i.keeps.0), f.seat.1 ∙ (e.seat.1 ∙ i.keeps.1));
      before = Some (word - 1);
      stands = goes_on qsbr allows old own w n i.before word s h p c.load_link-link.result f.looked f.known.0 (f.next h.object (may_read qsbr allows old own w n i.before word s h));
      others = λ k o low at. below_more (λ (j : ℕ). (q : ObjectId) → slice_get os j ≡ Some q → first_word p.0.seen q ≢ c.args.word) n
          (λ j low q at is. i.others j q low at (sym (same q (index_has os j q at)) ∙ is))
          (λ q at is. let one : h0.object ≡ q = some_is h0.object q (sym h0.at ∙ at) in c.if-found-word.false (found ∙ (ap (first_word m.0.seen) one ∙ (sym (same q (index_has os n q at)) ∙ is))))
          k low o at;
    }

pub returns-then-link-eq0-clause-none : goal.returns-then-link-eq0-clause-none
returns-then-link-eq0-clause-none g c =
    let i = c.loop-passed.invariant in let old = c.args.seat.now.me in
    none_has (own_in old.0.chains).objects c.loop-passed.passed c.args.word (first_word c.loop-passed.seat.me.0.seen)
    (at_end g.P.GracePlan.QSBR g.K.ChainRule.allows old c.requires.right.0 c.loop-passed.seat.me c.loop-passed.passed i.before c.loop-passed.link i.stands c.if-link-eq0.true) i.others

pub returns-clause-none : goal.returns-clause-none
returns-clause-none g c =
    let i = c.loop-passed.invariant in let old = c.args.seat.now.me in let few = c.load_head-link.ensures.few c.requires.right.0 in let done = c.loop-passed-test.false in
    none_has (own_in old.0.chains).objects c.loop-passed.passed c.args.word (first_word c.loop-passed.seat.me.0.seen)
    (at_bound g.P.GracePlan.QSBR g.K.ChainRule.allows old c.requires.right.0 c.loop-passed.seat.me c.loop-passed.passed i.before c.loop-passed.link i.stands (omega arith)) i.others

pub returns-then-found-word-clause-walked : goal.returns-then-found-word-clause-walked
returns-then-found-word-clause-walked g c =
    let i = c.loop-passed.invariant in let e = c.load_word-found.ensures in
    let s = stands_on g.P.GracePlan.QSBR g.K.ChainRule.allows c.args.seat.now.me c.requires.right.0 c.loop-passed.seat.me c.loop-passed.passed i.before c.loop-passed.link i.stands c.load_word-found.new.seat.me e.looked e.known.0 in (s.went, s.listed)

pub returns-then-found-word-clause-found : goal.returns-then-found-word-clause-found
returns-then-found-word-clause-found g c =
    let i = c.loop-passed.invariant in let e = c.load_word-found.ensures in
    let qsbr = g.P.GracePlan.QSBR in let allows = g.K.ChainRule.allows in let old = c.args.seat.now.me in let own = c.requires.right.0 in let m = c.loop-passed.seat.me in let w = c.load_word-found.new.seat.me in let n = c.loop-passed.passed in let word = c.loop-passed.link in
    let os : List ObjectId = (own_in old.0.chains).objects in
    let h = here_word qsbr allows old own m n i.before word i.stands c.if-link-eq0.false in
    let same : (o : ObjectId) → In os o → first_word w.0.seen o ≡ first_word m.0.seen o = λ o has. ap (λ (z : ℕ × List ℕ). slice_index_or z.1 0 0) (note_here qsbr allows old own m n i.before word i.stands w e.looked o has) in
    let found = e.word h.object (may_read qsbr allows old own m n i.before word i.stands h) in
    record {
      object = h.object;
      at = h.at;
      begins = same h.object h.has ∙ (sym found ∙ c.if-found-word.true);
      others = λ k o low at is. i.others k o low at (sym (same o (index_has os k o at)) ∙ is);
    }
