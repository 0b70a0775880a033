use Rattle.live_callbacks.proofs.Cited.{◌≡◌, ℕ, [], ◌∷◌, ap, ◌∙◌, subst, slice_index_or, ObjectId, In, record_of, state_of, begins_trans, View, object_in}
use Rattle.live_callbacks.proofs.Runnings.{went_on, word_stays}
use Rattle.live_callbacks.proofs.running.load_words.Goals as goal

pub returns-clause-looked : goal.returns-clause-looked
returns-clause-looked g c =
    let qsbr = g.P.GracePlan.QSBR in
    let allows = g.K.ChainRule.allows in
    let start = c.args.seat.now.me in
    let one = c.load_payload-first.new.seat.me in
    let two = c.load_payload-second.new.seat.me in
    let three = c.load_payload-third.new.seat.me in
    let four = c.load_payload-fourth.new.seat.me in
    went_on qsbr allows start three four (went_on qsbr allows start two three (went_on qsbr allows start one two c.load_payload-first.ensures.looked c.load_payload-second.ensures.looked) c.load_payload-third.ensures.looked) c.load_payload-fourth.ensures.looked

pub returns-clause-words : goal.returns-clause-words
returns-clause-words g c =
    let qsbr = g.P.GracePlan.QSBR in
    let allows = g.K.ChainRule.allows in
    let one : View = c.load_payload-first.new.seat.me.0 in
    let two : View = c.load_payload-second.new.seat.me.0 in
    let three : View = c.load_payload-third.new.seat.me.0 in
    let four : View = c.load_payload-fourth.new.seat.me.0 in
    let o : ObjectId = object_in c.args.seat.now.me.0.object in
    let first = c.load_payload-first.ensures in
    let second = c.load_payload-second.ensures in
    let third = c.load_payload-third.ensures in
    let fourth = c.load_payload-fourth.ensures in
    let run = fourth.looked.2.2 in
    let on_three = fourth.looked.2.0 in
    let on_two = begins_trans two.seen three.seen four.seen third.looked.2.0 on_three in
    let on_one = begins_trans one.seen two.seen four.seen second.looked.2.0 on_two in
    let in_one : object_in one.object ≡ o = ap (λ (v : View). object_in v.object) first.looked.1 in
    let in_two : object_in two.object ≡ o = ap (λ (v : View). object_in v.object) second.looked.1 ∙ in_one in
    let in_three : object_in three.object ≡ o = ap (λ (v : View). object_in v.object) third.looked.1 ∙ in_two in
    let a = word_stays qsbr allows one.seen four.seen o 0 c.load_payload-first.result on_one run first.published first.word in
    let word = λ (n j : ℕ) (p : ObjectId). n ≡ slice_index_or (record_of four.seen p).1 j 0 in
    let b = subst (word c.load_payload-second.result 1) in_one (word_stays qsbr allows two.seen four.seen (object_in one.object) 1 c.load_payload-second.result on_two run second.published second.word) in
    let d = subst (word c.load_payload-third.result 2) in_two (word_stays qsbr allows three.seen four.seen (object_in two.object) 2 c.load_payload-third.result on_three run third.published third.word) in
    let e = subst (word c.load_payload-fourth.result 3) in_three fourth.word in
    ((λ i. a i ∷ b i ∷ d i ∷ e i ∷ []), subst (λ (p : ObjectId). In (state_of four.seen).used p) in_three fourth.published)
