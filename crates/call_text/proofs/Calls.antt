-- A call is read exactly.
use Rattle.call_text.proofs.Cited.{◌≡◌, ℕ, List, [], ◌++◌, refl, sym, ap, subst, ◌∙◌, Err, append-nil, ◌>>=◌, word_from, word_on, done, Reads, Done, Then, Lang, then_lang, done_lang, as_lang}
use Rattle.call_text.specs.declared.call.Actor.{Actor}
use Rattle.call_text.specs.declared.call.Call.{Call}
use Rattle.call_text.specs.declared.words.Arguments.{Arguments}
use Rattle.call_text.specs.declared.words.VerbWord.{VerbWord}
use Rattle.call_text.specs.Spelling.{listed, written, actor_text, arguments_text, spelling, CallText}
use Rattle.call_text.specs.Grammar.{arguments_at, actor_at, verb_at, call_at}
use Rattle.call_text.proofs.Arguments.{ArgumentsText, arguments_lang}
use Rattle.call_text.proofs.Actors.{ActorText, actor_lang}
use Rattle.call_text.proofs.Verbs.{word_of, VerbText, verb_lang}

abbrev made : Actor → VerbWord → List ℕ → Call
made a w n = record { actor = a; verb = w.0; numbers = n }

abbrev NumbersText : Actor → VerbWord → Call → List ℕ → Type 0
NumbersText a w = Then (ArgumentsText (listed w.1)) (λ n. Done (made a w n))

abbrev SaidText : Actor → Call → List ℕ → Type 0
SaidText a = Then (VerbText a) (NumbersText a)

numbers_lang : (a : Actor) (w : VerbWord) → Lang (NumbersText a w) (λ t. arguments_at (listed w.1) t >>= λ n. done (made a w n.0) n.1)
numbers_lang a w = then_lang (ArgumentsText (listed w.1)) (λ n. Done (made a w n)) (arguments_at (listed w.1)) (λ n. done (made a w n)) (arguments_lang (listed w.1)) (λ n. done_lang (made a w n))

said_lang : (a : Actor) → Lang (SaidText a) (λ t. verb_at a t >>= λ w. arguments_at (listed w.0.1) w.1 >>= λ n. done (made a w.0 n.0) n.1)
said_lang a = then_lang (VerbText a) (NumbersText a) (verb_at a) (λ w t. arguments_at (listed w.1) t >>= λ n. done (made a w n.0) n.1) (verb_lang a) (numbers_lang a)

call_spelled : (call : Call) (text : List ℕ) → Then ActorText SaidText call text → CallText call text
call_spelled call text s =
    let v = s.4 in let n = v.4 in
    let asked : v.0.1 ≡ (written v.0.0).1 = ap (λ (w : VerbWord). w.1) v.3.1 in
    let numbers = subst (λ (asks : Arguments). ArgumentsText (listed asks) n.0 n.1) asked n.3 in
    let whole : text ≡ spelling (made s.0 v.0 n.0) = s.5 ∙ rw (s.3.1, v.5, v.3.2, n.5, n.4.1, append-nil, numbers.1) refl in
    subst (λ (c : Call). CallText c text) n.4.0 (record { who = s.3.0; may = v.3.0; with = numbers.0 }, whole)

call_unspelled : (call : Call) (text : List ℕ) → CallText call text → Then ActorText SaidText call text
call_unspelled call text s =
    let w = word_of call.verb in
    let numbers = arguments_text (listed w.1) call.numbers in (
      call.actor,
      actor_text call.actor,
      (written call.verb).0 ++ numbers,
      (s.0.who, refl),
      (
        w,
        (written call.verb).0,
        numbers,
        (s.0.may, refl, refl),
        (call.numbers, numbers, [], (s.0.with, refl), (refl, refl), sym (append-nil numbers)),
        refl,
      ),
      s.1,
    )

pub call_reads : Reads CallText call_at
unfolding call_at
call_reads =
    (as_lang (then_lang ActorText SaidText actor_at (λ a t. verb_at a t >>= λ w. arguments_at (listed w.0.1) w.1 >>= λ n. done (made a w.0 n.0) n.1) actor_lang said_lang)
    call_spelled call_unspelled).reads

-- no bytes are a beginning that goes on
pub no_call : call_at [] ≡ Err []
unfolding call_at actor_at word_on word_from
no_call = refl
