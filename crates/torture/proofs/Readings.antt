-- What the getters of `clap` read of an option.
use Rattle.torture.proofs.Cited.{◌≡◌, ℕ, Bool, true, false, Option, Some, None, refl, sym, ap, ◌∙◌, ◌^◌, ◌-◌, ◌<◌, ◌≤◌, arith, codes, Result, Ok, Err, option_and_then, option_map, unwrap_or, bytes_eq, option_map_or, Bor, ParsesUnsigned, digits_value, without_leading_plus, result_ok, ParsesBool, bytes_eq-Decides, ReadsOne, one_text, Found, is_unsigned_in, Text, first_of, first_value, one_of, rows_of, first_value-rows, one_text-rows, Accepts-accepts, accepts-Accepts}
use Rattle.clap.specs.declared.builder.value_parser.ValueParser.TheVariants as vp
use Rattle.torture.specs.Said.{flag_of, number_in, number_of}

-- the numbers of this many bits, which are no more than 64
pub record Bits (bits : ℕ) : Type 0 where
  pub up : (n : ℕ) → n < 2 ^ bits → n ≤ 2 ^ bits - 1
  pub down : (n : ℕ) → n ≤ 2 ^ bits - 1 → n < 2 ^ bits
  pub all : (n : ℕ) → n < 2 ^ bits → n < 2 ^ 64

pub bits_32 : Bits 32
bits_32 = record { up = λ n lt. omega arith; down = λ n le. omega arith; all = λ n lt. omega arith }

pub bits_64 : Bits 64
bits_64 = record { up = λ n lt. omega arith; down = λ n le. omega arith; all = λ n lt. lt }

-- what `from_str` makes of a text
pub parsed_number : {E : Type 0} (bits : ℕ) → Bits bits → (text : Text) (r : Result ℕ E) → ParsesUnsigned bits 10 text r → result_ok r ≡ number_in bits text
parsed_number bits b text (Ok v) h =
    let small : digits_value 10 (without_leading_plus text) < 2 ^ bits = h.0.1 in
    let taken = Accepts-accepts false (vp.Unsigned 0 (2 ^ bits - 1)) text (h.0.0, b.all _ small, omega arith, b.up _ small) in
    rw taken (ap Some h.1)
parsed_number bits b text (Err e) h = go (is_unsigned_in 0 (2 ^ bits - 1) text) refl
  where
    go : (t : Bool) → is_unsigned_in 0 (2 ^ bits - 1) text ≡ t → None ≡ number_in bits text
    go false refused = rw refused refl
    go true accepted =
        let has = accepts-Accepts false (vp.Unsigned 0 (2 ^ bits - 1)) text accepted in
        absurd (h (has.0, b.down _ has.3))

-- what a getter makes of the text of an option
read_by : {T E : Type 0} (Gives : Text → Result T E → Type 0) (read : Text → Option T) → ((text : Text) (r : Result T E) → Gives text r → result_ok r ≡ read text)
    → (found : Option Text) (result : Option T) → (found ≡ None → result ≡ None) → ((text : Text) → found ≡ Some text → ReadsOne Gives text result) → result ≡ option_and_then read found
read_by Gives read each None result none value = none refl
read_by Gives read each (Some text) (Some v) none value = each text (Ok v) (value text refl)
read_by Gives read each (Some text) None none value = let h = value text refl in each text (Err h.0) h.1

option_read : {T E : Type 0} (Gives : Text → Result T E → Type 0) (read : Text → Option T) → ((text : Text) (r : Result T E) → Gives text r → result_ok r ≡ read text)
    → (f : Found) (id : Text) (result : Option T) → (one_text f id ≡ None → result ≡ None) → ((text : Text) → one_text f id ≡ Some text → ReadsOne Gives text result)
    → result ≡ option_and_then read (one_of id (rows_of f))
option_read Gives read each f id result none value = read_by Gives read each (one_text f id) result none value ∙ ap (option_and_then read) (one_text-rows f id)

-- a number of this many bits
pub number_read : {E : Type 0} (Gives : Text → Result ℕ E → Type 0) (bits : ℕ) → Bits bits → ((text : Text) (r : Result ℕ E) → Gives text r → ParsesUnsigned bits 10 text r)
    → (f : Found) (id : Text) (result : Option ℕ) → (one_text f id ≡ None → result ≡ None) → ((text : Text) → one_text f id ≡ Some text → ReadsOne Gives text result) → result ≡ number_of bits (rows_of f) id
number_read Gives bits b parses = option_read Gives (number_in bits) (λ text r gives. parsed_number bits b text r (parses text r gives))

-- a text
pub text_read : (f : Found) (id : Text) (result : Option (Bor Text)) → option_map (λ s. s.now) result ≡ first_value f id → first_of id (rows_of f) ≡ option_map (λ s. s.now) result
text_read f id result is = sym (is ∙ first_value-rows f id)

-- a test of what does not hold
fails : {P : Type 0} (test : Bool) → (test ≡ true → P) → (P → ⊥) → test ≡ false
fails true means other = absurd (other (means refl))
fails false means other = refl

pub other_name : (text name : Text) → (text ≡ name → ⊥) → bytes_eq text name ≡ false
other_name text name other = fails (bytes_eq text name) (bytes_eq-Decides text name).0 other

-- a flag is up where its text is `true`
raised : (E : Type 0) (found : Option Text) (result : Option Bool) → (found ≡ None → result ≡ None) → ((text : Text) → found ≡ Some text → ReadsOne {E = E} ParsesBool text result)
    → unwrap_or result false ≡ option_map_or (λ text. bytes_eq text (codes "true")) found false
raised E None result none value = ap (λ (r : Option Bool). unwrap_or r false) (none refl)
raised E (Some text) (Some true) none value = sym (rw (value text refl) refl)
raised E (Some text) (Some false) none value = sym (rw (value text refl) refl)
raised E (Some text) None none value = sym (other_name text (codes "true") (value text refl).1.0)

pub flag_read : (E : Type 0) (f : Found) (id : Text) (result : Option Bool) → (one_text f id ≡ None → result ≡ None) → ((text : Text) → one_text f id ≡ Some text → ReadsOne {E = E} ParsesBool text result)
    → unwrap_or result false ≡ flag_of (rows_of f) id
flag_read E f id result none value = raised E (one_text f id) result none value ∙ ap (λ (found : Option Text). option_map_or (λ text. bytes_eq text (codes "true")) found false) (one_text-rows f id)
