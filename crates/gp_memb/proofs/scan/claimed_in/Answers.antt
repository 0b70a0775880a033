use Rattle.std.proofs.Common.{◌≡◌, ℕ, zero, suc, ◌+◌, ◌-◌, ◌*◌, ◌/◌, ◌%◌, ◌^◌, ◌<◌, ◌≤◌, ◌==◌, Some, None, Bool, true, false, if◌then◌else◌, sym, ap, ◌∙◌, refl, arith, w64}
use Rattle.std.specs.Int.{bit_at, trailing_zeros}
use Rattle.std.proofs.lemmas.Nat.Bits.{bit_at-trailing_zeros, bit_at-zero}
use Rattle.std.proofs.lemmas.Nat.{pow-add}
use Rattle.std.proofs.Math.Nat.{div-div-eq-div-mul, div-le_self}
use Rattle.std.specs.Int.Count.{trailing_of_zero}
use Rattle.gp_memb.specs.Plan.{bit_of}
use Rattle.gp_memb.specs.Groups.{first_claimed}
use Rattle.gp_memb.proofs.scan.claimed_in.Goals as goal

-- a bit of what is shifted to the first slot of a range is the bit of a slot of its group
shifted : (bits from group i : ℕ) → 64 * group ≤ from → from + i < 64 * group + 64 →
    bit_at (bits / 2 ^ (from % 64)) i ≡ (bits / 2 ^ ((from + i) % 64)) % 2
shifted bits from group i low high =
    ap (λ n. n % 2) (div-div-eq-div-mul bits (2 ^ (from % 64)) (2 ^ i) ∙ ap (λ d. bits / d) (sym (pow-add 2 (from % 64) i) ∙ ap (λ k. 2 ^ k) place))
  where
    place : from % 64 + i ≡ (from + i) % 64
    place = omega arith

-- one slot further
further : (bits from count : ℕ) (claimed : Bool) → bit_of bits ((from + 0) % 64) ≡ claimed →
    first_claimed bits from (suc count) ≡ (if claimed then Some from else first_claimed bits (from + 1) count)
further bits from count claimed is = ap (λ b. if b then Some from else first_claimed bits (from + 1) count) (ap (λ s. bit_of bits (s % 64)) (omega arith) ∙ is)

-- none of this many slots is claimed
none : (bits from count : ℕ) → ((i : ℕ) → i < count → bit_of bits ((from + i) % 64) ≡ false) → first_claimed bits from count ≡ None
none bits from zero unset = refl
none bits from (suc count) unset =
    further bits from count false (unset 0 (omega arith))
    ∙ none bits (from + 1) count (λ i low. ap (λ s. bit_of bits (s % 64)) (omega arith) ∙ unset (suc i) (omega arith))

-- the first claimed one of them is this
found : (bits from count i : ℕ) → i < count → ((k : ℕ) → k < i → bit_of bits ((from + k) % 64) ≡ false) → bit_of bits ((from + i) % 64) ≡ true →
    first_claimed bits from count ≡ Some (from + i)
found bits from zero i low unset is = absurd (omega arith)
found bits from (suc count) zero low unset is = further bits from count true is ∙ ap Some (omega arith)
found bits from (suc count) (suc i) low unset is =
    further bits from count false (unset 0 (omega arith))
    ∙ found bits (from + 1) count i (omega arith) (λ k less. ap (λ s. bit_of bits (s % 64)) (omega arith) ∙ unset (suc k) (omega arith)) (ap (λ s. bit_of bits (s % 64)) (omega arith) ∙ is)
    ∙ ap Some (omega arith)

-- the bits of a range that lies in one group, counted from its first slot
module _ (bits from end : ℕ) (fits : bits < 2 ^ 64) (less : from < end) (group : ℕ) (low : 64 * group ≤ from) (high : end ≤ 64 * group + 64) where
  abbrev rest : ℕ
  rest = bits / 2 ^ (from % 64)

  rest_fits : rest < 2 ^ 64
  rest_fits = let le = div-le_self bits (2 ^ (from % 64)) in omega arith

  -- the bit of a slot of the range
  bit : (i value : ℕ) → i < end - from → bit_at rest i ≡ value → bit_of bits ((from + i) % 64) ≡ (value == 1)
  bit i value inside is = ap (λ n. n == 1) (sym (shifted bits from group i low (omega arith)) ∙ is)

  first_there : trailing_zeros w64 rest < end - from → (n : ℕ) → n ≡ rest → first_claimed bits from (end - from) ≡ Some (from + trailing_zeros w64 rest)
  first_there inside zero none_set = absurd (let t = ap (trailing_zeros w64) (sym none_set) ∙ trailing_of_zero 64 in omega arith)
  first_there inside (suc n) is =
      let t = bit_at-trailing_zeros w64 rest (omega arith) rest_fits in
      found bits from (end - from) (trailing_zeros w64 rest) inside (λ k below. bit k 0 (omega arith) (t.2 k below)) (bit (trailing_zeros w64 rest) 1 inside t.1)

  unset : end - from ≤ trailing_zeros w64 rest → (i n : ℕ) → n ≡ rest → i < end - from → bit_at rest i ≡ 0
  unset above i zero none_set inside = ap (λ r. bit_at r i) (sym none_set) ∙ bit_at-zero i
  unset above i (suc n) is inside = (bit_at-trailing_zeros w64 rest (omega arith) rest_fits).2 i (omega arith)

pub returns-then-unset-end : goal.returns-then-unset-end
returns-then-unset-end c =
    sym (first_there c.args.bits c.args.from c.args.end c.ranges.bits.fits c.if-from-end.false c.requires.0 c.requires.1 c.requires.2 c.if-unset-end.true _ refl)

pub returns-else-unset-end : goal.returns-else-unset-end
returns-else-unset-end c =
    let group = c.requires.0 in
    sym (none c.args.bits c.args.from (c.args.end - c.args.from) (λ i inside.
    bit c.args.bits c.args.from c.args.end c.ranges.bits.fits c.if-from-end.false group c.requires.1 c.requires.2 i 0 inside
    (unset c.args.bits c.args.from c.args.end c.ranges.bits.fits c.if-from-end.false group c.requires.1 c.requires.2 c.if-unset-end.false i _ refl inside)))
