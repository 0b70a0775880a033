use Rattle.step_readers.proofs.Cited.{ℕ, ◌==◌, w64, ap, bit_at_clear_same, bit_at_clear_other}
use Rattle.step_readers.proofs.masks.all_bits_but.Goals as goal

pub returns : goal.returns
returns c = ((λ n. ap (λ (m : ℕ). m == 1) (bit_at_clear_same w64 n c.args.bit c.requires)), (λ n i within other. ap (λ (m : ℕ). m == 1) (bit_at_clear_other w64 n c.args.bit c.requires i within other)))
