use Rattle.step_readers.proofs.Cited.{ℕ, ◌==◌, w64, ap, bit_at_set_same, bit_at_set_other}
use Rattle.step_readers.proofs.masks.bit_alone.Goals as goal

pub returns : goal.returns
returns c = ((λ n. ap (λ (m : ℕ). m == 1) (bit_at_set_same w64 n c.args.bit c.requires)), (λ n i other. ap (λ (m : ℕ). m == 1) (bit_at_set_other w64 n c.args.bit c.requires i other)))
