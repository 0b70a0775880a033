-- What a handle keeps, once something was written over what it lent.
use Rattle.std.specs.Prelude.{Some}
use Rattle.boxed_handle.specs.declared.kept.Kept.{Kept}

abbrev pub kept_with : {A : Type 0} → Kept A → A → Kept A
kept_with h w = record { at = h.at; value = Some w }
