use Rattle.live_read.proofs.Cited.{◌/◌, [], ◌∷◌, ◌∙◌, sym, refl, inl, inr, in_left, Look, Loaded, Stored, group_at}
use Rattle.live_read.specs.Registering.{WasClaimed}
use Rattle.live_read.proofs.Seeking.{match_not, misses_then, sought_then}
use Rattle.live_read.proofs.claiming.claim_if_free.Goals as goal

pub returns-then-has_bit-clause-claimed : goal.returns-then-has_bit-clause-claimed
returns-then-has_bit-clause-claimed g c = let n = c.look_group.result in record {
  found = Loaded (group_at (c.args.slot / 64)) n ∷ [];
  sought = c.look_group.ensures.looked;
  is_so = (n, inl refl, sym c.has_bit.ensures ∙ c.if-has_bit.true);
  none_stored = refl;
}

pub returns-clause-claimed : goal.returns-clause-claimed
returns-clause-claimed g c =
    let place = group_at (c.args.slot / 64) in
    let first : Look = Loaded place c.look_group.result in
    let now : Look = Loaded place c.claim.result in
    let q = g.P.GracePlan.QSBR in let k = g.K.ChainRule.allows in
    let m = c.args.seat.now.me in let n = c.look_group.new.seat.me in let p = c.claim.new.seat.me in
    match_not c.has_bit-2.result
    (λ off. let t = c.claim.ensures.claimed (sym c.has_bit-2.ensures ∙ off) in record {
      found = Stored place t.left ∷ now ∷ first ∷ [];
      sought = sought_then q k (first ∷ []) (Stored place t.left ∷ now ∷ []) m.0.slot p.0.slot m n p c.look_group.ensures.looked t.went;
      takes = record { word = c.claim.result; left = t.left; was_found = inr (inl refl); was_free = sym c.has_bit-2.ensures ∙ off; is_set = t.is_set; others = t.others; stores = refl };
      claimed = t.claimed;
    })
    (λ on. let bit = sym c.has_bit-2.ensures ∙ on in
    misses_then q k (λ _. Unit {0}) (WasClaimed c.args.slot) (WasClaimed c.args.slot) m n p (λ f h _ w. (w.0, in_left h f (Loaded place w.0) w.1, w.2))
    (record { found = first ∷ []; sought = c.look_group.ensures.looked; is_so = tt; none_stored = refl })
    (record { found = now ∷ []; sought = c.claim.ensures.missed bit; is_so = (c.claim.result, inl refl, bit); none_stored = refl }))
