use Rattle.world_state.proofs.Cited.{ap, ◌∙◌, List, Option, option_or, ObjectId}
use Rattle.world_state.specs.declared.object.Stage.TheVariants.{Linked, Cut}
use Rattle.world_state.specs.declared.object.ObjectState.{ObjectState}
use Rattle.world_state.specs.Objects.{written}
use Rattle.world_state.proofs.cells.splice_objects.Goals as goal

pub returns : goal.returns
returns c =
    let s = c.args.splice in
    let link = λ (v : Option ObjectId) (x : ObjectState). let r : ObjectState = record x { link = v } in r in
    let mark = λ (v : Option ObjectId) (x : ObjectState). let r : ObjectState = record x { before = v } in r in
    let leave = λ (x : ObjectState). let r : ObjectState = record x { stage = Cut } in r in
    let come = λ (x : ObjectState). let r : ObjectState = record x { before = s.before; stage = Linked } in r in
    c.enter.ensures
    ∙ ap (λ (os : List ObjectState). written os s.enters come)
    (c.put_stage.ensures
    ∙ ap (λ (os : List ObjectState). written os s.leaves leave)
    (c.put_before.ensures
    ∙ ap (λ (v : Option ObjectId). written c.put_link.new.objects.items s.after (mark v)) c.mark.ensures
    ∙ ap (λ (os : List ObjectState). written os s.after (mark (option_or s.enters s.before)))
    (c.put_link.ensures ∙ ap (λ (v : Option ObjectId). written c.args.objects.now.items s.before (link v)) c.value.ensures)))
