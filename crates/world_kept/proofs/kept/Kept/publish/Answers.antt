use Rattle.world_kept.proofs.Cited.{ap, ◌∙◌, slice_set, spliced_heads, spliced_objects, BoardView}
use Rattle.world_kept.proofs.kept.Kept.publish.Goals as goal

pub returns-clause-ok : goal.returns-clause-ok
returns-clause-ok g c =
    c.publish_now.ensures
    ∙ ap
    (λ (w : BoardView _).
    let next : BoardView _ = record w {
      updaters = slice_set w.updaters c.args.updater c.args.state;
      heads = spliced_heads w.heads c.args.splice;
      objects = spliced_objects w.objects c.args.splice;
    } in next)
    c.in_ok-tell.ensures.ok
