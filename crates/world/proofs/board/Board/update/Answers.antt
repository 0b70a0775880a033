use Rattle.world.proofs.Cited.{sym, ◌∙◌, arith, Updater}
use Rattle.world.proofs.board.Board.update.Goals as goal

pub commit-requires : goal.commit-requires
commit-requires g c = c.requires.may_make (omega (arith, c.args.self.now.kept.log.ok, c.args.self.now.kept.log.small)) (Updater c.args.updater c.args.verb) c.in_ok-change.change (sym c.updater_change.ensures ∙ c.in_ok-change.was)
