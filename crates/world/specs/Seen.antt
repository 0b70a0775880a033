-- A world's boards, as its callers see them.
use Rattle.world.specs.declared.world.Boards.{Boards}
use Rattle.world.specs.declared.world.Boards.TheVariants.{Memb, Qsbr}
use Rattle.world.specs.Shown.{shown}
use Rattle.world.specs.Steps.{WorldView, OfMemb, OfQsbr}

abbrev pub seen : Boards → WorldView
seen (Memb board) = OfMemb (shown board)
seen (Qsbr board) = OfQsbr (shown board)
