-- The answers to lines, and worlds that differ in the layout of their words alone.
use Rattle.std.specs.Prelude.{List, [], ◌∷◌, Result}
use Rattle.rcu_model.specs.declared.refusal.Refusal.{Refusal}
use Rattle.reader_word.specs.declared.layout.Layout.{Layout}
use Rattle.world_state.specs.declared.config.Config.{Config}
use Rattle.world_state.specs.declared.line.Answer.{Answer}
use Rattle.world_state.specs.declared.line.Line.{Line}
use Rattle.world.specs.Steps.{WorldView, step_of}

abbrev pub answers_to : WorldView → List Line → List (Result Answer Refusal)
answers_to w [] = []
answers_to w (line ∷ lines) = (step_of w line).answer ∷ answers_to (step_of w line).world lines

-- the same config with words of this layout
abbrev pub laid_out : Layout → Config → Config
laid_out layout config = record config { layout = layout }
