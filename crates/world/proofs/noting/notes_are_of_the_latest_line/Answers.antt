use Rattle.world.proofs.Cited.{ℕ, List, sym, subst, Config, Flavour, Memb, Qsbr, Line, fresh_at, WorldView, memb_plans, qsbr_plans, fresh_in, world_after_lines}
use Rattle.world.specs.Notes.{NotesAreOfTheLatest, replies_to, replies_of}
use Rattle.world.proofs.Notes.{all_noted}
use Rattle.world.proofs.Promises.{memb_lines, qsbr_lines}
use Rattle.world.proofs.noting.notes_are_of_the_latest_line.Goals as goal

-- either flavour's notes
noted_in : (flavour : Flavour) (config : Config) (seq : ℕ) (lines : List Line) → NotesAreOfTheLatest (world_after_lines (fresh_in flavour config seq) lines) (replies_of (fresh_in flavour config seq) lines)
noted_in Memb config seq lines = subst (λ (w : WorldView). NotesAreOfTheLatest w (replies_to memb_plans (fresh_at config seq) lines)) (sym (memb_lines (fresh_at config seq) lines)) (all_noted memb_plans config seq lines)
noted_in Qsbr config seq lines = subst (λ (w : WorldView). NotesAreOfTheLatest w (replies_to qsbr_plans (fresh_at config seq) lines)) (sym (qsbr_lines (fresh_at config seq) lines)) (all_noted qsbr_plans config seq lines)

pub returns : goal.returns
returns c = λ config seq lines good. noted_in config.flavour config seq lines
