use Rattle.schedule_text.proofs.Tables.{word_in_table}
use Rattle.schedule_text.proofs.pieces.likely_word.Goals as goal

pub returns-in-Ok : goal.returns-in-Ok
returns-in-Ok g c =
    let row = c.index-table-place in word_in_table c.args.table.now c.args.place row.result c.args.text.now c.in-Ok.rest.now c.requires.place row.is c.requires.free c.in-Ok.ensures
