use Rattle.torture.proofs.Cited.{refl, codes, found_of}
use Rattle.torture.proofs.Readings.{other_name, text_read}
use Rattle.torture.proofs.words.target_of.Goals as goal

pub returns-in-Some-lists : goal.returns-in-Some-lists
returns-in-Some-lists c = rw (text_read (found_of c.args.matches.now) (codes "load") c.get_str.result c.get_str.ensures, c.in-Some-lists.is, c.in-Some-lists.is-lists) refl

pub returns-in-Some-tables : goal.returns-in-Some-tables
returns-in-Some-tables c = rw (text_read (found_of c.args.matches.now) (codes "load") c.get_str.result c.get_str.ensures, c.in-Some-tables.is, c.in-Some-tables.is-tables) refl

pub returns-in-Some-growth : goal.returns-in-Some-growth
returns-in-Some-growth c = rw (text_read (found_of c.args.matches.now) (codes "load") c.get_str.result c.get_str.ensures, c.in-Some-growth.is, c.in-Some-growth.is-growth) refl

pub returns-in_default : goal.returns-in_default
returns-in_default c =
    let other = c.in_default.t2-1-own.given in
    rw (text_read (found_of c.args.matches.now) (codes "load") c.get_str.result c.get_str.ensures, other.1, other_name other.0.0.now (codes "lists") c.in_default.not-lists, other_name other.0.0.now (codes "tables") c.in_default.not-tables, other_name other.0.0.now (codes "growth") c.in_default.not-growth) refl

pub returns-in_default-2 : goal.returns-in_default-2
returns-in_default-2 c = rw (text_read (found_of c.args.matches.now) (codes "load") c.get_str.result c.get_str.ensures, c.in_default.is) refl
