use Rattle.torture.proofs.Cited.{refl, codes, found_of}
use Rattle.torture.proofs.Readings.{other_name, text_read}
use Rattle.torture.proofs.words.flavour_of.Goals as goal

pub returns-in-Some-qsbr : goal.returns-in-Some-qsbr
returns-in-Some-qsbr c = rw (text_read (found_of c.args.matches.now) (codes "flavour") c.get_str.result c.get_str.ensures, c.in-Some-qsbr.is, c.in-Some-qsbr.is-qsbr) refl

pub returns-in_default : goal.returns-in_default
returns-in_default c =
    let other = c.in_default.t2-1-own.given in
    rw (text_read (found_of c.args.matches.now) (codes "flavour") c.get_str.result c.get_str.ensures, other.1, other_name other.0.0.now (codes "qsbr") c.in_default.not-qsbr) refl

pub returns-in_default-2 : goal.returns-in_default-2
returns-in_default-2 c = rw (text_read (found_of c.args.matches.now) (codes "flavour") c.get_str.result c.get_str.ensures, c.in_default.is) refl
