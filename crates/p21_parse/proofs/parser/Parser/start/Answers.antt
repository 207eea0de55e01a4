use Rattle.std.proofs.Common.{◌∷◌, map}
use Rattle.std.proofs.lemmas.Result.{err_from_is_err_and}
use Rattle.p21_parse.specs.Symbol.{semicolon}
use Rattle.p21_parse.specs.Spell.{spell_entry, spell_all}
use Rattle.p21_parse.specs.Machine.{iso, header, endsec}
use Rattle.p21_parse.specs.View.{part_of}
use Rattle.p21_parse.proofs.Filing.{start_refused_1, start_refused_2, start_refused_3, start_refused_4, start_read}
use Rattle.p21_parse.proofs.parser.Parser.start.Goals as goal

pub returns-in_err-behind-clause-refused : goal.returns-in_err-behind-clause-refused
returns-in_err-behind-clause-refused c =
    let p = err_from_is_err_and c.from_residual.result c.from_residual.ensures.1 in
    rw (p.1, p.2) (start_refused_1 c.args.self.now c.in_err-behind.field-0.0 c.in_err-behind.ensures.refused)

pub returns-in_err-at-clause-refused : goal.returns-in_err-at-clause-refused
returns-in_err-at-clause-refused c =
    let p = err_from_is_err_and c.from_residual-in_err-at.result c.from_residual-in_err-at.ensures.1 in
    rw (p.1, p.2) (start_refused_2 c.args.self.now c.in_ok-behind.behind (λ r. iso ∷ semicolon ∷ r) c.in_err-at.field-0.0 c.in_ok-behind.ensures.read c.in_err-at.ensures.refused)

pub returns-in_err-head-clause-refused : goal.returns-in_err-head-clause-refused
returns-in_err-head-clause-refused c =
    let p = err_from_is_err_and c.from_residual-in_err-head.result c.from_residual-in_err-head.ensures.1 in
    rw (p.1, p.2) (start_refused_3 c.args.self.now c.in_ok-behind.behind c.in_ok-at.at (λ r. iso ∷ semicolon ∷ r) (λ r. header ∷ semicolon ∷ r) c.in_err-head.field-0.0 c.in_ok-behind.ensures.read c.in_ok-at.ensures.read c.in_err-head.ensures.refused)

pub returns-in_err-next-clause-refused : goal.returns-in_err-next-clause-refused
returns-in_err-next-clause-refused c =
    let p = err_from_is_err_and c.from_residual-in_err-next.result c.from_residual-in_err-next.ensures.1 in
    rw (p.1, p.2) (start_refused_4 c.args.self.now c.in_ok-behind.behind c.in_ok-at.at c.in_ok-head.end (λ r. iso ∷ semicolon ∷ r) (λ r. header ∷ semicolon ∷ r) (λ r. spell_all spell_entry (map part_of c.in_ok-head.head) (endsec ∷ semicolon ∷ r))
    c.in_err-next.field-0.0 c.in_ok-behind.ensures.read c.in_ok-at.ensures.read c.in_ok-head.ensures.read c.in_err-next.ensures.refused)

pub returns-clause-read : goal.returns-clause-read
returns-clause-read c =
    start_read c.args.self.now c.in_ok-behind.behind c.in_ok-at.at c.in_ok-head.end c.in_ok-next.next (map part_of c.in_ok-head.head) c.in_ok-behind.ensures.read c.in_ok-at.ensures.read c.in_ok-head.ensures.read c.in_ok-next.ensures.read
