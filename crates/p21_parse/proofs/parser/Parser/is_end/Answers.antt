use Rattle.std.proofs.Common.{◌≡◌, Bool, true, false, not, refl}
use Rattle.p21_parse.specs.Symbol.{opening}
use Rattle.p21_parse.proofs.Marks.{opens}
use Rattle.p21_parse.proofs.Heading.{begun_no_end}
use Rattle.p21_parse.proofs.parser.Parser.is_end.Goals as goal

unnot : (b : Bool) → not b ≡ false → b ≡ true
unnot true e = refl
unnot false e = absurd cc

pub returns-clause-none : goal.returns-clause-none
returns-clause-none c = λ f. begun_no_end c.args.self.now c.args.at (c.is_word_at.ensures.found c.if-not-is_word_at.false) (c.is_mark.ensures.found (unnot c.is_mark.result f) opening opens)
