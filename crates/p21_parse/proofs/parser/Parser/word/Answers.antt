use Rattle.p21_parse.specs.Symbol.{word}
use Rattle.p21_parse.specs.Machine.{fixed}
use Rattle.p21_parse.specs.Parser.{from}
use Rattle.p21_parse.proofs.Moves.{stopped}
use Rattle.p21_parse.proofs.Heading.{other_sticks}
use Rattle.p21_parse.proofs.parser.Parser.word.Goals as goal

pub returns-then-not-is_word_at-clause-refused : goal.returns-then-not-is_word_at-clause-refused
returns-then-not-is_word_at-clause-refused c =
    λ n. stopped c.args.self.now (fixed (word c.args.text.now)) n c.args.at c.requires.at (other_sticks (word c.args.text.now) (from c.args.self.now c.args.at) (c.is_word_at.ensures.none c.if-not-is_word_at.true))
