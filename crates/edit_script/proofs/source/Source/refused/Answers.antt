use Rattle.edit_script.proofs.Inner.{told_syntax, told_deep, told_many}
use Rattle.edit_script.proofs.source.Source.refused.Goals as goal

pub returns-in-Syntax : goal.returns-in-Syntax
returns-in-Syntax c = λ most some. told_syntax c.args.self.now c.args.at c.args.moment c.requires.source.inside c.requires.head c.in-Syntax.place most some (rw c.in-Syntax.is at c.requires.refused)

pub returns-in-TooDeep : goal.returns-in-TooDeep
returns-in-TooDeep c = λ most some. told_deep c.args.self.now c.args.at c.args.moment c.requires.source.inside c.requires.head c.in-TooDeep.place most some (rw c.in-TooDeep.is at c.requires.refused)

pub returns-in-TooMany : goal.returns-in-TooMany
returns-in-TooMany c = λ most some. told_many c.args.self.now c.args.at c.args.moment c.requires.source.inside c.requires.head c.in-TooMany.place most some (rw c.in-TooMany.is at c.requires.refused)
