use Rattle.edit_script.proofs.Stuck.{head_stops_0, head_stops_1, head_stops_2, head_stops_3}
use Rattle.edit_script.proofs.source.Source.head.Goals as goal

pub returns-then-not-is_word-clause-refused : goal.returns-then-not-is_word-clause-refused
returns-then-not-is_word-clause-refused c = head_stops_0 c.args.self.now c.args.at c.requires.at (c.is_word.ensures.none c.if-not-is_word.true)

pub returns-then-not-is_word-2-clause-refused : goal.returns-then-not-is_word-2-clause-refused
returns-then-not-is_word-2-clause-refused c =
    head_stops_1 c.args.self.now c.args.at (c.is_word.ensures.found c.if-not-is_word.false) (c.is_word-2.ensures.none c.if-not-is_word-2.true)

pub returns-in_default-clause-refused : goal.returns-in_default-clause-refused
returns-in_default-clause-refused c =
    head_stops_2 c.args.self.now c.args.at (c.is_word.ensures.found c.if-not-is_word.false) (c.is_word-2.ensures.found c.if-not-is_word-2.false) c.in_default.ensures.none

pub returns-then-not-is_semicolon-clause-refused : goal.returns-then-not-is_semicolon-clause-refused
returns-then-not-is_semicolon-clause-refused c =
    head_stops_3 c.args.self.now c.args.at c.in-Some.moment (c.is_word.ensures.found c.if-not-is_word.false) (c.is_word-2.ensures.found c.if-not-is_word-2.false) c.in-Some.ensures.found (c.is_semicolon.ensures.none c.if-not-is_semicolon.true)
