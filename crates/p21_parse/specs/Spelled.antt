-- Which instances and exchanges can be written: each of their symbols is that of a token.
use Rattle.std.specs.Prelude.{[]}
use Rattle.std.specs.List.{AllByRecursion}
use Rattle.p21_parse.specs.Tree.{InstanceTree, ExchangeTree}
use Rattle.p21_parse.specs.Spell.{spell_instance, spell_file}
use Rattle.p21_parse.specs.Begins.{IsSymbol}

-- An instance's number is that of a name, and its numbers, texts, enumerations, binaries and keywords are spelled as such (ISO 10303-21, tokens).
abbrev pub IsSpelledInstance : InstanceTree → Type 0
IsSpelledInstance i = AllByRecursion IsSymbol (spell_instance i [])

-- the same of a whole exchange
abbrev pub IsSpelled : ExchangeTree → Type 0
IsSpelled x = AllByRecursion IsSymbol (spell_file x)
