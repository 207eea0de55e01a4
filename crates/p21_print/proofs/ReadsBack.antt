-- What is printed is a text of the exchange.
use Rattle.std.proofs.Common.{ℕ, List, [], ◌∷◌, refl, subst}
use Rattle.std.specs.List.{AllByRecursion}
use Rattle.p21_lex.specs.declared.token.Token.{Token}
use Rattle.p21_lex.specs.Reading.{IsToken}
use Rattle.p21_parse.specs.Tree.{ExchangeTree}
use Rattle.p21_parse.specs.Symbol.{symbols, text_of}
use Rattle.p21_parse.specs.Spell.{spell_file}
use Rattle.p21_parse.specs.Begins.{IsSymbol}
use Rattle.p21_parse.specs.Allowed.{IsAllowed}
use Rattle.p21_parse.specs.Spelled.{IsSpelled}
use Rattle.p21_parse.specs.Text.{IsText}
use Rattle.p21_print.specs.Printed.{printed}
use Rattle.p21_print.proofs.Parted.{parted_file}
use Rattle.p21_print.proofs.Placed.{standing}

pub reads_back : (x : ExchangeTree) → IsAllowed x → IsSpelled x → IsText (printed x) x
reads_back x allowed real =
    let s = standing (spell_file x) (printed x) [] (printed x) [] 0 refl refl refl tt real (parted_file x) in
    record { tokens = s.tokens; reads = s.reads; inside = s.inside; spells = s.spells; allowed = allowed }

-- Each symbol of tokens that lie in a text is that of a token.
are_symbols : (bytes : List ℕ) (ts : List Token) → AllByRecursion (IsToken bytes) ts → AllByRecursion IsSymbol (symbols bytes ts)
are_symbols bytes [] h = tt
are_symbols bytes (t ∷ ts) h = ((t.kind, text_of bytes t, h.0.spelled, refl), are_symbols bytes ts h.1)

-- What was read can be written.
pub read_spelled : (bytes : List ℕ) (x : ExchangeTree) → IsText bytes x → IsSpelled x
read_spelled bytes x h = subst (AllByRecursion IsSymbol) h.spells (are_symbols bytes h.tokens h.inside)
