-- A whole file, put together from its lines.
use Rattle.std.proofs.Common.{◌≡◌, ℕ, List, [], ◌∷◌, ◌++◌, refl, sym, ◌∙◌, append-nil}
use Rattle.std.specs.Prelude.{codes}
use Rattle.p21_parse.specs.Tree.{ExchangeTree}
use Rattle.p21_parse.specs.Symbol.{Symbol, keyword, dashed, semicolon}
use Rattle.p21_parse.specs.Spell.{spell_all, spell_entry, spell_instance}
use Rattle.p21_print.specs.Printed.{printed}
use Rattle.p21_print.specs.Appends.{Appends}
use Rattle.p21_print.proofs.Adding.{at_once, both}

abbrev start : List Symbol → List Symbol
start rest = dashed (codes "ISO-10303-21") ∷ semicolon ∷ keyword (codes "HEADER") ∷ semicolon ∷ rest

abbrev middle : List Symbol → List Symbol
middle rest = keyword (codes "ENDSEC") ∷ semicolon ∷ keyword (codes "DATA") ∷ semicolon ∷ rest

abbrev last : List Symbol → List Symbol
last rest = keyword (codes "ENDSEC") ∷ semicolon ∷ dashed (codes "END-ISO-10303-21") ∷ semicolon ∷ rest

pub whole : (x : ExchangeTree) (a b c d e : List ℕ) → a ≡ codes "ISO-10303-21;\nHEADER;\n" → Appends (spell_all spell_entry x.head) a b → c ≡ b ++ codes "ENDSEC;\nDATA;\n"
    → Appends (spell_all spell_instance x.items) c d → e ≡ d ++ codes "ENDSEC;\nEND-ISO-10303-21;\n" → e ≡ printed x
whole x a b c d e first head second items third =
    let begun = at_once start (codes "ISO-10303-21;\nHEADER;\n") [] a (λ rest. refl) first in
    let between = at_once middle (codes "ENDSEC;\nDATA;\n") b c (λ rest. refl) second in
    let ended = at_once last (codes "ENDSEC;\nEND-ISO-10303-21;\n") d e (λ rest. refl) third in
    let file = both start (λ rest. spell_all spell_entry x.head (middle (spell_all spell_instance x.items (last rest)))) [] a e begun
    (both (spell_all spell_entry x.head) (λ rest. middle (spell_all spell_instance x.items (last rest))) a b e head
    (both middle (λ rest. spell_all spell_instance x.items (last rest)) b c e between (both (spell_all spell_instance x.items) last c d e items ended))) in
    sym (append-nil e) ∙ file []
