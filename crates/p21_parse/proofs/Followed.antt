-- Instances from a token on, of which there may be so many.
use Rattle.std.proofs.Common.{◌≡◌, ℕ, zero, suc, ◌+◌, ◌-◌, ◌<◌, ◌≤◌, List, [], ◌∷◌, ◌++◌, length, drop, sym, ap, subst, ◌∙◌, length-append, arith}
use Rattle.std.specs.List.{AllByRecursion, concat}
use Rattle.p21_lex.specs.declared.token.Token.{Token}
use Rattle.p21_lex.specs.Reading.{Reads, IsToken}
use Rattle.p21_parse.specs.declared.error.ReadErr.{ReadErr}
use Rattle.p21_parse.specs.declared.parser.Parser.{Parser}
use Rattle.p21_parse.specs.declared.parser.Stop.{Stop}
use Rattle.p21_parse.specs.declared.parser.Stop.TheVariants.{Syntax, TooDeep, NoMemory}
use Rattle.p21_parse.specs.Tree.{InstanceTree, ExchangeTree}
use Rattle.p21_parse.specs.Symbol.{name, semicolon}
use Rattle.p21_parse.specs.Spell.{spell_all, spell_instance}
use Rattle.p21_parse.specs.Begins.{IsSymbol}
use Rattle.p21_parse.specs.Spelled.{IsSpelled}
use Rattle.p21_parse.specs.Text.{IsText}
use Rattle.p21_parse.specs.Places.{syntax, too_deep, too_many, start_of, place_of}
use Rattle.p21_parse.specs.Refused.{RefusedFrom}
use Rattle.p21_parse.specs.Machine.{fixed, behind_name, instances, run}
use Rattle.p21_parse.specs.Parser.{IsParser, from, Has, IsRefused}
use Rattle.p21_parse.specs.Following.{AreRefusedFrom, IsFaultOf}
use Rattle.p21_parse.proofs.Moves.{left}
use Rattle.p21_parse.proofs.Named.{symbols_real}
use Rattle.p21_parse.proofs.Parting.{Counted}
use Rattle.p21_parse.proofs.Refusals.{list_syntax, list_too_deep, list_too_many}

all_drop : (bytes : List ℕ) (at : ℕ) (tokens : List Token) → AllByRecursion (IsToken bytes) tokens → AllByRecursion (IsToken bytes) (drop at tokens)
all_drop bytes zero tokens h = h
all_drop bytes (suc at) [] h = tt
all_drop bytes (suc at) (t ∷ tokens) h = all_drop bytes at tokens h.1

-- Each token takes a byte at least.
pub tokens_few : (bytes : List ℕ) (tokens : List Token) (at : ℕ) (rest : List ℕ) → AllByRecursion (IsToken bytes) tokens → Reads at tokens rest → length tokens ≤ length rest
tokens_few bytes [] at rest h r = omega arith
tokens_few bytes (t ∷ tokens) at rest h r =
    let more = tokens_few bytes tokens t.end r.2 h.1 r.9 in
    let some = h.0.filled in
    let end = r.6 in
    let text_some : 0 < length r.1 = omega arith in
    let long = ap length r.4 in
    omega (arith, long, length-append (concat r.0) (r.1 ++ r.2), length-append r.1 r.2)

-- The symbols of a text that holds an exchange are those of tokens.
pub text_spelled : (bytes : List ℕ) (x : ExchangeTree) → IsText bytes x → IsSpelled x
text_spelled bytes x t = subst (AllByRecursion IsSymbol) t.spells (symbols_real bytes t.tokens t.inside)

module _ (s : Parser) (at most : ℕ) where
  place_is : (k : ℕ) → k ≤ length s.tokens.now → place_of s.bytes.now s.tokens.now (length s.tokens.now - k) ≡ start_of s.bytes.now (drop k s.tokens.now)
  place_is k le = let back : length s.tokens.now - (length s.tokens.now - k) ≡ k = omega arith in ap (λ (k : ℕ). start_of s.bytes.now (drop k s.tokens.now)) back

  module _ (rest number : ℕ) (items : List InstanceTree) (l : Counted s at rest items) (has : Has s rest (name number)) where
    parts : from s at ≡ spell_all spell_instance items (name number ∷ from s (rest + 1))
    parts = l.spells ∙ ap (spell_all spell_instance items) has.first

    goes : run 32 0 (instances ∷ []) (from s at) ≡ run 32 0 (instances ∷ []) (name number ∷ from s (rest + 1))
    goes = l.goes [] ∙ ap (run 32 0 (instances ∷ [])) has.first

    pub follow_many : (place : ℕ) → IsParser s → length items ≡ most → place ≡ start_of s.bytes.now (drop rest s.tokens.now) → RefusedFrom s.bytes.now s.tokens.now at most (too_many place)
    follow_many place real full is =
        let long : length (name number ∷ from s (rest + 1)) ≡ length s.tokens.now - rest = ap length (sym has.first) ∙ left s rest in
        let here : place_of s.bytes.now s.tokens.now (length (name number ∷ from s (rest + 1))) ≡ place
        = ap (place_of s.bytes.now s.tokens.now) long ∙ place_is rest (omega (arith, has.within)) ∙ sym is in
        subst (λ (p : ℕ). RefusedFrom s.bytes.now s.tokens.now at most (too_many p)) here
        (list_too_many s.bytes.now s.tokens.now at most items number (from s (rest + 1)) parts goes (all_drop s.bytes.now at s.tokens.now real) full)

    pub follow_fault : (stop : Stop) (e : ReadErr) → length items < most → IsRefused s 0 (behind_name ∷ fixed semicolon ∷ []) (rest + 1) stop → IsFaultOf s stop e → AreRefusedFrom s.bytes.now s.tokens.now at most e
    follow_fault (Syntax k) e lt refused is =
        let le = (refused []).0 in
        let there : place_of s.bytes.now s.tokens.now (length s.tokens.now - k) ≡ start_of s.bytes.now (drop k s.tokens.now) = place_is k le in
        subst (AreRefusedFrom s.bytes.now s.tokens.now at most) (sym is) (
        subst (λ (p : ℕ). RefusedFrom s.bytes.now s.tokens.now at most (syntax p)) there
        (list_syntax s.bytes.now s.tokens.now at most items number (from s (rest + 1)) parts goes (length s.tokens.now - k) (λ stack. (refused stack).1) lt)
        )
    follow_fault (TooDeep k) e lt refused is =
        let le = (refused []).0 in
        let there : place_of s.bytes.now s.tokens.now (length s.tokens.now - k) ≡ start_of s.bytes.now (drop k s.tokens.now) = place_is k le in
        subst (AreRefusedFrom s.bytes.now s.tokens.now at most) (sym is) (
        subst (λ (p : ℕ). RefusedFrom s.bytes.now s.tokens.now at most (too_deep p)) there
        (list_too_deep s.bytes.now s.tokens.now at most items number (from s (rest + 1)) parts goes (length s.tokens.now - k) (λ stack. (refused stack).1) lt)
        )
    follow_fault NoMemory e lt refused is = subst (AreRefusedFrom s.bytes.now s.tokens.now at most) (sym is) tt
