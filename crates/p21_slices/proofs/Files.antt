-- The front of a file with a slice behind it.
use Rattle.std.proofs.Common.{◌≡◌, ℕ, List, [], ◌∷◌, ◌++◌, length, map, ap, ◌∙◌}
use Rattle.p21_lex.specs.declared.token.Token.{Token}
use Rattle.p21_parse.specs.Tree.{InstanceTree, ExchangeTree}
use Rattle.p21_parse.specs.Symbol.{Symbol, symbols}
use Rattle.p21_parse.specs.Spell.{spell_all, spell_instance}
use Rattle.p21_parse.specs.Parser.{spell_start}
use Rattle.p21_parse.specs.Front.{IsFront, with_items}
use Rattle.p21_parse.proofs.Joined.{symbols_join, inside_join}
use Rattle.p21_parse.proofs.Grown.{start_more, grammar_more, shallow_more}
use Rattle.p21_join.specs.Join.{EndsInSemicolon, LastIsSemicolon, moved}
use Rattle.p21_join.proofs.Joins.{joined}
use Rattle.p21_slices.specs.Slices.{IsWhole}

-- ---- tokens

last_more : (ts us : List Token) → LastIsSemicolon us → LastIsSemicolon (ts ++ us)
last_more [] us l = l
last_more (t ∷ []) [] l = absurd l
last_more (t ∷ []) (u ∷ us) l = l
last_more (t ∷ v ∷ ts) us l = last_more (v ∷ ts) us l

last_moved : (by : ℕ) (us : List Token) → LastIsSemicolon us → LastIsSemicolon (map (moved by) us)
last_moved by [] l = l
last_moved by (u ∷ []) l = l
last_moved by (u ∷ v ∷ us) l = last_moved by (v ∷ us) l

ends_more : (a b : List ℕ) → EndsInSemicolon b → EndsInSemicolon (a ++ b)
ends_more [] b e = e
ends_more (x ∷ []) [] e = absurd e
ends_more (x ∷ []) (y ∷ ys) e = e
ends_more (x ∷ y ∷ xs) b e = ends_more (y ∷ xs) b e

-- ---- the laws

pub more : (front slice : List ℕ) (x : ExchangeTree) (items : List InstanceTree) → IsFront front x → IsWhole slice items → IsFront (front ++ slice) (with_items x items)
more front slice x items f s =
    let ts = f.well.tokens in
    let us = s.tokens in
    let together : symbols (front ++ slice) (ts ++ map (moved (length front)) us) ≡ spell_start x.head (spell_all spell_instance (x.items ++ items) []) =
    symbols_join front slice ts us f.inside ∙ ap (λ (ss : List Symbol). ss ++ symbols slice us) f.spells ∙ ap (λ (ss : List Symbol). spell_start x.head (spell_all spell_instance x.items []) ++ ss) s.spells
    ∙ start_more x.head x.items items [] in
    record {
      well = record {
        tokens = ts ++ map (moved (length front)) us;
        reads = joined front slice ts us f.well.ends f.well.last f.well.reads s.reads;
        last = last_more ts (map (moved (length front)) us) (last_moved (length front) us s.last);
        ends = ends_more front slice s.ends;
      };
      inside = inside_join front slice ts us f.inside s.inside;
      spells = together;
      grammar = grammar_more x items f.grammar s.grammar;
      shallow = shallow_more x items f.shallow s.shallow;
    }
