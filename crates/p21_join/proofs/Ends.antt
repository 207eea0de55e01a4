-- What a look at the last one says.
use Rattle.std.proofs.Common.{◌≡◌, ℕ, suc, ◌-◌, List, [], ◌∷◌, length, Some, sym, subst, arith}
use Rattle.std.specs.Prelude.{slice_get}
use Rattle.p21_lex.specs.declared.token.Token.{Token}
use Rattle.p21_lex.specs.declared.token.TokenKind.TheVariants.{Semicolon}
use Rattle.p21_join.specs.Join.{EndsInSemicolon, LastIsSemicolon}

pub end_byte : (xs : List ℕ) → slice_get xs (length xs - 1) ≡ Some 59 → EndsInSemicolon xs
end_byte [] e = absurd cc
end_byte (b ∷ []) e = cc
end_byte (b ∷ c ∷ bs) e =
    let before : length (b ∷ c ∷ bs) - 1 ≡ suc (length (c ∷ bs) - 1) = omega arith in
    end_byte (c ∷ bs) (subst (λ (n : ℕ). slice_get (b ∷ c ∷ bs) n ≡ Some 59) before e)

pub end_token : (ts : List Token) (t : Token) → slice_get ts (length ts - 1) ≡ Some t → t.kind ≡ Semicolon → LastIsSemicolon ts
end_token [] t e k = absurd cc
end_token (u ∷ []) t e k = let same : u ≡ t = cc in subst (λ (v : Token). v.kind ≡ Semicolon) (sym same) k
end_token (u ∷ v ∷ ts) t e k =
    let before : length (u ∷ v ∷ ts) - 1 ≡ suc (length (v ∷ ts) - 1) = omega arith in
    end_token (v ∷ ts) t (subst (λ (n : ℕ). slice_get (u ∷ v ∷ ts) n ≡ Some t) before e) k
