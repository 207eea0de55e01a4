-- The tokens of two slices are those of both together.
use Rattle.std.proofs.Common.{◌≡◌, ℕ, ◌+◌, ◌<◌, Bool, true, false, ◌&&◌, ◌==◌, List, [], ◌∷◌, ◌++◌, length, map, refl, sym, ap, subst, ◌∙◌, append_assoc, arith}
use Rattle.std.specs.List.{concat, AllByRecursion}
use Rattle.std.proofs.lemmas.List.{length-append}
use Rattle.p21_lex.specs.declared.token.TokenKind.{TokenKind}
use Rattle.p21_lex.specs.declared.token.TokenKind.TheVariants.{Word, UserWord, Name, Int, Real, Text, Enumeration, Binary, Open, Close, Comma, Semicolon, Equals, Dollar, Star}
use Rattle.p21_lex.specs.declared.token.Token.{Token}
use Rattle.p21_lex.specs.Reading.{IsGap, Stops, Reads, begins_int, begins_exponent}
use Rattle.p21_lex.specs.declared.error.LexErr.{LexErr}
use Rattle.p21_lex.specs.Refusal.{ReadsUpTo, IsRefusedFrom, IsRefused}
use Rattle.p21_lex.proofs.Whole.{spelled_some}
use Rattle.p21_lex.proofs.Refusals.{upto_gap}
use Rattle.p21_join.specs.Join.{EndsInSemicolon, LastIsSemicolon, moved}

-- ---- a slice further on in the text

pub moves : (by at : ℕ) (us : List Token) (b : List ℕ) → Reads at us b → Reads (by + at) (map (moved by) us) b
moves by at [] b h = h
moves by at (t ∷ ts) b h =
    let start : by + t.start ≡ (by + at) + length (concat h.0) = omega (arith, h.5) in
    let end : by + t.end ≡ (by + t.start) + length h.1 = omega (arith, h.6) in
    (h.0, h.1, h.2, h.3, h.4, start, end, h.7, h.8, moves by t.end ts h.2 h.9)

-- ---- what follows a slice changes no token in it

and_false : (x : Bool) → (x && false) ≡ false
and_false true = refl
and_false false = refl

int_more : (more : List ℕ) → begins_int (59 ∷ more) ≡ false
int_more [] = refl
int_more (d ∷ ds) = refl

exponent_more : (rest more : List ℕ) → EndsInSemicolon rest → begins_exponent rest ≡ false → begins_exponent (rest ++ more) ≡ false
exponent_more [] more e h = absurd e
exponent_more (b ∷ []) more e h = subst (λ (n : ℕ). ((n == 69) && begins_int more) ≡ false) (sym e) refl
exponent_more (b ∷ c ∷ []) more e h = subst (λ (n : ℕ). ((b == 69) && begins_int (n ∷ more)) ≡ false) (sym e) (ap (λ (x : Bool). (b == 69) && x) (int_more more) ∙ and_false (b == 69))
exponent_more (b ∷ c ∷ d ∷ bs) more e h = h

stops_more : (kind : TokenKind) (text rest more : List ℕ) → EndsInSemicolon rest → Stops kind text rest → Stops kind text (rest ++ more)
stops_more kind text [] more e h = absurd e
stops_more Word text (b ∷ bs) more e h = h
stops_more UserWord text (b ∷ bs) more e h = h
stops_more Name text (b ∷ bs) more e h = h
stops_more Int text (b ∷ bs) more e h = h
stops_more Real text (b ∷ bs) more e h = (h.0, λ no. exponent_more (b ∷ bs) more e (h.1 no))
stops_more Text text (b ∷ bs) more e h = h
stops_more Enumeration text (b ∷ bs) more e h = tt
stops_more Binary text (b ∷ bs) more e h = tt
stops_more Open text (b ∷ bs) more e h = tt
stops_more Close text (b ∷ bs) more e h = tt
stops_more Comma text (b ∷ bs) more e h = tt
stops_more Semicolon text (b ∷ bs) more e h = tt
stops_more Equals text (b ∷ bs) more e h = tt
stops_more Dollar text (b ∷ bs) more e h = tt
stops_more Star text (b ∷ bs) more e h = tt

ends_tail : (x : ℕ) (zs : List ℕ) → 0 < length zs → EndsInSemicolon (x ∷ zs) → EndsInSemicolon zs
ends_tail x [] some e = absurd (omega arith)
ends_tail x (z ∷ zs) some e = e

ends_rest : (xs ys : List ℕ) → 0 < length ys → EndsInSemicolon (xs ++ ys) → EndsInSemicolon ys
ends_rest [] ys some e = e
ends_rest (x ∷ xs) ys some e = ends_rest xs ys some (ends_tail x (xs ++ ys) (omega (arith, length-append xs ys)) e)

-- ---- gaps in front

reads_gap : (at : ℕ) (gap rest : List ℕ) (ts : List Token) → IsGap gap → Reads (at + length gap) ts rest → Reads at ts (gap ++ rest)
reads_gap at gap rest [] here h = (gap ∷ h.0, (here, h.1), ap (λ (r : List ℕ). gap ++ r) h.2)
reads_gap at gap rest (t ∷ ts) here h =
    let parts : gap ++ rest ≡ concat (gap ∷ h.0) ++ (h.1 ++ h.2) = ap (λ (r : List ℕ). gap ++ r) h.4 ∙ sym (append_assoc gap (concat h.0) (h.1 ++ h.2)) in
    let start : t.start ≡ at + length (concat (gap ∷ h.0)) = omega (arith, h.5, length-append gap (concat h.0)) in
    (gap ∷ h.0, h.1, h.2, (here, h.3), parts, start, h.6, h.7, h.8, h.9)

reads_gaps : (at : ℕ) (gaps : List (List ℕ)) (rest : List ℕ) (ts : List Token) → AllByRecursion IsGap gaps → Reads (at + length (concat gaps)) ts rest → Reads at ts (concat gaps ++ rest)
reads_gaps at [] rest ts are h = subst (λ (n : ℕ). Reads n ts rest) (omega arith) h
reads_gaps at (g ∷ gs) rest ts are h =
    let on : (at + length (concat (g ∷ gs))) ≡ ((at + length g) + length (concat gs)) = omega (arith, length-append g (concat gs)) in
    let behind : Reads (at + length g) ts (concat gs ++ rest) = reads_gaps (at + length g) gs rest ts are.1 (subst (λ (n : ℕ). Reads n ts rest) on h) in
    subst (λ (bs : List ℕ). Reads at ts bs) (sym (append_assoc g (concat gs) rest)) (reads_gap at g (concat gs ++ rest) ts are.0 behind)

-- ---- two slices

some_bytes : (at : ℕ) (t : Token) (ts : List Token) (bytes : List ℕ) → Reads at (t ∷ ts) bytes → 0 < length bytes
some_bytes at t ts bytes h = omega (arith, ap length h.4, length-append (concat h.0) (h.1 ++ h.2), length-append h.1 h.2, spelled_some t.kind h.1 h.7)

parts_of : (gaps text rest b a : List ℕ) → a ≡ gaps ++ (text ++ rest) → a ++ b ≡ gaps ++ (text ++ (rest ++ b))
parts_of gaps text rest b a is = ap (λ (xs : List ℕ). xs ++ b) is ∙ append_assoc gaps (text ++ rest) b ∙ ap (λ (xs : List ℕ). gaps ++ xs) (append_assoc text rest b)

lengths : (at start end : ℕ) (gaps text rest a : List ℕ) → a ≡ gaps ++ (text ++ rest) → start ≡ at + length gaps → end ≡ start + length text → at + length a ≡ end + length rest
lengths at start end gaps text rest a is s e = omega (arith, ap length is, length-append gaps (text ++ rest), length-append text rest, s, e)

pub reads_join : (at : ℕ) (ts us : List Token) (a b : List ℕ) → EndsInSemicolon a → LastIsSemicolon ts → Reads at ts a → Reads (at + length a) us b → Reads at (ts ++ us) (a ++ b)
reads_join at [] us a b ends last h more = absurd last
reads_join at (t ∷ []) us a b ends last h more =
    let on : at + length a ≡ t.end + length h.2 = lengths at t.start t.end (concat h.0) h.1 h.2 a h.4 h.5 h.6 in
    let further : Reads (t.end + length (concat h.9.0)) us b = subst (λ (n : ℕ). Reads n us b) (on ∙ ap (λ (bs : List ℕ). t.end + length bs) h.9.2) more in
    let behind : Reads t.end us (h.2 ++ b) = subst (λ (bs : List ℕ). Reads t.end us (bs ++ b)) (sym h.9.2) (reads_gaps t.end h.9.0 b us h.9.1 further) in
    let stops : Stops t.kind h.1 (h.2 ++ b) = subst (λ (k : TokenKind). Stops k h.1 (h.2 ++ b)) (sym last) tt in
    (h.0, h.1, h.2 ++ b, h.3, parts_of (concat h.0) h.1 h.2 b a h.4, h.5, h.6, h.7, stops, behind)
reads_join at (t ∷ u ∷ ts) us a b ends last h more =
    let on : at + length a ≡ t.end + length h.2 = lengths at t.start t.end (concat h.0) h.1 h.2 a h.4 h.5 h.6 in
    let rest : EndsInSemicolon h.2 = ends_rest h.1 h.2 (some_bytes t.end u ts h.2 h.9) (ends_rest (concat h.0) (h.1 ++ h.2) (omega (arith, length-append h.1 h.2, some_bytes t.end u ts h.2 h.9)) (subst EndsInSemicolon h.4 ends)) in
    let behind : Reads t.end ((u ∷ ts) ++ us) (h.2 ++ b) = reads_join t.end (u ∷ ts) us h.2 b rest last h.9 (subst (λ (n : ℕ). Reads n us b) on more) in
    (h.0, h.1, h.2 ++ b, h.3, parts_of (concat h.0) h.1 h.2 b a h.4, h.5, h.6, h.7, stops_more t.kind h.1 h.2 b rest h.8, behind)

pub joined : (a b : List ℕ) (ts us : List Token) → EndsInSemicolon a → LastIsSemicolon ts → Reads 0 ts a → Reads 0 us b → Reads 0 (ts ++ map (moved (length a)) us) (a ++ b)
joined a b ts us ends last h more = reads_join 0 ts (map (moved (length a)) us) a b ends last h (subst (λ (n : ℕ). Reads n (map (moved (length a)) us) b) (omega arith) (moves (length a) 0 us b more))

-- ---- a fault behind a slice

upto_gaps : (at : ℕ) (gaps : List (List ℕ)) (rest : List ℕ) (ts : List Token) (place : ℕ) (left : List ℕ) → AllByRecursion IsGap gaps → ReadsUpTo (at + length (concat gaps)) ts rest place left → ReadsUpTo at ts (concat gaps ++ rest) place left
upto_gaps at [] rest ts place left are h = subst (λ (n : ℕ). ReadsUpTo n ts rest place left) (omega arith) h
upto_gaps at (g ∷ gs) rest ts place left are h =
    let on : (at + length (concat (g ∷ gs))) ≡ ((at + length g) + length (concat gs)) = omega (arith, length-append g (concat gs)) in
    let behind : ReadsUpTo (at + length g) ts (concat gs ++ rest) place left = upto_gaps (at + length g) gs rest ts place left are.1 (subst (λ (n : ℕ). ReadsUpTo n ts rest place left) on h) in
    subst (λ (bs : List ℕ). ReadsUpTo at ts bs place left) (sym (append_assoc g (concat gs) rest)) (upto_gap at g (concat gs ++ rest) ts place left are.0 behind)

-- what reads a slice and then the text behind it up to a place reads both up to there
pub upto_join : (at : ℕ) (ts us : List Token) (a b : List ℕ) (place : ℕ) (left : List ℕ) → EndsInSemicolon a → LastIsSemicolon ts → Reads at ts a → ReadsUpTo (at + length a) us b place left
    → ReadsUpTo at (ts ++ us) (a ++ b) place left
upto_join at [] us a b place left ends last h more = absurd last
upto_join at (t ∷ []) us a b place left ends last h more =
    let on : at + length a ≡ t.end + length h.2 = lengths at t.start t.end (concat h.0) h.1 h.2 a h.4 h.5 h.6 in
    let further : ReadsUpTo (t.end + length (concat h.9.0)) us b place left = subst (λ (n : ℕ). ReadsUpTo n us b place left) (on ∙ ap (λ (bs : List ℕ). t.end + length bs) h.9.2) more in
    let behind : ReadsUpTo t.end us (h.2 ++ b) place left = subst (λ (bs : List ℕ). ReadsUpTo t.end us (bs ++ b) place left) (sym h.9.2) (upto_gaps t.end h.9.0 b us place left h.9.1 further) in
    let stops : Stops t.kind h.1 (h.2 ++ b) = subst (λ (k : TokenKind). Stops k h.1 (h.2 ++ b)) (sym last) tt in
    (h.0, h.1, h.2 ++ b, h.3, parts_of (concat h.0) h.1 h.2 b a h.4, h.5, h.6, h.7, stops, behind)
upto_join at (t ∷ u ∷ ts) us a b place left ends last h more =
    let on : at + length a ≡ t.end + length h.2 = lengths at t.start t.end (concat h.0) h.1 h.2 a h.4 h.5 h.6 in
    let rest : EndsInSemicolon h.2 = ends_rest h.1 h.2 (some_bytes t.end u ts h.2 h.9) (ends_rest (concat h.0) (h.1 ++ h.2) (omega (arith, length-append h.1 h.2, some_bytes t.end u ts h.2 h.9)) (subst EndsInSemicolon h.4 ends)) in
    let behind : ReadsUpTo t.end ((u ∷ ts) ++ us) (h.2 ++ b) place left = upto_join t.end (u ∷ ts) us h.2 b place left rest last h.9 (subst (λ (n : ℕ). ReadsUpTo n us b place left) on more) in
    (h.0, h.1, h.2 ++ b, h.3, parts_of (concat h.0) h.1 h.2 b a h.4, h.5, h.6, h.7, stops_more t.kind h.1 h.2 b rest h.8, behind)

pub refused : (a b : List ℕ) (ts : List Token) (e : LexErr) → EndsInSemicolon a → LastIsSemicolon ts → Reads 0 ts a → IsRefusedFrom (length a) b e → IsRefused (a ++ b) e
refused a b ts e ends last h fault =
    let further : ReadsUpTo (0 + length a) fault.0 b fault.1 fault.2 = subst (λ (n : ℕ). ReadsUpTo n fault.0 b fault.1 fault.2) (omega arith) fault.3 in
    (ts ++ fault.0, fault.1, fault.2, upto_join 0 ts fault.0 a b fault.1 fault.2 ends last h further, fault.4)

pub behind : (a b : List ℕ) (ts us : List Token) → EndsInSemicolon a → LastIsSemicolon ts → Reads 0 ts a → Reads (length a) us b → Reads 0 (ts ++ us) (a ++ b)
behind a b ts us ends last h more = reads_join 0 ts us a b ends last h (subst (λ (n : ℕ). Reads n us b) (omega arith) more)
