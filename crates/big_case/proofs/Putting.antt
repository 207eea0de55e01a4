-- What is put one after the other.
use Rattle.std.proofs.Common.{◌≡◌, ℕ, zero, suc, ◌+◌, Bool, true, false, cond, List, [], ◌∷◌, ◌++◌, ◌%◌, ◌*◌, ◌<◌, ◌==◌, length, get_or, take, map, codes, refl, sym, ap, subst, ◌∙◌, append_assoc, append-nil, arith}
use Rattle.std.specs.Prelude.{filter, Result, OnOk, decimal}
use Rattle.std.specs.List.{flat_map, range_with_len}
use Rattle.std.proofs.lemmas.Grind.{flat_map-append}
use Rattle.std.proofs.lemmas.Bool.Decides.{nat_tests}
use Rattle.std.proofs.lemmas.List.{map_push, take_more}
use Rattle.std.proofs.lemmas.List.Elements.{filter-append}
use Rattle.p21_parse.specs.declared.exchange.Instance.{Instance}
use Rattle.p21_parse.specs.Tree.{Tree, reference, list, Trees, first, trees, with_last, InstanceTree}
use Rattle.p21_parse.specs.View.{instance_of}
use Rattle.big_case.specs.declared.step.Step.{Step}
use Rattle.big_case.specs.declared.step.Revision.{Revision}
use Rattle.big_case.specs.Draws.{state_after, step_from, step_at, revision_from, revision_at}
use Rattle.big_case.specs.Parameters.{simple, instance, text}
use Rattle.big_case.specs.Project.{step_number, steps_of, step_instances, instances_at}
use Rattle.big_case.specs.Script.{edit_text, edit_at}
use Rattle.big_case.specs.Adds.{Adds}

range_last : (a n : ℕ) → range_with_len a (suc n) ≡ range_with_len a n ++ (a + n) ∷ []
range_last a zero = let e : a ≡ a + 0 = omega arith in ap (λ (m : ℕ). m ∷ []) e
range_last a (suc n) =
    let e : a + 1 + n ≡ a + suc n = omega arith in
    ap (λ (ms : List ℕ). a ∷ ms) (range_last (a + 1) n ∙ ap (λ (m : ℕ). range_with_len (a + 1) n ++ m ∷ []) e)

-- one more number
pub first_more : (n : ℕ) → range_with_len 0 (n + 1) ≡ range_with_len 0 n ++ n ∷ []
first_more n =
    let one : n + 1 ≡ suc n = omega arith in
    let e : 0 + n ≡ n = omega arith in
    ap (range_with_len 0) one ∙ range_last 0 n ∙ ap (λ (m : ℕ). range_with_len 0 n ++ m ∷ []) e

-- what stands for it
pub flat_more : {X : Type 0} (f : ℕ → List X) (n : ℕ) → flat_map f (range_with_len 0 (n + 1)) ≡ flat_map f (range_with_len 0 n) ++ f n
flat_more {X} f n =
    ap (flat_map f) (first_more n) ∙ flat_map-append f (range_with_len 0 n) (n ∷ []) ∙ ap (λ (xs : List X). flat_map f (range_with_len 0 n) ++ xs) (append-nil (f n))

-- behind others
pub piece_more : {X : Type 0} (f : ℕ → List X) (start now then : List X) (n : ℕ) → now ≡ start ++ flat_map f (range_with_len 0 n) → then ≡ now ++ f n
    → then ≡ start ++ flat_map f (range_with_len 0 (n + 1))
piece_more {X} f start now then n so_far e =
    e ∙ ap (λ (xs : List X). xs ++ f n) so_far ∙ append_assoc start (flat_map f (range_with_len 0 n)) (f n) ∙ ap (λ (xs : List X). start ++ xs) (sym (flat_more f n))

-- a number that passes a test, and one that doesn't
pub filter_yes : (p : ℕ → Bool) (n : ℕ) → p n ≡ true → filter p (range_with_len 0 (n + 1)) ≡ filter p (range_with_len 0 n) ++ n ∷ []
filter_yes p n passes =
    ap (filter p) (first_more n) ∙ filter-append p (range_with_len 0 n) (n ∷ []) ∙ ap (λ (b : Bool). filter p (range_with_len 0 n) ++ cond b (n ∷ []) []) passes

pub filter_no : (p : ℕ → Bool) (n : ℕ) → p n ≡ false → filter p (range_with_len 0 (n + 1)) ≡ filter p (range_with_len 0 n)
filter_no p n fails =
    ap (filter p) (first_more n) ∙ filter-append p (range_with_len 0 n) (n ∷ []) ∙ ap (λ (b : Bool). filter p (range_with_len 0 n) ++ cond b (n ∷ []) []) fails
    ∙ append-nil (filter p (range_with_len 0 n))

-- ---- instances

-- some, and then others
pub adds : (a b : List InstanceTree) (old mid new : List Instance) → Adds a old mid → Adds b mid new → Adds (a ++ b) old new
adds a b old mid new h k = k ∙ ap (λ (xs : List InstanceTree). xs ++ b) h ∙ append_assoc (map instance_of old) a b

-- none
pub adds_none : (old : List Instance) → Adds [] old old
adds_none old = sym (append-nil (map instance_of old))

-- the instances of one more workingstep
pub more_steps : (start i state : ℕ) (step : Step) (number : ℕ) (old now then : List Instance) → state ≡ state_after start (4 * i) → step ≡ step_from state → number ≡ step_number i
    → Adds (flat_map (instances_at start) (range_with_len 0 i)) old now → Adds (step_instances step number) now then → Adds (flat_map (instances_at start) (range_with_len 0 (i + 1))) old then
more_steps start i state step number old now then moved drawn numbered so_far e =
    let own : step ≡ step_at start i = drawn ∙ ap step_from moved in
    let same : step_instances step number ≡ instances_at start i = ap (λ (s : Step). step_instances s number) own ∙ ap (step_instances (step_at start i)) numbered in
    piece_more (instances_at start) (map instance_of old) (map instance_of now) (map instance_of then) i so_far (e ∙ ap (λ (is : List InstanceTree). map instance_of now ++ is) same)

-- one whose parameters are known
pub put_known : {A B : Type 0} (r : Result A B) (n : ℕ) (w : List ℕ) (ts us : Trees) (old new : List Instance) → ts ≡ us → OnOk r (Adds (simple n w ts ∷ []) old new)
    → OnOk r (Adds (simple n w us ∷ []) old new)
put_known r n w ts us old new e h = subst (λ (vs : Trees). OnOk r (Adds (simple n w vs ∷ []) old new)) e h

-- one with a list that is known
pub listed_known : (n : ℕ) (w : List ℕ) (ts us : Trees) (old new : List Instance) → ts ≡ us → Adds (instance n w (text [] ∷ list ts ∷ []) ∷ []) old new
    → Adds (instance n w (text [] ∷ list us ∷ []) ∷ []) old new
listed_known n w ts us old new e h = subst (λ (vs : Trees). Adds (instance n w (text [] ∷ list vs ∷ []) ∷ []) old new) e h

-- ---- parameters

pub last_more : (ts : List Tree) (t : Tree) → with_last (trees ts) t ≡ trees (ts ++ t ∷ [])
last_more [] t = refl
last_more (u ∷ ts) t = ap (λ (us : Trees). first u us) (last_more ts t)

-- one more parameter behind known ones
pub then_last : (old new : Trees) (ts : List Tree) (t u : Tree) → old ≡ trees ts → u ≡ t → new ≡ with_last old u → new ≡ trees (ts ++ t ∷ [])
then_last old new ts t u h e step = step ∙ ap (with_last old) e ∙ ap (λ (us : Trees). with_last us t) h ∙ last_more ts t

one_reference : (ns : List ℕ) (n : ℕ) → with_last (trees (map reference ns)) (reference n) ≡ trees (map reference (ns ++ n ∷ []))
one_reference ns n = last_more (map reference ns) (reference n) ∙ ap trees (sym (map_push reference ns n))

pub reference_more : (ns : List ℕ) (i : ℕ) (old new : Trees) → i < length ns → old ≡ trees (map reference (take i ns)) → new ≡ with_last old (reference (get_or ns i 0))
    → new ≡ trees (map reference (take (i + 1) ns))
reference_more ns i old new lt h e =
    e ∙ ap (λ (us : Trees). with_last us (reference (get_or ns i 0))) h ∙ one_reference (take i ns) (get_or ns i 0)
    ∙ ap (λ (ms : List ℕ). trees (map reference ms)) (sym (take_more ns i 0 lt))

-- ---- elements of a workplan

steps_yes : (remainder n : ℕ) (start old new : List ℕ) → n % 3 ≡ remainder → old ≡ start ++ steps_of remainder n → new ≡ old ++ step_number n ∷ []
    → new ≡ start ++ steps_of remainder (n + 1)
steps_yes remainder n start old new same h e =
    let p : ℕ → Bool = λ i. i % 3 == remainder in
    let passes : p n ≡ true = grind (arith, nat_tests) in
    let more : steps_of remainder (n + 1) ≡ steps_of remainder n ++ step_number n ∷ [] =
    ap (map step_number) (filter_yes p n passes) ∙ map_push step_number (filter p (range_with_len 0 n)) n in
    e ∙ ap (λ (xs : List ℕ). xs ++ step_number n ∷ []) h ∙ append_assoc start (steps_of remainder n) (step_number n ∷ [])
    ∙ ap (λ (xs : List ℕ). start ++ xs) (sym more)

pub steps_no : (remainder n : ℕ) (start old : List ℕ) → (n % 3 ≡ remainder → ⊥) → old ≡ start ++ steps_of remainder n → old ≡ start ++ steps_of remainder (n + 1)
steps_no remainder n start old other h =
    let p : ℕ → Bool = λ i. i % 3 == remainder in
    let fails : p n ≡ false = grind (arith, nat_tests) in
    h ∙ ap (λ (xs : List ℕ). start ++ map step_number xs) (sym (filter_no p n fails))

pub step_more : (remainder n number : ℕ) (start old new : List ℕ) → n % 3 ≡ remainder → number ≡ step_number n → old ≡ start ++ steps_of remainder n → new ≡ old ++ number ∷ []
    → new ≡ start ++ steps_of remainder (n + 1)
step_more remainder n number start old new same own h e =
    steps_yes remainder n start old new same h (e ∙ ap (λ (m : ℕ). old ++ m ∷ []) own)

-- ---- texts

-- a piece behind another
behind : (a b c p q : List ℕ) → b ≡ a ++ p → c ≡ b ++ q → c ≡ a ++ (p ++ q)
behind a b c p q one two = two ∙ ap (λ (xs : List ℕ). xs ++ q) one ∙ append_assoc a p q

-- the pieces of an edit
pub edit_pieces : (old a b c d e f new : List ℕ) (at number : ℕ) (revision : Revision) → number ≡ step_number revision.step + 7 → a ≡ old ++ codes "EDIT AT " → b ≡ a ++ decimal at
    → c ≡ b ++ codes "; #" → d ≡ c ++ decimal number → e ≡ d ++ codes "=CARTESIAN_POINT('',(0.,0.,-" → f ≡ e ++ decimal revision.depth → new ≡ f ++ codes ".)); ENDEDIT;\n"
    → new ≡ old ++ edit_text at revision
edit_pieces old a b c d e f new at number revision own s1 s2 s3 s4 s5 s6 s7 =
    let step = decimal (step_number revision.step + 7) in
    let s4 : d ≡ c ++ step = s4 ∙ ap (λ (n : ℕ). c ++ decimal n) own in
    let t2 = codes "EDIT AT " ++ decimal at in
    let t3 = t2 ++ codes "; #" in
    let t4 = t3 ++ step in
    let t5 = t4 ++ codes "=CARTESIAN_POINT('',(0.,0.,-" in
    let t6 = t5 ++ decimal revision.depth in
    let h2 = behind old a b (codes "EDIT AT ") (decimal at) s1 s2 in
    let h3 = behind old b c t2 (codes "; #") h2 s3 in
    let h4 = behind old c d t3 step h3 s4 in
    let h5 = behind old d e t4 (codes "=CARTESIAN_POINT('',(0.,0.,-") h4 s5 in
    let h6 = behind old e f t5 (decimal revision.depth) h5 s6 in
    behind old f new t6 (codes ".)); ENDEDIT;\n") h6 s7

pub edit_more : (steps start j state : ℕ) (revision : Revision) (old new : List ℕ) → state ≡ state_after start (4 * steps + 2 * j) → revision ≡ revision_from steps state
    → old ≡ flat_map (edit_at steps start) (range_with_len 0 j) → new ≡ old ++ edit_text (20 * j) revision → new ≡ flat_map (edit_at steps start) (range_with_len 0 (j + 1))
edit_more steps start j state revision old new now drawn h e =
    let own : revision ≡ revision_at steps start j = drawn ∙ ap (revision_from steps) now in
    piece_more (edit_at steps start) [] old new j h (e ∙ ap (λ (r : Revision). old ++ edit_text (20 * j) r) own)
