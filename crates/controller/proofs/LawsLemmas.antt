-- Words have one meaning.
use Rattle.std.proofs.Common.{◌≡◌, ℕ, zero, suc, ◌+◌, ◌<◌, ◌≤◌, true, false, List, [], ◌∷◌, length, take, refl, sym, ap, ◌∙◌, arith, inl, inr, add-one}
use Rattle.std.specs.Prelude.{◌==◌, ◌⊎◌, codes}
use Rattle.std.specs.Str.{bytes_eq}
use Rattle.std.proofs.lemmas.Bool.{eqb-true}
use Rattle.std.proofs.lemmas.Slice.Eq.{bytes_eq-Decides}
use Rattle.controller.specs.Numerals.{value_of}
use Rattle.controller.specs.Words.{Form, begins, is_line, is_some_line, begins_some, AreBadAt, is_name, is_limit, is_step, is_steps, is_start, replay_line, path_line, big_line, check_line, help_line, version_line, IsReplay, IsPath, IsBig, IsCheck}
use Rattle.controller.specs.Meaning.{Meaning, Replay, Path, Big, Check, Help, Version, Bad, Mean}
use Rattle.controller.proofs.CommandLemmas.{OneHolds, both, tested, no_test, some_of, none_of, one_of, begins_fewer, replay_shape, path_shape, big_shape, check_shape}

-- a line and what its words give
replay_is_line : (ws : List (List ℕ)) (name script schedule : List ℕ) (limit : ℕ) → IsReplay ws name script schedule limit → is_line ws replay_line ≡ true
replay_is_line [] name script schedule limit h = absurd h
replay_is_line (a ∷ []) name script schedule limit h = absurd h
replay_is_line (a ∷ b ∷ []) name script schedule limit h = absurd h
replay_is_line (a ∷ b ∷ c ∷ []) name script schedule limit h = absurd h
replay_is_line (a ∷ b ∷ c ∷ d ∷ []) name script schedule limit h = absurd h
replay_is_line (a ∷ b ∷ c ∷ d ∷ l ∷ []) name script schedule limit h = h.0
replay_is_line (a ∷ b ∷ c ∷ d ∷ l ∷ x ∷ ws) name script schedule limit h = absurd h

path_is_line : (ws : List (List ℕ)) (name : List ℕ) (n : ℕ) → IsPath ws name n → is_line ws path_line ≡ true
path_is_line [] name n h = absurd h
path_is_line (a ∷ []) name n h = absurd h
path_is_line (a ∷ b ∷ []) name n h = absurd h
path_is_line (a ∷ b ∷ c ∷ []) name n h = h.0
path_is_line (a ∷ b ∷ c ∷ x ∷ ws) name n h = absurd h

big_is_line : (ws : List (List ℕ)) (steps start : ℕ) → IsBig ws steps start → is_line ws big_line ≡ true
big_is_line [] steps start h = absurd h
big_is_line (a ∷ []) steps start h = absurd h
big_is_line (a ∷ b ∷ []) steps start h = absurd h
big_is_line (a ∷ b ∷ c ∷ []) steps start h = h.0
big_is_line (a ∷ b ∷ c ∷ x ∷ ws) steps start h = absurd h

check_is_line : (ws : List (List ℕ)) (name script log : List ℕ) → IsCheck ws name script log → is_line ws check_line ≡ true
check_is_line [] name script log h = absurd h
check_is_line (a ∷ []) name script log h = absurd h
check_is_line (a ∷ b ∷ []) name script log h = absurd h
check_is_line (a ∷ b ∷ c ∷ []) name script log h = absurd h
check_is_line (a ∷ b ∷ c ∷ d ∷ []) name script log h = h.0
check_is_line (a ∷ b ∷ c ∷ d ∷ x ∷ ws) name script log h = absurd h

same_replay : (ws : List (List ℕ)) (name name2 script script2 schedule schedule2 : List ℕ) (limit limit2 : ℕ) → IsReplay ws name script schedule limit → IsReplay ws name2 script2 schedule2 limit2
    → Replay name script schedule limit ≡ Replay name2 script2 schedule2 limit2
same_replay [] name name2 script script2 schedule schedule2 limit limit2 h k = absurd h
same_replay (a ∷ []) name name2 script script2 schedule schedule2 limit limit2 h k = absurd h
same_replay (a ∷ b ∷ []) name name2 script script2 schedule schedule2 limit limit2 h k = absurd h
same_replay (a ∷ b ∷ c ∷ []) name name2 script script2 schedule schedule2 limit limit2 h k = absurd h
same_replay (a ∷ b ∷ c ∷ d ∷ []) name name2 script script2 schedule schedule2 limit limit2 h k = absurd h
same_replay (a ∷ b ∷ c ∷ d ∷ l ∷ []) name name2 script script2 schedule schedule2 limit limit2 h k =
    let names : name ≡ name2 = sym h.1 ∙ k.1 in
    let scripts : script ≡ script2 = sym h.2 ∙ k.2 in
    let schedules : schedule ≡ schedule2 = sym h.3 ∙ k.3 in
    let limits : limit ≡ limit2 = sym h.4 ∙ k.4 in
    ap (λ (m : List ℕ). Replay m script schedule limit) names ∙ ap (λ (w : List ℕ). Replay name2 w schedule limit) scripts
    ∙ ap (λ (w : List ℕ). Replay name2 script2 w limit) schedules ∙ ap (Replay name2 script2 schedule2) limits
same_replay (a ∷ b ∷ c ∷ d ∷ l ∷ x ∷ ws) name name2 script script2 schedule schedule2 limit limit2 h k = absurd h

same_path : (ws : List (List ℕ)) (name name2 : List ℕ) (n n2 : ℕ) → IsPath ws name n → IsPath ws name2 n2 → Path name n ≡ Path name2 n2
same_path [] name name2 n n2 h k = absurd h
same_path (a ∷ []) name name2 n n2 h k = absurd h
same_path (a ∷ b ∷ []) name name2 n n2 h k = absurd h
same_path (a ∷ b ∷ l ∷ []) name name2 n n2 h k =
    let names : name ≡ name2 = sym h.1 ∙ k.1 in
    let numbers : n ≡ n2 = sym h.2 ∙ k.2 in
    ap (λ (m : List ℕ). Path m n) names ∙ ap (Path name2) numbers
same_path (a ∷ b ∷ l ∷ x ∷ ws) name name2 n n2 h k = absurd h

same_big : (ws : List (List ℕ)) (steps steps2 start start2 : ℕ) → IsBig ws steps start → IsBig ws steps2 start2 → Big steps start ≡ Big steps2 start2
same_big [] steps steps2 start start2 h k = absurd h
same_big (a ∷ []) steps steps2 start start2 h k = absurd h
same_big (a ∷ b ∷ []) steps steps2 start start2 h k = absurd h
same_big (a ∷ b ∷ l ∷ []) steps steps2 start start2 h k =
    let counts : steps ≡ steps2 = sym h.1 ∙ k.1 in
    let starts : start ≡ start2 = sym h.2 ∙ k.2 in
    ap (λ (n : ℕ). Big n start) counts ∙ ap (Big steps2) starts
same_big (a ∷ b ∷ l ∷ x ∷ ws) steps steps2 start start2 h k = absurd h

same_check : (ws : List (List ℕ)) (name name2 script script2 log log2 : List ℕ) → IsCheck ws name script log → IsCheck ws name2 script2 log2 → Check name script log ≡ Check name2 script2 log2
same_check [] name name2 script script2 log log2 h k = absurd h
same_check (a ∷ []) name name2 script script2 log log2 h k = absurd h
same_check (a ∷ b ∷ []) name name2 script script2 log log2 h k = absurd h
same_check (a ∷ b ∷ c ∷ []) name name2 script script2 log log2 h k = absurd h
same_check (a ∷ b ∷ c ∷ d ∷ []) name name2 script script2 log log2 h k =
    let names : name ≡ name2 = sym h.1 ∙ k.1 in
    let scripts : script ≡ script2 = sym h.2 ∙ k.2 in
    let logs : log ≡ log2 = sym h.3 ∙ k.3 in
    ap (λ (m : List ℕ). Check m script log) names ∙ ap (λ (w : List ℕ). Check name2 w log) scripts ∙ ap (Check name2 script2) logs
same_check (a ∷ b ∷ c ∷ d ∷ x ∷ ws) name name2 script script2 log log2 h k = absurd h

bytes_same : (a b : List ℕ) → bytes_eq a b ≡ true → a ≡ b
bytes_same a b e = (bytes_eq-Decides a b).0 e

first_word : (ws : List (List ℕ)) (form : Form) (forms : List Form) → is_line ws (form ∷ forms) ≡ true → (w : List ℕ) × (rest : List (List ℕ)) × (ws ≡ w ∷ rest) × (form w ≡ true)
first_word [] form forms e = let empty : 0 ≡ suc (length forms) = eqb-true 0 (suc (length forms)) e in absurd (omega arith)
first_word (w ∷ ws) form forms e =
    let h = both (begins (w ∷ ws) (form ∷ forms)) (length (w ∷ ws) == length (form ∷ forms)) e in
    (w, ws, refl, (both (form w) (begins ws forms) h.0).0)

abbrev words : List ℕ → List (List ℕ) → List (List ℕ)
words w ws = w ∷ ws

head : (v w : List ℕ) (vs ws : List (List ℕ)) → words v vs ≡ words w ws → v ≡ w
head v w vs ws e = cc

-- no words are two lines that begin with different words
one_line : (ws : List (List ℕ)) (a b : List ℕ) (forms others : List Form) → bytes_eq a b ≡ false → is_line ws (bytes_eq a ∷ forms) ≡ true → is_line ws (bytes_eq b ∷ others) ≡ true → ⊥
one_line ws a b forms others apart e f =
    let h = first_word ws (bytes_eq a) forms e in
    let k = first_word ws (bytes_eq b) others f in
    let same : h.0 ≡ k.0 = head h.0 k.0 h.1 k.1 (sym h.2 ∙ k.2) in
    let words_same : a ≡ b = bytes_same a h.0 h.3 ∙ same ∙ sym (bytes_same b k.0 k.3) in
    no_test (bytes_eq a b) ((bytes_eq-Decides a b).1 words_same) apart

abbrev replay_rest : List Form
replay_rest = is_name ∷ is_name ∷ is_name ∷ is_limit ∷ []

abbrev path_rest : List Form
path_rest = is_name ∷ is_step ∷ []

abbrev pub big_rest : List Form
big_rest = is_steps ∷ is_start ∷ []

abbrev check_rest : List Form
check_rest = is_name ∷ is_name ∷ is_name ∷ []

replay_or_path : (ws : List (List ℕ)) → is_line ws replay_line ≡ true → is_line ws path_line ≡ true → ⊥
replay_or_path ws e f = one_line ws (codes "replay") (codes "path") replay_rest path_rest refl e f

replay_or_big : (ws : List (List ℕ)) → is_line ws replay_line ≡ true → is_line ws big_line ≡ true → ⊥
replay_or_big ws e f = one_line ws (codes "replay") (codes "big") replay_rest big_rest refl e f

replay_or_check : (ws : List (List ℕ)) → is_line ws replay_line ≡ true → is_line ws check_line ≡ true → ⊥
replay_or_check ws e f = one_line ws (codes "replay") (codes "check") replay_rest check_rest refl e f

replay_or_help : (ws : List (List ℕ)) → is_line ws replay_line ≡ true → is_line ws help_line ≡ true → ⊥
replay_or_help ws e f = one_line ws (codes "replay") (codes "--help") replay_rest [] refl e f

replay_or_version : (ws : List (List ℕ)) → is_line ws replay_line ≡ true → is_line ws version_line ≡ true → ⊥
replay_or_version ws e f = one_line ws (codes "replay") (codes "--version") replay_rest [] refl e f

path_or_big : (ws : List (List ℕ)) → is_line ws path_line ≡ true → is_line ws big_line ≡ true → ⊥
path_or_big ws e f = one_line ws (codes "path") (codes "big") path_rest big_rest refl e f

path_or_check : (ws : List (List ℕ)) → is_line ws path_line ≡ true → is_line ws check_line ≡ true → ⊥
path_or_check ws e f = one_line ws (codes "path") (codes "check") path_rest check_rest refl e f

path_or_help : (ws : List (List ℕ)) → is_line ws path_line ≡ true → is_line ws help_line ≡ true → ⊥
path_or_help ws e f = one_line ws (codes "path") (codes "--help") path_rest [] refl e f

path_or_version : (ws : List (List ℕ)) → is_line ws path_line ≡ true → is_line ws version_line ≡ true → ⊥
path_or_version ws e f = one_line ws (codes "path") (codes "--version") path_rest [] refl e f

big_or_check : (ws : List (List ℕ)) → is_line ws big_line ≡ true → is_line ws check_line ≡ true → ⊥
big_or_check ws e f = one_line ws (codes "big") (codes "check") big_rest check_rest refl e f

big_or_help : (ws : List (List ℕ)) → is_line ws big_line ≡ true → is_line ws help_line ≡ true → ⊥
big_or_help ws e f = one_line ws (codes "big") (codes "--help") big_rest [] refl e f

big_or_version : (ws : List (List ℕ)) → is_line ws big_line ≡ true → is_line ws version_line ≡ true → ⊥
big_or_version ws e f = one_line ws (codes "big") (codes "--version") big_rest [] refl e f

check_or_help : (ws : List (List ℕ)) → is_line ws check_line ≡ true → is_line ws help_line ≡ true → ⊥
check_or_help ws e f = one_line ws (codes "check") (codes "--help") check_rest [] refl e f

check_or_version : (ws : List (List ℕ)) → is_line ws check_line ≡ true → is_line ws version_line ≡ true → ⊥
check_or_version ws e f = one_line ws (codes "check") (codes "--version") check_rest [] refl e f

help_or_version : (ws : List (List ℕ)) → is_line ws help_line ≡ true → is_line ws version_line ≡ true → ⊥
help_or_version ws e f = one_line ws (codes "--help") (codes "--version") [] [] refl e f

-- words that are a line aren't bad
not_bad : (ws : List (List ℕ)) (place : ℕ) → OneHolds (is_line ws replay_line) (is_line ws path_line) (is_line ws big_line) (is_line ws check_line) (is_line ws help_line) (is_line ws version_line) → AreBadAt ws place → ⊥
not_bad ws place which bad = no_test (is_some_line ws) (some_of (is_line ws replay_line) (is_line ws path_line) (is_line ws big_line) (is_line ws check_line) (is_line ws help_line) (is_line ws version_line) which) bad.no_line

-- fewer words of those that begin a line begin it too
begins_less : (ws : List (List ℕ)) (forms : List Form) (i j : ℕ) → i ≤ j → begins (take j ws) forms ≡ true → begins (take i ws) forms ≡ true
begins_less ws forms i j le e = elim (tested (begins (take i ws) forms)) [ inl t ↦ t | inr f ↦ absurd (no_test (begins (take j ws) forms) e (begins_fewer ws forms i j le f)) ]

one_less : (ws : List (List ℕ)) (i j : ℕ) → i ≤ j → OneHolds (begins (take j ws) replay_line) (begins (take j ws) path_line) (begins (take j ws) big_line) (begins (take j ws) check_line) (begins (take j ws) help_line) (begins (take j ws) version_line)
    → OneHolds (begins (take i ws) replay_line) (begins (take i ws) path_line) (begins (take i ws) big_line) (begins (take i ws) check_line) (begins (take i ws) help_line) (begins (take i ws) version_line)
one_less ws i j le (inl a) = inl (begins_less ws replay_line i j le a)
one_less ws i j le (inr (inl b)) = inr (inl (begins_less ws path_line i j le b))
one_less ws i j le (inr (inr (inl c))) = inr (inr (inl (begins_less ws big_line i j le c)))
one_less ws i j le (inr (inr (inr (inl k)))) = inr (inr (inr (inl (begins_less ws check_line i j le k))))
one_less ws i j le (inr (inr (inr (inr (inl d))))) = inr (inr (inr (inr (inl (begins_less ws help_line i j le d)))))
one_less ws i j le (inr (inr (inr (inr (inr f))))) = inr (inr (inr (inr (inr ((begins_less ws version_line i j le f))))))

some_less : (ws : List (List ℕ)) (i j : ℕ) → i ≤ j → begins_some (take j ws) ≡ true → begins_some (take i ws) ≡ true
some_less ws i j le e = some_of (begins (take i ws) replay_line) (begins (take i ws) path_line) (begins (take i ws) big_line) (begins (take i ws) check_line) (begins (take i ws) help_line) (begins (take i ws) version_line)
    (one_less ws i j le (one_of (begins (take j ws) replay_line) (begins (take j ws) path_line) (begins (take j ws) big_line) (begins (take j ws) check_line) (begins (take j ws) help_line) (begins (take j ws) version_line) e))

not_before : (ws : List (List ℕ)) (i j : ℕ) → AreBadAt ws i → AreBadAt ws j → i < j → ⊥
not_before ws i j h k lt = no_test (begins_some (take (i + 1) ws)) (some_less ws (i + 1) j (omega arith) k.begun) (h.ended (let le = k.within in omega arith))

order : (i j : ℕ) → (i ≡ j) ⊎ ((i < j) ⊎ (j < i))
order i j = grind arith

same_place : (ws : List (List ℕ)) (i j : ℕ) → AreBadAt ws i → AreBadAt ws j → i ≡ j
same_place ws i j h k = elim (order i j) [ inl e ↦ e | inr other ↦ elim other [ inl lt ↦ absurd (not_before ws i j h k lt) | inr gt ↦ absurd (not_before ws j i k h gt) ] ]

-- words have one meaning at most
pub one_meaning : (ws : List (List ℕ)) (a b : Meaning) → Mean ws a → Mean ws b → a ≡ b
one_meaning ws (Replay name script schedule limit) (Replay name2 script2 schedule2 limit2) h k = same_replay ws name name2 script script2 schedule schedule2 limit limit2 h k
one_meaning ws (Replay name script schedule limit) (Path name2 n2) h k = absurd (replay_or_path ws (replay_is_line ws name script schedule limit h) (path_is_line ws name2 n2 k))
one_meaning ws (Replay name script schedule limit) (Big steps2 start2) h k = absurd (replay_or_big ws (replay_is_line ws name script schedule limit h) (big_is_line ws steps2 start2 k))
one_meaning ws (Replay name script schedule limit) (Check name2 script2 log2) h k = absurd (replay_or_check ws (replay_is_line ws name script schedule limit h) (check_is_line ws name2 script2 log2 k))
one_meaning ws (Replay name script schedule limit) Help h k = absurd (replay_or_help ws (replay_is_line ws name script schedule limit h) k)
one_meaning ws (Replay name script schedule limit) Version h k = absurd (replay_or_version ws (replay_is_line ws name script schedule limit h) k)
one_meaning ws (Replay name script schedule limit) (Bad place2) h k = absurd (not_bad ws place2 (inl (replay_is_line ws name script schedule limit h)) k)
one_meaning ws (Path name n) (Replay name2 script2 schedule2 limit2) h k = absurd (replay_or_path ws (replay_is_line ws name2 script2 schedule2 limit2 k) (path_is_line ws name n h))
one_meaning ws (Path name n) (Path name2 n2) h k = same_path ws name name2 n n2 h k
one_meaning ws (Path name n) (Big steps2 start2) h k = absurd (path_or_big ws (path_is_line ws name n h) (big_is_line ws steps2 start2 k))
one_meaning ws (Path name n) (Check name2 script2 log2) h k = absurd (path_or_check ws (path_is_line ws name n h) (check_is_line ws name2 script2 log2 k))
one_meaning ws (Path name n) Help h k = absurd (path_or_help ws (path_is_line ws name n h) k)
one_meaning ws (Path name n) Version h k = absurd (path_or_version ws (path_is_line ws name n h) k)
one_meaning ws (Path name n) (Bad place2) h k = absurd (not_bad ws place2 (inr (inl (path_is_line ws name n h))) k)
one_meaning ws (Big steps start) (Replay name2 script2 schedule2 limit2) h k = absurd (replay_or_big ws (replay_is_line ws name2 script2 schedule2 limit2 k) (big_is_line ws steps start h))
one_meaning ws (Big steps start) (Path name2 n2) h k = absurd (path_or_big ws (path_is_line ws name2 n2 k) (big_is_line ws steps start h))
one_meaning ws (Big steps start) (Big steps2 start2) h k = same_big ws steps steps2 start start2 h k
one_meaning ws (Big steps start) (Check name2 script2 log2) h k = absurd (big_or_check ws (big_is_line ws steps start h) (check_is_line ws name2 script2 log2 k))
one_meaning ws (Big steps start) Help h k = absurd (big_or_help ws (big_is_line ws steps start h) k)
one_meaning ws (Big steps start) Version h k = absurd (big_or_version ws (big_is_line ws steps start h) k)
one_meaning ws (Big steps start) (Bad place2) h k = absurd (not_bad ws place2 (inr (inr (inl (big_is_line ws steps start h)))) k)
one_meaning ws (Check name script log) (Replay name2 script2 schedule2 limit2) h k = absurd (replay_or_check ws (replay_is_line ws name2 script2 schedule2 limit2 k) (check_is_line ws name script log h))
one_meaning ws (Check name script log) (Path name2 n2) h k = absurd (path_or_check ws (path_is_line ws name2 n2 k) (check_is_line ws name script log h))
one_meaning ws (Check name script log) (Big steps2 start2) h k = absurd (big_or_check ws (big_is_line ws steps2 start2 k) (check_is_line ws name script log h))
one_meaning ws (Check name script log) (Check name2 script2 log2) h k = same_check ws name name2 script script2 log log2 h k
one_meaning ws (Check name script log) Help h k = absurd (check_or_help ws (check_is_line ws name script log h) k)
one_meaning ws (Check name script log) Version h k = absurd (check_or_version ws (check_is_line ws name script log h) k)
one_meaning ws (Check name script log) (Bad place2) h k = absurd (not_bad ws place2 (inr (inr (inr (inl (check_is_line ws name script log h))))) k)
one_meaning ws Help (Replay name2 script2 schedule2 limit2) h k = absurd (replay_or_help ws (replay_is_line ws name2 script2 schedule2 limit2 k) h)
one_meaning ws Help (Path name2 n2) h k = absurd (path_or_help ws (path_is_line ws name2 n2 k) h)
one_meaning ws Help (Big steps2 start2) h k = absurd (big_or_help ws (big_is_line ws steps2 start2 k) h)
one_meaning ws Help (Check name2 script2 log2) h k = absurd (check_or_help ws (check_is_line ws name2 script2 log2 k) h)
one_meaning ws Help Help h k = refl
one_meaning ws Help Version h k = absurd (help_or_version ws h k)
one_meaning ws Help (Bad place2) h k = absurd (not_bad ws place2 (inr (inr (inr (inr (inl h))))) k)
one_meaning ws Version (Replay name2 script2 schedule2 limit2) h k = absurd (replay_or_version ws (replay_is_line ws name2 script2 schedule2 limit2 k) h)
one_meaning ws Version (Path name2 n2) h k = absurd (path_or_version ws (path_is_line ws name2 n2 k) h)
one_meaning ws Version (Big steps2 start2) h k = absurd (big_or_version ws (big_is_line ws steps2 start2 k) h)
one_meaning ws Version (Check name2 script2 log2) h k = absurd (check_or_version ws (check_is_line ws name2 script2 log2 k) h)
one_meaning ws Version Help h k = absurd (help_or_version ws k h)
one_meaning ws Version Version h k = refl
one_meaning ws Version (Bad place2) h k = absurd (not_bad ws place2 (inr (inr (inr (inr (inr h))))) k)
one_meaning ws (Bad place) (Replay name2 script2 schedule2 limit2) h k = absurd (not_bad ws place (inl (replay_is_line ws name2 script2 schedule2 limit2 k)) h)
one_meaning ws (Bad place) (Path name2 n2) h k = absurd (not_bad ws place (inr (inl (path_is_line ws name2 n2 k))) h)
one_meaning ws (Bad place) (Big steps2 start2) h k = absurd (not_bad ws place (inr (inr (inl (big_is_line ws steps2 start2 k)))) h)
one_meaning ws (Bad place) (Check name2 script2 log2) h k = absurd (not_bad ws place (inr (inr (inr (inl (check_is_line ws name2 script2 log2 k))))) h)
one_meaning ws (Bad place) Help h k = absurd (not_bad ws place (inr (inr (inr (inr (inl k))))) h)
one_meaning ws (Bad place) Version h k = absurd (not_bad ws place (inr (inr (inr (inr (inr k))))) h)
one_meaning ws (Bad place) (Bad place2) h k = ap Bad (same_place ws place place2 h k)

find_bad : (ws : List (List ℕ)) (i : ℕ) → is_some_line ws ≡ false → i ≤ length ws → (i < length ws → begins_some (take (i + 1) ws) ≡ false) → (place : ℕ) × AreBadAt ws place
find_bad ws zero not le ended = (0, record { no_line = not; within = le; begun = refl; ended = ended })
find_bad ws (suc i) not le ended = elim (tested (begins_some (take (suc i) ws))) [
  | inl t ↦ (suc i, record { no_line = not; within = le; begun = t; ended = ended })
  | inr f ↦ find_bad ws i not (omega arith) (λ _. rw add-one f)
]

no_words : (ws : List (List ℕ)) → is_some_line ws ≡ false → (m : Meaning) × Mean ws m
no_words ws not = let bad = find_bad ws (length ws) not (omega arith) (λ lt. absurd (omega arith)) in (Bad bad.0, bad.1)

-- words have a meaning
pub some_meaning : (ws : List (List ℕ)) → (m : Meaning) × Mean ws m
some_meaning ws = elim (tested (is_line ws replay_line)) [
  | inl t ↦ let shape = replay_shape ws t in (Replay shape.0 shape.1 shape.2 (value_of shape.3), shape.9)
  | inr no_replay ↦ elim (tested (is_line ws path_line)) [
    | inl t ↦ let shape = path_shape ws t in (Path shape.0 (value_of shape.1), shape.6)
    | inr no_path ↦ elim (tested (is_line ws big_line)) [
      | inl t ↦ let shape = big_shape ws t in (Big (value_of shape.0) (value_of shape.1), shape.6)
      | inr no_big ↦ elim (tested (is_line ws check_line)) [
        | inl t ↦ let shape = check_shape ws t in (Check shape.0 shape.1 shape.2, shape.6)
        | inr no_check ↦ elim (tested (is_line ws help_line)) [
          | inl t ↦ (Help, t)
          | inr no_help ↦ elim (tested (is_line ws version_line)) [
            | inl t ↦ (Version, t)
            | inr no_version ↦ no_words ws (none_of (is_line ws replay_line) (is_line ws path_line) (is_line ws big_line) (is_line ws check_line) (is_line ws help_line) (is_line ws version_line) no_replay no_path no_big no_check no_help no_version)
          ]
        ]
      ]
    ]
  ]
]
