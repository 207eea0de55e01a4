-- Words that begin a line, and how many of them do.
use Rattle.std.proofs.Common.{◌≡◌, ℕ, zero, suc, ◌+◌, ◌<◌, ◌≤◌, Bool, true, false, List, [], ◌∷◌, length, take, get_or, Option, Some, None, refl, sym, ap, subst, ◌∙◌, arith, inl, inr, add-one}
use Rattle.std.specs.Prelude.{◌&&◌, ◌||◌, ◌==◌, ◌⊎◌, nat_le, slice_get, codes}
use Rattle.std.proofs.lemmas.Option.{slice_get-get_or, slice_get_within}
use Rattle.std.specs.Str.{bytes_eq}
use Rattle.std.proofs.lemmas.Slice.Eq.{bytes_eq-Decides}
use Rattle.std.proofs.lemmas.Bool.{eqb-true, eq-eqb, leb-true}
use Rattle.std.proofs.lemmas.List.{take_all}
use Rattle.run_log.specs.declared.entry.TheConstants.{MAX_ENTRIES}
use Rattle.big_case.specs.declared.workplans.TheConstants.{MAX_STEPS}
use Rattle.controller.specs.declared.command.TheConstants.{LIMIT_DIGITS, CASE_DIGITS, MAX_START}
use Rattle.controller.specs.Numerals.{value_of, is_number}
use Rattle.controller.specs.Words.{Form, begins, is_line, AreBadAt, is_name, is_limit, is_step, is_steps, is_start, replay_line, path_line, big_line, check_line, help_line, version_line, IsReplay, IsPath, IsBig, IsCheck}
use Rattle.controller.specs.Commands.{is_some_of, has_word, HasWord}

-- the word is of the form that stands there, if one does
abbrev passes : Option Form → List ℕ → Bool
passes None w = false
passes (Some form) w = form w

-- so many words begin the line, and no more of them do
pub record AreFit (ws : List (List ℕ)) (forms : List Form) (n : ℕ) : Type 0 where
  pub within : n ≤ length ws
  pub begun : begins (take n ws) forms ≡ true
  pub ended : n < length ws → begins (take (n + 1) ws) forms ≡ false

pub no_test : (b : Bool) → b ≡ true → b ≡ false → ⊥
no_test b p q = let e : true ≡ false = sym p ∙ q in absurd (cc)

pub tested : (b : Bool) → (b ≡ true) ⊎ (b ≡ false)
tested true = inl refl
tested false = inr refl

pub both : (a b : Bool) → (a && b) ≡ true → (a ≡ true) × (b ≡ true)
both true b e = (refl, e)
both false b e = absurd (cc)

and_false : (a b : Bool) → b ≡ false → (a && b) ≡ false
and_false true b e = e
and_false false b e = refl

-- one word more begins the line where it is of the form that stands there
begins_more : (ws : List (List ℕ)) (forms : List Form) (n : ℕ) (w : List ℕ) (b : Bool) → slice_get ws n ≡ Some w → passes (slice_get forms n) w ≡ b → begins (take n ws) forms ≡ true
    → begins (take (suc n) ws) forms ≡ b
begins_more [] forms n w b at test begun = absurd (cc)
begins_more (v ∷ ws) [] zero w b at test begun = test
begins_more (v ∷ ws) [] (suc n) w b at test begun = absurd (cc)
begins_more (v ∷ ws) (form ∷ forms) zero w b at test begun =
    let e : v ≡ w = cc in by (form v) b (ap form e ∙ test)
  where
    by : (a b : Bool) → a ≡ b → (a && true) ≡ b
    by true b e = e
    by false b e = e
begins_more (v ∷ ws) (form ∷ forms) (suc n) w b at test begun =
    let h = both (form v) (begins (take n ws) forms) begun in
    rw h.0 (begins_more ws forms n w b at test h.1)

fewer_and : (a b c : Bool) → (a && b) ≡ false → (b ≡ false → c ≡ false) → (a && c) ≡ false
fewer_and true b c e f = f e
fewer_and false b c e f = refl

-- more words begin no line that fewer don't begin
pub begins_fewer : (ws : List (List ℕ)) (forms : List Form) (i j : ℕ) → i ≤ j → begins (take i ws) forms ≡ false → begins (take j ws) forms ≡ false
begins_fewer ws forms zero j le e = absurd (cc)
begins_fewer [] forms (suc i) j le e = absurd (cc)
begins_fewer (w ∷ ws) forms (suc i) zero le e = absurd (omega arith)
begins_fewer (w ∷ ws) [] (suc i) (suc j) le e = refl
begins_fewer (w ∷ ws) (form ∷ forms) (suc i) (suc j) le e = fewer_and (form w) (begins (take i ws) forms) (begins (take j ws) forms) e (begins_fewer ws forms i j (omega arith))

-- no line is longer than the words that fit it
no_begin : (ws : List (List ℕ)) (forms : List Form) (n i : ℕ) → AreFit ws forms n → n < i → i ≤ length ws → begins (take i ws) forms ≡ false
no_begin ws forms n i fit lt le = begins_fewer ws forms (n + 1) i (omega arith) (fit.ended (omega arith))

-- the words are no line where not all of them fit, or they are fewer than it has
not_line : (ws : List (List ℕ)) (forms : List Form) (n : ℕ) → AreFit ws forms n → ((n ≡ length ws) → (n ≡ length forms) → ⊥) → is_line ws forms ≡ false
not_line ws forms n fit differ =
    elim (tested (is_line ws forms)) [
      | inl t ↦
          let h = both (begins ws forms) (length ws == length forms) t in
          absurd (elim (fewer n (length ws) fit.within) [
            | inl lt ↦ no_test (begins ws forms) h.0 (ap (λ (v : List (List ℕ)). begins v forms) (sym (take_all (length ws) ws (omega arith))) ∙ no_begin ws forms n (length ws) fit lt (omega arith))
            | inr all ↦ differ all (all ∙ eqb-true (length ws) (length forms) h.1)
          ])
      | inr f ↦ f
    ]
  where
    fewer : (n m : ℕ) → n ≤ m → (n < m) ⊎ (n ≡ m)
    fewer n m le = grind arith

pub none_of : (a b c k d f : Bool) → a ≡ false → b ≡ false → c ≡ false → k ≡ false → d ≡ false → f ≡ false → (a || (b || (c || (k || (d || (f || false)))))) ≡ false
none_of a b c k d f p q r m t u = rw (p, q, r, m, t, u) refl

-- one of six tests holds
abbrev pub OneHolds : Bool → Bool → Bool → Bool → Bool → Bool → Type 0
OneHolds a b c k d f = (a ≡ true) ⊎ ((b ≡ true) ⊎ ((c ≡ true) ⊎ ((k ≡ true) ⊎ ((d ≡ true) ⊎ ((f ≡ true))))))

pub some_of : (a b c k d f : Bool) → OneHolds a b c k d f → (a || (b || (c || (k || (d || (f || false)))))) ≡ true
some_of true b c k d f e = refl
some_of false true c k d f e = refl
some_of false false true k d f e = refl
some_of false false false true d f e = refl
some_of false false false false true f e = refl
some_of false false false false false true e = refl
some_of false false false false false false (inl e) = absurd (cc)
some_of false false false false false false (inr (inl e)) = absurd (cc)
some_of false false false false false false (inr (inr (inl e))) = absurd (cc)
some_of false false false false false false (inr (inr (inr (inl e)))) = absurd (cc)
some_of false false false false false false (inr (inr (inr (inr (inl e))))) = absurd (cc)
some_of false false false false false false (inr (inr (inr (inr (inr e))))) = absurd (cc)

-- so many words begin each of the six lines, no more of them do, and none of the lines is whole
record FitAll (ws : List (List ℕ)) (a b c k d f : ℕ) : Type 0 where
  replay : AreFit ws replay_line a
  path : AreFit ws path_line b
  big : AreFit ws big_line c
  check : AreFit ws check_line k
  help : AreFit ws help_line d
  version : AreFit ws version_line f
  no_replay : is_line ws replay_line ≡ false
  no_path : is_line ws path_line ≡ false
  no_big : is_line ws big_line ≡ false
  no_check : is_line ws check_line ≡ false
  no_help : is_line ws help_line ≡ false
  no_version : is_line ws version_line ≡ false

-- n is the greatest of six numbers
record IsMost (n a b c k d f : ℕ) : Type 0 where
  le_a : a ≤ n
  le_b : b ≤ n
  le_c : c ≤ n
  le_k : k ≤ n
  le_d : d ≤ n
  le_f : f ≤ n
  which : (n ≡ a) ⊎ ((n ≡ b) ⊎ ((n ≡ c) ⊎ ((n ≡ k) ⊎ ((n ≡ d) ⊎ ((n ≡ f))))))

most_within : (ws : List (List ℕ)) (a b c k d f n : ℕ) → FitAll ws a b c k d f → (n ≡ a) ⊎ ((n ≡ b) ⊎ ((n ≡ c) ⊎ ((n ≡ k) ⊎ ((n ≡ d) ⊎ ((n ≡ f)))))) → n ≤ length ws
most_within ws a b c k d f n fit (inl e) = omega (arith, fit.replay.within)
most_within ws a b c k d f n fit (inr (inl e)) = omega (arith, fit.path.within)
most_within ws a b c k d f n fit (inr (inr (inl e))) = omega (arith, fit.big.within)
most_within ws a b c k d f n fit (inr (inr (inr (inl e)))) = omega (arith, fit.check.within)
most_within ws a b c k d f n fit (inr (inr (inr (inr (inl e))))) = omega (arith, fit.help.within)
most_within ws a b c k d f n fit (inr (inr (inr (inr (inr e))))) = omega (arith, fit.version.within)

begun_at : (ws : List (List ℕ)) (forms : List Form) (n m : ℕ) → n ≡ m → begins (take m ws) forms ≡ true → begins (take n ws) forms ≡ true
begun_at ws forms n m e begun = rw e begun

most_begun : (ws : List (List ℕ)) (a b c k d f n : ℕ) → FitAll ws a b c k d f → (n ≡ a) ⊎ ((n ≡ b) ⊎ ((n ≡ c) ⊎ ((n ≡ k) ⊎ ((n ≡ d) ⊎ ((n ≡ f))))))
    → OneHolds (begins (take n ws) replay_line) (begins (take n ws) path_line) (begins (take n ws) big_line) (begins (take n ws) check_line) (begins (take n ws) help_line) (begins (take n ws) version_line)
most_begun ws a b c k d f n fit (inl e) = inl (begun_at ws replay_line n a e fit.replay.begun)
most_begun ws a b c k d f n fit (inr (inl e)) = inr (inl (begun_at ws path_line n b e fit.path.begun))
most_begun ws a b c k d f n fit (inr (inr (inl e))) = inr (inr (inl (begun_at ws big_line n c e fit.big.begun)))
most_begun ws a b c k d f n fit (inr (inr (inr (inl e)))) = inr (inr (inr (inl (begun_at ws check_line n k e fit.check.begun))))
most_begun ws a b c k d f n fit (inr (inr (inr (inr (inl e))))) = inr (inr (inr (inr (inl (begun_at ws help_line n d e fit.help.begun)))))
most_begun ws a b c k d f n fit (inr (inr (inr (inr (inr e))))) = inr (inr (inr (inr (inr ((begun_at ws version_line n f e fit.version.begun))))))

-- the longest of the six fits is the place that is bad
bad_at : (ws : List (List ℕ)) (a b c k d f n : ℕ) → FitAll ws a b c k d f → IsMost n a b c k d f → AreBadAt ws n
bad_at ws a b c k d f n fit most =
    let le_a = most.le_a in
    let le_b = most.le_b in
    let le_c = most.le_c in
    let le_k = most.le_k in
    let le_d = most.le_d in
    let le_f = most.le_f in
    record {
      no_line =
          none_of (is_line ws replay_line) (is_line ws path_line) (is_line ws big_line) (is_line ws check_line) (is_line ws help_line) (is_line ws version_line)
          fit.no_replay fit.no_path fit.no_big fit.no_check fit.no_help fit.no_version;
      within = most_within ws a b c k d f n fit most.which;
      begun =
          some_of (begins (take n ws) replay_line) (begins (take n ws) path_line) (begins (take n ws) big_line) (begins (take n ws) check_line) (begins (take n ws) help_line) (begins (take n ws) version_line)
          (most_begun ws a b c k d f n fit most.which);
      ended = λ lt. none_of (begins (take (n + 1) ws) replay_line) (begins (take (n + 1) ws) path_line) (begins (take (n + 1) ws) big_line) (begins (take (n + 1) ws) check_line) (begins (take (n + 1) ws) help_line) (begins (take (n + 1) ws) version_line)
          (no_begin ws replay_line a (n + 1) fit.replay (omega arith) (omega arith)) (no_begin ws path_line b (n + 1) fit.path (omega arith) (omega arith)) (no_begin ws big_line c (n + 1) fit.big (omega arith) (omega arith)) (no_begin ws check_line k (n + 1) fit.check (omega arith) (omega arith)) (no_begin ws help_line d (n + 1) fit.help (omega arith) (omega arith)) (no_begin ws version_line f (n + 1) fit.version (omega arith) (omega arith));
    }

short : (b : Bool) → (b && false) ≡ true → ⊥
short true e = absurd (cc)
short false e = absurd (cc)

-- what stands in the words of a replay
pub replay_shape : (ws : List (List ℕ)) → is_line ws replay_line ≡ true
    → (name : List ℕ) × (script : List ℕ) × (schedule : List ℕ) × (last : List ℕ) × (slice_get ws 1 ≡ Some name) × (slice_get ws 2 ≡ Some script) × (slice_get ws 3 ≡ Some schedule) × (slice_get ws 4 ≡ Some last)
    × (is_limit last ≡ true) × IsReplay ws name script schedule (value_of last)
replay_shape [] e = absurd (cc)
replay_shape (a ∷ []) e = absurd (short (begins (a ∷ []) replay_line) e)
replay_shape (a ∷ b ∷ []) e = absurd (short (begins (a ∷ b ∷ []) replay_line) e)
replay_shape (a ∷ b ∷ c ∷ []) e = absurd (short (begins (a ∷ b ∷ c ∷ []) replay_line) e)
replay_shape (a ∷ b ∷ c ∷ d ∷ []) e = absurd (short (begins (a ∷ b ∷ c ∷ d ∷ []) replay_line) e)
replay_shape (a ∷ b ∷ c ∷ d ∷ l ∷ []) e =
    let h = both (begins (a ∷ b ∷ c ∷ d ∷ l ∷ []) replay_line) true e in
    let h1 = both (bytes_eq (codes "replay") a) (begins (b ∷ c ∷ d ∷ l ∷ []) (is_name ∷ is_name ∷ is_name ∷ is_limit ∷ [])) h.0 in
    let h2 = both (is_name b) (begins (c ∷ d ∷ l ∷ []) (is_name ∷ is_name ∷ is_limit ∷ [])) h1.1 in
    let h3 = both (is_name c) (begins (d ∷ l ∷ []) (is_name ∷ is_limit ∷ [])) h2.1 in
    let h4 = both (is_name d) (begins (l ∷ []) (is_limit ∷ [])) h3.1 in
    let h5 = both (is_limit l) true h4.1 in
    (b, c, d, l, refl, refl, refl, refl, h5.0, (e, refl, refl, refl, refl))
replay_shape (a ∷ b ∷ c ∷ d ∷ l ∷ x ∷ ws) e =
    let long : suc (suc (suc (suc (suc (suc (length ws)))))) ≡ 5 = eqb-true (suc (suc (suc (suc (suc (suc (length ws))))))) 5 (both (begins (a ∷ b ∷ c ∷ d ∷ l ∷ x ∷ ws) replay_line) (suc (suc (suc (suc (suc (suc (length ws)))))) == 5) e).1 in
    absurd (omega arith)

-- what stands in the words of a path
pub path_shape : (ws : List (List ℕ)) → is_line ws path_line ≡ true
    → (name : List ℕ) × (last : List ℕ) × (slice_get ws 1 ≡ Some name) × (slice_get ws 2 ≡ Some last) × (3 ≤ length ws) × (is_step last ≡ true) × IsPath ws name (value_of last)
path_shape [] e = absurd (cc)
path_shape (a ∷ []) e = absurd (short (begins (a ∷ []) path_line) e)
path_shape (a ∷ b ∷ []) e = absurd (short (begins (a ∷ b ∷ []) path_line) e)
path_shape (a ∷ b ∷ n ∷ []) e =
    let h = both (begins (a ∷ b ∷ n ∷ []) path_line) true e in
    let h1 = both (bytes_eq (codes "path") a) (begins (b ∷ n ∷ []) (is_name ∷ is_step ∷ [])) h.0 in
    let h2 = both (is_name b) (begins (n ∷ []) (is_step ∷ [])) h1.1 in
    let h3 = both (is_step n) true h2.1 in
    (b, n, refl, refl, omega arith, h3.0, (e, refl, refl))
path_shape (a ∷ b ∷ n ∷ x ∷ ws) e =
    let long : suc (suc (suc (suc (length ws)))) ≡ 3 = eqb-true (suc (suc (suc (suc (length ws))))) 3 (both (begins (a ∷ b ∷ n ∷ x ∷ ws) path_line) (suc (suc (suc (suc (length ws)))) == 3) e).1 in
    absurd (omega arith)

-- what stands in the words of a large case
pub big_shape : (ws : List (List ℕ)) → is_line ws big_line ≡ true
    → (steps : List ℕ) × (start : List ℕ) × (slice_get ws 1 ≡ Some steps) × (slice_get ws 2 ≡ Some start) × (is_steps steps ≡ true) × (is_start start ≡ true) × IsBig ws (value_of steps) (value_of start)
big_shape [] e = absurd (cc)
big_shape (a ∷ []) e = absurd (short (begins (a ∷ []) big_line) e)
big_shape (a ∷ b ∷ []) e = absurd (short (begins (a ∷ b ∷ []) big_line) e)
big_shape (a ∷ b ∷ n ∷ []) e =
    let h = both (begins (a ∷ b ∷ n ∷ []) big_line) true e in
    let h1 = both (bytes_eq (codes "big") a) (begins (b ∷ n ∷ []) (is_steps ∷ is_start ∷ [])) h.0 in
    let h2 = both (is_steps b) (begins (n ∷ []) (is_start ∷ [])) h1.1 in
    let h3 = both (is_start n) true h2.1 in
    (b, n, refl, refl, h2.0, h3.0, (e, refl, refl))
big_shape (a ∷ b ∷ n ∷ x ∷ ws) e =
    let long : suc (suc (suc (suc (length ws)))) ≡ 3 = eqb-true (suc (suc (suc (suc (length ws))))) 3 (both (begins (a ∷ b ∷ n ∷ x ∷ ws) big_line) (suc (suc (suc (suc (length ws)))) == 3) e).1 in
    absurd (omega arith)

-- what stands in the words of a check
pub check_shape : (ws : List (List ℕ)) → is_line ws check_line ≡ true
    → (name : List ℕ) × (script : List ℕ) × (log : List ℕ) × (slice_get ws 1 ≡ Some name) × (slice_get ws 2 ≡ Some script) × (slice_get ws 3 ≡ Some log) × IsCheck ws name script log
check_shape [] e = absurd (cc)
check_shape (a ∷ []) e = absurd (short (begins (a ∷ []) check_line) e)
check_shape (a ∷ b ∷ []) e = absurd (short (begins (a ∷ b ∷ []) check_line) e)
check_shape (a ∷ b ∷ c ∷ []) e = absurd (short (begins (a ∷ b ∷ c ∷ []) check_line) e)
check_shape (a ∷ b ∷ c ∷ d ∷ []) e = (b, c, d, refl, refl, refl, (e, refl, refl, refl))
check_shape (a ∷ b ∷ c ∷ d ∷ x ∷ ws) e =
    let long : suc (suc (suc (suc (suc (length ws))))) ≡ 4 = eqb-true (suc (suc (suc (suc (suc (length ws)))))) 4 (both (begins (a ∷ b ∷ c ∷ d ∷ x ∷ ws) check_line) (suc (suc (suc (suc (suc (length ws))))) == 4) e).1 in
    absurd (omega arith)

pub one_of : (a b c k d f : Bool) → (a || (b || (c || (k || (d || (f || false)))))) ≡ true → OneHolds a b c k d f
one_of true b c k d f e = inl refl
one_of false true c k d f e = inr (inl refl)
one_of false false true k d f e = inr (inr (inl refl))
one_of false false false true d f e = inr (inr (inr (inl refl)))
one_of false false false false true f e = inr (inr (inr (inr (inl refl))))
one_of false false false false false true e = inr (inr (inr (inr (inr refl))))
one_of false false false false false false e = absurd (cc)

-- so many words stand there and begin the line
pub record AreBegun (ws : List (List ℕ)) (forms : List Form) (n : ℕ) : Type 0 where
  pub within : n ≤ length ws
  pub begun : begins (take n ws) forms ≡ true

is_present : (form : Form) (o : Option (List ℕ)) → is_some_of form o ≡ true → (w : List ℕ) × (o ≡ Some w) × (form w ≡ true)
is_present form None e = absurd (cc)
is_present form (Some w) e = (w, refl, e)

pub word_of : (ws : List (List ℕ)) (n : ℕ) (form : Form) → has_word ws n form ≡ true → (w : List ℕ) × HasWord ws n form w
word_of ws n form e = let h = is_present form (slice_get ws n) e in (h.0, (h.1, h.2))

abbrev some_word : List ℕ → Option (List ℕ)
some_word w = Some w

fails_on : (form : Form) (o : Option (List ℕ)) (w : List ℕ) → is_some_of form o ≡ false → o ≡ some_word w → form w ≡ false
fails_on form None w e is = absurd (cc)
fails_on form (Some v) w e is = let same : v ≡ w = cc in ap form (sym same) ∙ e

pub begun_none : (ws : List (List ℕ)) (forms : List Form) → AreBegun ws forms 0
begun_none ws forms = record { within = omega arith; begun = refl }

pub begun_more : (ws : List (List ℕ)) (forms : List Form) (n : ℕ) (form : Form) (w : List ℕ) → slice_get forms n ≡ Some form → HasWord ws n form w → AreBegun ws forms n → AreBegun ws forms (suc n)
begun_more ws forms n form w there has begun = record {
  within = let lt = slice_get_within ws n w has.0 in omega arith;
  begun = begins_more ws forms n w true has.0 (rw there has.1) begun.begun;
}

fit_at : (ws : List (List ℕ)) (forms : List Form) (n : ℕ) → AreBegun ws forms n → ((w : List ℕ) → slice_get ws n ≡ Some w → passes (slice_get forms n) w ≡ false) → AreFit ws forms n
fit_at ws forms n begun fails = record {
  within = begun.within;
  begun = begun.begun;
  ended = λ lt. let at = slice_get-get_or ws n [] lt in rw add-one (begins_more ws forms n (get_or ws n []) false at (fails (get_or ws n []) at) begun.begun);
}

fit_before : (ws : List (List ℕ)) (forms : List Form) (n : ℕ) (form : Form) → slice_get forms n ≡ Some form → has_word ws n form ≡ false → AreBegun ws forms n → AreFit ws forms n
fit_before ws forms n form there not begun = fit_at ws forms n begun (λ w at. rw there (fails_on form (slice_get ws n) w not at))

fit_whole : (ws : List (List ℕ)) (forms : List Form) (n : ℕ) → slice_get forms n ≡ None → AreBegun ws forms n → AreFit ws forms n
fit_whole ws forms n past begun = fit_at ws forms n begun (λ w at. rw past refl)

pub begun_line : (ws : List (List ℕ)) (forms : List Form) (n : ℕ) → AreBegun ws forms n → length ws ≤ n → n ≡ length forms → is_line ws forms ≡ true
begun_line ws forms n begun short whole =
    let begins_all : begins ws forms ≡ true = ap (λ (v : List (List ℕ)). begins v forms) (sym (take_all n ws short)) ∙ begun.begun in
    let long = begun.within in
    let all : length ws ≡ length forms = omega arith in
    rw begins_all (eq-eqb (length ws) (length forms) all)

same_bytes : (a b : List ℕ) → bytes_eq a b ≡ true → a ≡ b
same_bytes a b e = (bytes_eq-Decides a b).0 e

differ : (a b w : List ℕ) → bytes_eq a w ≡ true → bytes_eq b a ≡ false → bytes_eq b w ≡ false
differ a b w e f = subst (λ (v : List ℕ). bytes_eq b v ≡ false) (same_bytes a w e) f

-- the first word of one line begins no other
starts_other : (ws : List (List ℕ)) (a b : List ℕ) (forms : List Form) → has_word ws 0 (bytes_eq a) ≡ true → bytes_eq b a ≡ false → AreFit ws (bytes_eq b ∷ forms) 0
starts_other ws a b forms first apart =
    let h = word_of ws 0 (bytes_eq a) first in
    fit_at ws (bytes_eq b ∷ forms) 0 (begun_none ws (bytes_eq b ∷ forms)) (λ w at. let same : some_word h.0 ≡ some_word w = sym h.1.0 ∙ at in let e : h.0 ≡ w = cc in
    differ a b w (subst (λ (v : List ℕ). bytes_eq a v ≡ true) e h.1.1) apart)

no_line_at_0 : (ws : List (List ℕ)) (form : Form) (forms : List Form) → AreFit ws (form ∷ forms) 0 → is_line ws (form ∷ forms) ≡ false
no_line_at_0 ws form forms fit = not_line ws (form ∷ forms) 0 fit (λ all whole. absurd (omega arith))

-- the place at which words are bad whose first is that of one line, and which begin that line so far
pub bad_replay : (ws : List (List ℕ)) (n : ℕ) → has_word ws 0 (bytes_eq (codes "replay")) ≡ true → AreFit ws replay_line n → is_line ws replay_line ≡ false → AreBadAt ws n
bad_replay ws n first fit not =
    let path = starts_other ws (codes "replay") (codes "path") (is_name ∷ is_step ∷ []) first refl in
    let big = starts_other ws (codes "replay") (codes "big") (is_steps ∷ is_start ∷ []) first refl in
    let check = starts_other ws (codes "replay") (codes "check") (is_name ∷ is_name ∷ is_name ∷ []) first refl in
    let help = starts_other ws (codes "replay") (codes "--help") [] first refl in
    let version = starts_other ws (codes "replay") (codes "--version") [] first refl in
    bad_at ws n 0 0 0 0 0 n
    (record {
      replay = fit;
      path = path;
      big = big;
      check = check;
      help = help;
      version = version;
      no_replay = not;
      no_path = no_line_at_0 ws _ _ path;
      no_big = no_line_at_0 ws _ _ big;
      no_check = no_line_at_0 ws _ _ check;
      no_help = no_line_at_0 ws _ _ help;
      no_version = no_line_at_0 ws _ _ version;
    })
    (record { le_a = omega arith; le_b = omega arith; le_c = omega arith; le_k = omega arith; le_d = omega arith; le_f = omega arith; which = inl refl })

pub bad_path : (ws : List (List ℕ)) (n : ℕ) → has_word ws 0 (bytes_eq (codes "path")) ≡ true → AreFit ws path_line n → is_line ws path_line ≡ false → AreBadAt ws n
bad_path ws n first fit not =
    let replay = starts_other ws (codes "path") (codes "replay") (is_name ∷ is_name ∷ is_name ∷ is_limit ∷ []) first refl in
    let big = starts_other ws (codes "path") (codes "big") (is_steps ∷ is_start ∷ []) first refl in
    let check = starts_other ws (codes "path") (codes "check") (is_name ∷ is_name ∷ is_name ∷ []) first refl in
    let help = starts_other ws (codes "path") (codes "--help") [] first refl in
    let version = starts_other ws (codes "path") (codes "--version") [] first refl in
    bad_at ws 0 n 0 0 0 0 n
    (record {
      replay = replay;
      path = fit;
      big = big;
      check = check;
      help = help;
      version = version;
      no_replay = no_line_at_0 ws _ _ replay;
      no_path = not;
      no_big = no_line_at_0 ws _ _ big;
      no_check = no_line_at_0 ws _ _ check;
      no_help = no_line_at_0 ws _ _ help;
      no_version = no_line_at_0 ws _ _ version;
    })
    (record { le_a = omega arith; le_b = omega arith; le_c = omega arith; le_k = omega arith; le_d = omega arith; le_f = omega arith; which = inr (inl refl) })

pub bad_big : (ws : List (List ℕ)) (n : ℕ) → has_word ws 0 (bytes_eq (codes "big")) ≡ true → AreFit ws big_line n → is_line ws big_line ≡ false → AreBadAt ws n
bad_big ws n first fit not =
    let replay = starts_other ws (codes "big") (codes "replay") (is_name ∷ is_name ∷ is_name ∷ is_limit ∷ []) first refl in
    let path = starts_other ws (codes "big") (codes "path") (is_name ∷ is_step ∷ []) first refl in
    let check = starts_other ws (codes "big") (codes "check") (is_name ∷ is_name ∷ is_name ∷ []) first refl in
    let help = starts_other ws (codes "big") (codes "--help") [] first refl in
    let version = starts_other ws (codes "big") (codes "--version") [] first refl in
    bad_at ws 0 0 n 0 0 0 n
    (record {
      replay = replay;
      path = path;
      big = fit;
      check = check;
      help = help;
      version = version;
      no_replay = no_line_at_0 ws _ _ replay;
      no_path = no_line_at_0 ws _ _ path;
      no_big = not;
      no_check = no_line_at_0 ws _ _ check;
      no_help = no_line_at_0 ws _ _ help;
      no_version = no_line_at_0 ws _ _ version;
    })
    (record { le_a = omega arith; le_b = omega arith; le_c = omega arith; le_k = omega arith; le_d = omega arith; le_f = omega arith; which = inr (inr (inl refl)) })

pub bad_check : (ws : List (List ℕ)) (n : ℕ) → has_word ws 0 (bytes_eq (codes "check")) ≡ true → AreFit ws check_line n → is_line ws check_line ≡ false → AreBadAt ws n
bad_check ws n first fit not =
    let replay = starts_other ws (codes "check") (codes "replay") (is_name ∷ is_name ∷ is_name ∷ is_limit ∷ []) first refl in
    let path = starts_other ws (codes "check") (codes "path") (is_name ∷ is_step ∷ []) first refl in
    let big = starts_other ws (codes "check") (codes "big") (is_steps ∷ is_start ∷ []) first refl in
    let help = starts_other ws (codes "check") (codes "--help") [] first refl in
    let version = starts_other ws (codes "check") (codes "--version") [] first refl in
    bad_at ws 0 0 0 n 0 0 n
    (record {
      replay = replay;
      path = path;
      big = big;
      check = fit;
      help = help;
      version = version;
      no_replay = no_line_at_0 ws _ _ replay;
      no_path = no_line_at_0 ws _ _ path;
      no_big = no_line_at_0 ws _ _ big;
      no_check = not;
      no_help = no_line_at_0 ws _ _ help;
      no_version = no_line_at_0 ws _ _ version;
    })
    (record { le_a = omega arith; le_b = omega arith; le_c = omega arith; le_k = omega arith; le_d = omega arith; le_f = omega arith; which = inr (inr (inr (inl refl))) })

pub bad_help : (ws : List (List ℕ)) (n : ℕ) → has_word ws 0 (bytes_eq (codes "--help")) ≡ true → AreFit ws help_line n → is_line ws help_line ≡ false → AreBadAt ws n
bad_help ws n first fit not =
    let replay = starts_other ws (codes "--help") (codes "replay") (is_name ∷ is_name ∷ is_name ∷ is_limit ∷ []) first refl in
    let path = starts_other ws (codes "--help") (codes "path") (is_name ∷ is_step ∷ []) first refl in
    let big = starts_other ws (codes "--help") (codes "big") (is_steps ∷ is_start ∷ []) first refl in
    let check = starts_other ws (codes "--help") (codes "check") (is_name ∷ is_name ∷ is_name ∷ []) first refl in
    let version = starts_other ws (codes "--help") (codes "--version") [] first refl in
    bad_at ws 0 0 0 0 n 0 n
    (record {
      replay = replay;
      path = path;
      big = big;
      check = check;
      help = fit;
      version = version;
      no_replay = no_line_at_0 ws _ _ replay;
      no_path = no_line_at_0 ws _ _ path;
      no_big = no_line_at_0 ws _ _ big;
      no_check = no_line_at_0 ws _ _ check;
      no_help = not;
      no_version = no_line_at_0 ws _ _ version;
    })
    (record { le_a = omega arith; le_b = omega arith; le_c = omega arith; le_k = omega arith; le_d = omega arith; le_f = omega arith; which = inr (inr (inr (inr (inl refl)))) })

pub bad_version : (ws : List (List ℕ)) (n : ℕ) → has_word ws 0 (bytes_eq (codes "--version")) ≡ true → AreFit ws version_line n → is_line ws version_line ≡ false → AreBadAt ws n
bad_version ws n first fit not =
    let replay = starts_other ws (codes "--version") (codes "replay") (is_name ∷ is_name ∷ is_name ∷ is_limit ∷ []) first refl in
    let path = starts_other ws (codes "--version") (codes "path") (is_name ∷ is_step ∷ []) first refl in
    let big = starts_other ws (codes "--version") (codes "big") (is_steps ∷ is_start ∷ []) first refl in
    let check = starts_other ws (codes "--version") (codes "check") (is_name ∷ is_name ∷ is_name ∷ []) first refl in
    let help = starts_other ws (codes "--version") (codes "--help") [] first refl in
    bad_at ws 0 0 0 0 0 n n
    (record {
      replay = replay;
      path = path;
      big = big;
      check = check;
      help = help;
      version = fit;
      no_replay = no_line_at_0 ws _ _ replay;
      no_path = no_line_at_0 ws _ _ path;
      no_big = no_line_at_0 ws _ _ big;
      no_check = no_line_at_0 ws _ _ check;
      no_help = no_line_at_0 ws _ _ help;
      no_version = not;
    })
    (record { le_a = omega arith; le_b = omega arith; le_c = omega arith; le_k = omega arith; le_d = omega arith; le_f = omega arith; which = inr (inr (inr (inr (inr refl)))) })

no_first : (ws : List (List ℕ)) (form : Form) (forms : List Form) → has_word ws 0 form ≡ false → AreFit ws (form ∷ forms) 0
no_first ws form forms not = fit_before ws (form ∷ forms) 0 form refl not (begun_none ws (form ∷ forms))

-- words of which the first is that of no line are bad from the beginning
pub bad_first : (ws : List (List ℕ)) → has_word ws 0 (bytes_eq (codes "replay")) ≡ false → has_word ws 0 (bytes_eq (codes "path")) ≡ false → has_word ws 0 (bytes_eq (codes "big")) ≡ false
    → has_word ws 0 (bytes_eq (codes "check")) ≡ false → has_word ws 0 (bytes_eq (codes "--help")) ≡ false → has_word ws 0 (bytes_eq (codes "--version")) ≡ false → AreBadAt ws 0
bad_first ws r p b k h v =
    let replay = no_first ws (bytes_eq (codes "replay")) (is_name ∷ is_name ∷ is_name ∷ is_limit ∷ []) r in
    let path = no_first ws (bytes_eq (codes "path")) (is_name ∷ is_step ∷ []) p in
    let big = no_first ws (bytes_eq (codes "big")) (is_steps ∷ is_start ∷ []) b in
    let check = no_first ws (bytes_eq (codes "check")) (is_name ∷ is_name ∷ is_name ∷ []) k in
    let help = no_first ws (bytes_eq (codes "--help")) [] h in
    let version = no_first ws (bytes_eq (codes "--version")) [] v in
    bad_at ws 0 0 0 0 0 0 0
    (record {
      replay = replay;
      path = path;
      big = big;
      check = check;
      help = help;
      version = version;
      no_replay = no_line_at_0 ws _ _ replay;
      no_path = no_line_at_0 ws _ _ path;
      no_big = no_line_at_0 ws _ _ big;
      no_check = no_line_at_0 ws _ _ check;
      no_help = no_line_at_0 ws _ _ help;
      no_version = no_line_at_0 ws _ _ version;
    })
    (record { le_a = omega arith; le_b = omega arith; le_c = omega arith; le_k = omega arith; le_d = omega arith; le_f = omega arith; which = inl refl })

-- the words begin a line and go on otherwise, before its end or behind it: they aren't the line, and this is how far they fit
pub stops_before : (ws : List (List ℕ)) (forms : List Form) (n : ℕ) (form : Form) → slice_get forms n ≡ Some form → n < length forms → has_word ws n form ≡ false → AreBegun ws forms n
    → AreFit ws forms n × (is_line ws forms ≡ false)
stops_before ws forms n form there lt not begun =
    let fit = fit_before ws forms n form there not begun in
    (fit, not_line ws forms n fit (λ all whole. absurd (omega arith)))

pub stops_behind : (ws : List (List ℕ)) (forms : List Form) (n : ℕ) → slice_get forms n ≡ None → n < length ws → AreBegun ws forms n → AreFit ws forms n × (is_line ws forms ≡ false)
stops_behind ws forms n past more begun =
    let fit = fit_whole ws forms n past begun in
    (fit, not_line ws forms n fit (λ all whole. absurd (omega arith)))

-- the words so far of a replay
pub replay_1 : (ws : List (List ℕ)) → has_word ws 0 (bytes_eq (codes "replay")) ≡ true → AreBegun ws replay_line 1
replay_1 ws first = let h = word_of ws 0 (bytes_eq (codes "replay")) first in begun_more ws replay_line 0 (bytes_eq (codes "replay")) h.0 refl h.1 (begun_none ws replay_line)

pub replay_2 : (ws : List (List ℕ)) (name : List ℕ) → HasWord ws 1 is_name name → AreBegun ws replay_line 1 → AreBegun ws replay_line 2
replay_2 ws name has begun = begun_more ws replay_line 1 is_name name refl has begun

pub replay_3 : (ws : List (List ℕ)) (script : List ℕ) → HasWord ws 2 is_name script → AreBegun ws replay_line 2 → AreBegun ws replay_line 3
replay_3 ws script has begun = begun_more ws replay_line 2 is_name script refl has begun

pub replay_4 : (ws : List (List ℕ)) (schedule : List ℕ) → HasWord ws 3 is_name schedule → AreBegun ws replay_line 3 → AreBegun ws replay_line 4
replay_4 ws schedule has begun = begun_more ws replay_line 3 is_name schedule refl has begun

pub replay_5 : (ws : List (List ℕ)) (last : List ℕ) → HasWord ws 4 is_limit last → AreBegun ws replay_line 4 → AreBegun ws replay_line 5
replay_5 ws last has begun = begun_more ws replay_line 4 is_limit last refl has begun

pub path_1 : (ws : List (List ℕ)) → has_word ws 0 (bytes_eq (codes "path")) ≡ true → AreBegun ws path_line 1
path_1 ws first = let h = word_of ws 0 (bytes_eq (codes "path")) first in begun_more ws path_line 0 (bytes_eq (codes "path")) h.0 refl h.1 (begun_none ws path_line)

pub path_2 : (ws : List (List ℕ)) (name : List ℕ) → HasWord ws 1 is_name name → AreBegun ws path_line 1 → AreBegun ws path_line 2
path_2 ws name has begun = begun_more ws path_line 1 is_name name refl has begun

pub path_3 : (ws : List (List ℕ)) (last : List ℕ) → HasWord ws 2 is_step last → AreBegun ws path_line 2 → AreBegun ws path_line 3
path_3 ws last has begun = begun_more ws path_line 2 is_step last refl has begun

pub big_1 : (ws : List (List ℕ)) → has_word ws 0 (bytes_eq (codes "big")) ≡ true → AreBegun ws big_line 1
big_1 ws first = let h = word_of ws 0 (bytes_eq (codes "big")) first in begun_more ws big_line 0 (bytes_eq (codes "big")) h.0 refl h.1 (begun_none ws big_line)

pub big_2 : (ws : List (List ℕ)) (steps : List ℕ) → HasWord ws 1 is_steps steps → AreBegun ws big_line 1 → AreBegun ws big_line 2
big_2 ws steps has begun = begun_more ws big_line 1 is_steps steps refl has begun

pub big_3 : (ws : List (List ℕ)) (start : List ℕ) → HasWord ws 2 is_start start → AreBegun ws big_line 2 → AreBegun ws big_line 3
big_3 ws start has begun = begun_more ws big_line 2 is_start start refl has begun

pub check_1 : (ws : List (List ℕ)) → has_word ws 0 (bytes_eq (codes "check")) ≡ true → AreBegun ws check_line 1
check_1 ws first = let h = word_of ws 0 (bytes_eq (codes "check")) first in begun_more ws check_line 0 (bytes_eq (codes "check")) h.0 refl h.1 (begun_none ws check_line)

pub check_2 : (ws : List (List ℕ)) (name : List ℕ) → HasWord ws 1 is_name name → AreBegun ws check_line 1 → AreBegun ws check_line 2
check_2 ws name has begun = begun_more ws check_line 1 is_name name refl has begun

pub check_3 : (ws : List (List ℕ)) (script : List ℕ) → HasWord ws 2 is_name script → AreBegun ws check_line 2 → AreBegun ws check_line 3
check_3 ws script has begun = begun_more ws check_line 2 is_name script refl has begun

pub check_4 : (ws : List (List ℕ)) (log : List ℕ) → HasWord ws 3 is_name log → AreBegun ws check_line 3 → AreBegun ws check_line 4
check_4 ws log has begun = begun_more ws check_line 3 is_name log refl has begun

pub help_1 : (ws : List (List ℕ)) → has_word ws 0 (bytes_eq (codes "--help")) ≡ true → AreBegun ws help_line 1
help_1 ws first = let h = word_of ws 0 (bytes_eq (codes "--help")) first in begun_more ws help_line 0 (bytes_eq (codes "--help")) h.0 refl h.1 (begun_none ws help_line)

pub version_1 : (ws : List (List ℕ)) → has_word ws 0 (bytes_eq (codes "--version")) ≡ true → AreBegun ws version_line 1
version_1 ws first = let h = word_of ws 0 (bytes_eq (codes "--version")) first in begun_more ws version_line 0 (bytes_eq (codes "--version")) h.0 refl h.1 (begun_none ws version_line)

same_word : (a b : List ℕ) → some_word a ≡ some_word b → a ≡ b
same_word a b e = cc

-- whole words of a replay and of a path, with what was read of them
pub is_replay : (ws : List (List ℕ)) (name script schedule last : List ℕ) (limit : ℕ) → AreBegun ws replay_line 5 → length ws ≤ 5 → HasWord ws 1 is_name name → HasWord ws 2 is_name script → HasWord ws 3 is_name schedule
    → HasWord ws 4 is_limit last → limit ≡ value_of last → IsReplay ws name script schedule limit
is_replay ws name script schedule last limit begun short at_1 at_2 at_3 at_4 value =
    let shape = replay_shape ws (begun_line ws replay_line 5 begun short refl) in
    let e_name : shape.0 ≡ name = same_word shape.0 name (sym shape.4 ∙ at_1.0) in
    let e_script : shape.1 ≡ script = same_word shape.1 script (sym shape.5 ∙ at_2.0) in
    let e_schedule : shape.2 ≡ schedule = same_word shape.2 schedule (sym shape.6 ∙ at_3.0) in
    let e_last : shape.3 ≡ last = same_word shape.3 last (sym shape.7 ∙ at_4.0) in
    let e_limit : value_of shape.3 ≡ limit = ap value_of e_last ∙ sym value in
    subst (λ (n : List ℕ). IsReplay ws n script schedule limit) e_name
    (subst (λ (w : List ℕ). IsReplay ws shape.0 w schedule limit) e_script
    (subst (λ (w : List ℕ). IsReplay ws shape.0 shape.1 w limit) e_schedule (subst (λ (v : ℕ). IsReplay ws shape.0 shape.1 shape.2 v) e_limit shape.9)))

-- the limit of a replay is in its range
pub limit_within : (ws : List (List ℕ)) (name script schedule : List ℕ) (limit : ℕ) → IsReplay ws name script schedule limit → (1 ≤ limit) × (limit ≤ MAX_ENTRIES)
limit_within [] name script schedule limit is = absurd is
limit_within (a ∷ []) name script schedule limit is = absurd is
limit_within (a ∷ b ∷ []) name script schedule limit is = absurd is
limit_within (a ∷ b ∷ c ∷ []) name script schedule limit is = absurd is
limit_within (a ∷ b ∷ c ∷ d ∷ []) name script schedule limit is = absurd is
limit_within (a ∷ b ∷ c ∷ d ∷ l ∷ []) name script schedule limit is =
    let shape = replay_shape (a ∷ b ∷ c ∷ d ∷ l ∷ []) is.0 in
    let h : is_limit l ≡ true = subst (λ (w : List ℕ). is_limit w ≡ true) (same_word shape.3 l (sym shape.7)) shape.8 in
    let most = both (is_number LIMIT_DIGITS l && nat_le 1 (value_of l)) (nat_le (value_of l) MAX_ENTRIES) h in
    let least = both (is_number LIMIT_DIGITS l) (nat_le 1 (value_of l)) most.0 in
    subst (λ (n : ℕ). (1 ≤ n) × (n ≤ MAX_ENTRIES)) is.4 (leb-true 1 (value_of l) least.1, leb-true (value_of l) MAX_ENTRIES most.1)
limit_within (a ∷ b ∷ c ∷ d ∷ l ∷ x ∷ ws) name script schedule limit is = absurd is

pub is_path : (ws : List (List ℕ)) (name last : List ℕ) (n : ℕ) → AreBegun ws path_line 3 → length ws ≤ 3 → HasWord ws 1 is_name name → HasWord ws 2 is_step last → n ≡ value_of last → IsPath ws name n
is_path ws name last n begun short at_1 at_2 value =
    let shape = path_shape ws (begun_line ws path_line 3 begun short refl) in
    let e_name : shape.0 ≡ name = same_word shape.0 name (sym shape.2 ∙ at_1.0) in
    let e_last : shape.1 ≡ last = same_word shape.1 last (sym shape.3 ∙ at_2.0) in
    let e_n : value_of shape.1 ≡ n = ap value_of e_last ∙ sym value in
    subst (λ (m : List ℕ). IsPath ws m n) e_name (subst (λ (v : ℕ). IsPath ws shape.0 v) e_n shape.6)

pub is_big : (ws : List (List ℕ)) (w v : List ℕ) (steps start : ℕ) → AreBegun ws big_line 3 → length ws ≤ 3 → HasWord ws 1 is_steps w → HasWord ws 2 is_start v → steps ≡ value_of w → start ≡ value_of v
    → IsBig ws steps start
is_big ws w v steps start begun short at_1 at_2 value_1 value_2 =
    let shape = big_shape ws (begun_line ws big_line 3 begun short refl) in
    let e_steps : value_of shape.0 ≡ steps = ap value_of (same_word shape.0 w (sym shape.2 ∙ at_1.0)) ∙ sym value_1 in
    let e_start : value_of shape.1 ≡ start = ap value_of (same_word shape.1 v (sym shape.3 ∙ at_2.0)) ∙ sym value_2 in
    subst (λ (n : ℕ). IsBig ws n start) e_steps (subst (λ (n : ℕ). IsBig ws (value_of shape.0) n) e_start shape.6)

-- the numbers of a large case are in their ranges
pub case_within : (ws : List (List ℕ)) (steps start : ℕ) → IsBig ws steps start → (1 ≤ steps) × (steps ≤ MAX_STEPS) × (start ≤ MAX_START)
case_within [] steps start is = absurd is
case_within (a ∷ []) steps start is = absurd is
case_within (a ∷ b ∷ []) steps start is = absurd is
case_within (a ∷ b ∷ l ∷ []) steps start is =
    let h = both (begins (a ∷ b ∷ l ∷ []) big_line) true is.0 in
    let h1 = both (bytes_eq (codes "big") a) (begins (b ∷ l ∷ []) (is_steps ∷ is_start ∷ [])) h.0 in
    let h2 = both (is_steps b) (begins (l ∷ []) (is_start ∷ [])) h1.1 in
    let h3 = both (is_start l) true h2.1 in
    let most = both (is_number CASE_DIGITS b && nat_le 1 (value_of b)) (nat_le (value_of b) MAX_STEPS) h2.0 in
    let least = both (is_number CASE_DIGITS b) (nat_le 1 (value_of b)) most.0 in
    let far = both (is_number CASE_DIGITS l) (nat_le (value_of l) MAX_START) h3.0 in
    let range : (1 ≤ steps) × (steps ≤ MAX_STEPS) = subst (λ (n : ℕ). (1 ≤ n) × (n ≤ MAX_STEPS)) is.1 (leb-true 1 (value_of b) least.1, leb-true (value_of b) MAX_STEPS most.1) in
    (range.0, range.1, subst (λ (n : ℕ). n ≤ MAX_START) is.2 (leb-true (value_of l) MAX_START far.1))
case_within (a ∷ b ∷ l ∷ x ∷ ws) steps start is = absurd is

pub is_check : (ws : List (List ℕ)) (name script log : List ℕ) → AreBegun ws check_line 4 → length ws ≤ 4 → HasWord ws 1 is_name name → HasWord ws 2 is_name script → HasWord ws 3 is_name log
    → IsCheck ws name script log
is_check ws name script log begun short at_1 at_2 at_3 =
    let shape = check_shape ws (begun_line ws check_line 4 begun short refl) in
    let e_name : shape.0 ≡ name = same_word shape.0 name (sym shape.3 ∙ at_1.0) in
    let e_script : shape.1 ≡ script = same_word shape.1 script (sym shape.4 ∙ at_2.0) in
    let e_log : shape.2 ≡ log = same_word shape.2 log (sym shape.5 ∙ at_3.0) in
    subst (λ (n : List ℕ). IsCheck ws n script log) e_name
    (subst (λ (w : List ℕ). IsCheck ws shape.0 w log) e_script (subst (λ (w : List ℕ). IsCheck ws shape.0 shape.1 w) e_log shape.6))

-- words of a replay that go on otherwise at some place
pub replay_stops_1 : (ws : List (List ℕ)) (bad : ℕ) → has_word ws 0 (bytes_eq (codes "replay")) ≡ true → (bad ≡ 1) × (has_word ws 1 is_name ≡ false) → AreBadAt ws bad
replay_stops_1 ws bad first stop =
    let five : length replay_line ≡ 5 = refl in
    let s = stops_before ws replay_line 1 is_name refl (omega arith) stop.1 (replay_1 ws first) in
    subst (λ (n : ℕ). AreBadAt ws n) (sym stop.0) (bad_replay ws 1 first s.0 s.1)

pub replay_stops_2 : (ws : List (List ℕ)) (name : List ℕ) (bad : ℕ) → has_word ws 0 (bytes_eq (codes "replay")) ≡ true → HasWord ws 1 is_name name → (bad ≡ 2) × (has_word ws 2 is_name ≡ false)
    → AreBadAt ws bad
replay_stops_2 ws name bad first at_1 stop =
    let five : length replay_line ≡ 5 = refl in
    let s = stops_before ws replay_line 2 is_name refl (omega arith) stop.1 (replay_2 ws name at_1 (replay_1 ws first)) in
    subst (λ (n : ℕ). AreBadAt ws n) (sym stop.0) (bad_replay ws 2 first s.0 s.1)

pub replay_stops_3 : (ws : List (List ℕ)) (name script : List ℕ) (bad : ℕ) → has_word ws 0 (bytes_eq (codes "replay")) ≡ true → HasWord ws 1 is_name name → HasWord ws 2 is_name script
    → (bad ≡ 3) × (has_word ws 3 is_name ≡ false) → AreBadAt ws bad
replay_stops_3 ws name script bad first at_1 at_2 stop =
    let five : length replay_line ≡ 5 = refl in
    let s = stops_before ws replay_line 3 is_name refl (omega arith) stop.1 (replay_3 ws script at_2 (replay_2 ws name at_1 (replay_1 ws first))) in
    subst (λ (n : ℕ). AreBadAt ws n) (sym stop.0) (bad_replay ws 3 first s.0 s.1)

pub replay_stops_4 : (ws : List (List ℕ)) (name script schedule : List ℕ) (bad : ℕ) → has_word ws 0 (bytes_eq (codes "replay")) ≡ true → HasWord ws 1 is_name name → HasWord ws 2 is_name script
    → HasWord ws 3 is_name schedule → (bad ≡ 4) × (has_word ws 4 is_limit ≡ false) → AreBadAt ws bad
replay_stops_4 ws name script schedule bad first at_1 at_2 at_3 stop =
    let five : length replay_line ≡ 5 = refl in
    let s = stops_before ws replay_line 4 is_limit refl (omega arith) stop.1 (replay_4 ws schedule at_3 (replay_3 ws script at_2 (replay_2 ws name at_1 (replay_1 ws first)))) in
    subst (λ (n : ℕ). AreBadAt ws n) (sym stop.0) (bad_replay ws 4 first s.0 s.1)

pub replay_stops_5 : (ws : List (List ℕ)) (name script schedule last : List ℕ) (bad : ℕ) → has_word ws 0 (bytes_eq (codes "replay")) ≡ true → HasWord ws 1 is_name name → HasWord ws 2 is_name script
    → HasWord ws 3 is_name schedule → HasWord ws 4 is_limit last → (bad ≡ 5) × (5 < length ws) → AreBadAt ws bad
replay_stops_5 ws name script schedule last bad first at_1 at_2 at_3 at_4 stop =
    let s = stops_behind ws replay_line 5 refl stop.1 (replay_5 ws last at_4 (replay_4 ws schedule at_3 (replay_3 ws script at_2 (replay_2 ws name at_1 (replay_1 ws first))))) in
    subst (λ (n : ℕ). AreBadAt ws n) (sym stop.0) (bad_replay ws 5 first s.0 s.1)

-- words of a path that go on otherwise at some place
pub path_stops_1 : (ws : List (List ℕ)) (bad : ℕ) → has_word ws 0 (bytes_eq (codes "path")) ≡ true → (bad ≡ 1) × (has_word ws 1 is_name ≡ false) → AreBadAt ws bad
path_stops_1 ws bad first stop =
    let three : length path_line ≡ 3 = refl in
    let s = stops_before ws path_line 1 is_name refl (omega arith) stop.1 (path_1 ws first) in
    subst (λ (n : ℕ). AreBadAt ws n) (sym stop.0) (bad_path ws 1 first s.0 s.1)

pub path_stops_2 : (ws : List (List ℕ)) (name : List ℕ) (bad : ℕ) → has_word ws 0 (bytes_eq (codes "path")) ≡ true → HasWord ws 1 is_name name → (bad ≡ 2) × (has_word ws 2 is_step ≡ false) → AreBadAt ws bad
path_stops_2 ws name bad first at_1 stop =
    let three : length path_line ≡ 3 = refl in
    let s = stops_before ws path_line 2 is_step refl (omega arith) stop.1 (path_2 ws name at_1 (path_1 ws first)) in
    subst (λ (n : ℕ). AreBadAt ws n) (sym stop.0) (bad_path ws 2 first s.0 s.1)

pub path_stops_3 : (ws : List (List ℕ)) (name last : List ℕ) (bad : ℕ) → has_word ws 0 (bytes_eq (codes "path")) ≡ true → HasWord ws 1 is_name name → HasWord ws 2 is_step last → (bad ≡ 3) × (3 < length ws)
    → AreBadAt ws bad
path_stops_3 ws name last bad first at_1 at_2 stop =
    let s = stops_behind ws path_line 3 refl stop.1 (path_3 ws last at_2 (path_2 ws name at_1 (path_1 ws first))) in
    subst (λ (n : ℕ). AreBadAt ws n) (sym stop.0) (bad_path ws 3 first s.0 s.1)

-- words of a large case that go on otherwise at some place
pub big_stops_1 : (ws : List (List ℕ)) (bad : ℕ) → has_word ws 0 (bytes_eq (codes "big")) ≡ true → (bad ≡ 1) × (has_word ws 1 is_steps ≡ false) → AreBadAt ws bad
big_stops_1 ws bad first stop =
    let three : length big_line ≡ 3 = refl in
    let s = stops_before ws big_line 1 is_steps refl (omega arith) stop.1 (big_1 ws first) in
    subst (λ (n : ℕ). AreBadAt ws n) (sym stop.0) (bad_big ws 1 first s.0 s.1)

pub big_stops_2 : (ws : List (List ℕ)) (steps : List ℕ) (bad : ℕ) → has_word ws 0 (bytes_eq (codes "big")) ≡ true → HasWord ws 1 is_steps steps → (bad ≡ 2) × (has_word ws 2 is_start ≡ false) → AreBadAt ws bad
big_stops_2 ws steps bad first at_1 stop =
    let three : length big_line ≡ 3 = refl in
    let s = stops_before ws big_line 2 is_start refl (omega arith) stop.1 (big_2 ws steps at_1 (big_1 ws first)) in
    subst (λ (n : ℕ). AreBadAt ws n) (sym stop.0) (bad_big ws 2 first s.0 s.1)

pub big_stops_3 : (ws : List (List ℕ)) (steps start : List ℕ) (bad : ℕ) → has_word ws 0 (bytes_eq (codes "big")) ≡ true → HasWord ws 1 is_steps steps → HasWord ws 2 is_start start → (bad ≡ 3) × (3 < length ws)
    → AreBadAt ws bad
big_stops_3 ws steps start bad first at_1 at_2 stop =
    let s = stops_behind ws big_line 3 refl stop.1 (big_3 ws start at_2 (big_2 ws steps at_1 (big_1 ws first))) in
    subst (λ (n : ℕ). AreBadAt ws n) (sym stop.0) (bad_big ws 3 first s.0 s.1)

-- words of a check that go on otherwise at some place
pub check_stops_1 : (ws : List (List ℕ)) (bad : ℕ) → has_word ws 0 (bytes_eq (codes "check")) ≡ true → (bad ≡ 1) × (has_word ws 1 is_name ≡ false) → AreBadAt ws bad
check_stops_1 ws bad first stop =
    let four : length check_line ≡ 4 = refl in
    let s = stops_before ws check_line 1 is_name refl (omega arith) stop.1 (check_1 ws first) in
    subst (λ (n : ℕ). AreBadAt ws n) (sym stop.0) (bad_check ws 1 first s.0 s.1)

pub check_stops_2 : (ws : List (List ℕ)) (name : List ℕ) (bad : ℕ) → has_word ws 0 (bytes_eq (codes "check")) ≡ true → HasWord ws 1 is_name name → (bad ≡ 2) × (has_word ws 2 is_name ≡ false)
    → AreBadAt ws bad
check_stops_2 ws name bad first at_1 stop =
    let four : length check_line ≡ 4 = refl in
    let s = stops_before ws check_line 2 is_name refl (omega arith) stop.1 (check_2 ws name at_1 (check_1 ws first)) in
    subst (λ (n : ℕ). AreBadAt ws n) (sym stop.0) (bad_check ws 2 first s.0 s.1)

pub check_stops_3 : (ws : List (List ℕ)) (name script : List ℕ) (bad : ℕ) → has_word ws 0 (bytes_eq (codes "check")) ≡ true → HasWord ws 1 is_name name → HasWord ws 2 is_name script
    → (bad ≡ 3) × (has_word ws 3 is_name ≡ false) → AreBadAt ws bad
check_stops_3 ws name script bad first at_1 at_2 stop =
    let four : length check_line ≡ 4 = refl in
    let s = stops_before ws check_line 3 is_name refl (omega arith) stop.1 (check_3 ws script at_2 (check_2 ws name at_1 (check_1 ws first))) in
    subst (λ (n : ℕ). AreBadAt ws n) (sym stop.0) (bad_check ws 3 first s.0 s.1)

pub check_stops_4 : (ws : List (List ℕ)) (name script log : List ℕ) (bad : ℕ) → has_word ws 0 (bytes_eq (codes "check")) ≡ true → HasWord ws 1 is_name name → HasWord ws 2 is_name script
    → HasWord ws 3 is_name log → (bad ≡ 4) × (4 < length ws) → AreBadAt ws bad
check_stops_4 ws name script log bad first at_1 at_2 at_3 stop =
    let s = stops_behind ws check_line 4 refl stop.1 (check_4 ws log at_3 (check_3 ws script at_2 (check_2 ws name at_1 (check_1 ws first)))) in
    subst (λ (n : ℕ). AreBadAt ws n) (sym stop.0) (bad_check ws 4 first s.0 s.1)

-- more words behind `--help` and `--version`
pub help_stops : (ws : List (List ℕ)) (bad : ℕ) → has_word ws 0 (bytes_eq (codes "--help")) ≡ true → (bad ≡ 1) × (1 < length ws) → AreBadAt ws bad
help_stops ws bad first stop =
    let s = stops_behind ws help_line 1 refl stop.1 (help_1 ws first) in
    subst (λ (n : ℕ). AreBadAt ws n) (sym stop.0) (bad_help ws 1 first s.0 s.1)

pub version_stops : (ws : List (List ℕ)) (bad : ℕ) → has_word ws 0 (bytes_eq (codes "--version")) ≡ true → (bad ≡ 1) × (1 < length ws) → AreBadAt ws bad
version_stops ws bad first stop =
    let s = stops_behind ws version_line 1 refl stop.1 (version_1 ws first) in
    subst (λ (n : ℕ). AreBadAt ws n) (sym stop.0) (bad_version ws 1 first s.0 s.1)

pub whole_help : (ws : List (List ℕ)) → has_word ws 0 (bytes_eq (codes "--help")) ≡ true → length ws ≤ 1 → is_line ws help_line ≡ true
whole_help ws first short = begun_line ws help_line 1 (help_1 ws first) short refl

pub whole_version : (ws : List (List ℕ)) → has_word ws 0 (bytes_eq (codes "--version")) ≡ true → length ws ≤ 1 → is_line ws version_line ≡ true
whole_version ws first short = begun_line ws version_line 1 (version_1 ws first) short refl
