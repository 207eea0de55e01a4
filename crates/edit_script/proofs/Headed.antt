-- The head of an edit, and instances behind it.
use Rattle.std.proofs.Common.{◌≡◌, ℕ, suc, ◌<◌, ◌≤◌, nat_lt, Bool, true, false, List, [], ◌∷◌, ◌++◌, length, codes, refl, sym, ap, subst, ◌∙◌, append_assoc, append-nil, inl, inr, ◌⊎◌, IsTrue, arith}
use Rattle.std.specs.List.{AllByRecursion}
use Rattle.p21_lex.specs.declared.token.TokenKind.TheVariants as kinds
use Rattle.p21_parse.specs.Tree.{InstanceTree}
use Rattle.p21_parse.specs.Symbol.{Symbol, value, name, opening, semicolon}
use Rattle.p21_parse.specs.Spell.{spell_all, spell_instance}
use Rattle.p21_parse.specs.Grammar.{IsInstance, AreInstances}
use Rattle.p21_parse.specs.Begins.{IsSymbol, Begins}
use Rattle.p21_parse.specs.Refused.{list_numbers}
use Rattle.p21_parse.proofs.Leaves.{above}
use Rattle.p21_parse.proofs.Sound.{not_above}
use Rattle.p21_parse.proofs.Finish.{word_each, real_append}
use Rattle.p21_parse.proofs.Named.{longer_front, real_front}
use Rattle.p21_parse.proofs.Owned.{instances_numbers}
use Rattle.p21_parse.proofs.Appends.{longer_instance, longer_instances}
use Rattle.p21_parse.proofs.Unique.{same_instances}
use Rattle.edit_script.specs.Script.{EditTree, edit_word, at_word, end_word, is_moment, spell_edit, IsEdit, IsScript, IsFewScript}

-- ---- marks and words are symbols of tokens

pub edit_real : IsSymbol edit_word
edit_real = (kinds.Word, codes "EDIT", (refl, word_each (codes "DIT") refl), refl)

pub at_real : IsSymbol at_word
at_real = (kinds.Word, codes "AT", (refl, word_each (codes "T") refl), refl)

pub end_real : IsSymbol end_word
end_real = (kinds.Word, codes "ENDEDIT", (refl, word_each (codes "NDEDIT") refl), refl)

pub semicolon_real : IsSymbol semicolon
semicolon_real = (kinds.Semicolon, 59 ∷ [], refl, refl)

pub opening_real : IsSymbol opening
opening_real = (kinds.Open, 40 ∷ [], refl, refl)

pub zero_real : IsSymbol (value kinds.Int (48 ∷ []))
zero_real = (kinds.Int, 48 ∷ [], (inl (refl, tt), let h : 1 ≤ 38 = omega arith in h), refl)

-- the end of an edit
abbrev pub ended : List Symbol
ended = end_word ∷ semicolon ∷ []

pub ended_real : AllByRecursion IsSymbol ended
ended_real = (end_real, (semicolon_real, tt))

pub le_or : (n m : ℕ) → (n ≤ m) ⊎ (m < n)
le_or n m = by_test (nat_lt m n) refl
  where
    by_test : (b : Bool) → nat_lt m n ≡ b → (n ≤ m) ⊎ (m < n)
    by_test true e = inr (above m n e)
    by_test false e = inl (not_above m n e)

-- ---- a front of instances

-- As many instances are enough to end a front as have their own names in it.
pub record Trimmed (f : List Symbol) : Type 0 where
  pub items : List InstanceTree
  pub more : List Symbol
  pub real : AllByRecursion IsSymbol more
  pub grammar : AllByRecursion IsInstance items
  pub spells : f ++ more ≡ spell_all spell_instance items []
  pub few : length items ≤ length (list_numbers f)

trimmed : (items : List InstanceTree) (f more : List Symbol) → AllByRecursion IsSymbol more → AllByRecursion IsInstance items → f ++ more ≡ spell_all spell_instance items [] → Trimmed f
trimmed items [] more real ok e = record { items = []; more = []; real = tt; grammar = tt; spells = refl; few = omega arith }
trimmed [] (s ∷ f) more real ok e = absurd cc
trimmed (i ∷ items) (s ∷ f) more real ok e =
    let one : List Symbol = spell_instance i [] in
    let whole : (s ∷ f) ++ more ≡ one ++ spell_all spell_instance items [] = e ∙ longer_instance i [] (spell_all spell_instance items []) in
    by_length (λ rest h. trimmed items rest more real ok.1 h) whole (le_or (length (spell_all spell_instance items [])) (length more))
  where
    first : s ≡ name i.number
    first = cc

    by_length : ((rest : List Symbol) → rest ++ more ≡ spell_all spell_instance items [] → Trimmed rest) → (s ∷ f) ++ more ≡ spell_instance i [] ++ spell_all spell_instance items []
        → (length (spell_all spell_instance items []) ≤ length more) ⊎ (length more < length (spell_all spell_instance items [])) → Trimmed (s ∷ f)
    by_length again whole (inl le) =
        let m = longer_front (spell_instance i []) (spell_all spell_instance items []) (s ∷ f) more (sym whole) le in
        let real_mid : AllByRecursion IsSymbol m.0 = real_front m.0 (spell_all spell_instance items []) (subst (AllByRecursion IsSymbol) m.2 real) in
        let some : 1 ≤ length (list_numbers (s ∷ f)) = subst (λ (s : Symbol). 1 ≤ length (list_numbers (s ∷ f))) (sym first) (omega arith) in
        record { items = i ∷ []; more = m.0; real = real_mid; grammar = (ok.0, tt); spells = sym m.1; few = some }
    by_length again whole (inr lt) =
        let m = longer_front (s ∷ f) more (spell_instance i []) (spell_all spell_instance items []) whole (omega arith) in
        let t = again m.0 (sym m.2) in
        let numbers : list_numbers (s ∷ f) ≡ i.number ∷ list_numbers m.0 = ap list_numbers (m.1 ∙ sym (longer_instance i [] m.0)) ∙ instances_numbers (i ∷ []) m.0 in
        let many = t.few in
        let long : length (list_numbers (s ∷ f)) ≡ suc (length (list_numbers m.0)) = ap length numbers in
        record {
          items = i ∷ t.items;
          more = t.more;
          real = t.real;
          grammar = (ok.0, t.grammar);
          spells = ap (λ (ss : List Symbol). ss ++ t.more) m.1 ∙ append_assoc (spell_instance i []) m.0 t.more ∙ ap (λ (ss : List Symbol). spell_instance i [] ++ ss) t.spells
              ∙ sym (longer_instance i [] (spell_all spell_instance t.items []));
          few = omega arith;
        }

pub trim : (f : List Symbol) → Begins AreInstances f → Trimmed f
trim f b = let w = b.2 in trimmed w.0 f b.0 b.1 w.1 w.2

-- A front of instances does not reach past the end of an edit.
pub not_past : (front : List Symbol) → Begins AreInstances front → (items : List InstanceTree) (more : List Symbol) → front ≡ spell_all spell_instance items [] ++ end_word ∷ more → ⊥
not_past front b items more e =
    let w = b.2 in
    let long : spell_all spell_instance items (end_word ∷ (more ++ b.0)) ≡ spell_all spell_instance w.0 []
    = longer_instances items [] (end_word ∷ (more ++ b.0)) ∙ sym (append_assoc (spell_all spell_instance items []) (end_word ∷ more) b.0) ∙ ap (λ (ss : List Symbol). ss ++ b.0) (sym e) ∙ w.2 in
    let h = same_instances items w.0 (end_word ∷ (more ++ b.0)) [] tt tt long in
    let none : end_word ∷ (more ++ b.0) ≡ [] = h.1 in
    absurd cc

-- a symbol behind a front of instances is one of the edit's instances
pub record Inside (front : List Symbol) (s : Symbol) (m : List Symbol) (items : List InstanceTree) (rest : List Symbol) : Type 0 where
  pub mid : List Symbol
  pub whole : spell_all spell_instance items [] ≡ front ++ s ∷ mid
  pub left : m ≡ mid ++ end_word ∷ rest

-- or the edit ends there
pub record AtEnd (front : List Symbol) (s : Symbol) (items : List InstanceTree) : Type 0 where
  pub whole : front ≡ spell_all spell_instance items []
  pub is : s ≡ end_word

pub meets : (front : List Symbol) (s : Symbol) (m : List Symbol) (items : List InstanceTree) (rest : List Symbol) → Begins AreInstances front → front ++ s ∷ m ≡ spell_all spell_instance items (end_word ∷ rest)
    → Inside front s m items rest ⊎ AtEnd front s items
meets front s m items rest b e = by_length (le_or (length (s ∷ m)) (length (end_word ∷ rest)))
  where
    both : front ++ s ∷ m ≡ spell_all spell_instance items [] ++ end_word ∷ rest
    both = e ∙ longer_instances items [] (end_word ∷ rest)

    ends_there : (mid : List Symbol) → front ≡ spell_all spell_instance items [] ++ mid → end_word ∷ rest ≡ mid ++ s ∷ m → Inside front s m items rest ⊎ AtEnd front s items
    ends_there [] f h = inr (record { whole = f ∙ append-nil (spell_all spell_instance items []); is = cc })
    ends_there (u ∷ mid) f h =
        let same : u ≡ end_word = cc in
        absurd (not_past front b items mid (subst (λ (u : Symbol). front ≡ spell_all spell_instance items [] ++ u ∷ mid) same f))

    goes_on : (mid : List Symbol) → spell_all spell_instance items [] ≡ front ++ mid → s ∷ m ≡ mid ++ end_word ∷ rest → length (end_word ∷ rest) < length (s ∷ m) → Inside front s m items rest ⊎ AtEnd front s items
    goes_on [] f h lt = let same = ap length h in absurd (omega arith)
    goes_on (u ∷ mid) f h lt =
        let same : u ≡ s = cc in
        inl (record { mid = mid; whole = subst (λ (u : Symbol). spell_all spell_instance items [] ≡ front ++ u ∷ mid) same f; left = cc })

    by_length : (length (s ∷ m) ≤ length (end_word ∷ rest)) ⊎ (length (end_word ∷ rest) < length (s ∷ m)) → Inside front s m items rest ⊎ AtEnd front s items
    by_length (inl le) = let k = longer_front front (s ∷ m) (spell_all spell_instance items []) (end_word ∷ rest) both le in ends_there k.0 k.1 k.2
    by_length (inr lt) = let k = longer_front (spell_all spell_instance items []) (end_word ∷ rest) front (s ∷ m) (sym both) (omega arith) in goes_on k.0 k.1 k.2 lt

-- ---- an edit that begins with these digits

module _ (digits : List ℕ) where
  abbrev pub headed : List Symbol → List Symbol
  headed r = edit_word ∷ at_word ∷ value kinds.Int digits ∷ semicolon ∷ r

  -- What a script says behind such a head.
  pub record Opened (r : List Symbol) (xs : List EditTree) : Type 0 where
    pub edit : EditTree
    pub others : List EditTree
    pub is : xs ≡ edit ∷ others
    pub grammar : IsEdit edit
    pub spells : r ≡ spell_all spell_instance edit.items (end_word ∷ semicolon ∷ spell_all spell_edit others [])

  pub opened : (r : List Symbol) (xs : List EditTree) → AllByRecursion IsEdit xs → headed r ≡ spell_all spell_edit xs [] → Opened r xs
  opened r [] ok e = absurd cc
  opened r (x ∷ xs) ok e = record { edit = x; others = xs; is = refl; grammar = ok.0; spells = cc }

  module _ (is : IsTrue (is_moment digits)) where
    abbrev one : List InstanceTree → EditTree
    one items = record { digits = digits; items = items }

    one_spelled : (items : List InstanceTree) (f more : List Symbol) → f ++ more ≡ spell_all spell_instance items [] → headed f ++ (more ++ ended) ≡ spell_all spell_edit (one items ∷ []) []
    one_spelled items f more e = ap headed (sym (append_assoc f more ended) ∙ ap (λ (ss : List Symbol). ss ++ ended) e ∙ sym (longer_instances items [] ended))

    one_edit : (items : List InstanceTree) → AllByRecursion IsInstance items → IsEdit (one items)
    one_edit items ok = record { moment = is; items = ok }

    pub begins_headed : (f : List Symbol) → Begins AreInstances f → Begins IsScript (headed f)
    begins_headed f b =
        let w = b.2 in
        (b.0 ++ ended, real_append b.0 ended b.1 ended_real, (one w.0 ∷ [], (one_edit w.0 w.1, tt), one_spelled w.0 f b.0 w.2))

    pub few_headed : (most : ℕ) (f : List Symbol) → 0 < most → Begins AreInstances f → length (list_numbers f) ≤ 1000 → Begins (IsFewScript most) (headed f)
    few_headed most f some b few =
        let t = trim f b in
        let less = t.few in
        let enough : length t.items ≤ 1000 = omega arith in
        (t.more ++ ended, real_append t.more ended t.real ended_real, (one t.items ∷ [], (one_edit t.items t.grammar, tt), record { edits = omega arith; items = (enough, tt) }, one_spelled t.items f t.more t.spells))
