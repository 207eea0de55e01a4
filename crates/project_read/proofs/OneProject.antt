-- Bytes hold one project at most, and none where they are refused.
use Rattle.std.proofs.Common.{◌≡◌, ◌∙◌, Bool, true, false, ℕ, ◌<◌, ◌≤◌, List, [], ◌∷◌, map, length, Option, Some, None, Result, Ok, Err, refl, ap, sym, subst, arith, IsTrue, inl, inr}
use Rattle.std.proofs.Props.{props}
use Rattle.std.specs.Prelude.{is_ok, nat_lt, ◌⊎◌}
use Rattle.std.proofs.lemmas.Bool.Decides.{nat_tests}
use Rattle.std.specs.List.{list_all}
use Rattle.p21_lex.specs.declared.error.LexErr.TheVariants as lexes
use Rattle.p21_parse.specs.declared.error.ReadErr.{ReadErr}
use Rattle.p21_parse.specs.declared.error.ReadErr.TheVariants as reads
use Rattle.p21_parse.specs.Tree.{ExchangeTree}
use Rattle.p21_parse.specs.Text.{IsText, IsRefusedText}
use Rattle.entity_types.specs.declared.entity.Entity.{Entity}
use Rattle.entity_types.specs.Fits.{fields_fit}
use Rattle.entity_read.specs.declared.error.TypeErr.{TypeErr}
use Rattle.entity_read.specs.Typed.{EntityTree, entity_of}
use Rattle.project_store.specs.Entities.{entity_at}
use Rattle.path_blocks.specs.declared.def.Def.{Def}
use Rattle.step_def.specs.DefOf.{def_of}
use Rattle.project_store.specs.declared.error.StoreErr.{StoreErr}
use Rattle.project_store.specs.Build.{fault_of}
use Rattle.step_def.specs.declared.fault.DefFault.{DefFault}
use Rattle.project_read.specs.declared.reason.ProjectReason.{ProjectReason}
use Rattle.project_read.specs.declared.reason.ProjectReason.TheVariants as reasons
use Rattle.project_read.specs.Typing.{all_typed}
use Rattle.exec_tree.specs.declared.error.TreeErr.{TreeErr}
use Rattle.exec_tree.specs.TreeFault.{first_tree_fault}
use Rattle.exec_tree.specs.Built.{main_of, steps_of}
use Rattle.edit_rules.specs.Faults.{has_def, IsLeastFault}
use Rattle.project_read.specs.Holds.{Project, HasExchange, HasEntities, HasStore, HasTree, Holds}
use Rattle.project_read.specs.Refuses.{Refuses}
use Rattle.edit_rules.proofs.FaultLemmas.{each}
use Rattle.project_read.specs.declared.limits.TheConstants.{MAX_PROJECT_BYTES}

is_test : (b : Bool) (p q : IsTrue b) → p ≡ q
is_test b p q = let set : IsProp (IsTrue b) = hlevel props in set p q

abbrev with_fit : (t : EntityTree) → IsTrue (fields_fit t.class t.fields) → Entity
with_fit t p = record { number = t.number; class = t.class; fields = t.fields; fit = p }

whole : (a : Entity) (p : IsTrue (fields_fit a.class a.fields)) → a ≡ with_fit (entity_of a) p
whole a p = ap (with_fit (entity_of a)) (is_test _ a.fit p)

same_entity : (a b : Entity) → entity_of a ≡ entity_of b → a ≡ b
same_entity a b e = subst (λ (t : EntityTree). (p : IsTrue (fields_fit t.class t.fields)) → a ≡ with_fit t p) e (whole a) b.fit

abbrev trees : List EntityTree → List EntityTree
trees ts = ts

heads : (t u : EntityTree) (ts us : List EntityTree) → trees (t ∷ ts) ≡ trees (u ∷ us) → t ≡ u
heads t u ts us e = cc

tails : (t u : EntityTree) (ts us : List EntityTree) → trees (t ∷ ts) ≡ trees (u ∷ us) → ts ≡ us
tails t u ts us e = cc

same_entities : (xs ys : List Entity) → map entity_of xs ≡ map entity_of ys → xs ≡ ys
same_entities [] [] e = refl
same_entities [] (y ∷ ys) e = absurd (cc)
same_entities (x ∷ xs) [] e = absurd (cc)
same_entities (x ∷ xs) (y ∷ ys) e =
    ap (λ (z : Entity). z ∷ xs) (same_entity x y (heads (entity_of x) (entity_of y) (map entity_of xs) (map entity_of ys) e))
    ∙ ap (λ (zs : List Entity). y ∷ zs) (same_entities xs ys (tails (entity_of x) (entity_of y) (map entity_of xs) (map entity_of ys) e))

abbrev done : List EntityTree → Result (List EntityTree) TypeErr
done ts = Ok ts

ok_same : (ts us : List EntityTree) → done ts ≡ done us → ts ≡ us
ok_same ts us e = cc

abbrev One : Type 0
One = (bytes : List ℕ) (x y : ExchangeTree) → IsText bytes x → IsText bytes y → x ≡ y

-- bytes have one list of entities
one_list : One → (bytes : List ℕ) (xs ys : List Entity) → HasEntities bytes xs → HasEntities bytes ys → xs ≡ ys
one_list one bytes xs ys h k =
    let same : h.exchange ≡ k.exchange = one bytes h.exchange k.exchange h.has.spelled k.has.spelled in
    same_entities xs ys (ok_same (map entity_of xs) (map entity_of ys) (sym h.typed ∙ ap (λ (x : ExchangeTree). all_typed x.items) same ∙ k.typed))

-- bytes have one project up to its tree
one_tree : One → (bytes : List ℕ) (p q : Project) → HasTree bytes p → HasTree bytes q → p ≡ q
one_tree one bytes p q h k =
    let es : p.entities ≡ q.entities = one_list one bytes p.entities q.entities h.has.has k.has.has in
    let main : p.main ≡ q.main = h.main_is ∙ ap main_of es ∙ sym k.main_is in
    let steps : p.steps ≡ q.steps = h.steps_are ∙ ap (λ (xs : List Entity). steps_of (entity_at xs) p.main) es ∙ ap (λ (n : ℕ). steps_of (entity_at q.entities) n) main ∙ sym k.steps_are in
    ap (λ (xs : List Entity). record { entities = xs; main = p.main; steps = p.steps }) es
    ∙ ap (λ (n : ℕ). record { entities = q.entities; main = n; steps = p.steps }) main
    ∙ ap (λ (ns : List ℕ). record { entities = q.entities; main = q.main; steps = ns }) steps

pub one_project : One → (bytes : List ℕ) (p q : Project) → Holds bytes p → Holds bytes q → p ≡ q
one_project one bytes p q h k = one_tree one bytes p q h.has k.has

abbrev Apart : Type 0
Apart = (bytes : List ℕ) (x : ExchangeTree) (e : ReadErr) → IsText bytes x → IsRefusedText bytes e → e ≡ reads.NoMemory

text_of : (bytes : List ℕ) (p : Project) → Holds bytes p → (x : ExchangeTree) × IsText bytes x
text_of bytes p h = (h.has.has.has.exchange, h.has.has.has.has.spelled)

no_fault : Apart → (bytes : List ℕ) (p : Project) (e : ReadErr) → Holds bytes p → IsRefusedText bytes e → e ≡ reads.NoMemory
no_fault apart bytes p e h r = let t = text_of bytes p h in apart bytes t.0 e t.1 r

no_typing : One → (bytes : List ℕ) (p : Project) (fault : TypeErr) (x : ExchangeTree) → Holds bytes p → HasExchange bytes x → all_typed x.items ≡ Err fault → ⊥
no_typing one bytes p fault x h k e =
    let t = h.has.has.has in
    let same : t.exchange ≡ x = one bytes t.exchange x t.has.spelled k.spelled in
    let bad : done (map entity_of p.entities) ≡ Err fault = sym t.typed ∙ ap (λ (y : ExchangeTree). all_typed y.items) same ∙ e in
    absurd (cc)

no_build : One → (bytes : List ℕ) (p : Project) (fault : StoreErr) (entities : List Entity) → Holds bytes p → HasEntities bytes entities → fault_of entities ≡ Some fault → ⊥
no_build one bytes p fault entities h k e =
    let same : p.entities ≡ entities = one_list one bytes p.entities entities h.has.has.has k in
    let bad : None ≡ Some fault = sym h.has.has.built ∙ ap fault_of same ∙ e in
    absurd (cc)

no_least : One → (bytes : List ℕ) (p q : Project) (n : ℕ) (fault : DefFault) → Holds bytes p → HasTree bytes q → IsLeastFault q.entities q.steps n fault → ⊥
no_least one bytes p q n fault h k least =
    let same : p ≡ q = one_tree one bytes p q h.has k in
    let all : list_all (has_def q.entities) q.steps ≡ true = subst (λ (r : Project). list_all (has_def r.entities) r.steps ≡ true) same h.defined in
    let has : has_def q.entities n ≡ true = each (has_def q.entities) q.steps n all least.among in
    let not : has_def q.entities n ≡ false = ap is_ok least.faulty in
    let bad : false ≡ true = sym not ∙ has in
    absurd (cc)

abbrev unfit : TreeErr → Option TreeErr
unfit e = Some e

pub no_refusal : One → Apart → (bytes : List ℕ) (p : Project) (reason : ProjectReason) → Holds bytes p → Refuses bytes reason → ⊥
no_refusal one apart bytes p reasons.TooLong h r = let short : length bytes ≤ MAX_PROJECT_BYTES = h.has.has.has.has.short in absurd (omega arith)
no_refusal one apart bytes p (reasons.Read (reads.Lex lexes.NoMemory)) h r = r
no_refusal one apart bytes p (reasons.Read (reads.Lex (lexes.BadByte place))) h r = let e = no_fault apart bytes p (reads.Lex (lexes.BadByte place)) h r.1 in absurd (cc)
no_refusal one apart bytes p (reasons.Read (reads.Lex (lexes.BadName place))) h r = let e = no_fault apart bytes p (reads.Lex (lexes.BadName place)) h r.1 in absurd (cc)
no_refusal one apart bytes p (reasons.Read (reads.Lex (lexes.OpenString place))) h r = let e = no_fault apart bytes p (reads.Lex (lexes.OpenString place)) h r.1 in absurd (cc)
no_refusal one apart bytes p (reasons.Read (reads.Lex (lexes.OpenComment place))) h r = let e = no_fault apart bytes p (reads.Lex (lexes.OpenComment place)) h r.1 in absurd (cc)
no_refusal one apart bytes p (reasons.Read (reads.Lex (lexes.NumberTooLong place))) h r = let e = no_fault apart bytes p (reads.Lex (lexes.NumberTooLong place)) h r.1 in absurd (cc)
no_refusal one apart bytes p (reasons.Read (reads.Syntax place)) h r = let e = no_fault apart bytes p (reads.Syntax place) h r.1 in absurd (cc)
no_refusal one apart bytes p (reasons.Read (reads.TooDeep place)) h r = let e = no_fault apart bytes p (reads.TooDeep place) h r.1 in absurd (cc)
no_refusal one apart bytes p (reasons.Read (reads.TooMany place)) h r = let e = no_fault apart bytes p (reads.TooMany place) h r.1 in absurd (cc)
no_refusal one apart bytes p (reasons.Read (reads.Duplicate number)) h r = let e = no_fault apart bytes p (reads.Duplicate number) h r.1 in absurd (cc)
no_refusal one apart bytes p (reasons.Read reads.NoMemory) h r = r
no_refusal one apart bytes p (reasons.Attribute fault) h r = no_typing one bytes p fault r.0 h r.1 r.2
no_refusal one apart bytes p (reasons.Store fault) h r = no_build one bytes p fault r.0 h r.1 r.2
no_refusal one apart bytes p (reasons.Tree fault) h r =
    let same : p.entities ≡ r.0 = one_list one bytes p.entities r.0 h.has.has.has r.1.has in
    let treed : first_tree_fault (entity_at p.entities) (main_of p.entities) ≡ None = subst (λ (n : ℕ). first_tree_fault (entity_at p.entities) n ≡ None) h.has.main_is h.has.treed in
    let bad : unfit fault ≡ None = sym r.2 ∙ sym (ap (λ (xs : List Entity). first_tree_fault (entity_at xs) (main_of xs)) same) ∙ treed in
    absurd (cc)
no_refusal one apart bytes p (reasons.Definition n fault) h r = no_least one bytes p r.0 n fault h r.1 r.2
no_refusal one apart bytes p (reasons.NoStep n) h r = r

abbrev Single : Type 0
Single = (bytes : List ℕ) (e f : ReadErr) → IsRefusedText bytes e → IsRefusedText bytes f → (e ≡ f) ⊎ ((e ≡ reads.NoMemory) ⊎ (f ≡ reads.NoMemory))

-- a reading fault of short bytes, which is never want of memory
record Said (bytes : List ℕ) (e : ReadErr) : Type 0 where
  short : length bytes ≤ MAX_PROJECT_BYTES
  refused : IsRefusedText bytes e
  real : e ≡ reads.NoMemory → ⊥

said : (bytes : List ℕ) (e : ReadErr) → Refuses bytes (reasons.Read e) → Said bytes e
said bytes (reads.Lex lexes.NoMemory) r = absurd r
said bytes (reads.Lex (lexes.BadByte place)) r = record { short = r.0; refused = r.1; real = λ e. absurd (cc) }
said bytes (reads.Lex (lexes.BadName place)) r = record { short = r.0; refused = r.1; real = λ e. absurd (cc) }
said bytes (reads.Lex (lexes.OpenString place)) r = record { short = r.0; refused = r.1; real = λ e. absurd (cc) }
said bytes (reads.Lex (lexes.OpenComment place)) r = record { short = r.0; refused = r.1; real = λ e. absurd (cc) }
said bytes (reads.Lex (lexes.NumberTooLong place)) r = record { short = r.0; refused = r.1; real = λ e. absurd (cc) }
said bytes (reads.Syntax place) r = record { short = r.0; refused = r.1; real = λ e. absurd (cc) }
said bytes (reads.TooDeep place) r = record { short = r.0; refused = r.1; real = λ e. absurd (cc) }
said bytes (reads.TooMany place) r = record { short = r.0; refused = r.1; real = λ e. absurd (cc) }
said bytes (reads.Duplicate number) r = record { short = r.0; refused = r.1; real = λ e. absurd (cc) }
said bytes reads.NoMemory r = absurd r

too_long : (bytes : List ℕ) → MAX_PROJECT_BYTES < length bytes → length bytes ≤ MAX_PROJECT_BYTES → ⊥
too_long bytes long short = absurd (omega arith)

same_fault : Single → (bytes : List ℕ) (e f : ReadErr) → Said bytes e → Said bytes f → reasons.Read e ≡ reasons.Read f
same_fault single bytes e f h k = elim (single bytes e f h.refused k.refused) [
  | inl same ↦ ap reasons.Read same
  | inr other ↦ elim other [ inl first ↦ absurd (h.real first) | inr second ↦ absurd (k.real second) ]
]

no_text : Apart → (bytes : List ℕ) (e : ReadErr) (x : ExchangeTree) → Said bytes e → HasExchange bytes x → ⊥
no_text apart bytes e x h k = h.real (apart bytes x e k.spelled h.refused)

abbrev failed : TypeErr → Result (List EntityTree) TypeErr
failed e = Err e

same_typing : One → (bytes : List ℕ) (e f : TypeErr) (x y : ExchangeTree) → HasExchange bytes x → all_typed x.items ≡ Err e → HasExchange bytes y → all_typed y.items ≡ Err f → e ≡ f
same_typing one bytes e f x y h p k q =
    let same : x ≡ y = one bytes x y h.spelled k.spelled in
    let both : failed e ≡ failed f = sym p ∙ ap (λ (z : ExchangeTree). all_typed z.items) same ∙ q in
    cc

not_typed : One → (bytes : List ℕ) (e : TypeErr) (x : ExchangeTree) (es : List Entity) → HasExchange bytes x → all_typed x.items ≡ Err e → HasEntities bytes es → ⊥
not_typed one bytes e x es h p k =
    let same : x ≡ k.exchange = one bytes x k.exchange h.spelled k.has.spelled in
    let both : failed e ≡ done (map entity_of es) = sym p ∙ ap (λ (z : ExchangeTree). all_typed z.items) same ∙ k.typed in
    absurd (cc)

abbrev faulty : StoreErr → Option StoreErr
faulty e = Some e

same_store : One → (bytes : List ℕ) (e f : StoreErr) (xs ys : List Entity) → HasEntities bytes xs → fault_of xs ≡ Some e → HasEntities bytes ys → fault_of ys ≡ Some f → e ≡ f
same_store one bytes e f xs ys h p k q =
    let both : faulty e ≡ faulty f = sym p ∙ ap fault_of (one_list one bytes xs ys h k) ∙ q in
    cc

not_built : One → (bytes : List ℕ) (e : StoreErr) (xs ys : List Entity) → HasEntities bytes xs → fault_of xs ≡ Some e → HasStore bytes ys → ⊥
not_built one bytes e xs ys h p k =
    let both : faulty e ≡ None = sym p ∙ ap fault_of (one_list one bytes xs ys h k.has) ∙ k.built in
    absurd (cc)

same_unfit : One → (bytes : List ℕ) (e f : TreeErr) (xs ys : List Entity) → HasStore bytes xs → first_tree_fault (entity_at xs) (main_of xs) ≡ Some e → HasStore bytes ys → first_tree_fault (entity_at ys) (main_of ys) ≡ Some f → e ≡ f
same_unfit one bytes e f xs ys h p k q =
    let both : unfit e ≡ unfit f = sym p ∙ ap (λ (es : List Entity). first_tree_fault (entity_at es) (main_of es)) (one_list one bytes xs ys h.has k.has) ∙ q in
    cc

not_treed : One → (bytes : List ℕ) (e : TreeErr) (xs : List Entity) (q : Project) → HasStore bytes xs → first_tree_fault (entity_at xs) (main_of xs) ≡ Some e → HasTree bytes q → ⊥
not_treed one bytes e xs q h p k =
    let treed : first_tree_fault (entity_at q.entities) (main_of q.entities) ≡ None = subst (λ (n : ℕ). first_tree_fault (entity_at q.entities) n ≡ None) k.main_is k.treed in
    let both : unfit e ≡ None = sym p ∙ ap (λ (es : List Entity). first_tree_fault (entity_at es) (main_of es)) (one_list one bytes xs q.entities h.has k.has.has) ∙ treed in
    absurd (cc)

abbrev broken : DefFault → Result Def DefFault
broken e = Err e

-- of one plan there is one least fault
least_number : (p : Project) (n m : ℕ) (e f : DefFault) → IsLeastFault p.entities p.steps n e → IsLeastFault p.entities p.steps m f → n ≡ m
least_number p n m e f h k = by (nat_lt n m) (nat_lt m n) refl refl
  where
    faulty_n : has_def p.entities n ≡ false
    faulty_n = ap is_ok h.faulty

    faulty_m : has_def p.entities m ≡ false
    faulty_m = ap is_ok k.faulty

    by : (a b : Bool) → nat_lt n m ≡ a → nat_lt m n ≡ b → n ≡ m
    by true b x y = let lt : n < m = grind (arith, nat_tests) in let has = k.least n h.among lt in let bad : false ≡ true = sym faulty_n ∙ has in absurd (cc)
    by false true x y = let lt : m < n = grind (arith, nat_tests) in let has = h.least m k.among lt in let bad : false ≡ true = sym faulty_m ∙ has in absurd (cc)
    by false false x y = grind (arith, nat_tests)

least_fault : (p : Project) (n m : ℕ) (e f : DefFault) → IsLeastFault p.entities p.steps n e → IsLeastFault p.entities p.steps m f → reasons.Definition n e ≡ reasons.Definition m f
least_fault p n m e f h k =
    let number : n ≡ m = least_number p n m e f h k in
    let both : broken e ≡ broken f = sym h.faulty ∙ ap (def_of (entity_at p.entities)) number ∙ k.faulty in
    let fault : e ≡ f = cc in
    ap (λ (i : ℕ). reasons.Definition i e) number ∙ ap (reasons.Definition m) fault

same_least : One → (bytes : List ℕ) (p q : Project) (n m : ℕ) (e f : DefFault) → HasTree bytes p → IsLeastFault p.entities p.steps n e → HasTree bytes q → IsLeastFault q.entities q.steps m f → reasons.Definition n e ≡ reasons.Definition m f
same_least one bytes p q n m e f h x k y =
    least_fault p n m e f x (subst (λ (r : Project). IsLeastFault r.entities r.steps m f) (one_tree one bytes q p k h) y)

pub one_refusal : One → Apart → Single → (bytes : List ℕ) (r s : ProjectReason) → Refuses bytes r → Refuses bytes s → r ≡ s
one_refusal one apart single bytes reasons.TooLong reasons.TooLong h k = refl
one_refusal one apart single bytes reasons.TooLong (reasons.Read e) h k = absurd (too_long bytes h (said bytes e k).short)
one_refusal one apart single bytes reasons.TooLong (reasons.Attribute e) h k = absurd (too_long bytes h k.1.short)
one_refusal one apart single bytes reasons.TooLong (reasons.Store e) h k = absurd (too_long bytes h k.1.has.short)
one_refusal one apart single bytes reasons.TooLong (reasons.Tree f) h k = absurd (too_long bytes h k.1.has.has.short)
one_refusal one apart single bytes reasons.TooLong (reasons.Definition n e) h k = absurd (too_long bytes h k.1.has.has.has.short)
one_refusal one apart single bytes reasons.TooLong (reasons.NoStep n) h k = absurd k
one_refusal one apart single bytes (reasons.Read e) reasons.TooLong h k = absurd (too_long bytes k (said bytes e h).short)
one_refusal one apart single bytes (reasons.Read e) (reasons.Read f) h k = same_fault single bytes e f (said bytes e h) (said bytes f k)
one_refusal one apart single bytes (reasons.Read e) (reasons.Attribute f) h k = absurd (no_text apart bytes e k.0 (said bytes e h) k.1)
one_refusal one apart single bytes (reasons.Read e) (reasons.Store f) h k = absurd (no_text apart bytes e k.1.exchange (said bytes e h) k.1.has)
one_refusal one apart single bytes (reasons.Read e) (reasons.Tree f) h k = absurd (no_text apart bytes e k.1.has.exchange (said bytes e h) k.1.has.has)
one_refusal one apart single bytes (reasons.Read e) (reasons.Definition n f) h k = absurd (no_text apart bytes e k.1.has.has.exchange (said bytes e h) k.1.has.has.has)
one_refusal one apart single bytes (reasons.Read e) (reasons.NoStep n) h k = absurd k
one_refusal one apart single bytes (reasons.Attribute e) reasons.TooLong h k = absurd (too_long bytes k h.1.short)
one_refusal one apart single bytes (reasons.Attribute e) (reasons.Read f) h k = absurd (no_text apart bytes f h.0 (said bytes f k) h.1)
one_refusal one apart single bytes (reasons.Attribute e) (reasons.Attribute f) h k = ap reasons.Attribute (same_typing one bytes e f h.0 k.0 h.1 h.2 k.1 k.2)
one_refusal one apart single bytes (reasons.Attribute e) (reasons.Store f) h k = absurd (not_typed one bytes e h.0 k.0 h.1 h.2 k.1)
one_refusal one apart single bytes (reasons.Attribute e) (reasons.Tree f) h k = absurd (not_typed one bytes e h.0 k.0 h.1 h.2 k.1.has)
one_refusal one apart single bytes (reasons.Attribute e) (reasons.Definition n f) h k = absurd (not_typed one bytes e h.0 k.0.entities h.1 h.2 k.1.has.has)
one_refusal one apart single bytes (reasons.Attribute e) (reasons.NoStep n) h k = absurd k
one_refusal one apart single bytes (reasons.Store e) reasons.TooLong h k = absurd (too_long bytes k h.1.has.short)
one_refusal one apart single bytes (reasons.Store e) (reasons.Read f) h k = absurd (no_text apart bytes f h.1.exchange (said bytes f k) h.1.has)
one_refusal one apart single bytes (reasons.Store e) (reasons.Attribute f) h k = absurd (not_typed one bytes f k.0 h.0 k.1 k.2 h.1)
one_refusal one apart single bytes (reasons.Store e) (reasons.Store f) h k = ap reasons.Store (same_store one bytes e f h.0 k.0 h.1 h.2 k.1 k.2)
one_refusal one apart single bytes (reasons.Store e) (reasons.Tree f) h k = absurd (not_built one bytes e h.0 k.0 h.1 h.2 k.1)
one_refusal one apart single bytes (reasons.Store e) (reasons.Definition n f) h k = absurd (not_built one bytes e h.0 k.0.entities h.1 h.2 k.1.has)
one_refusal one apart single bytes (reasons.Store e) (reasons.NoStep n) h k = absurd k
one_refusal one apart single bytes (reasons.Tree e) reasons.TooLong h k = absurd (too_long bytes k h.1.has.has.short)
one_refusal one apart single bytes (reasons.Tree e) (reasons.Read f) h k = absurd (no_text apart bytes f h.1.has.exchange (said bytes f k) h.1.has.has)
one_refusal one apart single bytes (reasons.Tree e) (reasons.Attribute f) h k = absurd (not_typed one bytes f k.0 h.0 k.1 k.2 h.1.has)
one_refusal one apart single bytes (reasons.Tree e) (reasons.Store f) h k = absurd (not_built one bytes f k.0 h.0 k.1 k.2 h.1)
one_refusal one apart single bytes (reasons.Tree e) (reasons.Tree f) h k = ap reasons.Tree (same_unfit one bytes e f h.0 k.0 h.1 h.2 k.1 k.2)
one_refusal one apart single bytes (reasons.Tree e) (reasons.Definition n f) h k = absurd (not_treed one bytes e h.0 k.0 h.1 h.2 k.1)
one_refusal one apart single bytes (reasons.Tree e) (reasons.NoStep n) h k = absurd k
one_refusal one apart single bytes (reasons.Definition n e) reasons.TooLong h k = absurd (too_long bytes k h.1.has.has.has.short)
one_refusal one apart single bytes (reasons.Definition n e) (reasons.Read f) h k = absurd (no_text apart bytes f h.1.has.has.exchange (said bytes f k) h.1.has.has.has)
one_refusal one apart single bytes (reasons.Definition n e) (reasons.Attribute f) h k = absurd (not_typed one bytes f k.0 h.0.entities k.1 k.2 h.1.has.has)
one_refusal one apart single bytes (reasons.Definition n e) (reasons.Store f) h k = absurd (not_built one bytes f k.0 h.0.entities k.1 k.2 h.1.has)
one_refusal one apart single bytes (reasons.Definition n e) (reasons.Tree f) h k = absurd (not_treed one bytes f k.0 h.0 k.1 k.2 h.1)
one_refusal one apart single bytes (reasons.Definition n e) (reasons.Definition m f) h k = same_least one bytes h.0 k.0 n m e f h.1 h.2 k.1 k.2
one_refusal one apart single bytes (reasons.Definition n e) (reasons.NoStep m) h k = absurd k
one_refusal one apart single bytes (reasons.NoStep n) s h k = absurd h
