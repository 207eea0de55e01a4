-- The first file of a name, and what becomes of the others where one is replaced.
use Rattle.std.proofs.Common.{◌≡◌, ℕ, zero, suc, ◌+◌, ◌<◌, ◌≤◌, ◌^◌, min, Bool, true, false, cond, ◌&&◌, ◌||◌, List, [], ◌∷◌, ◌++◌, take, Option, Some, None, refl, sym, ap, ◌∙◌, add-one, arith}
use Rattle.std.proofs.lemmas.Bool.Decides.{nat_tests}
use Rattle.std.specs.Prelude.{slice_get, slice_set, IsSomeAnd, unwrap_or, is_none}
use Rattle.std.specs.Option.{option_map}
use Rattle.std.specs.Str.{bytes_eq}
use Rattle.std.proofs.lemmas.Slice.Eq.{bytes_eq-Decides}
use Rattle.nc_outside.specs.Outside.{Rose}
use Rattle.nc_outside.specs.declared.memory_files.MemoryFile.{MemoryFile}
use Rattle.nc_outside.specs.MemoryState.{file_named, held, faults_in, one_more, share_a_count, IsFirst, Gives, CountsFault}

no_way : true ≡ false → ⊥
no_way e = absurd (cc)

same_bytes : (xs ys : List ℕ) → bytes_eq xs ys ≡ true → xs ≡ ys
same_bytes xs ys e = (bytes_eq-Decides xs ys).0 e

-- by cases on the test
choose : (b : Bool) (f : MemoryFile) (o : Option MemoryFile) → cond b (Some f) o ≡ None → (b ≡ false) × (o ≡ None)
choose true f o e = absurd (cc)
choose false f o e = (refl, e)

-- two tests of which one holds at most can be made in either order
swap_tests : (b d : Bool) (x g : MemoryFile) (o : Option MemoryFile) → (b ≡ true → d ≡ true → ⊥) → cond b (Some x) (cond d (Some g) o) ≡ cond d (Some g) (cond b (Some x) o)
swap_tests true true x g o apart = absurd (apart refl refl)
swap_tests true false x g o apart = refl
swap_tests false d x g o apart = refl

test_twice : (b c d : Bool) (x g : MemoryFile) (o : Option MemoryFile) → b ≡ d → c ≡ d → cond b (Some g) o ≡ cond d (Some g) (cond c (Some x) o)
test_twice b c true x g o p q = rw p refl
test_twice b c false x g o p q = rw (p, q) refl

past : (x : MemoryFile) (name : List ℕ) (n : List ℕ) → bytes_eq x.name name ≡ false → bytes_eq x.name n ≡ true → bytes_eq name n ≡ true → ⊥
past x name n differ p q =
    let e : x.name ≡ name = same_bytes x.name n p ∙ sym (same_bytes name n q) in
    no_way (sym ((bytes_eq-Decides x.name name).1 e) ∙ differ)

pub replaced : (fs : List MemoryFile) (i : ℕ) (name : List ℕ) (g : MemoryFile) → file_named (take i fs) name ≡ None → IsSomeAnd (slice_get fs i) (λ (f : MemoryFile). f.name ≡ name) → g.name ≡ name
    → (n : List ℕ) → file_named (slice_set fs i g) n ≡ cond (bytes_eq name n) (Some g) (file_named fs n)
replaced [] i name g before here same n = absurd here
replaced (x ∷ xs) zero name g before here same n =
    let e : x.name ≡ name = here in
    test_twice (bytes_eq g.name n) (bytes_eq x.name n) (bytes_eq name n) x g (file_named xs n) (ap (λ (m : List ℕ). bytes_eq m n) same) (ap (λ (m : List ℕ). bytes_eq m n) e)
replaced (x ∷ xs) (suc i) name g before here same n =
    let c = choose (bytes_eq x.name name) x (file_named (take i xs) name) before in
    rw (replaced xs i name g c.1 here same n) (swap_tests (bytes_eq x.name n) (bytes_eq name n) x g (file_named xs n) (past x name n c.0))

-- the first file of the name is what is found
first_is : (fs : List MemoryFile) (i : ℕ) (name : List ℕ) (f : MemoryFile) → file_named (take i fs) name ≡ None → slice_get fs i ≡ Some f → f.name ≡ name → file_named fs name ≡ Some f
first_is [] i name f before here same = absurd (cc)
first_is (x ∷ xs) zero name f before here same =
    let e : x ≡ f = cc in
    let t : bytes_eq x.name name ≡ true = (bytes_eq-Decides x.name name).1 (ap (λ (y : MemoryFile). y.name) e ∙ same) in
    rw (t, e) refl
first_is (x ∷ xs) (suc i) name f before here same =
    let c = choose (bytes_eq x.name name) x (file_named (take i xs) name) before in
    rw c.0 (first_is xs i name f c.1 here same)

bytes_chosen : (b : Bool) (g : MemoryFile) (o : Option MemoryFile) → option_map (λ (f : MemoryFile). f.bytes.items) (cond b (Some g) o) ≡ cond b (Some g.bytes.items) (option_map (λ (f : MemoryFile). f.bytes.items) o)
bytes_chosen true g o = refl
bytes_chosen false g o = refl

bytes_kept : (b : Bool) (f g : MemoryFile) (o : Option MemoryFile) → g.bytes.items ≡ f.bytes.items → (b ≡ true → o ≡ Some f)
    → option_map (λ (f : MemoryFile). f.bytes.items) (cond b (Some g) o) ≡ option_map (λ (f : MemoryFile). f.bytes.items) o
bytes_kept true f g o same is = rw (is refl, same) refl
bytes_kept false f g o same is = refl

faults_kept : (b : Bool) (f g : MemoryFile) (o : Option MemoryFile) → g.faults ≡ f.faults → (b ≡ true → o ≡ Some f)
    → option_map (λ (f : MemoryFile). f.faults) (cond b (Some g) o) ≡ option_map (λ (f : MemoryFile). f.faults) o
faults_kept true f g o same is = rw (is refl, same) refl
faults_kept false f g o same is = refl

faults_raised : (b : Bool) (f g : MemoryFile) (o : Option MemoryFile) → g.faults ≡ one_more f.faults → (b ≡ true → o ≡ Some f)
    → option_map (λ (f : MemoryFile). f.faults) (cond b (Some g) o) ≡ cond b (option_map one_more (option_map (λ (f : MemoryFile). f.faults) o)) (option_map (λ (f : MemoryFile). f.faults) o)
faults_raised true f g o same is = rw (is refl, same) refl
faults_raised false f g o same is = refl

named_here : (o : Option MemoryFile) (f : MemoryFile) (name : List ℕ) → o ≡ Some f → IsSomeAnd o (λ (f : MemoryFile). f.name ≡ name) → f.name ≡ name
named_here None f name e here = absurd here
named_here (Some g) f name e here = let same : g ≡ f = cc in ap (λ (y : MemoryFile). y.name) (sym same) ∙ here

is_found : (fs : List MemoryFile) (i : ℕ) (name : List ℕ) (f : MemoryFile) → IsFirst fs name i → slice_get fs i ≡ Some f → (n : List ℕ) → bytes_eq name n ≡ true → file_named fs n ≡ Some f
is_found fs i name f first at n t = rw (← same_bytes name n t) (first_is fs i name f first.none_before at (named_here (slice_get fs i) f name at first.here))

pub gives_bytes : (fs : List MemoryFile) (i : ℕ) (f g : MemoryFile) (bytes : List ℕ) → slice_get fs i ≡ Some f → g.name ≡ f.name → g.faults ≡ f.faults → g.bytes.items ≡ bytes
    → (name : List ℕ) → IsFirst fs name i → Gives fs (slice_set fs i g) name bytes
gives_bytes fs i f g bytes at same_name same_faults is name first n =
    let named : g.name ≡ name = same_name ∙ named_here (slice_get fs i) f name at first.here in
    let step = replaced fs i name g first.none_before first.here named n in (
      rw (step, ← is) (bytes_chosen (bytes_eq name n) g (file_named fs n)),
      rw step (faults_kept (bytes_eq name n) f g (file_named fs n) same_faults (is_found fs i name f first at n)),
    )

pub counts_fault : (fs : List MemoryFile) (i : ℕ) (f g : MemoryFile) → slice_get fs i ≡ Some f → g.name ≡ f.name → g.bytes.items ≡ f.bytes.items → g.faults ≡ one_more f.faults
    → (name : List ℕ) → IsFirst fs name i → CountsFault fs (slice_set fs i g) name
counts_fault fs i f g at same_name same_bytes_of raised name first n =
    let named : g.name ≡ name = same_name ∙ named_here (slice_get fs i) f name at first.here in
    let step = replaced fs i name g first.none_before first.here named n in (
      rw step (bytes_kept (bytes_eq name n) f g (file_named fs n) same_bytes_of (is_found fs i name f first at n)),
      rw step (faults_raised (bytes_eq name n) f g (file_named fs n) raised (is_found fs i name f first at n)),
    )

-- one more file was looked at, and has another name
pub none_yet : (fs : List MemoryFile) (i : ℕ) (f : MemoryFile) (name : List ℕ) → slice_get fs i ≡ Some f → bytes_eq f.name name ≡ false → file_named (take i fs) name ≡ None → file_named (take (i + 1) fs) name ≡ None
none_yet fs i f name at differ before = rw add-one (later fs i f name at differ before)
  where
    later : (fs : List MemoryFile) (i : ℕ) (f : MemoryFile) (name : List ℕ) → slice_get fs i ≡ Some f → bytes_eq f.name name ≡ false → file_named (take i fs) name ≡ None → file_named (take (suc i) fs) name ≡ None
    later [] i f name at differ before = absurd (cc)
    later (x ∷ xs) zero f name at differ before = let e : x ≡ f = cc in rw (e, differ) refl
    later (x ∷ xs) (suc i) f name at differ before =
        let c = choose (bytes_eq x.name name) x (file_named (take i xs) name) before in
        rw c.0 (later xs i f name at differ c.1)

pub named_at : (o : Option MemoryFile) (f : MemoryFile) (name : List ℕ) → o ≡ Some f → bytes_eq f.name name ≡ true → IsSomeAnd o (λ (f : MemoryFile). f.name ≡ name)
named_at o f name e t = rw e (same_bytes f.name name t)

-- the file at the first place is there, and is what the name finds
is_there : (fs : List MemoryFile) (i : ℕ) (name : List ℕ) (o : Option MemoryFile) → file_named (take i fs) name ≡ None → slice_get fs i ≡ o → IsSomeAnd o (λ (f : MemoryFile). f.name ≡ name) → (f : MemoryFile) × (file_named fs name ≡ Some f)
is_there fs i name None before at here = absurd here
is_there fs i name (Some f) before at here = (f, first_is fs i name f before at here)

pub held_here : (fs : List MemoryFile) (i : ℕ) (name : List ℕ) (f : MemoryFile) → IsFirst fs name i → slice_get fs i ≡ Some f → held fs name ≡ Some f.bytes.items
held_here fs i name f first at = rw (first_is fs i name f first.none_before at (named_here (slice_get fs i) f name at first.here)) refl

one_more_le : (n : ℕ) → n ≤ one_more n
one_more_le n = grind (arith, nat_tests)

one_more_rose : (n : ℕ) → Rose n (one_more n)
one_more_rose n = grind (arith, nat_tests)

raised_le : (b : Bool) (o : Option ℕ) (d : ℕ) → unwrap_or o d ≤ unwrap_or (cond b (option_map one_more o) o) d
raised_le true None d = omega arith
raised_le true (Some n) d = one_more_le n
raised_le false o d = omega arith

pub fault_counted : (old new : List MemoryFile) (name : List ℕ) (absent : ℕ) → CountsFault old new name → (n : List ℕ) → unwrap_or (faults_in old n) absent ≤ unwrap_or (faults_in new n) absent
fault_counted old new name absent counts n = rw (counts n).1 (raised_le (bytes_eq name n) (faults_in old n) absent)

pub fault_rose : (old new : List MemoryFile) (i : ℕ) (name : List ℕ) (absent : ℕ) → CountsFault old new name → IsFirst old name i → Rose (unwrap_or (faults_in old name) absent) (unwrap_or (faults_in new name) absent)
fault_rose old new i name absent counts first =
    let there = is_there old i name (slice_get old i) first.none_before refl first.here in
    let same : bytes_eq name name ≡ true = (bytes_eq-Decides name name).1 refl in
    rw ((counts name).1, same, there.1) (one_more_rose there.0.faults)

raised_once : (b : Bool) (here there : Option MemoryFile) (absent : ℕ) → is_none here ≡ false → (b ≡ true → is_none there ≡ false)
    → unwrap_or (cond b (option_map one_more (option_map (λ (f : MemoryFile). f.faults) there)) (option_map (λ (f : MemoryFile). f.faults) there)) absent
    ≡ cond (b || (is_none here && is_none there)) (one_more (unwrap_or (option_map (λ (f : MemoryFile). f.faults) there) absent)) (unwrap_or (option_map (λ (f : MemoryFile). f.faults) there) absent)
raised_once true here None absent is there = absurd (no_way (there refl))
raised_once true here (Some g) absent is there = refl
raised_once false here there absent is at = rw is refl

is_not_none : (o : Option MemoryFile) (f : MemoryFile) → o ≡ Some f → is_none o ≡ false
is_not_none o f e = rw e refl

-- a read of a file that is there failed: its own count rose by one, and no other
pub raised_here : (old new : List MemoryFile) (i : ℕ) (name : List ℕ) (absent : ℕ) → CountsFault old new name → IsFirst old name i
    → (n : List ℕ) → unwrap_or (faults_in new n) absent ≡ cond (share_a_count old name n) (one_more (unwrap_or (faults_in old n) absent)) (unwrap_or (faults_in old n) absent)
raised_here old new i name absent counts first n =
    let there = is_there old i name (slice_get old i) first.none_before refl first.here in
    rw (counts n).1 (raised_once (bytes_eq name n) (file_named old name) (file_named old n) absent (is_not_none _ there.0 there.1)
    (λ t. is_not_none _ there.0 (rw (← same_bytes name n t) there.1)))

pub saturated : (n m : ℕ) → n < 2 ^ 64 → m ≡ min (n + 1) 18446744073709551615 → m ≡ one_more n
saturated n m lt e = grind (arith, nat_tests)

pub no_test : {A : Type 0} (b : Bool) → b ≡ true → b ≡ false → A
no_test b p q = absurd (no_way (sym p ∙ q))

-- a file of a new name at the end
appended : (fs : List MemoryFile) (name : List ℕ) (g : MemoryFile) → file_named fs name ≡ None → g.name ≡ name → (n : List ℕ) → file_named (fs ++ g ∷ []) n ≡ cond (bytes_eq name n) (Some g) (file_named fs n)
appended [] name g absent same n = ap (λ (m : List ℕ). cond (bytes_eq m n) (Some g) None) same
appended (x ∷ xs) name g absent same n =
    let c = choose (bytes_eq x.name name) x (file_named xs name) absent in
    rw (appended xs name g c.1 same n) (swap_tests (bytes_eq x.name n) (bytes_eq name n) x g (file_named xs n) (past x name n c.0))

pub added_held : (fs : List MemoryFile) (name : List ℕ) (g : MemoryFile) → file_named fs name ≡ None → g.name ≡ name → (n : List ℕ) → held (fs ++ g ∷ []) n ≡ cond (bytes_eq name n) (Some g.bytes.items) (held fs n)
added_held fs name g absent same n = rw (appended fs name g absent same n) (bytes_chosen (bytes_eq name n) g (file_named fs n))

faults_begin : (b : Bool) (g : MemoryFile) (o : Option MemoryFile) (absent : ℕ) → g.faults ≡ absent → (b ≡ true → o ≡ None)
    → unwrap_or (option_map (λ (f : MemoryFile). f.faults) (cond b (Some g) o)) absent ≡ unwrap_or (option_map (λ (f : MemoryFile). f.faults) o) absent
faults_begin true g o absent e is = rw (is refl) e
faults_begin false g o absent e is = refl

pub added_faults : (fs : List MemoryFile) (name : List ℕ) (g : MemoryFile) (absent : ℕ) → file_named fs name ≡ None → g.name ≡ name → g.faults ≡ absent → (n : List ℕ) → unwrap_or (faults_in (fs ++ g ∷ []) n) absent ≡ unwrap_or (faults_in fs n) absent
added_faults fs name g absent none same faults n =
    rw (appended fs name g none same n) (faults_begin (bytes_eq name n) g (file_named fs n) absent faults (λ t. rw (← same_bytes name n t) none))
