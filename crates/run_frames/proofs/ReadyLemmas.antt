-- The classes of places tell which nodes may go on.
use Rattle.std.specs.Prelude.{◌≡◌, ◌<◌, ◌≤◌, ◌+◌, ◌==◌, ◌||◌, ◌&&◌, not, nat_lt, if◌then◌else◌, ℕ, zero, suc, Bool, true, false, List, [], ◌∷◌, ◌++◌, length, map, find, is_some, slice_get, slice_set, unwrap_or, option_map, Option, Some, None, IfSome}
use Rattle.std.specs.Option.{option_map_or}
use Rattle.std.specs.List.{list_all}
use Rattle.std.proofs.Common.{refl, sym, ◌∙◌, ap, subst, arith}
use Rattle.std.proofs.lemmas.Bool.Decides.{nat_tests}
use Rattle.exec_tree.specs.Exec.{has, AreDistinct, nodes}
use Rattle.exec_tree.specs.Arena.{numbers_in}
use Rattle.exec_tree.specs.Built.{TreeValue, channel_in, role_in}
use Rattle.exec_tree.specs.Walked.{place_from}
use Rattle.exec_tree.specs.declared.limits.TheConstants.{MAX_TREE_NESTING, MAX_CHANNELS}
use Rattle.exec_tree.specs.declared.node.BareNode.{BareNode}
use Rattle.exec_tree.specs.declared.role.Role.{Role}
use Rattle.exec_tree.specs.declared.role.Role.TheVariants as role
use Rattle.place_set.specs.Words.{holds}
use Rattle.place_classes.specs.declared.class.Class.{Class}
use Rattle.place_classes.specs.declared.class.Class.TheVariants.{Free, Idle, Shut}
use Rattle.place_classes.specs.Classes.{IsClass, index_of, class_at, is_in_channel}
use Rattle.place_classes.proofs.SortedLemmas.{IsFirstOf, class_set, class_other, length_classes}
use Rattle.trace_law.specs.Next.{next}
use Rattle.trace_law.specs.Of.{number_of}
use Rattle.trace_law.specs.State.{is_open, stage, stage_step}
use Rattle.trace_law.proofs.OfferLemmas.{stage_append}
use Rattle.run_log.specs.declared.entry.Entry.{Entry}
use Rattle.run_log.specs.declared.entry.Entry.TheVariants.{Dispatch, Block, End, Pick, Test, Assign, Set, Pass, Note, Edit}
use Rattle.tree_table.specs.Placed.{placed, number_at}
use Rattle.run_frames.specs.declared.frames.Frames.{Frames}
use Rattle.run_frames.specs.Standing.{IsAt, IsPlace}
use Rattle.run_frames.specs.Ready.{may_by, is_ready, waits_by, class_by, class_in, class_of, class_when, classes_when, classes_after, opens, AreClasses, IsSorted}
use Rattle.run_frames.proofs.NumberedLemmas.{number_is, numbered_down, place_is}
use Rattle.run_frames.specs.Waits.{mark_by, mark_at, class_freed, AreLinked, AreFreed}
use Rattle.run_frames.specs.declared.waits.Waits.{Waits}
use Rattle.std.proofs.lemmas.Option.{slice_get_within}
use Rattle.run_frames.proofs.StandLemmas.{tree, IsPlaceOf, AreOfTree, placed_once, next_inside, next_is, first_is, place_held}

-- ---- what a class says

clash : (b : Bool) → b ≡ true → b ≡ false → ⊥
clash b e f = (let w : true ≡ false = sym e ∙ f in cc)

differ : (a b : ℕ) → (a ≡ b → ⊥) → (a == b) ≡ false
differ a b h = (let s : (a == b) ≡ false = grind (arith, nat_tests) in s)

-- a channel's own two sets are those of no other channel and of no wait
idle_same : (k c : ℕ) → (8 + k == 8 + c) ≡ (k == c)
idle_same k c = go (k == c) refl
  where
    go : (b : Bool) → (k == c) ≡ b → (8 + k == 8 + c) ≡ b
    go true e = (let s : k ≡ c = grind (arith, nat_tests) in (let w : (8 + k == 8 + c) ≡ true = grind (arith, nat_tests) in w))
    go false e = (let w : (8 + k == 8 + c) ≡ false = grind (arith, nat_tests) in w)

-- what the class of a place says of a channel, which is idle or not
abbrev pub class_index : Class → ℕ → Bool → Bool
class_index class c idle = (index_of class == c) || (idle && (index_of class == 8 + c))

free_says : (k c : ℕ) (idle : Bool) → k < 8 → class_index (Free k) c idle ≡ ((k == c) && true)
free_says k c idle l =
    let other : (k == 8 + c) ≡ false = differ k (8 + c) (λ e. omega (arith, e, l)) in
    ap (λ (w : Bool). (k == c) || (idle && w)) other ∙ go (k == c) idle
  where
    go : (b i : Bool) → (b || (i && false)) ≡ (b && true)
    go true i = refl
    go false true = refl
    go false false = refl

idle_says : (k c : ℕ) (idle : Bool) → c < 8 → class_index (Idle k) c idle ≡ ((k == c) && idle)
idle_says k c idle l =
    let other : (8 + k == c) ≡ false = differ (8 + k) c (λ e. omega (arith, e, l)) in
    rw (other, idle_same k c) (go (k == c) idle)
  where
    go : (b i : Bool) → (false || (i && b)) ≡ (b && i)
    go true true = refl
    go true false = refl
    go false true = refl
    go false false = refl

shut_says : (c : ℕ) (idle : Bool) → c < 8 → class_index Shut c idle ≡ false
shut_says c idle l =
    let first : (16 == c) ≡ false = differ 16 c (λ e. omega (arith, e, l)) in
    let second : (16 == 8 + c) ≡ false = differ 16 (8 + c) (λ e. omega (arith, e, l)) in
    rw (first, second) (go idle)
  where
    go : (i : Bool) → (false || (i && false)) ≡ false
    go true = refl
    go false = refl

no_and : (b : Bool) → (b && false) ≡ false
no_and true = refl
no_and false = refl

role_says : (r : Role) (k c : ℕ) (open_now idle : Bool) (released : List ℕ) → k < 8 → c < 8 → class_index (class_by r k open_now released) c idle ≡ ((k == c) && may_by r open_now idle released)
role_says role.Cutting k c true idle released l m = free_says k c idle l
role_says role.Cutting k c false idle released l m = idle_says k c idle m
role_says (role.Waiting mark) k c open_now idle released l m = go (has released mark)
  where
    go : (b : Bool) → class_index (if b then Free k else Shut) c idle ≡ ((k == c) && b)
    go true = free_says k c idle l
    go false = shut_says c idle m ∙ sym (no_and (k == c))
role_says role.Free k c open_now idle released l m = free_says k c idle l

-- a place of the class of a node may go on in a channel exactly where the node is of it and may go on
pub class_says : (r : Role) (k c : ℕ) (open_now idle : Bool) (released : List ℕ) → c < 8 → class_index (class_in r k open_now released) c idle ≡ ((k == c) && may_by r open_now idle released)
class_says r k c open_now idle released m = go (nat_lt k MAX_CHANNELS) refl
  where
    go : (b : Bool) → nat_lt k MAX_CHANNELS ≡ b → class_index (if b then class_by r k open_now released else Shut) c idle ≡ ((k == c) && may_by r open_now idle released)
    go true e = (let l : k < 8 = grind (arith, nat_tests) in role_says r k c open_now idle released l m)
    go false e = (let l : 8 ≤ k = grind (arith, nat_tests) in shut_says c idle m ∙ sym (ap (λ (w : Bool). w && may_by r open_now idle released) (differ k c (λ f. omega (arith, f, l, m)))))

-- the class of a node of a channel is the shut one exactly where the node waits
pub class_shuts : (r : Role) (k : ℕ) (open_now : Bool) (released : List ℕ) → k < 8 → (index_of (class_in r k open_now released) == 16) ≡ waits_by r released
class_shuts r k open_now released l = (let e : nat_lt k MAX_CHANNELS ≡ true = grind (arith, nat_tests) in ap (λ (b : Bool). index_of (if b then class_by r k open_now released else Shut) == 16) e ∙ go r open_now)
  where
    free : (index_of (Free k) == 16) ≡ false
    free = differ k 16 (λ f. omega (arith, f, l))

    go : (r : Role) (o : Bool) → (index_of (class_by r k o released) == 16) ≡ waits_by r released
    go role.Cutting true = free
    go role.Cutting false = differ (8 + k) 16 (λ f. omega (arith, f, l))
    go (role.Waiting mark) o = wait (has released mark)
      where
        wait : (b : Bool) → (index_of (if b then Free k else Shut) == 16) ≡ not b
        wait true = free
        wait false = refl
    go role.Free o = free

-- ---- the first node that may go on

-- of a place where the run can go on, what its class says is what its node may
ready_at : (t : TreeValue) (f : Frames) (u : List Entry) (released : List ℕ) (channel : ℕ) (idle : Bool) (q : ℕ) → AreOfTree t.nodes → (s : IsAt t.nodes f u) → IsSorted t f u released → channel < 8 → holds f.set.all q ≡ true
    → is_in_channel f.set channel idle q ≡ is_ready t u released channel idle (number_at t.nodes q)
ready_at t f u released channel idle q a s o l h =
    let here = next_inside t.nodes s.entries q (placed_once t.nodes a.distinct) (sym (s.held.goes_on q) ∙ h) in
    let own = numbered_down t.nodes MAX_TREE_NESTING 0 q a.named here in
    let class = o.classes q own.node own.number own.at own.has_it in
    ap (λ (w : Bool). w && class_index (class_at f.set.classes q) channel idle) h
    ∙ (ap (λ (w : Class). class_index w channel idle) class
    ∙ (class_says (role_in t own.number) (channel_in t.nodes own.number) channel (is_open own.number u) idle released l
    ∙ ap (is_ready t u released channel idle) (sym (number_is t.nodes q own))))

and_left : (a b : Bool) → (a && b) ≡ true → a ≡ true
and_left true b h = refl
and_left false b h = h

in_set : (f : Frames) (channel : ℕ) (idle : Bool) (p : ℕ) → is_in_channel f.set channel idle p ≡ true → holds f.set.all p ≡ true
in_set f channel idle p h = and_left (holds f.set.all p) (class_index (class_at f.set.classes p) channel idle) h

pub ready_first : (t : TreeValue) (f : Frames) (u : List Entry) (released : List ℕ) (channel : ℕ) (idle : Bool) (o : Option ℕ) → AreOfTree t.nodes → IsAt t.nodes f u → IsSorted t f u released → channel < 8
    → IsFirstOf (is_in_channel f.set channel idle) o → option_map (number_at t.nodes) o ≡ find (is_ready t u released channel idle) (next (tree t.nodes) u)
ready_first t f u released channel idle None a s o l h =
    first_is t.nodes f u (is_ready t u released channel idle) None a s (λ q i. sym (ready_at t f u released channel idle q a s o l i) ∙ h q)
ready_first t f u released channel idle (Some p) a s o l h =
    let there = in_set f channel idle p h.0 in
    first_is t.nodes f u (is_ready t u released channel idle) (Some p) a s
    (there, sym (ready_at t f u released channel idle p a s o l there) ∙ h.0, λ q k i. sym (ready_at t f u released channel idle q a s o l i) ∙ h.1 q k)

-- and its place is found by its number
pub ready_place : (t : TreeValue) (f : Frames) (u : List Entry) (channel : ℕ) (idle : Bool) (o : Option ℕ) → AreOfTree t.nodes → IsAt t.nodes f u → IsFirstOf (is_in_channel f.set channel idle) o → IfSome o (IsPlace t.nodes)
ready_place t f u channel idle None a s h = tt
ready_place t f u channel idle (Some p) a s h = place_held t.nodes f u p a s (in_set f channel idle p h.0)

-- ---- all wait

all_from : (p : ℕ → Bool) (ns : List ℕ) → ((q : ℕ) → has ns q ≡ true → p q ≡ true) → list_all p ns ≡ true
all_from p [] h = refl
all_from p (n ∷ ns) h =
    let own : (n == n) ≡ true = grind (arith, nat_tests) in
    let first : has (n ∷ ns) n ≡ true = ap (λ (b : Bool). b || has ns n) own in
    rw (h n first) (all_from p ns (λ q i. h q (later (n == q) (has ns q) i)))
  where
    later : (b c : Bool) → c ≡ true → (b || c) ≡ true
    later true c i = refl
    later false c i = i

all_at : (p : ℕ → Bool) (ns : List ℕ) (q : ℕ) → list_all p ns ≡ true → has ns q ≡ true → p q ≡ true
all_at p [] q e h = absurd (clash false h refl)
all_at p (n ∷ ns) q e h = go (n == q) refl h (λ f i. all_at p ns q f i)
  where
    left : (a b : Bool) → (a && b) ≡ true → a ≡ true
    left true b i = refl
    left false b i = i

    right : (a b : Bool) → (a && b) ≡ true → b ≡ true
    right true b i = i
    right false b i = absurd (clash false i refl)

    go : (b : Bool) → (n == q) ≡ b → (b || has ns q) ≡ true → (list_all p ns ≡ true → has ns q ≡ true → p q ≡ true) → p q ≡ true
    go true f i rest = (let s : n ≡ q = grind (arith, nat_tests) in subst (λ (m : ℕ). p m ≡ true) s (left (p n) (list_all p ns) e))
    go false f i rest = rest (right (p n) (list_all p ns) e) i

all_map : (p : ℕ → Bool) (r : ℕ → ℕ) (ns : List ℕ) → list_all p (map r ns) ≡ list_all (λ n. p (r n)) ns
all_map p r [] = refl
all_map p r (n ∷ ns) = ap (λ (b : Bool). p (r n) && b) (all_map p r ns)

alike : (a b : Bool) → (a ≡ true → b ≡ true) → (b ≡ true → a ≡ true) → a ≡ b
alike true b f g = sym (f refl)
alike false true f g = g refl
alike false false f g = refl

shut_at : (t : TreeValue) (f : Frames) (u : List Entry) (released : List ℕ) (q : ℕ) → AreOfTree t.nodes → (s : IsAt t.nodes f u) → IsSorted t f u released → ((n : ℕ) → channel_in t.nodes n < 8) → has (next (placed t.nodes) s.entries) q ≡ true
    → (index_of (class_at f.set.classes q) == 16) ≡ waits_by (role_in t (number_at t.nodes q)) released
shut_at t f u released q a s o l h =
    let here = next_inside t.nodes s.entries q (placed_once t.nodes a.distinct) h in
    let own = numbered_down t.nodes MAX_TREE_NESTING 0 q a.named here in
    let class = o.classes q own.node own.number own.at own.has_it in
    ap (λ (w : Class). index_of w == 16) class
    ∙ (class_shuts (role_in t own.number) (channel_in t.nodes own.number) (is_open own.number u) released (l own.number)
    ∙ ap (λ (n : ℕ). waits_by (role_in t n) released) (sym (number_is t.nodes q own)))

pub all_shut : (t : TreeValue) (f : Frames) (u : List Entry) (released : List ℕ) (r : Bool) → AreOfTree t.nodes → IsAt t.nodes f u → IsSorted t f u released → ((n : ℕ) → channel_in t.nodes n < 8)
    → (r ≡ true → (q : ℕ) → holds f.set.all q ≡ true → index_of (class_at f.set.classes q) ≡ 16) → (((q : ℕ) → holds f.set.all q ≡ true → index_of (class_at f.set.classes q) ≡ 16) → r ≡ true)
    → r ≡ list_all (λ n. waits_by (role_in t n) released) (next (tree t.nodes) u)
all_shut t f u released r a s o l forth back =
    let ns = next (placed t.nodes) s.entries in
    let p = λ (q : ℕ). waits_by (role_in t (number_at t.nodes q)) released in
    alike r (list_all p ns) (λ e. all_from p ns (λ q h. sym (shut_at t f u released q a s o l h) ∙ is_sixteen (index_of (class_at f.set.classes q)) (forth e q (s.held.goes_on q ∙ h))))
    (λ e. back (λ q h. (let i = sym (s.held.goes_on q) ∙ h in sixteen (index_of (class_at f.set.classes q)) (shut_at t f u released q a s o l i ∙ all_at p ns q e i))))
    ∙ sym (ap (list_all (λ n. waits_by (role_in t n) released)) (next_is t.nodes f u a.distinct s) ∙ all_map (λ n. waits_by (role_in t n) released) (number_at t.nodes) ns)
  where
    is_sixteen : (n : ℕ) → n ≡ 16 → (n == 16) ≡ true
    is_sixteen n e = rw e refl

    sixteen : (n : ℕ) → (n == 16) ≡ true → n ≡ 16
    sixteen n e = (let w : n ≡ 16 = grind (arith, nat_tests) in w)

-- ---- one entry more

-- whether a step is open after an entry of node n
open_step : (m n : ℕ) (so_far : Option ℕ) (x : Entry) → number_of x ≡ Some n → is_some (stage_step m so_far x) ≡ (if n == m then unwrap_or (opens x) (is_some so_far) else is_some so_far)
open_step m n so_far (Dispatch k v) e = (let s : k ≡ n = cc in rw s (go (n == m)))
  where
    go : (b : Bool) → is_some (if b then Some 0 else so_far) ≡ (if b then true else is_some so_far)
    go true = refl
    go false = refl
open_step m n so_far (End k) e = (let s : k ≡ n = cc in rw s (go (n == m)))
  where
    go : (b : Bool) → is_some (if b then None else so_far) ≡ (if b then false else is_some so_far)
    go true = refl
    go false = refl
open_step m n so_far (Block k j b) e = (let s : k ≡ n = cc in rw s (go (n == m) so_far))
  where
    go : (b : Bool) (o : Option ℕ) → is_some (if b then option_map (λ i. i + 1) o else o) ≡ (if b then is_some o else is_some o)
    go true None = refl
    go true (Some i) = refl
    go false o = refl
open_step m n so_far (Pick k j) e = same (n == m) (is_some so_far)
  where
    same : (b w : Bool) → w ≡ (if b then w else w)
    same true w = refl
    same false w = refl
open_step m n so_far (Test k j) e = same (n == m) (is_some so_far)
  where
    same : (b w : Bool) → w ≡ (if b then w else w)
    same true w = refl
    same false w = refl
open_step m n so_far (Assign k j) e = same (n == m) (is_some so_far)
  where
    same : (b w : Bool) → w ≡ (if b then w else w)
    same true w = refl
    same false w = refl
open_step m n so_far (Set k) e = same (n == m) (is_some so_far)
  where
    same : (b w : Bool) → w ≡ (if b then w else w)
    same true w = refl
    same false w = refl
open_step m n so_far (Pass k) e = same (n == m) (is_some so_far)
  where
    same : (b w : Bool) → w ≡ (if b then w else w)
    same true w = refl
    same false w = refl
open_step m n so_far (Note k) e = same (n == m) (is_some so_far)
  where
    same : (b w : Bool) → w ≡ (if b then w else w)
    same true w = refl
    same false w = refl
open_step m n so_far (Edit i v) e = absurd (cc)

open_more : (m n : ℕ) (u : List Entry) (x : Entry) → number_of x ≡ Some n → is_open m (u ++ x ∷ []) ≡ (if n == m then unwrap_or (opens x) (is_open m u) else is_open m u)
open_more m n u x e = ap is_some (stage_append m None u (x ∷ [])) ∙ open_step m n (stage m u) x e

some_same : (p q : ℕ) → Some p ≡ Some q → p ≡ q
some_same p q e = cc

-- the class at the entry's own place
class_here : (r : Role) (k p : ℕ) (o : Option Bool) (open_now : Bool) (released : List ℕ) (classes : List Class) → p < length classes → class_at classes p ≡ class_in r k open_now released
    → class_at (option_map_or (classes_when r k p classes) o classes) p ≡ class_in r k (unwrap_or o open_now) released
class_here r k p None open_now released classes l h = h
class_here role.Cutting k p (Some b) open_now released classes l h = go (nat_lt k MAX_CHANNELS) h
  where
    own : (b : Bool) → class_at (slice_set classes p (class_when k b)) p ≡ (if b then Free k else Idle k)
    own true = class_set classes p (Free k) l
    own false = class_set classes p (Idle k) l

    go : (c : Bool) → class_at classes p ≡ (if c then class_by role.Cutting k open_now released else Shut) → class_at (if c then slice_set classes p (class_when k b) else classes) p ≡ (if c then class_by role.Cutting k b released else Shut)
    go true i = own b
    go false i = i
class_here (role.Waiting mark) k p (Some b) open_now released classes l h = h
class_here role.Free k p (Some b) open_now released classes l h = h

-- and at any other
class_there : (r : Role) (k p q : ℕ) (o : Option Bool) (classes : List Class) → (p ≡ q → ⊥) → class_at (option_map_or (classes_when r k p classes) o classes) q ≡ class_at classes q
class_there r k p q None classes h = refl
class_there role.Cutting k p q (Some b) classes h = go (nat_lt k MAX_CHANNELS)
  where
    go : (c : Bool) → class_at (if c then slice_set classes p (class_when k b) else classes) q ≡ class_at classes q
    go true = class_other classes p q (class_when k b) h
    go false = refl
class_there (role.Waiting mark) k p q (Some b) classes h = refl
class_there role.Free k p q (Some b) classes h = refl

long_after : (r : Role) (k p : ℕ) (o : Option Bool) (classes : List Class) → length (option_map_or (classes_when r k p classes) o classes) ≡ length classes
long_after r k p None classes = refl
long_after role.Cutting k p (Some b) classes = go (nat_lt k MAX_CHANNELS)
  where
    go : (c : Bool) → length (if c then slice_set classes p (class_when k b) else classes) ≡ length classes
    go true = length_classes classes p (class_when k b)
    go false = refl
long_after (role.Waiting mark) k p (Some b) classes = refl
long_after role.Free k p (Some b) classes = refl

pub classes_more : (t : TreeValue) (u : List Entry) (x : Entry) (released : List ℕ) (classes : List Class) (n p : ℕ) → AreDistinct (numbers_in t.nodes) → number_of x ≡ Some n → (node : BareNode) → slice_get t.nodes p ≡ Some node → node.number ≡ Some n → p < length classes
    → AreClasses t u released classes → AreClasses t (u ++ x ∷ []) released (classes_after t x n p classes)
classes_more t u x released classes n p d e node_p at_p number_p l h = λ q node m at number. go q node m at number (n == m) refl
  where
    own : (n == n) ≡ true
    own = (let w : (n == n) ≡ true = grind (arith, nat_tests) in w)

    here : class_at (classes_after t x n p classes) p ≡ class_of t (u ++ x ∷ []) released n
    here =
        class_here (role_in t n) (channel_in t.nodes n) p (opens x) (is_open n u) released classes l (h p node_p n at_p number_p)
        ∙ ap (λ (o : Bool). class_in (role_in t n) (channel_in t.nodes n) o released) (sym (open_more n n u x e ∙ ap (λ (b : Bool). if b then unwrap_or (opens x) (is_open n u) else is_open n u) own))

    same_number : (q m : ℕ) (node : BareNode) → slice_get t.nodes q ≡ Some node → node.number ≡ Some m → p ≡ q → n ≡ m
    same_number q m node at number i =
        let both : Some node_p ≡ Some node = sym at_p ∙ (ap (slice_get t.nodes) i ∙ at) in
        let one : node_p ≡ node = cc in
        some_same n m (sym number_p ∙ (ap (λ (w : BareNode). w.number) one ∙ number))

    go : (q : ℕ) (node : BareNode) (m : ℕ) → slice_get t.nodes q ≡ Some node → node.number ≡ Some m → (b : Bool) → (n == m) ≡ b → class_at (classes_after t x n p classes) q ≡ class_of t (u ++ x ∷ []) released m
    go q node m at number true f =
        let same : n ≡ m = grind (arith, nat_tests) in
        let first : place_from 0 t.nodes n ≡ Some (0 + p) = place_is 0 t.nodes p node_p n at_p number_p d in
        let second : place_from 0 t.nodes m ≡ Some (0 + q) = place_is 0 t.nodes q node m at number d in
        let one : 0 + p ≡ 0 + q = some_same (0 + p) (0 + q) (sym first ∙ (ap (place_from 0 t.nodes) same ∙ second)) in
        let place : p ≡ q = omega (arith, one) in
        subst (λ (r : ℕ). class_at (classes_after t x n p classes) r ≡ class_of t (u ++ x ∷ []) released m) place
        (subst (λ (w : ℕ). class_at (classes_after t x n p classes) p ≡ class_of t (u ++ x ∷ []) released w) same here)
    go q node m at number false f =
        let away : p ≡ q → ⊥ = λ i. unequal m (same_number q m node at number i) f in
        class_there (role_in t n) (channel_in t.nodes n) p q (opens x) classes away
        ∙ (h q node m at number
        ∙ ap (λ (o : Bool). class_in (role_in t m) (channel_in t.nodes m) o released) (sym (open_more m n u x e ∙ ap (λ (b : Bool). if b then unwrap_or (opens x) (is_open m u) else is_open m u) f)))
      where
        unequal : (m : ℕ) → n ≡ m → (n == m) ≡ false → ⊥
        unequal m i g = (let w : (n == m) ≡ true = grind (arith, nat_tests) in clash (n == m) w g)

-- as many places have a class as before
pub classed_after : (t : TreeValue) (x : Entry) (n p : ℕ) (classes : List Class) → length (classes_after t x n p classes) ≡ length classes
classed_after t x n p classes = long_after (role_in t n) (channel_in t.nodes n) p (opens x) classes

pub classed_moved : (t : TreeValue) (x : Entry) (n p count : ℕ) (old mid new : List Class) → new ≡ classes_after t x n p mid → mid ≡ old → length old ≡ count → length new ≡ count
classed_moved t x n p count old mid new after kept long =
    ap (λ (l : List Class). length l) after ∙ (classed_after t x n p mid ∙ (ap (λ (l : List Class). length l) kept ∙ long))

pub classes_moved : (t : TreeValue) (x : Entry) (m n p : ℕ) (old mid new : List Class) → new ≡ classes_after t x m p mid → mid ≡ old → m ≡ n → new ≡ classes_after t x n p old
classes_moved t x m n p old mid new after kept same = after ∙ (ap (classes_after t x m p) kept ∙ ap (λ (k : ℕ). classes_after t x k p old) same)

pub place_within : (arena : List BareNode) (v : List Entry) (n p : ℕ) → AreOfTree arena → IsPlaceOf arena v n p → p < length arena
place_within arena v n p a h = (let own = numbered_down arena MAX_TREE_NESTING 0 p a.named h.inside in slice_get_within arena p own.node own.at)

-- frames that move by an entry of a place stay sorted
pub sorted_more : (t : TreeValue) (f g : Frames) (u v : List Entry) (x : Entry) (released : List ℕ) (n p : ℕ) → AreOfTree t.nodes → IsPlaceOf t.nodes v n p → number_of x ≡ Some n → length f.set.classes ≡ length t.nodes → IsSorted t f u released
    → g.set.classes ≡ classes_after t x n p f.set.classes → g.waits ≡ f.waits → IsSorted t g (u ++ x ∷ []) released
sorted_more t f g u v x released n p a h e long s moved same =
    let own = numbered_down t.nodes MAX_TREE_NESTING 0 p a.named h.inside in
    let number : own.number ≡ n = sym (number_is t.nodes p own) ∙ h.is_number in
    let within = slice_get_within t.nodes p own.node own.at in
    record {
      classes = subst (AreClasses t (u ++ x ∷ []) released) (sym moved)
          (classes_more t u x released f.set.classes n p (subst AreDistinct (sym a.preorder) a.distinct) e own.node own.at (own.has_it ∙ ap (λ (m : ℕ). Some m) number) (omega (arith, within, long)) s.classes);
      linked = subst (λ (w : Waits). AreLinked t w.first.items w.later.items) (sym same) s.linked;
    }

-- ---- a mark that is released

has_more : (j mark : ℕ) (ns : List ℕ) → has (ns ++ mark ∷ []) j ≡ (has ns j || (mark == j))
has_more j mark [] = last (mark == j)
  where
    last : (b : Bool) → (b || false) ≡ b
    last true = refl
    last false = refl
has_more j mark (n ∷ ns) = ap (λ (b : Bool). (n == j) || b) (has_more j mark ns) ∙ shift (n == j) (has ns j) (mark == j)
  where
    shift : (a b c : Bool) → (a || (b || c)) ≡ ((a || b) || c)
    shift true b c = refl
    shift false b c = refl

freed_class : (r : Role) (k m mark : ℕ) (nodes : List BareNode) (open_now : Bool) (released : List ℕ) (old new : Class)
    → ((j p : ℕ) → place_from 0 nodes j ≡ Some p → (node : BareNode) × (slice_get nodes p ≡ Some node) × (node.number ≡ Some j)) → place_from 0 nodes mark ≡ Some m → old ≡ class_in r k open_now released
    → (mark_by nodes r ≡ Some m → new ≡ class_freed k old) → ((mark_by nodes r ≡ Some m → ⊥) → new ≡ old) → new ≡ class_in r k open_now (released ++ mark ∷ [])
freed_class role.Cutting k m mark nodes open_now released old new found here is freed kept = kept (λ e. (let w : None ≡ Some m = e in cc)) ∙ is
freed_class role.Free k m mark nodes open_now released old new found here is freed kept = kept (λ e. (let w : None ≡ Some m = e in cc)) ∙ is
freed_class (role.Waiting j) k m mark nodes open_now released old new found here is freed kept = go (j == mark) refl
  where
    yes_or : (b c : Bool) → c ≡ true → (b || c) ≡ true
    yes_or true c e = refl
    yes_or false c e = e

    no_or : (b c : Bool) → c ≡ false → (b || c) ≡ b
    no_or true c e = refl
    no_or false c e = e

    -- the class of a wait of a small channel, and of any other
    goes : (b : Bool) → nat_lt k MAX_CHANNELS ≡ b → has (released ++ mark ∷ []) j ≡ true → new ≡ (if b then Free k else old) → old ≡ (if b then (if has released j then Free k else Shut) else Shut) → new ≡ (if b then (if has (released ++ mark ∷ []) j then Free k else Shut) else Shut)
    goes true e h f i = f ∙ sym (ap (λ (b : Bool). if b then Free k else Shut) h)
    goes false e h f i = f ∙ i

    same_node : (p q : BareNode) → slice_get nodes m ≡ Some p → slice_get nodes m ≡ Some q → p ≡ q
    same_node p q e f = (let w : Some p ≡ Some q = sym e ∙ f in cc)

    one_number : place_from 0 nodes j ≡ Some m → j ≡ mark
    one_number e =
        let a = found j m e in
        let b = found mark m here in
        some_same j mark (sym a.2 ∙ (ap (λ (w : BareNode). w.number) (same_node a.0 b.0 a.1 b.1) ∙ b.2))

    go : (b : Bool) → (j == mark) ≡ b → new ≡ class_in (role.Waiting j) k open_now (released ++ mark ∷ [])
    go true e =
        let same : j ≡ mark = grind (arith, nat_tests) in
        let back : (mark == j) ≡ true = grind (arith, nat_tests) in
        goes (nat_lt k MAX_CHANNELS) refl (has_more j mark released ∙ yes_or (has released j) (mark == j) back) (freed (ap (place_from 0 nodes) same ∙ here)) is
    go false e =
        let back : (mark == j) ≡ false = grind (arith, nat_tests) in
        let away : mark_by nodes (role.Waiting j) ≡ Some m → ⊥ = λ f. unequal (one_number f) e in
        kept away ∙ (is ∙ ap (λ (b : Bool). if nat_lt k MAX_CHANNELS then (if b then Free k else Shut) else Shut) (sym (has_more j mark released ∙ no_or (has released j) (mark == j) back)))
      where
        unequal : j ≡ mark → (j == mark) ≡ false → ⊥
        unequal f g = (let w : (j == mark) ≡ true = grind (arith, nat_tests) in clash (j == mark) w g)

pub sorted_freed : (t : TreeValue) (f g : Frames) (u : List Entry) (released : List ℕ) (mark m : ℕ) → ((j p : ℕ) → place_from 0 t.nodes j ≡ Some p → (node : BareNode) × (slice_get t.nodes p ≡ Some node) × (node.number ≡ Some j)) → place_from 0 t.nodes mark ≡ Some m
    → AreFreed t m f.set.classes g.set.classes → g.waits ≡ f.waits → IsSorted t f u released → IsSorted t g u (released ++ mark ∷ [])
sorted_freed t f g u released mark m found here freed same s = record {
  classes = λ q node n at number.
      (let is : number_at t.nodes q ≡ n = number_is t.nodes q (record { node = node; at = at; number = n; has_it = number }) in
      let within = slice_get_within t.nodes q node at in
      let marks : mark_at t q ≡ mark_by t.nodes (role_in t n) = ap (λ (j : ℕ). mark_by t.nodes (role_in t j)) is in
      freed_class (role_in t n) (channel_in t.nodes n) m mark t.nodes (is_open n u) released (class_at f.set.classes q) (class_at g.set.classes q) found here (s.classes q node n at number)
      (λ e. freed.freed q within (marks ∙ e) ∙ ap (λ (j : ℕ). class_freed (channel_in t.nodes j) (class_at f.set.classes q)) is) (λ e. freed.kept q (λ i. e (sym marks ∙ i))));
  linked = subst (λ (w : Waits). AreLinked t w.first.items w.later.items) (sym same) s.linked;
}

-- ---- the first classes

pub class_pushed : (classes : List Class) (k : Class) → class_at (classes ++ k ∷ []) (length classes) ≡ k
class_pushed [] k = refl
class_pushed (x ∷ classes) k = class_pushed classes k

pub class_before : (classes : List Class) (k : Class) (q : ℕ) → q < length classes → class_at (classes ++ k ∷ []) q ≡ class_at classes q
class_before [] k q l = absurd (omega (arith, l))
class_before (x ∷ classes) k zero l = refl
class_before (x ∷ classes) k (suc q) l = class_before classes k q (omega (arith, l))

pub class_one : (classes : List Class) (k : Class) → IsClass k → ((q : ℕ) → IsClass (class_at classes q)) → (q : ℕ) → IsClass (class_at (classes ++ k ∷ []) q)
class_one [] k one few zero = one
class_one [] k one few (suc q) = omega arith
class_one (x ∷ classes) k one few zero = few zero
class_one (x ∷ classes) k one few (suc q) = class_one classes k one (λ r. few (suc r)) q

pub one_longer : (classes : List Class) (k : Class) (p : ℕ) → length classes ≡ p → length (classes ++ k ∷ []) ≡ p + 1
one_longer [] k p e = omega (arith, e)
one_longer (x ∷ classes) k zero e = absurd (omega (arith, e))
one_longer (x ∷ classes) k (suc p) e = let r = one_longer classes k p (omega (arith, e)) in omega (arith, r)

-- one more place has the class of its node
pub first_more : (t : TreeValue) (classes : List Class) (k : Class) (p : ℕ) → length classes ≡ p → k ≡ class_of t [] [] (number_at t.nodes p)
    → ((q : ℕ) (node : BareNode) (n : ℕ) → q < p → slice_get t.nodes q ≡ Some node → node.number ≡ Some n → class_at classes q ≡ class_of t [] [] n)
    → (q : ℕ) (node : BareNode) (n : ℕ) → q < p + 1 → slice_get t.nodes q ≡ Some node → node.number ≡ Some n → class_at (classes ++ k ∷ []) q ≡ class_of t [] [] n
first_more t classes k p long is h q node n l at number = go (q == p) refl
  where
    go : (b : Bool) → (q == p) ≡ b → class_at (classes ++ k ∷ []) q ≡ class_of t [] [] n
    go true e =
        let same : q ≡ length classes = (let w : q ≡ p = grind (arith, nat_tests) in w ∙ sym long) in
        let own : number_at t.nodes q ≡ n = number_is t.nodes q (record { node = node; at = at; number = n; has_it = number }) in
        let place : p ≡ q = sym long ∙ sym same in
        ap (class_at (classes ++ k ∷ [])) same ∙ (class_pushed classes k ∙ (is ∙ ap (class_of t [] []) (ap (number_at t.nodes) place ∙ own)))
    go false e =
        let less : q < p = (let w : q ≡ p → ⊥ = λ f. unequal f e in omega (arith, l, w)) in
        class_before classes k q (omega (arith, less, long)) ∙ h q node n less at number
      where
        unequal : q ≡ p → (q == p) ≡ false → ⊥
        unequal f g = (let w : (q == p) ≡ true = grind (arith, nat_tests) in clash (q == p) w g)

-- ---- the same marks, in another order or more than once

class_alike : (r : Role) (k : ℕ) (open_now : Bool) (released others : List ℕ) → ((m : ℕ) → has released m ≡ has others m) → class_in r k open_now released ≡ class_in r k open_now others
class_alike role.Cutting k open_now released others h = refl
class_alike (role.Waiting mark) k open_now released others h = ap (λ (b : Bool). if nat_lt k MAX_CHANNELS then (if b then Free k else Shut) else Shut) (h mark)
class_alike role.Free k open_now released others h = refl

pub sorted_alike : (t : TreeValue) (f : Frames) (u : List Entry) (released others : List ℕ) → ((m : ℕ) → has released m ≡ has others m) → IsSorted t f u released → IsSorted t f u others
sorted_alike t f u released others h s = record {
  classes = λ q node n at number. s.classes q node n at number ∙ class_alike (role_in t n) (channel_in t.nodes n) (is_open n u) released others h;
  linked = s.linked;
}
