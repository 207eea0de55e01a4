-- What an arena tells of its nodes by number is what the store says.
use Rattle.std.specs.Prelude.{◌≡◌, ◌<◌, ◌≤◌, ◌+◌, ◌-◌, ◌==◌, ◌||◌, ℕ, suc, Bool, true, false, if◌then◌else◌, List, [], ◌∷◌, ◌++◌, length, map, filter, find, slice_get, option_map, Option, Some, None}
use Rattle.std.specs.Option.{option_map_or}
use Rattle.std.specs.List.{filter_map, cons_option}
use Rattle.std.proofs.Common.{refl, sym, ap, ◌∙◌, arith, cond, get_or, take}
use Rattle.std.proofs.lemmas.Option.{slice_get_read, slice_get-map}
use Rattle.std.proofs.lemmas.Bool.Decides.{nat_tests}
use Rattle.std.proofs.lemmas.List.Elements.{filter_map-append}
use Rattle.exec_tree.specs.Exec.{number_or_none, nodes, has}
use Rattle.exec_tree.specs.declared.kind.Kind.{Kind}
use Rattle.exec_tree.specs.declared.kind.Kind.TheVariants as kind
use Rattle.exec_tree.specs.declared.role.Role.TheVariants.{Free}
use Rattle.exec_tree.specs.Said.{Said, said_for, said_at, found_at, target_of}
use Rattle.exec_tree.specs.Role.{role_by, role_of, role_said}
use Rattle.exec_tree.specs.TreeOf.{tree_of}
use Rattle.exec_tree.proofs.WalkLemmas.{nodes_walked}
use Rattle.exec_tree.proofs.GrowthLemmas.{take_at}
use Rattle.entity_types.specs.declared.entity.Entity.{Entity}
use Rattle.exec_tree.specs.declared.node.BareNode.{BareNode}
use Rattle.exec_tree.specs.Arena.{Label, labels_in}
use Rattle.exec_tree.specs.Executable.{kind_at}
use Rattle.exec_tree.specs.Walk.{Visit}
use Rattle.exec_tree.specs.TreeFault.{Seen, walk_of}
use Rattle.exec_tree.specs.Walked.{is_numbered, place_from, number_among, label_of}
use Rattle.exec_tree.specs.Built.{TreeValue, IsTreeFrom, channels_from, channel_from, node_in, channel_in, said_in, role_in, is_work, step_of, steps_in, steps_of}

above : (i : ℕ) (nodes : List BareNode) (n p : ℕ) → place_from i nodes n ≡ Some p → i ≤ p
above i [] n p e = absurd (cc)
above i (x ∷ nodes) n p e = go (is_numbered x.number n) e (above (i + 1) nodes n p)
  where
    go : (b : Bool) → (if b then Some i else place_from (i + 1) nodes n) ≡ Some p → (place_from (i + 1) nodes n ≡ Some p → i + 1 ≤ p) → i ≤ p
    go true e r = let same : i ≡ p = cc in omega arith
    go false e r = let l = r e in omega (arith, l)

-- the node at the place of a number is the first with that number
at_place : (i : ℕ) (nodes : List BareNode) (n : ℕ) → option_map_or (λ (p : ℕ). slice_get nodes (p - i)) (place_from i nodes n) None ≡ find (λ (node : BareNode). is_numbered node.number n) nodes
at_place i [] n = refl
at_place i (x ∷ nodes) n = go (is_numbered x.number n) (at_place (i + 1) nodes n)
  where
    later : (o : Option ℕ) → place_from (i + 1) nodes n ≡ o → option_map_or (λ (p : ℕ). slice_get (x ∷ nodes) (p - i)) o None ≡ option_map_or (λ (p : ℕ). slice_get nodes (p - (i + 1))) o None
    later None e = refl
    later (Some p) e = let l = above (i + 1) nodes n p e in let k : p - i ≡ suc (p - (i + 1)) = omega (arith, l) in ap (slice_get (x ∷ nodes)) k

    go : (b : Bool) → option_map_or (λ (p : ℕ). slice_get nodes (p - (i + 1))) (place_from (i + 1) nodes n) None ≡ find (λ (node : BareNode). is_numbered node.number n) nodes
        → option_map_or (λ (p : ℕ). slice_get (x ∷ nodes) (p - i)) (if b then Some i else place_from (i + 1) nodes n) None ≡ cond b (Some x) (find (λ (node : BareNode). is_numbered node.number n) nodes)
    go true f = let k : i - i ≡ 0 = omega arith in ap (slice_get (x ∷ nodes)) k
    go false f = later (place_from (i + 1) nodes n) refl ∙ f

found_first : (nodes : List BareNode) (n : ℕ) → node_in nodes n ≡ find (λ (node : BareNode). is_numbered node.number n) nodes
found_first nodes n = same (place_from 0 nodes n) ∙ at_place 0 nodes n
  where
    same : (o : Option ℕ) → option_map_or (λ (p : ℕ). slice_get nodes p) o None ≡ option_map_or (λ (p : ℕ). slice_get nodes (p - 0)) o None
    same None = refl
    same (Some p) = let k : p ≡ p - 0 = omega arith in ap (slice_get nodes) k

by_labels : (nodes : List BareNode) (n : ℕ)
    → option_map_or (λ (node : BareNode). node.channel) (find (λ (node : BareNode). is_numbered node.number n) nodes) 0 ≡ option_map_or (λ (l : Label). l.channel) (find (λ (l : Label). l.number == n) (labels_in nodes)) 0
by_labels [] n = refl
by_labels (x ∷ nodes) n = go x.number (by_labels nodes n)
  where
    label : ℕ → Label
    label m = record { number = m; channel = x.channel; kind = x.kind }

    both : (b : Bool) (m : ℕ) → option_map_or (λ (node : BareNode). node.channel) (find (λ (node : BareNode). is_numbered node.number n) nodes) 0 ≡ option_map_or (λ (l : Label). l.channel) (find (λ (l : Label). l.number == n) (labels_in nodes)) 0
        → option_map_or (λ (node : BareNode). node.channel) (cond b (Some x) (find (λ (node : BareNode). is_numbered node.number n) nodes)) 0
        ≡ option_map_or (λ (l : Label). l.channel) (cond b (Some (record { number = m; channel = x.channel; kind = x.kind })) (find (λ (l : Label). l.number == n) (labels_in nodes))) 0
    both true m f = refl
    both false m f = f

    go : (o : Option ℕ) → option_map_or (λ (node : BareNode). node.channel) (find (λ (node : BareNode). is_numbered node.number n) nodes) 0 ≡ option_map_or (λ (l : Label). l.channel) (find (λ (l : Label). l.number == n) (labels_in nodes)) 0
        → option_map_or (λ (node : BareNode). node.channel) (cond (is_numbered o n) (Some x) (find (λ (node : BareNode). is_numbered node.number n) nodes)) 0
        ≡ option_map_or (λ (l : Label). l.channel) (find (λ (l : Label). l.number == n) (cons_option (option_map (λ (m : ℕ). let l : Label = record { number = m; channel = x.channel; kind = x.kind } in l) o) (labels_in nodes))) 0
    go None f = f
    go (Some m) f = both (m == n) m f

by_visits : (entities : ℕ → Option Entity) (cs : List ℕ) (vs : List Visit) (n : ℕ)
    → option_map_or (λ (l : Label). l.channel) (find (λ (l : Label). l.number == n) (map (label_of entities cs) vs)) 0 ≡ option_map_or (λ (v : Visit). number_among cs v.channel) (find (λ (v : Visit). v.number == n) vs) 0
by_visits entities cs [] n = refl
by_visits entities cs (v ∷ vs) n = go (v.number == n) (by_visits entities cs vs n)
  where
    go : (b : Bool) → option_map_or (λ (l : Label). l.channel) (find (λ (l : Label). l.number == n) (map (label_of entities cs) vs)) 0 ≡ option_map_or (λ (u : Visit). number_among cs u.channel) (find (λ (u : Visit). u.number == n) vs) 0
        → option_map_or (λ (l : Label). l.channel) (cond b (Some (label_of entities cs v)) (find (λ (l : Label). l.number == n) (map (label_of entities cs) vs))) 0
        ≡ option_map_or (λ (u : Visit). number_among cs u.channel) (cond b (Some v) (find (λ (u : Visit). u.number == n) vs)) 0
    go true f = refl
    go false f = f

-- the channel that the arena tells is the store's
pub channel_told : (start : Seen) (entities : ℕ → Option Entity) (main n : ℕ) (tree : TreeValue) → IsTreeFrom start entities main tree → channel_in tree.nodes n ≡ channel_from start entities main n
channel_told start entities main n tree t =
    ap (λ (o : Option BareNode). option_map_or (λ (node : BareNode). node.channel) o 0) (found_first tree.nodes n)
    ∙ by_labels tree.nodes n
    ∙ ap (λ (ls : List Label). option_map_or (λ (l : Label). l.channel) (find (λ (l : Label). l.number == n) ls) 0) t.labels
    ∙ by_visits entities (channels_from start entities main) (walk_of entities main) n

-- ---- workingsteps

abbrev label_step : Label → Option ℕ
label_step l = if is_work l.kind then Some l.number else None

steps_by_labels : (nodes : List BareNode) → steps_in nodes ≡ filter_map label_step (labels_in nodes)
steps_by_labels [] = refl
steps_by_labels (x ∷ nodes) = go x.number (steps_by_labels nodes)
  where
    both : (b : Bool) (m : ℕ) → steps_in nodes ≡ filter_map label_step (labels_in nodes) → cons_option (if b then Some m else None) (steps_in nodes) ≡ cons_option (if b then Some m else None) (filter_map label_step (labels_in nodes))
    both b m f = ap (cons_option (if b then Some m else None)) f

    none : (b : Bool) → steps_in nodes ≡ filter_map label_step (labels_in nodes) → cons_option (if b then None else None) (steps_in nodes) ≡ filter_map label_step (labels_in nodes)
    none true f = f
    none false f = f

    go : (o : Option ℕ) → steps_in nodes ≡ filter_map label_step (labels_in nodes)
        → cons_option (if is_work x.kind then o else None) (steps_in nodes) ≡ filter_map label_step (cons_option (option_map (λ (m : ℕ). let l : Label = record { number = m; channel = x.channel; kind = x.kind } in l) o) (labels_in nodes))
    go None f = none (is_work x.kind) f
    go (Some m) f = both (is_work x.kind) m f

steps_by_visits : (entities : ℕ → Option Entity) (cs : List ℕ) (vs : List Visit) → filter_map label_step (map (label_of entities cs) vs) ≡ filter (λ n. is_work (kind_at (entities n))) (map (λ v. v.number) vs)
steps_by_visits entities cs [] = refl
steps_by_visits entities cs (v ∷ vs) = go (is_work (kind_at (entities v.number))) (steps_by_visits entities cs vs)
  where
    go : (b : Bool) → filter_map label_step (map (label_of entities cs) vs) ≡ filter (λ n. is_work (kind_at (entities n))) (map (λ u. u.number) vs)
        → cons_option (if b then Some v.number else None) (filter_map label_step (map (label_of entities cs) vs)) ≡ cond b (v.number ∷ filter (λ n. is_work (kind_at (entities n))) (map (λ u. u.number) vs)) (filter (λ n. is_work (kind_at (entities n))) (map (λ u. u.number) vs))
    go true f = ap (λ (ns : List ℕ). v.number ∷ ns) f
    go false f = f

-- the workingsteps that the arena tells are the store's, in the walk's order
pub steps_told : (start : Seen) (entities : ℕ → Option Entity) (main : ℕ) (tree : TreeValue) → IsTreeFrom start entities main tree → steps_in tree.nodes ≡ steps_of entities main
steps_told start entities main tree t =
    steps_by_labels tree.nodes ∙ ap (filter_map label_step) t.labels ∙ steps_by_visits entities (channels_from start entities main) (walk_of entities main)

-- ---- what nodes say

-- the first with a test's answer has it
found_has : {A : Type 0} (p : A → Bool) (xs : List A) (x : A) → find p xs ≡ Some x → p x ≡ true
found_has p [] x e = absurd (cc)
found_has p (y ∷ xs) x e = go (p y) refl e (found_has p xs x)
  where
    go : (b : Bool) → p y ≡ b → cond b (Some y) (find p xs) ≡ Some x → (find p xs ≡ Some x → p x ≡ true) → p x ≡ true
    go true h f r = let same : y ≡ x = cc in ap p (sym same) ∙ h
    go false h f r = r f

numbered_is : (o : Option ℕ) (n : ℕ) → is_numbered o n ≡ true → o ≡ Some n
numbered_is None n h = absurd (cc)
numbered_is (Some m) n h = let same : m ≡ n = grind (arith, nat_tests) in ap Some same

-- the node at a number's place has the number
pub numbered_at : (nodes : List BareNode) (n place : ℕ) → place_from 0 nodes n ≡ Some place → (node : BareNode) × (slice_get nodes place ≡ Some node) × (node.number ≡ Some n)
numbered_at nodes n place e = go (slice_get nodes place) refl
  where
    -- what stands there is the first with the number
    first : slice_get nodes place ≡ find (λ (node : BareNode). is_numbered node.number n) nodes
    first = ap (λ (o : Option ℕ). option_map_or (λ (p : ℕ). slice_get nodes p) o None) (sym e) ∙ found_first nodes n

    none : (xs : List BareNode) (i : ℕ) → find (λ (node : BareNode). is_numbered node.number n) xs ≡ None → place_from i xs n ≡ None
    none [] i f = refl
    none (x ∷ xs) i f = by (is_numbered x.number n) f (none xs (i + 1))
      where
        by : (b : Bool) → cond b (Some x) (find (λ (node : BareNode). is_numbered node.number n) xs) ≡ None
            → (find (λ (node : BareNode). is_numbered node.number n) xs ≡ None → place_from (i + 1) xs n ≡ None) → (if b then Some i else place_from (i + 1) xs n) ≡ None
        by true g h = absurd (cc)
        by false g h = h g

    go : (o : Option BareNode) → slice_get nodes place ≡ o → (node : BareNode) × (slice_get nodes place ≡ Some node) × (node.number ≡ Some n)
    go None h = let f = none nodes 0 (sym first ∙ h) in absurd (cc)
    go (Some node) h = (node, h, numbered_is node.number n (found_has (λ (x : BareNode). is_numbered x.number n) nodes node (sym first ∙ h)))

kind_by_labels : (nodes : List BareNode) (n : ℕ)
    → option_map (λ (node : BareNode). node.kind) (find (λ (node : BareNode). is_numbered node.number n) nodes) ≡ option_map (λ (l : Label). l.kind) (find (λ (l : Label). l.number == n) (labels_in nodes))
kind_by_labels [] n = refl
kind_by_labels (x ∷ nodes) n = go x.number (kind_by_labels nodes n)
  where
    both : (b : Bool) (m : ℕ) → option_map (λ (node : BareNode). node.kind) (find (λ (node : BareNode). is_numbered node.number n) nodes) ≡ option_map (λ (l : Label). l.kind) (find (λ (l : Label). l.number == n) (labels_in nodes))
        → option_map (λ (node : BareNode). node.kind) (cond b (Some x) (find (λ (node : BareNode). is_numbered node.number n) nodes))
        ≡ option_map (λ (l : Label). l.kind) (cond b (Some (record { number = m; channel = x.channel; kind = x.kind })) (find (λ (l : Label). l.number == n) (labels_in nodes)))
    both true m f = refl
    both false m f = f

    go : (o : Option ℕ) → option_map (λ (node : BareNode). node.kind) (find (λ (node : BareNode). is_numbered node.number n) nodes) ≡ option_map (λ (l : Label). l.kind) (find (λ (l : Label). l.number == n) (labels_in nodes))
        → option_map (λ (node : BareNode). node.kind) (cond (is_numbered o n) (Some x) (find (λ (node : BareNode). is_numbered node.number n) nodes))
        ≡ option_map (λ (l : Label). l.kind) (find (λ (l : Label). l.number == n) (cons_option (option_map (λ (m : ℕ). let l : Label = record { number = m; channel = x.channel; kind = x.kind } in l) o) (labels_in nodes)))
    go None f = f
    go (Some m) f = both (m == n) m f

-- the kind of the executable, where one of these has the number
abbrev kind_among : (ℕ → Option Entity) → List ℕ → ℕ → Option Kind
kind_among entities ns n = if has ns n then Some (kind_at (entities n)) else None

kind_by_visits : (entities : ℕ → Option Entity) (cs : List ℕ) (vs : List Visit) (n : ℕ)
    → option_map (λ (l : Label). l.kind) (find (λ (l : Label). l.number == n) (map (label_of entities cs) vs)) ≡ kind_among entities (map (λ (v : Visit). v.number) vs) n
kind_by_visits entities cs [] n = refl
kind_by_visits entities cs (v ∷ vs) n = go (v.number == n) refl (kind_by_visits entities cs vs n)
  where
    go : (b : Bool) → (v.number == n) ≡ b → option_map (λ (l : Label). l.kind) (find (λ (l : Label). l.number == n) (map (label_of entities cs) vs)) ≡ kind_among entities (map (λ (u : Visit). u.number) vs) n
        → option_map (λ (l : Label). l.kind) (cond b (Some (label_of entities cs v)) (find (λ (l : Label). l.number == n) (map (label_of entities cs) vs)))
        ≡ (if b || has (map (λ (u : Visit). u.number) vs) n then Some (kind_at (entities n)) else None)
    go true h f = let same : v.number ≡ n = grind (arith, nat_tests) in ap (λ (m : ℕ). Some (kind_at (entities m))) same
    go false h f = f

-- the kind that the arena tells of a number is the store's
kind_told : (start : Seen) (entities : ℕ → Option Entity) (main n : ℕ) (tree : TreeValue) → IsTreeFrom start entities main tree
    → option_map (λ (node : BareNode). node.kind) (node_in tree.nodes n) ≡ kind_among entities (nodes (tree_of entities main)) n
kind_told start entities main n tree t =
    ap (option_map (λ (node : BareNode). node.kind)) (found_first tree.nodes n)
    ∙ kind_by_labels tree.nodes n
    ∙ ap (λ (ls : List Label). option_map (λ (l : Label). l.kind) (find (λ (l : Label). l.number == n) ls)) t.labels
    ∙ kind_by_visits entities (channels_from start entities main) (walk_of entities main) n
    ∙ ap (λ (ns : List ℕ). kind_among entities ns n) (sym (nodes_walked entities 64 None main))

said_node : (entities : ℕ → Option Entity) (tree : TreeValue) (n : ℕ) → tree.said ≡ map (said_at entities) tree.nodes → said_in tree n ≡ option_map (said_at entities) (node_in tree.nodes n)
said_node entities tree n e = go (place_from 0 tree.nodes n)
  where
    go : (o : Option ℕ) → option_map_or (λ (p : ℕ). slice_get tree.said p) o None ≡ option_map (said_at entities) (option_map_or (λ (p : ℕ). slice_get tree.nodes p) o None)
    go None = refl
    go (Some p) = ap (λ (ss : List Said). slice_get ss p) e ∙ slice_get-map (said_at entities) tree.nodes p

-- what the node of a number says is what its executable says
pub said_told : (start : Seen) (entities : ℕ → Option Entity) (main n : ℕ) (tree : TreeValue) → IsTreeFrom start entities main tree
    → said_in tree n ≡ (if has (nodes (tree_of entities main)) n then Some (said_for entities (kind_at (entities n)) (entities n)) else None)
said_told start entities main n tree t =
    said_node entities tree n t.said
    ∙ go (node_in tree.nodes n) (has (nodes (tree_of entities main)) n) (kind_told start entities main n tree t)
    (λ node e. numbered_is node.number n (found_has (λ (x : BareNode). is_numbered x.number n) tree.nodes node (sym (found_first tree.nodes n) ∙ e)))
  where
    go : (o : Option BareNode) (b : Bool) → option_map (λ (node : BareNode). node.kind) o ≡ (if b then Some (kind_at (entities n)) else None)
        → ((node : BareNode) → o ≡ Some node → node.number ≡ Some n) → option_map (said_at entities) o ≡ (if b then Some (said_for entities (kind_at (entities n)) (entities n)) else None)
    go None true e h = absurd (cc)
    go None false e h = refl
    go (Some node) true e h =
        let k : node.kind ≡ kind_at (entities n) = cc in
        ap (λ (o : Option ℕ). Some (said_for entities node.kind (found_at entities o))) (h node refl) ∙ ap (λ (j : Kind). Some (said_for entities j (entities n))) k
    go (Some node) false e h = absurd (cc)

role_is : (entities : ℕ → Option Entity) (k : Kind) (found : Option Entity) → role_said (said_for entities k found) ≡ role_by k (target_of found)
role_is entities kind.Plan found = refl
role_is entities kind.Par found = refl
role_is entities kind.NonSeq found = refl
role_is entities kind.Sel found = refl
role_is entities kind.If found = refl
role_is entities kind.While found = refl
role_is entities kind.Work found = refl
role_is entities kind.Assign found = refl
role_is entities kind.Set found = refl
role_is entities kind.Wait found = refl
role_is entities kind.Note found = refl

-- the role of the node of a number is its executable's
pub role_told : (start : Seen) (entities : ℕ → Option Entity) (main n : ℕ) (tree : TreeValue) → IsTreeFrom start entities main tree
    → role_in tree n ≡ (if has (nodes (tree_of entities main)) n then role_of entities n else Free)
role_told start entities main n tree t =
    ap (λ (o : Option Said). option_map_or role_said o Free) (said_told start entities main n tree t) ∙ go (has (nodes (tree_of entities main)) n)
  where
    go : (b : Bool) → option_map_or role_said (if b then Some (said_for entities (kind_at (entities n)) (entities n)) else None) Free ≡ (if b then role_of entities n else Free)
    go true = role_is entities (kind_at (entities n)) (entities n)
    go false = refl

-- one node more
pub steps_next : (nodes : List BareNode) (i : ℕ) (node : BareNode) (old new : List ℕ) → i < length nodes → node ≡ get_or nodes i node → old ≡ filter_map step_of (take i nodes)
    → new ≡ old ++ number_or_none (step_of node) → new ≡ filter_map step_of (take (i + 1) nodes)
steps_next nodes i node old new l at h is =
    let s : suc i ≡ i + 1 = omega arith in
    let next = take_at nodes i node (slice_get_read nodes (length nodes) i node refl l at) in
    is ∙ (ap (λ (ns : List ℕ). ns ++ number_or_none (step_of node)) h
    ∙ (ap (λ (ns : List ℕ). filter_map step_of (take i nodes) ++ ns) (one (step_of node))
    ∙ (sym (filter_map-append step_of (take i nodes) (node ∷ []))
    ∙ (ap (filter_map step_of) (sym next) ∙ ap (λ (k : ℕ). filter_map step_of (take k nodes)) s))))
  where
    one : (o : Option ℕ) → number_or_none o ≡ cons_option o []
    one None = refl
    one (Some n) = refl
