-- The waits of a tree for each mark, in the order of places.
use Rattle.std.specs.Prelude.{◌≡◌, ◌<◌, ◌≤◌, ◌+◌, nat_lt, if◌then◌else◌, ℕ, List, length, slice_get, unwrap_or, Option, Some, None, MatchOption}
use Rattle.exec_tree.specs.Built.{TreeValue, channel_in, role_in}
use Rattle.exec_tree.specs.Walked.{place_from}
use Rattle.exec_tree.specs.declared.limits.TheConstants.{MAX_CHANNELS}
use Rattle.exec_tree.specs.declared.node.BareNode.{BareNode}
use Rattle.exec_tree.specs.declared.role.Role.{Role}
use Rattle.exec_tree.specs.declared.role.Role.TheVariants as role
use Rattle.tree_table.specs.Placed.{number_at}
use Rattle.place_classes.specs.declared.class.Class.{Class}
use Rattle.place_classes.specs.declared.class.Class.TheVariants.{Free}
use Rattle.place_classes.specs.Classes.{class_at}
use Rattle.run_frames.specs.declared.waits.Link.{Link}

-- the place of the mark for which a node of this role waits
abbrev pub mark_by : List BareNode → Role → Option ℕ
mark_by nodes role.Cutting = None
mark_by nodes (role.Waiting mark) = place_from 0 nodes mark
mark_by nodes role.Free = None

-- the same of the node at a place
abbrev pub mark_at : TreeValue → ℕ → Option ℕ
mark_at tree q = mark_by tree.nodes (role_in tree (number_at tree.nodes q))

-- the wait at a place, with its channel
abbrev pub link_to : List BareNode → ℕ → Link
link_to nodes p = record { place = p; channel = channel_in nodes (number_at nodes p) }

-- the wait that a place links to
abbrev pub link_at : List (Option Link) → ℕ → Option Link
link_at links place = unwrap_or (slice_get links place) None

-- the wait at the least place from this one on, of so many places, where is waited for the mark at place m; none where there is none
abbrev pub IsNextWait : TreeValue → ℕ → ℕ → Option Link → Type 0
IsNextWait tree m from found =
    MatchOption found ((q : ℕ) → from ≤ q → q < length tree.nodes → mark_at tree q ≡ Some m → ⊥)
    (λ w. (mark_at tree w.place ≡ Some m) × (from ≤ w.place) × (w.place < length tree.nodes) × ((q : ℕ) → from ≤ q → q < w.place → mark_at tree q ≡ Some m → ⊥) × (w.channel ≡ channel_in tree.nodes (number_at tree.nodes w.place)))

-- of the waits from this place on the first for each mark, and of each the next for the same mark
pub record AreLinkedFrom (tree : TreeValue) (from : ℕ) (first later : List (Option Link)) : Type 0 where
  pub first_long : length first ≡ length tree.nodes
  pub later_long : length later ≡ length tree.nodes
  pub firsts : (m : ℕ) → m < length tree.nodes → IsNextWait tree m from (link_at first m)
  pub laters : (m q : ℕ) → from ≤ q → q < length tree.nodes → mark_at tree q ≡ Some m → IsNextWait tree m (q + 1) (link_at later q)

-- of all waits
abbrev pub AreLinked : TreeValue → List (Option Link) → List (Option Link) → Type 0
AreLinked tree first later = AreLinkedFrom tree 0 first later

-- the class of a wait of this channel once its mark is released
abbrev pub class_freed : ℕ → Class → Class
class_freed channel class = if nat_lt channel MAX_CHANNELS then Free channel else class

-- the waits for the mark at place m are free, and each other place is of the class that it was
pub record AreFreed (tree : TreeValue) (m : ℕ) (old new : List Class) : Type 0 where
  pub long : length new ≡ length old
  pub freed : (q : ℕ) → q < length tree.nodes → mark_at tree q ≡ Some m → class_at new q ≡ class_freed (channel_in tree.nodes (number_at tree.nodes q)) (class_at old q)
  pub kept : (q : ℕ) → (mark_at tree q ≡ Some m → ⊥) → class_at new q ≡ class_at old q

-- the place lies before this wait, where there is one
abbrev pub IsBefore : Option Link → ℕ → Type 0
IsBefore None q = Unit {0}
IsBefore (Some w) q = q < w.place

-- the waits for the mark at place m that lie before this one, which is the next, are free, and each other place is of the class that it was
pub record AreFreedTo (tree : TreeValue) (m : ℕ) (at : Option Link) (old new : List Class) : Type 0 where
  pub long : length new ≡ length old
  pub is_wait : MatchOption at (Unit {0}) (λ w. (mark_at tree w.place ≡ Some m) × (w.place < length tree.nodes) × (w.channel ≡ channel_in tree.nodes (number_at tree.nodes w.place)))
  pub freed : (q : ℕ) → q < length tree.nodes → IsBefore at q → mark_at tree q ≡ Some m → class_at new q ≡ class_freed (channel_in tree.nodes (number_at tree.nodes q)) (class_at old q)
  pub kept : (q : ℕ) → (IsBefore at q → mark_at tree q ≡ Some m → ⊥) → class_at new q ≡ class_at old q
