-- The trees of the grammar (ISO 10303-21, exchange structure), which stand for no memory.
use Rattle.std.specs.Prelude.{ℕ, zero, suc, ◌+◌, Bool, List, [], ◌∷◌, Option, Some, None}
use Rattle.p21_lex.specs.declared.token.TokenKind.{TokenKind}

-- A parameter: one token of a kind that has its value in itself, with the bytes between its marks; a reference to an instance; a list; a
-- keyword with its parameters.
mutual
  pub data Tree : Type 0 where
    one : TokenKind → List ℕ → Tree
    reference : ℕ → Tree
    list : Trees → Tree
    typed : List ℕ → Trees → Tree

  pub data Trees : Type 0 where
    none : Trees
    first : Tree → Trees → Trees

-- these trees in a list of their own
abbrev pub trees : List Tree → Trees
trees [] = none
trees (t ∷ ts) = first t (trees ts)

-- the trees as a list
abbrev pub listed : Trees → List Tree
listed none = []
listed (first t ts) = t ∷ listed ts

-- how many trees there are
abbrev pub count : Trees → ℕ
count none = 0
count (first t ts) = 1 + count ts

-- the tree at an index, counted from 0
abbrev pub tree_at : Trees → ℕ → Option Tree
tree_at none i = None
tree_at (first t ts) zero = Some t
tree_at (first t ts) (suc i) = tree_at ts i

-- the trees, and one more behind them
abbrev pub with_last : Trees → Tree → Trees
with_last none u = first u none
with_last (first t ts) u = first t (with_last ts u)

-- A keyword with its parameters: a simple record, or an entry of the header.
pub record PartTree : Type 0 where
  pub keyword : List ℕ
  pub parameters : Trees

-- An instance with its number, simple or complex.
pub record InstanceTree : Type 0 where
  pub number : ℕ
  pub complex : Bool
  pub parts : List PartTree

-- A file: its header's entries and its instances.
pub record ExchangeTree : Type 0 where
  pub head : List PartTree
  pub items : List InstanceTree
