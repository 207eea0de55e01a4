-- What the program's values are in the grammar: their trees.
use Rattle.std.specs.Prelude.{[], map}
use Rattle.p21_lex.specs.declared.token.TokenKind.TheVariants as kinds
use Rattle.p21_parse.specs.declared.param.Param.{Param, Int, Real, Text, Enumeration, Reference, Binary, Unset, Derived, List', Typed', Row_of-Param, end_of-Param, more_of-Param}
use Rattle.p21_parse.specs.declared.param.ParamList.{ParamList}
use Rattle.p21_parse.specs.declared.exchange.Part.{Part}
use Rattle.p21_parse.specs.declared.exchange.Instance.{Instance}
use Rattle.p21_parse.specs.declared.exchange.Exchange.{Exchange}
use Rattle.p21_parse.specs.Tree.{Tree, one, reference, list, typed, Trees, none, first, trees, PartTree, InstanceTree, ExchangeTree}

abbrev mutual
  -- the tree of a parameter
  pub tree_of : Param → Tree
  tree_of (Int text) = one kinds.Int text
  tree_of (Real text) = one kinds.Real text
  tree_of (Text text) = one kinds.Text text
  tree_of (Enumeration text) = one kinds.Enumeration text
  tree_of (Reference number) = reference number
  tree_of (Binary text) = one kinds.Binary text
  tree_of Unset = one kinds.Dollar []
  tree_of Derived = one kinds.Star []
  tree_of (List' _ row) = list (trees_in row)
  tree_of (Typed' keyword _ row) = typed keyword (trees_in row)

  -- the trees of the parameters of a list inside a parameter
  pub trees_in : {n : _} → Row_of-Param n → Trees
  trees_in end_of-Param = none
  trees_in (more_of-Param param rest) = first (tree_of param) (trees_in rest)

-- the trees of a list of parameters
abbrev pub trees_of : ParamList → Trees
trees_of ps = trees (map tree_of ps.params.items)

-- the tree of a part
abbrev pub part_of : Part → PartTree
part_of part = record { keyword = part.keyword; parameters = trees_of part.parameters }

-- the tree of an instance
abbrev pub instance_of : Instance → InstanceTree
instance_of instance = record { number = instance.number; complex = instance.complex; parts = map part_of instance.parts }

-- the tree of an exchange
abbrev pub exchange_of : Exchange → ExchangeTree
exchange_of exchange = record { head = map part_of exchange.head; items = map instance_of exchange.items }
