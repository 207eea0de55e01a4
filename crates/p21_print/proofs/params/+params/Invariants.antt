use Rattle.p21_parse.specs.View.{tree_of, trees_of}
use Rattle.p21_print.proofs.Adding.{Reaches}
use Rattle.p21_print.proofs.Listing.{in_parentheses, others}
use Rattle.p21_print.proofs.Sizes.{size, sizes}
use Rattle.p21_print.proofs.params.+params.Given as goal

abbrev pub decreases-put_param : goal.decreases-put_param
decreases-put_param l = size (tree_of l.param.now)

abbrev pub decreases-put_list : goal.decreases-put_list
decreases-put_list l = sizes (trees_of l.params.now)

abbrev pub invariant-put_list-loop-param : goal.invariant-put_list-loop-param
invariant-put_list-loop-param l = Reaches (in_parentheses (trees_of l.params)) (others l.more l.param-index) l.fn.out.items l.out.items
