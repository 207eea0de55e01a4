use Rattle.std.proofs.Common.{◌≡◌, ◌≤◌, ◌+◌, ◌++◌, [], ℕ, List, length, map, take, drop, subst, sym, ap, ◌∙◌, arith, rules}
use Rattle.std.specs.Prelude.{slice_range}
use Rattle.std.proofs.lemmas.List.{take_rest, length-drop, length-map}
use Rattle.p21_parse.specs.declared.limits.TheConstants.{MAX_INSTANCES}
use Rattle.p21_parse.specs.declared.exchange.Instance.{Instance}
use Rattle.p21_parse.specs.View.{instance_of, exchange_of}
use Rattle.p21_slices.specs.Slices.{IsWhole}
use Rattle.project_read.specs.Gathered.{IsGathered}
use Rattle.project_read.proofs.Progress.{begun, few_still, goes_on}
use Rattle.project_read.proofs.slices.gather.Goals as goal

pub loop-gathered-init : goal.loop-gathered-init
loop-gathered-init c =
    let x = exchange_of c.args.front.now.exchange in
    let kept : IsGathered x.items c.add.new.self = subst (λ (is : List Instance). IsGathered (map instance_of is) c.add.new.self) c.as_slice.ensures (c.in_ok-add.ensures [] c.new-gathered.ensures) in
    begun c.args.bytes.now c.args.front.now.len x c.add.new.self c.requires.front kept c.requires.few c.requires.within

pub loop-gathered-preserved : goal.loop-gathered-preserved
loop-gathered-preserved c =
    let bytes = c.args.bytes.now in
    let at = c.loop-gathered.at in
    let len = c.in-Some.len in
    let read = c.loop-gathered.invariant in
    let items = map instance_of c.in-Some.items in
    let old = c.loop-gathered.gathered in
    let new = c.add-in-Some.new.self in
    let given : IsWhole (take len (slice_range bytes at (length bytes))) items = search rules in
    let slice : IsWhole (take len (drop at bytes)) items = subst (λ (b : List ℕ). IsWhole (take len b) items) (take_rest bytes at) given in
    let room : len ≤ length (slice_range bytes at (length bytes)) = search rules in
    let inside : len ≤ length (drop at bytes) = subst (λ (b : List ℕ). len ≤ length b) (take_rest bytes at) room in
    let kept : IsGathered (read.exchange.items ++ items) new = subst (λ (is : List Instance). IsGathered (read.exchange.items ++ map instance_of is) new) c.as_slice-in-Some-2.ensures (c.in_ok-add-2.ensures read.exchange.items read.gathered) in
    let few : length old.numbers.items + length c.as_slice-in-Some.result.now ≤ MAX_INSTANCES = search rules in
    let many : length items ≡ length c.as_slice-in-Some.result.now = length-map c.in-Some.items instance_of ∙ ap length (sym c.as_slice-in-Some.ensures) in
    goes_on bytes at len items old new read slice kept (few_still read.exchange.items items old.numbers.items (length c.as_slice-in-Some.result.now) read.gathered.numbers few many) (omega (arith, inside, length-drop at bytes, read.within))
