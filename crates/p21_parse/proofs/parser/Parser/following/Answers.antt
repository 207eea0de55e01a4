use Rattle.std.proofs.Common.{◌≡◌, ◌<◌, ◌≤◌, length, map, ap, ◌∙◌, arith}
use Rattle.std.proofs.lemmas.List.{map_push, length-map, length_push}
use Rattle.p21_parse.specs.View.{instance_of}
use Rattle.p21_parse.proofs.Parting.{one_instance}
use Rattle.p21_parse.proofs.Followed.{follow_many, follow_fault}
use Rattle.p21_parse.proofs.parser.Parser.following.Goals as goal

pub returns-then-len-most-clause-refused : goal.returns-then-len-most-clause-refused
returns-then-len-most-clause-refused c =
    let few = c.loop-number.invariant.1 in
    let full : length (map instance_of c.loop-number.items) ≡ c.args.most = omega (arith, c.len.ensures, length-map c.loop-number.items instance_of, few) in
    follow_many c.args.self.now c.args.from c.args.most c.loop-number.rest c.in-Some.number (map instance_of c.loop-number.items) c.loop-number.invariant.0 c.in-Some.ensures.found c.place.result c.requires.parser full c.place.ensures

pub returns-in-Err-clause-refused : goal.returns-in-Err-clause-refused
returns-in-Err-clause-refused c =
    let room : length (map instance_of c.loop-number.items) < c.args.most = omega (arith, c.len.ensures, length-map c.loop-number.items instance_of) in
    follow_fault c.args.self.now c.args.from c.args.most c.loop-number.rest c.in-Some.number (map instance_of c.loop-number.items) c.loop-number.invariant.0 c.in-Some.ensures.found c.in-Err.stop c.fault.result room c.in-Err.ensures.refused
    c.fault.ensures

pub loop-number-preserved : goal.loop-number-preserved
loop-number-preserved c =
    let pushed : map instance_of c.push.new.self ≡ _ = ap (map instance_of) c.in_ok-push.ensures.ok ∙ map_push instance_of c.loop-number.items c.in-Ok.read.0 in
    let long = ap length c.in_ok-push.ensures.ok in
    let more : length (map instance_of c.push.new.self) ≤ c.args.most =
    omega (arith, c.len.ensures, length-map c.push.new.self instance_of, long, length_push c.loop-number.items c.in-Ok.read.0) in (
      one_instance c.args.self.now c.args.from c.loop-number.rest c.in-Ok.read.1 c.in-Some.number (instance_of c.in-Ok.read.0) (map instance_of c.loop-number.items) (map instance_of c.push.new.self) pushed c.in-Ok.ensures.number
          c.loop-number.invariant.0 c.in-Some.ensures.found c.in-Ok.ensures.read c.in-Ok.ensures.is,
      more,
    )
