use Rattle.p21_lex.proofs.Slices.{call_found, call_only, call_reads, call_exact, call_inside, call_within, call_filled, call_refused, call_refuses}
use Rattle.p21_lex.proofs.slice.slice_tokens.Goals as goal

pub returns-clause-found : goal.returns-clause-found
returns-clause-found c = call_found c.args.least c.args.bytes.now c.first_slice.result c.first_slice.ensures

pub returns-clause-only : goal.returns-clause-only
returns-clause-only c = call_only c.args.least c.args.bytes.now c.first_slice.result c.first_slice.ensures

pub returns-clause-refused : goal.returns-clause-refused
returns-clause-refused c = call_refused c.args.least c.args.bytes.now c.first_slice.result c.first_slice.ensures

pub returns-clause-refuses : goal.returns-clause-refuses
returns-clause-refuses c = call_refuses c.args.least c.args.bytes.now c.first_slice.result c.first_slice.ensures

pub returns-clause-reads : goal.returns-clause-reads
returns-clause-reads c = call_reads c.args.least c.args.bytes.now c.first_slice.result c.first_slice.ensures

pub returns-clause-exact : goal.returns-clause-exact
returns-clause-exact c = call_exact c.args.least c.args.bytes.now c.first_slice.result c.first_slice.ensures

pub returns-clause-inside : goal.returns-clause-inside
returns-clause-inside c = call_inside c.args.least c.args.bytes.now c.first_slice.result c.first_slice.ensures

pub returns-clause-within : goal.returns-clause-within
returns-clause-within c = call_within c.args.least c.args.bytes.now c.first_slice.result c.first_slice.ensures

pub returns-clause-filled : goal.returns-clause-filled
returns-clause-filled c = call_filled c.args.least c.args.bytes.now c.first_slice.result c.first_slice.ensures
