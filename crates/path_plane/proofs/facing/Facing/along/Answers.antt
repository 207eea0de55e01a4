use Rattle.std.proofs.Common.{rules, ◌≤◌, FitsSigned, w64, unsigned_abs}
use Rattle.path_plane.proofs.Numbers.{facing_ranges, course_abs, times_abs, times_fits, times_back}
use Rattle.path_plane.proofs.facing.Facing.along.Goals as goal
use Rattle.path_plane.specs.declared.facing.Facing.{Facing}

short_x : (f : Facing) → unsigned_abs f.ux ≤ 1
short_x f = (course_abs f.ux f.uy (facing_ranges f).course).0

short_y : (f : Facing) → unsigned_abs f.uy ≤ 1
short_y f = (course_abs f.ux f.uy (facing_ranges f).course).1

pub overflow_mul-result : goal.overflow_mul-result
overflow_mul-result c =
    let f : FitsSigned w64 c.args.self.now.ux = search rules in
    let g : FitsSigned w64 c.args.self.now.length = search rules in
    times_fits c.args.self.now.ux c.args.self.now.length f g (short_x c.args.self.now) (facing_ranges c.args.self.now).len_within

pub overflow_mul-result-2 : goal.overflow_mul-result-2
overflow_mul-result-2 c =
    let f : FitsSigned w64 c.args.self.now.uy = search rules in
    let g : FitsSigned w64 c.args.self.now.length = search rules in
    times_fits c.args.self.now.uy c.args.self.now.length f g (short_y c.args.self.now) (facing_ranges c.args.self.now).len_within

pub returns-clause-x : goal.returns-clause-x
returns-clause-x c =
    let f : FitsSigned w64 c.args.self.now.ux = search rules in
    let g : FitsSigned w64 c.args.self.now.length = search rules in
    times_back c.args.self.now.ux c.args.self.now.length f g (short_x c.args.self.now) (facing_ranges c.args.self.now).len_within

pub returns-clause-y : goal.returns-clause-y
returns-clause-y c =
    let f : FitsSigned w64 c.args.self.now.uy = search rules in
    let g : FitsSigned w64 c.args.self.now.length = search rules in
    times_back c.args.self.now.uy c.args.self.now.length f g (short_y c.args.self.now) (facing_ranges c.args.self.now).len_within

pub returns-clause-short_x : goal.returns-clause-short_x
returns-clause-short_x c =
    let f : FitsSigned w64 c.args.self.now.ux = search rules in
    let g : FitsSigned w64 c.args.self.now.length = search rules in
    rw (times_back c.args.self.now.ux c.args.self.now.length f g (short_x c.args.self.now) (facing_ranges c.args.self.now).len_within)
    (times_abs c.args.self.now.ux c.args.self.now.length (short_x c.args.self.now) (facing_ranges c.args.self.now).len_within)

pub returns-clause-short_y : goal.returns-clause-short_y
returns-clause-short_y c =
    let f : FitsSigned w64 c.args.self.now.uy = search rules in
    let g : FitsSigned w64 c.args.self.now.length = search rules in
    rw (times_back c.args.self.now.uy c.args.self.now.length f g (short_y c.args.self.now) (facing_ranges c.args.self.now).len_within)
    (times_abs c.args.self.now.uy c.args.self.now.length (short_y c.args.self.now) (facing_ranges c.args.self.now).len_within)
