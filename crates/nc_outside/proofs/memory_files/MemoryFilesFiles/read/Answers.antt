use Rattle.std.proofs.Common.{◌≡◌, Some, refl, ap, length, arith, inl, inr}
use Rattle.std.specs.Prelude.{slice_get}
use Rattle.std.proofs.lemmas.Option.{slice_get_read}
use Rattle.std.proofs.lemmas.Result.{err_from_is_err_and}
use Rattle.nc_outside.specs.MemoryState.{held, IsFirst}
use Rattle.nc_outside.proofs.Named.{fault_counted, fault_rose, raised_here, held_here, no_test}
use Rattle.nc_outside.proofs.memory_files.MemoryFilesFiles.read.Goals as goal

pub returns-then-listed-clause-kept : goal.returns-then-listed-clause-kept
returns-then-listed-clause-kept c =
    let first : IsFirst c.self.inside.files.items c.args.name.now c.in-Some.i = rw (← c.deref.ensures.value, ← c.bytes.ensures) c.in-Some.ensures.found.1 in
    rw (← c.self.view_is) (λ n. (c.note_fault.ensures c.args.name.now first n).0)

pub returns-then-listed-clause-counted : goal.returns-then-listed-clause-counted
returns-then-listed-clause-counted c =
    let first : IsFirst c.self.inside.files.items c.args.name.now c.in-Some.i = rw (← c.deref.ensures.value, ← c.bytes.ensures) c.in-Some.ensures.found.1 in
    rw (← c.self.view_is) (λ n. fault_counted c.self.inside.files.items c.note_fault.new.files.items c.args.name.now c.self.inside.absent_faults (c.note_fault.ensures c.args.name.now first) n)

pub returns-then-listed-clause-failed : goal.returns-then-listed-clause-failed
returns-then-listed-clause-failed c =
    let first : IsFirst c.self.inside.files.items c.args.name.now c.in-Some.i = rw (← c.deref.ensures.value, ← c.bytes.ensures) c.in-Some.ensures.found.1 in
    rw (← c.self.view_is) (λ _. fault_rose c.self.inside.files.items c.note_fault.new.files.items c.in-Some.i c.args.name.now c.self.inside.absent_faults (c.note_fault.ensures c.args.name.now first) first)

pub returns-then-listed-clause-raises : goal.returns-then-listed-clause-raises
returns-then-listed-clause-raises c =
    let first : IsFirst c.self.inside.files.items c.args.name.now c.in-Some.i = rw (← c.deref.ensures.value, ← c.bytes.ensures) c.in-Some.ensures.found.1 in
    rw (← c.self.view_is) (λ _ n. raised_here c.self.inside.files.items c.note_fault.new.files.items c.in-Some.i c.args.name.now c.self.inside.absent_faults (c.note_fault.ensures c.args.name.now first) first n)

pub returns-then-listed-clause-fails : goal.returns-then-listed-clause-fails
returns-then-listed-clause-fails c = rw (← c.self.view_is) ((λ _. inl (rw (← c.as_slice.ensures, ← c.contains-listed.ensures.value) c.if-listed.true)), (λ _. refl))

pub returns-then-len-most-clause-too_long : goal.returns-then-len-most-clause-too_long
returns-then-len-most-clause-too_long c =
    let first : IsFirst c.self.inside.files.items c.args.name.now c.in-Some.i = rw (← c.deref.ensures.value, ← c.bytes.ensures) c.in-Some.ensures.found.1 in
    let at : slice_get c.self.inside.files.items c.in-Some.i ≡ Some c.index-file.result.now = slice_get_read _ _ c.in-Some.i _ refl (omega (arith, c.in-Some.ensures.found.0, ap length c.deref.ensures.value)) c.index-file.ensures in
    let bytes : held c.self.inside.files.items c.args.name.now ≡ Some c.index-file.result.now.bytes.items = held_here _ c.in-Some.i c.args.name.now _ first at in
    rw (← c.self.view_is) (λ _. rw bytes (omega arith))

pub returns-then-len-most-clause-fails : goal.returns-then-len-most-clause-fails
returns-then-len-most-clause-fails c =
    let first : IsFirst c.self.inside.files.items c.args.name.now c.in-Some.i = rw (← c.deref.ensures.value, ← c.bytes.ensures) c.in-Some.ensures.found.1 in
    let at : slice_get c.self.inside.files.items c.in-Some.i ≡ Some c.index-file.result.now = slice_get_read _ _ c.in-Some.i _ refl (omega (arith, c.in-Some.ensures.found.0, ap length c.deref.ensures.value)) c.index-file.ensures in
    let bytes : held c.self.inside.files.items c.args.name.now ≡ Some c.index-file.result.now.bytes.items = held_here _ c.in-Some.i c.args.name.now _ first at in
    rw (← c.self.view_is) ((λ e. absurd (cc)), λ fails. elim fails [ inl t ↦ no_test c.contains-listed.result (rw (c.contains-listed.ensures.value, c.as_slice.ensures) t) c.if-listed.false | inr none ↦ absurd (cc) ])

pub returns-in_err-extend_from_slice-clause-fails :
    goal.returns-in_err-extend_from_slice-clause-fails
returns-in_err-extend_from_slice-clause-fails c =
    let first : IsFirst c.self.inside.files.items c.args.name.now c.in-Some.i = rw (← c.deref.ensures.value, ← c.bytes.ensures) c.in-Some.ensures.found.1 in
    let at : slice_get c.self.inside.files.items c.in-Some.i ≡ Some c.index-file.result.now = slice_get_read _ _ c.in-Some.i _ refl (omega (arith, c.in-Some.ensures.found.0, ap length c.deref.ensures.value)) c.index-file.ensures in
    let bytes : held c.self.inside.files.items c.args.name.now ≡ Some c.index-file.result.now.bytes.items = held_here _ c.in-Some.i c.args.name.now _ first at in
    let p = err_from_is_err_and c.from_residual.result c.from_residual.ensures.1 in
    rw (← c.self.view_is, p.1, p.2) ((λ e. absurd (cc)), λ fails. elim fails [ inl t ↦ no_test c.contains-listed.result (rw (c.contains-listed.ensures.value, c.as_slice.ensures) t) c.if-listed.false | inr none ↦ absurd (cc) ])

pub returns-clause-whole : goal.returns-clause-whole
returns-clause-whole c =
    let first : IsFirst c.self.inside.files.items c.args.name.now c.in-Some.i = rw (← c.deref.ensures.value, ← c.bytes.ensures) c.in-Some.ensures.found.1 in
    let at : slice_get c.self.inside.files.items c.in-Some.i ≡ Some c.index-file.result.now = slice_get_read _ _ c.in-Some.i _ refl (omega (arith, c.in-Some.ensures.found.0, ap length c.deref.ensures.value)) c.index-file.ensures in
    let bytes : held c.self.inside.files.items c.args.name.now ≡ Some c.index-file.result.now.bytes.items = held_here _ c.in-Some.i c.args.name.now _ first at in
    rw (← c.self.view_is) (rw bytes (rw (c.in_ok-extend_from_slice.ensures.items, c.clear.ensures.items, c.deref-2.ensures.value) refl))

pub returns-clause-fails : goal.returns-clause-fails
returns-clause-fails c =
    let first : IsFirst c.self.inside.files.items c.args.name.now c.in-Some.i = rw (← c.deref.ensures.value, ← c.bytes.ensures) c.in-Some.ensures.found.1 in
    let at : slice_get c.self.inside.files.items c.in-Some.i ≡ Some c.index-file.result.now = slice_get_read _ _ c.in-Some.i _ refl (omega (arith, c.in-Some.ensures.found.0, ap length c.deref.ensures.value)) c.index-file.ensures in
    let bytes : held c.self.inside.files.items c.args.name.now ≡ Some c.index-file.result.now.bytes.items = held_here _ c.in-Some.i c.args.name.now _ first at in
    rw (← c.self.view_is) ((λ e. absurd (cc)), λ fails. elim fails [ inl t ↦ no_test c.contains-listed.result (rw (c.contains-listed.ensures.value, c.as_slice.ensures) t) c.if-listed.false | inr none ↦ absurd (cc) ])
