-- `take_cells` meets its contract. Assumes nothing.
use Prim.Native.Nat.{◌+◌, ◌≤◌, ◌*◌, ◌-◌}
use mathlib.Core.Path.{◌≡◌, sym, ap, ◌∙◌}
use native.Mathlib.Omega.{arith}
use Rattle.rooms_taking.specs.Taking.{cell_room, taken_of}
use Rattle.rooms_taking.proofs.Cleared.{cleared}
use Rattle.rooms_taking.proofs.TakingSteps.{taken-in, taken-none, cells-kept, cells-taken}
use Rattle.rooms_taking.proofs.take_cells.Goals as goal

-- the room, and what was taken of it
within : (c : goal.In_ok-taken) → (c.in_ok-taken.taken ≡ c.args.used + c.args.count) × (c.args.used + c.args.count ≤ cell_room c.args.cells.now)
within c = taken-in (cell_room c.args.cells.now) c.args.used c.args.count c.in_ok-taken.taken (ap (λ n. taken_of n c.args.used c.args.count) (sym c.cell_room.ensures) ∙ sym c.take_room.ensures ∙ c.in_ok-taken.was)

pub returns-in_err-taken : goal.returns-in_err-taken
returns-in_err-taken c = (
  c.from_residual.ensures ∙ sym c.in_err-taken.was ∙ c.take_room.ensures ∙ ap (λ n. taken_of n c.args.used c.args.count) c.cell_room.ensures,
  cells-kept c.args.cells.now c.args.used c.args.count (taken-none _ c.args.used c.args.count (ap (λ n. taken_of n c.args.used c.args.count) (sym c.cell_room.ensures) ∙ sym c.take_room.ensures ∙ c.in_err-taken.was)),
)

pub overflow_mul-used : goal.overflow_mul-used
overflow_mul-used c = record { fits = omega (arith, (within c).1, c.well_formed.0.0) }

pub overflow_mul-taken : goal.overflow_mul-taken
overflow_mul-taken c = record { fits = omega (arith, (within c).0, (within c).1, c.well_formed.0.0) }

pub offset_bounds-cells-used : goal.offset_bounds-cells-used
offset_bounds-cells-used c = record { fits = omega (arith, (within c).1, c.well_formed.0.0) }

pub slice_bounds-fill-count : goal.slice_bounds-fill-count
slice_bounds-fill-count c = omega (arith, (within c).0)

pub slice_bounds-fill-start : goal.slice_bounds-fill-start
slice_bounds-fill-start c = omega (arith, (within c).0, (within c).1)

pub slice_bounds-fill-end : goal.slice_bounds-fill-end
slice_bounds-fill-end c = omega (arith, (within c).0, (within c).1)

pub returns : goal.returns
returns c =
    let within = taken-in (cell_room c.args.cells.now) c.args.used c.args.count c.in_ok-taken.taken (ap (λ n. taken_of n c.args.used c.args.count) (sym c.cell_room.ensures) ∙ sym c.take_room.ensures ∙ c.in_ok-taken.was) in (
      sym c.in_ok-taken.was ∙ c.take_room.ensures ∙ ap (λ n. taken_of n c.args.used c.args.count) c.cell_room.ensures,
      cleared c.args.cells.now c.fill.new.self (c.args.used * 2) (c.in_ok-taken.taken * 2 - c.args.used * 2) (c.args.count * 2) (omega (arith, within.0)) (omega (arith, within.0, within.1)) (c.fill.ensures.after (λ y e. e))
          ∙ cells-taken c.args.cells.now c.args.used c.args.count within.1,
    )
