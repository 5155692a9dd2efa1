-- What is left of a row to be copied, in the rooms as they are: a cell more, and nothing left. Assumes nothing.
use Prim.Native.Nat.{ℕ, ◌+◌, ◌-◌, ◌≤◌, ◌<◌}
use mathlib.Core.Path.{◌≡◌, refl, ap}
use mathlib.Core.List.{List}
use native.Mathlib.Omega.{arith}
use Rattle.rooms.specs.declared.value.Row.{Row}
use Rattle.rooms.specs.Cells.{written_in}
use Rattle.rooms.specs.declared.value.TextSpace.{TextSpace}
use Rattle.rooms.specs.Rooms.{Rooms, with_words, cell_at, text_of}
use Rattle.rooms_taking.specs.Taking.{copied, pasted}
use Rattle.rooms_taking.proofs.TakingSteps.{copy-on, copy-none, paste-on, paste_none}
use lib.ListN.{get_or, set}

-- the rooms once the cells of the row from `done` on are copied too
pub copies : Row → ℕ → ℕ → Rooms → Rooms
copies row to done r = with_words r (copied r.binding_cells row.space r.cells (row.first + done) (to + done) (row.length - done))

pub copies-all : (row : Row) (to : ℕ) (r : Rooms) → copies row to 0 r ≡ with_words r (copied r.binding_cells row.space r.cells row.first to row.length)
unfolding copies
copies-all row to r = let p : row.first + 0 ≡ row.first = omega arith in let q : to + 0 ≡ to = omega arith in let s : row.length - 0 ≡ row.length = omega arith in rw (p, q, s)

pub copies-on : (row : Row) (to done : ℕ) (r : Rooms) → done < row.length
    → copies row to (done + 1) (with_words r (written_in r.cells (to + done) (cell_at r row.space (row.first + done)))) ≡ copies row to done r
unfolding copies cell_at
copies-on row to done r h =
    let p : row.first + (done + 1) ≡ (row.first + done) + 1 = omega arith in
    let q : to + (done + 1) ≡ (to + done) + 1 = omega arith in
    let s : row.length - (done + 1) ≡ (row.length - done) - 1 = omega arith in
    rw (p, q, s) (ap (with_words r) (copy-on r.binding_cells row.space r.cells _ (row.first + done) (to + done) (row.length - done) (omega arith) refl))

pub copies-none : (row : Row) (to done : ℕ) (r : Rooms) → row.length ≤ done → r ≡ copies row to done r
unfolding copies
copies-none row to done r h = ap (with_words r) (copy-none r.binding_cells row.space r.cells (row.first + done) (to + done) (row.length - done) (omega arith))

-- ---- the same of bytes
pub pastes : (l b : List ℕ) (space : TextSpace) (t : List ℕ) (a to n done : ℕ) → List ℕ
pastes l b space t a to n done = pasted l b space t (a + done) (to + done) (n - done)

pub pastes-all : (l b : List ℕ) (space : TextSpace) (t : List ℕ) (a to n : ℕ) → pastes l b space t a to n 0 ≡ pasted l b space t a to n
unfolding pastes
pastes-all l b space t a to n = let p : a + 0 ≡ a = omega arith in let q : to + 0 ≡ to = omega arith in let s : n - 0 ≡ n = omega arith in rw (p, q, s)

pub pastes-on : (l b : List ℕ) (space : TextSpace) (t : List ℕ) (a to n done : ℕ) → done < n
    → pastes l b space (set t (to + done) (get_or (text_of l b t space) (a + done) 0)) a to n (done + 1) ≡ pastes l b space t a to n done
unfolding pastes
pastes-on l b space t a to n done h =
    let p : a + (done + 1) ≡ (a + done) + 1 = omega arith in
    let q : to + (done + 1) ≡ (to + done) + 1 = omega arith in
    let s : n - (done + 1) ≡ (n - done) - 1 = omega arith in
    rw (p, q, s) (paste-on l b space t _ (a + done) (to + done) (n - done) (omega arith) refl)

pub pastes-none : (l b : List ℕ) (space : TextSpace) (t : List ℕ) (a to n done : ℕ) → n ≤ done → t ≡ pastes l b space t a to n done
unfolding pastes
pastes-none l b space t a to n done h = paste_none l b space t (a + done) (to + done) (n - done) (omega arith)
