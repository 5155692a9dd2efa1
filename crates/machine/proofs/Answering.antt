-- The whole answer: the machine from nothing, cleared after an error or exhaustion, is the definition's answer, with what both rooms hold
-- below the counts and above them. Rests on Refine. Assumes nothing.
use Prim.Native.Nat.{ℕ, zero, suc, ◌+◌, ◌*◌, ◌/◌, ◌≤◌, ◌<◌, min}
use mathlib.Core.Path.{◌≡◌, refl, sym, ap, ◌∙◌, subst}
use mathlib.Core.List.{List, [], ◌∷◌, map}
use native.Mathlib.Omega.{arith}
use lib.ListN.{length, get_or, take, drop, replicate, length-map}
use Rattle.meaning.specs.Limits.{Counts, nothing_yet, cut}
use Rattle.meaning.specs.Errors.{ErrorAt, Exhausted}
use Rattle.meaning.specs.Value as Meaning
use Rattle.meaning.specs.Value.{nil, cons, value_list}
use Rattle.meaning.specs.Expr.{Expr}
use Rattle.meaning.specs.Run.{Trace}
use Rattle.meaning.specs.Comprehension as Comprehension
use Rattle.meaning.specs.Limited as Limited
use Rattle.meaning.specs.Limited.{zero_cell, holding, limited, cells_built, text_built, rooms_built, cleared, rooms_after}
use Rattle.meaning.specs.Meaning.{run}
use Rattle.meaning.specs.Heads.{got}
use Rattle.meaning.specs.Table.{read_table}
use Rattle.meaning.specs.WellFormed.{AllBytes}
use Rattle.rooms.specs.declared.value.Value.{Value}
use Rattle.rooms.specs.declared.value.CellSpace.TheVariants as Cells
use Rattle.rooms.specs.declared.scope.Scope.{Scope}
use Rattle.rooms.specs.Rooms.{Rooms, cell_at}
use Rattle.rooms.specs.Stands.{Alive, StandsCells, Stands}
use Rattle.rooms.specs.Scope.{StandsScope}
use Rattle.rooms_taking.specs.Taking.{cells_cleared, bytes_cleared}
use Rattle.rooms.proofs.ReadBack.{reads}
use Rattle.rooms_taking.proofs.Zeroed.{zeroed-length, cleared-words, cleared-bytes}
use Rattle.machine.specs.declared.outcome.Outcome.{Outcome}
use Rattle.machine.specs.Machine.{machine}
use Rattle.meaning_laws.specs.Charges.{counts_of}
use Rattle.meaning_laws.proofs.Filled.{length-values}
use Rattle.machine.specs.Refines.{used_of, error_of, limit_of, FitCells, Live, Below, Roomy, Keeps, Logged, Good, Matches, Start}
use Rattle.machine.specs.Accepted.{Accepted}
use Rattle.machine.specs.Answer.{left, answered, CellsHave, Answers}
use Rattle.machine.proofs.Keeping.{keeps-roomy}
use Rattle.machine.proofs.Taking.{zeroed-drop}
use Rattle.machine.proofs.Refine.{refines}
use Rattle.machine.proofs.AcceptedTables.{read-accepted}

-- ---- cleared lists

zeros : (n : ℕ) (t : List ℕ) → n ≤ length t → ((i : ℕ) → i < n → get_or t i 0 ≡ 0) → take n t ≡ replicate n 0
zeros zero t l h = refl
zeros (suc n) [] l h = absurd (omega arith)
zeros (suc n) (b ∷ t) l h = front (h 0 (omega arith)) ∙ ap (λ x. 0 ∷ x) (zeros n t (omega arith) (λ i k. h (suc i) (omega arith)))
  where
    front : b ≡ 0 → ◌≡◌ {A = List ℕ} (b ∷ take n t) (0 ∷ take n t)
    front e = ap (λ x. x ∷ take n t) e

-- ---- cells

reads-cells : (L : Alive) (q : Rooms) (vs : Meaning.Values) (a : ℕ) → StandsCells vs L q Cells.Evaluation a → CellsHave q a (map holding (value_list vs))
unfolding StandsCells value_list
reads-cells L q nil a h = tt
reads-cells L q (cons v vs) a h = (reads L q v (cell_at q Cells.Evaluation a) h.1, reads-cells L q vs (suc a) h.2)

zero-cells : (q : Rooms) (n a : ℕ) → ((i : ℕ) → i < (a + n) * 2 → get_or q.cells i 0 ≡ 0) → CellsHave q a (replicate n zero_cell)
zero-cells q zero a h = tt
zero-cells q (suc n) a h = ((h (a * 2) (omega arith), h (a * 2 + 1) (omega arith)), zero-cells q n (suc a) (λ i l. h i (omega arith)))

replicated : {A : Type 0} (n : ℕ) (x : A) → length (replicate n x) ≡ n
replicated zero x = refl
replicated (suc n) x = ap suc (replicated n x)

-- ---- an answer of each sort

module _ (L : Alive) (r q : Rooms) (t : Trace) (c : Counts) (k : Keeps nothing_yet c r q) where
  -- a value: the rooms hold what was built
  with_value : (v : Meaning.Value) (m : Value) → Stands v (Live L nothing_yet c) q m → Logged t L nothing_yet c q
      → Answers r q (Outcome.Value m (used_of c)) t (Limited.value v c)
  unfolding rooms_after rooms_built
  with_value v m h g =
      record {
        answer = (m, refl, reads (Live L nothing_yet c) q v m h);
        cells = reads-cells (Live L nothing_yet c) q (cells_built t) 0 g.cells;
        counted = length-map (value_list (cells_built t)) holding ∙ length-values (cells_built t) ∙ omega (arith, g.counted);
        bytes = ap (λ n. take n q.text) (same (length (text_built t)) g.bytes_counted) ∙ g.bytes;
        cells_above = k.high;
        bytes_above = k.text_high;
        sized = k.sized;
        text_sized = k.text_sized;
        literals = k.literals;
        binding_cells = k.binding_cells;
        binding_texts = k.binding_texts;
      }
    where
      same : (n : ℕ) → 0 + n ≡ c.bytes → c.bytes ≡ n
      same n e = omega arith

  -- otherwise: they are empty
  roomy : Roomy c q
  roomy = keeps-roomy nothing_yet c r q k

  empty-cells : (z : Rooms) → z.cells ≡ cells_cleared q.cells c.cells → CellsHave z 0 (replicate c.cells zero_cell)
  empty-cells z e = zero-cells z c.cells 0 (λ i l. ap (λ w. get_or w i 0) e ∙ cleared-words q.cells c.cells i (omega (arith, roomy.cells)) (omega arith))

  empty-bytes : take c.bytes (bytes_cleared q.text c.bytes) ≡ replicate c.bytes 0
  unfolding bytes_cleared
  empty-bytes =
      zeros c.bytes (bytes_cleared q.text c.bytes)
      (omega (arith, roomy.bytes, zeroed-length q.text 0 (min c.bytes (length q.text))))
      (λ i l. cleared-bytes q.text c.bytes i (omega (arith, roomy.bytes)) l)

  cells-kept : drop (c.cells * 2) (cells_cleared q.cells c.cells) ≡ drop (c.cells * 2) r.cells
  unfolding cells_cleared
  cells-kept = zeroed-drop q.cells 0 (min c.cells (length q.cells / 2) * 2) (c.cells * 2) (omega arith) ∙ k.high

  bytes-kept : drop c.bytes (bytes_cleared q.text c.bytes) ≡ drop c.bytes r.text
  unfolding bytes_cleared
  bytes-kept = zeroed-drop q.text 0 (min c.bytes (length q.text)) c.bytes (omega arith) ∙ k.text_high

  cells-sized : length (cells_cleared q.cells c.cells) ≡ length r.cells
  unfolding cells_cleared
  cells-sized = zeroed-length q.cells 0 (min c.cells (length q.cells / 2) * 2) ∙ k.sized

  bytes-sized : length (bytes_cleared q.text c.bytes) ≡ length r.text
  unfolding bytes_cleared
  bytes-sized = zeroed-length q.text 0 (min c.bytes (length q.text)) ∙ k.text_sized

  with-error : (e : ErrorAt) → Answers r (left (Outcome.Error (error_of e.error) e.place (used_of c)) q) (Outcome.Error (error_of e.error) e.place (used_of c)) t (Limited.error e c)
  unfolding rooms_after cleared
  with-error e =
      record {
        answer = refl;
        cells = empty-cells _ refl;
        counted = replicated c.cells zero_cell;
        bytes = empty-bytes;
        cells_above = cells-kept;
        bytes_above = bytes-kept;
        sized = cells-sized;
        text_sized = bytes-sized;
        literals = k.literals;
        binding_cells = k.binding_cells;
        binding_texts = k.binding_texts;
      }

  with-exhaustion : (x : Exhausted) → Answers r (left (Outcome.Exhausted (limit_of x) (used_of c)) q) (Outcome.Exhausted (limit_of x) (used_of c)) t (Limited.exhausted x c)
  unfolding rooms_after cleared
  with-exhaustion x =
      record {
        answer = refl;
        cells = empty-cells _ refl;
        counted = replicated c.cells zero_cell;
        bytes = empty-bytes;
        cells_above = cells-kept;
        bytes_above = bytes-kept;
        sized = cells-sized;
        text_sized = bytes-sized;
        literals = k.literals;
        binding_cells = k.binding_cells;
        binding_texts = k.binding_texts;
      }

-- ---- the whole answer

answer-of : (L : Alive) (r q : Rooms) (o : Outcome) (t : Trace) (end : Limited.Outcome) → Good L nothing_yet q o t end → Keeps nothing_yet (counts_of end) r q
    → Answers r (left o q) o t end
answer-of L r q o t (Limited.value v c) g k =
    subst (λ x. Answers r (left x q) x t (Limited.value v c)) (sym g.1) (with_value L r q t c k v g.0 g.2.stands g.3)
answer-of L r q o t (Limited.error e c) g k = subst (λ x. Answers r (left x q) x t (Limited.error e c)) (sym g.0) (with-error L r q t c k e)
answer-of L r q o t (Limited.exhausted x c) g k = subst (λ y. Answers r (left y q) y t (Limited.exhausted x c)) (sym g) (with-exhaustion L r q t c k x)

module _ (table src : List ℕ) (l : Counts) where
  -- From nothing, the machine's answer is the definition's: the same value when it is read out, the same error at the same record, the same
  -- exhaustion, equal counts; below the counts the rooms hold what was built, or zeros; above them they are unchanged.
  pub answers : (e : Expr) → Accepted table src e → (L : Alive) (s : Scope) (t : Comprehension.Scope) (r : Rooms) → Start l src L nothing_yet r s t
      → Answers r (answered table l.steps e s r).1 (answered table l.steps e s r).0 (run e t).0 (limited l (run e t))
  unfolding limited
  answers e w L s t r h =
      let m : Matches L nothing_yet r (machine table l.steps e s (used_of nothing_yet) r) (limited l (run e t)) (run e t).0 = refines table src l e w L s t nothing_yet r h in
      answer-of L r (machine table l.steps e s (used_of nothing_yet) r).1 (machine table l.steps e s (used_of nothing_yet) r).0 (run e t).0 (limited l (run e t)) m.good m.keeps

-- The same for a table that is accepted, with rooms of any words, under the limits that the rooms' lengths and a step limit give.
module _ (table : List ℕ) (table_bytes : AllBytes table) (limit : ℕ) (r : Rooms) where
  abbrev pub lent : Counts
  lent = record { steps = limit; cells = length r.cells / 2; bytes = length r.text }

  pub begins : (L : Alive) (s : Scope) (t : Comprehension.Scope) → Below L nothing_yet → FitCells r → StandsScope t L r s → Start (cut lent) r.literal L nothing_yet r s t
  unfolding cut
  begins L s t b f h =
      record {
        below = b;
        cell_limit = refl;
        text_limit = refl;
        literals = refl;
        roomy = record { cells = omega arith; bytes = omega arith };
        fitting = f;
        scope = h;
      }

  pub table-answers : (e : Expr) → read_table table r.literal ≡ got e → (L : Alive) (s : Scope) (t : Comprehension.Scope)
      → Below L nothing_yet → FitCells r → StandsScope t L r s
      → Answers r (answered table (cut lent).steps e s r).1 (answered table (cut lent).steps e s r).0 (run e t).0 (limited (cut lent) (run e t))
  table-answers e g L s t b f h = answers table r.literal (cut lent) e (read-accepted table r.literal table_bytes e g) L s t r (begins L s t b f h)
