-- Whole answers: whatever the rule, the bindings and the limits, a value that comes back is well formed, and so is every value in a cell.
-- Rests on KeptEvaluation, KeptLimits, TableFormed and BindingsFormed. Assumes nothing.
use Prim.Native.Nat.{ℕ, zero, suc, ◌≤◌}
use mathlib.Core.Path.{◌≡◌, refl, subst}
use mathlib.Core.List.{List, [], ◌∷◌, map}
use Rattle.std.specs.Prelude.{Option, None, Some}
use native.Mathlib.Omega.{arith}
use lib.ListN.{replicate}
use Rattle.meaning.specs.Limits.{most_cells, most_bytes, Counts, cut, nothing_yet}
use Rattle.meaning.specs.Errors.{ErrorAt}
use Rattle.meaning.specs.Value.{Value, Values, nil, cons, value_list}
use Rattle.meaning.specs.Expr.{Expr}
use Rattle.meaning.specs.Run.{step, cells, text, nest, Trace, Result, Eval}
use Rattle.meaning.specs.Comprehension.{Scope}
use Rattle.meaning.specs.Meaning.{run}
use Rattle.meaning.specs.Limited.{Spent, through, stopped, spend, value, ended, outcome, limited, zero_cell, holding, cells_built, text_built, rooms_built, cleared, rooms_after}
use Rattle.meaning.specs.Heads.{Got, got, refused}
use Rattle.meaning.specs.Table.{read_table}
use Rattle.meaning.specs.Bindings.{BindingRoom, scope_of}
use Rattle.meaning.specs.Answer.{ran, answer_run, answer_read, answer_of}
use Rattle.meaning.specs.WellFormed.{AllBytes, WellFormed}
use Rattle.meaning_laws.specs.Formed.{Formed}
use Rattle.meaning_laws.specs.Accepted.{Accepted, BoundValue, BoundScope}
use Rattle.meaning_laws.specs.Each.{Each}
use Rattle.meaning_laws.specs.Answers.{FormedOutcome, FormedAnswer, FormedCell, FormedRooms}
use Rattle.meaning_laws.proofs.Fine.{Fine, FineElements, Perhaps, fine-well-formed, join-fine}
use Rattle.meaning_laws.proofs.Kept.{Modest, Holding, Any, Gives, KeepsEval}
use Rattle.meaning_laws.proofs.KeptNumbers.{bytes-joined}
use Rattle.meaning_laws.proofs.KeptLoop.{FineScope}
use Rattle.meaning_laws.proofs.KeptEvaluation.{run-kept}
use Rattle.meaning_laws.proofs.KeptLimits.{small-fine, spent-modest}
use Rattle.meaning_laws.proofs.TableFormed.{accepted-table-formed}
use Rattle.meaning_laws.proofs.BindingsFormed.{accepted-scope}

-- ---- scopes

fine-slot : (o : Option Value) → ((v : Value) → o ≡ Some v → BoundValue v) → Perhaps Fine o
fine-slot None h = tt
fine-slot (Some v) h = let b = h v refl in small-fine v b.formed.sound b.formed.nests b.cells_fit b.bytes_fit

fine-scope : (s : Scope) → BoundScope s → FineScope s
fine-scope s h n = fine-slot (s n) (h n)

-- ---- rooms

built-cells : (t : Trace) → Each Holding t → FineElements (cells_built t)
unfolding cells_built
built-cells [] h = tt
built-cells (step ∷ t) h = built-cells t h.1
built-cells (cells vs ∷ t) h = join-fine vs (cells_built t) h.0 (built-cells t h.1)
built-cells (text s ∷ t) h = built-cells t h.1
built-cells (nest d ∷ t) h = built-cells t h.1

built-bytes : (t : Trace) → Each Holding t → AllBytes (text_built t)
unfolding text_built
built-bytes [] h = tt
built-bytes (step ∷ t) h = built-bytes t h.1
built-bytes (cells vs ∷ t) h = built-bytes t h.1
built-bytes (text s ∷ t) h = bytes-joined s (text_built t) h.0 (built-bytes t h.1)
built-bytes (nest d ∷ t) h = built-bytes t h.1

cells-formed : (vs : Values) → FineElements vs → Each FormedCell (map holding (value_list vs))
unfolding value_list
cells-formed nil h = tt
cells-formed (cons v vs) h = (fine-well-formed v h.0, cells-formed vs h.1)

zero-cells : (n : ℕ) → Each FormedCell (replicate n zero_cell)
zero-cells zero = tt
zero-cells (suc n) = (tt, zero-cells n)

zero-bytes : (n : ℕ) → AllBytes (replicate n 0)
zero-bytes zero = tt
zero-bytes (suc n) = (omega arith, zero-bytes n)

built-formed : (t : Trace) → Each Holding t → FormedRooms (rooms_built t)
unfolding rooms_built
built-formed t h = record { cells_formed = cells-formed (cells_built t) (built-cells t h); bytes_formed = built-bytes t h }

cleared-formed : (c : Counts) → FormedRooms (cleared c)
unfolding cleared
cleared-formed c = record { cells_formed = zero-cells c.cells; bytes_formed = zero-bytes c.bytes }

-- ---- runs under limits

module _ (lent : Counts) (r : Eval Value) (k : KeepsEval Fine r) where
  outcome-formed : FormedOutcome (limited (cut lent) r) × FormedRooms (rooms_after r.0 (limited (cut lent) r))
  unfolding limited outcome rooms_after
  outcome-formed = go (spend (cut lent) r.0 nothing_yet) (spent-modest (cut lent) few.0 few.1 r.0 nothing_yet)
    where
      few : ((cut lent).cells ≤ most_cells) × ((cut lent).bytes ≤ most_bytes)
      few = unfold cut in omega arith

      end : (x : Result ErrorAt Value) (d : Counts) → Gives Any Fine x → Each Holding r.0
          → FormedOutcome (ended x d) × FormedRooms (rooms_after r.0 (ended x d))
      end (Result.value v) d f h = unfold ended in (fine-well-formed v f, built-formed r.0 h)
      end (Result.error e) d f h = unfold ended in (tt, cleared-formed d)

      go : (y : Spent) → ((d : Counts) → y ≡ through d → Each Modest r.0)
          → FormedOutcome (outcome r.1 y) × FormedRooms (rooms_after r.0 (outcome r.1 y))
      go (through d) m = end r.1 d (k.gives (m d refl)) (k.held (m d refl))
      go (stopped x d) m = (tt, cleared-formed d)

-- ---- the theorems

-- Under any limits, and from well-formed bindings, a rule gives a well-formed value if it gives one: numbers in range, Strings in UTF-8, no
-- two keys of a map that match, and nesting of at most 32.
pub value-well-formed : (e : Expr) → Formed e → (s : Scope) → BoundScope s → (lent : Counts) (v : Value) (c : Counts)
    → limited (cut lent) (run e s) ≡ value v c → WellFormed v
value-well-formed e w s b lent v c h = subst FormedOutcome h (outcome-formed lent (run e s) (run-kept e w s (fine-scope s b))).0

run-formed : (lent : Counts) (e : Expr) → Formed e → (s : Scope) → BoundScope s
    → FormedAnswer (answer_run (cut lent) (run e s)).answer × FormedRooms (answer_run (cut lent) (run e s)).rooms
unfolding answer_run
run-formed lent e w s b = outcome-formed lent (run e s) (run-kept e w s (fine-scope s b))

-- For every table and text, every accepted binding room and whatever is lent: a value that comes back is well formed, and afterwards every
-- cell below the counts is zero or holds a well-formed value, and every byte is a byte.
pub answer-formed : (table literal : List ℕ) → AllBytes table → AllBytes literal → {lent_cells lent_bytes : ℕ} {room : BindingRoom}
    → Accepted lent_cells lent_bytes room → (lent : Counts)
    → FormedAnswer (answer_of table literal room lent).answer × FormedRooms (answer_of table literal room lent).rooms
unfolding answer_of answer_read
answer-formed table literal ht hx {room} a lent = go (read_table table literal) (accepted-table-formed table literal ht hx)
  where
    go : (g : Got Expr) → ((e : Expr) → g ≡ got e → Formed e)
        → FormedAnswer (answer_read (cut lent) (scope_of room) g).answer × FormedRooms (answer_read (cut lent) (scope_of room) g).rooms
    go (got e) h = run-formed lent e (h e refl) (scope_of room) (accepted-scope a)
    go (refused r p) h = (tt, record { cells_formed = tt; bytes_formed = tt })

-- So a value that comes back for a table, whatever the bindings and the limits, is well formed.
pub answer-well-formed : (table literal : List ℕ) → AllBytes table → AllBytes literal → {lent_cells lent_bytes : ℕ} {room : BindingRoom}
    → Accepted lent_cells lent_bytes room → (lent : Counts) (v : Value) (c : Counts) → (answer_of table literal room lent).answer ≡ ran (value v c) → WellFormed v
answer-well-formed table literal ht hx a lent v c e = subst FormedAnswer e (answer-formed table literal ht hx a lent).0
