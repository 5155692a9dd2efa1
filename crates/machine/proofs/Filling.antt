-- A container being filled: its cells are taken as its record begins; those that are ready stand for values, the others are Null and are
-- reached by nothing alive. What runs, is stored or counted meanwhile. Rests on Charges, Words. Assumes nothing.
use Prim.Native.Nat.{ℕ, zero, suc, ◌+◌, ◌-◌, ◌/◌, ◌≤◌, ◌<◌, min}
use mathlib.Core.Path.{◌≡◌, refl, sym, ap, ap₂, ◌∙◌, subst}
use mathlib.Core.Logic.{◌⊎◌, inl, inr}
use mathlib.Core.List.{List, [], ◌∷◌, ◌++◌}
use native.Mathlib.Omega.{arith}
use lib.ListN.{length, length-append}
use Rattle.meaning.specs.Limits.{Counts, most_cells}
use Rattle.meaning.specs.Value as Meaning
use Rattle.meaning.specs.Value.{Values, nil, cons, count, join}
use Rattle.meaning.specs.Run.{cells, Trace}
use Rattle.meaning.specs.Containers.{pad}
use Rattle.meaning.specs.Comprehension as Comprehension
use Rattle.meaning.specs.Limited.{cells_built, text_built}
use Rattle.rooms.specs.declared.value.Value.{Value}
use Rattle.rooms.specs.declared.value.CellSpace.{CellSpace}
use Rattle.rooms.specs.declared.value.CellSpace.TheVariants as Cells
use Rattle.rooms.specs.declared.scope.Scope.{Scope}
use Rattle.rooms.specs.Cells.{settled, Fits}
use Rattle.rooms.specs.Rooms.{Rooms, cell_at, part}
use Rattle.rooms.specs.Stands.{Alive, StandsScalar, Stands, StandsCells, Agrees}
use Rattle.rooms_taking.proofs.Built.{settled-stands}
use Rattle.meaning_laws.proofs.Fine.{pad-count, join-count}
use Rattle.rooms.proofs.Frame.{frame, frame-cells, part_same}
use Rattle.machine.specs.Outcomes.{written}
use Rattle.machine.specs.Refines.{Live, Upto, Roomy, Keeps, Logged, Start}
use Rattle.machine.proofs.Words.{low-cell, store_same, store_other, store_keeps}
use Rattle.machine.proofs.Keeping.{upto-same, upto-then, keeps-agrees, roomy-same, agrees-sub, agrees-narrow}
use Rattle.machine.proofs.Traces.{stands-join, cells-append, text-append, part-add}
use Rattle.machine.proofs.Match.{move}
use Rattle.machine.proofs.Charges.{walked, start-walked}
use Rattle.machine.proofs.Taking as Taking
use Rattle.machine.proofs.Taking.{took, taken-keeps, taken-null}
use Rattle.rooms.proofs.Scopes.{scope-frame}

-- ---- cells, and Null behind them

pad-split : (vs : Values) (n z : ℕ) → count vs + z ≡ n → pad n vs ≡ join vs (pad z nil)
unfolding join count pad
pad-split nil n z e = ap (λ x. pad x nil) (zero_left z n e)
  where
    zero_left : (z n : ℕ) → 0 + z ≡ n → n ≡ z
    zero_left z n e = omega arith
pad-split (cons v vs) zero z e = absurd (omega arith)
pad-split (cons v vs) (suc n) z e = ap (cons v) (pad-split vs n z (omega arith))

null_cells : (M : Alive) (q : Rooms) (z k : ℕ) → ((i : ℕ) → k ≤ i → i < k + z → M.cells Cells.Evaluation i) → ((i : ℕ) → k ≤ i → i < k + z → cell_at q Cells.Evaluation i ≡ Value.Null) → StandsCells (pad z nil) M q Cells.Evaluation k
unfolding Stands StandsScalar pad
null_cells M q zero k a b = tt
null_cells M q (suc z) k a b = (a k (omega arith) (omega arith), b k (omega arith) (omega arith), null_cells M q z (suc k) (λ i f g. a i (omega arith) (omega arith)) (λ i f g. b i (omega arith) (omega arith)))

rest_of : (a n : ℕ) → a ≤ n → (z : ℕ) × (a + z ≡ n)
rest_of a n h = (n - a, omega arith)

-- what is alive once a value is stored in cell k
abbrev pub Stored : Alive → ℕ → Alive
Stored M k = record { cells = λ space i. M.cells space i ⊎ ((space ≡ Cells.Evaluation) × (i ≡ k)); bytes = M.bytes }

store-agrees : (M : Alive) (q : Rooms) (k : ℕ) (m : Value) → ((i : ℕ) → M.cells Cells.Evaluation i → i ≡ k → ⊥) → Agrees M (Stored M k) q (written q k m)
store-agrees M q k m h = record { sub = λ space i y. inl y; same = same; longer = omega arith; texts = refl; literals = refl; binding_texts = refl }
  where
    same : (space : CellSpace) (i : ℕ) → M.cells space i → cell_at (written q k m) space i ≡ cell_at q space i
    same Cells.Binding i y = unfold cell_at in refl
    same Cells.Evaluation i y = store_other q k i m (h i y)

module _ (l : Counts) (src : List ℕ) where
  -- of n cells taken at the counts o, with B alive then, those with the values rc are ready; tr is the trace since then
  pub record Filling (B L : Alive) (o : Counts) (n : ℕ) (rc : Values) (tr : Trace) (u : Counts) (r : Rooms) (s : Scope) (t : Comprehension.Scope) : Type 0 where
    pub begun : Start l src L u r s t
    pub sub : (space : CellSpace) (i : ℕ) → L.cells space i → (Live B o u).cells space i
    pub hole : (i : ℕ) → L.cells Cells.Evaluation i → o.cells + count rc ≤ i → i < o.cells + n → ⊥
    pub filled : StandsCells rc L r Cells.Evaluation o.cells
    pub inside : count rc ≤ n
    pub taken : o.cells + n ≤ u.cells
    pub nulls : (i : ℕ) → o.cells + count rc ≤ i → i < o.cells + n → cell_at r Cells.Evaluation i ≡ Value.Null
    pub built : StandsCells (cells_built tr) L r Cells.Evaluation (o.cells + n)
    pub counted : o.cells + n + count (cells_built tr) ≡ u.cells
    pub bytes : part r.text o.bytes (length (text_built tr)) ≡ text_built tr
    pub bytes_counted : o.bytes + length (text_built tr) ≡ u.bytes

  module _ {B L : Alive} {o : Counts} {n : ℕ} {rc : Values} {tr : Trace} {u : Counts} {r : Rooms} {s : Scope} {t : Comprehension.Scope} (a : Filling B L o n rc tr u r s t) where
    pub since : Upto o u
    since = record { cells = omega (arith, a.taken); bytes = omega (arith, a.bytes_counted) }

    -- an operand ran
    pub fill-run : (c : Counts) (q : Rooms) (e : Trace) → Keeps u c r q → Logged e L u c q → Filling B (Live L u c) o n rc (tr ++ e) c q s t
    fill-run c q e k w =
        record {
          begun = move l src a.begun k;
          sub = sub';
          hole = hole';
          filled = frame-cells L M r q kept rc Cells.Evaluation o.cells a.filled;
          inside = a.inside;
          taken = omega (arith, a.taken, k.grows.cells);
          nulls = λ i f g. low-cell u c r q k i (omega (arith, a.taken)) ∙ a.nulls i f g;
          built = subst (λ vs. StandsCells vs M q Cells.Evaluation (o.cells + n)) (sym (cells-append tr e)) (stands-join M q (cells_built tr) (cells_built e) Cells.Evaluation (o.cells + n) (frame-cells L M r q kept (cells_built tr) Cells.Evaluation (o.cells + n) a.built) (subst (λ i. StandsCells (cells_built e) M q Cells.Evaluation i) (sym a.counted) w.cells));
          counted = omega (arith, ap count (cells-append tr e), join-count (cells_built tr) (cells_built e), a.counted, w.counted);
          bytes = subst (λ z. part q.text o.bytes (length z) ≡ z) (sym (text-append tr e)) (ap (part q.text o.bytes) (length-append (text_built tr) (text_built e)) ∙ part-add q.text o.bytes (length (text_built tr)) (length (text_built e)) ∙ ap₂ (λ x y. x ++ y) (part_same u.bytes o.bytes (length (text_built tr)) r.text q.text (omega (arith, a.bytes_counted)) k.text_low ∙ a.bytes) (ap (λ i. part q.text i (length (text_built e))) a.bytes_counted ∙ w.bytes));
          bytes_counted = omega (arith, ap length (text-append tr e), length-append (text_built tr) (text_built e), a.bytes_counted, w.bytes_counted);
        }
      where
        M : Alive
        M = Live L u c

        kept : Agrees L M r q
        kept = keeps-agrees L u c r q a.begun.below k

        widen : (space : CellSpace) (i : ℕ) → (Live B o u).cells space i → (Live B o c).cells space i
        widen space i (inl y) = inl y
        widen space i (inr y) = inr (y.0, y.1, omega (arith, y.2, k.grows.cells))

        sub' : (space : CellSpace) (i : ℕ) → M.cells space i → (Live B o c).cells space i
        sub' space i (inl y) = widen space i (a.sub space i y)
        sub' space i (inr y) = inr (y.0, omega (arith, a.taken, y.1), y.2)

        hole' : (i : ℕ) → M.cells Cells.Evaluation i → o.cells + count rc ≤ i → i < o.cells + n → ⊥
        hole' i (inl y) f g = a.hole i y f g
        hole' i (inr y) f g = omega (arith, a.taken, y.1)

    -- steps were charged
    pub fill-walked : (k : ℕ) → Filling B L o n rc tr (walked u k) r s t
    fill-walked k =
        record {
          begun = start-walked l src a.begun k;
          sub = a.sub;
          hole = a.hole;
          filled = a.filled;
          inside = a.inside;
          taken = a.taken;
          nulls = a.nulls;
          built = a.built;
          counted = a.counted;
          bytes = a.bytes;
          bytes_counted = a.bytes_counted;
        }

    -- a value is stored in the next cell
    module _ (m : Value) (v : Meaning.Value) (h : Stands v L r m) (w : Fits m) (free : count rc < n) where
      abbrev next : ℕ
      next = o.cells + count rc

      outside : (i : ℕ) → L.cells Cells.Evaluation i → i ≡ next → ⊥
      outside i y e = a.hole i y (omega arith) (omega arith)

      pub stored-agrees : Agrees L (Stored L next) r (written r next m)
      stored-agrees = store-agrees L r next m outside

      cell-there : next < length r.cells / 2
      cell-there = omega (arith, a.taken, a.begun.roomy.cells)

      pub stored-keeps : (hi : Counts) → Upto u hi → Roomy hi r → Keeps o hi r (written r next m)
      stored-keeps hi g f = store_keeps o hi r next m (omega arith) (omega (arith, a.taken, g.cells)) (upto-then o u hi since g) f w

      pub fill-store : Filling B (Stored L next) o n (join rc (cons v nil)) tr u (written r next m) s t
      fill-store =
          record {
            begun = record {
              below = record { cells = below; bytes = a.begun.below.bytes };
              cell_limit = ap (λ z. min (z / 2) most_cells) kept.sized ∙ a.begun.cell_limit;
              text_limit = a.begun.text_limit;
              literals = a.begun.literals;
              roomy = roomy-same u r q kept.sized refl a.begun.roomy;
              fitting = kept.fitting a.begun.fitting;
              scope = scope-frame L N r q stored-agrees t s a.begun.scope;
            };
            sub = sub';
            hole = hole';
            filled = stands-join N q rc (cons v nil) Cells.Evaluation o.cells (frame-cells L N r q stored-agrees rc Cells.Evaluation o.cells a.filled) (unfold Stands in (inr (refl, refl), subst (λ x. Stands v N q x) (sym (store_same r next m cell-there w)) (frame L N r q stored-agrees v (settled m) (settled-stands L r v m w h)), tt));
            inside = omega (arith, longer);
            taken = a.taken;
            nulls = λ i f g. store_other r next i m (apart i f) ∙ a.nulls i (omega (arith, longer)) g;
            built = frame-cells L N r q stored-agrees (cells_built tr) Cells.Evaluation (o.cells + n) a.built;
            counted = a.counted;
            bytes = a.bytes;
            bytes_counted = a.bytes_counted;
          }
        where
          q : Rooms
          q = written r next m

          N : Alive
          N = Stored L next

          kept : Keeps o u r q
          kept = stored-keeps u (upto-same u) a.begun.roomy

          longer : count (join rc (cons v nil)) ≡ count rc + 1
          longer = join-count rc (cons v nil) ∙ unfold count in refl

          below : (i : ℕ) → N.cells Cells.Evaluation i → i < u.cells
          below i (inl y) = a.begun.below.cells i y
          below i (inr e) = omega (arith, a.taken, e.1)

          sub' : (space : CellSpace) (i : ℕ) → N.cells space i → (Live B o u).cells space i
          sub' space i (inl y) = a.sub space i y
          sub' space i (inr e) = inr (e.0, omega (arith, e.1), omega (arith, a.taken, e.1))

          hole' : (i : ℕ) → N.cells Cells.Evaluation i → o.cells + count (join rc (cons v nil)) ≤ i → i < o.cells + n → ⊥
          hole' i (inl y) f g = a.hole i y (omega (arith, longer)) g
          hole' i (inr e) f g = omega (arith, longer, e.1)

          apart : (i : ℕ) → o.cells + count (join rc (cons v nil)) ≤ i → i ≡ next → ⊥
          apart i f e = omega (arith, longer)

    -- what was built since o: the record's cells, then what its operands built
    pub so_far : Logged (cells (pad n rc) ∷ tr) B o u r
    so_far =
        record {
          cells = unfold cells_built in stands-join M r (pad n rc) (cells_built tr) Cells.Evaluation o.cells own (subst (λ i. StandsCells (cells_built tr) M r Cells.Evaluation (o.cells + i)) (sym (pad-count n rc)) (frame-cells L M r r wide (cells_built tr) Cells.Evaluation (o.cells + n) a.built));
          counted = unfold cells_built in omega (arith, join-count (pad n rc) (cells_built tr), pad-count n rc, a.counted);
          bytes = unfold text_built in a.bytes;
          bytes_counted = unfold text_built in a.bytes_counted;
        }
      where
        M : Alive
        M = Live B o u

        wide : Agrees L M r r
        wide = agrees-sub L M r a.sub a.begun.below.bytes

        left : (z : ℕ) × (count rc + z ≡ n)
        left = rest_of (count rc) n a.inside

        own : StandsCells (pad n rc) M r Cells.Evaluation o.cells
        own =
            subst (λ vs. StandsCells vs M r Cells.Evaluation o.cells) (sym (pad-split rc n left.0 left.1))
            (stands-join M r rc (pad left.0 nil) Cells.Evaluation o.cells (frame-cells L M r r wide rc Cells.Evaluation o.cells a.filled)
            (null_cells M r left.0 (o.cells + count rc) (λ i f g. inr (refl, omega arith, omega (arith, left.1, a.taken))) (λ i f g. a.nulls i f (omega (arith, left.1)))))

  -- just taken: nothing is ready
  pub empty-filling : {L : Alive} {u : Counts} {r : Rooms} {s : Scope} {t : Comprehension.Scope} → Start l src L u r s t → (n : ℕ) (f : Roomy (took u n) r) → Filling L L u n nil [] (took u n) (Taking.taken u n r f) s t
  unfolding count Stands cells_built text_built
  empty-filling {L} {u} {r} {s} {t} a n f =
      record {
        begun = record {
          below = record { cells = λ i y. wide i (a.below.cells i y); bytes = a.below.bytes };
          cell_limit = moved.cell_limit;
          text_limit = moved.text_limit;
          literals = moved.literals;
          roomy = moved.roomy;
          fitting = moved.fitting;
          scope = scope-frame L L r q (agrees-narrow L (Live L u (took u n)) r q (keeps-agrees L u (took u n) r q a.below k)) t s a.scope;
        };
        sub = λ space i y. inl y;
        hole = λ i y z z'. clash i (a.below.cells i y) z;
        filled = tt;
        inside = omega arith;
        taken = omega arith;
        nulls = λ i y z. taken-null u n r f i (omega arith) z;
        built = tt;
        counted = omega arith;
        bytes = refl;
        bytes_counted = omega arith;
      }
    where
      q : Rooms
      q = Taking.taken u n r f

      k : Keeps u (took u n) r q
      k = taken-keeps u n r f

      moved : Start l src (Live L u (took u n)) (took u n) q s t
      moved = move l src a k

      wide : (i : ℕ) → i < u.cells → i < u.cells + n
      wide i y = omega arith

      clash : (i : ℕ) → i < u.cells → u.cells + 0 ≤ i → ⊥
      clash i y z = omega arith
